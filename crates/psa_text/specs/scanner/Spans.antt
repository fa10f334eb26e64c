-- Bytes that a scanner reads in one go: those that stay within the item under way, and texts that change nothing but
-- the counts.
use Rattle.std.specs.Prelude.{◌≡◌, ℕ, ◌+◌, ◌≤◌, Bool, true, false, if◌then◌else◌, not, ◌==◌, ◌||◌, ◌&&◌, List, [], ◌∷◌, ◌++◌, length, count_by, Option, Some, None, Ok}
use Rattle.std.specs.Str.{is_utf8}
use Rattle.psa_text.specs.TextBytes.{AllPass, IsName, is_blank}
use Rattle.psa_text.specs.scanner.Machine.{Lex, begins_tag}
use Rattle.psa_text.specs.scanner.View.{Held, Judged, IsBad, IsLong, On, Done, judgement, lex_of}
use Rattle.psa_text.specs.declared.scanner.Scanner.{Scanner}
use Rattle.psa_text.specs.declared.scanner.place.Place.TheVariants as place
use Rattle.psa_text.specs.declared.limits.TheConstants.{MAX_NAME_BYTES, MAX_VALUE_BYTES}
use Rattle.psa_text.specs.scanner.State.{Scan, scan_of, scan_after_bytes}
use Rattle.psa_text.specs.NamedBytes.{tab, line_feed, carriage_return, ampersand, less_than}

-- where the machine stands after bytes that stay within the item under way; None where one of them does not, or begins
-- an element where the text is full of them
abbrev pub and_within : Judged → (Lex → Option Lex) → Option Lex
and_within (On q) f = f q
and_within (Done item) f = None
and_within IsBad f = None
and_within IsLong f = None

abbrev pub state_after_within : Bool → Lex → List ℕ → Option Lex
state_after_within full p [] = Some p
state_after_within full p (b ∷ bs) = if full && begins_tag p b then None else and_within (judgement p b)
    (λ q. state_after_within full q bs)

-- Of the bytes those in front of the rest stay within the item, and lead the machine on.
pub record ReadsWithin (full : Bool) (old : Lex) (bytes : List ℕ) (now : Lex) (rest : List ℕ) : Type 0 where
  pub span : List ℕ
  pub joined : bytes ≡ span ++ rest
  pub leads : state_after_within full old span ≡ Some now

-- A byte is taken, and the machine stays within the item; or it is left.
abbrev pub Takes : ℕ → Held → Held → Bool → Type 0
Takes b old now true = (begins_tag (lex_of old) b ≡ false) × (judgement (lex_of old) b ≡ On (lex_of now)) ×
    (now.place ≡ old.place)
Takes b old now false = now ≡ old

-- Of the bytes those in front of the rest are read, and none decides a fault.
pub record ReadsSpan (old : Scan) (bytes : List ℕ) (now : Scan) (rest : List ℕ) : Type 0 where
  pub span : List ℕ
  pub joined : bytes ≡ span ++ rest
  pub read : scan_after_bytes old span ≡ Ok now

-- Of the bytes those in front of the rest pass a test.
pub record IsBehind (test : ℕ → Bool) (bytes rest : List ℕ) : Type 0 where
  pub span : List ℕ
  pub joined : bytes ≡ span ++ rest
  pub passes : AllPass test span

-- a byte that a value turns into a space, that begins a reference, or that no value holds
abbrev pub is_turned : ℕ → Bool
is_turned b = (b == less_than) || (b == ampersand) || (b == tab) || (b == line_feed) || (b == carriage_return)

-- a byte that stands for itself in a value between these quotes
abbrev pub is_plain : ℕ → ℕ → Bool
is_plain quote b = not ((b == quote) || is_turned b)

-- Of the bytes the one in front of the rest is blank.
pub record IsBehindBlank (bytes rest : List ℕ) : Type 0 where
  pub byte : ℕ
  pub joined : bytes ≡ byte ∷ rest
  pub blank : is_blank byte ≡ true

-- Of the bytes those in front of the rest are a name that is not too long.
pub record IsNameAt (bytes name rest : List ℕ) : Type 0 where
  pub joined : bytes ≡ name ++ rest
  pub is_name : IsName name
  pub short : length name ≤ MAX_NAME_BYTES

-- Of the bytes those in front of a quote stand for themselves in a value, and are not too many.
pub record IsValueAt (quote : ℕ) (bytes value rest : List ℕ) : Type 0 where
  pub joined : bytes ≡ value ++ (quote ∷ rest)
  pub plain : AllPass (is_plain quote) value
  pub short : length value ≤ MAX_VALUE_BYTES

-- The name of a tag is whole, where it is text.
abbrev pub BeginsTag : Held → Held → Bool → Type 0
BeginsTag old now true = (is_utf8 old.name ≡ true) × (now ≡ record old
    { tag = record { name = old.name; attributes = [] } })
BeginsTag old now false = now ≡ old

-- An attribute is read whole, or nothing is.
abbrev pub ReadsAttribute : Held → List ℕ → Held → Option (List ℕ) → Type 0
ReadsAttribute old bytes now (Some rest) = (now.place ≡ place.Behind) × ReadsWithin false (lex_of old) bytes
    (lex_of now) rest
ReadsAttribute old bytes now None = now ≡ old

-- any byte but one
abbrev pub is_other : ℕ → ℕ → Bool
is_other stop b = not (b == stop)

-- the texts that change nothing but the counts: any in a label, else blanks
abbrev pub is_quiet : Bool → ℕ → Bool
is_quiet true b = is_other less_than b
is_quiet false b = is_blank b

-- the line after further bytes
abbrev pub line_after_bytes : ℕ → List ℕ → ℕ
line_after_bytes line bytes = line + count_by (λ b. b == line_feed) bytes

-- Bytes and their lines are counted.
pub record CountsAll (bytes : List ℕ) (old now : Scanner) : Type 0 where
  pub scan : scan_of now ≡ record (scan_of old) {
    count = old.count + length bytes;
    line = line_after_bytes old.line
        bytes;
  }
  pub failed : now.failed ≡ old.failed
