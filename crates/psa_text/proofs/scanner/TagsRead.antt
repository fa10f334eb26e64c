-- Tags are read in spans as byte by byte.
use Rattle.std.specs.Prelude.{◌≡◌, ℕ, ◌+◌, ◌≤◌, ◌<◌, true, false, ◌==◌, nat_lt, nat_le, List, [], ◌∷◌, ◌++◌, length, Some}
use Rattle.std.specs.Str.{is_utf8}
use Rattle.std.proofs.Common.{refl, sym, ◌∙◌, ap, arith, add-zero, append_assoc, append-nil, length-append}
use Rattle.std.proofs.lemmas.Bool.Decides.{nat_tests}
use Rattle.psa_text.specs.declared.tag.Tag.{Tag}
use Rattle.psa_text.specs.TextBytes.{AllPass, IsName, is_blank, is_name_byte, is_name_start, is_quote, spaced, trimmed}
use Rattle.psa_text.specs.TextItems.{with_attribute}
use Rattle.psa_text.specs.scanner.Machine.{Lex, Opened, EndOpened, Name, EndName, Gap, Slash, AttributeName, Equals, Value, Behind}
use Rattle.psa_text.specs.scanner.View.{Held, On, judgement, lex_of}
use Rattle.psa_text.specs.declared.tree.Attribute.{Attribute}
use Rattle.psa_text.specs.declared.scanner.place.Place.TheVariants as place
use Rattle.psa_text.specs.scanner.Spans.{IsBehind, IsBehindBlank, IsNameAt, IsValueAt, ReadsWithin, is_plain, state_after_within}
use Rattle.psa_text.proofs.scanner.SpansRead.{within-append, within_none, within_then, behind_same}

-- one byte, and what is read behind it
pub within_first : (p q r : Lex) (b : ℕ) (bytes rest more : List ℕ) → bytes ≡ b ∷ rest → judgement p b ≡ On q
    → ReadsWithin false q rest r more → ReadsWithin false p bytes r more
within_first p q r b bytes rest more is goes h = record
    { span = b ∷ h.span; joined = is ∙ ap (λ xs. b ∷ xs) h.joined; leads = rw goes h.leads }

-- bytes that lead on, and what is read behind them
within_run : (p q r : Lex) (u bytes rest : List ℕ) → state_after_within false p u ≡ Some q
    → ReadsWithin false q bytes r rest → ReadsWithin false p (u ++ bytes) r rest
within_run p q r u bytes rest leads h = record {
  span = u ++ h.span;
  joined = ap (λ xs. u ++ xs) h.joined ∙ sym (append_assoc u h.span rest);
  leads = within-append false u h.span p q r leads h.leads;
}

fits : (n : List ℕ) (b : ℕ) → length n < 64 → nat_lt 64 (length (n ++ (b ∷ []))) ≡ false
fits n b h = rw (length-append n (b ∷ [])) (grind (arith, nat_tests, h))

few : (tag : Tag) → length tag.attributes < 32 → nat_le 32 (length tag.attributes) ≡ false
few tag h = grind (arith, nat_tests, h)

in_tag : (n : List ℕ) (b : ℕ) → is_name_byte b ≡ true → length n < 64
    → judgement (Name n) b ≡ On (Name (n ++ (b ∷ [])))
in_tag n b e h = rw (e, fits n b h) refl

in_end : (n : List ℕ) (b : ℕ) → is_name_byte b ≡ true → length n < 64
    → judgement (EndName n) b ≡ On (EndName (n ++ (b ∷ [])))
in_end n b e h = rw (e, fits n b h) refl

in_attribute : (tag : Tag) → length tag.attributes < 32 → (n : List ℕ) (b : ℕ) → is_name_byte b ≡ true → length n < 64
    → judgement (AttributeName tag n) b ≡ On (AttributeName tag (n ++ (b ∷ [])))
in_attribute tag room n b e h = rw (e, fits n b h, few tag room) refl

-- the further bytes of a name
names : (at : List ℕ → Lex)
    → ((n : List ℕ) (b : ℕ) → is_name_byte b ≡ true → length n < 64 → judgement (at n) b ≡ On (at (n ++ (b ∷ []))))
    → (n more : List ℕ) → AllPass is_name_byte more → length n + length more ≤ 64
    → state_after_within false (at n) more ≡ Some (at (n ++ more))
names at goes n [] passes short = rw (append-nil n) refl
names at goes n (b ∷ bs) passes short =
    rw (goes n b passes.0 (omega (arith, short)))
    (names at goes (n ++ (b ∷ [])) bs passes.1 (omega (arith, short, length-append n (b ∷ [])))
    ∙ ap (λ xs. Some (at xs)) (append_assoc n (b ∷ []) bs))

-- a whole name, of a tag or an attribute
name_run : (before : Lex) (at : List ℕ → Lex)
    → ((b : ℕ) → is_name_start b ≡ true → judgement before b ≡ On (at (b ∷ [])))
    → ((n : List ℕ) (b : ℕ) → is_name_byte b ≡ true → length n < 64 → judgement (at n) b ≡ On (at (n ++ (b ∷ []))))
    → (name : List ℕ) → IsName name → length name ≤ 64 → state_after_within false before name ≡ Some (at name)
name_run before at begins goes [] is short = absurd is
name_run before at begins goes (b ∷ bs) is short = rw (begins b is.0)
    (names at goes (b ∷ []) bs is.1 (omega (arith, short)))

-- the name of a start or empty tag
pub start_name : (bytes name rest : List ℕ) → IsNameAt bytes name rest
    → ReadsWithin false Opened bytes (Name name) rest
start_name bytes name rest h = record {
  span = name;
  joined = h.joined;
  leads = name_run Opened Name
      (λ b e. rw e refl) in_tag name h.is_name h.short;
}

-- the name of an end tag
pub end_name : (bytes name rest : List ℕ) → IsNameAt bytes name rest
    → ReadsWithin false EndOpened bytes (EndName name) rest
end_name bytes name rest h = record {
  span = name;
  joined = h.joined;
  leads = name_run EndOpened EndName
      (λ b e. rw e refl) in_end name h.is_name h.short;
}

blank_no_name : (b : ℕ) → is_blank b ≡ true → is_name_byte b ≡ false
blank_no_name b h = grind (arith, nat_tests, h)

blank_other : (b : ℕ) → is_blank b ≡ true → ((b == 62) ≡ false) × ((b == 47) ≡ false)
blank_other b h = (grind (arith, nat_tests, h), grind (arith, nat_tests, h))

-- a blank behind the name of a tag
pub name_blank : (name : List ℕ) (b : ℕ) → is_utf8 name ≡ true → is_blank b ≡ true
    → judgement (Name name) b ≡ On (Gap (record { name = name; attributes = [] }))
name_blank name b text h = rw (blank_no_name b h, text, (blank_other b h).0, (blank_other b h).1, h) refl

-- a slash behind the name of a tag
pub name_slash : (name : List ℕ) → is_utf8 name ≡ true
    → judgement (Name name) 47 ≡ On (Slash (record { name = name; attributes = [] }))
name_slash name text = rw text refl

-- a blank behind an attribute
pub behind_blank : (tag : Tag) (b : ℕ) → is_blank b ≡ true → judgement (Behind tag) b ≡ On (Gap tag)
behind_blank tag b h = rw ((blank_other b h).0, (blank_other b h).1, h) refl

blank_no_start : (b : ℕ) → is_blank b ≡ true → is_name_start b ≡ false
blank_no_start b h = grind (arith, nat_tests, h)

-- blanks behind a blank of a tag
pub gap_blanks : (tag : Tag) (bytes rest : List ℕ) → IsBehind is_blank bytes rest
    → ReadsWithin false (Gap tag) bytes (Gap tag) rest
gap_blanks tag bytes rest h = behind_same false (Gap tag) is_blank bytes rest
    (λ b e. (refl, rw (blank_no_start b e, (blank_other b e).0, (blank_other b e).1, e) refl)) h

quote_no_blank : (quote : ℕ) → is_quote quote ≡ true → is_blank quote ≡ false
quote_no_blank quote h = grind (arith, nat_tests, h)

same_byte : (b : ℕ) → (b == b) ≡ true
same_byte b = grind (arith, nat_tests)

plain_quote : (quote b : ℕ) → is_plain quote b ≡ true → (b == quote) ≡ false
plain_quote quote b h = grind (arith, nat_tests, h)

plain_ampersand : (quote b : ℕ) → is_plain quote b ≡ true → (b == 38) ≡ false
plain_ampersand quote b h = grind (arith, nat_tests, h)

plain_less : (quote b : ℕ) → is_plain quote b ≡ true → (b == 60) ≡ false
plain_less quote b h = grind (arith, nat_tests, h)

plain_spaced : (quote b : ℕ) → is_plain quote b ≡ true → spaced b ≡ b
plain_spaced quote b h = grind (arith, nat_tests, h)

counted : (count : ℕ) → count < 512 → nat_lt 512 (count + 1) ≡ false
counted count h = grind (arith, nat_tests, h)

module _ (tag : Tag) (name : List ℕ) (quote : ℕ) where
  abbrev value_with : ℕ → List ℕ → Lex
  value_with count value = Value (record { tag = tag; name = name; quote = quote; count = count; value = value })

  in_value : (count : ℕ) (value : List ℕ) (b : ℕ) → is_plain quote b ≡ true → count < 512
      → judgement (value_with count value) b ≡ On (value_with (count + 1) (value ++ (b ∷ [])))
  in_value count value b h short = rw (
    plain_quote quote b h,
    plain_ampersand quote b h,
    plain_less quote b h,
    plain_spaced quote b h,
    counted count short,
  ) refl

  -- the bytes of a value that stand for themselves
  values : (count : ℕ) (value more : List ℕ) → AllPass (is_plain quote) more → count + length more ≤ 512
      → state_after_within false (value_with count value) more ≡ Some (value_with (count + length more) (value ++ more))
  values count value [] passes short = rw (append-nil value, add-zero count) refl
  values count value (b ∷ bs) passes short =
      rw (in_value count value b passes.0 (omega (arith, short)))
      (values (count + 1) (value ++ (b ∷ [])) bs passes.1 (omega (arith, short))
      ∙ ap (λ xs. Some (value_with (count + 1 + length bs) xs)) (append_assoc value (b ∷ []) bs)
      ∙ ap (λ n. Some (value_with n (value ++ (b ∷ bs)))) more)
    where
      more : count + 1 + length bs ≡ count + length (b ∷ bs)
      more = omega arith

  closed : (count : ℕ) (value : List ℕ) → is_utf8 (trimmed value) ≡ true
      → judgement (value_with count value) quote ≡ On (Behind (with_attribute tag name value))
  closed count value text = rw (same_byte quote, text) refl

  equals : is_utf8 name ≡ true → judgement (AttributeName tag name) 61 ≡ On (Equals tag name)
  equals text = rw text refl

  quoted : is_quote quote ≡ true → judgement (Equals tag name) quote ≡ On (value_with 0 [])
  quoted h = rw (quote_no_blank quote h, h) refl

-- a whole attribute whose value is plain
pub attribute_read : (tag : Tag) (quote : ℕ) (bytes name behind opened inside value rest : List ℕ)
    → length tag.attributes < 32 → IsNameAt bytes name behind → behind ≡ 61 ∷ opened → opened ≡ quote ∷ inside
    → is_quote quote ≡ true → IsValueAt quote inside value rest
    → is_utf8 name ≡ true → is_utf8 (trimmed value) ≡ true
    → ReadsWithin false (Gap tag) bytes (Behind (with_attribute tag name value)) rest
attribute_read tag quote bytes name behind opened inside value rest room named equal begun quotes valued text
    value_text =
    within_then false (Gap tag) (AttributeName tag name) end bytes behind rest
    (record {
      span = name;
      joined = named.joined;
      leads = name_run (Gap tag) (AttributeName tag)
          (λ b e. rw (e, few tag room) refl) (in_attribute tag room) name named.is_name named.short;
    })
    (within_first (AttributeName tag name) (Equals tag name) end 61 behind opened rest equal
    (equals tag name quote text)
    (within_first (Equals tag name) (value_with tag name quote 0 []) end quote opened inside rest begun
    (quoted tag name quote quotes)
    (within_then false (value_with tag name quote 0 []) (value_with tag name quote (0 + length value) value) end
    inside (quote ∷ rest) rest
    (record {
      span = value;
      joined = valued.joined;
      leads = values tag name quote 0 [] value valued.plain
          (omega (arith, valued.short));
    })
    (within_first (value_with tag name quote (0 + length value) value) end end quote (quote ∷ rest) rest rest refl
    (closed tag name quote (0 + length value) value value_text)
    (within_none false end rest)))))
  where
    end : Lex
    end = Behind (with_attribute tag name value)

-- the same as the lexer holds it
pub attribute_held : (old now : Held) (made : Attribute) (quote : ℕ)
    (bytes name behind opened inside value rest : List ℕ)
    → old.place ≡ place.Gap
    → now ≡ record old { place = place.Behind; tag = record old.tag { attributes = old.tag.attributes ++ made ∷ [] } }
    → made.name ≡ name → made.value ≡ trimmed value → length old.tag.attributes < 32 → IsNameAt bytes name behind
    → behind ≡ 61 ∷ opened → opened ≡ quote ∷ inside → is_quote quote ≡ true → IsValueAt quote inside value rest
    → is_utf8 name ≡ true → is_utf8 (trimmed value) ≡ true
    → (now.place ≡ place.Behind) × ReadsWithin false (lex_of old) bytes (lex_of now) rest
attribute_held old now made quote bytes name behind opened inside value rest at_gap is named_so valued_so room named
    equal begun quotes valued text value_text = (
      ap (λ (h : Held). h.place) is,
      rw (at_gap, is) (rw (named_so, valued_so) (attribute_read old.tag quote bytes name behind opened inside value rest
          room named equal begun quotes valued text value_text)),
    )

-- the blanks behind what was read
pub blanks_behind : (s : Held) (from : Lex) (all bytes rest : List ℕ) → s.place ≡ place.Gap
    → ReadsWithin false from all (lex_of s) bytes → IsBehind is_blank bytes rest
    → ReadsWithin false from all (lex_of s) rest
blanks_behind s from all bytes rest at_gap before blanks = within_then false from (lex_of s) (lex_of s) all bytes rest
    before (rw at_gap (gap_blanks s.tag bytes rest blanks))

-- the same and an attribute
pub further : (s t : Held) (from : Lex) (all bytes behind rest : List ℕ) → s.place ≡ place.Gap
    → ReadsWithin false from all (lex_of s) bytes → IsBehind is_blank bytes behind
    → ReadsWithin false (lex_of s) behind (lex_of t) rest → ReadsWithin false from all (lex_of t) rest
further s t from all bytes behind rest at_gap before blanks read = within_then false from (lex_of s) (lex_of t) all
    behind rest (blanks_behind s from all bytes behind at_gap before blanks) read

-- the same and a blank
pub further_blank : (t : Held) (from : Lex) (all rest more : List ℕ) → t.place ≡ place.Behind
    → ReadsWithin false from all (lex_of t) rest → IsBehindBlank rest more
    → ReadsWithin false from all (Gap t.tag) more
further_blank t from all rest more behind before blank =
    within_then false from (Behind t.tag) (Gap t.tag) all rest more (rw behind at before)
    (within_first (Behind t.tag) (Gap t.tag) (Gap t.tag) blank.byte rest more more blank.joined
    (behind_blank t.tag blank.byte blank.blank) (within_none false (Gap t.tag) more))

-- the same and a slash
pub further_slash : (t : Held) (from : Lex) (all rest more : List ℕ) → t.place ≡ place.Behind
    → ReadsWithin false from all (lex_of t) rest → rest ≡ 47 ∷ more → ReadsWithin false from all (Slash t.tag) more
further_slash t from all rest more behind before slash =
    within_then false from (Behind t.tag) (Slash t.tag) all rest more (rw behind at before)
    (within_first (Behind t.tag) (Slash t.tag) (Slash t.tag) 47 rest more more slash refl
    (within_none false (Slash t.tag) more))
