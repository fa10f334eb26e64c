-- What the scanner's types show: the state of the machine that they stand for, and what a byte does to it.
use Rattle.std.specs.Prelude.{◌≡◌, ℕ, ◌+◌, ◌^◌, ◌<◌, ◌≤◌, true, false, if◌then◌else◌, List, [], ◌∷◌, ◌++◌, length, drop, Option, Some, None, Result, Ok, Err, encode_utf8, codes}
use Rattle.std.specs.Str.{is_utf8}
use Rattle.psa_text.specs.declared.tag.Tag.{Tag}
use Rattle.psa_text.specs.declared.scanner.item.Item.{Item}
use Rattle.psa_text.specs.declared.scanner.place.Place.{Place}
use Rattle.psa_text.specs.declared.scanner.place.Place.TheVariants as place
use Rattle.psa_text.specs.declared.scanner.place.Reference.{Reference}
use Rattle.psa_text.specs.declared.scanner.place.Reference.TheVariants as refer
use Rattle.psa_text.specs.declared.scanner.place.Entity.{Entity}
use Rattle.psa_text.specs.declared.scanner.place.Entity.TheVariants as entity
use Rattle.psa_text.specs.declared.scanner.lexer.TokenError.{TokenError}
use Rattle.psa_text.specs.declared.scanner.lexer.TokenError.TheVariants.{Bad, Long, Memory}
use Rattle.psa_text.specs.TextBytes.{is_character, trimmed}
use Rattle.psa_text.specs.TextItems.{bytes_of_reference, with_attribute}
use Rattle.psa_text.specs.scanner.Machine as machine
use Rattle.psa_text.specs.NamedBytes.{quotation_mark, ampersand, apostrophe, less_than, greater_than}
use Rattle.psa_text.specs.declared.limits.TheConstants.{MAX_ATTRIBUTES, MAX_NAME_BYTES, MAX_REFERENCE_DIGITS, MAX_VALUE_BYTES}

abbrev pub entity_letters : Entity → List ℕ
entity_letters entity.Less = codes "t"
entity_letters entity.Greater = codes "t"
entity_letters entity.Ampersand = codes "p"
entity_letters entity.Quotation = codes "uot"
entity_letters entity.Apostrophe = codes "os"

abbrev pub entity_character : Entity → ℕ
entity_character entity.Less = less_than
entity_character entity.Greater = greater_than
entity_character entity.Ampersand = ampersand
entity_character entity.Quotation = quotation_mark
entity_character entity.Apostrophe = apostrophe

-- what the lexer holds
pub record Held : Type 0 where
  pub place : Place
  pub name : List ℕ
  pub tag : Tag
  pub named : List ℕ
  pub quote : ℕ
  pub count : ℕ
  pub value : List ℕ
  pub number : ℕ

abbrev pub inside_of : Held → machine.Inside
inside_of h = record { tag = h.tag; name = h.named; quote = h.quote; count = h.count; value = h.value }

abbrev pub reference_at : Reference → ℕ → machine.Reference
reference_at refer.Ampersand number = machine.Ampersand
reference_at refer.LetterA number = machine.LetterA
reference_at (refer.Named e read) number = machine.Named (drop read (entity_letters e)) (entity_character e)
reference_at refer.NumberSign number = machine.NumberSign
reference_at (refer.Decimal digits) number = machine.Digits 10 digits number
reference_at (refer.Hexadecimal digits) number = machine.Digits 16 digits number

abbrev pub lex_at : Place → Held → machine.Lex
lex_at place.Between h = machine.Between
lex_at place.Opened h = machine.Opened
lex_at place.Instruction h = machine.InInstruction
lex_at place.Question h = machine.Question
lex_at place.Bang h = machine.Bang
lex_at place.BangDash h = machine.BangDash
lex_at place.Comment h = machine.InComment
lex_at place.Dash h = machine.Dash
lex_at place.DashDash h = machine.DashDash
lex_at (place.Word read) h = machine.Word (drop read machine.doctype_letters)
lex_at place.Doctype h = machine.InDoctype
lex_at place.Name h = machine.Name h.name
lex_at place.Gap h = machine.Gap h.tag
lex_at place.Slash h = machine.Slash h.tag
lex_at place.AttributeName h = machine.AttributeName h.tag h.name
lex_at place.AttributeGap h = machine.AttributeGap h.tag h.named
lex_at place.Equals h = machine.Equals h.tag h.named
lex_at place.Value h = machine.Value (inside_of h)
lex_at (place.Refer r) h = machine.Refer (inside_of h) (reference_at r h.number)
lex_at place.Behind h = machine.Behind h.tag
lex_at place.EndOpened h = machine.EndOpened
lex_at place.EndName h = machine.EndName h.name
lex_at place.EndGap h = machine.EndGap h.name

-- the state of the machine
abbrev pub lex_of : Held → machine.Lex
lex_of h = lex_at h.place h

-- a name is under way
abbrev pub IsInName : Place → Type 0
IsInName place.Name = Unit {0}
IsInName place.AttributeName = Unit {0}
IsInName place.EndName = Unit {0}
IsInName _ = ⊥

-- what the arrays and counts have room for, in a reference and at a place
abbrev pub HasReferenceRoom : Reference → Held → Type 0
HasReferenceRoom (refer.Decimal digits) h = (length h.value + 2 + digits ≤ h.count) × (digits ≤ MAX_REFERENCE_DIGITS) × (h.number < 16 ^ digits)
HasReferenceRoom (refer.Hexadecimal digits) h = (length h.value + 3 + digits ≤ h.count) × (digits ≤ MAX_REFERENCE_DIGITS) × (h.number < 16 ^ digits)
HasReferenceRoom refer.LetterA h = length h.value + 2 ≤ h.count
HasReferenceRoom refer.NumberSign h = length h.value + 2 ≤ h.count
HasReferenceRoom (refer.Named e read) h = length h.value + 2 + read ≤ h.count
HasReferenceRoom refer.Ampersand h = length h.value + 1 ≤ h.count

abbrev pub HasPlaceRoom : Place → Held → Type 0
HasPlaceRoom place.AttributeName h = length h.tag.attributes < MAX_ATTRIBUTES
HasPlaceRoom place.Value h = length h.value ≤ h.count
HasPlaceRoom (place.Refer r) h = HasReferenceRoom r h
HasPlaceRoom p h = Unit {0}

pub record HasRoom (h : Held) : Type 0 where
  pub place : HasPlaceRoom h.place h
  pub count : h.count ≤ MAX_VALUE_BYTES

-- what a byte does, with the limits: it is refused as bad, or as the byte that is one too many; the machine goes on;
-- or an item is whole
pub data Judged : Type 0 where
  IsBad : Judged
  IsLong : Judged
  On : machine.Lex → Judged
  Done : Item → Judged

abbrev pub judgement_of : machine.Next → Judged
judgement_of machine.Broken = IsBad
judgement_of (machine.Within q) = if machine.is_long q then IsLong else On q
judgement_of (machine.Whole item) = Done item

abbrev pub judgement : machine.Lex → ℕ → Judged
judgement p b = if machine.is_bad_end p b then IsBad else judgement_of (machine.next p b)

-- A method gives what the byte does, unless memory runs out.
abbrev pub Goes : Judged → Held → Result (Option Item) TokenError → Type 0
Goes does now (Ok None) = does ≡ On (lex_of now)
Goes does now (Ok (Some item)) = (does ≡ Done item) × (lex_of now ≡ machine.Between)
Goes does now (Err Bad) = does ≡ IsBad
Goes does now (Err Long) = does ≡ IsLong
Goes does now (Err Memory) = Unit {0}

-- the text of bytes that are UTF-8
abbrev pub IsTextOf : List ℕ → Result (List ℕ) TokenError → Type 0
IsTextOf bytes (Ok text) = (text ≡ bytes) × (is_utf8 bytes ≡ true)
IsTextOf bytes (Err Bad) = is_utf8 bytes ≡ false
IsTextOf bytes (Err Long) = ⊥
IsTextOf bytes (Err Memory) = Unit {0}

-- One more byte of the name under way.
abbrev pub PushesName : ℕ → Held → Held → Result (Option Item) TokenError → Type 0
PushesName b old now (Ok None) = (length old.name < MAX_NAME_BYTES) × (now ≡ record old { name = old.name ++ (b ∷ []) })
PushesName b old now (Ok (Some item)) = ⊥
PushesName b old now (Err Bad) = ⊥
PushesName b old now (Err Long) = length old.name ≡ MAX_NAME_BYTES
PushesName b old now (Err Memory) = ⊥

-- One more byte of a value, which leads on to a state of the machine.
abbrev pub GoesTo : machine.Lex → Held → Result (Option Item) TokenError → Type 0
GoesTo to now (Ok None) = (lex_of now ≡ to) × (machine.is_long to ≡ false)
GoesTo to now (Ok (Some item)) = ⊥
GoesTo to now (Err Bad) = ⊥
GoesTo to now (Err Long) = machine.is_long to ≡ true
GoesTo to now (Err Memory) = Unit {0}

abbrev pub Refers : Reference → ℕ → Held → Held → Result (Option Item) TokenError → Type 0
Refers r number old now result = GoesTo (machine.Refer (machine.with_byte_counted (inside_of old)) (reference_at r number)) now result

abbrev pub EndsReference : ℕ → Held → Held → Result (Option Item) TokenError → Type 0
EndsReference code old now result = GoesTo (machine.Value (machine.with_bytes (inside_of old) (encode_utf8 code))) now result

-- the `;` behind the digits of a reference
abbrev pub EndsNumber : Held → Held → Result (Option Item) TokenError → Type 0
EndsNumber old now result = Goes (if is_character old.number then judgement_of (machine.Within (machine.Value (machine.with_bytes (inside_of old) (bytes_of_reference old.number)))) else IsBad) now result

-- the closing quote of a value
abbrev pub EndsValue : Held → Held → Result (Option Item) TokenError → Type 0
EndsValue old now result = Goes (if is_utf8 (trimmed old.value) then On (machine.Behind (with_attribute old.tag old.named old.value)) else IsBad) now result
