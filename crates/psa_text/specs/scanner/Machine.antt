-- The machine that finds the items of a text byte by byte, as functions. The grammar of TextItems.antt is the
-- definition; this is how the scanner meets it. It knows no limit: those are tests of the states that it reaches.
use Rattle.std.specs.Prelude.{ℕ, ◌+◌, ◌*◌, Bool, true, false, if◌then◌else◌, not, ◌&&◌, ◌||◌, ◌==◌, nat_lt, nat_le, List, [], ◌∷◌, ◌++◌, length, codes}
use Rattle.std.specs.Str.{is_utf8}
use Rattle.psa_text.specs.declared.tag.Tag.{Tag}
use Rattle.psa_text.specs.declared.scanner.item.Item.{Item}
use Rattle.psa_text.specs.declared.scanner.item.Item.TheVariants.{Start, Empty, End, Doctype, Text, Comment, Instruction}
use Rattle.psa_text.specs.TextBytes.{is_blank, is_character, is_name_start, is_name_byte, is_quote, is_doctype_byte, is_digit_of, digit_of, spaced, trimmed}
use Rattle.psa_text.specs.TextItems.{bytes_of_reference, with_attribute}
use Rattle.psa_text.specs.NamedBytes.{quotation_mark, number_sign, ampersand, apostrophe, exclamation_mark, hyphen, slash, semicolon, less_than, equals_sign, greater_than, question_mark, upper_d, lower_a, lower_g, lower_l, lower_m, lower_p, lower_q, lower_x}
use Rattle.psa_text.specs.declared.limits.TheConstants.{MAX_ATTRIBUTES, MAX_NAME_BYTES, MAX_REFERENCE_DIGITS, MAX_VALUE_BYTES}

-- a value under way: its tag and attribute, its quote, how many bytes it has, and what they stand for
pub record Inside : Type 0 where
  pub tag : Tag
  pub name : List ℕ
  pub quote : ℕ
  pub count : ℕ
  pub value : List ℕ

-- a reference under way: behind `&`; behind `&a`; in the name of an entity, with what is to come before `;`; behind
-- `&#`; in the digits of a number, with the base, how many there are, and the number
pub data Reference : Type 0 where
  Ampersand : Reference
  LetterA : Reference
  Named : List ℕ → ℕ → Reference
  NumberSign : Reference
  Digits : ℕ → ℕ → ℕ → Reference

-- where the machine stands: each state is named by what stands before it
pub data Lex : Type 0 where
  Between : Lex
  Opened : Lex
  InInstruction : Lex
  Question : Lex
  Bang : Lex
  BangDash : Lex
  InComment : Lex
  Dash : Lex
  DashDash : Lex
  Word : List ℕ → Lex
  InDoctype : Lex
  Name : List ℕ → Lex
  Gap : Tag → Lex
  Slash : Tag → Lex
  AttributeName : Tag → List ℕ → Lex
  AttributeGap : Tag → List ℕ → Lex
  Equals : Tag → List ℕ → Lex
  Value : Inside → Lex
  Refer : Inside → Reference → Lex
  Behind : Tag → Lex
  EndOpened : Lex
  EndName : List ℕ → Lex
  EndGap : List ℕ → Lex

-- what a byte does: no item has it there; it goes on within the item; it is the item's last
pub data Next : Type 0 where
  Broken : Next
  Within : Lex → Next
  Whole : Item → Next

-- `OCTYPE`
abbrev pub doctype_letters : List ℕ
doctype_letters = codes "OCTYPE"

abbrev pub next_in_tag : Tag → ℕ → Next
next_in_tag tag b = if b == greater_than then Whole (Start tag) else if b == slash then Within (Slash tag) else if is_blank b then Within (Gap tag) else Broken

abbrev pub next_behind_name : Tag → List ℕ → ℕ → Next
next_behind_name tag name b = if is_blank b then Within (AttributeGap tag name) else if b == equals_sign then Within (Equals tag name) else Broken

abbrev pub next_behind_end : List ℕ → ℕ → Next
next_behind_end name b = if is_blank b then Within (EndGap name) else if b == greater_than then Whole (End name) else Broken

-- one more byte of the value
abbrev pub with_byte_counted : Inside → Inside
with_byte_counted v = record v { count = v.count + 1 }

abbrev pub with_bytes : Inside → List ℕ → Inside
with_bytes v bytes = record v { count = v.count + 1; value = v.value ++ bytes }

abbrev pub next_reference : Inside → Reference → Next
next_reference v r = Within (Refer (with_byte_counted v) r)

abbrev pub next_in_reference : Inside → Reference → ℕ → Next
next_in_reference v Ampersand b = if b == number_sign then next_reference v NumberSign else if b == lower_l then next_reference v (Named (codes "t") less_than) else if b == lower_g then next_reference v (Named (codes "t") greater_than) else if b == lower_q then next_reference v (Named (codes "uot") quotation_mark) else if b == lower_a then next_reference v LetterA else Broken
next_in_reference v LetterA b = if b == lower_m then next_reference v (Named (codes "p") ampersand) else if b == lower_p then next_reference v (Named (codes "os") apostrophe) else Broken
next_in_reference v (Named [] code) b = if b == semicolon then Within (Value (with_bytes v (bytes_of_reference code))) else Broken
next_in_reference v (Named (c ∷ rest) code) b = if b == c then next_reference v (Named rest code) else Broken
next_in_reference v NumberSign b = if b == lower_x then next_reference v (Digits 16 0 0) else if is_digit_of 10 b then next_reference v (Digits 10 1 (10 * 0 + digit_of b)) else Broken
next_in_reference v (Digits base count number) b = if is_digit_of base b && nat_lt count MAX_REFERENCE_DIGITS then next_reference v (Digits base (count + 1) (base * number + digit_of b)) else if (b == semicolon) && nat_lt 0 count then Within (Value (with_bytes v (bytes_of_reference number))) else Broken

abbrev pub next : Lex → ℕ → Next
next Between b = if b == less_than then Within Opened else Whole (Text b)
next Opened b = if is_name_start b then Within (Name (b ∷ [])) else if b == slash then Within EndOpened else if b == exclamation_mark then Within Bang else if b == question_mark then Within InInstruction else Broken
next InInstruction b = if b == question_mark then Within Question else Within InInstruction
next Question b = if b == greater_than then Whole Instruction else if b == question_mark then Within Question else Within InInstruction
next Bang b = if b == hyphen then Within BangDash else if b == upper_d then Within (Word doctype_letters) else Broken
next BangDash b = if b == hyphen then Within InComment else Broken
next InComment b = if b == hyphen then Within Dash else Within InComment
next Dash b = if b == hyphen then Within DashDash else Within InComment
next DashDash b = if b == greater_than then Whole Comment else if b == hyphen then Within DashDash else Within InComment
next (Word []) b = if is_blank b then Within InDoctype else Broken
next (Word (c ∷ rest)) b = if b == c then Within (Word rest) else Broken
next InDoctype b = if b == greater_than then Whole Doctype else if is_doctype_byte b then Within InDoctype else Broken
next (Name n) b = if is_name_byte b then Within (Name (n ++ (b ∷ []))) else next_in_tag (record { name = n; attributes = [] }) b
next (Gap tag) b = if is_name_start b then Within (AttributeName tag (b ∷ [])) else next_in_tag tag b
next (Slash tag) b = if b == greater_than then Whole (Empty tag) else Broken
next (AttributeName tag a) b = if is_name_byte b then Within (AttributeName tag (a ++ (b ∷ []))) else next_behind_name tag a b
next (AttributeGap tag a) b = next_behind_name tag a b
next (Equals tag a) b = if is_blank b then Within (Equals tag a) else if is_quote b then Within (Value (record { tag = tag; name = a; quote = b; count = 0; value = [] })) else Broken
next (Value v) b = if b == v.quote then Within (Behind (with_attribute v.tag v.name v.value)) else if b == ampersand then next_reference v Ampersand else if b == less_than then Broken else Within (Value (with_bytes v (spaced b ∷ [])))
next (Refer v r) b = next_in_reference v r b
next (Behind tag) b = next_in_tag tag b
next EndOpened b = if is_name_start b then Within (EndName (b ∷ [])) else Broken
next (EndName n) b = if is_name_byte b then Within (EndName (n ++ (b ∷ []))) else next_behind_end n b
next (EndGap n) b = next_behind_end n b

-- The limits of a name, of a tag's attributes and of a value.
abbrev pub is_long : Lex → Bool
is_long (Name n) = nat_lt MAX_NAME_BYTES (length n)
is_long (EndName n) = nat_lt MAX_NAME_BYTES (length n)
is_long (AttributeName tag a) = nat_lt MAX_NAME_BYTES (length a) || nat_le MAX_ATTRIBUTES (length tag.attributes)
is_long (Value v) = nat_lt MAX_VALUE_BYTES v.count
is_long (Refer v r) = nat_lt MAX_VALUE_BYTES v.count
is_long _ = false

-- The byte ends a name or value that isn't UTF-8, or a reference to no character.
abbrev pub is_bad_reference : Reference → ℕ → Bool
is_bad_reference (Digits base count number) b = ((b == semicolon) && nat_lt 0 count) && not (is_character number)
is_bad_reference _ b = false

abbrev pub is_bad_end : Lex → ℕ → Bool
is_bad_end (Name n) b = not (is_name_byte b) && not (is_utf8 n)
is_bad_end (EndName n) b = not (is_name_byte b) && not (is_utf8 n)
is_bad_end (AttributeName tag a) b = not (is_name_byte b) && not (is_utf8 a)
is_bad_end (Value v) b = (b == v.quote) && not (is_utf8 (trimmed v.value))
is_bad_end (Refer v r) b = is_bad_reference r b
is_bad_end _ b = false

-- The byte begins the name of a start or empty tag.
abbrev pub begins_tag : Lex → ℕ → Bool
begins_tag Opened b = is_name_start b
begins_tag _ b = false

-- no item is under way
abbrev pub is_between : Lex → Bool
is_between Between = true
is_between _ = false
