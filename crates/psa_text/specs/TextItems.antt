-- The items that a list of bytes spells, by a grammar: each rule joins the bytes of its parts. (XML 1.0: productions 10
-- (values), 15 (comments), 16 (instructions), 28 (doctypes), 40 to 44 (tags), 66 and 68 (references). Doctypes have no
-- subset; CDATA sections and further entities are left out; the one-byte text is this project's own: nothing said of
-- texts depends on where a run of them is cut.)
-- The grammar is loose: a name or a value is any bytes of its class here, and a reference may spell any number.
-- What it lets through is refused by TextFaults.
use Rattle.std.specs.Prelude.{◌≡◌, ◌≢◌, ℕ, ◌≤◌, Bool, true, false, if◌then◌else◌, ◌==◌, ◌&&◌, List, [], ◌∷◌, ◌++◌, length, drop, Option, Some, None, encode_utf8, codes}
use Rattle.psa_text.specs.declared.tag.Tag.{Tag}
use Rattle.psa_text.specs.declared.scanner.item.Item.{Item}
use Rattle.psa_text.specs.declared.scanner.item.Item.TheVariants.{Start, Empty, End, Doctype, Text, Comment, Instruction}
use Rattle.psa_text.specs.TextBytes.{AllPass, AreBlanks, IsName, is_blank, is_character, is_quote, is_doctype_byte, is_value_byte, is_digit_of, spaced, number_behind, trimmed, line_after}
use Rattle.psa_text.specs.NamedBytes.{quotation_mark, ampersand, apostrophe, less_than, equals_sign, greater_than}
use Rattle.psa_text.specs.declared.limits.TheConstants.{MAX_REFERENCE_DIGITS}

-- `&`, and what is behind it: a reference, and the number of the character that it stands for
pub data IsReference : List ℕ → ℕ → Type 0 where
  is_less : IsReference (codes "&lt;") less_than
  is_greater : IsReference (codes "&gt;") greater_than
  is_ampersand : IsReference (codes "&amp;") ampersand
  is_quotation : IsReference (codes "&quot;") quotation_mark
  is_apostrophe : IsReference (codes "&apos;") apostrophe
  is_decimal : (digits : List ℕ) → digits ≢ [] → length digits ≤ MAX_REFERENCE_DIGITS → AllPass (is_digit_of 10) digits → IsReference (codes "&#" ++ (digits ++ codes ";")) (number_behind 10 0 digits)
  is_hexadecimal : (digits : List ℕ) → digits ≢ [] → length digits ≤ MAX_REFERENCE_DIGITS → AllPass (is_digit_of 16) digits → IsReference (codes "&#x" ++ (digits ++ codes ";")) (number_behind 16 0 digits)

-- What a reference to the number stands for: the bytes of its character. A number that is no character stands for
-- U+FFFD, the replacement character, as in HTML; TextFaults refuses it.
abbrev pub bytes_of_reference : ℕ → List ℕ
bytes_of_reference code = encode_utf8 (if is_character code then code else 0xFFFD)

-- the quote, the bytes between the quotes, and what they stand for
pub data IsRaw : ℕ → List ℕ → List ℕ → Type 0 where
  no_byte : (quote : ℕ) → IsRaw quote [] []
  and_byte : (quote : ℕ) (raw value : List ℕ) (b : ℕ) → IsRaw quote raw value → is_value_byte quote b ≡ true → IsRaw quote (raw ++ (b ∷ [])) (value ++ (spaced b ∷ []))
  and_reference : (quote : ℕ) (raw value reference : List ℕ) (code : ℕ) → IsRaw quote raw value → IsReference reference code → IsRaw quote (raw ++ reference) (value ++ bytes_of_reference code)

-- what stands before an attribute's value: blanks, its name, `=` with blanks around it, and the quote
pub record IsOpening (quote : ℕ) (name bytes : List ℕ) : Type 0 where
  pub blanks : List ℕ
  pub before : List ℕ
  pub after : List ℕ
  pub some : blanks ≢ []
  pub are_blanks : AreBlanks blanks
  pub is_name : IsName name
  pub are_before : AreBlanks before
  pub are_after : AreBlanks after
  pub is_quote : is_quote quote ≡ true
  pub spelled : bytes ≡ blanks ++ name ++ before ++ (equals_sign ∷ after) ++ (quote ∷ [])

-- a tag with one attribute more
abbrev pub with_attribute : Tag → List ℕ → List ℕ → Tag
with_attribute tag name value = record tag { attributes = tag.attributes ++ ((record { name = name; value = trimmed value }) ∷ []) }

-- `<`, a name, and whole attributes
pub data IsHead : List ℕ → Tag → Type 0 where
  head_name : (name : List ℕ) → IsName name → IsHead (less_than ∷ name) (record { name = name; attributes = [] })
  head_more : (head : List ℕ) (tag : Tag) (quote : ℕ) (name opening raw value : List ℕ) → IsHead head tag → IsOpening quote name opening → IsRaw quote raw value → IsHead (head ++ (opening ++ raw ++ (quote ∷ []))) (with_attribute tag name value)

-- `end` stands at the front of the bytes
abbrev pub begins_with : List ℕ → List ℕ → Bool
begins_with bytes [] = true
begins_with [] (e ∷ end) = false
begins_with (b ∷ bs) (e ∷ end) = (b == e) && begins_with bs end

-- what stands behind the first place of `end`, if it has one
abbrev pub behind_first : List ℕ → List ℕ → Option (List ℕ)
behind_first end [] = None
behind_first end (b ∷ bs) = if begins_with (b ∷ bs) end then Some (drop (length end) (b ∷ bs)) else behind_first end bs

-- `end` stands at the end of the bytes and nowhere before
abbrev pub IsUpTo : List ℕ → List ℕ → Type 0
IsUpTo end bytes = behind_first end bytes ≡ Some []

-- the bytes of an item
pub data IsItem : Item → List ℕ → Type 0 where
  is_text : (b : ℕ) → (b == less_than) ≡ false → IsItem (Text b) (b ∷ [])
  is_instruction : (body : List ℕ) → IsUpTo (codes "?>") body → IsItem Instruction (codes "<?" ++ body)
  is_comment : (body : List ℕ) → IsUpTo (codes "-->") body → IsItem Comment (codes "<!--" ++ body)
  is_doctype : (blank : ℕ) (body : List ℕ) → is_blank blank ≡ true → AllPass is_doctype_byte body → IsItem Doctype (codes "<!DOCTYPE" ++ (blank ∷ (body ++ codes ">")))
  is_start : (head : List ℕ) (tag : Tag) (blanks : List ℕ) → IsHead head tag → AreBlanks blanks → IsItem (Start tag) (head ++ (blanks ++ codes ">"))
  is_empty : (head : List ℕ) (tag : Tag) (blanks : List ℕ) → IsHead head tag → AreBlanks blanks → IsItem (Empty tag) (head ++ (blanks ++ codes "/>"))
  is_end : (name blanks : List ℕ) → IsName name → AreBlanks blanks → IsItem (End name) (codes "</" ++ (name ++ (blanks ++ codes ">")))

-- an item, and the line of its first byte
abbrev pub Placed : Type 0
Placed = Item × ℕ

-- the bytes are these items, one behind the other
pub data AreItems : List Placed → List ℕ → Type 0 where
  no_item : AreItems [] []
  and_item : (items : List Placed) (before : List ℕ) (item : Item) (bytes : List ℕ) → AreItems items before → IsItem item bytes → AreItems (items ++ ((item, line_after before) ∷ [])) (before ++ bytes)

-- further bytes make the bytes a list of items
abbrev pub IsFront : List ℕ → Type 0
IsFront bytes = (more : List ℕ) × (items : List Placed) × AreItems items (bytes ++ more)
