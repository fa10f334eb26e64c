-- The faults of a text. A fault is decided at a byte; the fault of a text is that of its earliest byte that decides
-- one, else the fault at its end. (The profile of XML 1.0 and its limits are this project's own. Here whole lists of
-- bytes and what may follow them are compared; no machine is spoken of.)
use Rattle.std.specs.Prelude.{◌≡◌, ◌≢◌, ℕ, ◌<◌, ◌≤◌, Bool, true, false, if◌then◌else◌, not, ◌==◌, List, [], ◌∷◌, ◌++◌, length, count_by, codes}
use Rattle.std.specs.Str.{is_utf8}
use Rattle.psa_text.specs.declared.tree.Element.{Element}
use Rattle.psa_text.specs.declared.tag.Tag.{Tag}
use Rattle.psa_text.specs.declared.scanner.item.Item.{Item}
use Rattle.psa_text.specs.declared.scanner.item.Item.TheVariants.{Start, Empty, End, Doctype, Text, Comment, Instruction}
use Rattle.psa_text.specs.declared.scanner.error.TextFault.{TextFault}
use Rattle.psa_text.specs.declared.scanner.error.TextKind.{TextKind}
use Rattle.psa_text.specs.declared.scanner.error.TextKind.TheVariants.{LongFile, BadMarkup, LongToken, BadNesting}
use Rattle.psa_text.specs.TextBytes.{AllPass, AreBlanks, IsName, is_character, is_name_start, is_name_byte, line_after}
use Rattle.psa_text.specs.TextItems.{IsReference, IsRaw, IsOpening, IsHead, IsItem, Placed, AreItems, IsFront}
use Rattle.psa_text.specs.TextTree.{IsDocument, IsDocumentFront}
use Rattle.psa_text.specs.NamedBytes.{less_than, first_mark_byte, second_mark_byte, third_mark_byte, byte_order_mark}
use Rattle.psa_text.specs.declared.limits.TheConstants.{MAX_ATTRIBUTES, MAX_ELEMENTS, MAX_FILE_BYTES, MAX_NAME_BYTES, MAX_VALUE_BYTES}

-- The bytes are a front of the byte order mark, or the whole mark.
pub data IsMarkFront : List ℕ → Type 0 where
  no_byte : IsMarkFront []
  one_byte : IsMarkFront (first_mark_byte ∷ [])
  two_bytes : IsMarkFront (first_mark_byte ∷ second_mark_byte ∷ [])
  whole_mark : IsMarkFront byte_order_mark

-- The bytes behind a byte order mark at the front. A mark under way is passed over too.
abbrev pub behind_two : List ℕ → List ℕ
behind_two [] = []
behind_two (b ∷ bs) = if b == third_mark_byte then bs else first_mark_byte ∷ second_mark_byte ∷ b ∷ bs

-- what is left behind the first byte of a mark
abbrev pub behind_one : List ℕ → List ℕ
behind_one [] = []
behind_one (b ∷ bs) = if b == second_mark_byte then behind_two bs else first_mark_byte ∷ b ∷ bs

-- a text without a byte order mark at its front
abbrev pub unmarked : List ℕ → List ℕ
unmarked [] = []
unmarked (b ∷ bs) = if b == first_mark_byte then behind_one bs else b ∷ bs

-- further bytes, at least one, make the part an item
pub record IsPart (part : List ℕ) : Type 0 where
  pub item : Item
  pub byte : ℕ
  pub more : List ℕ
  pub some : part ≢ []
  pub is_item : IsItem item (part ++ (byte ∷ more))

-- the bytes are these items, and then a part of one that begins at this line
pub record IsWithin (bytes : List ℕ) (items : List Placed) (line : ℕ) (part : List ℕ) : Type 0 where
  pub before : List ℕ
  pub are : AreItems items before
  pub is_part : IsPart part
  pub joined : bytes ≡ before ++ part
  pub at : line ≡ line_after before

-- the part of an item ends with this name, of a tag or of an attribute
pub data EndsInName : List ℕ → List ℕ → Type 0 where
  in_tag : (name : List ℕ) → IsName name → EndsInName (less_than ∷ name) name
  in_end_tag : (name : List ℕ) → IsName name → EndsInName (codes "</" ++ name) name
  in_attribute : (head : List ℕ) (tag : Tag) (blanks name : List ℕ) → IsHead head tag → blanks ≢ [] → AreBlanks blanks → IsName name → EndsInName (head ++ (blanks ++ name)) name

-- The part has a name or a value of too many bytes, or a name behind as many attributes as a tag may have.
pub data IsLong : List ℕ → Type 0 where
  long_name : (part name : List ℕ) → EndsInName part name → MAX_NAME_BYTES < length name → IsLong part
  many_attributes : (head : List ℕ) (tag : Tag) (blanks name : List ℕ) → IsHead head tag → MAX_ATTRIBUTES ≤ length tag.attributes → blanks ≢ [] → AreBlanks blanks → IsName name → IsLong (head ++ (blanks ++ name))
  long_value : (head : List ℕ) (tag : Tag) (quote : ℕ) (name opening raw : List ℕ) → IsHead head tag → IsOpening quote name opening → AllPass (λ b. not (b == quote)) raw → MAX_VALUE_BYTES < length raw → IsLong (head ++ (opening ++ raw))

-- The byte behind the part ends a name that isn't UTF-8, a value whose bytes between the quotes aren't, or a reference to
-- no character.
pub data IsBadEnd : List ℕ → ℕ → Type 0 where
  bad_name : (part name : List ℕ) (b : ℕ) → EndsInName part name → is_name_byte b ≡ false → is_utf8 name ≡ false → IsBadEnd part b
  bad_value : (head : List ℕ) (tag : Tag) (quote : ℕ) (name opening raw value : List ℕ) → IsHead head tag → IsOpening quote name opening → IsRaw quote raw value → is_utf8 raw ≡ false → IsBadEnd (head ++ (opening ++ raw)) quote
  bad_reference : (head : List ℕ) (tag : Tag) (quote : ℕ) (name opening raw value part reference : List ℕ) (code b : ℕ) → IsHead head tag → IsOpening quote name opening → IsRaw quote raw value → IsReference reference code → is_character code ≡ false → part ++ (b ∷ []) ≡ head ++ (opening ++ (raw ++ reference)) → IsBadEnd part b

-- a start or empty tag
abbrev pub begins_element : Item → Bool
begins_element (Start tag) = true
begins_element (Empty tag) = true
begins_element (End name) = false
begins_element Doctype = false
begins_element (Text b) = false
begins_element Comment = false
begins_element Instruction = false

-- how many elements have begun
abbrev pub element_count : List Placed → ℕ
element_count items = count_by (λ placed. begins_element placed.0) items

-- a fault of a kind, in a line
abbrev pub fault : TextKind → ℕ → TextFault
fault kind line = record { kind = kind; line = line }

-- The byte behind these bytes, which stand behind any byte order mark, decides the fault. Each rule leaves to those
-- above it what they decide.
pub data DecidesWithin : List ℕ → ℕ → TextFault → Type 0 where
  many_elements : (before : List ℕ) (b : ℕ) (items : List Placed) (line : ℕ) → IsWithin before items line (codes "<") → is_name_start b ≡ true → element_count items ≡ MAX_ELEMENTS → DecidesWithin before b (fault LongFile (line_after before))
  no_front : (before : List ℕ) (b : ℕ) (items : List Placed) (line : ℕ) (part : List ℕ) → ¬ (IsFront (before ++ (b ∷ []))) → IsWithin before items line part → DecidesWithin before b (fault BadMarkup line)
  bad_end : (before : List ℕ) (b : ℕ) (items : List Placed) (line : ℕ) (part : List ℕ) → IsWithin before items line part → IsBadEnd part b → DecidesWithin before b (fault BadMarkup line)
  long_token : (before : List ℕ) (b : ℕ) (items : List Placed) (line : ℕ) (part : List ℕ) → IsFront (before ++ (b ∷ [])) → IsWithin before items line part → IsLong (part ++ (b ∷ [])) → ¬ (IsBadEnd part b) → DecidesWithin before b (fault LongToken line)
  bad_nesting : (before : List ℕ) (b : ℕ) (items : List Placed) (start part : List ℕ) (item : Item) → AreItems items start → before ≡ start ++ part → IsItem item (part ++ (b ∷ [])) → ¬ (IsBadEnd part b) → IsDocumentFront items → ¬ (IsDocumentFront (items ++ ((item, line_after start) ∷ []))) → DecidesWithin before b (fault BadNesting (line_after start))

-- The byte behind these bytes decides the fault: it is one more than a text may have; it is the byte that shows that no byte order mark stands at
-- the front; or it stands behind any mark.
pub data Decides : List ℕ → ℕ → TextFault → Type 0 where
  long_file : (before : List ℕ) (b : ℕ) → length before ≡ MAX_FILE_BYTES → Decides before b (fault LongFile (line_after before))
  broken_at_two : (b : ℕ) → b ≢ second_mark_byte → Decides (first_mark_byte ∷ []) b (fault BadNesting 1)
  broken_at_three : (b : ℕ) → b ≢ third_mark_byte → Decides (first_mark_byte ∷ second_mark_byte ∷ []) b (fault BadNesting 1)
  behind_mark : (before : List ℕ) (b : ℕ) (found : TextFault) → length before ≢ MAX_FILE_BYTES → ¬ (IsMarkFront (before ++ (b ∷ []))) → DecidesWithin (unmarked before) b found → Decides before b found

-- no byte of these decides a fault
abbrev pub NoFault : List ℕ → Type 0
NoFault bytes = (before : List ℕ) (b : ℕ) (rest : List ℕ) (found : TextFault) → bytes ≡ before ++ (b ∷ rest) → ¬ (Decides before b found)

-- the fault of the earliest byte that decides one
pub record FirstFault (bytes : List ℕ) (found : TextFault) : Type 0 where
  pub before : List ℕ
  pub byte : ℕ
  pub rest : List ℕ
  pub joined : bytes ≡ before ++ (byte ∷ rest)
  pub decides : Decides before byte found
  pub first : NoFault before

-- the tree of a text
pub record IsTree (bytes : List ℕ) (root : Element) : Type 0 where
  pub items : List Placed
  pub are : AreItems items (unmarked bytes)
  pub is_document : IsDocument items root

-- the fault at the end: the text ends within an item, or has no root or an open element
pub data EndsIn : List ℕ → TextFault → Type 0 where
  in_item : (bytes : List ℕ) (items : List Placed) (line : ℕ) (part : List ℕ) → IsWithin (unmarked bytes) items line part → EndsIn bytes (fault BadMarkup line)
  no_tree : (bytes : List ℕ) (items : List Placed) → AreItems items (unmarked bytes) → ((root : Element) → ¬ (IsDocument items root)) → EndsIn bytes (fault BadNesting (line_after bytes))
