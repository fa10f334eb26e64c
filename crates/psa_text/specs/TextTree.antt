-- The tree of a list of items, by a grammar. (XML 1.0, productions 1, 22, 27, 39 and 43: an element is an empty tag, or a
-- start tag, its content and an end tag of the same name; doctypes stand before the root. That a text that isn't blank
-- stands in `label` alone, and the greatest depth, are this project's own.)
use Rattle.std.specs.Prelude.{◌≡◌, ℕ, suc, Bool, true, false, ◌||◌, List, [], ◌∷◌, ◌++◌, codes}
use Rattle.std.specs.Str.{bytes_eq}
use Rattle.psa_text.specs.declared.tree.Element.{Element}
use Rattle.psa_text.specs.declared.tag.Tag.{Tag}
use Rattle.psa_text.specs.declared.scanner.item.Item.{Item}
use Rattle.psa_text.specs.declared.scanner.item.Item.TheVariants.{Start, Empty, End, Doctype, Text, Comment, Instruction}
use Rattle.psa_text.specs.Tree.{element_of}
use Rattle.psa_text.specs.TextBytes.{AllPass, is_blank}
use Rattle.psa_text.specs.TextItems.{Placed}
use Rattle.psa_text.specs.declared.limits.TheConstants.{MAX_DEPTH}

-- `label`
abbrev pub is_label : List ℕ → Bool
is_label name = bytes_eq name (codes "label")

-- what the tree passes over: comments, instructions, blanks, and any text in a label
abbrev pub is_passed : Bool → Item → Bool
is_passed in_label Comment = true
is_passed in_label Instruction = true
is_passed in_label (Text b) = in_label || is_blank b
is_passed in_label Doctype = false
is_passed in_label (Start tag) = false
is_passed in_label (Empty tag) = false
is_passed in_label (End name) = false

mutual
  -- the items are one element, with at most `room` elements on a way down it, itself one of them
  pub data IsElement : ℕ → List Placed → Element → Type 0 where
    is_empty : (room : ℕ) (tag : Tag) (line : ℕ) → IsElement (suc room) ((Empty tag, line) ∷ []) (element_of tag line [])
    is_around : (room : ℕ) (tag : Tag) (line : ℕ) (inside : List Placed) (children : List Element) (name : List ℕ) (at : ℕ) → AreElements room (is_label tag.name) inside children → bytes_eq tag.name name ≡ true → IsElement (suc room) ((Start tag, line) ∷ (inside ++ ((End name, at) ∷ []))) (element_of tag line children)

  -- the items are these elements, one behind the other, with passed items among them
  pub data AreElements : ℕ → Bool → List Placed → List Element → Type 0 where
    no_element : (room : ℕ) (in_label : Bool) → AreElements room in_label [] []
    and_passed : (room : ℕ) (in_label : Bool) (items : List Placed) (elements : List Element) (item : Item) (line : ℕ) → AreElements room in_label items elements → is_passed in_label item ≡ true → AreElements room in_label (items ++ ((item, line) ∷ [])) elements
    and_element : (room : ℕ) (in_label : Bool) (items : List Placed) (elements : List Element) (one : List Placed) (element : Element) → AreElements room in_label items elements → IsElement room one element → AreElements room in_label (items ++ one) (elements ++ (element ∷ []))

-- what may stand before the root: doctypes and what the tree passes over; and behind it
abbrev pub is_before_root : Placed → Bool
is_before_root (Doctype, line) = true
is_before_root (item, line) = is_passed false item

-- an item that may stand behind the root
abbrev pub is_behind_root : Placed → Bool
is_behind_root (item, line) = is_passed false item

-- the items are a document with this root, of depth `MAX_DEPTH` at most
pub record IsDocument (items : List Placed) (root : Element) : Type 0 where
  pub before : List Placed
  pub one : List Placed
  pub behind : List Placed
  pub are_before : AllPass is_before_root before
  pub is_root : IsElement MAX_DEPTH one root
  pub are_behind : AllPass is_behind_root behind
  pub joined : items ≡ before ++ one ++ behind

-- further items make the items a document
abbrev pub IsDocumentFront : List Placed → Type 0
IsDocumentFront items = (more : List Placed) × (root : Element) × IsDocument (items ++ more) root
