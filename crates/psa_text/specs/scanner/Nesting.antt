-- The tree item by item. The grammar of TextTree.antt is the definition; this is how the scanner meets it.
use Rattle.std.specs.Prelude.{ℕ, Bool, true, false, if◌then◌else◌, nat_le, ◌||◌, List, [], ◌∷◌, ◌++◌, length, reverse, Option, Some, None, is_some}
use Rattle.std.specs.Str.{bytes_eq}
use Rattle.psa_text.specs.declared.tree.Element.{Element, out-Element, roll-Element}
use Rattle.psa_text.specs.declared.tag.Tag.{Tag}
use Rattle.psa_text.specs.declared.scanner.item.Item.{Item}
use Rattle.psa_text.specs.declared.scanner.item.Item.TheVariants.{Start, Empty, End, Doctype, Text, Comment, Instruction}
use Rattle.psa_text.specs.declared.builder.Builder.{Builder}
use Rattle.psa_text.specs.declared.limits.TheConstants.{MAX_DEPTH}
use Rattle.psa_text.specs.Tree.{element_of}
use Rattle.psa_text.specs.TextBytes.{is_blank}
use Rattle.psa_text.specs.TextTree.{is_label}

-- the elements that have begun and not ended, innermost first, and the root once it has ended
pub record State : Type 0 where
  pub open_elements : List Element
  pub root : Option Element

abbrev pub at_start : State
at_start = record { open_elements = []; root = None }

abbrev pub state_of : Builder → State
state_of b = record { open_elements = reverse b.open_elements; root = b.root }

-- an element with one more element in it, at the end
abbrev pub with_child : Element → Element → Element
with_child parent child = roll-Element (record (out-Element parent) { children = (out-Element parent).children ++ child ∷ [] })

-- A whole element is the last in the innermost open element, or else the root.
abbrev pub nesting_with_in : Element → List Element → Option Element → State
nesting_with_in element [] root = record { open_elements = []; root = Some element }
nesting_with_in element (parent ∷ outer) root = record { open_elements = with_child parent element ∷ outer; root = root }

abbrev pub nesting_with : Element → State → State
nesting_with element s = nesting_with_in element s.open_elements s.root

-- An end tag ends the innermost open element, which has its name.
abbrev pub nesting_after_end_in : List ℕ → List Element → Option Element → Option State
nesting_after_end_in name [] root = None
nesting_after_end_in name (element ∷ outer) root = if bytes_eq (out-Element element).tag name then Some (nesting_with_in element outer root) else None

abbrev pub nesting_after_end : List ℕ → State → Option State
nesting_after_end name s = nesting_after_end_in name s.open_elements s.root

-- No element begins deeper than `MAX_DEPTH`, or behind the root's end.
abbrev pub nesting_after_start : Tag → ℕ → State → Option State
nesting_after_start tag line s = if nat_le MAX_DEPTH (length s.open_elements) then None else if is_some s.root then None else Some (record { open_elements = element_of tag line [] ∷ s.open_elements; root = s.root })

abbrev pub nesting_after_empty : Tag → ℕ → State → Option State
nesting_after_empty tag line s = if nat_le MAX_DEPTH (length s.open_elements) then None else if is_some s.root then None else Some (nesting_with (element_of tag line []) s)

-- the innermost open element is a label
abbrev pub in_label : List Element → Bool
in_label [] = false
in_label (element ∷ outer) = is_label (out-Element element).tag

abbrev pub is_some_open : List Element → Bool
is_some_open [] = false
is_some_open (element ∷ outer) = true

-- the root has begun
abbrev pub has_begun : State → Bool
has_begun s = is_some_open s.open_elements || is_some s.root

-- The state after one more item, None where it does not fit.
abbrev pub nesting_after_item : Item → ℕ → State → Option State
nesting_after_item (Start tag) line s = nesting_after_start tag line s
nesting_after_item (Empty tag) line s = nesting_after_empty tag line s
nesting_after_item (End name) line s = nesting_after_end name s
nesting_after_item Doctype line s = if has_begun s then None else Some s
nesting_after_item (Text b) line s = if in_label s.open_elements || is_blank b then Some s else None
nesting_after_item Comment line s = Some s
nesting_after_item Instruction line s = Some s

-- the root, where it has ended and nothing is open
abbrev pub finished_root_of : List Element → Option Element → Option Element
finished_root_of [] root = root
finished_root_of (element ∷ outer) root = None

abbrev pub finished_root : State → Option Element
finished_root s = finished_root_of s.open_elements s.root
