-- Nesting item by item meets the grammar of the tree: what a state says of the items so far, how every state can be
-- closed, and that every document is nested.
use Rattle.std.specs.Prelude.{◌≡◌, ℕ, zero, suc, ◌+◌, ◌≤◌, Bool, true, false, ◌||◌, nat_le, List, [], ◌∷◌, ◌++◌, length, Option, Some, None}
use Rattle.std.specs.Str.{bytes_eq}
use Rattle.std.proofs.Common.{refl, sym, ◌∙◌, ap, arith, append_assoc, append-nil}
use Rattle.std.proofs.lemmas.Bool.Decides.{nat_tests}
use Rattle.psa_text.specs.declared.tree.Element.{Element, out-Element, out-roll-Element}
use Rattle.psa_text.specs.declared.tag.Tag.{Tag}
use Rattle.psa_text.specs.declared.scanner.item.Item.{Item}
use Rattle.psa_text.specs.declared.scanner.item.Item.TheVariants.{Start, Empty, End, Doctype, Text, Comment, Instruction}
use Rattle.psa_text.specs.Tree.{element_of}
use Rattle.psa_text.specs.scanner.Nesting.{State, at_start, with_child, nesting_with_in, nesting_after_end_in, in_label, is_some_open, nesting_after_item}
use Rattle.psa_text.specs.TextBytes.{AllPass, is_blank}
use Rattle.psa_text.specs.TextItems.{Placed}
use Rattle.psa_text.specs.TextTree.{is_label, is_passed, IsElement, is_empty, is_around, AreElements, no_element, and_passed, and_element, is_before_root, is_behind_root, IsDocument, IsDocumentFront}
use Rattle.psa_text.proofs.scanner.StatesReached.{choose}
use Rattle.psa_text.proofs.scanner.ByteFacts.{same_bytes}

-- open elements and a root
abbrev pub state : List Element → Option Element → State
state elements root = record { open_elements = elements; root = root }

-- the room below the innermost open element, the items so far, and the open elements, innermost first
pub data IsOpen : ℕ → List Placed → List Element → Type 0 where
  open_root : (before : List Placed) (tag : Tag) (line : ℕ) (inside : List Placed) (children : List Element) → AllPass is_before_root before → AreElements 63 (is_label tag.name) inside children → IsOpen 63 (before ++ ((Start tag, line) ∷ inside)) (element_of tag line children ∷ [])
  open_under : (room : ℕ) (outer : List Placed) (es : List Element) (tag : Tag) (line : ℕ) (inside : List Placed) (children : List Element) → IsOpen (suc room) outer es → AreElements room (is_label tag.name) inside children → IsOpen room (outer ++ ((Start tag, line) ∷ inside)) (element_of tag line children ∷ es)

-- the items so far are before the root, in it, or behind it
pub data Stands : List Placed → State → Type 0 where
  before_root : (items : List Placed) → AllPass is_before_root items → Stands items (state [] None)
  in_root : (room : ℕ) (items : List Placed) (es : List Element) → IsOpen room items es → Stands items (state es None)
  behind_root : (items : List Placed) (root : Element) → IsDocument items root → Stands items (state [] (Some root))

-- the same, if the items nest
abbrev pub StandsAt : List Placed → Option State → Type 0
StandsAt items None = Unit {0}
StandsAt items (Some s) = Stands items s

placed_push : (test : Placed → Bool) (xs : List Placed) (x : Placed) → AllPass test xs → test x ≡ true → AllPass test (xs ++ (x ∷ []))
placed_push test [] x h k = (k, tt)
placed_push test (y ∷ xs) x h k = (h.0, placed_push test xs x h.1 k)

-- what is seen of an element that a tag begins
tag_of : (tag : Tag) (line : ℕ) (children : List Element) → (out-Element (element_of tag line children)).tag ≡ tag.name
tag_of tag line children = ap (λ layer. layer.tag) (out-roll-Element _)

label_of : (tag : Tag) (line : ℕ) (children es : List Element) → in_label (element_of tag line children ∷ es) ≡ is_label tag.name
label_of tag line children es = ap is_label (tag_of tag line children)

with_child_of : (tag : Tag) (line : ℕ) (children : List Element) (e : Element) → with_child (element_of tag line children) e ≡ element_of tag line (children ++ (e ∷ []))
with_child_of tag line children e = rw out-roll-Element refl

-- one more passed item
behind_passed : (items : List Placed) (root : Element) (item : Item) (line : ℕ) → IsDocument items root → is_passed false item ≡ true → Stands (items ++ ((item, line) ∷ [])) (state [] (Some root))
behind_passed items root item line is passed = behind_root (items ++ ((item, line) ∷ [])) root (record {
  before = is.before;
  one = is.one;
  behind = is.behind ++ ((item, line) ∷ []);
  are_before = is.are_before;
  is_root = is.is_root;
  are_behind = placed_push is_behind_root is.behind (item, line) is.are_behind passed;
  joined = rw (is.joined) (append_assoc (is.before ++ is.one) is.behind ((item, line) ∷ []));
})

open_passed : {room : ℕ} {items : List Placed} {es : List Element} (item : Item) (line : ℕ) → IsOpen room items es → is_passed (in_label es) item ≡ true → IsOpen room (items ++ ((item, line) ∷ [])) es
open_passed item line (open_root before tag at inside children are within) passed =
    rw (append_assoc before ((Start tag, at) ∷ inside) ((item, line) ∷ [])) (open_root before tag at (inside ++ ((item, line) ∷ [])) children are (and_passed 63 (is_label tag.name) inside children item line within (rw (label_of tag at children []) at passed)))
open_passed item line (open_under room outer es tag at inside children around within) passed =
    rw (append_assoc outer ((Start tag, at) ∷ inside) ((item, line) ∷ [])) (open_under room outer es tag at (inside ++ ((item, line) ∷ [])) children around (and_passed room (is_label tag.name) inside children item line within (rw (label_of tag at children es) at passed)))

-- one more element
open_put : {room : ℕ} {items : List Placed} {es : List Element} (one : List Placed) (e : Element) → IsOpen room items es → IsElement room one e → StandsAt (items ++ one) (Some (nesting_with_in e es None))
open_put one e (open_root before tag at inside children are within) is =
    rw (with_child_of tag at children e) (in_root 63 ((before ++ ((Start tag, at) ∷ inside)) ++ one) (element_of tag at (children ++ (e ∷ [])) ∷ []) (rw (append_assoc before ((Start tag, at) ∷ inside) one) (open_root before tag at (inside ++ one) (children ++ (e ∷ [])) are (and_element 63 (is_label tag.name) inside children one e within is))))
open_put one e (open_under room outer es tag at inside children around within) is =
    rw (with_child_of tag at children e) (in_root room ((outer ++ ((Start tag, at) ∷ inside)) ++ one) (element_of tag at (children ++ (e ∷ [])) ∷ es) (rw (append_assoc outer ((Start tag, at) ∷ inside) one) (open_under room outer es tag at (inside ++ one) (children ++ (e ∷ [])) around (and_element room (is_label tag.name) inside children one e within is))))

root_put : (items one : List Placed) (e : Element) → AllPass is_before_root items → IsElement 64 one e → Stands (items ++ one) (state [] (Some e))
root_put items one e are is = behind_root (items ++ one) e (record { before = items; one = one; behind = []; are_before = are; is_root = is; are_behind = tt; joined = sym (append-nil (items ++ one)) })

open_room : {room : ℕ} {items : List Placed} {es : List Element} → IsOpen room items es → room + length es ≡ 64
open_room (open_root before tag at inside children are within) = refl
open_room (open_under room outer es tag at inside children around within) = let h = open_room around in omega (arith, h)

begin : (room : ℕ) {items : List Placed} {es : List Element} (tag : Tag) (line : ℕ) → IsOpen room items es → nat_le 64 (length es) ≡ false → Stands (items ++ ((Start tag, line) ∷ [])) (state (element_of tag line [] ∷ es) None)
begin zero tag line is short = absurd (let h = open_room is in grind (arith, nat_tests, h, short))
begin (suc room) {items} {es} tag line is short = in_root room (items ++ ((Start tag, line) ∷ [])) (element_of tag line [] ∷ es) (open_under room items es tag line [] [] is (no_element room (is_label tag.name)))

put_empty : (room : ℕ) {items : List Placed} {es : List Element} (tag : Tag) (line : ℕ) → IsOpen room items es → nat_le 64 (length es) ≡ false → StandsAt (items ++ ((Empty tag, line) ∷ [])) (Some (nesting_with_in (element_of tag line []) es None))
put_empty zero tag line is short = absurd (let h = open_room is in grind (arith, nat_tests, h, short))
put_empty (suc room) tag line is short = open_put ((Empty tag, line) ∷ []) (element_of tag line []) is (is_empty room tag line)

-- an end tag
close : {room : ℕ} {items : List Placed} {es : List Element} (name : List ℕ) (line : ℕ) → IsOpen room items es → StandsAt (items ++ ((End name, line) ∷ [])) (nesting_after_end_in name es None)
close name line (open_root before tag at inside children are within) =
    rw (tag_of tag at children) (choose (StandsAt ((before ++ ((Start tag, at) ∷ inside)) ++ ((End name, line) ∷ []))) (bytes_eq tag.name name) _ _
    (λ e. rw (append_assoc before ((Start tag, at) ∷ inside) ((End name, line) ∷ [])) (root_put before ((Start tag, at) ∷ (inside ++ ((End name, line) ∷ []))) (element_of tag at children) are (is_around 63 tag at inside children name line within e)))
    (λ _. tt))
close name line (open_under room outer es tag at inside children around within) =
    rw (tag_of tag at children) (choose (StandsAt ((outer ++ ((Start tag, at) ∷ inside)) ++ ((End name, line) ∷ []))) (bytes_eq tag.name name) _ _
    (λ e. rw (append_assoc outer ((Start tag, at) ∷ inside) ((End name, line) ∷ [])) (open_put ((Start tag, at) ∷ (inside ++ ((End name, line) ∷ []))) (element_of tag at children) around (is_around room tag at inside children name line within e)))
    (λ _. tt))

open_some : {room : ℕ} {items : List Placed} {es : List Element} → IsOpen room items es → is_some_open es ≡ true
open_some (open_root before tag at inside children are within) = refl
open_some (open_under room outer es tag at inside children around within) = refl

-- Each item keeps what the state says.
pub step_stands : {items : List Placed} {s : State} (item : Item) (line : ℕ) → Stands items s → StandsAt (items ++ ((item, line) ∷ [])) (nesting_after_item item line s)
step_stands (Start tag) line (before_root items are) = in_root 63 (items ++ ((Start tag, line) ∷ [])) (element_of tag line [] ∷ []) (open_root items tag line [] [] are (no_element 63 (is_label tag.name)))
step_stands (Start tag) line (in_root room items es is) = choose (StandsAt (items ++ ((Start tag, line) ∷ []))) (nat_le 64 (length es)) _ _ (λ _. tt) (λ short. begin room tag line is short)
step_stands (Start tag) line (behind_root items root is) = tt
step_stands (Empty tag) line (before_root items are) = root_put items ((Empty tag, line) ∷ []) (element_of tag line []) are (is_empty 63 tag line)
step_stands (Empty tag) line (in_root room items es is) = choose (StandsAt (items ++ ((Empty tag, line) ∷ []))) (nat_le 64 (length es)) _ _ (λ _. tt) (λ short. put_empty room tag line is short)
step_stands (Empty tag) line (behind_root items root is) = tt
step_stands (End name) line (before_root items are) = tt
step_stands (End name) line (in_root room items es is) = close name line is
step_stands (End name) line (behind_root items root is) = tt
step_stands Doctype line (before_root items are) = before_root (items ++ ((Doctype, line) ∷ [])) (placed_push is_before_root items (Doctype, line) are refl)
step_stands Doctype line (in_root room items es is) = rw (open_some is) tt
step_stands Doctype line (behind_root items root is) = tt
step_stands (Text b) line (before_root items are) = choose (StandsAt (items ++ ((Text b, line) ∷ []))) (false || is_blank b) _ _ (λ e. before_root (items ++ ((Text b, line) ∷ [])) (placed_push is_before_root items (Text b, line) are e)) (λ _. tt)
step_stands (Text b) line (in_root room items es is) = choose (StandsAt (items ++ ((Text b, line) ∷ []))) (in_label es || is_blank b) _ _ (λ e. in_root room (items ++ ((Text b, line) ∷ [])) es (open_passed (Text b) line is e)) (λ _. tt)
step_stands (Text b) line (behind_root items root is) = choose (StandsAt (items ++ ((Text b, line) ∷ []))) (false || is_blank b) _ _ (λ e. behind_passed items root (Text b) line is e) (λ _. tt)
step_stands Comment line (before_root items are) = before_root (items ++ ((Comment, line) ∷ [])) (placed_push is_before_root items (Comment, line) are refl)
step_stands Comment line (in_root room items es is) = in_root room (items ++ ((Comment, line) ∷ [])) es (open_passed Comment line is refl)
step_stands Comment line (behind_root items root is) = behind_passed items root Comment line is refl
step_stands Instruction line (before_root items are) = before_root (items ++ ((Instruction, line) ∷ [])) (placed_push is_before_root items (Instruction, line) are refl)
step_stands Instruction line (in_root room items es is) = in_root room (items ++ ((Instruction, line) ∷ [])) es (open_passed Instruction line is refl)
step_stands Instruction line (behind_root items root is) = behind_passed items root Instruction line is refl

-- Every state can be closed.
abbrev pub Grows : ℕ → List Placed → Type 0
Grows room extra = (in_label' : Bool) (inside : List Placed) (children : List Element) → AreElements room in_label' inside children → (grown : List Element) × AreElements room in_label' (inside ++ extra) grown

close_all : {room : ℕ} {items : List Placed} {es : List Element} (extra : List Placed) → Grows room extra → IsOpen room items es → IsDocumentFront (items ++ extra)
close_all extra grows (open_root before tag at inside children are within) =
    let more = grows (is_label tag.name) inside children within in (
      (End tag.name, 0) ∷ [],
      element_of tag at more.0,
      record {
        before = before;
        one = (Start tag, at) ∷ ((inside ++ extra) ++ ((End tag.name, 0) ∷ []));
        behind = [];
        are_before = are;
        is_root = is_around 63 tag at (inside ++ extra) more.0 tag.name 0 more.1 (same_bytes tag.name);
        are_behind = tt;
        joined = rw (append_assoc before ((Start tag, at) ∷ inside) extra, append_assoc before ((Start tag, at) ∷ (inside ++ extra)) ((End tag.name, 0) ∷ [])) (sym (append-nil (before ++ ((Start tag, at) ∷ ((inside ++ extra) ++ ((End tag.name, 0) ∷ []))))));
      },
    )
close_all extra grows (open_under room outer es tag at inside children around within) =
    let more = grows (is_label tag.name) inside children within in
    let one = (Start tag, at) ∷ ((inside ++ extra) ++ ((End tag.name, 0) ∷ [])) in
    let front = close_all one (λ l i c h. (c ++ (element_of tag at more.0 ∷ []), and_element (suc room) l i c one (element_of tag at more.0) h (is_around room tag at (inside ++ extra) more.0 tag.name 0 more.1 (same_bytes tag.name)))) around in
    ((End tag.name, 0) ∷ front.0, front.1, rw (append_assoc outer ((Start tag, at) ∷ inside) extra, append_assoc outer ((Start tag, at) ∷ (inside ++ extra)) ((End tag.name, 0) ∷ front.0)) (rw (append_assoc outer one front.0, append_assoc (inside ++ extra) ((End tag.name, 0) ∷ []) front.0) at front.2))

-- items so far are the front of a document
pub stands_front : {items : List Placed} {s : State} → Stands items s → IsDocumentFront items
stands_front (before_root items are) =
    let tag : Tag = record { name = []; attributes = [] } in
    ((Empty tag, 0) ∷ [], element_of tag 0 [], record { before = items; one = (Empty tag, 0) ∷ []; behind = []; are_before = are; is_root = is_empty 63 tag 0; are_behind = tt; joined = sym (append-nil (items ++ ((Empty tag, 0) ∷ []))) })
stands_front (in_root room items es is) = rw (append-nil items) at (close_all [] (λ l i c h. (c, rw (append-nil i) h)) is)
stands_front (behind_root items root is) = ([], root, rw (append-nil items) is)

-- Every document is nested.
abbrev pub onward : Option State → (State → Option State) → Option State
onward None f = None
onward (Some s) f = f s

-- the state after these items
abbrev pub nests : List Placed → State → Option State
nests [] s = Some s
nests (item ∷ items) s = onward (nesting_after_item item.0 item.1 s) (nests items)

-- items in two parts nest one behind the other
pub nests-append : (xs ys : List Placed) (s : State) → nests (xs ++ ys) s ≡ onward (nests xs s) (nests ys)
nests-append [] ys s = refl
nests-append (x ∷ xs) ys s = elim (nesting_after_item x.0 x.1 s) as (λ r. onward r (nests (xs ++ ys)) ≡ onward (onward r (nests xs)) (nests ys)) [ None ↦ refl | Some t ↦ nests-append xs ys t ]

-- the same, where the first part nests
pub nests_then : (xs ys : List Placed) (s t : State) (r : Option State) → nests xs s ≡ Some t → nests ys t ≡ r → nests (xs ++ ys) s ≡ r
nests_then xs ys s t r h k = nests-append xs ys s ∙ rw h k

passed_nest : (item : Item) (line : ℕ) (es : List Element) (root : Option Element) → is_passed (in_label es) item ≡ true → nesting_after_item item line (state es root) ≡ Some (state es root)
passed_nest Comment line es root h = refl
passed_nest Instruction line es root h = refl
passed_nest (Text b) line es root h = rw h refl
passed_nest Doctype line es root h = absurd (cc)
passed_nest (Start tag) line es root h = absurd (cc)
passed_nest (Empty tag) line es root h = absurd (cc)
passed_nest (End name) line es root h = absurd (cc)

short : (room : ℕ) (es : List Element) → suc room + length es ≤ 64 → nat_le 64 (length es) ≡ false
short room es h = grind (arith, nat_tests, h)

mutual
  -- the items of an element nest
  pub element_nests : {room : ℕ} {one : List Placed} {e : Element} → IsElement room one e → (es : List Element) → room + length es ≤ 64 → nests one (state es None) ≡ Some (nesting_with_in e es None)
  element_nests (is_empty room tag line) es fits = rw (short room es fits) refl
  element_nests (is_around room tag line inside children name at within same) es fits =
      rw (short room es fits) (nests_then inside ((End name, at) ∷ []) (state (element_of tag line [] ∷ es) None) (state (element_of tag line children ∷ es) None) _ (elements_nest within tag refl line [] es (omega (arith, fits))) (rw (tag_of tag line children, same) refl))

  -- the items of elements nest
  pub elements_nest : {room : ℕ} {label : Bool} {items : List Placed} {children : List Element} → AreElements room label items children → (tag : Tag) → is_label tag.name ≡ label → (line : ℕ) (before : List Element) (es : List Element) → room + suc (length es) ≤ 64 → nests items (state (element_of tag line before ∷ es) None) ≡ Some (state (element_of tag line (before ++ children) ∷ es) None)
  elements_nest (no_element room label) tag is line before es fits = rw (append-nil before) refl
  elements_nest (and_passed room label items children item at are passed) tag is line before es fits =
      nests_then items ((item, at) ∷ []) _ (state (element_of tag line (before ++ children) ∷ es) None) _ (elements_nest are tag is line before es fits)
      (rw (passed_nest item at (element_of tag line (before ++ children) ∷ es) None (rw (label_of tag line (before ++ children) es, is) passed)) refl)
  elements_nest (and_element room label items children one e are is_one) tag is line before es fits =
      nests_then items one _ (state (element_of tag line (before ++ children) ∷ es) None) _ (elements_nest are tag is line before es fits)
      (element_nests is_one (element_of tag line (before ++ children) ∷ es) fits ∙ rw (with_child_of tag line (before ++ children) e, append_assoc before children (e ∷ [])) refl)

before_nest : (item : Item) (line : ℕ) → is_before_root (item, line) ≡ true → nesting_after_item item line (state [] None) ≡ Some (state [] None)
before_nest Doctype line h = refl
before_nest Comment line h = refl
before_nest Instruction line h = refl
before_nest (Text b) line h = rw h refl
before_nest (Start tag) line h = absurd (cc)
before_nest (Empty tag) line h = absurd (cc)
before_nest (End name) line h = absurd (cc)

before_nests : (items : List Placed) → AllPass is_before_root items → nests items (state [] None) ≡ Some (state [] None)
before_nests [] are = refl
before_nests ((item, line) ∷ items) are = rw (before_nest item line are.0) (before_nests items are.1)

behind_nests : (root : Element) (items : List Placed) → AllPass is_behind_root items → nests items (state [] (Some root)) ≡ Some (state [] (Some root))
behind_nests root [] are = refl
behind_nests root ((item, line) ∷ items) are = rw (passed_nest item line [] (Some root) are.0) (behind_nests root items are.1)

-- the items of a document nest
pub document_nests : {items : List Placed} {root : Element} → IsDocument items root → nests items at_start ≡ Some (state [] (Some root))
document_nests {items} {root} is =
    rw is.joined (nests_then (is.before ++ is.one) is.behind at_start (state [] (Some root)) _
    (nests_then is.before is.one at_start at_start _ (before_nests is.before is.are_before) (element_nests is.is_root [] (omega arith)))
    (behind_nests root is.behind is.are_behind))
