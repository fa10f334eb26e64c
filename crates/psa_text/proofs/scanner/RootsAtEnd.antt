-- The end of a text: its tree, or the fault there.
use Rattle.std.specs.Prelude.{◌≡◌, ℕ, true, false, List, [], Option, Some, None, Result, Ok, Err}
use Rattle.std.proofs.Common.{refl, sym, ◌∙◌, ap, subst, append-nil}
use Rattle.psa_text.specs.declared.tree.Element.{Element}
use Rattle.psa_text.specs.declared.scanner.error.TextFault.{TextFault}
use Rattle.psa_text.specs.declared.scanner.error.TextKind.TheVariants.{BadMarkup, BadNesting}
use Rattle.psa_text.specs.scanner.Nesting.{State, at_start, finished_root}
use Rattle.psa_text.specs.TextBytes.{line_after}
use Rattle.psa_text.specs.TextItems.{Placed, AreItems}
use Rattle.psa_text.specs.TextTree.{IsDocument}
use Rattle.psa_text.specs.TextFaults.{fault, unmarked, IsTree, EndsIn, in_item, no_tree, NoFault}
use Rattle.psa_text.specs.scanner.Machine.{Lex, Between, is_between}
use Rattle.psa_text.specs.scanner.State.{Scan, start_scan, scan_after_bytes, root_or, root_at_end}
use Rattle.psa_text.proofs.scanner.StatesReached.{choose, Reached, at_between}
use Rattle.psa_text.proofs.scanner.TreesNest.{IsOpen, open_root, open_under, Stands, before_root, in_root, behind_root, nests, document_nests}
use Rattle.psa_text.proofs.scanner.ReadingsStand.{Reading, Standing, standing, within}
use Rattle.psa_text.proofs.scanner.FirstFaults.{fits, no_fault, line_is, nested_stands}

some_same : {A : Type 0} {x y : A} → Some x ≡ Some y → x ≡ y
some_same h = cc

none_some : {A : Type 0} {x : A} → None ≡ Some x → ⊥
none_some h = cc

true_false : true ≡ false → ⊥
true_false h = cc

open_unfinished : {room : ℕ} {items : List Placed} {es : List Element} (root : Element) → IsOpen room items es → finished_root (record { open_elements = es; root = None }) ≡ Some root → ⊥
open_unfinished root (open_root before tag line inside children are within_it) h = none_some h
open_unfinished root (open_under room outer es tag line inside children around within_it) h = none_some h

finished_document : {items : List Placed} {t : State} (root : Element) → Stands items t → finished_root t ≡ Some root → IsDocument items root
finished_document root (before_root items are) h = absurd (none_some h)
finished_document root (in_root room items es is) h = absurd (open_unfinished root is h)
finished_document root (behind_root items other is) h = subst (IsDocument items) (some_same h) is

no_document : (items : List Placed) (t : State) → nests items at_start ≡ Some t → finished_root t ≡ None → (root : Element) → IsDocument items root → ⊥
no_document items t nested none root is =
    let same : t ≡ record { open_elements = []; root = Some root } = some_same (sym nested ∙ document_nests is) in
    none_some (sym none ∙ ap finished_root same)

-- what the end gives: the tree, or the fault there
abbrev pub EndOutcome : List ℕ → Result Element TextFault → Type 0
EndOutcome h (Ok root) = IsTree h root
EndOutcome h (Err found) = EndsIn h found

between_only : (p : Lex) → is_between p ≡ true → p ≡ Between
between_only Between h = refl
between_only _ h = absurd (true_false (sym h))

between_part : {w : List ℕ} → Reached Between w → w ≡ []
between_part at_between = refl

between_items : (body : List ℕ) (r : Reading) → Standing body r → is_between r.lex ≡ true → AreItems r.items body
between_items body r s e =
    let part : s.part ≡ [] = between_part (subst (λ p. Reached p s.part) (between_only r.lex e) s.reached) in
    subst (AreItems r.items) (sym (s.joined ∙ rw part (append-nil s.before))) s.are

root_outcome : (h : List ℕ) (line : ℕ) (items : List Placed) (t : State) (o : Option Element) → line ≡ line_after h → AreItems items (unmarked h) → nests items at_start ≡ Some t → finished_root t ≡ o → EndOutcome h (root_or line o)
root_outcome h line items t (Some root) at are nested e = record { items = items; are = are; is_document = finished_document root (nested_stands items t nested) e }
root_outcome h line items t None at are nested e = rw (at) (no_tree h items are (no_document items t nested e))

-- the end of what was read gives what it should
pub end_outcome : (h : List ℕ) (s : Scan) → scan_after_bytes start_scan h ≡ Ok s → EndOutcome h (root_at_end s)
end_outcome h s e =
    let all = fits h s e in
    let f = all.fits in
    let r = f.reading in
    subst (λ u. EndOutcome h (root_at_end u)) (sym f.is)
    (choose (EndOutcome h) (is_between r.lex) _ _
    (λ between. root_outcome h r.line r.items f.state (finished_root f.state) (sym (ap (λ u. u.line) f.is) ∙ line_is h s all) (between_items (unmarked h) r (standing (unmarked h) r f.read) between) f.nested refl)
    (λ inside. in_item h r.items r.start (standing (unmarked h) r f.read).part (within (unmarked h) r f.read (λ k. true_false (sym (ap is_between k) ∙ inside)))))

-- a root at the end is that of the tree
pub end_ok : (h : List ℕ) (s : Scan) (root : Element) → scan_after_bytes start_scan h ≡ Ok s → root_at_end s ≡ Ok root → IsTree h root × NoFault h
end_ok h s root e is = (subst (EndOutcome h) is (end_outcome h s e), no_fault h s e)

-- an error at the end is the fault there
pub end_err : (h : List ℕ) (s : Scan) (found : TextFault) → scan_after_bytes start_scan h ≡ Ok s → root_at_end s ≡ Err found → EndsIn h found × NoFault h
end_err h s found e is = (subst (EndOutcome h) is (end_outcome h s e), no_fault h s e)

-- the end has a root
pub ended_ok : (s : Scan) (root : Element) → is_between s.lex ≡ true → finished_root s.nesting ≡ Some root → root_at_end s ≡ Ok root
ended_ok s root e f = rw (e, f) refl

-- the end has no root
pub ended_open : (s : Scan) → is_between s.lex ≡ true → finished_root s.nesting ≡ None → root_at_end s ≡ Err (fault BadNesting s.line)
ended_open s e f = rw (e, f) refl

-- the end stands within an item
pub ended_inside : (s : Scan) → is_between s.lex ≡ false → root_at_end s ≡ Err (fault BadMarkup s.start)
ended_inside s e = rw e refl
