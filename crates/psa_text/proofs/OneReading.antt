-- A text has one reading: one list of items, and one tree.
use Rattle.std.specs.Prelude.{◌≡◌, ℕ, List, Some}
use Rattle.std.proofs.Common.{sym, ◌∙◌, ap}
use Rattle.psa_text.specs.declared.tree.Element.{Element}
use Rattle.psa_text.specs.scanner.Nesting.{at_start}
use Rattle.psa_text.specs.TextItems.{Placed, AreItems}
use Rattle.psa_text.specs.TextTree.{IsDocument}
use Rattle.psa_text.specs.TextFaults.{IsTree}
use Rattle.psa_text.proofs.scanner.TreesNest.{nests, document_nests}
use Rattle.psa_text.proofs.scanner.ReadingsStand.{items_read}

some_same : {A : Type 0} {x y : A} → Some x ≡ Some y → x ≡ y
some_same h = cc

-- the same bytes have the same items
pub same_items : (bytes : List ℕ) (items others : List Placed) → AreItems items bytes → AreItems others bytes → items ≡ others
same_items bytes items others are same = ap (λ r. r.items) (some_same (sym (items_read are) ∙ items_read same))

-- the same items have the same tree
pub same_root : (items others : List Placed) (root other : Element) → items ≡ others → IsDocument items root → IsDocument others other → root ≡ other
same_root items others root other e is same =
    some_same (ap (λ s. s.root) (some_same (sym (document_nests is) ∙ ap (λ x. nests x at_start) e ∙ document_nests same)))

-- the same bytes have the same tree
pub same_tree : (bytes : List ℕ) (root other : Element) → IsTree bytes root → IsTree bytes other → root ≡ other
same_tree bytes root other is same =
    same_root is.items same.items root other (same_items _ is.items same.items is.are same.are) is.is_document same.is_document
