-- What stands at the end of a list after several additions.
use Rattle.std.proofs.Common.{◌≡◌, List, ◌++◌, Result, Ok, Err, OnOk, ap, sym, ◌∙◌}
use Rattle.std.proofs.lemmas.List.{append_assoc}

-- two additions are one
pub joined : {A : Type 0} (before first second both middle after : List A) → middle ≡ before ++ first → after ≡ middle ++ second → both ≡ first ++ second → after ≡ before ++ both
joined before first second both middle after one other is =
    other ∙ ap (λ xs. xs ++ second) one ∙ append_assoc before first second ∙ ap (λ xs. before ++ xs) (sym is)

-- what follows from a fact of an answer follows from the answer
pub on-ok : {A E P Q : Type 0} (r : Result A E) → (P → Q) → OnOk r P → OnOk r Q
on-ok (Ok a) f h = f h
on-ok (Err e) f h = tt
