-- The work that is left falls with each step.
use Rattle.std.proofs.Common.{◌≡◌, ◌<◌, ◌+◌, inl, inr, ℕ, zero, suc, false, cond, List, [], ◌∷◌, length, get_or, set, refl, ap, ◌∙◌, arith}
use Rattle.psa_chains.specs.declared.reference.Reference.{Reference}
use Rattle.psa_chains.specs.declared.search.Mark.{Mark}
use Rattle.psa_chains.specs.declared.search.Mark.TheVariants.{New}
use Rattle.psa_chains.specs.Chains.{row}
use Rattle.psa_chains.specs.Searching.{mark_at, is_new, weigh, marked}
use Rattle.psa_chains.proofs.Marks.{AllInside, marked-cases}

-- a node that was new makes its work
pub entered-work : (f : List Reference → ℕ) (marks : List Mark) (rows : List (List Reference)) (i : ℕ) (m : Mark) → is_new m ≡ false → i < length marks → length marks ≡ length rows → mark_at marks i ≡ New → weigh f (set marks i m) rows + f (row rows i) ≡ weigh f marks rows
entered-work f [] rows i m seen inside same new = absurd (omega arith)
entered-work f (x ∷ marks) [] i m seen inside same new = absurd (omega arith)
entered-work f (x ∷ marks) (r ∷ rows) zero m seen inside same new = rw (new, seen) (omega arith)
entered-work f (x ∷ marks) (r ∷ rows) (suc i) m seen inside same new =
    let rest = entered-work f marks rows i m seen (omega arith) (omega arith) new in
    omega arith

-- the mark of a node that was seen weighs nothing
pub seen-work : (f : List Reference → ℕ) (marks : List Mark) (rows : List (List Reference)) (i : ℕ) (m : Mark) → is_new m ≡ false → is_new (mark_at marks i) ≡ false → weigh f (set marks i m) rows ≡ weigh f marks rows
seen-work f [] rows i m seen old = refl
seen-work f (x ∷ marks) [] zero m seen old = refl
seen-work f (x ∷ marks) [] (suc i) m seen old = refl
seen-work f (x ∷ marks) (r ∷ rows) zero m seen old = rw (seen, old) refl
seen-work f (x ∷ marks) (r ∷ rows) (suc i) m seen old = ap (λ n. cond (is_new x) (f r) 0 + n) (seen-work f marks rows i m seen old)

abbrev pub AllSeen : List ℕ → List Mark → Type 0
AllSeen nodes marks = (k : ℕ) → k < length nodes → is_new (mark_at marks (get_or nodes k 0)) ≡ false

-- the marks of nodes that were seen weigh nothing
pub marked-work : (f : List Reference → ℕ) (m : Mark) (nodes : List ℕ) (marks : List Mark) (rows : List (List Reference)) → is_new m ≡ false → AllInside nodes (length marks) → AllSeen nodes marks → weigh f (marked m nodes marks) rows ≡ weigh f marks rows
marked-work f m [] marks rows seen inside old = refl
marked-work f m (n ∷ nodes) marks rows seen inside old =
    seen-work f (marked m nodes marks) rows n m seen
    (elim (marked-cases m nodes marks n (λ k l. inside (suc k) (omega arith))) [
      | inl among ↦ ap is_new among.1 ∙ seen
      | inr not ↦ ap is_new not.1 ∙ old 0 (omega arith)
    ])
    ∙ marked-work f m nodes marks rows seen (λ k l. inside (suc k) (omega arith)) (λ k l. old (suc k) (omega arith))
