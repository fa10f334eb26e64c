-- The law of modules over sets, that a set that comes from modules tells them, and that each choice gives one.
use Rattle.std.proofs.Common.{◌≡◌, ◌==◌, ℕ, suc, ◌+◌, ◌<◌, Bool, true, List, [], ◌∷◌, ◌&&◌, refl, sym, ap, subst, ◌∙◌, inl, inr, arith}
use Rattle.std.proofs.lemmas.Bool.{false≢true, eq-eqb, and_parts, and_from, cases_lt}
use Rattle.std.proofs.lemmas.Bool.Decides.{eqb_tells}
use Rattle.psa_logic.specs.Sets.{is_ascending, occurs}
use Rattle.psa_logic.specs.Products.{IsMinimalCutSet}
use Rattle.psa_logic.proofs.PartLemmas.{sets-same}
use Rattle.psa_modules.specs.Modules.{within, seen, whole, AreFalseAtNone, part_of, IsSubstitution, IsChoice}
use Rattle.psa_modules.proofs.TestLemmas.{tests-same, bits-same, kept-ascending, occurs-kept, kept-occurs, listed, listed-ascending, occurs-listed, IsLeast, least-from, minimal-from}
use Rattle.psa_modules.proofs.LeastLemmas.{within-parts, within-from, seen-none, only-seen, seen-least, within-least, IsPut, put-seen, put-least}

-- the part of a module has the events that are within it
pub part-within : (module_of : ℕ → ℕ) (m : ℕ) (set : List ℕ)
    → occurs (part_of module_of m set) ≡ within module_of m (occurs set)
part-within module_of m set = tests-same (occurs (part_of module_of m set)) (within module_of m (occurs set)) (λ e.
    bits-same (occurs (part_of module_of m set) e) (within module_of m (occurs set) e)
    (λ h. let p = occurs-kept (λ event. module_of event == m) set e h in and_from (module_of e == m)
    (occurs set e) p.0 p.1)
    (λ h. let p = and_parts (module_of e == m) (occurs set e) h in kept-occurs
    (λ event. module_of event == m) set e p.0 p.1))

-- more than the number of each item
abbrev pub bound_of : (ℕ → ℕ) → List ℕ → ℕ
bound_of number [] = 0
bound_of number (x ∷ xs) = number x + suc (bound_of number xs)

-- It is more.
pub below-bound : (number : ℕ → ℕ) (xs : List ℕ) (x : ℕ) → occurs xs x ≡ true → number x < bound_of number xs
below-bound number [] x h = absurd (false≢true h)
below-bound number (y ∷ ys) x h = elim (eqb_tells y x) [
  | inl p ↦ let same : number y ≡ number x = ap number p.1 in omega arith
  | inr p ↦ let less : number x < bound_of number ys = below-bound number ys x (rw p.0 at h) in omega arith
]

-- sets that come from modules are put for them
pub put-from : (module_of : ℕ → ℕ) (truth_of : ℕ → (ℕ → Bool) → Bool) (modules set : List ℕ)
    → IsSubstitution module_of truth_of modules set → IsPut module_of truth_of (occurs modules) (occurs set)
put-from module_of truth_of modules set sub = record {
  parts = λ m h. subst (λ s. IsLeast (truth_of m) s) (part-within module_of m set)
      (least-from (truth_of m) (part_of module_of m set) (sub.parts m h));
  only = sub.only;
}

-- a minimal cut set of the whole comes from one of the quotient
pub comes : (module_of : ℕ → ℕ) (truth_of : ℕ → (ℕ → Bool) → Bool) (quotient : (ℕ → Bool) → Bool) (set : List ℕ)
    → AreFalseAtNone truth_of → IsMinimalCutSet (whole module_of truth_of quotient) set
    → (modules : List ℕ) × IsMinimalCutSet quotient modules × IsSubstitution module_of truth_of modules set
comes module_of truth_of quotient set none minimal =
    let so = least-from (whole module_of truth_of quotient) set minimal in
    let bound : ℕ = bound_of module_of set in
    let below : (m : ℕ) → seen module_of truth_of (occurs set) m ≡ true → m < bound =
    λ m held. elim (cases_lt m bound) [
      | inl lt ↦ lt
      | inr le ↦ absurd (false≢true (sym (seen-none module_of truth_of none (occurs set) m (λ e h k.
          let less : module_of e < bound = below-bound module_of set e k in omega arith)) ∙ held))
    ] in
    let same : occurs (listed (seen module_of truth_of (occurs set)) bound) ≡ seen module_of truth_of (occurs set) =
    occurs-listed (seen module_of truth_of (occurs set)) bound below in (
      listed (seen module_of truth_of (occurs set)) bound,
      minimal-from quotient (listed (seen module_of truth_of (occurs set)) bound)
          (listed-ascending (seen module_of truth_of (occurs set)) bound)
          (subst (λ s. IsLeast quotient s) (sym same) (seen-least module_of truth_of quotient none (occurs set) so)),
      record {
        ascending = minimal.ascending;
        parts = λ m h. minimal-from (truth_of m) (part_of module_of m set)
            (kept-ascending (λ event. module_of event == m) set minimal.ascending)
            (subst (λ s. IsLeast (truth_of m) s) (sym (part-within module_of m set))
            (within-least module_of truth_of quotient (occurs set) so m (ap (λ s. s m) (sym same) ∙ h)));
        only = λ e h. ap (λ s. s (module_of e)) same ∙ only-seen module_of truth_of quotient none (occurs set) so e h;
      },
    )

-- what comes from a minimal cut set of the quotient is a minimal cut set of the whole
pub gives : (module_of : ℕ → ℕ) (truth_of : ℕ → (ℕ → Bool) → Bool) (quotient : (ℕ → Bool) → Bool) (set : List ℕ)
    → AreFalseAtNone truth_of → (modules : List ℕ) → IsMinimalCutSet quotient modules
    → IsSubstitution module_of truth_of modules set → IsMinimalCutSet (whole module_of truth_of quotient) set
gives module_of truth_of quotient set none modules minimal sub =
    minimal-from (whole module_of truth_of quotient) set sub.ascending
    (put-least module_of truth_of quotient none (occurs modules) (occurs set) (least-from quotient modules minimal)
    (put-from module_of truth_of modules set sub))

-- a set comes from the modules that the quotient sees, so from no others
pub modules-same : (module_of : ℕ → ℕ) (truth_of : ℕ → (ℕ → Bool) → Bool) (one other set : List ℕ)
    → AreFalseAtNone truth_of → is_ascending one ≡ true → is_ascending other ≡ true
    → IsSubstitution module_of truth_of one set → IsSubstitution module_of truth_of other set → one ≡ other
modules-same module_of truth_of one other set none h k left right =
    let p : seen module_of truth_of (occurs set) ≡ occurs one =
    put-seen module_of truth_of none (occurs one) (occurs set) (put-from module_of truth_of one set left) in
    let q : seen module_of truth_of (occurs set) ≡ occurs other =
    put-seen module_of truth_of none (occurs other) (occurs set) (put-from module_of truth_of other set right) in
    sets-same one other h k (λ n. ap (λ s. s n) (sym p ∙ q))

-- an event of a set that comes from modules is in the other set with the same parts
part-shared : (module_of : ℕ → ℕ) (truth_of : ℕ → (ℕ → Bool) → Bool) (modules one other : List ℕ)
    → IsSubstitution module_of truth_of modules one
    → ((m : ℕ) → occurs modules m ≡ true → part_of module_of m one ≡ part_of module_of m other) → (e : ℕ)
    → occurs one e ≡ true → occurs other e ≡ true
part-shared module_of truth_of modules one other sub same e h =
    let inside : occurs (part_of module_of (module_of e) one) e ≡ true =
    kept-occurs (λ event. module_of event == module_of e) one e (eq-eqb (module_of e) (module_of e) refl) h in
    let there : occurs (part_of module_of (module_of e) other) e ≡ true =
    ap (λ xs. occurs xs e) (sym (same (module_of e) (sub.only e h))) ∙ inside in
    (occurs-kept (λ event. module_of event == module_of e) other e there).1

-- the modules and the parts tell the set
pub set-same : (module_of : ℕ → ℕ) (truth_of : ℕ → (ℕ → Bool) → Bool) (modules one other : List ℕ)
    → IsSubstitution module_of truth_of modules one → IsSubstitution module_of truth_of modules other
    → ((m : ℕ) → occurs modules m ≡ true → part_of module_of m one ≡ part_of module_of m other) → one ≡ other
set-same module_of truth_of modules one other left right same =
    sets-same one other left.ascending right.ascending (λ e. bits-same (occurs one e) (occurs other e)
    (part-shared module_of truth_of modules one other left same e)
    (part-shared module_of truth_of modules other one right (λ m h. sym (same m h)) e))

-- the events of the parts that are chosen for the modules
abbrev pub chosen : (ℕ → ℕ) → List ℕ → (ℕ → List ℕ) → ℕ → Bool
chosen module_of modules choice e = occurs modules (module_of e) && occurs (choice (module_of e)) e

-- more than each of them
abbrev pub choice_bound : List ℕ → (ℕ → List ℕ) → ℕ
choice_bound modules choice = bound_of (λ m. bound_of (λ e. e) (choice m)) modules

-- the set of them
abbrev pub chosen_set : (ℕ → ℕ) → List ℕ → (ℕ → List ℕ) → List ℕ
chosen_set module_of modules choice = listed (chosen module_of modules choice) (choice_bound modules choice)

-- It has them and no others.
chosen-occurs : (module_of : ℕ → ℕ) (modules : List ℕ) (choice : ℕ → List ℕ)
    → occurs (chosen_set module_of modules choice) ≡ chosen module_of modules choice
chosen-occurs module_of modules choice = occurs-listed (chosen module_of modules choice)
    (choice_bound modules choice) (λ e h.
    let p = and_parts (occurs modules (module_of e)) (occurs (choice (module_of e)) e) h in
    let inner : e < bound_of (λ x. x) (choice (module_of e)) = below-bound (λ x. x) (choice (module_of e)) e p.1 in
    let outer : bound_of (λ x. x) (choice (module_of e)) < choice_bound modules choice =
    below-bound (λ m. bound_of (λ x. x) (choice m)) modules (module_of e) p.0 in
    omega arith)

-- its part of a module is the one that is chosen
chosen-part : (module_of : ℕ → ℕ) (truth_of : ℕ → (ℕ → Bool) → Bool) (modules : List ℕ) (choice : ℕ → List ℕ)
    → IsChoice module_of truth_of modules choice → (m : ℕ) → occurs modules m ≡ true
    → part_of module_of m (chosen_set module_of modules choice) ≡ choice m
chosen-part module_of truth_of modules choice is m h =
    let set : List ℕ = chosen_set module_of modules choice in
    let same : occurs set ≡ chosen module_of modules choice = chosen-occurs module_of modules choice in
    sets-same (part_of module_of m set) (choice m)
    (kept-ascending (λ event. module_of event == m) set (listed-ascending (chosen module_of modules choice)
    (choice_bound modules choice))) (is.minimal m h).ascending
    (λ e. bits-same (occurs (part_of module_of m set) e) (occurs (choice m) e)
    (λ k.
    let p = within-parts module_of m (occurs set) e (ap (λ s. s e) (sym (part-within module_of m set)) ∙ k) in
    let q = and_parts (occurs modules (module_of e)) (occurs (choice (module_of e)) e)
    (ap (λ s. s e) (sym same) ∙ p.1) in
    ap (λ n. occurs (choice n) e) (sym p.0) ∙ q.1)
    (λ k.
    let belongs : module_of e ≡ m = is.own m h e k in
    let passes : chosen module_of modules choice e ≡ true =
    and_from (occurs modules (module_of e)) (occurs (choice (module_of e)) e) (ap (occurs modules) belongs ∙ h)
    (ap (λ n. occurs (choice n) e) belongs ∙ k) in
    ap (λ s. s e) (part-within module_of m set) ∙ within-from module_of m (occurs set) e belongs
    (ap (λ s. s e) same ∙ passes)))

-- each choice of parts gives a set
pub choice-gives : (module_of : ℕ → ℕ) (truth_of : ℕ → (ℕ → Bool) → Bool) (modules : List ℕ) (choice : ℕ → List ℕ)
    → IsChoice module_of truth_of modules choice
    → (set : List ℕ) × IsSubstitution module_of truth_of modules set ×
    ((m : ℕ) → occurs modules m ≡ true → part_of module_of m set ≡ choice m)
choice-gives module_of truth_of modules choice is = (
  chosen_set module_of modules choice,
  record {
    ascending = listed-ascending (chosen module_of modules choice) (choice_bound modules choice);
    parts = λ m h. subst (λ xs. IsMinimalCutSet (truth_of m) xs)
        (sym (chosen-part module_of truth_of modules choice is m h)) (is.minimal m h);
    only = λ e h. (and_parts (occurs modules (module_of e)) (occurs (choice (module_of e)) e)
        (ap (λ s. s e) (sym (chosen-occurs module_of modules choice)) ∙ h)).0;
  },
  chosen-part module_of truth_of modules choice is,
)
