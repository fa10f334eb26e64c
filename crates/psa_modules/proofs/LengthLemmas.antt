-- The set of the quotient is no longer than the set that comes from it.
use Rattle.std.proofs.Common.{◌≡◌, ◌==◌, ℕ, ◌<◌, ◌≤◌, Bool, true, false, List, [], ◌∷◌, length, not, refl, sym, ap, ◌∙◌, inl, inr, arith}
use Rattle.std.proofs.lemmas.Bool.{false≢true, eq-eqb, ne_eqb, and_parts, not_from_true}
use Rattle.std.proofs.lemmas.Bool.Decides.{eqb_tells}
use Rattle.std.specs.List.{filter}
use Rattle.psa_logic.specs.Sets.{all_above, is_ascending, occurs, Has}
use Rattle.psa_logic.proofs.PartLemmas.{eqb-same, part-length, has-occurs, all_above-has}
use Rattle.psa_modules.specs.Modules.{AreFalseAtNone, part_of, IsSubstitution}
use Rattle.psa_modules.proofs.TestLemmas.{tests-same, kept-part, occurs-kept, kept-occurs}

-- the number of the item is another
abbrev pub is_other : (ℕ → ℕ) → ℕ → ℕ → Bool
is_other number m x = not (number x == m)

-- as many items at least as a set has members, each of which is the number of an item
pub members-le : (number : ℕ → ℕ) (members xs : List ℕ) → is_ascending members ≡ true
    → ((m : ℕ) → Has members m → (x : ℕ) × (occurs xs x ≡ true) × (number x ≡ m)) → length members ≤ length xs
members-le number [] xs h each = omega arith
members-le number (m ∷ members) xs h each =
    let p = and_parts (all_above m members) (is_ascending members) h in
    let rest : List ℕ = filter (is_other number m) xs in
    let le : length members ≤ length rest = members-le number members rest p.1 (λ n k.
    let found = each n (inr k) in
    let above : m < n = all_above-has m members n p.0 k in
    let is : number found.0 ≡ n = found.2 in
    let apart : (number found.0 == m) ≡ false = ne_eqb (number found.0) m (λ e. omega arith) in
    (found.0, kept-occurs (is_other number m) xs found.0 (ap not apart) found.1, found.2)) in
    elim (part-length rest xs (kept-part (is_other number m) xs)) [
      | inl shorter ↦ omega arith
      | inr all ↦
          let found = each m (inl refl) in
          let stays : occurs rest found.0 ≡ true = ap (λ ys. occurs ys found.0) all ∙ found.1 in
          absurd (false≢true (sym (not_from_true (number found.0 == m) (eq-eqb (number found.0) m found.2)) ∙
          (occurs-kept (is_other number m) xs found.0 stays).0))
    ]

-- a cut set of a truth that is false at the empty set has an event
some-event : (f : (ℕ → Bool) → Bool) → f (λ event. false) ≡ false → (set : List ℕ) → f (occurs set) ≡ true
    → (x : ℕ) × (occurs set x ≡ true)
some-event f none [] h = absurd (false≢true (sym none ∙ (ap f (tests-same (λ event. false) (occurs []) (λ x. refl))
    ∙ h)))
some-event f none (x ∷ xs) h = (x, rw (eqb-same x) refl)

-- the modules from which a set comes are no more than its events
pub modules-le : (module_of : ℕ → ℕ) (truth_of : ℕ → (ℕ → Bool) → Bool) (modules set : List ℕ)
    → AreFalseAtNone truth_of → is_ascending modules ≡ true → IsSubstitution module_of truth_of modules set
    → length modules ≤ length set
modules-le module_of truth_of modules set none h sub = members-le module_of modules set h (λ m k.
    let minimal = sub.parts m (has-occurs modules m k) in
    let found = some-event (truth_of m) (none m) (part_of module_of m set) minimal.minimal.cuts in
    let p = occurs-kept (λ event. module_of event == m) set found.0 found.1 in (
      found.0,
      p.1,
      elim (eqb_tells (module_of found.0) m) [
        | inl q ↦ q.1
        | inr q ↦ absurd (false≢true (sym q.0 ∙ p.0))
      ],
    ))
