-- Neither a quotient nor a module has more events than the top event.
use Rattle.std.proofs.Common.{◌≡◌, ◌⊎◌, ◌==◌, ℕ, zero, suc, ◌+◌, ◌<◌, ◌≤◌, Bool, true, false, List, [], ◌∷◌, length, map, ◌&&◌, not, refl, sym, ap, subst, ◌∙◌, inl, inr, arith}
use Rattle.std.specs.Prelude.{nat_le}
use Rattle.std.specs.List.{filter, list_any}
use Rattle.std.proofs.lemmas.Bool.{false≢true, and_parts, eq-eqb, ne_eqb, not_from_true}
use Rattle.std.proofs.lemmas.Bool.Decides.{nat_tests}
use Rattle.psa_logic.specs.Sets.{occurs, Has}
use Rattle.psa_logic.proofs.PartLemmas.{eqb-same, occurs-has, has-occurs, part-length}
use Rattle.psa_model.specs.declared.expanded.Expanded.{Expanded}
use Rattle.psa_model.specs.declared.formula.Formula.TheVariants as variant
use Rattle.psa_model.specs.declared.ids.EventNumber.{EventNumber}
use Rattle.psa_model.specs.declared.model.TheConstants.{MAX_DEPTH}
use Rattle.psa_model.specs.Models.{are_different}
use Rattle.psa_model.specs.Ranks.{firsts, ranks_of, target_visits}
use Rattle.psa_modules.specs.OuterModules.{gate_target, events_inside, has_two_events, is_module, outer_modules}
use Rattle.psa_modules.specs.Quotients.{quotient_of}
use Rattle.psa_modules.proofs.TestLemmas.{kept-part, kept-occurs, occurs-kept}
use Rattle.psa_modules.proofs.LengthLemmas.{is_other}
use Rattle.psa_modules.proofs.ApartLemmas.{IsOuter, outer-is, visits-at_gate}
use Rattle.psa_modules.proofs.RenamingLemmas.{at_place, at_place-occurs, any-occurs}
use Rattle.psa_modules.proofs.UnfoldingLemmas.{place-visits}
use Rattle.psa_modules.proofs.NamingLemmas.{events_of_gate, firsts-different, firsts-has, has-firsts, length-map}
use Rattle.psa_modules.proofs.QuotientTruth.{IsSound, number_of, number-out, number-inside}
use Rattle.psa_modules.proofs.PutLemmas.{events-free}

-- as many items at least as there are different numbers, each of which is the number of an item
different-le : (number : ℕ → ℕ) (numbers xs : List ℕ) → are_different numbers ≡ true
    → ((m : ℕ) → Has numbers m → (x : ℕ) × (occurs xs x ≡ true) × (number x ≡ m)) → length numbers ≤ length xs
different-le number [] xs h each = omega arith
different-le number (m ∷ numbers) xs h each =
    let p = and_parts (not (list_any (λ y. y == m) numbers)) (are_different numbers) h in
    let absent : occurs numbers m ≡ false = sym (any-occurs m numbers) ∙ not-so (list_any (λ y. y == m) numbers) p.0 in
    let rest : List ℕ = filter (is_other number m) xs in
    let le : length numbers ≤ length rest = different-le number numbers rest p.1 (λ n k.
    let found = each n (inr k) in
    let apart : (number found.0 == m) ≡ false = ne_eqb (number found.0) m (λ e.
    false≢true (sym absent ∙ (ap (occurs numbers) (sym e ∙ found.2) ∙ has-occurs numbers n k))) in
    (found.0, kept-occurs (is_other number m) xs found.0 (ap not apart) found.1, found.2)) in
    elim (part-length rest xs (kept-part (is_other number m) xs)) [
      | inl shorter ↦ omega arith
      | inr all ↦
          let found = each m (inl refl) in
          let stays : occurs rest found.0 ≡ true = ap (λ ys. occurs ys found.0) all ∙ found.1 in
          absurd (false≢true (sym (not_from_true (number found.0 == m) (eq-eqb (number found.0) m found.2))
          ∙ (occurs-kept (is_other number m) xs found.0 stays).0))
    ]
  where
    not-so : (b : Bool) → not b ≡ true → b ≡ false
    not-so true k = absurd (false≢true k)
    not-so false k = refl

-- a module has two events
two-events : (expanded : Expanded) (top gate : ℕ) → is_module expanded top gate ≡ true
    → has_two_events expanded gate ≡ true
two-events expanded top gate h =
    let one = and_parts _ _ h in
    let two = and_parts _ _ one.0 in
    let three = and_parts _ _ two.0 in
    three.1

-- so it has one
some-event : (expanded : Expanded) (gate : ℕ) → has_two_events expanded gate ≡ true
    → (event : ℕ) × Has (events_inside expanded gate) event
some-event expanded gate h = first (firsts (events_inside expanded gate)) refl
    (many (length (firsts (events_inside expanded gate))) h)
  where
    many : (n : ℕ) → nat_le 2 n ≡ true → 0 < n
    many n k = grind (arith, nat_tests)

    first : (xs : List ℕ) → firsts (events_inside expanded gate) ≡ xs → 0 < length xs
        → (event : ℕ) × Has (events_inside expanded gate) event
    first [] is k = absurd (omega arith)
    first (x ∷ xs) is k =
        (x, has-firsts (events_inside expanded gate) x (ap (λ ys. occurs ys x) is ∙ rw (eqb-same x) refl))

-- what occurs inside an outer module occurs in the top event
pub outer-visits : (expanded : Expanded) (top gate event : ℕ) → IsSound expanded top → IsOuter expanded top gate
    → Has (events_inside expanded gate) event → Has (events_inside expanded top) event
outer-visits expanded top gate event sound outer has =
    place-visits (suc MAX_DEPTH) (suc MAX_DEPTH) expanded (variant.Gate (record { 0 = top })) outer.conditions.at event
    sound.enough (omega arith) outer.conditions.stands
    (subst (λ xs. Has xs event)
    (sym (visits-at_gate (suc MAX_DEPTH) expanded gate outer.conditions.at.one outer.conditions.is)) has)

-- the ranks of a gate are as many as its events
ranks-length : (expanded : Expanded) (gate : ℕ)
    → length (ranks_of expanded (gate_target gate)) ≡ length (events_of_gate expanded gate)
ranks-length expanded gate = length-map (λ e. record { 0 = e }) (events_of_gate expanded gate)

-- an outer module has no more ranks
pub module-ranks : (expanded : Expanded) (top gate : ℕ) → IsSound expanded top
    → occurs (outer_modules expanded top) gate ≡ true
    → length (ranks_of expanded (gate_target gate)) ≤ length (ranks_of expanded (gate_target top))
module-ranks expanded top gate sound among =
    let here : length (ranks_of expanded (gate_target gate)) ≡ length (events_of_gate expanded gate) =
    ranks-length expanded gate in
    let there : length (ranks_of expanded (gate_target top)) ≡ length (events_of_gate expanded top) =
    ranks-length expanded top in
    let le : length (events_of_gate expanded gate) ≤ length (events_of_gate expanded top) =
    different-le (λ x. x) (events_of_gate expanded gate) (events_of_gate expanded top)
    (firsts-different (target_visits expanded (gate_target gate))) (λ m has. (
      m,
      firsts-has (target_visits expanded (gate_target top)) m
          (outer-visits expanded top gate m sound (outer-is expanded top gate among)
          (has-firsts (target_visits expanded (gate_target gate)) m (has-occurs (events_of_gate expanded gate) m has))),
      refl,
    )) in
    omega arith

-- an event of the quotient is the number of an event of the top event
quotient-number : (expanded : Expanded) (top m : ℕ) → IsSound expanded top
    → Has (events_of_gate (quotient_of expanded top) top) m
    → (x : ℕ) × (occurs (events_of_gate expanded top) x ≡ true) × (number_of expanded top x ≡ m)
quotient-number expanded top m sound has =
    elim (events-free expanded top m sound (has-occurs (events_of_gate (quotient_of expanded top) top) m has)) [
      | inl out ↦ (
        m,
        firsts-has (target_visits expanded (gate_target top)) m out.2,
        number-out expanded (length expanded.events) (outer_modules expanded top) m out.1,
      )
      | inr added ↦
          let gate : ℕ = at_place (outer_modules expanded top) added.0 in
          let outer = outer-is expanded top gate (at_place-occurs (outer_modules expanded top) added.0 added.1) in
          let event = some-event expanded gate (two-events expanded top gate outer.conditions.none) in (
            event.0,
            firsts-has (target_visits expanded (gate_target top)) event.0
                (outer-visits expanded top gate event.0 sound outer event.1),
            number-inside expanded top added.0 event.0 sound added.1 event.1 ∙ sym added.2,
          )
    ]

-- a quotient has no more ranks
pub quotient-ranks : (expanded : Expanded) (top : ℕ) → IsSound expanded top
    → length (ranks_of (quotient_of expanded top) (gate_target top)) ≤ length (ranks_of expanded (gate_target top))
quotient-ranks expanded top sound =
    let here : length (ranks_of (quotient_of expanded top) (gate_target top))
    ≡ length (events_of_gate (quotient_of expanded top) top) = ranks-length (quotient_of expanded top) top in
    let there : length (ranks_of expanded (gate_target top)) ≡ length (events_of_gate expanded top) =
    ranks-length expanded top in
    let le : length (events_of_gate (quotient_of expanded top) top) ≤ length (events_of_gate expanded top) =
    different-le (number_of expanded top) (events_of_gate (quotient_of expanded top) top) (events_of_gate expanded top)
    (firsts-different (target_visits (quotient_of expanded top) (gate_target top)))
    (λ m has. quotient-number expanded top m sound has) in
    omega arith
