-- The intervals of ranked events are within 0 and 1 where all are.
use Rattle.std.proofs.Common.{ℕ, List, Option, Some, None, IfSome, true, get_or, option_and_then, unwrap_or, subst, inl, inr, arith}
use Rattle.std.specs.List.{All, slice_get}
use Rattle.std.proofs.lemmas.Int.{ints}
use Rattle.std.proofs.lemmas.List.Elements.{All-from_get_or, All-get_or}
use Rattle.std.proofs.lemmas.Option.{slice_get_cases}
use Rattle.psa_number.specs.Ends.{Ends}
use Rattle.psa_number.specs.Operations.{IsInUnit}
use Rattle.psa_model.specs.declared.ids.EventNumber.{EventNumber}
use Rattle.psa_model.specs.declared.product.Literal.{Literal}
use Rattle.psa_model.specs.Quantities.{at_rank, zero_ends}

zero-in_unit : IsInUnit zero_ends
zero-in_unit = record { low = omega (arith, ints); high = omega (arith, ints) }

-- that of the event at a place
place-in_unit : (values : List Ends) → All IsInUnit values → (place : ℕ) → IsInUnit (unwrap_or (slice_get values place) zero_ends)
place-in_unit values all place = elim (slice_get_cases values place).1 [
  | inl there ↦ rw there.2 (subst IsInUnit there.3 (All-get_or IsInUnit values place there.0 there.1 all))
  | inr past ↦ rw past.1 zero-in_unit
]

-- that of the event with a rank
pub rank-in_unit : (values : List Ends) → All IsInUnit values → (ranks : List EventNumber) (rank : ℕ) → IsInUnit (at_rank zero_ends values ranks rank)
rank-in_unit values all ranks rank = on (slice_get ranks rank)
  where
    on : (number : Option EventNumber) → IsInUnit (unwrap_or (option_and_then (λ (n : EventNumber). slice_get values n.0) number) zero_ends)
    on None = zero-in_unit
    on (Some number) = place-in_unit values all number.0

-- those of a product's events
pub events-in_unit : (values : Option (List Ends)) (ranks : List EventNumber) (literals : List Literal) → IfSome values (All IsInUnit)
    → IfSome values (λ (some : List Ends). All (λ (literal : Literal). IsInUnit (at_rank zero_ends some ranks literal.rank)) literals)
events-in_unit None ranks literals all = tt
events-in_unit (Some some) ranks literals all =
    All-from_get_or (λ (literal : Literal). IsInUnit (at_rank zero_ends some ranks literal.rank)) literals (record { rank = 0; occurs = true })
    (λ i within. rank-in_unit some all ranks (get_or literals i (record { rank = 0; occurs = true })).rank)
