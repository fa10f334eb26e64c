use Rattle.std.proofs.Common.{map, sym, subst}
use Rattle.psa_number.specs.Fraction.{Holds}
use Rattle.psa_number.specs.Operations.{complement_ends}
use Rattle.psa_model.specs.ExactQuantities.{exact_bound, exact_min_cut, exact_rare_event}
use Rattle.psa_model.specs.Values.{quantities_of}
use Rattle.psa_model.proofs.HeldTotals.{rare-event-held, min-cut-held}
use Rattle.psa_products.specs.Sums.{Sums}
use Rattle.psa_products.proofs.totals.Totals.take.Goals as goal

pub returns-clause-rare_event : goal.returns-clause-rare_event
returns-clause-rare_event c = λ terms long mission expanded values is ranks products same.
    subst (λ (sums : Sums). Holds sums.rare_event (exact_rare_event (map (exact_bound (quantities_of terms mission expanded) ranks) products))) (sym same)
    (rare-event-held terms long mission expanded values is ranks products)

pub returns-clause-min_cut : goal.returns-clause-min_cut
returns-clause-min_cut c = λ terms long mission expanded values is ranks products same.
    subst (λ (sums : Sums). Holds (complement_ends sums.rest) (exact_min_cut (map (exact_bound (quantities_of terms mission expanded) ranks) products))) (sym same)
    (min-cut-held terms long mission expanded values is ranks products)
