-- The model has no more collected formulas than the draft.
use Rattle.std.proofs.Common.{◌≤◌, map, length, refl, arith}
use Rattle.std.proofs.lemmas.List.{length-map}
use Rattle.psa_model.specs.declared.limits.TheConstants.{MAX_NESTING}
use Rattle.psa_model.specs.Drafts.{body_contents}
use Rattle.psa_names.specs.Outlines.{Entry, Entries}
use Rattle.psa_names.specs.Resolved.{resolved_formula}
use Rattle.psa_names.specs.Collected.{collected_in, by_contents}
use Rattle.psa_names.specs.ModelOfDraft.{model_from}
use Rattle.psa_names.proofs.Sums.{weigh, weigh-same, weigh-less, length-flat}
use Rattle.psa_names.proofs.ContentsSorted.{weigh-by}
use Rattle.psa_names.proofs.CollectedCounts.{body-counted}
use Rattle.psa_checks.proofs.Definitions.{AreEntries}
use Rattle.psa_checks.proofs.PromisedDefinitions.{its-nesting}

-- the model has no more collected formulas than the draft
pub formulas-few : (entries : Entries) → AreEntries entries
    → length (model_from entries).formulas ≤ weigh (λ (e : Entry). (body_contents e.body).formulas) entries
formulas-few entries are =
    let count = length-flat (λ (one : Entry). map (resolved_formula entries one) (collected_in one.body))
    (by_contents entries) in
    let same = weigh-same (λ (one : Entry). length (map (resolved_formula entries one) (collected_in one.body)))
    (λ (one : Entry). length (collected_in one.body))
    (λ one. length-map (collected_in one.body) (resolved_formula entries one)) (by_contents entries) in
    let order = weigh-by (λ (one : Entry). length (collected_in one.body)) entries in
    let less = weigh-less (λ (one : Entry). length (collected_in one.body))
    (λ (one : Entry). (body_contents one.body).formulas) entries
    (λ one here. body-counted MAX_NESTING one.body (its-nesting entries here.0 one one.body are here.1 refl)) in
    omega (arith, count, same, order, less)
