-- The definitions of a draft collect no more formulas than its size.
use Rattle.std.proofs.Common.{◌≡◌, ◌≤◌, ◌+◌, true, [], ◌∷◌, map, length, refl, arith}
use Rattle.std.proofs.lemmas.Bool.{and_from}
use Rattle.std.proofs.lemmas.List.{length-map}
use Rattle.std.specs.Prelude.{nat_le}
use Rattle.psa_model.specs.declared.draft.Draft.{Draft}
use Rattle.psa_model.specs.declared.draft.DraftDefinition.{DraftDefinition}
use Rattle.psa_model.specs.declared.limits.TheConstants.{MAX_NESTING, MAX_SIZE}
use Rattle.psa_model.specs.Drafts.{IsDraft, Contents, body_contents, member_count, draft_size}
use Rattle.psa_names.specs.Outlines.{Entry, entry_of, entries_of}
use Rattle.psa_names.specs.Collected.{collected_in}
use Rattle.psa_names.proofs.ListPlaces.{Has, has-map, all-at}
use Rattle.psa_names.proofs.Sums.{weigh, sum-weigh, weigh-map, weigh-less}
use Rattle.psa_names.proofs.ElementNesting.{are_shallow, together-shallow}
use Rattle.psa_names.proofs.CollectedCounts.{together-formulas, body-counted}

-- the size of a draft by its definitions
pub draft-sized : (draft : Draft)
    → draft_size draft ≡ length (entries_of draft) + weigh (λ (e : Entry). member_count e.body) (entries_of draft)
    + weigh (λ (e : Entry). (body_contents e.body).formulas) (entries_of draft)
draft-sized draft =
    let definitions = length-map draft.definitions entry_of in
    let members = sum-weigh (λ (d : DraftDefinition). member_count d.body) draft.definitions in
    let entry_members = weigh-map (λ (e : Entry). member_count e.body) entry_of draft.definitions in
    let formulas = together-formulas (map (λ (d : DraftDefinition). body_contents d.body) draft.definitions) in
    let mapped = weigh-map (λ (c : Contents). c.formulas) (λ (d : DraftDefinition). body_contents d.body)
    draft.definitions in
    let entry_formulas = weigh-map (λ (e : Entry). (body_contents e.body).formulas) entry_of draft.definitions in
    omega (arith, definitions, members, entry_members, formulas, mapped, entry_formulas)

body-shallow : (draft : Draft) → IsDraft draft → (one : DraftDefinition) → Has draft.definitions one
    → are_shallow MAX_NESTING (body_contents one.body ∷ []) ≡ true
body-shallow draft is one here =
    let all = together-shallow MAX_NESTING (map (λ (d : DraftDefinition). body_contents d.body) draft.definitions)
    is.shallow in
    and_from _ true (all-at (λ (c : Contents). nat_le c.nesting MAX_NESTING)
    (map (λ (d : DraftDefinition). body_contents d.body) draft.definitions) (body_contents one.body) all
    (has-map (λ (d : DraftDefinition). body_contents d.body) draft.definitions one here)) refl

-- the definitions of a draft collect no more formulas than the limit of size
pub few-collected : (draft : Draft) → IsDraft draft
    → weigh (λ (one : Entry). length (collected_in one.body)) (entries_of draft) ≤ MAX_SIZE
few-collected draft is =
    let less = weigh-less (λ (one : DraftDefinition). length (collected_in one.body))
    (λ (one : DraftDefinition). (body_contents one.body).formulas) draft.definitions
    (λ one here. body-counted MAX_NESTING one.body (body-shallow draft is one here)) in
    let collected = weigh-map (λ (one : Entry). length (collected_in one.body)) entry_of draft.definitions in
    let formulas = weigh-map (λ (one : Entry). (body_contents one.body).formulas) entry_of draft.definitions in
    let same = draft-sized draft in
    let few = is.few in
    omega (arith, less, collected, formulas, same, few)

-- a draft has no more definitions than the limit of size
pub few-definitions : (draft : Draft) → IsDraft draft → length (entries_of draft) ≤ MAX_SIZE
few-definitions draft is = let same = draft-sized draft in let few = is.few in omega (arith, same, few)
