-- What is promised of a draft, as the look-up needs it.
use Rattle.std.proofs.Common.{◌≡◌, ◌<◌, ◌^◌, List, [], ◌∷◌, length, map, sum, refl, ap, arith}
use Rattle.psa_model.specs.Drafts.{IsDraft, member_count}
use Rattle.psa_model.specs.declared.draft.Draft.{Draft}
use Rattle.psa_model.specs.declared.draft.DraftBody.{DraftBody}
use Rattle.psa_model.specs.declared.draft.DraftBody.TheVariants as body
use Rattle.psa_model.specs.declared.draft.DraftDefinition.{DraftDefinition}
use Rattle.psa_names.specs.Meanings.{members_of}
use Rattle.psa_lookup.proofs.GroupingLemmas.{members_in}

member-count : (its : DraftBody) → length (members_of its) ≡ member_count its
member-count body.Nothing = refl
member-count (body.Formula one) = refl
member-count (body.Value one) = refl
member-count (body.State one) = refl
member-count (body.Group one) = refl
member-count (body.Start one) = refl
member-count (body.Steps one other) = refl
member-count (body.Walk one) = refl

member-counts : (ds : List DraftDefinition) → map (λ (d : DraftDefinition). length (members_of d.body)) ds ≡ map (λ (d : DraftDefinition). member_count d.body) ds
member-counts [] = refl
member-counts (d ∷ ds) =
    let head = member-count d.body in
    let tail = member-counts ds in
    cc

pub few-definitions : (draft : Draft) → IsDraft draft → length draft.definitions < 2 ^ 32
few-definitions draft is = (let few = is.few in omega arith)

pub few-members : (draft : Draft) → IsDraft draft → members_in draft.definitions < 2 ^ 32
few-members draft is = (let few = is.few in let same = ap sum (member-counts draft.definitions) in omega arith)
