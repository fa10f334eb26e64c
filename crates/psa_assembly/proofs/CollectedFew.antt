-- The numbers of collected formulas are small.
use Rattle.std.proofs.Common.{◌≡◌, ◌<◌, ◌+◌, ℕ, Some, length, take, sym, ◌∙◌, arith}
use Rattle.std.specs.List.{slice_get}
use Rattle.psa_model.specs.Drafts.{IsDraft}
use Rattle.psa_model.specs.declared.draft.Draft.{Draft}
use Rattle.psa_names.specs.Outlines.{Entry, entries_of}
use Rattle.psa_names.specs.Collected.{by_contents, collected_in, collected_before}
use Rattle.psa_names.proofs.Sums.{weigh, sum-weigh}
use Rattle.psa_names.proofs.ContentsOrder.{entries-ascend}
use Rattle.psa_names.proofs.ContentsSorted.{weigh-by, has-by, by-sorted}
use Rattle.psa_names.proofs.FewCollected.{few-collected}
use Rattle.psa_bodies.proofs.ContentsPlaces.{weight_before, weigh-before}
use Rattle.psa_bodies.proofs.CountedBefore.{weigh-has}

abbrev collecting : Entry → ℕ
collecting one = length (collected_in one.body)

-- the formulas that are collected before a definition, and its own, are fewer than a u32 holds
pub collected-few : (draft : Draft) (i : ℕ) (one : Entry) → IsDraft draft → slice_get (entries_of draft) i ≡ Some one → collected_before (entries_of draft) one + length (collected_in one.body) < 4294967296
collected-few draft i one is there =
    let entries = entries_of draft in
    let sorted = by_contents entries in
    let place = has-by entries one (i, there) in
    let before : collected_before entries one ≡ weigh collecting (take place.0 sorted) =
    sum-weigh (weight_before collecting one) entries
    ∙ sym (weigh-by (weight_before collecting one) entries)
    ∙ weigh-before collecting one sorted (by-sorted entries (entries-ascend draft is)) place.0 place.1 in
    let less = weigh-has collecting sorted place.0 one place.1 in
    let all = weigh-by collecting entries in
    let few = few-collected draft is in
    omega (arith, before, less, all, few)
