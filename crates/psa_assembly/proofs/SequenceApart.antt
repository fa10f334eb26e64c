-- Definitions in the order of their contents stand at places that differ.
use Rattle.std.proofs.Common.{◌≡◌, inl, inr, ℕ, List, Option, Some, None, map, refl, ap, sym, ◌∙◌}
use Rattle.std.proofs.lemmas.Bool.{cases_order}
use Rattle.std.specs.List.{slice_get}
use Rattle.std.specs.Option.{option_map}
use Rattle.psa_model.specs.Drafts.{IsDraft}
use Rattle.psa_model.specs.declared.draft.Draft.{Draft}
use Rattle.psa_names.specs.Outlines.{Entry, Entries, entries_of}
use Rattle.psa_names.specs.Collected.{by_contents}
use Rattle.psa_names.proofs.ContentsOrder.{contents-never, entries-ascend}
use Rattle.psa_names.proofs.ContentsSorted.{IsSorted, by-sorted}
use Rattle.psa_bodies.specs.Joining.{AreApart}
use Rattle.psa_bodies.proofs.ContentsPlaces.{sorted-at}
use Rattle.psa_bodies.proofs.NumberedDefinitions.{get-map}

-- no definition stands twice in the order of contents
sorted-once : (draft : Draft) → IsDraft draft → (i j : ℕ) (x : Entry) → slice_get (by_contents (entries_of draft)) i ≡ Some x → slice_get (by_contents (entries_of draft)) j ≡ Some x → i ≡ j
sorted-once draft is i j x here there = elim (cases_order i j) [
  | inl same ↦ same
  | inr (inl less) ↦ let before = sorted-at all sorted i j x x here there less in absurd (contents-never x x before before)
  | inr (inr more) ↦ let before = sorted-at all sorted j i x x there here more in absurd (contents-never x x before before)
]
  where
    all : Entries
    all = by_contents (entries_of draft)

    sorted : IsSorted (by_contents (entries_of draft))
    sorted = by-sorted (entries_of draft) (entries-ascend draft is)

some-inside : (o : Option Entry) (p : Option Entry) → option_map Some o ≡ Some p → o ≡ p
some-inside None p is = absurd (let e : None ≡ Some p = is in cc)
some-inside (Some x) p is = let e : Some (Some x) ≡ Some p = is in cc

inside-all : (o : Option Entry) (p : Option Entry) → option_map Some o ≡ Some p → (x : Entry) × (o ≡ Some x)
inside-all None p is = absurd (let e : None ≡ Some p = is in cc)
inside-all (Some x) p is = (x, refl)

-- the definition at a place of the sequence
at-place : (entries all : Entries) (sequence : List ℕ) (k place : ℕ) → map (λ place. slice_get entries place) sequence ≡ map Some all → slice_get sequence k ≡ Some place → option_map Some (slice_get all k) ≡ Some (slice_get entries place)
at-place entries all sequence k place same there =
    sym (get-map Some all k) ∙ ap (λ (os : List (Option Entry)). slice_get os k) (sym same)
    ∙ get-map (λ p. slice_get entries p) sequence k ∙ ap (option_map (λ p. slice_get entries p)) there

-- no place stands twice in the order of contents
pub sequence-apart : (draft : Draft) (sequence : List ℕ) → IsDraft draft → map (λ place. slice_get (entries_of draft) place) sequence ≡ map Some (by_contents (entries_of draft)) → AreApart sequence
sequence-apart draft sequence is same = record {
  apart = λ i j place here there.
      let entries = entries_of draft in
      let all = by_contents entries in
      let first = at-place entries all sequence i place same here in
      let second = at-place entries all sequence j place same there in
      let some = inside-all (slice_get all i) (slice_get entries place) first in
      sorted-once draft is i j some.0 some.1
      (some-inside (slice_get all j) (slice_get entries place) second ∙ sym (some-inside (slice_get all i) (slice_get entries place) first) ∙ some.1);
}
