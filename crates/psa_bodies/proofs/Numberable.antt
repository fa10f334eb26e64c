-- What is promised of a draft is enough to number its definitions.
use Rattle.std.proofs.Common.{◌≡◌, ◌<◌, ◌+◌, ℕ, zero, suc, get_or, true, List, [], ◌∷◌, Some, None, map, length, All, refl, ap, sym, ◌∙◌, arith}
use Rattle.std.proofs.lemmas.List.{length-map}
use Rattle.std.proofs.lemmas.List.Elements.{All-head, All-tail}
use Rattle.std.proofs.lemmas.List.Sums.{sum_by-cons, sum-map}
use Rattle.std.specs.List.{slice_get, sum_by}
use Rattle.psa_model.specs.Drafts.{IsDraft, has_body, member_count}
use Rattle.psa_model.specs.declared.draft.Draft.{Draft}
use Rattle.psa_model.specs.declared.draft.DraftDefinition.{DraftDefinition}
use Rattle.psa_names.specs.Outlines.{Entry, entry_of, entries_of}
use Rattle.psa_names.specs.NameFaults.{name_fault}
use Rattle.psa_bodies.proofs.GroupEvents.{allowed-at}
use Rattle.psa_bodies.proofs.NumberingInOrder.{IsNumberable}

abbrev pub is_right : DraftDefinition → Type 0
is_right definition = has_body definition.kind definition.body ≡ true

-- the body of a definition is that of its kind
pub entry-body : (ds : List DraftDefinition) (k : ℕ) (x : Entry) → All (λ definition. has_body definition.kind definition.body ≡ true) ds → slice_get (map entry_of ds) k ≡ Some x → has_body x.kind x.body ≡ true
entry-body [] k x all there = absurd (let h : None ≡ Some x = there in cc)
entry-body (d ∷ ds) zero x all there =
    let h : Some (entry_of d) ≡ Some x = there in
    let e : entry_of d ≡ x = cc in
    sym (ap (λ (y : Entry). has_body y.kind y.body) e) ∙ All-head is_right d ds all
entry-body (d ∷ ds) (suc k) x all there = entry-body ds k x (All-tail is_right d ds all) there

entry-weight : (ds : List DraftDefinition) → sum_by (λ (one : Entry). member_count one.body) (map entry_of ds) ≡ sum_by (λ (one : DraftDefinition). member_count one.body) ds
entry-weight [] = refl
entry-weight (d ∷ ds) =
    sum_by-cons (λ (one : Entry). member_count one.body) (entry_of d) (map entry_of ds)
    ∙ ap (λ m. member_count d.body + m) (entry-weight ds)
    ∙ sym (sum_by-cons (λ (one : DraftDefinition). member_count one.body) d ds)

pub numberable : (draft : Draft) → IsDraft draft → name_fault draft ≡ None → IsNumberable (entries_of draft)
numberable draft is faultless = record {
  bodies = λ k x there. entry-body draft.definitions k x is.bodies there;
  allowed = λ k x there group. allowed-at draft k x faultless there group;
  few =
      let few = is.few in
      let a = length-map draft.definitions entry_of in
      let b = entry-weight draft.definitions in
      let c = sum-map (λ (one : DraftDefinition). member_count one.body) draft.definitions in
      omega (arith, few, a, b, c);
}

pub entry-there : (ds : List DraftDefinition) (k : ℕ) (d : DraftDefinition) → k < length ds → d ≡ get_or ds k d → slice_get (map entry_of ds) k ≡ Some (entry_of d)
entry-there [] k d inside is = absurd (omega arith)
entry-there (x ∷ ds) zero d inside is = ap (λ y. Some (entry_of y)) (sym is)
entry-there (x ∷ ds) (suc k) d inside is = entry-there ds k d (omega arith) is

pub entry-in : (ds items : List DraftDefinition) (k : ℕ) (d : DraftDefinition) → items ≡ ds → k < length items → d ≡ get_or items k d → slice_get (map entry_of ds) k ≡ Some (entry_of d)
entry-in ds items k d same inside is = ap (λ xs. slice_get (map entry_of xs) k) (sym same) ∙ entry-there items k d inside is
