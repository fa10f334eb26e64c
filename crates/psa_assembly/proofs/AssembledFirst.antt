-- The model of the first definitions, and one definition more.
use Rattle.std.proofs.Common.{◌≡◌, ◌<◌, ◌≤◌, ◌+◌, ℕ, zero, suc, true, false, List, [], ◌∷◌, ◌++◌, Option, Some, None, map, length, take, drop, get_or, refl, ap, sym, ◌∙◌, inl, inr, arith}
use Rattle.std.proofs.lemmas.Bool.{and_parts, false≢true}
use Rattle.std.proofs.lemmas.List.{append-nil, length-map, map-append, take_all}
use Rattle.std.proofs.lemmas.List.Concat.{flat_map-append}
use Rattle.std.proofs.lemmas.Option.{get_or_from_slice_get}
use Rattle.std.specs.Prelude.{is_some}
use Rattle.std.specs.List.{flat_map, list_all, slice_get}
use Rattle.std.specs.Option.{option_map}
use Rattle.psa_model.specs.Drafts.{IsDraft, Contents, together, body_contents}
use Rattle.psa_model.specs.declared.formula.Formula.{Formula}
use Rattle.psa_model.specs.declared.draft.Draft.{Draft}
use Rattle.psa_model.specs.declared.draft.DraftDefinition.{DraftDefinition}
use Rattle.psa_names.specs.declared.found.Found.{Found}
use Rattle.psa_names.specs.Outlines.{Entry, Entries, entry_of, entries_of}
use Rattle.psa_names.specs.Meanings.{Meaning, meaning_of}
use Rattle.psa_names.specs.GroupRules.{meanings_of_members, can_be_member}
use Rattle.psa_names.specs.Chains.{references_of}
use Rattle.psa_names.specs.Found.{IsFound, meaning_of_sense}
use Rattle.psa_names.specs.Collected.{collected_before}
use Rattle.psa_names.specs.NameFaults.{name_fault}
use Rattle.psa_assembly.specs.declared.assembly.Assembly.{Assembly}
use Rattle.psa_assembly.specs.Assembling.{IsPromised, IsNext, Adds, lists_of, with_lists, joined_lists, no_lists, formulas_of, meanings_in, AreAssembled}
use Rattle.psa_bodies.proofs.NumberedDefinitions.{get-map}
use Rattle.psa_bodies.proofs.NumberingInOrder.{IsNumberable, take-next, drop-next, count-few, group-or-none, group-family}
use Rattle.psa_bodies.proofs.Numberable.{numberable}

-- ---- lists

append-same : {A : Type 0} (xs ys zs : List A) → xs ++ ys ≡ xs ++ zs → ys ≡ zs
append-same [] ys zs same = same
append-same (x ∷ xs) ys zs same =
    let h : x ∷ (xs ++ ys) ≡ x ∷ (xs ++ zs) = same in
    let e : xs ++ ys ≡ xs ++ zs = cc in
    append-same xs ys zs e

flat_map-last : {A B : Type 0} (f : A → List B) (xs : List A) (x : A) → flat_map f (xs ++ x ∷ []) ≡ flat_map f xs ++ f x
flat_map-last f xs x = flat_map-append f xs (x ∷ []) ∙ ap (λ ys. flat_map f xs ++ ys) (append-nil (f x))

joined-last : (entries some : Entries) (one : Entry) → joined_lists entries (some ++ one ∷ []) ≡ with_lists (joined_lists entries some) (lists_of entries one)
joined-last entries some one = simp flat_map-last

-- ---- what is promised

together-numbers : (all : List Contents) (k : ℕ) (one : Contents) → (together all).has_numbers ≡ true → slice_get all k ≡ Some one → one.has_numbers ≡ true
together-numbers [] k one has there = absurd (let h : None ≡ Some one = there in cc)
together-numbers (x ∷ xs) zero one has there =
    let h : Some x ≡ Some one = there in
    let e : x ≡ one = cc in
    ap (λ (c : Contents). c.has_numbers) (sym e) ∙ (and_parts x.has_numbers (together xs).has_numbers has).0
together-numbers (x ∷ xs) (suc k) one has there = together-numbers xs k one (and_parts x.has_numbers (together xs).has_numbers has).1 there

own-definition : (ds : List DraftDefinition) (k : ℕ) (d : DraftDefinition) → k < length ds → d ≡ get_or ds k d → slice_get ds k ≡ Some d
own-definition [] k d inside is = absurd (omega arith)
own-definition (x ∷ ds) zero d inside is = ap Some (sym is)
own-definition (x ∷ ds) (suc k) d inside is = own-definition ds k d (omega arith) is

pub promised-at : (draft : Draft) (items : List DraftDefinition) (i : ℕ) (d : DraftDefinition) → IsDraft draft → name_fault draft ≡ None → items ≡ draft.definitions → i < length items → d ≡ get_or items i d → slice_get (entries_of draft) i ≡ Some (entry_of d) → IsPromised d
promised-at draft items i d is faultless same inside own there =
    let can = numberable draft is faultless in
    let few = count-few (entries_of draft) 0 i (entry_of d) can there in
    let at : slice_get draft.definitions i ≡ Some d = ap (λ ds. slice_get ds i) (sym same) ∙ own-definition items i d inside own in
    record {
      body = can.bodies i (entry_of d) there;
      numbers = together-numbers (map (λ (one : DraftDefinition). body_contents one.body) draft.definitions) i (body_contents d.body) is.numbers
          (get-map (λ (one : DraftDefinition). body_contents one.body) draft.definitions i ∙ ap (option_map (λ (one : DraftDefinition). body_contents one.body)) at);
      few = omega (arith, few);
    }

-- ---- members stand for something

some-can : (entries : Entries) (all : List (Option Meaning)) → list_all (can_be_member entries) all ≡ true → list_all is_some all ≡ true
some-can entries [] can = refl
some-can entries (None ∷ all) can = absurd (false≢true (and_parts false (list_all (can_be_member entries) all) can).0)
some-can entries (Some m ∷ all) can = some-can entries all (and_parts (can_be_member entries (Some m)) (list_all (can_be_member entries) all) can).1

known-members : (entries : Entries) (i : ℕ) (one : Entry) → IsNumberable entries → slice_get entries i ≡ Some one → list_all is_some (meanings_of_members entries one) ≡ true
known-members entries i one can there =
    elim (group-or-none one.kind one.body (can.bodies i one there)) [
      | inl group ↦ some-can entries (meanings_of_members entries one) (can.allowed i one there (group-family one.kind one refl group)).members
      | inr none ↦ rw none refl
    ]

-- ---- the first definitions

pub none-assembled : (draft : Draft) (found : Found) (assembly : Assembly) (lists : List (List Formula)) → IsFound draft found → assembly.model ≡ no_lists → assembly.references ≡ found.references → assembly.members ≡ found.members → lists ≡ [] → AreAssembled (entries_of draft) 0 assembly lists
none-assembled draft found assembly lists is model references members none = record {
  model = model;
  lists_are = none;
  references = ap (map (meaning_of_sense (entries_of draft))) references ∙ is.references;
  members = ap (map (meaning_of_sense (entries_of draft))) members ∙ is.members;
}

pub next-assembled : (entries : Entries) (i : ℕ) (one : Entry) (assembly : Assembly) (lists : List (List Formula)) → IsNumberable entries → slice_get entries i ≡ Some one → AreAssembled entries i assembly lists → IsNext entries one assembly
next-assembled entries i one assembly lists can there before = record {
  later = flat_map (meanings_in entries) (drop (i + 1) entries);
  others = flat_map (meanings_of_members entries) (drop (i + 1) entries);
  references = before.references ∙ ap (flat_map (meanings_in entries)) (drop-next entries i one there);
  members = before.members ∙ ap (flat_map (meanings_of_members entries)) (drop-next entries i one there);
  known = known-members entries i one can there;
}

pub more-assembled : (entries : Entries) (i : ℕ) (one : Entry) (assembly after : Assembly) (lists more : List (List Formula)) (formulas : List Formula) → slice_get entries i ≡ Some one → AreAssembled entries i assembly lists → Adds entries one assembly after → formulas ≡ formulas_of entries one → more ≡ lists ++ formulas ∷ [] → AreAssembled entries (i + 1) after more
more-assembled entries i one assembly after lists more formulas there before adds made pushed = record {
  model =
      adds.model ∙ ap (λ m. with_lists m (lists_of entries one)) before.model
      ∙ sym (joined-last entries (take i entries) one)
      ∙ ap (joined_lists entries) (sym (take-next entries i one there));
  lists_are =
      pushed ∙ ap (λ ls. ls ++ formulas ∷ []) before.lists_are
      ∙ ap (λ fs. map (formulas_of entries) (take i entries) ++ fs ∷ []) made
      ∙ sym (map-append (formulas_of entries) (take i entries) (one ∷ []))
      ∙ ap (map (formulas_of entries)) (sym (take-next entries i one there));
  references =
      append-same (meanings_in entries one) _ _ (sym adds.references ∙ before.references ∙ ap (flat_map (meanings_in entries)) (drop-next entries i one there));
  members =
      append-same (meanings_of_members entries one) _ _ (sym adds.members ∙ before.members ∙ ap (flat_map (meanings_of_members entries)) (drop-next entries i one there));
}

-- ---- numbers of collected formulas

pub number-before : (draft : Draft) (before : List ℕ) (i d : ℕ) (one : Entry) → before ≡ map (collected_before (entries_of draft)) (entries_of draft) → slice_get (entries_of draft) i ≡ Some one → get_or before i d ≡ collected_before (entries_of draft) one
number-before draft before i d one is there =
    get_or_from_slice_get before i (collected_before (entries_of draft) one) d
    (ap (λ (ns : List ℕ). slice_get ns i) is ∙ get-map (collected_before (entries_of draft)) (entries_of draft) i ∙ ap (option_map (collected_before (entries_of draft))) there)

pub inside-before : (draft : Draft) (before : List ℕ) (items : List DraftDefinition) (i : ℕ) → before ≡ map (collected_before (entries_of draft)) (entries_of draft) → items ≡ draft.definitions → i < length items → i < length before
inside-before draft before items i is same inside =
    let a = ap (λ (ns : List ℕ). length ns) is ∙ length-map (entries_of draft) (collected_before (entries_of draft)) ∙ length-map draft.definitions entry_of in
    let b = ap (λ (ds : List DraftDefinition). length ds) same in
    omega (arith, a, b, inside)

-- ---- all definitions

pub all-assembled : (draft : Draft) (items : List DraftDefinition) (i : ℕ) → items ≡ draft.definitions → length items ≤ i → take i (entries_of draft) ≡ entries_of draft
all-assembled draft items i same past =
    let a = length-map draft.definitions entry_of in
    let b = ap (λ (ds : List DraftDefinition). length ds) same in
    take_all i (entries_of draft) (omega (arith, a, b, past))
