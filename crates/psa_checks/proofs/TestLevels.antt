-- A test of a draft within so many levels is within as many in the model.
use Rattle.std.proofs.Common.{◌≡◌, ◌==◌, ℕ, zero, suc, Bool, true, List, [], ◌∷◌, Some, None, map, length, ◌&&◌, refl, sym, ap, ◌∙◌, subst}
use Rattle.std.proofs.lemmas.Bool.{and_parts, and_from, lt-ltb}
use Rattle.std.proofs.lemmas.List.{length-map}
use Rattle.std.proofs.lemmas.Option.{slice_get_within}
use Rattle.std.specs.Prelude.{nat_le}
use Rattle.std.specs.List.{list_all}
use Rattle.std.specs.Option.{option_map}
use Rattle.psa_model.specs.declared.walks.Test.{Test}
use Rattle.psa_model.specs.declared.walks.Test.TheOpen.{Test-F}
use Rattle.psa_model.specs.declared.walks.Test.TheViews.{out-Test, out-roll-Test}
use Rattle.psa_model.specs.declared.walks.Test.TheVariants as test
use Rattle.psa_model.specs.declared.ids.InitiatingId.{InitiatingId}
use Rattle.psa_model.specs.declared.model.Initiating.{Initiating}
use Rattle.psa_model.specs.declared.draft.DefinitionKind.TheVariants as kind
use Rattle.psa_model.specs.declared.draft.DraftTest.{DraftTest, out-DraftTest}
use Rattle.psa_model.specs.declared.draft.DraftTest.TheOpen.{DraftTest-F}
use Rattle.psa_model.specs.declared.draft.DraftTest.TheFolds.{fold_out-DraftTest, map-DraftTest}
use Rattle.psa_model.specs.Drafts.{Contents, test_contents, test_contents_step}
use Rattle.psa_model.specs.WalkLevels.{test_within}
use Rattle.psa_names.specs.Outlines.{Outline, Entry, Entries, initiating_event, test_outline}
use Rattle.psa_names.specs.Outlines.{test_layer as outline_layer}
use Rattle.psa_names.specs.Resolved.{resolved_test, resolved_test_layer}
use Rattle.psa_names.specs.Ids.{referred_id}
use Rattle.psa_names.specs.ModelOfDraft.{model_from, linked_id}
use Rattle.psa_names.proofs.ListPlaces.{list_all-mapped}
use Rattle.psa_checks.proofs.Definitions.{AreEntries}
use Rattle.psa_checks.proofs.ReferencesStand.{initiating-meant, referred-at}
use Rattle.psa_checks.proofs.SoundElements.{IsSound, some-level, inside, sound-each}

out-initiating : (id : InitiatingId) → out-Test (test.Initiating id) ≡ Test-F.Initiating id
out-initiating id = ap out-Test (sym (test.rolls-Initiating id)) ∙ out-roll-Test (Test-F.Initiating id)

out-functional : (name state : List ℕ) → out-Test (test.Functional name state) ≡ Test-F.Functional name state
out-functional name state = ap out-Test (sym (test.rolls-Functional name state))
    ∙ out-roll-Test (Test-F.Functional name state)

out-all : (tests : List Test) → out-Test (test.All tests) ≡ Test-F.All tests
out-all tests = ap out-Test (sym (test.rolls-All tests)) ∙ out-roll-Test (Test-F.All tests)

out-any : (tests : List Test) → out-Test (test.Any tests) ≡ Test-F.Any tests
out-any tests = ap out-Test (sym (test.rolls-Any tests)) ∙ out-roll-Test (Test-F.Any tests)

out-not : (tests : List Test) → out-Test (test.Not tests) ≡ Test-F.Not tests
out-not tests = ap out-Test (sym (test.rolls-Not tests)) ∙ out-roll-Test (Test-F.Not tests)

-- each test of these levels in a definition is within as many in the model
abbrev pub TestsAt : Entries → ℕ → Type 0
TestsAt entries levels = (from : Entry) (t : DraftTest)
    → IsSound entries levels from (test_outline t ∷ []) (test_contents t ∷ [])
    → test_within levels (model_from entries) (resolved_test entries from t) ≡ true

-- the initiating event that a definition is in the model
abbrev pub initiating_of : Entries → Entry → Initiating
initiating_of entries one = record {
  name = one.name;
  place = one.place;
  tree = option_map (λ id. record { 0 = id }) (linked_id entries one);
}

some-tests : (levels : ℕ) (entries : Entries) (from : Entry) (tests : List DraftTest) (right : ℕ → Bool)
    → TestsAt entries levels → right (length (map test_contents tests)) ≡ true
    → IsSound entries levels from (map test_outline tests) (map test_contents tests)
    → (right (length (map (resolved_test entries from) tests)) && list_all
    (λ t. test_within levels (model_from entries) t) (map (resolved_test entries from) tests)) ≡ true
some-tests levels entries from tests right below number fine =
    let all = sound-each entries levels from test_outline test_contents
    (λ t. test_within levels (model_from entries) (resolved_test entries from t)) (below from) tests fine in
    and_from _ _
    (ap right (length-map tests (resolved_test entries from) ∙ sym (length-map tests test_contents)) ∙ number)
    (list_all-mapped (λ t. test_within levels (model_from entries) t) (resolved_test entries from) tests ∙ all)

layer-within : (levels : ℕ) (entries : Entries) (from : Entry) → AreEntries entries → TestsAt entries levels
    → (x : DraftTest-F DraftTest)
    → IsSound entries (suc levels) from (outline_layer (map-DraftTest DraftTest Outline test_outline x) ∷ [])
    (test_contents_step (map-DraftTest DraftTest Contents test_contents x) ∷ [])
    → test_within (suc levels) (model_from entries)
    (resolved_test_layer entries from (map-DraftTest DraftTest Test (resolved_test entries from) x)) ≡ true
unfolding test_within
layer-within levels entries from are below (DraftTest-F.Initiating name) fine =
    let inner = inside entries levels from (Some (record { kind = initiating_event; written = name })) [] true
    (Some name) [] fine in
    let m = initiating-meant entries from name (and_parts _ true inner.own).0 in
    let id = referred_id kind.InitiatingEvent initiating_event entries from name in
    let at = referred-at entries from kind.InitiatingEvent initiating_event name (λ one. initiating_of entries one.1)
    m refl in
    rw (out-initiating (record { 0 = id })) (lt-ltb id _ (slice_get_within (model_from entries).initiatings id _ at))
layer-within levels entries from are below (DraftTest-F.Functional name state) fine =
    rw (out-functional name.name state) refl
layer-within levels entries from are below (DraftTest-F.All tests) fine =
    let inner = inside entries levels from None (map test_outline tests) (nat_le 1 (length (map test_contents tests)))
    None (map test_contents tests) fine in
    rw (out-all (map (resolved_test entries from) tests))
    (some-tests levels entries from tests (nat_le 1) below inner.right_number inner.fine)
layer-within levels entries from are below (DraftTest-F.Any tests) fine =
    let inner = inside entries levels from None (map test_outline tests) (nat_le 1 (length (map test_contents tests)))
    None (map test_contents tests) fine in
    rw (out-any (map (resolved_test entries from) tests))
    (some-tests levels entries from tests (nat_le 1) below inner.right_number inner.fine)
layer-within levels entries from are below (DraftTest-F.Not tests) fine =
    let inner = inside entries levels from None (map test_outline tests) (length (map test_contents tests) == 1) None
    (map test_contents tests) fine in
    rw (out-not (map (resolved_test entries from) tests))
    (some-tests levels entries from tests (λ n. n == 1) below inner.right_number inner.fine)

-- a test within some levels in a definition is within as many in the model
pub test-within : (levels : ℕ) (entries : Entries) → AreEntries entries → TestsAt entries levels
test-within zero entries are from t fine = absurd (some-level entries from _ [] _ fine)
test-within (suc levels) entries are from t fine =
    let laid = subst (λ (o : Outline). IsSound entries (suc levels) from (o ∷ []) (test_contents t ∷ []))
    (fold_out-DraftTest Outline outline_layer t) fine in
    let both = subst (λ (c : Contents). IsSound entries (suc levels) from
    (outline_layer (map-DraftTest DraftTest Outline test_outline (out-DraftTest t)) ∷ []) (c ∷ []))
    (fold_out-DraftTest Contents test_contents_step t) laid in
    ap (test_within (suc levels) (model_from entries)) (fold_out-DraftTest Test (resolved_test_layer entries from) t)
    ∙ layer-within levels entries from are (test-within levels entries are) (out-DraftTest t) both
