-- A fault of trees is one of their files.
use Rattle.std.proofs.Common.{◌≡◌, ◌==◌, ◌<◌, ◌≤◌, ◌-◌, ◌&&◌, not, ℕ, suc, Bool, true, false, List, [], ◌∷◌, Option, Some, None, Result, Ok, Err, map, take, filter, filter_map, length, nat_lt, if◌then◌else◌, refl, sym, ap, subst, ◌∙◌}
use Rattle.std.specs.List.{AllByRecursion, enumerate_from, slice_get, list_any}
use Rattle.std.specs.Option.{option_map, option_or}
use Rattle.psa_number.specs.Ends.{Ends}
use Rattle.psa_number.specs.Scaled.{Scaled}
use Rattle.psa_text.specs.declared.tree.Element.{Element}
use Rattle.psa_model.specs.declared.draft.DefinitionKind.{DefinitionKind}
use Rattle.psa_model.specs.declared.draft.DefinitionKind.TheVariants as kind
use Rattle.psa_model.specs.declared.draft.DraftBody.{DraftBody}
use Rattle.psa_model.specs.declared.draft.DraftBody.TheVariants as body
use Rattle.psa_model.specs.declared.expanded.Expanded.{Expanded}
use Rattle.psa_model.specs.declared.expanded.ExpandedEvent.{ExpandedEvent}
use Rattle.psa_model.specs.declared.expanded.ExpandedEvent.TheVariants.{Basic, Member, Shared}
use Rattle.psa_model.specs.declared.fault.FaultKind.{FaultKind}
use Rattle.psa_model.specs.declared.fault.FaultKind.TheVariants as fault
use Rattle.psa_model.specs.declared.fault.ModelFault.{ModelFault}
use Rattle.psa_model.specs.declared.ids.Place.{Place}
use Rattle.psa_model.specs.declared.model.BasicEvent.{BasicEvent}
use Rattle.psa_model.specs.declared.model.Gate.{Gate}
use Rattle.psa_model.specs.declared.model.Group.{Group}
use Rattle.psa_model.specs.declared.model.Initiating.{Initiating}
use Rattle.psa_model.specs.declared.model.Model.{Model}
use Rattle.psa_model.specs.declared.model.Sequence.{Sequence}
use Rattle.psa_model.specs.declared.settings.Settings.{Settings}
use Rattle.psa_model.specs.declared.targets.Target.{Target}
use Rattle.psa_model.specs.declared.targets.Target.TheVariants as target
use Rattle.psa_model.specs.Faults as faults
use Rattle.psa_model.specs.Expansion.{expanded_of}
use Rattle.psa_model.specs.PathFaults as paths
use Rattle.psa_model.specs.Paths.{Arrival, too_long, arrives, paths_of}
use Rattle.psa_model.specs.PathTargets.{targets_of}
use Rattle.psa_model.specs.Quantities.{has_quantities}
use Rattle.psa_model.specs.RankFaults.{place_of_target, rank_fault}
use Rattle.psa_model.specs.Ranks.{ranks_of}
use Rattle.psa_model.specs.Values.{and_event, event_interval, place_of_event, values_from, values_of}
use Rattle.psa_model.specs.declared.limits.TheConstants.{MAX_EVENTS, MAX_PATHS}
use Rattle.psa_elements.specs.DraftReading.{draft_of}
use Rattle.psa_elements.specs.ShapeFaults.{shape_fault}
use Rattle.psa_names.specs.Ids.{is_kind, all_of_kind}
use Rattle.psa_names.specs.ModelOfDraft.{model_name, expression_in, gate_of, basics_of, defined_basics, group_of, model_from, model_of}
use Rattle.psa_names.specs.Meanings.{defined_by_group, meaning_of}
use Rattle.psa_names.specs.NameFaults.{duplicates, bad_references, bad_groups, cycles, too_deep, fault_of_reference, reference_fault, or_next, first_fault, name_fault}
use Rattle.psa_names.specs.NameSpaces.{groups, is_in_family, repeats, Named, named_state, named_in, all_named}
use Rattle.psa_names.specs.Outlines.{Reference, Entry, Entries, entries_of}
use Rattle.psa_names.specs.PlacedFaults.{PlacedFault, fault_of, earlier, earliest}
use Rattle.psa_names.specs.PlacedFaults as placed
use Rattle.psa_names.specs.Chains.{references_of, is_chained, leads, is_within_all}
use Rattle.psa_names.specs.GroupRules.{is_allowed_group}
use Rattle.psa_model.specs.declared.model.TheConstants.{MAX_DEPTH}
use Rattle.psa_model.specs.Drafts.{stands_before, reference_position}
use Rattle.psa_outcome.specs.Analyses.{unless, with_values, with_quantities, analysis_of_expanded, analysis_of_model, analysis_of_draft, analysis_of}
use Rattle.psa_load.proofs.ShapeFiles.{shape-in}
use Rattle.psa_load.proofs.DraftFiles.{IsOfFiles, draft-of-files}
use Rattle.psa_load.proofs.EachOf.{each-map, each-append, each-filter, each-flat, each-found, each-numbered, each-weaker, at-place}

some-same : {A : Type 0} {x y : A} → Some x ≡ Some y → x ≡ y
some-same e = cc

err-same : {A B : Type 0} {x y : B} → ◌≡◌ {A = Result A B} (Err x) (Err y) → x ≡ y
err-same e = cc

no-some : {A : Type 0} {x : A} → None ≡ Some x → ⊥
no-some e = absurd (cc)

ok-not-err : {A B : Type 0} {x : A} {y : B} → ◌≡◌ {A = Result A B} (Ok x) (Err y) → ⊥
ok-not-err e = absurd (cc)

-- ---- names

abbrev Placed : ℕ → PlacedFault → Type 0
Placed n p = p.fault.file < n

-- of faults of the files the earliest is one of them
earliest-in : (n : ℕ) (all : List PlacedFault) → AllByRecursion (Placed n) all → (found : PlacedFault) → earliest all ≡ Some found → Placed n found
earliest-in n [] each found e = absurd (no-some e)
earliest-in n (one ∷ others) each found e = by-rest (earliest others) (λ p q. earliest-in n others each.1 p q) e
  where
    by-test : (b : Bool) (other : PlacedFault) → Placed n other → (if b then Some other else Some one) ≡ Some found → Placed n found
    by-test true other in-files e = subst (Placed n) (some-same e) in-files
    by-test false other in-files e = subst (Placed n) (some-same e) each.0

    by-rest : (o : Option PlacedFault) → ((p : PlacedFault) → o ≡ Some p → Placed n p) → earlier one o ≡ Some found → Placed n found
    by-rest None rest e = subst (Placed n) (some-same e) each.0
    by-rest (Some other) rest e = by-test (stands_before other.position one.position) other (rest other refl) e

-- the first of two checks
next-in : (n : ℕ) (one : Option PlacedFault) (later : Unit {0} → Option PlacedFault) → ((p : PlacedFault) → one ≡ Some p → Placed n p) → ((p : PlacedFault) → later tt ≡ Some p → Placed n p) → (p : PlacedFault) → or_next one later ≡ Some p → Placed n p
next-in n None later first second p e = second p e
next-in n (Some found) later first second p e = first p e

option-fault : (n : ℕ) (o : Option PlacedFault) → ((p : PlacedFault) → o ≡ Some p → Placed n p) → (found : ModelFault) → option_map (λ (one : PlacedFault). one.fault) o ≡ Some found → found.file < n
option-fault n None each found e = absurd (no-some e)
option-fault n (Some p) each found e = subst (λ (f : ModelFault). f.file < n) (some-same e) (each p refl)

reference-in : (n : ℕ) (entries : Entries) (from : Entry) (r : Reference) (p : PlacedFault) → r.written.place.file < n → fault_of_reference entries from r ≡ Some p → Placed n p
reference-in n entries from r p in-files e = by-kind (reference_fault entries r.kind (meaning_of entries from r)) e
  where
    by-kind : (o : Option FaultKind) → option_map (λ its. placed.fault_at its (reference_position r.written) r.written.place r.written.name) o ≡ Some p → Placed n p
    by-kind None e = absurd (no-some e)
    by-kind (Some its) e = subst (Placed n) (some-same e) in-files

module _ (n : ℕ) (entries : Entries) (all : AllByRecursion (IsOfFiles n) entries) where
  placed-entries : AllByRecursion (λ (one : Entry). one.place.file < n) entries
  placed-entries = each-weaker (IsOfFiles n) (λ (one : Entry). one.place.file < n) (λ one is. is.place) entries all

  numbered-entries : AllByRecursion (λ (one : ℕ × Entry). one.1.place.file < n) (enumerate_from 0 entries)
  numbered-entries = each-numbered (λ (one : Entry). one.place.file < n) 0 entries placed-entries

  named-entries : AllByRecursion (λ (one : Named). one.place.file < n) (all_named entries)
  named-entries =
      each-flat (λ (one : Named). one.place.file < n) (IsOfFiles n) named_in
      (λ one is. (is.place, each-map (λ (named : Named). named.place.file < n) named_state one.states is.states)) entries all

  duplicates-in : AllByRecursion (Placed n) (duplicates entries)
  duplicates-in =
      each-map (Placed n) (λ (one : Named). placed.fault_at fault.Duplicate one.position one.place one.name)
      (filter (λ one. list_any (repeats one) (all_named entries)) (all_named entries))
      (each-filter (λ (one : Named). one.place.file < n) (λ one. list_any (repeats one) (all_named entries)) (all_named entries) named-entries)

  references-in : AllByRecursion (Placed n) (bad_references entries)
  references-in =
      each-flat (Placed n) (IsOfFiles n) (λ one. filter_map (fault_of_reference entries one) (references_of one))
      (λ one is. each-found (Placed n) (λ (r : Reference). r.written.place.file < n) (fault_of_reference entries one) (λ r p in-files e. reference-in n entries one r p in-files e) (references_of one) is.references)
      entries all

  groups-in : AllByRecursion (Placed n) (bad_groups entries)
  groups-in =
      each-map (Placed n) (λ (one : ℕ × Entry). fault_of fault.BadGroup one.1)
      (filter (λ one. is_in_family groups one.1 && not (is_allowed_group entries (take one.0 entries) one.1)) (enumerate_from 0 entries))
      (each-filter (λ (one : ℕ × Entry). one.1.place.file < n) (λ one. is_in_family groups one.1 && not (is_allowed_group entries (take one.0 entries) one.1)) (enumerate_from 0 entries) numbered-entries)

  cycles-in : AllByRecursion (Placed n) (cycles entries)
  cycles-in =
      each-map (Placed n) (λ (one : ℕ × Entry). fault_of fault.Cycle one.1)
      (filter (λ one. leads (length entries) entries one.0 one.0) (enumerate_from 0 entries))
      (each-filter (λ (one : ℕ × Entry). one.1.place.file < n) (λ one. leads (length entries) entries one.0 one.0) (enumerate_from 0 entries) numbered-entries)

  depths-in : AllByRecursion (Placed n) (too_deep entries)
  depths-in =
      each-map (Placed n) (fault_of fault.TooDeep)
      (filter (λ one. is_chained one.kind && not (is_within_all MAX_DEPTH entries one)) entries)
      (each-filter (λ (one : Entry). one.place.file < n) (λ one. is_chained one.kind && not (is_within_all MAX_DEPTH entries one)) entries placed-entries)

  -- the first fault of names is of the files
  pub name-in : (found : ModelFault) → first_fault entries ≡ Some found → found.file < n
  name-in found e =
      option-fault n
      (or_next (earliest (duplicates entries)) (λ u. or_next (earliest (bad_references entries))
      (λ u. or_next (earliest (bad_groups entries)) (λ u. or_next (earliest (cycles entries))
      (λ u. earliest (too_deep entries))))))
      (next-in n (earliest (duplicates entries)) _ (earliest-in n (duplicates entries) duplicates-in)
      (next-in n (earliest (bad_references entries)) _ (earliest-in n (bad_references entries) references-in)
      (next-in n (earliest (bad_groups entries)) _ (earliest-in n (bad_groups entries) groups-in)
      (next-in n (earliest (cycles entries)) _ (earliest-in n (cycles entries) cycles-in) (earliest-in n (too_deep entries) depths-in)))))
      found e

-- ---- the places of a model

-- what a fault of a model may stand at
record StandsIn (n : ℕ) (model : Model) : Type 0 where
  gates : AllByRecursion (λ (gate : Gate). gate.place.file < n) model.gates
  basics : AllByRecursion (λ (basic : BasicEvent). basic.place.file < n) model.basics
  groups : AllByRecursion (λ (group : Group). group.place.file < n) model.groups
  sequences : AllByRecursion (λ (sequence : Sequence). sequence.place.file < n) model.sequences
  initiatings : AllByRecursion (λ (initiating : Initiating). initiating.place.file < n) model.initiatings

group-place : (entries : Entries) (one : Entry) (b : DraftBody) → one.body ≡ b → (group_of entries one).place ≡ one.place
group-place entries one body.Nothing e = rw e refl
group-place entries one (body.Formula f) e = rw e refl
group-place entries one (body.Value v) e = rw e refl
group-place entries one (body.State s) e = rw e refl
group-place entries one (body.Group g) e = rw e refl
group-place entries one (body.Start t) e = rw e refl
group-place entries one (body.Steps i l) e = rw e refl
group-place entries one (body.Walk b) e = rw e refl

module _ (n : ℕ) (entries : Entries) (all : AllByRecursion (λ (one : Entry). one.place.file < n) entries) where
  -- the definitions of a kind
  kind-in : (its : DefinitionKind) → AllByRecursion (λ (one : ℕ × Entry). one.1.place.file < n) (all_of_kind its entries)
  kind-in its =
      each-filter (λ (one : ℕ × Entry). one.1.place.file < n) (λ one. is_kind its one.1) (enumerate_from 0 entries)
      (each-numbered (λ (one : Entry). one.place.file < n) 0 entries all)

  basics-in : (one : Entry) → one.place.file < n → AllByRecursion (λ (basic : BasicEvent). basic.place.file < n) (basics_of entries one)
  basics-in one in-files = by-kind (is_kind kind.BasicEvent one) (is_kind kind.Group one)
    where
      defined : (names : List (List ℕ)) → AllByRecursion (λ (basic : BasicEvent). basic.place.file < n) (map (λ name. record { name = name; place = one.place; expression = None }) names)
      defined [] = tt
      defined (name ∷ names) = (in-files, defined names)

      by-kind : (basic group : Bool) → AllByRecursion (λ (basic : BasicEvent). basic.place.file < n)
          (if basic then record { name = model_name one; place = one.place; expression = expression_in entries one } ∷ []
          else if group then defined_basics entries one else [])
      by-kind true group = (in-files, tt)
      by-kind false true = defined (defined_by_group entries one)
      by-kind false false = tt

  stands-in : StandsIn n (model_from entries)
  stands-in = record {
    gates = each-map (λ (gate : Gate). gate.place.file < n) (gate_of entries) (all_of_kind kind.Gate entries) (kind-in kind.Gate);
    basics = each-flat (λ (basic : BasicEvent). basic.place.file < n) (λ (one : Entry). one.place.file < n) (basics_of entries) basics-in entries all;
    groups =
        each-map (λ (group : Group). group.place.file < n) (λ (one : ℕ × Entry). group_of entries one.1) (all_of_kind kind.Group entries)
        (each-weaker (λ (one : ℕ × Entry). one.1.place.file < n) (λ (one : ℕ × Entry). (group_of entries one.1).place.file < n)
        (λ one in-files. subst (λ (p : Place). p.file < n) (sym (group-place entries one.1 one.1.body refl)) in-files)
        (all_of_kind kind.Group entries) (kind-in kind.Group));
    sequences = each-map (λ (sequence : Sequence). sequence.place.file < n) _ (all_of_kind kind.Sequence entries) (kind-in kind.Sequence);
    initiatings = each-map (λ (initiating : Initiating). initiating.place.file < n) _ (all_of_kind kind.InitiatingEvent entries) (kind-in kind.InitiatingEvent);
  }

-- ---- the faults of a model

abbrev In : ℕ → ModelFault → Type 0
In n found = found.file < n

-- a fault at a place of the files, or at none
at-in : (n : ℕ) → 0 < n → (kind : FaultKind) (there : Option (Place × List ℕ)) → ((p : Place × List ℕ) → there ≡ Some p → p.0.file < n) → In n (faults.fault_at kind there)
at-in n some kind None each = some
at-in n some kind (Some p) each = each p refl

-- the place of what stands in a list
place-of : {A : Type 0} (n : ℕ) (place : A → Place) (name : A → List ℕ) (xs : List A) (i : ℕ) → AllByRecursion (λ x. (place x).file < n) xs → (p : Place × List ℕ) → option_map (λ x. (place x, name x)) (slice_get xs i) ≡ Some p → p.0.file < n
place-of {A = A} n place name xs i all p e = by-item (slice_get xs i) (λ x found. at-place (λ x. (place x).file < n) xs i x all found) e
  where
    by-item : (o : Option A) → ((x : A) → o ≡ Some x → (place x).file < n) → option_map (λ x. (place x, name x)) o ≡ Some p → p.0.file < n
    by-item None each e = absurd (no-some e)
    by-item (Some x) each e = subst (λ (q : Place × List ℕ). q.0.file < n) (some-same e) (each x refl)

module _ (n : ℕ) (some : 0 < n) (model : Model) (in-files : StandsIn n model) where
  -- paths
  first-in : (left : ℕ) (all : List (Initiating × Arrival)) → AllByRecursion (λ (one : Initiating × Arrival). one.0.place.file < n) all → (found : ModelFault) → paths.first_fault left all ≡ Some found → In n found
  first-in left [] each found e = absurd (no-some e)
  first-in left (one ∷ more) each found e = by-arrival one.1 (λ rest f p. first-in rest more each.1 f p) e
    where
      by-test : (b : Bool) → ((rest : ℕ) (f : ModelFault) → paths.first_fault rest more ≡ Some f → In n f)
          → (if b then Some (paths.walk_fault_at fault.TooManyPaths one.0) else paths.first_fault (left - 1) more) ≡ Some found → In n found
      by-test true later e = subst (In n) (some-same e) each.0
      by-test false later e = later (left - 1) found e

      by-arrival : (a : Arrival) → ((rest : ℕ) (f : ModelFault) → paths.first_fault rest more ≡ Some f → In n f)
          → paths.fault_or left one.0 a (λ rest. paths.first_fault rest more) ≡ Some found → In n found
      by-arrival too_long later e = subst (In n) (some-same e) each.0
      by-arrival (arrives arrived) later e = by-test (left == 0) later e

  joined-in : (place : ℕ) (initiatings : List Initiating) → AllByRecursion (λ (initiating : Initiating). initiating.place.file < n) initiatings → AllByRecursion (λ (one : Initiating × Arrival). one.0.place.file < n) (paths.joined_paths model place initiatings)
  joined-in place [] each = tt
  joined-in place (initiating ∷ more) each =
      each-append (λ (one : Initiating × Arrival). one.0.place.file < n) (map (λ arrival. (initiating, arrival)) (paths_of model place initiating)) (paths.joined_paths model (suc place) more)
      (arrived (paths_of model place initiating)) (joined-in (suc place) more each.1)
    where
      arrived : (arrivals : List Arrival) → AllByRecursion (λ (one : Initiating × Arrival). one.0.place.file < n) (map (λ arrival. (initiating, arrival)) arrivals)
      arrived [] = tt
      arrived (arrival ∷ arrivals) = (each.0, arrived arrivals)

  walk-in : (found : ModelFault) → paths.walk_fault model ≡ Some found → In n found
  walk-in found e = first-in MAX_PATHS (paths.joined_paths model 0 model.initiatings) (joined-in 0 model.initiatings in-files.initiatings) found e

  -- targets
  target-in : (t : Target) (p : Place × List ℕ) → place_of_target model t ≡ Some p → p.0.file < n
  target-in (target.TopEvent gate) p e = place-of n (λ (g : Gate). g.place) (λ g. g.name) model.gates gate.0 in-files.gates p e
  target-in (target.Sequence initiating sequence all) p e = place-of n (λ (s : Sequence). s.place) (λ s. s.name) model.sequences sequence.0 in-files.sequences p e

  rank-in : (expanded : Expanded) → expanded.model ≡ model → (targets : List Target) (found : ModelFault) → rank_fault expanded targets ≡ Some found → In n found
  rank-in expanded same [] found e = absurd (no-some e)
  rank-in expanded same (t ∷ targets) found e = by-test (nat_lt MAX_EVENTS (length (ranks_of expanded t))) (λ f p. rank-in expanded same targets f p) e
    where
      here : In n (faults.fault_at fault.TooManyEvents (place_of_target expanded.model t))
      here = subst (λ (m : Model). In n (faults.fault_at fault.TooManyEvents (place_of_target m t))) (sym same) (at-in n some fault.TooManyEvents (place_of_target model t) (target-in t))

      by-test : (b : Bool) → ((f : ModelFault) → rank_fault expanded targets ≡ Some f → In n f)
          → option_or (if b then Some (faults.fault_at fault.TooManyEvents (place_of_target expanded.model t)) else None) (rank_fault expanded targets) ≡ Some found → In n found
      by-test true later e = subst (In n) (some-same e) here
      by-test false later e = later found e

  -- values
  event-in : (event : ExpandedEvent) (p : Place × List ℕ) → place_of_event model event ≡ Some p → p.0.file < n
  event-in (Basic id) p e = place-of n (λ (b : BasicEvent). b.place) (λ b. b.name) model.basics id.0 in-files.basics p e
  event-in (Member id place) p e = place-of n (λ (g : Group). g.place) (λ g. g.name) model.groups id.0 in-files.groups p e
  event-in (Shared id subset) p e = place-of n (λ (g : Group). g.place) (λ g. g.name) model.groups id.0 in-files.groups p e

  value-in : (mission : Scaled) (events : List ExpandedEvent) (found : ModelFault) → values_from mission model events ≡ Err found → In n found
  value-in mission [] found e = absurd (ok-not-err e)
  value-in mission (event ∷ events) found e = by-results (event_interval mission model event) (values_from mission model events) (λ f p. value-in mission events f p) e
    where
      by-results : (value : Result Ends FaultKind) (rest : Result (List Ends) ModelFault) → ((f : ModelFault) → rest ≡ Err f → In n f) → and_event (place_of_event model event) value rest ≡ Err found → In n found
      by-results (Err kind) rest later e = subst (In n) (err-same e) (at-in n some kind (place_of_event model event) (event-in event))
      by-results (Ok x) (Err f) later e = subst (In n) (err-same e) (later f refl)
      by-results (Ok x) (Ok xs) later e = absurd (ok-not-err e)

  -- the fault of the analysis of a model
  quantities-in : (settings : Settings) (expanded : Expanded) → expanded.model ≡ model → (found : ModelFault) → with_quantities settings expanded ≡ Err found → In n found
  quantities-in settings expanded same found e = by-test (has_quantities settings) e
    where
      by-values : (values : Result (List Ends) ModelFault) → ((f : ModelFault) → values ≡ Err f → In n f) → with_values settings expanded values ≡ Err found → In n found
      by-values (Err f) later e = subst (In n) (err-same e) (later f refl)
      by-values (Ok values) later e = absurd (ok-not-err e)

      valued : (f : ModelFault) → values_of settings.mission expanded ≡ Err f → In n f
      valued f p = value-in settings.mission expanded.events f (ap (λ (m : Model). values_from settings.mission m expanded.events) (sym same) ∙ p)

      by-test : (b : Bool) → (if b then with_values settings expanded (values_of settings.mission expanded) else Ok (record { settings = settings; expanded = expanded; values = None })) ≡ Err found → In n found
      by-test true e = by-values (values_of settings.mission expanded) valued e
      by-test false e = absurd (ok-not-err e)

-- a step with a fault, or the next
unless-in : {A : Type 0} (n : ℕ) (o : Option ModelFault) (later : Unit {0} → Result A ModelFault) → ((f : ModelFault) → o ≡ Some f → In n f) → ((f : ModelFault) → later tt ≡ Err f → In n f) → (found : ModelFault) → unless o later ≡ Err found → In n found
unless-in n None later first second found e = second found e
unless-in n (Some f) later first second found e = subst (In n) (err-same e) (first f refl)

model-in : (n : ℕ) → 0 < n → (settings : Settings) (model : Model) → StandsIn n model → (found : ModelFault) → analysis_of_model settings model ≡ Err found → In n found
model-in n some settings model in-files found e =
    unless-in n (paths.walk_fault model) (λ u. analysis_of_expanded settings (expanded_of settings.ccf model)) (walk-in n some model in-files)
    (unless-in n (rank_fault (expanded_of settings.ccf model) (targets_of model)) (λ u. with_quantities settings (expanded_of settings.ccf model))
    (rank-in n some model in-files (expanded_of settings.ccf model) refl (targets_of model))
    (quantities-in n some model in-files settings (expanded_of settings.ccf model) refl))
    found e

draft-in : (settings : Settings) (roots : List Element) → 0 < length roots → (found : ModelFault) → analysis_of_draft settings (draft_of roots) ≡ Err found → In (length roots) found
draft-in settings roots some found e =
    unless-in (length roots) (name_fault (draft_of roots)) (λ u. analysis_of_model settings (model_of (draft_of roots)))
    (name-in (length roots) (entries_of (draft_of roots)) (draft-of-files roots))
    (model-in (length roots) some settings (model_of (draft_of roots))
    (stands-in (length roots) (entries_of (draft_of roots)) (placed-entries (length roots) (entries_of (draft_of roots)) (draft-of-files roots))))
    found e

-- a fault of trees is of their files
pub faults-of-files : (settings : Settings) (roots : List Element) (found : ModelFault) (n : ℕ) → length roots ≡ n → 1 ≤ length roots → analysis_of settings roots ≡ Err found → found.file < n
faults-of-files settings roots found n same some e =
    subst (λ m. found.file < m) same
    (unless-in (length roots) (shape_fault roots) (λ u. analysis_of_draft settings (draft_of roots)) (shape-in roots) (draft-in settings roots some) found e)
