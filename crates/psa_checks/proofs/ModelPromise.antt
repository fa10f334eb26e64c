-- The model of a draft without a fault of names has what is promised of a model.
use Rattle.std.proofs.Common.{◌≡◌, ◌⊎◌, inl, inr, ◌≤◌, ℕ, true, [], ◌∷◌, Some, None, refl, sym, ap, ◌∙◌, subst, arith}
use Rattle.std.proofs.lemmas.List.{length-map}
use Rattle.std.specs.Prelude.{IfSome}
use Rattle.std.specs.List.{slice_get, list_all}
use Rattle.psa_model.specs.declared.draft.Draft.{Draft}
use Rattle.psa_model.specs.declared.draft.DefinitionKind.TheVariants as kind
use Rattle.psa_model.specs.declared.draft.DraftBody.TheVariants as body
use Rattle.psa_model.specs.declared.expression.Expression.{Expression}
use Rattle.psa_model.specs.declared.formula.Formula.{Formula}
use Rattle.psa_model.specs.declared.limits.TheConstants.{MAX_NESTING}
use Rattle.psa_model.specs.declared.model.Gate.{Gate}
use Rattle.psa_model.specs.declared.model.TheConstants.{MAX_DEPTH}
use Rattle.psa_model.specs.Drafts.{IsDraft, expression_contents}
use Rattle.psa_model.specs.Models.{IsModel, IsNested, IsGroup, IsSequence, TreeStands, formula_nesting, expression_nesting, are_nested, is_nested}
use Rattle.psa_model.specs.Truth.{IsResolved, within}
use Rattle.psa_model.specs.Values.{value_within}
use Rattle.psa_model.specs.WalkLevels.{instruction_within, walk_within}
use Rattle.psa_names.specs.Outlines.{Entry, Entries, entry_of, entries_of}
use Rattle.psa_names.specs.Ids.{all_of_kind, tree_id}
use Rattle.psa_names.specs.ModelOfDraft.{model_from, model_of, gate_of, group_of}
use Rattle.psa_names.specs.NameFaults.{name_fault}
use Rattle.psa_names.proofs.ListPlaces.{map-at, All-from}
use Rattle.psa_checks.proofs.KindForms.{parameter-body, gate-kind, parameter-kind, group-kind, initiating-kind, tree-kind, functional-kind, sequence-kind, branch-kind, rule-kind}
use Rattle.psa_checks.proofs.Definitions.{AreEntries, from-made}
use Rattle.psa_checks.proofs.ExpressionLevels.{parameter_of, parameter-says, parameters-within}
use Rattle.psa_checks.proofs.CollectedPlaces.{CollectedStand}
use Rattle.psa_checks.proofs.InstructionLevels.{rule_of}
use Rattle.psa_checks.proofs.WalkLevels.{tree_of, named_of, functional_of, sequence_of, sequence-within, walk-at}
use Rattle.psa_checks.proofs.CollectedOrder.{collected-stand}
use Rattle.psa_checks.proofs.BodyNesting.{expression-nested}
use Rattle.psa_checks.proofs.ContainersStand.{each-contained, fault-tree-stands, event-tree-stands}
use Rattle.psa_checks.proofs.NoFault.{has-no-fault, are-entries}
use Rattle.psa_names.proofs.ContentsOrder.{entries-ascend}
use Rattle.psa_checks.proofs.ValueOrder.{order-of}
use Rattle.psa_checks.proofs.PromisedDefinitions.{kind-all, gate-parts, rule-parts, tree-parts, branch-parts, sequence-nested, sequence-link, initiating-link, its-body, its-levels, its-nesting, parts-shallow}
use Rattle.psa_checks.proofs.PromisedGroups.{formula-parts, basics-parts, group-parts, members-differ}
use Rattle.psa_model.specs.declared.model.EventTree.{EventTree}
use Rattle.psa_model.specs.declared.model.FaultTree.{FaultTree}
use Rattle.psa_model.specs.declared.model.Functional.{Functional}
use Rattle.psa_model.specs.declared.model.Initiating.{Initiating}
use Rattle.psa_model.specs.declared.model.NamedBranch.{NamedBranch}
use Rattle.psa_model.specs.declared.model.Parameter.{Parameter}
use Rattle.psa_model.specs.declared.model.RuleDefinition.{RuleDefinition}
use Rattle.psa_model.specs.declared.model.Sequence.{Sequence}
use Rattle.psa_checks.proofs.TestLevels.{initiating_of}

abbrev fault_tree_of : Entry → FaultTree
fault_tree_of one = record { name = one.name; place = one.place }

-- a gate at a place of the model
gate-of-place : (entries : Entries) (place : ℕ) (gate : Gate) → slice_get (model_from entries).gates place ≡ Some gate
    → (at : ℕ) × (one : Entry) × (slice_get entries at ≡ Some one) × (one.kind ≡ kind.Gate)
    × (gate_of entries (at, one) ≡ gate)
gate-of-place entries place gate h =
    let r = map-at (gate_of entries) (all_of_kind kind.Gate entries) place gate h in
    let d = from-made kind.Gate entries r.0 (place, r.1) in
    (r.0.0, r.0.1, d.0, gate-kind r.0.1.kind d.1, r.2)

resolved : (draft : Draft) → IsDraft draft → AreEntries (entries_of draft) → IsResolved (model_of draft)
resolved draft is are =
    let entries = entries_of draft in
    record {
      gates = λ place gate h. (let g = gate-of-place entries place gate h in
          subst (λ (x : Gate). within MAX_DEPTH (model_of draft) x.formula ≡ true) g.4
          (gate-parts entries g.0 g.1 are g.2 g.3).0);
      trees = λ place gate h. (let g = gate-of-place entries place gate h in
          let d = map-at entry_of draft.definitions g.0 g.1 g.2 in
          let kind_is : d.0.kind ≡ kind.Gate = ap (λ (e : Entry). e.kind) d.2 ∙ g.3 in
          let rooted = (each-contained draft.definitions is.containers d.0 (g.0, d.1)).0 kind_is in
          let below = fault-tree-stands draft.definitions d.0.container rooted in
          let same = length-map (all_of_kind kind.FaultTree entries) (λ (one : ℕ × Entry). fault_tree_of one.1) in
          let tree : gate.tree.0 ≡ tree_id kind.FaultTree entries d.0.container =
          ap (λ (x : Gate). x.tree.0) (sym g.4) ∙ ap (λ (e : Entry). tree_id kind.FaultTree entries e.container)
          (sym d.2) in
          omega (arith, below, same, tree));
      formulas = λ place f h. (formula-parts entries are f (place, h)).0;
    }

nested : (entries : Entries) → AreEntries entries → CollectedStand entries → IsNested (model_from entries)
nested entries are sit = record {
  gates = kind-all kind.Gate entries (gate_of entries) (λ (gate : Gate). formula_nesting gate.formula ≤ MAX_NESTING)
      (λ place one there is. (gate-parts entries place one are there (gate-kind one.kind is)).1);
  formulas = All-from (λ (f : Formula). formula_nesting f ≤ MAX_NESTING) (model_from entries).formulas
      (λ f here. (formula-parts entries are f here).1);
  parameters = kind-all kind.Parameter entries (λ (one : ℕ × Entry). parameter_of entries one.1)
      (λ (p : Parameter). expression_nesting p.expression ≤ MAX_NESTING) (λ place one there is.
      (let kind_is = parameter-kind one.kind is in
      let b = parameter-body one.body (its-body entries place one kind.Parameter are there kind_is) in
      let shallow = parts-shallow MAX_NESTING (expression_contents b.0 ∷ [])
      (its-nesting entries place one (body.Value (Some b.0)) are there b.1) in
      subst (λ (e : Expression). expression_nesting e ≤ MAX_NESTING) (sym (parameter-says entries one b.0 b.1))
      (expression-nested MAX_NESTING entries one b.0 shallow)));
  rules = kind-all kind.Rule entries (λ (one : ℕ × Entry). rule_of entries one.1)
      (λ (r : RuleDefinition). are_nested MAX_NESTING r.instructions ≡ true)
      (λ place one there is. (rule-parts entries place one are sit there (rule-kind one.kind is)).1);
  sequences = kind-all kind.Sequence entries (λ (one : ℕ × Entry). sequence_of entries one.1)
      (λ (s : Sequence). are_nested MAX_NESTING s.instructions ≡ true)
      (λ place one there is. sequence-nested entries place one are there (sequence-kind one.kind is));
  event_trees = kind-all kind.EventTree entries (λ (one : ℕ × Entry). tree_of entries one.1)
      (λ (t : EventTree). is_nested MAX_NESTING t.start ≡ true)
      (λ place one there is. (tree-parts entries place one are sit there (tree-kind one.kind is)).1);
  branches = kind-all kind.Branch entries (λ (one : ℕ × Entry). named_of entries one.1)
      (λ (n : NamedBranch). is_nested MAX_NESTING n.branch ≡ true)
      (λ place one there is. (branch-parts entries place one are sit there (branch-kind one.kind is)).1);
}

-- the event tree around a definition that stands in one
inside-tree : (draft : Draft) → IsDraft draft → (place : ℕ) (one : Entry)
    → slice_get (entries_of draft) place ≡ Some one
    → (one.kind ≡ kind.FunctionalEvent) ⊎ ((one.kind ≡ kind.Sequence) ⊎ (one.kind ≡ kind.Branch))
    → TreeStands (model_of draft) (record { 0 = tree_id kind.EventTree (entries_of draft) one.container })
inside-tree draft is place one there of =
    let entries = entries_of draft in
    let d = map-at entry_of draft.definitions place one there in
    let contained = each-contained draft.definitions is.containers d.0 (place, d.1) in
    let same_kind : d.0.kind ≡ one.kind = ap (λ (e : Entry). e.kind) d.2 in
    let below = event-tree-stands draft.definitions d.0.container (elim of [
      | inl functional ↦ contained.1 (same_kind ∙ functional)
      | inr (inl sequence) ↦ contained.2 (same_kind ∙ sequence)
      | inr (inr branch) ↦ contained.3 (same_kind ∙ branch)
    ]) in
    let same = length-map (all_of_kind kind.EventTree entries) (λ (o : ℕ × Entry). tree_of entries o.1) in
    let tree : tree_id kind.EventTree entries one.container ≡ tree_id kind.EventTree entries d.0.container =
    ap (λ (e : Entry). tree_id kind.EventTree entries e.container) (sym d.2) in
    omega (arith, below, same, tree)

-- what is promised of a model holds of that of a draft without a fault
pub promised : (draft : Draft) → IsDraft draft → name_fault draft ≡ None → IsModel (model_of draft)
promised draft is none =
    let entries = entries_of draft in
    let are = are-entries draft is (has-no-fault entries none) in
    let sit = collected-stand entries (entries-ascend draft is) in
    record {
      resolved = resolved draft is are;
      nested = nested entries are sit;
      parameters = kind-all kind.Parameter entries (λ (one : ℕ × Entry). parameter_of entries one.1)
          (λ (p : Parameter). value_within MAX_DEPTH (model_of draft) p.expression ≡ true)
          (λ place one there k. parameters-within entries are place one there (parameter-kind one.kind k));
      basics = basics-parts entries are;
      groups = kind-all kind.Group entries (λ (one : ℕ × Entry). group_of entries one.1) (IsGroup (model_of draft))
          (λ place one there k. group-parts entries place one are there (group-kind one.kind k));
      apart = members-differ entries are;
      order = order-of entries are;
      rules = kind-all kind.Rule entries (λ (one : ℕ × Entry). rule_of entries one.1)
          (λ (r : RuleDefinition). list_all (instruction_within MAX_DEPTH (model_of draft)) r.instructions ≡ true)
          (λ place one there k. (rule-parts entries place one are sit there (rule-kind one.kind k)).0);
      event_trees = kind-all kind.EventTree entries (λ (one : ℕ × Entry). tree_of entries one.1)
          (λ (t : EventTree). walk_within MAX_DEPTH (model_of draft) t.start ≡ true)
          (λ place one there k. (tree-parts entries place one are sit there (tree-kind one.kind k)).0);
      functionals = kind-all kind.FunctionalEvent entries (λ (one : ℕ × Entry). functional_of entries one.1)
          (λ (f : Functional). TreeStands (model_of draft) f.tree)
          (λ place one there k. inside-tree draft is place one there (inl (functional-kind one.kind k)));
      sequences = kind-all kind.Sequence entries (λ (one : ℕ × Entry). sequence_of entries one.1)
          (IsSequence (model_of draft)) (λ place one there k.
          (let kind_is = sequence-kind one.kind k in
          record {
            instructions = (sequence-within MAX_DEPTH place entries one are sit
                (λ fewer l. walk-at fewer entries are sit) there kind_is
                (its-levels entries place one kind.Sequence are there kind_is refl)).0;
            tree = inside-tree draft is place one there (inr (inl kind_is));
            link = sequence-link entries place one are there kind_is;
          }));
      branches = kind-all kind.Branch entries (λ (one : ℕ × Entry). named_of entries one.1)
          (λ (n : NamedBranch). (walk_within MAX_DEPTH (model_of draft) n.branch ≡ true) × TreeStands (model_of draft)
          n.tree) (λ place one there k. (
            (branch-parts entries place one are sit there (branch-kind one.kind k)).0,
            inside-tree draft is place one there (inr (inr (branch-kind one.kind k))),
          ));
      initiatings = kind-all kind.InitiatingEvent entries (λ (one : ℕ × Entry). initiating_of entries one.1)
          (λ (i : Initiating). IfSome i.tree (TreeStands (model_of draft)))
          (λ place one there k. initiating-link entries place one are there (initiating-kind one.kind k));
    }
