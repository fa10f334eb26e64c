-- The model of a draft without a fault of names has what is promised of a model.
use Rattle.std.proofs.Common.{◌≡◌, ◌≤◌, ℕ, true, List, [], ◌∷◌, ◌++◌, Option, Some, None, map, refl, sym, ap, ap₂, ◌∙◌, subst}
use Rattle.std.proofs.lemmas.Bool.{and_parts, and_from, leb-true, le-leb}
use Rattle.std.proofs.lemmas.Option.{slice_get_within}
use Rattle.std.specs.Prelude.{IfSome, nat_le}
use Rattle.std.specs.List.{slice_get, list_all, flat_map, All}
use Rattle.std.specs.Option.{option_map}
use Rattle.psa_model.specs.declared.draft.DefinitionKind.{DefinitionKind}
use Rattle.psa_model.specs.declared.draft.DefinitionKind.TheVariants as kind
use Rattle.psa_model.specs.declared.draft.DraftBody.{DraftBody}
use Rattle.psa_model.specs.declared.draft.DraftBody.TheVariants as body
use Rattle.psa_model.specs.declared.draft.DraftBranch.{DraftBranch}
use Rattle.psa_model.specs.declared.draft.DraftFormula.{DraftFormula}
use Rattle.psa_model.specs.declared.draft.DraftInstruction.{DraftInstruction}
use Rattle.psa_model.specs.declared.draft.DraftReference.{DraftReference}
use Rattle.psa_model.specs.declared.formula.Formula.{Formula}
use Rattle.psa_model.specs.declared.limits.TheConstants.{MAX_NESTING}
use Rattle.psa_model.specs.declared.model.TheConstants.{MAX_DEPTH}
use Rattle.psa_model.specs.Drafts.{Contents, together, has_body, body_contents, instruction_contents, branch_contents, some_reference}
use Rattle.psa_model.specs.Models.{TreeStands, formula_nesting, are_nested, is_nested}
use Rattle.psa_model.specs.Truth.{within}
use Rattle.psa_model.specs.WalkLevels.{instruction_within, walk_within}
use Rattle.psa_names.specs.Outlines.{Outline, Entry, Entries, event_tree, instruction_outline, link_outlines, branch_outlines}
use Rattle.psa_names.specs.Chains.{is_chained, is_within}
use Rattle.psa_names.specs.Ids.{is_kind, all_of_kind, referred_id}
use Rattle.psa_names.specs.Resolved.{resolved_formula}
use Rattle.psa_names.specs.Collected.{collected_by, collected_before, branch_collected, all_behind, resolved_instruction}
use Rattle.psa_names.specs.ModelOfDraft.{model_from, formula_in, steps_in, instructions_in, branch_in, link_in, linked_id}
use Rattle.psa_names.proofs.ListPlaces.{Has, from-map, all-at, All-from, all-append}
use Rattle.psa_checks.proofs.KindForms.{gate-body, start-body, tree-body, branch-body, sequence-body, rule-body}
use Rattle.psa_checks.proofs.Definitions.{AreEntries, from-made}
use Rattle.psa_checks.proofs.ReferencesStand.{tree-meant, referred-at}
use Rattle.psa_checks.proofs.SoundElements.{IsSound, all_stand, entry-sound, entry-stand, outlines_by, together-numbers}
use Rattle.psa_checks.proofs.FormulaLevels.{formula-within, formula_by}
use Rattle.psa_names.proofs.ElementNesting.{are_shallow, together-shallow}
use Rattle.psa_checks.proofs.CollectedPlaces.{CollectedStand}
use Rattle.psa_checks.proofs.InstructionLevels.{instruction-within, steps-sound, steps-within}
use Rattle.psa_checks.proofs.WalkLevels.{branch_by, tree_of, own-walk, tree-walk, walk-at}
use Rattle.psa_checks.proofs.BodyNesting.{formula-nested}
use Rattle.psa_checks.proofs.WalkNesting.{instructions-nested, branch-nested}
use Rattle.psa_checks.proofs.CollectedNesting.{steps-collected, branch-collected-nested}
use Rattle.psa_checks.proofs.CollectedLevels.{resolves_within, steps-resolve, branch-resolves}

-- ---- lists of the model

-- what holds of each definition of a kind holds of what is made of them
pub kind-all : {A : Type 0} (its : DefinitionKind) (entries : Entries) (make : ℕ × Entry → A) (P : A → Type 0)
    → ((place : ℕ) (one : Entry) → slice_get entries place ≡ Some one → is_kind its one ≡ true
    → P (make (place, one))) → All P (map make (all_of_kind its entries))
kind-all its entries make P each = All-from P (map make (all_of_kind its entries)) (λ x here.
    (let r = from-map make (all_of_kind its entries) x here in
    let d = from-made its entries r.0 r.1 in
    subst P r.2 (each r.0.0 r.0.1 d.0 d.1)))

-- a definition of a kind has its body
pub its-body : (entries : Entries) (place : ℕ) (one : Entry) (its : DefinitionKind) → AreEntries entries
    → slice_get entries place ≡ Some one → one.kind ≡ its → has_body its one.body ≡ true
its-body entries place one its are there is = subst (λ k. has_body k one.body ≡ true) is (are place one there).body

-- a definition that chains lead through is within the greatest depth
pub its-levels : (entries : Entries) (place : ℕ) (one : Entry) (its : DefinitionKind) → AreEntries entries
    → slice_get entries place ≡ Some one → one.kind ≡ its → is_chained its ≡ true
    → list_all (is_within MAX_DEPTH entries one) one.outlines ≡ true
its-levels entries place one its are there is chained = (are place one there).within (ap is_chained is ∙ chained)

-- a body is nested within the limit
pub its-nesting : (entries : Entries) (place : ℕ) (one : Entry) (its : DraftBody) → AreEntries entries
    → slice_get entries place ≡ Some one → one.body ≡ its → are_shallow MAX_NESTING (body_contents its ∷ []) ≡ true
its-nesting entries place one its are there is =
    let shallow = (are place one there).shallow in
    subst (λ (b : DraftBody). are_shallow MAX_NESTING (body_contents b ∷ []) ≡ true) is
    (and_from _ true (le-leb (body_contents one.body).nesting MAX_NESTING shallow) refl)

-- what stands in a body has its numbers of arguments
pub its-numbers : (entries : Entries) (place : ℕ) (one : Entry) (its : DraftBody) → AreEntries entries
    → slice_get entries place ≡ Some one → one.body ≡ its → (body_contents its).has_numbers ≡ true
its-numbers entries place one its are there is = subst (λ (b : DraftBody). (body_contents b).has_numbers ≡ true) is
    (are place one there).numbers

-- what stands together is nested as the whole
pub parts-shallow : (levels : ℕ) (all : List Contents) → are_shallow levels (together all ∷ []) ≡ true
    → are_shallow levels all ≡ true
parts-shallow levels all h = together-shallow levels all
    (leb-true (together all).nesting levels (and_parts _ true h).0)

-- what stands together has its numbers where the whole has
pub parts-numbers : (all : List Contents) → (together all).has_numbers ≡ true
    → list_all (λ (one : Contents). one.has_numbers) all ≡ true
parts-numbers all h = sym (together-numbers all) ∙ h

-- ---- gates

-- what is promised of a gate
pub gate-parts : (entries : Entries) (place : ℕ) (one : Entry) → AreEntries entries
    → slice_get entries place ≡ Some one → one.kind ≡ kind.Gate
    → (within MAX_DEPTH (model_from entries) (formula_in entries one) ≡ true)
    × (formula_nesting (formula_in entries one) ≤ MAX_NESTING)
gate-parts entries place one are there is =
    let b = gate-body one.body (its-body entries place one kind.Gate are there is) in
    let fine = entry-sound entries MAX_DEPTH place one kind.Gate (body.Formula b.0) (are place one there) is b.1
    (its-levels entries place one kind.Gate are there is refl) in
    let says : formula_in entries one ≡ resolved_formula entries one b.0 = ap (formula_by entries one) b.1 in
    let shallow = its-nesting entries place one (body.Formula b.0) are there b.1 in (
      ap (within MAX_DEPTH (model_from entries)) says ∙ formula-within MAX_DEPTH entries are one b.0 fine,
      subst (λ (f : Formula). formula_nesting f ≤ MAX_NESTING) (sym says)
          (formula-nested MAX_NESTING entries one b.0 shallow),
    )

-- ---- instructions and branches

-- what is promised of the instructions of a rule
pub rule-parts : (entries : Entries) (place : ℕ) (one : Entry) → AreEntries entries → CollectedStand entries
    → slice_get entries place ≡ Some one → one.kind ≡ kind.Rule
    → (list_all (instruction_within MAX_DEPTH (model_from entries)) (instructions_in entries one) ≡ true)
    × (are_nested MAX_NESTING (instructions_in entries one) ≡ true)
rule-parts entries place one are sit there is =
    let b = rule-body one.body (its-body entries place one kind.Rule are there is) in
    let fine = entry-sound entries MAX_DEPTH place one kind.Rule (body.Steps b.0 None) (are place one there) is b.1
    (its-levels entries place one kind.Rule are there is refl) in
    let within = steps-within MAX_DEPTH place entries one b.0 None sit (instruction-within MAX_DEPTH entries are sit)
    there b.1 (steps-sound entries MAX_DEPTH one b.0 None fine).0 in
    let shallow = (all-append (λ (c : Contents). nat_le c.nesting MAX_NESTING) (map instruction_contents b.0)
    (some_reference None ∷ []) (parts-shallow MAX_NESTING _
    (its-nesting entries place one (body.Steps b.0 None) are there b.1))).0 in (
      within,
      ap (λ (its : DraftBody). are_nested MAX_NESTING
          (all_behind (collected_before entries one) (map (resolved_instruction entries one) (steps_in its)))) b.1
          ∙ instructions-nested MAX_NESTING entries one (collected_before entries one) b.0 shallow,
    )

walk-nested : (entries : Entries) (place : ℕ) (one : Entry) (b : DraftBranch) → AreEntries entries
    → slice_get entries place ≡ Some one → one.body ≡ body.Walk b
    → is_nested MAX_NESTING (branch_in entries one) ≡ true
walk-nested entries place one b are there is =
    ap (λ (its : DraftBody). is_nested MAX_NESTING (branch_by entries one its)) is
    ∙ branch-nested MAX_NESTING entries MAX_NESTING one (collected_before entries one) b
    (its-numbers entries place one (body.Walk b) are there is)
    (its-nesting entries place one (body.Walk b) are there is)

-- what is promised of the branch of an event tree
pub tree-parts : (entries : Entries) (place : ℕ) (one : Entry) → AreEntries entries → CollectedStand entries
    → slice_get entries place ≡ Some one → one.kind ≡ kind.EventTree
    → (walk_within MAX_DEPTH (model_from entries) (branch_in entries one) ≡ true)
    × (is_nested MAX_NESTING (branch_in entries one) ≡ true)
tree-parts entries place one are sit there is =
    let b = tree-body one.body (its-body entries place one kind.EventTree are there is) in (
      tree-walk MAX_DEPTH place entries one are sit (λ fewer l. walk-at fewer entries are sit) there is
          (its-levels entries place one kind.EventTree are there is refl),
      walk-nested entries place one b.0 are there b.1,
    )

-- what is promised of a named branch
pub branch-parts : (entries : Entries) (place : ℕ) (one : Entry) → AreEntries entries → CollectedStand entries
    → slice_get entries place ≡ Some one → one.kind ≡ kind.Branch
    → (walk_within MAX_DEPTH (model_from entries) (branch_in entries one) ≡ true)
    × (is_nested MAX_NESTING (branch_in entries one) ≡ true)
branch-parts entries place one are sit there is =
    let b = branch-body one.body (its-body entries place one kind.Branch are there is) in
    let fine = entry-sound entries MAX_DEPTH place one kind.Branch (body.Walk b.0) (are place one there) is b.1
    (its-levels entries place one kind.Branch are there is refl) in (
      own-walk MAX_DEPTH place entries one b.0 sit (walk-at MAX_DEPTH entries are sit) there b.1 fine,
      walk-nested entries place one b.0 are there b.1,
    )

-- the instructions of a sequence are nested within the limit
pub sequence-nested : (entries : Entries) (place : ℕ) (one : Entry) → AreEntries entries
    → slice_get entries place ≡ Some one → one.kind ≡ kind.Sequence
    → are_nested MAX_NESTING (instructions_in entries one) ≡ true
sequence-nested entries place one are there is =
    let b = sequence-body one.body (its-body entries place one kind.Sequence are there is) in
    let shallow = (all-append (λ (c : Contents). nat_le c.nesting MAX_NESTING) (map instruction_contents b.0)
    (some_reference b.1 ∷ []) (parts-shallow MAX_NESTING _
    (its-nesting entries place one (body.Steps b.0 b.1) are there b.2))).0 in
    ap (λ (its : DraftBody). are_nested MAX_NESTING
    (all_behind (collected_before entries one) (map (resolved_instruction entries one) (steps_in its)))) b.2
    ∙ instructions-nested MAX_NESTING entries one (collected_before entries one) b.0 shallow

-- the event tree that a reference of a definition links to
link-stands : (entries : Entries) (one : Entry) (link : Option DraftReference)
    → list_all (all_stand entries one) (link_outlines link) ≡ true
    → IfSome (option_map (λ id. record { 0 = id })
    (option_map (referred_id kind.EventTree event_tree entries one) link)) (TreeStands (model_from entries))
link-stands entries one None h = tt
link-stands entries one (Some name) h =
    let m = tree-meant entries one name (and_parts _ true (and_parts _ true h).0).0 in
    let at = referred-at entries one kind.EventTree event_tree name (λ o. tree_of entries o.1) m refl in
    slice_get_within (model_from entries).event_trees (referred_id kind.EventTree event_tree entries one name) _ at

linked-by : (entries : Entries) (one : Entry) (its : DraftBody) (link : Option DraftReference) → one.body ≡ its
    → link_in its ≡ link → list_all (all_stand entries one) (link_outlines link) ≡ true
    → IfSome (option_map (λ id. record { 0 = id }) (linked_id entries one)) (TreeStands (model_from entries))
linked-by entries one its link is same h =
    subst (λ (o : Option DraftReference). IfSome
    (option_map (λ id. record { 0 = id }) (option_map (referred_id kind.EventTree event_tree entries one) o))
    (TreeStands (model_from entries))) (sym (ap link_in is ∙ same)) (link-stands entries one link h)

-- the references in a body stand
pub body-stands : (entries : Entries) (place : ℕ) (one : Entry) (its : DefinitionKind) (its_body : DraftBody)
    → AreEntries entries → slice_get entries place ≡ Some one → one.kind ≡ its → one.body ≡ its_body
    → list_all (all_stand entries one) (outlines_by its its_body) ≡ true
body-stands entries place one its its_body are there kind_is body_is =
    subst (λ (all : List Outline). list_all (all_stand entries one) all ≡ true) (ap₂ outlines_by kind_is body_is)
    (entry-stand entries place one (are place one there))

-- the event tree that a sequence links to stands
pub sequence-link : (entries : Entries) (place : ℕ) (one : Entry) → AreEntries entries
    → slice_get entries place ≡ Some one → one.kind ≡ kind.Sequence
    → IfSome (option_map (λ id. record { 0 = id }) (linked_id entries one)) (TreeStands (model_from entries))
sequence-link entries place one are there is =
    let b = sequence-body one.body (its-body entries place one kind.Sequence are there is) in
    let stand = all-append (all_stand entries one) (map instruction_outline b.0) (link_outlines b.1)
    (body-stands entries place one kind.Sequence (body.Steps b.0 b.1) are there is b.2) in
    linked-by entries one (body.Steps b.0 b.1) b.1 b.2 refl stand.1

-- the event tree of an initiating event stands
pub initiating-link : (entries : Entries) (place : ℕ) (one : Entry) → AreEntries entries
    → slice_get entries place ≡ Some one → one.kind ≡ kind.InitiatingEvent
    → IfSome (option_map (λ id. record { 0 = id }) (linked_id entries one)) (TreeStands (model_from entries))
initiating-link entries place one are there is =
    let b = start-body one.body (its-body entries place one kind.InitiatingEvent are there is) in
    linked-by entries one (body.Start b.0) b.0 b.1 refl
    (body-stands entries place one kind.InitiatingEvent (body.Start b.0) are there is b.1)

-- ---- collected formulas

-- what is said of each formula that a definition collects
abbrev pub IsCollected : Entries → Entry → DraftFormula → Type 0
IsCollected entries one f = (within MAX_DEPTH (model_from entries) (resolved_formula entries one f) ≡ true)
    × (formula_nesting (resolved_formula entries one f) ≤ MAX_NESTING)

-- what is said of the formulas that instructions collect
pub steps-collect : (entries : Entries) (place : ℕ) (one : Entry) (its : DefinitionKind) (all : List DraftInstruction)
    (link : Option DraftReference) → AreEntries entries → slice_get entries place ≡ Some one → one.kind ≡ its
    → is_chained its ≡ true → outlines_by its (body.Steps all link)
    ≡ (map instruction_outline all ++ link_outlines link) → one.body ≡ body.Steps all link → (f : DraftFormula)
    → Has (flat_map collected_by all) f → IsCollected entries one f
steps-collect entries place one its all link are there kind_is chained laid is f here =
    let whole = entry-sound entries MAX_DEPTH place one its (body.Steps all link) (are place one there) kind_is is
    (its-levels entries place one its are there kind_is chained) in
    let flat = subst (λ (os : List Outline). IsSound entries MAX_DEPTH one os (body_contents (body.Steps all link) ∷ []))
    laid whole in
    let fine = (steps-sound entries MAX_DEPTH one all link flat).0 in
    let shallow = (all-append (λ (c : Contents). nat_le c.nesting MAX_NESTING) (map instruction_contents all)
    (some_reference link ∷ []) (parts-shallow MAX_NESTING _
    (its-nesting entries place one (body.Steps all link) are there is))).0 in (
      all-at (resolves_within MAX_DEPTH entries one) (flat_map collected_by all) f
          (steps-resolve MAX_DEPTH entries one are all fine) here,
      leb-true (formula_nesting (resolved_formula entries one f)) MAX_NESTING
          (all-at (λ g. nat_le (formula_nesting (resolved_formula entries one g)) MAX_NESTING)
          (flat_map collected_by all) f (steps-collected MAX_NESTING entries one all shallow) here),
    )

-- what is said of the formulas that a branch collects
pub walk-collect : (entries : Entries) (place : ℕ) (one : Entry) (b : DraftBranch) → AreEntries entries
    → slice_get entries place ≡ Some one → one.body ≡ body.Walk b
    → IsSound entries MAX_DEPTH one (branch_outlines MAX_NESTING b) (branch_contents MAX_NESTING b ∷ [])
    → (f : DraftFormula) → Has (branch_collected MAX_NESTING b) f → IsCollected entries one f
walk-collect entries place one b are there is fine f here = (
  all-at (resolves_within MAX_DEPTH entries one) (branch_collected MAX_NESTING b) f
      (branch-resolves MAX_NESTING entries are MAX_DEPTH one b fine) here,
  leb-true (formula_nesting (resolved_formula entries one f)) MAX_NESTING
      (all-at (λ g. nat_le (formula_nesting (resolved_formula entries one g)) MAX_NESTING)
      (branch_collected MAX_NESTING b) f (branch-collected-nested MAX_NESTING MAX_NESTING entries one b
      (its-nesting entries place one (body.Walk b) are there is)) here),
)
