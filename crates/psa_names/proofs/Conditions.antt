-- The worked draft with an event tree and a condition, laid out, and what it gives.
use Rattle.std.proofs.Common.{◌≡◌, ℕ, suc, List, [], ◌∷◌, ◌++◌, Some, None, map, ap, ◌∙◌, refl}
use Rattle.std.specs.Prelude.{codes}
use Rattle.psa_model.specs.PathNames.{Text}
use Rattle.psa_model.specs.declared.fault.FaultKind.TheVariants.{Undefined}
use Rattle.psa_model.specs.declared.draft.DraftBranch.{DraftBranch}
use Rattle.psa_model.specs.declared.draft.DraftBranchEnd.{out-DraftBranchEnd}
use Rattle.psa_model.specs.declared.draft.DraftDefinition.{DraftDefinition}
use Rattle.psa_model.specs.ExampleDrafts.{refer, condition_draft, initial_state, fork_path, to_sequence}
use Rattle.psa_names.specs.Outlines.{Outline, Entries, ForkState, plain, naming, event_tree, rule, sequence, functional_event, initiating_event, functional_event_anywhere, formula_layer, test_layer, instruction_layer, instruction_outline, end_outline, end_states, branch_outlines, branch_states, entries_of}
use Rattle.psa_names.specs.Chains.{leads, is_within}
use Rattle.psa_names.specs.NameFaults.{first_fault, name_fault}
use Rattle.psa_names.proofs.Forms.{at-event, at-initiating, at-functional, at-all, at-collect, at-rule, at-if, out-fork, out-sequence}
use Rattle.psa_names.proofs.Entries.{basic_named}

-- a level down
outlines-suc : (levels : ℕ) (one : DraftBranch) → branch_outlines (suc levels) one ≡ map instruction_outline one.instructions ++ end_outline (λ below. branch_outlines levels below) (out-DraftBranchEnd one.end) ∷ []
unfolding branch_outlines
outlines-suc levels one = refl

states-suc : (levels : ℕ) (one : DraftBranch) → branch_states (suc levels) one ≡ end_states (λ below. branch_states levels below) (out-DraftBranchEnd one.end)
unfolding branch_states
states-suc levels one = refl

abbrev pub to_named : ℕ → Outline
to_named number = plain (naming sequence (refer 0 7 number (codes "S")) [] ∷ [])

start-outlines : (levels : ℕ) → branch_outlines (suc (suc levels)) initial_state ≡ naming functional_event (refer 0 7 8 (codes "FA")) (to_named 10 ∷ to_named 12 ∷ []) ∷ []
start-outlines levels = simp (outlines-suc, out-fork, out-sequence) refl

abbrev pub start_states : List ForkState
start_states =
    record { fork = refer 0 7 8 (codes "FA"); path = fork_path (codes "up") 9 (to_sequence 10) }
    ∷ record { fork = refer 0 7 8 (codes "FA"); path = fork_path (codes "down") 11 (to_sequence 12) } ∷ []

start-states : (levels : ℕ) → branch_states (suc (suc levels)) initial_state ≡ start_states
start-states levels = simp (states-suc, out-fork, out-sequence) refl

abbrev pub entries_with : List DraftDefinition → List (List Outline × List ForkState) → Entries
entries_with (one ∷ others) (its ∷ more) = record { definition = one; outlines = its.0; states = its.1 } ∷ entries_with others more
entries_with _ _ = []

abbrev pub condition_outlines : Text → List Outline
condition_outlines tested =
    plain
    (plain (naming initiating_event (refer 0 9 16 (codes "I")) [] ∷ naming functional_event_anywhere (refer 0 9 17 tested) [] ∷ [])
    ∷ plain (basic_named 0 9 19 (codes "a") ∷ []) ∷ plain (basic_named 0 9 21 (codes "b") ∷ []) ∷ []) ∷ []

abbrev pub condition_entries : Text → Entries
condition_entries tested =
    entries_with (condition_draft tested).definitions
    ((naming event_tree (refer 0 2 1 (codes "E")) [] ∷ [], [])
    ∷ (naming event_tree (refer 0 3 2 (codes "E")) [] ∷ [], [])
    ∷ (plain (naming functional_event (refer 0 7 8 (codes "FA")) (to_named 10 ∷ to_named 12 ∷ []) ∷ []) ∷ [], start_states)
    ∷ ([], [])
    ∷ (naming rule (refer 0 6 6 (codes "R")) [] ∷ [], [])
    ∷ (condition_outlines tested, [])
    ∷ ([], [])
    ∷ ([], [])
    ∷ [])

pub condition_laid_out : (tested : Text) → entries_of (condition_draft tested) ≡ condition_entries tested
condition_laid_out tested =
    simp (start-outlines 62, start-states 62, at-event formula_layer, at-initiating test_layer, at-functional test_layer, at-all test_layer, at-collect instruction_layer, at-rule instruction_layer, at-if instruction_layer) refl

no_fault : first_fault (condition_entries (codes "FA")) ≡ None
unfolding leads is_within
no_fault = refl

pub condition : name_fault (condition_draft (codes "FA")) ≡ None
condition = ap first_fault (condition_laid_out (codes "FA")) ∙ no_fault

unknown_event : first_fault (condition_entries (codes "FX")) ≡ Some (record { kind = Undefined; file = 0; line = 9; name = codes "FX" })
unfolding leads is_within
unknown_event = refl

pub unknown_functional_event : name_fault (condition_draft (codes "FX")) ≡ Some (record { kind = Undefined; file = 0; line = 9; name = codes "FX" })
unknown_functional_event = ap first_fault (condition_laid_out (codes "FX")) ∙ unknown_event
