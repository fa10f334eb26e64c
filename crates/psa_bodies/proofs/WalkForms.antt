-- What is made of rules, sequences, event trees and named branches, from what they collect.
use Rattle.std.proofs.Common.{◌≡◌, ◌<◌, ◌+◌, ℕ, List, [], ◌++◌, Option, None, map, length, refl, ap, sym, ◌∙◌, subst}
use Rattle.std.proofs.lemmas.List.{append-nil}
use Rattle.std.proofs.lemmas.List.Concat.{flat_map-append}
use Rattle.std.specs.List.{flat_map}
use Rattle.std.specs.Option.{option_map}
use Rattle.psa_model.specs.PathNames.{Text}
use Rattle.psa_model.specs.declared.limits.TheConstants.{MAX_NESTING}
use Rattle.psa_model.specs.declared.ids.TreeId.{TreeId}
use Rattle.psa_model.specs.declared.ids.Place.{Place}
use Rattle.psa_model.specs.declared.walks.Branch.{Branch}
use Rattle.psa_model.specs.declared.walks.Instruction.{Instruction}
use Rattle.psa_model.specs.declared.model.EventTree.{EventTree}
use Rattle.psa_model.specs.declared.model.NamedBranch.{NamedBranch}
use Rattle.psa_model.specs.declared.model.RuleDefinition.{RuleDefinition}
use Rattle.psa_model.specs.declared.model.Sequence.{Sequence}
use Rattle.psa_model.specs.declared.draft.DefinitionKind.TheVariants as kind
use Rattle.psa_model.specs.declared.draft.Draft.{Draft}
use Rattle.psa_model.specs.declared.draft.DraftBody.TheVariants as body
use Rattle.psa_model.specs.declared.draft.DraftBranch.{DraftBranch}
use Rattle.psa_model.specs.declared.draft.DraftDefinition.{DraftDefinition}
use Rattle.psa_model.specs.declared.draft.DraftFormula.{DraftFormula}
use Rattle.psa_model.specs.declared.draft.DraftInstruction.{DraftInstruction}
use Rattle.psa_model.specs.declared.draft.DraftReference.{DraftReference}
use Rattle.psa_names.specs.declared.found.Sense.{Sense}
use Rattle.psa_names.specs.Outlines.{Reference, Entry, Entries, entry_of, entries_of, instruction_outline, link_outlines, branch_outlines}
use Rattle.psa_names.specs.Meanings.{meaning_of}
use Rattle.psa_names.specs.Chains.{references_in, references_of}
use Rattle.psa_names.specs.Resolved.{resolved_formula}
use Rattle.psa_names.specs.Ids.{tree_id}
use Rattle.psa_names.specs.Collected.{Collecting, all_behind, collected_by, collected_in, collected_before, branch_collected, resolved_instruction, resolved_branch}
use Rattle.psa_names.specs.ModelOfDraft.{instructions_in, branch_in, linked_id}
use Rattle.psa_bodies.specs.declared.numbers.Numbers.{Numbers}
use Rattle.psa_bodies.specs.declared.collected.Collected.{Collected}
use Rattle.psa_bodies.specs.Numbering.{AreNumbers}
use Rattle.psa_bodies.specs.Reading.{Reads}
use Rattle.psa_bodies.specs.Collecting.{Collects, listed}
use Rattle.psa_bodies.specs.Branches.{branch_value}
use Rattle.psa_bodies.specs.MadeWalks.{IsMadeBehind, rule_of, sequence_of, event_tree_of, named_branch_of}
use Rattle.psa_bodies.proofs.ReadingInOrder.{references-joined, flat_map-map}
use Rattle.psa_bodies.proofs.MadeDefinitions.{references-said, link_value}
use Rattle.psa_bodies.proofs.CollectedForms.{InstructionsCollect}
use Rattle.psa_bodies.proofs.BranchForms.{BranchCollects}
use Rattle.psa_bodies.proofs.CollectingInOrder.{plain_value, mapped, joined_by, collects-read, collects-map, collects-then}

-- from what is collected to what is made of a definition
pub made-behind : {A : Type 0} (numbers : Numbers) (draft : Draft) (definition : DraftDefinition) (senses left : List Sense) (before after : Collected) (references : List Reference) (formulas : List DraftFormula) (value : Entries → Entry → Collecting A) (other : Entries → Entry → A) (made : A) → AreNumbers (entries_of draft) numbers → references ≡ references_of (entry_of definition) → formulas ≡ collected_in definition.body → ((number : ℕ) → number ≡ collected_before (entries_of draft) (entry_of definition) → (value (entries_of draft) (entry_of definition)).behind number ≡ other (entries_of draft) (entry_of definition)) → Collects numbers senses left before after references formulas value made → IsMadeBehind draft definition senses left before after other made
made-behind numbers draft definition senses left before after references formulas value other made are same equal behind read = record {
  is = λ rest number few begins.
      let fits : before.next + length formulas < 4294967296 = subst (λ fs. before.next + length fs < 4294967296) (sym equal) few in
      let has = read.is (entries_of draft) (entry_of definition) rest are fits (begins ∙ ap (λ rs. map (meaning_of (entries_of draft) (entry_of definition)) rs ++ rest) (sym same)) in
      record {
        made_is = has.made_is ∙ behind before.next number;
        rest_is = has.rest_is;
        next_is = read.counted fits ∙ ap (λ fs. before.next + length fs) equal;
        formulas_are = has.formulas_are ∙ ap (λ fs. before.formulas ++ map (resolved_formula (entries_of draft) (entry_of definition)) fs) equal;
      };
}

abbrev rule_with : Place → Text → List Instruction → RuleDefinition
rule_with place name instructions = record { name = name; place = place; instructions = instructions }

steps-said : (entries : Entries) (one : Entry) (instructions : List DraftInstruction) (link : Option DraftReference) (number : ℕ) → one.body ≡ body.Steps instructions link → number ≡ collected_before entries one → all_behind number (map (resolved_instruction entries one) instructions) ≡ instructions_in entries one
steps-said entries one instructions link number says is = rw (is, says) refl

steps-references : (instructions : List DraftInstruction) (link : Option DraftReference) → flat_map (λ i. references_in (instruction_outline i)) instructions ++ flat_map references_in (link_outlines link) ≡ flat_map references_in (map instruction_outline instructions ++ link_outlines link)
steps-references instructions link =
    ap (λ rs. rs ++ flat_map references_in (link_outlines link)) (sym (flat_map-map references_in instruction_outline instructions))
    ∙ sym (flat_map-append references_in (map instruction_outline instructions) (link_outlines link))

abbrev pub rule_mapped : Place → Text → Collecting (List Instruction) → Collecting RuleDefinition
rule_mapped place name its = record { size = its.size; behind = λ number. rule_with place name (its.behind number) }

pub rule-made : (numbers : Numbers) (draft : Draft) (definition : DraftDefinition) (senses left : List Sense) (before after : Collected) (instructions items : List DraftInstruction) (name : Text) (made : List Instruction) → AreNumbers (entries_of draft) numbers → definition.kind ≡ kind.Rule → definition.body ≡ body.Steps instructions None → items ≡ instructions → name ≡ definition.name → InstructionsCollect numbers senses left before after items made → IsMadeBehind draft definition senses left before after (λ entries from. rule_of entries from) (rule_with definition.place name made)
rule-made numbers draft definition senses left before after instructions items name made are is says same named read =
    made-behind numbers draft definition senses left before after (flat_map (λ i. references_in (instruction_outline i)) items) (flat_map collected_by items) (λ entries from. rule_mapped definition.place name (listed (map (resolved_instruction entries from) items))) (λ entries from. rule_of entries from) (rule_with definition.place name made) are
    (ap (flat_map (λ i. references_in (instruction_outline i))) same ∙ sym (append-nil _) ∙ steps-references instructions None ∙ references-said definition kind.Rule (body.Steps instructions None) is says)
    (ap (flat_map collected_by) same ∙ ap collected_in (sym says))
    (λ number at. ap (λ n. rule_with definition.place n (all_behind number (map (resolved_instruction (entries_of draft) (entry_of definition)) items))) named
    ∙ ap (λ is. rule_with definition.place definition.name (all_behind number (map (resolved_instruction (entries_of draft) (entry_of definition)) is))) same
    ∙ ap (rule_with definition.place definition.name) (steps-said (entries_of draft) (entry_of definition) instructions None number says at))
    (collects-map numbers senses left before after (flat_map (λ i. references_in (instruction_outline i)) items) (flat_map collected_by items) (λ entries from. listed (map (resolved_instruction entries from) items)) made (rule_with definition.place name) read)

-- ---- sequences

abbrev sequence_with : Place → Text → ℕ → List Instruction → Option TreeId → Sequence
sequence_with place name tree instructions link = record { name = name; place = place; tree = record { 0 = tree }; instructions = instructions; link = link }

link-said : (entries : Entries) (one : Entry) (instructions : List DraftInstruction) (link : Option DraftReference) → one.body ≡ body.Steps instructions link → link_value entries one link ≡ option_map (λ id. record { 0 = id }) (linked_id entries one)
link-said entries one instructions link says = rw says refl

pub sequence-made : (numbers : Numbers) (draft : Draft) (definition : DraftDefinition) (senses between left : List Sense) (before after : Collected) (instructions items : List DraftInstruction) (link : Option DraftReference) (name : Text) (tree : ℕ) (made : List Instruction) (linked : Option TreeId) → AreNumbers (entries_of draft) numbers → definition.kind ≡ kind.Sequence → definition.body ≡ body.Steps instructions link → items ≡ instructions → name ≡ definition.name → tree ≡ tree_id kind.EventTree (entries_of draft) definition.container → InstructionsCollect numbers senses between before after items made → Reads numbers between left (flat_map references_in (link_outlines link)) (λ entries from. link_value entries from link) linked → IsMadeBehind draft definition senses left before after (λ entries from. sequence_of entries from) (sequence_with definition.place name tree made linked)
sequence-made numbers draft definition senses between left before after instructions items link name tree made linked are is says same named around read next =
    made-behind numbers draft definition senses left before after (flat_map (λ i. references_in (instruction_outline i)) items ++ flat_map references_in (link_outlines link)) (flat_map collected_by items ++ []) (λ entries from. joined_by (sequence_with definition.place name tree) (listed (map (resolved_instruction entries from) items)) (plain_value (link_value entries from link))) (λ entries from. sequence_of entries from) (sequence_with definition.place name tree made linked) are
    (ap (λ is. flat_map (λ i. references_in (instruction_outline i)) is ++ flat_map references_in (link_outlines link)) same ∙ steps-references instructions link ∙ references-said definition kind.Sequence (body.Steps instructions link) is says)
    (append-nil (flat_map collected_by items) ∙ ap (flat_map collected_by) same ∙ ap collected_in (sym says))
    (λ number at. ap (λ n. sequence_with definition.place n tree (all_behind number (map (resolved_instruction (entries_of draft) (entry_of definition)) items)) (link_value (entries_of draft) (entry_of definition) link)) named
    ∙ ap (λ t. sequence_with definition.place definition.name t (all_behind number (map (resolved_instruction (entries_of draft) (entry_of definition)) items)) (link_value (entries_of draft) (entry_of definition) link)) around
    ∙ ap (λ is. sequence_with definition.place definition.name (tree_id kind.EventTree (entries_of draft) definition.container) (all_behind number (map (resolved_instruction (entries_of draft) (entry_of definition)) is)) (link_value (entries_of draft) (entry_of definition) link)) same
    ∙ ap (λ is. sequence_with definition.place definition.name (tree_id kind.EventTree (entries_of draft) definition.container) is (link_value (entries_of draft) (entry_of definition) link)) (steps-said (entries_of draft) (entry_of definition) instructions link number says at)
    ∙ ap (sequence_with definition.place definition.name (tree_id kind.EventTree (entries_of draft) definition.container) (instructions_in (entries_of draft) (entry_of definition))) (link-said (entries_of draft) (entry_of definition) instructions link says))
    (collects-then numbers senses between left before after after (flat_map (λ i. references_in (instruction_outline i)) items) (flat_map references_in (link_outlines link)) (flat_map collected_by items) [] (λ entries from. listed (map (resolved_instruction entries from) items)) (λ entries from. plain_value (link_value entries from link)) made linked (sequence_with definition.place name tree) read
    (collects-read numbers between left after (flat_map references_in (link_outlines link)) (λ entries from. link_value entries from link) linked next))

-- ---- event trees and named branches

walk-said : (entries : Entries) (one : Entry) (branch : DraftBranch) (number : ℕ) → one.body ≡ body.Walk branch → number ≡ collected_before entries one → resolved_branch MAX_NESTING entries one number branch ≡ branch_in entries one
walk-said entries one branch number says is = rw (is, says) refl

abbrev event_tree_with : Place → Text → Branch → EventTree
event_tree_with place name start = record { name = name; place = place; start = start }

pub event-tree-made : (numbers : Numbers) (draft : Draft) (definition : DraftDefinition) (senses left : List Sense) (before after : Collected) (branch : DraftBranch) (name : Text) (made : Branch) → AreNumbers (entries_of draft) numbers → definition.kind ≡ kind.EventTree → definition.body ≡ body.Walk branch → name ≡ definition.name → BranchCollects MAX_NESTING numbers senses left before after branch made → IsMadeBehind draft definition senses left before after (λ entries from. event_tree_of entries from) (event_tree_with definition.place name made)
event-tree-made numbers draft definition senses left before after branch name made are is says named read =
    made-behind numbers draft definition senses left before after (flat_map references_in (branch_outlines MAX_NESTING branch)) (branch_collected MAX_NESTING branch) (λ entries from. mapped (event_tree_with definition.place name) (branch_value MAX_NESTING entries from branch)) (λ entries from. event_tree_of entries from) (event_tree_with definition.place name made) are
    (sym (references-joined (branch_outlines MAX_NESTING branch)) ∙ sym (append-nil _) ∙ references-said definition kind.EventTree (body.Walk branch) is says)
    (ap collected_in (sym says))
    (λ number at. ap (λ n. event_tree_with definition.place n (resolved_branch MAX_NESTING (entries_of draft) (entry_of definition) number branch)) named
    ∙ ap (event_tree_with definition.place definition.name) (walk-said (entries_of draft) (entry_of definition) branch number says at))
    (collects-map numbers senses left before after (flat_map references_in (branch_outlines MAX_NESTING branch)) (branch_collected MAX_NESTING branch) (λ entries from. branch_value MAX_NESTING entries from branch) made (event_tree_with definition.place name) read)

abbrev named_branch_with : Place → Text → ℕ → Branch → NamedBranch
named_branch_with place name tree branch = record { name = name; place = place; tree = record { 0 = tree }; branch = branch }

pub named-branch-made : (numbers : Numbers) (draft : Draft) (definition : DraftDefinition) (senses left : List Sense) (before after : Collected) (branch : DraftBranch) (name : Text) (tree : ℕ) (made : Branch) → AreNumbers (entries_of draft) numbers → definition.kind ≡ kind.Branch → definition.body ≡ body.Walk branch → name ≡ definition.name → tree ≡ tree_id kind.EventTree (entries_of draft) definition.container → BranchCollects MAX_NESTING numbers senses left before after branch made → IsMadeBehind draft definition senses left before after (λ entries from. named_branch_of entries from) (named_branch_with definition.place name tree made)
named-branch-made numbers draft definition senses left before after branch name tree made are is says named around read =
    made-behind numbers draft definition senses left before after (flat_map references_in (branch_outlines MAX_NESTING branch)) (branch_collected MAX_NESTING branch) (λ entries from. mapped (named_branch_with definition.place name tree) (branch_value MAX_NESTING entries from branch)) (λ entries from. named_branch_of entries from) (named_branch_with definition.place name tree made) are
    (references-said definition kind.Branch (body.Walk branch) is says)
    (ap collected_in (sym says))
    (λ number at. ap (λ n. named_branch_with definition.place n tree (resolved_branch MAX_NESTING (entries_of draft) (entry_of definition) number branch)) named
    ∙ ap (λ t. named_branch_with definition.place definition.name t (resolved_branch MAX_NESTING (entries_of draft) (entry_of definition) number branch)) around
    ∙ ap (named_branch_with definition.place definition.name (tree_id kind.EventTree (entries_of draft) definition.container)) (walk-said (entries_of draft) (entry_of definition) branch number says at))
    (collects-map numbers senses left before after (flat_map references_in (branch_outlines MAX_NESTING branch)) (branch_collected MAX_NESTING branch) (λ entries from. branch_value MAX_NESTING entries from branch) made (named_branch_with definition.place name tree) read)
