-- What is collected by instructions, by their forms.
use Rattle.std.proofs.Common.{◌≡◌, ◌<◌, ◌+◌, ℕ, Bool, List, [], ◌∷◌, ◌++◌, map, refl, ap, sym, ◌∙◌}
use Rattle.std.specs.List.{flat_map}
use Rattle.std.proofs.lemmas.List.{append-nil, map-append}
use Rattle.std.proofs.lemmas.List.Concat.{flat_map-append}
use Rattle.psa_model.specs.declared.formula.Formula.{Formula}
use Rattle.psa_model.specs.declared.ids.FormulaId.{FormulaId}
use Rattle.psa_model.specs.declared.walks.Test.{Test}
use Rattle.psa_model.specs.declared.walks.Instruction.{Instruction}
use Rattle.psa_model.specs.declared.walks.Instruction.TheVariants as instruction_made
use Rattle.psa_model.specs.declared.draft.DefinitionKind.TheVariants as kind
use Rattle.psa_model.specs.declared.draft.EventKind.TheVariants as asked
use Rattle.psa_model.specs.declared.draft.DraftReference.{DraftReference}
use Rattle.psa_model.specs.declared.draft.DraftFormula.{DraftFormula}
use Rattle.psa_model.specs.declared.draft.DraftTest.{DraftTest}
use Rattle.psa_model.specs.declared.draft.DraftInstruction.{DraftInstruction}
use Rattle.psa_model.specs.declared.draft.DraftInstruction.TheVariants as instruction
use Rattle.psa_names.specs.declared.found.Sense.{Sense}
use Rattle.psa_names.specs.Outlines.{Reference, Entry, Entries, event, rule, joined, formula_outline, test_outline, instruction_outline, instruction_layer}
use Rattle.psa_names.specs.Meanings.{meaning_of}
use Rattle.psa_names.specs.Chains.{references_in, references_in_all}
use Rattle.psa_names.specs.Ids.{id_of_meaning}
use Rattle.psa_names.specs.Resolved.{resolved_formula, resolved_test}
use Rattle.psa_names.specs.Collected.{Collecting, collected_layer, collected_by, resolved_instruction, resolved_instruction_layer}
use Rattle.psa_names.proofs.Forms.{at-collect, at-rule, at-if}
use Rattle.psa_bodies.specs.declared.numbers.Numbers.{Numbers}
use Rattle.psa_bodies.specs.declared.collected.Collected.{Collected}
use Rattle.psa_bodies.specs.Reading.{Reads}
use Rattle.psa_bodies.specs.Collecting.{Collects, listed, formula_number}
use Rattle.psa_bodies.proofs.DraftForms.{at-set-house, at-block}
use Rattle.psa_bodies.proofs.ReadingInOrder.{reads-map, references-inside, flat_map-map}
use Rattle.psa_bodies.proofs.CollectingInOrder.{plain_value, mapped, joined_by, collects-read, collects-as, collects-map, collects-then, collects-after}

abbrev pub InstructionCollects : Numbers → List Sense → List Sense → Collected → Collected → DraftInstruction → Instruction → Type 0
InstructionCollects numbers senses left before after one made =
    Collects numbers senses left before after (references_in (instruction_outline one)) (collected_by one) (λ entries from. resolved_instruction entries from one) made

abbrev pub InstructionsCollect : Numbers → List Sense → List Sense → Collected → Collected → List DraftInstruction → List Instruction → Type 0
InstructionsCollect numbers senses left before after all made =
    Collects numbers senses left before after (flat_map (λ one. references_in (instruction_outline one)) all) (flat_map collected_by all) (λ entries from. listed (map (resolved_instruction entries from) all)) made

-- ---- a formula

pub formula-collected : (numbers : Numbers) (senses left : List Sense) (before after : Collected) (one : DraftFormula) (made : Formula) → Reads numbers senses left (references_in (formula_outline one)) (λ entries from. resolved_formula entries from one) made → (before.next + 1 < 4294967296 → after.next ≡ before.next + 1) → after.formulas ≡ before.formulas ++ made ∷ [] → Collects numbers senses left before after (references_in (formula_outline one)) (one ∷ []) (λ entries from. formula_number) (record { 0 = before.next })
formula-collected numbers senses left before after one made read counted pushed = record {
  counted = counted;
  is = λ entries from rest are few begins.
      let has = read.is entries from rest are begins in
      record { made_is = refl; size = refl; rest_is = has.1; formulas_are = pushed ∙ ap (λ f. before.formulas ++ f ∷ []) has.0 };
}

-- ---- instructions

pub collect-collects : (numbers : Numbers) (senses left : List Sense) (before after : Collected) (one : DraftInstruction) (formula : DraftFormula) (id : FormulaId) → one ≡ instruction.Collect formula → Collects numbers senses left before after (references_in (formula_outline formula)) (formula ∷ []) (λ entries from. formula_number) id → InstructionCollects numbers senses left before after one (instruction_made.Collect id)
collect-collects numbers senses left before after one formula id is read =
    collects-as numbers senses left before after (references_in (formula_outline formula)) (references_in (instruction_outline one)) (formula ∷ []) (collected_by one) (λ entries from. mapped instruction_made.Collect formula_number) (λ entries from. resolved_instruction entries from one) (instruction_made.Collect id)
    (sym (ap (λ i. references_in (instruction_outline i)) is ∙ ap references_in (at-collect instruction_layer formula) ∙ append-nil (references_in (formula_outline formula))))
    (sym (ap collected_by is ∙ at-collect collected_layer formula))
    (λ entries from number. sym (ap (λ i. (resolved_instruction entries from i).behind number) is ∙ ap (λ (v : Collecting Instruction). v.behind number) (at-collect (resolved_instruction_layer entries from) formula)))
    (λ entries from. sym (ap (λ i. (resolved_instruction entries from i).size) is ∙ ap (λ (v : Collecting Instruction). v.size) (at-collect (resolved_instruction_layer entries from) formula)))
    (collects-map numbers senses left before after (references_in (formula_outline formula)) (formula ∷ []) (λ entries from. formula_number) id instruction_made.Collect read)

pub house-collects : (numbers : Numbers) (senses left : List Sense) (collected : Collected) (one : DraftInstruction) (name : DraftReference) (state : Bool) (id : ℕ) → one ≡ instruction.SetHouse name state → ((reference : Reference) → Reads numbers senses left (reference ∷ []) (λ entries from. id_of_meaning kind.HouseEvent entries (meaning_of entries from reference)) id) → InstructionCollects numbers senses left collected collected one (instruction_made.SetHouse (record { 0 = id }) state)
house-collects numbers senses left collected one name state id is read =
    let reference : Reference = record { kind = event asked.House; written = name } in
    let made = λ (n : ℕ). instruction_made.SetHouse (record { 0 = n }) state in
    collects-as numbers senses left collected collected (reference ∷ []) (references_in (instruction_outline one)) [] (collected_by one) (λ entries from. plain_value (made (id_of_meaning kind.HouseEvent entries (meaning_of entries from reference)))) (λ entries from. resolved_instruction entries from one) (made id)
    (sym (ap (λ i. references_in (instruction_outline i)) is ∙ ap references_in (at-set-house instruction_layer name state)))
    (sym (ap collected_by is ∙ at-set-house collected_layer name state))
    (λ entries from number. sym (ap (λ i. (resolved_instruction entries from i).behind number) is ∙ ap (λ (v : Collecting Instruction). v.behind number) (at-set-house (resolved_instruction_layer entries from) name state)))
    (λ entries from. sym (ap (λ i. (resolved_instruction entries from i).size) is ∙ ap (λ (v : Collecting Instruction). v.size) (at-set-house (resolved_instruction_layer entries from) name state)))
    (collects-read numbers senses left collected (reference ∷ []) (λ entries from. made (id_of_meaning kind.HouseEvent entries (meaning_of entries from reference))) (made id)
    (reads-map numbers senses left (reference ∷ []) (λ entries from. id_of_meaning kind.HouseEvent entries (meaning_of entries from reference)) id made (read reference)))

pub rule-collects : (numbers : Numbers) (senses left : List Sense) (collected : Collected) (one : DraftInstruction) (name : DraftReference) (id : ℕ) → one ≡ instruction.Rule name → ((reference : Reference) → Reads numbers senses left (reference ∷ []) (λ entries from. id_of_meaning kind.Rule entries (meaning_of entries from reference)) id) → InstructionCollects numbers senses left collected collected one (instruction_made.Rule (record { 0 = id }))
rule-collects numbers senses left collected one name id is read =
    let reference : Reference = record { kind = rule; written = name } in
    let made = λ (n : ℕ). instruction_made.Rule (record { 0 = n }) in
    collects-as numbers senses left collected collected (reference ∷ []) (references_in (instruction_outline one)) [] (collected_by one) (λ entries from. plain_value (made (id_of_meaning kind.Rule entries (meaning_of entries from reference)))) (λ entries from. resolved_instruction entries from one) (made id)
    (sym (ap (λ i. references_in (instruction_outline i)) is ∙ ap references_in (at-rule instruction_layer name)))
    (sym (ap collected_by is ∙ at-rule collected_layer name))
    (λ entries from number. sym (ap (λ i. (resolved_instruction entries from i).behind number) is ∙ ap (λ (v : Collecting Instruction). v.behind number) (at-rule (resolved_instruction_layer entries from) name)))
    (λ entries from. sym (ap (λ i. (resolved_instruction entries from i).size) is ∙ ap (λ (v : Collecting Instruction). v.size) (at-rule (resolved_instruction_layer entries from) name)))
    (collects-read numbers senses left collected (reference ∷ []) (λ entries from. made (id_of_meaning kind.Rule entries (meaning_of entries from reference))) (made id)
    (reads-map numbers senses left (reference ∷ []) (λ entries from. id_of_meaning kind.Rule entries (meaning_of entries from reference)) id made (read reference)))

collected-inside : (inside : List DraftInstruction) → flat_map (λ (all : List DraftFormula). all) (map collected_by inside) ≡ flat_map collected_by inside
collected-inside inside = flat_map-map (λ (all : List DraftFormula). all) collected_by inside

pub block-formulas : (one : DraftInstruction) (inside : List DraftInstruction) → one ≡ instruction.Block inside → collected_by one ≡ flat_map collected_by inside
block-formulas one inside is = ap collected_by is ∙ at-block collected_layer inside ∙ collected-inside inside

pub block-collects : (numbers : Numbers) (senses left : List Sense) (before after : Collected) (one : DraftInstruction) (inside items : List DraftInstruction) (made : List Instruction) → one ≡ instruction.Block inside → items ≡ inside → InstructionsCollect numbers senses left before after items made → InstructionCollects numbers senses left before after one (instruction_made.Block made)
block-collects numbers senses left before after one inside items made is same read =
    collects-as numbers senses left before after (flat_map (λ i. references_in (instruction_outline i)) items) (references_in (instruction_outline one)) (flat_map collected_by items) (collected_by one) (λ entries from. mapped instruction_made.Block (listed (map (resolved_instruction entries from) items))) (λ entries from. resolved_instruction entries from one) (instruction_made.Block made)
    (sym (ap (λ i. references_in (instruction_outline i)) is ∙ ap references_in (at-block instruction_layer inside) ∙ references-inside instruction_outline inside ∙ ap (flat_map (λ i. references_in (instruction_outline i))) (sym same)))
    (sym (block-formulas one inside is ∙ ap (flat_map collected_by) (sym same)))
    (λ entries from number. sym (ap (λ i. (resolved_instruction entries from i).behind number) is ∙ ap (λ (v : Collecting Instruction). v.behind number) (at-block (resolved_instruction_layer entries from) inside) ∙ ap (λ is. (mapped instruction_made.Block (listed (map (resolved_instruction entries from) is))).behind number) (sym same)))
    (λ entries from. sym (ap (λ i. (resolved_instruction entries from i).size) is ∙ ap (λ (v : Collecting Instruction). v.size) (at-block (resolved_instruction_layer entries from) inside) ∙ ap (λ is. (listed (map (resolved_instruction entries from) is)).size) (sym same)))
    (collects-map numbers senses left before after (flat_map (λ i. references_in (instruction_outline i)) items) (flat_map collected_by items) (λ entries from. listed (map (resolved_instruction entries from) items)) made instruction_made.Block read)

pub if-formulas : (one : DraftInstruction) (test : DraftTest) (first second : List DraftInstruction) → one ≡ instruction.If test first second → collected_by one ≡ flat_map collected_by first ++ flat_map collected_by second
if-formulas one test first second is =
    ap collected_by is ∙ at-if collected_layer test first second
    ∙ ap (λ fs. fs ++ flat_map (λ (all : List DraftFormula). all) (map collected_by second)) (collected-inside first)
    ∙ ap (λ fs. flat_map collected_by first ++ fs) (collected-inside second)

pub collect-formulas : (one : DraftInstruction) (formula : DraftFormula) → one ≡ instruction.Collect formula → collected_by one ≡ formula ∷ []
collect-formulas one formula is = ap collected_by is ∙ at-collect collected_layer formula

if-references : (one : DraftInstruction) (test : DraftTest) (first second : List DraftInstruction) → one ≡ instruction.If test first second → references_in (instruction_outline one) ≡ references_in (test_outline test) ++ (flat_map (λ i. references_in (instruction_outline i)) first ++ flat_map (λ i. references_in (instruction_outline i)) second)
if-references one test first second is =
    ap (λ i. references_in (instruction_outline i)) is ∙ ap references_in (at-if instruction_layer test first second)
    ∙ ap (λ rs. references_in (test_outline test) ++ rs)
    (ap (λ os. references_in_all (joined os)) (sym (map-append instruction_outline first second)) ∙ references-inside instruction_outline (first ++ second) ∙ flat_map-append (λ i. references_in (instruction_outline i)) first second)

abbrev if_value : Entries → Entry → DraftTest → List DraftInstruction → List DraftInstruction → Collecting Instruction
if_value entries from test first second =
    mapped (λ (p : List Instruction × List Instruction). instruction_made.If (resolved_test entries from test) p.0 p.1) (joined_by (λ a b. (a, b)) (listed (map (resolved_instruction entries from) first)) (listed (map (resolved_instruction entries from) second)))

pub if-collects : (numbers : Numbers) (senses between later left : List Sense) (before middle after : Collected) (one : DraftInstruction) (test : DraftTest) (first second ones others : List DraftInstruction) (condition : Test) (made more : List Instruction) → one ≡ instruction.If test first second → ones ≡ first → others ≡ second → Reads numbers senses between (references_in (test_outline test)) (λ entries from. resolved_test entries from test) condition → InstructionsCollect numbers between later before middle ones made → InstructionsCollect numbers later left middle after others more → InstructionCollects numbers senses left before after one (instruction_made.If condition made more)
if-collects numbers senses between later left before middle after one test first second ones others condition made more is same equal tested read next =
    collects-as numbers senses left before after (references_in (test_outline test) ++ (flat_map (λ i. references_in (instruction_outline i)) ones ++ flat_map (λ i. references_in (instruction_outline i)) others)) (references_in (instruction_outline one)) (flat_map collected_by ones ++ flat_map collected_by others) (collected_by one)
    (λ entries from. mapped (λ (p : List Instruction × List Instruction). instruction_made.If (resolved_test entries from test) p.0 p.1) (joined_by (λ a b. (a, b)) (listed (map (resolved_instruction entries from) ones)) (listed (map (resolved_instruction entries from) others)))) (λ entries from. resolved_instruction entries from one) (instruction_made.If condition made more)
    (sym (if-references one test first second is ∙ ap (λ fs. references_in (test_outline test) ++ (flat_map (λ i. references_in (instruction_outline i)) fs ++ flat_map (λ i. references_in (instruction_outline i)) second)) (sym same) ∙ ap (λ fs. references_in (test_outline test) ++ (flat_map (λ i. references_in (instruction_outline i)) ones ++ flat_map (λ i. references_in (instruction_outline i)) fs)) (sym equal)))
    (sym (if-formulas one test first second is ∙ ap (λ fs. flat_map collected_by fs ++ flat_map collected_by second) (sym same) ∙ ap (λ fs. flat_map collected_by ones ++ flat_map collected_by fs) (sym equal)))
    (λ entries from number. sym (ap (λ i. (resolved_instruction entries from i).behind number) is ∙ ap (λ (v : Collecting Instruction). v.behind number) (at-if (resolved_instruction_layer entries from) test first second) ∙ ap (λ fs. (if_value entries from test fs second).behind number) (sym same) ∙ ap (λ fs. (if_value entries from test ones fs).behind number) (sym equal)))
    (λ entries from. sym (ap (λ i. (resolved_instruction entries from i).size) is ∙ ap (λ (v : Collecting Instruction). v.size) (at-if (resolved_instruction_layer entries from) test first second) ∙ ap (λ fs. (if_value entries from test fs second).size) (sym same) ∙ ap (λ fs. (if_value entries from test ones fs).size) (sym equal)))
    (collects-after numbers senses between left before after (references_in (test_outline test)) (flat_map (λ i. references_in (instruction_outline i)) ones ++ flat_map (λ i. references_in (instruction_outline i)) others) (flat_map collected_by ones ++ flat_map collected_by others) (λ entries from. resolved_test entries from test) (λ entries from. joined_by (λ a b. (a, b)) (listed (map (resolved_instruction entries from) ones)) (listed (map (resolved_instruction entries from) others))) condition (made, more) (λ t (p : List Instruction × List Instruction). instruction_made.If t p.0 p.1) tested
    (collects-then numbers between later left before middle after (flat_map (λ i. references_in (instruction_outline i)) ones) (flat_map (λ i. references_in (instruction_outline i)) others) (flat_map collected_by ones) (flat_map collected_by others) (λ entries from. listed (map (resolved_instruction entries from) ones)) (λ entries from. listed (map (resolved_instruction entries from) others)) made more (λ a b. (a, b)) read next))
