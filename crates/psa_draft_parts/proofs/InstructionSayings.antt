-- What instructions and the ends of branches say, row by row, and what they don't.
use Rattle.std.proofs.Common.{◌≡◌, ℕ, Bool, true, false, cond, Some, None, List, [], ◌∷◌, ◌++◌, codes, refl, ap, ◌∙◌}
use Rattle.std.specs.List.{filter_map}
use Rattle.psa_text.specs.declared.tree.Element.{Element}
use Rattle.psa_text.specs.declared.tree.Element.TheViews.{out-Element}
use Rattle.psa_model.specs.declared.draft.DraftInstruction.{DraftInstruction}
use Rattle.psa_model.specs.declared.draft.DraftInstruction.TheVariants as instruction
use Rattle.psa_model.specs.declared.draft.DraftTest.{DraftTest}
use Rattle.psa_model.specs.declared.draft.DraftBranchEnd.TheVariants as ends
use Rattle.psa_elements.specs.ElementTable as table
use Rattle.psa_elements.specs.ElementTable.{has_tag, formulas, constant, instructions, tests, path}
use Rattle.psa_elements.specs.DraftReading.{Surroundings, instruction_of, test_of, end_of, link_of, path_of, formula_in, state_in, instructions_in, conditional, reference, reference_by, branch_in, text_in, place_of}
use Rattle.psa_draft_parts.specs.declared.rows.InstructionRow.{InstructionRow}
use Rattle.psa_draft_parts.specs.declared.rows.InstructionRow.TheVariants as row
use Rattle.psa_draft_parts.specs.declared.rows.EndRow.{EndRow}
use Rattle.psa_draft_parts.specs.declared.rows.EndRow.TheVariants as end_row
use Rattle.psa_draft_parts.specs.Rows.{row_of_instruction, row_of_end}
use Rattle.psa_draft_parts.specs.Sayings.{start_tag, reading_as, reading_found, reading_among, inside_among}
use Rattle.psa_draft_parts.proofs.Readings.{reading-as}

-- what an element of this row says: collect
pub says-collect : (around : Surroundings) (n : ℕ) (e : Element) → instruction_of (reading_as table.collect_formula
    around n e) ≡ Some (instruction.Collect (formula_in (inside_among formulas around n e)))
says-collect around n e = ap instruction_of (reading-as table.collect_formula around n e)

-- what an element of this row says: set
pub says-set : (around : Surroundings) (n : ℕ) (e : Element)
    → instruction_of (reading_as table.set_house_event around n e) ≡ Some (instruction.SetHouse (reference
    (start_tag around n e)) (state_in (inside_among (constant ∷ []) around n e)))
says-set around n e = ap instruction_of (reading-as table.set_house_event around n e)

-- what an element of this row says: block
pub says-block : (around : Surroundings) (n : ℕ) (e : Element) → instruction_of (reading_as table.block around n e)
    ≡ Some (instruction.Block (instructions_in (inside_among instructions around n e)))
says-block around n e = ap instruction_of (reading-as table.block around n e)

-- what an element of this row says: rule
pub says-rule : (around : Surroundings) (n : ℕ) (e : Element) → instruction_of (reading_as table.rule around n e) ≡
    Some (instruction.Rule (reference (start_tag around n e)))
says-rule around n e = ap instruction_of (reading-as table.rule around n e)

-- what an element of this row says: if
pub says-if : (around : Surroundings) (n : ℕ) (e : Element)
    → instruction_of (reading_as table.if_instruction around n e)
    ≡ instruction_of (conditional (filter_map test_of (inside_among (tests ++ instructions) around n e))
    (instructions_in (inside_among (tests ++ instructions) around n e)))
says-if around n e = ap instruction_of (reading-as table.if_instruction around n e)

-- what an element of this row says: fork
pub says-fork : (around : Surroundings) (n : ℕ) (e : Element)
    → end_of (reading_as table.fork around n e) ≡ Some (ends.Fork (reference_by (codes "functional-event")
    (start_tag around n e)) (filter_map path_of (inside_among (path ∷ []) around n e)))
says-fork around n e = ap end_of (reading-as table.fork around n e)

-- what an element of this row says: sequence
pub says-sequence : (around : Surroundings) (n : ℕ) (e : Element) → end_of (reading_as table.to_sequence around n
    e) ≡ Some (ends.Sequence (reference (start_tag around n e)))
says-sequence around n e = ap end_of (reading-as table.to_sequence around n e)

-- what an element of this row says: branch
pub says-branch : (around : Surroundings) (n : ℕ) (e : Element) → end_of (reading_as table.to_branch around n e) ≡
    Some (ends.Branch (reference (start_tag around n e)))
says-branch around n e = ap end_of (reading-as table.to_branch around n e)

-- what an element of this row says: path
pub says-path : (around : Surroundings) (n : ℕ) (e : Element)
    → path_of (reading_as table.path around n e) ≡ Some (record {
      state = text_in (start_tag around n e) (codes "state");
      place = place_of (start_tag around n e);
      tag = n;
      branch = branch_in (start_tag around n e) (inside_among (instructions ++ table.ends) around n e);
    })
says-path around n e = ap path_of (reading-as table.path around n e)

-- an if is an instruction or nothing
no-end-if : (ts : List DraftTest) (is : List DraftInstruction) → end_of (conditional ts is) ≡ None
no-end-if [] is = refl
no-end-if (t ∷ ts) [] = refl
no-end-if (t ∷ ts) (i ∷ is) = refl

no-test-if : (ts : List DraftTest) (is : List DraftInstruction) → test_of (conditional ts is) ≡ None
no-test-if [] is = refl
no-test-if (t ∷ ts) [] = refl
no-test-if (t ∷ ts) (i ∷ is) = refl

no-link-if : (ts : List DraftTest) (is : List DraftInstruction) → link_of (conditional ts is) ≡ None
no-link-if [] is = refl
no-link-if (t ∷ ts) [] = refl
no-link-if (t ∷ ts) (i ∷ is) = refl

-- an instruction is no end of a branch
pub no-end : (r : InstructionRow) (around : Surroundings) (n : ℕ) (e : Element) → end_of (reading_as
    (row_of_instruction r) around n e) ≡ None
no-end row.Collect around n e = ap end_of (reading-as table.collect_formula around n e)
no-end row.SetHouse around n e = ap end_of (reading-as table.set_house_event around n e)
no-end row.Block around n e = ap end_of (reading-as table.block around n e)
no-end row.Rule around n e = ap end_of (reading-as table.rule around n e)
no-end row.If around n e = ap end_of (reading-as table.if_instruction around n e) ∙ no-end-if _ _

-- an instruction is no test
pub no-test : (r : InstructionRow) (around : Surroundings) (n : ℕ) (e : Element) → test_of (reading_as
    (row_of_instruction r) around n e) ≡ None
no-test row.Collect around n e = ap test_of (reading-as table.collect_formula around n e)
no-test row.SetHouse around n e = ap test_of (reading-as table.set_house_event around n e)
no-test row.Block around n e = ap test_of (reading-as table.block around n e)
no-test row.Rule around n e = ap test_of (reading-as table.rule around n e)
no-test row.If around n e = ap test_of (reading-as table.if_instruction around n e) ∙ no-test-if _ _

-- an instruction is no link
pub no-link : (r : InstructionRow) (around : Surroundings) (n : ℕ) (e : Element) → link_of (reading_as
    (row_of_instruction r) around n e) ≡ None
no-link row.Collect around n e = ap link_of (reading-as table.collect_formula around n e)
no-link row.SetHouse around n e = ap link_of (reading-as table.set_house_event around n e)
no-link row.Block around n e = ap link_of (reading-as table.block around n e)
no-link row.Rule around n e = ap link_of (reading-as table.rule around n e)
no-link row.If around n e = ap link_of (reading-as table.if_instruction around n e) ∙ no-link-if _ _

-- an end or a link is no instruction
pub end-no-instruction : (r : EndRow) (around : Surroundings) (n : ℕ) (e : Element) → instruction_of (reading_as
    (row_of_end r) around n e) ≡ None
end-no-instruction end_row.Fork around n e = ap instruction_of (reading-as table.fork around n e)
end-no-instruction end_row.Sequence around n e = ap instruction_of (reading-as table.to_sequence around n e)
end-no-instruction end_row.Branch around n e = ap instruction_of (reading-as table.to_branch around n e)

-- a link is no instruction
pub link-no-instruction : (around : Surroundings) (n : ℕ) (e : Element) → instruction_of (reading_as
    table.to_event_tree around n e) ≡ None
link-no-instruction around n e = ap instruction_of (reading-as table.to_event_tree around n e)

-- what an element of this row says: link
pub says-link : (around : Surroundings) (n : ℕ) (e : Element) → link_of (reading_as table.to_event_tree around n e)
    ≡ Some (reference (start_tag around n e))
says-link around n e = ap link_of (reading-as table.to_event_tree around n e)

-- ---- no instruction is a test

test-found : (a b c d f : Bool) (around : Surroundings) (n : ℕ) (e : Element)
    → test_of (reading_found (cond a (Some table.collect_formula) (cond b (Some table.set_house_event) (cond c
    (Some table.block) (cond d (Some table.rule) (cond f (Some table.if_instruction) None))))) around n e)
    ≡ None
test-found true b c d f around n e = no-test row.Collect around n e
test-found false true c d f around n e = no-test row.SetHouse around n e
test-found false false true d f around n e = no-test row.Block around n e
test-found false false false true f around n e = no-test row.Rule around n e
test-found false false false false true around n e = no-test row.If around n e
test-found false false false false false around n e = refl

-- nothing among the instructions is a test
pub no-test-among : (around : Surroundings) (n : ℕ) (e : Element) → test_of (reading_among instructions around n e)
    ≡ None
unfolding reading_among
no-test-among around n e =
    test-found (has_tag (out-Element e).tag table.collect_formula) (has_tag (out-Element e).tag
    table.set_house_event) (has_tag (out-Element e).tag table.block)
    (has_tag (out-Element e).tag table.rule) (has_tag (out-Element e).tag table.if_instruction) around n e
