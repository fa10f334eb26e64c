-- What the tests of walks say, row by row.
use Rattle.std.proofs.Common.{◌≡◌, ℕ, Some, None, codes, ap}
use Rattle.std.specs.List.{filter_map}
use Rattle.psa_text.specs.declared.tree.Element.{Element}
use Rattle.psa_model.specs.declared.draft.DraftTest.TheVariants as condition
use Rattle.psa_elements.specs.ElementTable as table
use Rattle.psa_elements.specs.ElementTable.{tests}
use Rattle.psa_elements.specs.DraftReading.{Surroundings, test_of, instruction_of, reference, text_in}
use Rattle.psa_draft_parts.specs.declared.rows.TestRow.{TestRow}
use Rattle.psa_draft_parts.specs.declared.rows.TestRow.TheVariants as test
use Rattle.psa_draft_parts.specs.Rows.{row_of_test}
use Rattle.psa_draft_parts.specs.Sayings.{start_tag, reading_as, inside_among}
use Rattle.psa_draft_parts.proofs.Readings.{reading-as}

-- what an element of this row says: initiating
pub says-initiating : (around : Surroundings) (n : ℕ) (e : Element) → test_of (reading_as
    table.test_initiating_event around n e) ≡ Some (condition.Initiating (reference (start_tag around n e)))
says-initiating around n e = ap test_of (reading-as table.test_initiating_event around n e)

-- what an element of this row says: functional
pub says-functional : (around : Surroundings) (n : ℕ) (e : Element)
    → test_of (reading_as table.test_functional_event around n e) ≡ Some (condition.Functional (reference
    (start_tag around n e)) (text_in (start_tag around n e) (codes "state")))
says-functional around n e = ap test_of (reading-as table.test_functional_event around n e)

-- what an element of this row says: all
pub says-all : (around : Surroundings) (n : ℕ) (e : Element) → test_of (reading_as table.all_tests around n e) ≡
    Some (condition.All (filter_map test_of (inside_among tests around n e)))
says-all around n e = ap test_of (reading-as table.all_tests around n e)

-- what an element of this row says: any
pub says-any : (around : Surroundings) (n : ℕ) (e : Element) → test_of (reading_as table.any_test around n e) ≡
    Some (condition.Any (filter_map test_of (inside_among tests around n e)))
says-any around n e = ap test_of (reading-as table.any_test around n e)

-- what an element of this row says: not
pub says-not : (around : Surroundings) (n : ℕ) (e : Element) → test_of (reading_as table.not_test around n e) ≡
    Some (condition.Not (filter_map test_of (inside_among tests around n e)))
says-not around n e = ap test_of (reading-as table.not_test around n e)

-- a test is no instruction
pub no-instruction : (row : TestRow) (around : Surroundings) (n : ℕ) (e : Element) → instruction_of (reading_as
    (row_of_test row) around n e) ≡ None
no-instruction test.Initiating around n e = ap instruction_of (reading-as table.test_initiating_event around n e)
no-instruction test.Functional around n e = ap instruction_of (reading-as table.test_functional_event around n e)
no-instruction test.All around n e = ap instruction_of (reading-as table.all_tests around n e)
no-instruction test.Any around n e = ap instruction_of (reading-as table.any_test around n e)
no-instruction test.Not around n e = ap instruction_of (reading-as table.not_test around n e)
