-- That the tags inside a row are different, by computation over the table.
use Rattle.std.proofs.Common.{◌≡◌, Bool, true, false, List, [], ◌∷◌, ◌&&◌, not, map, refl}
use Rattle.std.proofs.lemmas.Bool.{and_parts, not-true}
use Rattle.std.specs.List.{AllByRecursion, IsDistinct, list_all}
use Rattle.std.specs.Str.{bytes_eq}
use Rattle.psa_model.specs.PathNames.{Text}
use Rattle.psa_model.specs.declared.formula.Connective.TheVariants.{And, Or, Not, Xor, Iff, Nand, Nor, Imply, Atleast, Cardinality}
use Rattle.psa_model.specs.declared.expression.ExpressionOperator.TheVariants as operation
use Rattle.psa_elements.specs.ElementTable.{Row, opsa_mef, label, attributes, attribute, define_fault_tree, define_component, model_data, define_gate, define_basic_event, define_house_event, define_parameter, public_basic_event, public_house_event, public_parameter, define_group, members, distribution, factors, factor, define_initiating_event, define_event_tree, define_functional_event, define_sequence, define_branch, define_rule, initial_state, fork, path, to_sequence, to_branch, to_event_tree, collect_formula, set_house_event, block, rule, if_instruction, test_initiating_event, test_functional_event, all_tests, any_test, not_test, gate, basic_event, house_event, event, constant, float, int, parameter, mission_time, connective, operator, tag_of, rows_inside}

-- the test of it
are_distinct : List Text → Bool
are_distinct [] = true
are_distinct (x ∷ xs) = list_all (λ y. not (bytes_eq x y)) xs && are_distinct xs

all_apart : (x : Text) (xs : List Text) → list_all (λ y. not (bytes_eq x y)) xs ≡ true → AllByRecursion (λ y. bytes_eq x y ≡ false) xs
all_apart x [] h = tt
all_apart x (y ∷ ys) h = let parts = and_parts (not (bytes_eq x y)) (list_all (λ z. not (bytes_eq x z)) ys) h in
    (not-true (bytes_eq x y) parts.0, all_apart x ys parts.1)

distinct-by-test : (xs : List Text) → are_distinct xs ≡ true → IsDistinct bytes_eq xs
unfolding are_distinct IsDistinct
distinct-by-test [] h = tt
distinct-by-test (x ∷ xs) h = let parts = and_parts (list_all (λ y. not (bytes_eq x y)) xs) (are_distinct xs) h in
    (all_apart x xs parts.0, distinct-by-test xs parts.1)

test-passes : (row : Row) → are_distinct (map tag_of (rows_inside row)) ≡ true
unfolding are_distinct
test-passes opsa_mef = refl
test-passes label = refl
test-passes attributes = refl
test-passes attribute = refl
test-passes define_fault_tree = refl
test-passes define_component = refl
test-passes model_data = refl
test-passes define_gate = refl
test-passes define_basic_event = refl
test-passes define_house_event = refl
test-passes define_parameter = refl
test-passes public_basic_event = refl
test-passes public_house_event = refl
test-passes public_parameter = refl
test-passes define_group = refl
test-passes members = refl
test-passes distribution = refl
test-passes factors = refl
test-passes factor = refl
test-passes define_initiating_event = refl
test-passes define_event_tree = refl
test-passes define_functional_event = refl
test-passes define_sequence = refl
test-passes define_branch = refl
test-passes define_rule = refl
test-passes initial_state = refl
test-passes fork = refl
test-passes path = refl
test-passes to_sequence = refl
test-passes to_branch = refl
test-passes to_event_tree = refl
test-passes collect_formula = refl
test-passes set_house_event = refl
test-passes block = refl
test-passes rule = refl
test-passes if_instruction = refl
test-passes test_initiating_event = refl
test-passes test_functional_event = refl
test-passes all_tests = refl
test-passes any_test = refl
test-passes not_test = refl
test-passes gate = refl
test-passes basic_event = refl
test-passes house_event = refl
test-passes event = refl
test-passes constant = refl
test-passes float = refl
test-passes int = refl
test-passes parameter = refl
test-passes mission_time = refl
test-passes (connective And) = refl
test-passes (connective Or) = refl
test-passes (connective Not) = refl
test-passes (connective Xor) = refl
test-passes (connective Iff) = refl
test-passes (connective Nand) = refl
test-passes (connective Nor) = refl
test-passes (connective Imply) = refl
test-passes (connective Atleast) = refl
test-passes (connective Cardinality) = refl
test-passes (operator operation.Neg) = refl
test-passes (operator operation.Add) = refl
test-passes (operator operation.Sub) = refl
test-passes (operator operation.Mul) = refl
test-passes (operator operation.Div) = refl
test-passes (operator operation.Exponential) = refl

pub tags-distinct : (row : Row) → IsDistinct bytes_eq (map tag_of (rows_inside row))
tags-distinct row = distinct-by-test (map tag_of (rows_inside row)) (test-passes row)
