-- How many of a kind the elements inside an element say, by the shape of its row.
use Rattle.std.proofs.Common.{◌≡◌, ℕ, ◌≤◌, ◌==◌, nat_le, Bool, true, false, not, ◌&&◌, List, length, Option, Some, None, refl, subst, ◌∙◌, arith}
use Rattle.std.specs.Prelude.{codes, filter, count_by}
use Rattle.std.specs.List.{list_all}
use Rattle.std.proofs.lemmas.Bool.{and_parts, and_from, leb-true, eq-eqb}
use Rattle.psa_text.specs.declared.tree.Attribute.{Attribute}
use Rattle.psa_model.specs.PathNames.{Text}
use Rattle.psa_model.specs.declared.formula.Connective.{Connective}
use Rattle.psa_model.specs.declared.formula.Connective.TheVariants.{And, Or, Not, Xor, Iff, Nand, Nor, Imply, Atleast, Cardinality}
use Rattle.psa_model.specs.declared.formula.TheConstants.{MAX_COUNTED_ARGUMENTS}
use Rattle.psa_model.specs.declared.expression.ExpressionOperator.{ExpressionOperator}
use Rattle.psa_model.specs.declared.expression.ExpressionOperator.TheVariants as operation
use Rattle.psa_model.specs.Formulas.{has_arity}
use Rattle.psa_model.specs.Values.{has_operands}
use Rattle.psa_elements.specs.ElementTable.{Row, define_parameter, public_parameter, path, collect_formula, if_instruction, all_tests, any_test, not_test, connective, operator, rows_inside, tag_of, Part, exactly, at_least, at_most, from_to, Content, rule_of, parts_of}
use Rattle.psa_elements.specs.ElementTable as table
use Rattle.psa_elements.specs.ShapeFaults.{is_in_part, is_at_most, has_number, has_order, is_label, is_well_shaped, number_in}
use Rattle.psa_elements.specs.DraftReading.{StartTag, Reading, least_of, most_of}
use Rattle.psa_reader.proofs.RowKinds.{Kind, formulas, expressions, tests, instructions, endings, kind_of_row, same_kind, same_answer, said, AreRead, tags-said, count-filtered, length-filtered}

-- the tags that count
abbrev pub counted : List Text → List Text
counted tags = filter (λ tag. not (is_label tag)) tags

-- a part of a row tells the rows of a kind
abbrev Tells : Row → Part → Kind → Type 0
Tells parent part kind =
    list_all (λ row. same_answer (is_in_part part (tag_of row) && not (is_label (tag_of row)))
    (same_kind kind (kind_of_row row))) (rows_inside parent) ≡ true

part-said : (parent : Row) (part : Part) (kind : Kind) → Tells parent part kind
    → (tags : List Text) (inside : List Reading) → AreRead parent tags inside
    → count_by (is_in_part part) (counted tags) ≡ said kind inside
part-said parent part kind tells tags inside are =
    count-filtered (is_in_part part) (λ tag. not (is_label tag)) tags
    ∙ tags-said parent kind (λ tag. is_in_part part tag && not (is_label tag)) tells tags inside are

-- all that counts is of a kind
abbrev TellsAll : Row → Kind → Type 0
TellsAll parent kind =
    list_all (λ row. same_answer (not (is_label (tag_of row))) (same_kind kind (kind_of_row row))) (rows_inside parent)
    ≡ true

all-said : (parent : Row) (kind : Kind) → TellsAll parent kind → (tags : List Text) (inside : List Reading)
    → AreRead parent tags inside
    → length (counted tags) ≡ said kind inside
all-said parent kind tells tags inside are =
    length-filtered (λ tag. not (is_label tag)) tags ∙ tags-said parent kind
    (λ tag. not (is_label tag)) tells tags inside are

-- ---- the parts of a shape

one-part : (a b : Bool) → (((a && true) && true) && b) ≡ true → (a ≡ true) × (b ≡ true)
one-part true true h = (refl, refl)
one-part true false h = cc
one-part false b h = cc

two-parts : (a b c d : Bool) → (((a && (b && true)) && c) && d) ≡ true → (a ≡ true) × (b ≡ true)
two-parts true true c d h = (refl, refl)
two-parts true false c d h = cc
two-parts false b c d h = cc

least : (part : Part) (tags : List Text) (n : ℕ) → count_by (is_in_part part) tags ≡ n → has_number tags part ≡ true
    → nat_le part.least n ≡ true
least part tags n same h =
    subst (λ m. nat_le part.least m ≡ true) same
    (and_parts (nat_le part.least (count_by (is_in_part part) tags))
    (is_at_most (count_by (is_in_part part) tags) part.most) h).0

most : (part : Part) (tags : List Text) (n : ℕ) → count_by (is_in_part part) tags ≡ n → has_number tags part ≡ true
    → is_at_most n part.most ≡ true
most part tags n same h =
    subst (λ m. is_at_most m part.most ≡ true) same
    (and_parts (nat_le part.least (count_by (is_in_part part) tags))
    (is_at_most (count_by (is_in_part part) tags) part.most) h).1

exact : (k n : ℕ) → nat_le k n ≡ true → nat_le n k ≡ true → (n == k) ≡ true
exact k n a b = eq-eqb n k (omega (arith, leb-true k n a, leb-true n k b))

-- ---- connectives

abbrev arguments_part : ℕ → Option ℕ → Part
arguments_part low high = record { rows = table.formulas; least = low; most = high }

-- at least so many arguments, and at most so many
formulas-least : (c : Connective) (low : ℕ) (high : Option ℕ) → Tells (connective c) (arguments_part low high) formulas
    → (tags : List Text) (inside : List Reading) → AreRead (connective c) tags inside
    → has_number (counted tags) (arguments_part low high) ≡ true → nat_le low (said formulas inside) ≡ true
formulas-least c low high tells tags inside are h =
    least (arguments_part low high) (counted tags) (said formulas inside)
    (part-said (connective c) (arguments_part low high) formulas tells tags inside are) h

formulas-most : (c : Connective) (low : ℕ) (high : Option ℕ) → Tells (connective c) (arguments_part low high) formulas
    → (tags : List Text) (inside : List Reading) → AreRead (connective c) tags inside
    → has_number (counted tags) (arguments_part low high) ≡ true → is_at_most (said formulas inside) high ≡ true
formulas-most c low high tells tags inside are h =
    most (arguments_part low high) (counted tags) (said formulas inside)
    (part-said (connective c) (arguments_part low high) formulas tells tags inside are) h

pub arity : (c : Connective) (start : StartTag) (tags : List Text) (inside : List Reading)
    → AreRead (connective c) tags inside
    → is_well_shaped (connective c) start.attributes (counted tags) ≡ true → has_arity c (least_of c start)
    (most_of c start) (said formulas inside) ≡ true
arity And start tags inside are well =
    formulas-least And 1 None refl tags inside are
    (one-part (has_number (counted tags) (arguments_part 1 None)) true well).0
arity Or start tags inside are well =
    formulas-least Or 1 None refl tags inside are
    (one-part (has_number (counted tags) (arguments_part 1 None)) true well).0
arity Nand start tags inside are well =
    formulas-least Nand 1 None refl tags inside are
    (one-part (has_number (counted tags) (arguments_part 1 None)) true well).0
arity Nor start tags inside are well =
    formulas-least Nor 1 None refl tags inside are
    (one-part (has_number (counted tags) (arguments_part 1 None)) true well).0
arity Not start tags inside are well =
    let h = (one-part (has_number (counted tags) (arguments_part 1 (Some 1))) true well).0 in
    exact 1 (said formulas inside) (formulas-least Not 1 (Some 1) refl tags inside are h)
    (formulas-most Not 1 (Some 1) refl tags inside are h)
arity Xor start tags inside are well =
    let h = (one-part (has_number (counted tags) (arguments_part 2 (Some 2))) true well).0 in
    exact 2 (said formulas inside) (formulas-least Xor 2 (Some 2) refl tags inside are h)
    (formulas-most Xor 2 (Some 2) refl tags inside are h)
arity Iff start tags inside are well =
    let h = (one-part (has_number (counted tags) (arguments_part 2 (Some 2))) true well).0 in
    exact 2 (said formulas inside) (formulas-least Iff 2 (Some 2) refl tags inside are h)
    (formulas-most Iff 2 (Some 2) refl tags inside are h)
arity Imply start tags inside are well =
    let h = (one-part (has_number (counted tags) (arguments_part 2 (Some 2))) true well).0 in
    exact 2 (said formulas inside) (formulas-least Imply 2 (Some 2) refl tags inside are h)
    (formulas-most Imply 2 (Some 2) refl tags inside are h)
arity Atleast start tags inside are well =
    let low = number_in start.attributes (codes "min") in
    let parts = one-part (has_number (counted tags) (arguments_part 1 (Some MAX_COUNTED_ARGUMENTS)))
    (nat_le low (length (counted tags))) well in
    let n = said formulas inside in
    let bounded : nat_le low n ≡ true =
    subst (λ m. nat_le low m ≡ true) (all-said (connective Atleast) formulas refl tags inside are) parts.1 in
    and_from (nat_le 1 n && nat_le n MAX_COUNTED_ARGUMENTS) (nat_le low n)
    (and_from (nat_le 1 n) (nat_le n MAX_COUNTED_ARGUMENTS)
    (formulas-least Atleast 1 (Some MAX_COUNTED_ARGUMENTS) refl tags inside are parts.0)
    (formulas-most Atleast 1 (Some MAX_COUNTED_ARGUMENTS) refl tags inside are parts.0)) bounded
arity Cardinality start tags inside are well =
    let low = number_in start.attributes (codes "min") in
    let high = number_in start.attributes (codes "max") in
    let parts = one-part (has_number (counted tags) (arguments_part 1 (Some MAX_COUNTED_ARGUMENTS)))
    (nat_le low high && nat_le high (length (counted tags))) well in
    let bounds = and_parts (nat_le low high) (nat_le high (length (counted tags))) parts.1 in
    let n = said formulas inside in
    let bounded : nat_le high n ≡ true =
    subst (λ m. nat_le high m ≡ true) (all-said (connective Cardinality) formulas refl tags inside are) bounds.1 in
    and_from (nat_le 1 n && nat_le n MAX_COUNTED_ARGUMENTS && nat_le low high) (nat_le high n)
    (and_from (nat_le 1 n && nat_le n MAX_COUNTED_ARGUMENTS) (nat_le low high)
    (and_from (nat_le 1 n) (nat_le n MAX_COUNTED_ARGUMENTS)
    (formulas-least Cardinality 1 (Some MAX_COUNTED_ARGUMENTS) refl tags inside are parts.0)
    (formulas-most Cardinality 1 (Some MAX_COUNTED_ARGUMENTS) refl tags inside are parts.0)) bounds.0) bounded

-- what is collected is a formula
pub has-formula : (given : List Attribute) (tags : List Text) (inside : List Reading)
    → AreRead collect_formula tags inside
    → is_well_shaped collect_formula given (counted tags) ≡ true → 1 ≤ said formulas inside
has-formula given tags inside are well =
    leb-true 1 (said formulas inside)
    (least (arguments_part 1 (Some 1)) (counted tags) (said formulas inside)
    (part-said collect_formula (arguments_part 1 (Some 1)) formulas refl tags inside are)
    (one-part (has_number (counted tags) (arguments_part 1 (Some 1))) true well).0)

-- ---- operators

abbrev operands_part : ℕ → Option ℕ → Part
operands_part low high = record { rows = table.expressions; least = low; most = high }

expressions-least : (parent : Row) (low : ℕ) (high : Option ℕ) → Tells parent (operands_part low high) expressions
    → (tags : List Text) (inside : List Reading) → AreRead parent tags inside
    → has_number (counted tags) (operands_part low high) ≡ true → nat_le low (said expressions inside) ≡ true
expressions-least parent low high tells tags inside are h =
    least (operands_part low high) (counted tags) (said expressions inside)
    (part-said parent (operands_part low high) expressions tells tags inside are) h

expressions-most : (parent : Row) (low : ℕ) (high : Option ℕ) → Tells parent (operands_part low high) expressions
    → (tags : List Text) (inside : List Reading) → AreRead parent tags inside
    → has_number (counted tags) (operands_part low high) ≡ true → is_at_most (said expressions inside) high ≡ true
expressions-most parent low high tells tags inside are h =
    most (operands_part low high) (counted tags) (said expressions inside)
    (part-said parent (operands_part low high) expressions tells tags inside are) h

pub operands : (o : ExpressionOperator) (given : List Attribute) (tags : List Text) (inside : List Reading)
    → AreRead (operator o) tags inside
    → is_well_shaped (operator o) given (counted tags) ≡ true → has_operands o (said expressions inside) ≡ true
operands operation.Neg given tags inside are well =
    let h = (one-part (has_number (counted tags) (operands_part 1 (Some 1))) true well).0 in
    exact 1 (said expressions inside) (expressions-least (operator operation.Neg) 1 (Some 1) refl tags inside are h)
    (expressions-most (operator operation.Neg) 1 (Some 1) refl tags inside are h)
operands operation.Add given tags inside are well =
    expressions-least (operator operation.Add) 1 None refl tags inside are
    (one-part (has_number (counted tags) (operands_part 1 None)) true well).0
operands operation.Mul given tags inside are well =
    expressions-least (operator operation.Mul) 1 None refl tags inside are
    (one-part (has_number (counted tags) (operands_part 1 None)) true well).0
operands operation.Sub given tags inside are well =
    expressions-least (operator operation.Sub) 2 None refl tags inside are
    (one-part (has_number (counted tags) (operands_part 2 None)) true well).0
operands operation.Div given tags inside are well =
    expressions-least (operator operation.Div) 2 None refl tags inside are
    (one-part (has_number (counted tags) (operands_part 2 None)) true well).0
operands operation.Exponential given tags inside are well =
    let h = (one-part (has_number (counted tags) (operands_part 2 (Some 2))) true well).0 in
    exact 2 (said expressions inside)
    (expressions-least (operator operation.Exponential) 2 (Some 2) refl tags inside are h)
    (expressions-most (operator operation.Exponential) 2 (Some 2) refl tags inside are h)

-- a parameter has an expression
pub has-expression : (given : List Attribute) (tags : List Text) (inside : List Reading)
    → AreRead define_parameter tags inside
    → is_well_shaped define_parameter given (counted tags) ≡ true → 1 ≤ said expressions inside
has-expression given tags inside are well =
    leb-true 1 (said expressions inside)
    (expressions-least define_parameter 1 (Some 1) refl tags inside are
    (one-part (has_number (counted tags) (operands_part 1 (Some 1))) true well).0)

pub has-public-expression : (given : List Attribute) (tags : List Text) (inside : List Reading)
    → AreRead public_parameter tags inside
    → is_well_shaped public_parameter given (counted tags) ≡ true → 1 ≤ said expressions inside
has-public-expression given tags inside are well =
    leb-true 1 (said expressions inside)
    (expressions-least public_parameter 1 (Some 1) refl tags inside are
    (one-part (has_number (counted tags) (operands_part 1 (Some 1))) true well).0)

-- ---- tests

abbrev tests_part : ℕ → Option ℕ → Part
tests_part low high = record { rows = table.tests; least = low; most = high }

tests-least : (parent : Row) (low : ℕ) (high : Option ℕ) → Tells parent (tests_part low high) tests
    → (tags : List Text) (inside : List Reading) → AreRead parent tags inside
    → has_number (counted tags) (tests_part low high) ≡ true → nat_le low (said tests inside) ≡ true
tests-least parent low high tells tags inside are h =
    least (tests_part low high) (counted tags) (said tests inside)
    (part-said parent (tests_part low high) tests tells tags inside are) h

pub all-tests-some : (given : List Attribute) (tags : List Text) (inside : List Reading) → AreRead all_tests tags inside
    → is_well_shaped all_tests given (counted tags) ≡ true → nat_le 1 (said tests inside) ≡ true
all-tests-some given tags inside are well =
    tests-least all_tests 1 None refl tags inside are
    (one-part (has_number (counted tags) (tests_part 1 None)) true well).0

pub any-test-some : (given : List Attribute) (tags : List Text) (inside : List Reading) → AreRead any_test tags inside
    → is_well_shaped any_test given (counted tags) ≡ true → nat_le 1 (said tests inside) ≡ true
any-test-some given tags inside are well =
    tests-least any_test 1 None refl tags inside are
    (one-part (has_number (counted tags) (tests_part 1 None)) true well).0

pub not-test-one : (given : List Attribute) (tags : List Text) (inside : List Reading) → AreRead not_test tags inside
    → is_well_shaped not_test given (counted tags) ≡ true → (said tests inside == 1) ≡ true
not-test-one given tags inside are well =
    let h = (one-part (has_number (counted tags) (tests_part 1 (Some 1))) true well).0 in
    exact 1 (said tests inside) (tests-least not_test 1 (Some 1) refl tags inside are h)
    (most (tests_part 1 (Some 1)) (counted tags) (said tests inside)
    (part-said not_test (tests_part 1 (Some 1)) tests refl tags inside are) h)

-- ---- conditionals and paths

abbrev steps_part : ℕ → Option ℕ → Part
steps_part low high = record { rows = table.instructions; least = low; most = high }

-- an `if` has a test and one or two instructions
pub record IsConditional (inside : List Reading) : Type 0 where
  pub tested : 1 ≤ said tests inside
  pub first : 1 ≤ said instructions inside
  pub few : said instructions inside ≤ 2

pub is-conditional : (given : List Attribute) (tags : List Text) (inside : List Reading)
    → AreRead if_instruction tags inside
    → is_well_shaped if_instruction given (counted tags) ≡ true → IsConditional inside
is-conditional given tags inside are well =
    let parts = two-parts (has_number (counted tags) (tests_part 1 (Some 1)))
    (has_number (counted tags) (steps_part 1 (Some 2)))
    (has_order (rule_of if_instruction).content (counted tags)) true well in
    let same = part-said if_instruction (steps_part 1 (Some 2)) instructions refl tags inside are in
    record {
      tested = leb-true 1 (said tests inside) (tests-least if_instruction 1 (Some 1) refl tags inside are parts.0);
      first = leb-true 1 (said instructions inside)
          (least (steps_part 1 (Some 2)) (counted tags) (said instructions inside) same parts.1);
      few = leb-true (said instructions inside) 2
          (most (steps_part 1 (Some 2)) (counted tags) (said instructions inside) same parts.1);
    }

abbrev ends_part : Part
ends_part = record { rows = table.ends; least = 1; most = Some 1 }

-- a path has an end
pub path-ends : (given : List Attribute) (tags : List Text) (inside : List Reading) → AreRead path tags inside
    → is_well_shaped path given (counted tags) ≡ true → 1 ≤ said endings inside
path-ends given tags inside are well =
    let parts = two-parts (has_number (counted tags) (steps_part 0 None)) (has_number (counted tags) ends_part)
    (has_order (rule_of path).content (counted tags)) true well in
    leb-true 1 (said endings inside)
    (least ends_part (counted tags) (said endings inside)
    (part-said path ends_part endings refl tags inside are) parts.1)
