-- What elements of a row say is of the row's kind, and how many say something of a kind is how many have its tags.
use Rattle.std.proofs.Common.{◌≡◌, ℕ, ◌+◌, Bool, true, false, not, ◌&&◌, cond, List, [], ◌∷◌, length, refl, ap, sym, ◌∙◌, arith}
use Rattle.std.specs.Prelude.{filter_map, filter, count_by}
use Rattle.std.specs.List.{list_all}
use Rattle.std.proofs.lemmas.List.Sums.{sum_by-cons}
use Rattle.psa_model.specs.PathNames.{Text}
use Rattle.psa_elements.specs.ElementTable.{Row, fork, to_sequence, to_branch, collect_formula, set_house_event, block, rule, if_instruction, test_initiating_event, test_functional_event, all_tests, any_test, not_test, gate, basic_event, house_event, event, constant, connective, float, int, parameter, mission_time, operator, rows_inside, tag_of}
use Rattle.psa_elements.specs.DraftReading.{Reading, a_formula, an_expression, a_test, an_instruction, an_end, formula_of, expression_of, test_of, instruction_of, end_of}
use Rattle.psa_reader.proofs.Totals.{total}
use Rattle.psa_reader.proofs.PlacesApart.{one_if}

-- the kinds of things that elements say, of which the number matters
pub data Kind : Type 0 where
  formulas expressions tests instructions endings others : Kind

abbrev pub kind_of : Reading → Kind
kind_of (a_formula f) = formulas
kind_of (an_expression e) = expressions
kind_of (a_test t) = tests
kind_of (an_instruction i) = instructions
kind_of (an_end e) = endings
kind_of _ = others

abbrev pub kind_of_row : Row → Kind
kind_of_row gate = formulas
kind_of_row basic_event = formulas
kind_of_row house_event = formulas
kind_of_row event = formulas
kind_of_row constant = formulas
kind_of_row (connective c) = formulas
kind_of_row float = expressions
kind_of_row int = expressions
kind_of_row parameter = expressions
kind_of_row mission_time = expressions
kind_of_row (operator o) = expressions
kind_of_row test_initiating_event = tests
kind_of_row test_functional_event = tests
kind_of_row all_tests = tests
kind_of_row any_test = tests
kind_of_row not_test = tests
kind_of_row collect_formula = instructions
kind_of_row set_house_event = instructions
kind_of_row block = instructions
kind_of_row rule = instructions
kind_of_row if_instruction = instructions
kind_of_row fork = endings
kind_of_row to_sequence = endings
kind_of_row to_branch = endings
kind_of_row _ = others

abbrev pub same_kind : Kind → Kind → Bool
same_kind formulas formulas = true
same_kind expressions expressions = true
same_kind tests tests = true
same_kind instructions instructions = true
same_kind endings endings = true
same_kind others others = true
same_kind _ _ = false

-- how many say something of a kind
abbrev pub said : Kind → List Reading → ℕ
said kind inside = total (λ r. one_if (same_kind kind (kind_of r))) inside

pub formulas-said : (inside : List Reading) → length (filter_map formula_of inside) ≡ said formulas inside
formulas-said [] = refl
formulas-said (a_formula f ∷ inside) = omega (arith, formulas-said inside)
formulas-said (an_expression e ∷ inside) = omega (arith, formulas-said inside)
formulas-said (a_test t ∷ inside) = omega (arith, formulas-said inside)
formulas-said (an_instruction i ∷ inside) = omega (arith, formulas-said inside)
formulas-said (_ ∷ inside) = omega (arith, formulas-said inside)

pub expressions-said : (inside : List Reading) → length (filter_map expression_of inside) ≡ said expressions inside
expressions-said [] = refl
expressions-said (a_formula f ∷ inside) = omega (arith, expressions-said inside)
expressions-said (an_expression e ∷ inside) = omega (arith, expressions-said inside)
expressions-said (a_test t ∷ inside) = omega (arith, expressions-said inside)
expressions-said (an_instruction i ∷ inside) = omega (arith, expressions-said inside)
expressions-said (_ ∷ inside) = omega (arith, expressions-said inside)

pub tests-said : (inside : List Reading) → length (filter_map test_of inside) ≡ said tests inside
tests-said [] = refl
tests-said (a_formula f ∷ inside) = omega (arith, tests-said inside)
tests-said (an_expression e ∷ inside) = omega (arith, tests-said inside)
tests-said (a_test t ∷ inside) = omega (arith, tests-said inside)
tests-said (an_instruction i ∷ inside) = omega (arith, tests-said inside)
tests-said (_ ∷ inside) = omega (arith, tests-said inside)

pub instructions-said : (inside : List Reading) → length (filter_map instruction_of inside) ≡ said instructions inside
instructions-said [] = refl
instructions-said (a_formula f ∷ inside) = omega (arith, instructions-said inside)
instructions-said (an_expression e ∷ inside) = omega (arith, instructions-said inside)
instructions-said (a_test t ∷ inside) = omega (arith, instructions-said inside)
instructions-said (an_instruction i ∷ inside) = omega (arith, instructions-said inside)
instructions-said (_ ∷ inside) = omega (arith, instructions-said inside)

pub endings-said : (inside : List Reading) → length (filter_map end_of inside) ≡ said endings inside
endings-said [] = refl
endings-said (a_formula f ∷ inside) = omega (arith, endings-said inside)
endings-said (an_expression e ∷ inside) = omega (arith, endings-said inside)
endings-said (a_test t ∷ inside) = omega (arith, endings-said inside)
endings-said (an_instruction i ∷ inside) = omega (arith, endings-said inside)
endings-said (an_end e ∷ inside) = omega (arith, endings-said inside)
endings-said (_ ∷ inside) = omega (arith, endings-said inside)

-- ---- children by their tags

-- a child's row: it has the child's tag, what all rows inside the parent's pass it passes, and what is said is of its kind
pub record IsRead (parent : Row) (tag : Text) (r : Reading) : Type 0 where
  pub row : Row
  pub tagged : tag_of row ≡ tag
  pub among : (test : Row → Bool) → list_all test (rows_inside parent) ≡ true → test row ≡ true
  pub kind : kind_of r ≡ kind_of_row row

abbrev pub AreRead : Row → List Text → List Reading → Type 0
AreRead parent [] [] = Unit {0}
AreRead parent (tag ∷ tags) (r ∷ inside) = IsRead parent tag r × AreRead parent tags inside
AreRead parent _ _ = ⊥

abbrev pub same_answer : Bool → Bool → Bool
same_answer true b = b
same_answer false b = not b

same-answers : (a b : Bool) → same_answer a b ≡ true → a ≡ b
same-answers true true h = refl
same-answers true false h = cc
same-answers false true h = cc
same-answers false false h = refl

-- Where a test of tags tells the rows of a kind inside a row, as many children pass it as say something of the kind.
pub tags-said : (parent : Row) (kind : Kind) (test : Text → Bool)
    → list_all (λ row. same_answer (test (tag_of row)) (same_kind kind (kind_of_row row))) (rows_inside parent) ≡ true
    → (tags : List Text) (inside : List Reading) → AreRead parent tags inside → total (λ tag. one_if (test tag)) tags
    ≡ said kind inside
tags-said parent kind test tells [] [] are = refl
tags-said parent kind test tells [] (r ∷ inside) are = absurd are
tags-said parent kind test tells (tag ∷ tags) [] are = absurd are
tags-said parent kind test tells (tag ∷ tags) (r ∷ inside) are =
    let is = are.0 in
    let here : test (tag_of is.row) ≡ same_kind kind (kind_of_row is.row) =
    same-answers (test (tag_of is.row)) (same_kind kind (kind_of_row is.row))
    (is.among (λ row. same_answer (test (tag_of row)) (same_kind kind (kind_of_row row))) tells) in
    let told : test tag ≡ same_kind kind (kind_of r) =
    ap test (sym is.tagged) ∙ here ∙ ap (same_kind kind) (sym is.kind) in
    omega (arith, ap one_if told, tags-said parent kind test tells tags inside are.1)

pub count-filtered : (test keep : Text → Bool) (tags : List Text)
    → count_by test (filter keep tags) ≡ total (λ tag. one_if (test tag && keep tag)) tags
count-filtered test keep [] = refl
count-filtered test keep (tag ∷ tags) = by_tests (keep tag) (test tag) refl refl (count-filtered test keep tags)
  where
    by_tests : (k t : Bool) → keep tag ≡ k → test tag ≡ t
        → count_by test (filter keep tags) ≡ total (λ tag. one_if (test tag && keep tag)) tags
        → count_by test (filter keep (tag ∷ tags)) ≡ total (λ tag. one_if (test tag && keep tag)) (tag ∷ tags)
    by_tests true true e f rest =
        rw (e, f) (sum_by-cons (λ x. cond (test x) 1 0) tag (filter keep tags) ∙ rw f (ap (λ n. 1 + n) rest))
    by_tests true false e f rest =
        rw (e, f) (sum_by-cons (λ x. cond (test x) 1 0) tag (filter keep tags) ∙ rw f (ap (λ n. 0 + n) rest))
    by_tests false true e f rest = rw (e, f) (rest ∙ left_zero _)
      where
        left_zero : (n : ℕ) → n ≡ 0 + n
        left_zero n = omega arith
    by_tests false false e f rest = rw (e, f) (rest ∙ left_zero _)
      where
        left_zero : (n : ℕ) → n ≡ 0 + n
        left_zero n = omega arith

pub length-filtered : (keep : Text → Bool) (tags : List Text)
    → length (filter keep tags) ≡ total (λ tag. one_if (keep tag)) tags
length-filtered keep [] = refl
length-filtered keep (tag ∷ tags) = by_test (keep tag) refl (length-filtered keep tags)
  where
    by_test : (k : Bool) → keep tag ≡ k → length (filter keep tags) ≡ total (λ tag. one_if (keep tag)) tags
        → length (filter keep (tag ∷ tags)) ≡ total (λ tag. one_if (keep tag)) (tag ∷ tags)
    by_test true e rest = rw e (omega (arith, rest))
    by_test false e rest = rw e (omega (arith, rest))
