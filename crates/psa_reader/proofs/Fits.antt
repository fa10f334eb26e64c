-- What elements say has its numbers of arguments and is nested to a bound: what is asked of each thing that is said, and
-- how it passes to what is picked out of it.
use Rattle.std.proofs.Common.{◌≡◌, ℕ, suc, ◌≤◌, Bool, true, List, [], ◌∷◌, ◌++◌, map, length, Option, Some, None, refl, arith}
use Rattle.std.specs.Prelude.{filter_map, unwrap_or, slice_get}
use Rattle.std.specs.List.{AllByRecursion, cons_option, flat_map}
use Rattle.std.specs.Option.{option_to_list}
use Rattle.std.proofs.lemmas.Bool.{and_from}
use Rattle.psa_model.specs.declared.draft.DraftReference.{DraftReference}
use Rattle.psa_model.specs.declared.draft.DraftDefinition.{DraftDefinition}
use Rattle.psa_model.specs.declared.draft.DraftFactor.{DraftFactor}
use Rattle.psa_model.specs.declared.draft.DraftBranch.{DraftBranch}
use Rattle.psa_model.specs.declared.draft.DraftForkPath.{DraftForkPath}
use Rattle.psa_model.specs.declared.draft.DraftBranchEnd.{DraftBranchEnd}
use Rattle.psa_model.specs.declared.draft.DraftBranchEnd.TheViews.{out-DraftBranchEnd}
use Rattle.psa_model.specs.Drafts.{Contents, together, element, formula_contents, expression_contents, test_contents, instruction_contents, end_contents, path_contents, branch_contents, body_contents, has_body}
use Rattle.psa_elements.specs.DraftReading.{Reading, a_formula, an_expression, a_test, an_instruction, an_end, a_path, an_initial_state, a_distribution, some_factors, some_definitions, formula_of, expression_of, test_of, instruction_of, end_of, path_of, initial_state_of, distribution_of, factors_of, definitions_of}

-- ---- contents

pub record IsFit (bound : ℕ) (c : Contents) : Type 0 where
  pub nested : c.nesting ≤ bound
  pub numbered : c.has_numbers ≡ true

abbrev pub AreFit : {A : Type 0} → ℕ → (A → Contents) → List A → Type 0
AreFit bound f xs = AllByRecursion (λ x. IsFit bound (f x)) xs

pub fit-together : (bound : ℕ) (cs : List Contents) → AllByRecursion (IsFit bound) cs → IsFit bound (together cs)
fit-together bound [] all = record { nested = omega arith; numbered = refl }
fit-together bound (c ∷ cs) all =
    let rest = fit-together bound cs all.1 in
    let first = all.0 in
    record {
      nested = omega (arith, first.nested, rest.nested);
      numbered = and_from c.has_numbers
          (together cs).has_numbers first.numbered rest.numbered;
    }

pub fit-element : (bound : ℕ) (has : Bool) (name : Option DraftReference) (inside : List Contents) → has ≡ true
    → AllByRecursion (IsFit bound) inside
    → IsFit (suc bound) (element has name inside)
fit-element bound has name inside right all =
    let rest = fit-together bound inside all in
    record {
      nested = omega (arith, rest.nested);
      numbered = and_from has
          (together inside).has_numbers right rest.numbered;
    }

pub fit-more : (bound : ℕ) (c : Contents) → IsFit bound c → IsFit (suc bound) c
fit-more bound c fit = record { nested = omega (arith, fit.nested); numbered = fit.numbered }

pub fit-map : {A : Type 0} (bound : ℕ) (f : A → Contents) (xs : List A) → AreFit bound f xs
    → AllByRecursion (IsFit bound) (map f xs)
fit-map bound f [] all = tt
fit-map bound f (x ∷ xs) all = (all.0, fit-map bound f xs all.1)

pub all-fit-more : {A : Type 0} (bound : ℕ) (f : A → Contents) (xs : List A) → AreFit bound f xs
    → AreFit (suc bound) f xs
all-fit-more bound f [] all = tt
all-fit-more bound f (x ∷ xs) all = (fit-more bound (f x) all.0, all-fit-more bound f xs all.1)

pub all-append : {A : Type 0} (P : A → Type 0) (xs ys : List A) → AllByRecursion P xs → AllByRecursion P ys
    → AllByRecursion P (xs ++ ys)
all-append P [] ys a b = b
all-append P (x ∷ xs) ys a b = (a.0, all-append P xs ys a.1 b)

pub all-map : {A B : Type 0} (P : B → Type 0) (f : A → B) (xs : List A) → AllByRecursion (λ x. P (f x)) xs
    → AllByRecursion P (map f xs)
all-map P f [] all = tt
all-map P f (x ∷ xs) all = (all.0, all-map P f xs all.1)

pub first-holds : {A : Type 0} (P : A → Type 0) (default : A) (xs : List A) → P default → AllByRecursion P xs
    → P (unwrap_or (slice_get xs 0) default)
first-holds P default [] d all = d
first-holds P default (x ∷ xs) d all = all.0

pub some-first-holds : {A : Type 0} (P : A → Type 0) (default : A) (xs : List A) → 1 ≤ length xs → AllByRecursion P xs
    → P (unwrap_or (slice_get xs 0) default)
some-first-holds P default [] some all = absurd (omega (arith, some))
some-first-holds P default (x ∷ xs) some all = all.0

pub first-option-holds : {A : Type 0} (P : A → Type 0) (xs : List A) → AllByRecursion P xs
    → AllByRecursion P (option_to_list (slice_get xs 0))
first-option-holds P [] all = tt
first-option-holds P (x ∷ xs) all = (all.0, tt)

-- ---- what is said, in branches of at most so many levels

abbrev pub end_in : ℕ → DraftBranchEnd → Contents
end_in levels e = end_contents (λ b. branch_contents levels b) (out-DraftBranchEnd e)

abbrev pub path_in : ℕ → DraftForkPath → Contents
path_in levels p = path_contents (λ b. branch_contents levels b) p

abbrev pub factor_in : DraftFactor → Contents
factor_in f = expression_contents f.expression

abbrev pub definition_in : DraftDefinition → Contents
definition_in d = body_contents d.body

abbrev pub Fits : ℕ → ℕ → Reading → Type 0
Fits bound levels (a_formula f) = IsFit bound (formula_contents f)
Fits bound levels (an_expression e) = IsFit bound (expression_contents e)
Fits bound levels (a_test t) = IsFit bound (test_contents t)
Fits bound levels (an_instruction i) = IsFit bound (instruction_contents i)
Fits bound levels (an_end e) = IsFit bound (end_in levels e)
Fits bound levels (a_path p) = IsFit bound (path_in levels p)
Fits bound levels (an_initial_state b) = IsFit bound (branch_contents levels b)
Fits bound levels (a_distribution e) = IsFit bound (expression_contents e)
Fits bound levels (some_factors fs) = AreFit bound factor_in fs
Fits bound levels (some_definitions ds) = AreFit bound definition_in ds
Fits bound levels _ = Unit {0}

abbrev pub AllFit : ℕ → ℕ → List Reading → Type 0
AllFit bound levels inside = AllByRecursion (Fits bound levels) inside

-- a body is that of its kind, in what is said
abbrev pub HasBody : DraftDefinition → Type 0
HasBody d = has_body d.kind d.body ≡ true

abbrev pub HasBodies : Reading → Type 0
HasBodies r = AllByRecursion HasBody (definitions_of r)

-- ---- what is picked out of what the children say

abbrev Held : {A : Type 0} → (A → Type 0) → Option A → Type 0
Held P None = Unit {0}
Held P (Some x) = P x

picked : {A : Type 0} (pick : Reading → Option A) (P : A → Type 0) (Q : Reading → Type 0)
    → ((r : Reading) → Q r → Held P (pick r))
    → (inside : List Reading) → AllByRecursion Q inside → AllByRecursion P (filter_map pick inside)
picked pick P Q held [] all = tt
picked {A = A} pick P Q held (r ∷ inside) all = by_pick (pick r) (held r all.0) (picked pick P Q held inside all.1)
  where
    by_pick : (o : Option A) → Held P o → AllByRecursion P (filter_map pick inside)
        → AllByRecursion P (cons_option o (filter_map pick inside))
    by_pick None h rest = rest
    by_pick (Some x) h rest = (h, rest)

formula-held : (b l : ℕ) (r : Reading) → Fits b l r → Held (λ f. IsFit b (formula_contents f)) (formula_of r)
formula-held b l (a_formula f) h = h
formula-held b l _ h = tt

pub formulas-fit : (b l : ℕ) (inside : List Reading) → AllFit b l inside
    → AreFit b formula_contents (filter_map formula_of inside)
formulas-fit b l inside all =
    picked formula_of (λ f. IsFit b (formula_contents f)) (Fits b l) (formula-held b l) inside all

expression-held : (b l : ℕ) (r : Reading) → Fits b l r → Held (λ f. IsFit b (expression_contents f)) (expression_of r)
expression-held b l (an_expression f) h = h
expression-held b l _ h = tt

pub expressions-fit : (b l : ℕ) (inside : List Reading) → AllFit b l inside
    → AreFit b expression_contents (filter_map expression_of inside)
expressions-fit b l inside all =
    picked expression_of (λ f. IsFit b (expression_contents f)) (Fits b l) (expression-held b l) inside all

test-held : (b l : ℕ) (r : Reading) → Fits b l r → Held (λ f. IsFit b (test_contents f)) (test_of r)
test-held b l (a_test f) h = h
test-held b l _ h = tt

pub tests-fit : (b l : ℕ) (inside : List Reading) → AllFit b l inside
    → AreFit b test_contents (filter_map test_of inside)
tests-fit b l inside all = picked test_of (λ f. IsFit b (test_contents f)) (Fits b l) (test-held b l) inside all

instruction-held : (b l : ℕ) (r : Reading) → Fits b l r
    → Held (λ f. IsFit b (instruction_contents f)) (instruction_of r)
instruction-held b l (an_instruction f) h = h
instruction-held b l _ h = tt

pub instructions-fit : (b l : ℕ) (inside : List Reading) → AllFit b l inside
    → AreFit b instruction_contents (filter_map instruction_of inside)
instructions-fit b l inside all =
    picked instruction_of (λ f. IsFit b (instruction_contents f)) (Fits b l) (instruction-held b l) inside all

end-held : (b l : ℕ) (r : Reading) → Fits b l r → Held (λ f. IsFit b (end_in l f)) (end_of r)
end-held b l (an_end f) h = h
end-held b l _ h = tt

pub ends-fit : (b l : ℕ) (inside : List Reading) → AllFit b l inside → AreFit b (end_in l) (filter_map end_of inside)
ends-fit b l inside all = picked end_of (λ f. IsFit b (end_in l f)) (Fits b l) (end-held b l) inside all

path-held : (b l : ℕ) (r : Reading) → Fits b l r → Held (λ f. IsFit b (path_in l f)) (path_of r)
path-held b l (a_path f) h = h
path-held b l _ h = tt

pub paths-fit : (b l : ℕ) (inside : List Reading) → AllFit b l inside → AreFit b (path_in l) (filter_map path_of inside)
paths-fit b l inside all = picked path_of (λ f. IsFit b (path_in l f)) (Fits b l) (path-held b l) inside all

state-held : (b l : ℕ) (r : Reading) → Fits b l r → Held (λ f. IsFit b (branch_contents l f)) (initial_state_of r)
state-held b l (an_initial_state f) h = h
state-held b l _ h = tt

pub states-fit : (b l : ℕ) (inside : List Reading) → AllFit b l inside
    → AreFit b (λ (f : DraftBranch). branch_contents l f) (filter_map initial_state_of inside)
states-fit b l inside all =
    picked initial_state_of (λ f. IsFit b (branch_contents l f)) (Fits b l) (state-held b l) inside all

distribution-held : (b l : ℕ) (r : Reading) → Fits b l r
    → Held (λ f. IsFit b (expression_contents f)) (distribution_of r)
distribution-held b l (a_distribution f) h = h
distribution-held b l _ h = tt

pub distributions-fit : (b l : ℕ) (inside : List Reading) → AllFit b l inside
    → AreFit b expression_contents (filter_map distribution_of inside)
distributions-fit b l inside all =
    picked distribution_of (λ f. IsFit b (expression_contents f)) (Fits b l) (distribution-held b l) inside all

factor-held : (b l : ℕ) (r : Reading) → Fits b l r → AreFit b factor_in (factors_of r)
factor-held b l (some_factors fs) h = h
factor-held b l _ h = tt

pub factors-fit : (b l : ℕ) (inside : List Reading) → AllFit b l inside
    → AreFit b factor_in (flat_map factors_of inside)
factors-fit b l [] all = tt
factors-fit b l (r ∷ inside) all =
    all-append (λ (f : DraftFactor). IsFit b (factor_in f)) (factors_of r) (flat_map factors_of inside)
    (factor-held b l r all.0) (factors-fit b l inside all.1)

definition-held : (b l : ℕ) (r : Reading) → Fits b l r → AreFit b definition_in (definitions_of r)
definition-held b l (some_definitions ds) h = h
definition-held b l _ h = tt

pub definitions-fit : (b l : ℕ) (inside : List Reading) → AllFit b l inside
    → AreFit b definition_in (flat_map definitions_of inside)
definitions-fit b l [] all = tt
definitions-fit b l (r ∷ inside) all =
    all-append (λ (d : DraftDefinition). IsFit b (definition_in d)) (definitions_of r) (flat_map definitions_of inside)
    (definition-held b l r all.0) (definitions-fit b l inside all.1)

pub bodies-inside : (inside : List Reading) → AllByRecursion HasBodies inside
    → AllByRecursion HasBody (flat_map definitions_of inside)
bodies-inside [] all = tt
bodies-inside (r ∷ inside) all =
    all-append HasBody (definitions_of r) (flat_map definitions_of inside) all.0 (bodies-inside inside all.1)

-- what an element gives as definitions fits as what it says does
pub given-fit : (b l : ℕ) (r : Reading) → Fits b l r → AreFit b definition_in (definitions_of r)
given-fit b l r h = definition-held b l r h
