-- A test at each form.
use Rattle.std.proofs.Common.{◌≡◌, ◌||◌, ℕ, Bool, List, [], ◌∷◌, map, not, refl, sym, ap, ◌∙◌}
use Rattle.std.proofs.lemmas.List.Folds.{list_all-map}
use Rattle.std.specs.List.{list_all, list_any}
use Rattle.psa_model.specs.declared.walks.Test.{Test}
use Rattle.psa_model.specs.declared.walks.Test.TheOpen.{Test-F}
use Rattle.psa_model.specs.declared.walks.Test.TheFolds.{fold-roll-Test}
use Rattle.psa_model.specs.declared.walks.Test.TheViews.{rolls-All, rolls-Any, rolls-Not}
use Rattle.psa_model.specs.declared.walks.Test.TheVariants as variant
use Rattle.psa_model.specs.Tests.{Fork, test_step, is_true_in}

list_any-map : {A B : Type 0} (p : B → Bool) (f : A → B) (xs : List A) → list_any p (map f xs) ≡ list_any (λ x. p (f x)) xs
list_any-map p f [] = refl
list_any-map p f (x ∷ xs) = ap (λ b. p (f x) || b) (list_any-map p f xs)

-- all of several tests
pub all-true : (initiating : ℕ) (forks : List Fork) (tests : List Test) → is_true_in initiating forks (variant.All tests) ≡ list_all (λ test. is_true_in initiating forks test) tests
all-true initiating forks tests =
    ap (is_true_in initiating forks) (sym (rolls-All tests)) ∙ fold-roll-Test Bool (test_step initiating forks) (Test-F.All tests)
    ∙ list_all-map (λ b. b) (is_true_in initiating forks) tests

-- some of several tests
pub any-true : (initiating : ℕ) (forks : List Fork) (tests : List Test) → is_true_in initiating forks (variant.Any tests) ≡ list_any (λ test. is_true_in initiating forks test) tests
any-true initiating forks tests =
    ap (is_true_in initiating forks) (sym (rolls-Any tests)) ∙ fold-roll-Test Bool (test_step initiating forks) (Test-F.Any tests)
    ∙ list_any-map (λ b. b) (is_true_in initiating forks) tests

-- none of several tests
pub not-true : (initiating : ℕ) (forks : List Fork) (tests : List Test) → is_true_in initiating forks (variant.Not tests) ≡ not (list_any (λ test. is_true_in initiating forks test) tests)
not-true initiating forks tests =
    ap (is_true_in initiating forks) (sym (rolls-Not tests)) ∙ fold-roll-Test Bool (test_step initiating forks) (Test-F.Not tests)
    ∙ ap (λ b. not b) (list_any-map (λ b. b) (is_true_in initiating forks) tests)
