-- The truth of a target is one of its parts.
use Rattle.std.proofs.Common.{◌≡◌, ◌-◌, List, length, take, not, refl, sym, ap, ◌∙◌, arith}
use Rattle.std.proofs.Math.Seq.{take-length}
use Rattle.std.specs.List.{list_any}
use Rattle.psa_model.specs.declared.expanded.Expanded.{Expanded}
use Rattle.psa_model.specs.declared.formula.Formula.TheVariants as variant
use Rattle.psa_model.specs.declared.targets.PathStep.{PathStep}
use Rattle.psa_model.specs.declared.targets.Target.{Target}
use Rattle.psa_model.specs.declared.targets.Target.TheVariants.{TopEvent, Sequence}
use Rattle.psa_model.specs.Parts.{Truth, between, collected_on, top, truth_over, all_true, IsSimplePart, formula, some_path, opposite, IsPart, one}
use Rattle.psa_model.specs.Ranks.{ranks_of}
use Rattle.psa_model.specs.Targets.{truth_by_rank}
use Rattle.psa_model.specs.Truth.{house_states}

between-all : {A : Type 0} (xs : List A) → between 0 (length xs) xs ≡ xs
between-all xs = let none : length xs - 0 ≡ length xs = omega arith in ap (λ n. take n xs) none ∙ take-length xs

-- the truth of the whole target is a part of it
pub whole-part : (expanded : Expanded) (target : Target) → IsPart expanded target (truth_by_rank expanded target (ranks_of expanded target))
whole-part expanded (TopEvent gate) = record {
  part = truth_over expanded (TopEvent gate) (house_states expanded.model) (variant.Gate gate);
  is_part = one _ (formula (TopEvent gate) (house_states expanded.model) (variant.Gate gate) (top gate));
  same = λ s. refl;
}
whole-part expanded (Sequence initiating sequence paths) = record {
  part = λ s. list_any (λ path. all_true expanded (Sequence initiating sequence paths) (collected_on expanded path) s) (between 0 (length paths) paths);
  is_part = one _ (some_path initiating sequence paths 0 (length paths));
  same = λ s. ap (λ (all : List (List PathStep)). list_any (λ path. all_true expanded (Sequence initiating sequence paths) (collected_on expanded path) s) all) (sym (between-all paths));
}

-- the opposite of a simple part is a part
pub opposite-part : (expanded : Expanded) (target : Target) (f : Truth) → IsSimplePart expanded target f → IsPart expanded target (λ s. not (f s))
opposite-part expanded target f simple = record { part = λ s. not (f s); is_part = one _ (opposite target f simple); same = λ s. refl }
