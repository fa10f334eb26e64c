-- The collected formulas of each definition stand in the model behind those of the definitions before it.
use Rattle.std.proofs.Common.{◌≡◌, inl, inr, ◌+◌, ℕ, true, false, List, [], ◌∷◌, Some, map, length, refl, sym, ap, ◌∙◌, subst, arith}
use Rattle.std.proofs.lemmas.Bool.{false_from_ne_true}
use Rattle.std.proofs.lemmas.List.{length-map}
use Rattle.std.proofs.lemmas.Option.{slice_get-map}
use Rattle.std.specs.Prelude.{if◌then◌else◌}
use Rattle.std.specs.List.{slice_get, flat_map}
use Rattle.std.specs.Option.{option_map}
use Rattle.psa_names.specs.Outlines.{Entry, Entries}
use Rattle.psa_names.specs.Resolved.{resolved_formula}
use Rattle.psa_names.specs.Collected.{contents_before, by_contents, collected_in, collected_before}
use Rattle.psa_names.specs.ModelOfDraft.{model_from}
use Rattle.psa_names.proofs.ListPlaces.{Has, has-none, has-first, has-later, has-cases, get-left, get-right}
use Rattle.psa_names.proofs.ContentsOrder.{IsAscending, contents-never}
use Rattle.psa_names.proofs.ContentsSorted.{weigh-by, has-by, IsSorted, by-sorted}
use Rattle.psa_checks.proofs.CollectedPlaces.{CollectedStand}
use Rattle.psa_names.proofs.Sums.{weigh, sum-weigh, weigh-same}

-- ---- places

-- the weight of what stands before one
abbrev before : (Entry → ℕ) → Entry → Entry → ℕ
before f one y = if contents_before y one then f y else 0

none-before : (f : Entry → ℕ) (one : Entry) (xs : List Entry)
    → ((y : Entry) → Has xs y → contents_before y one ≡ false) → weigh (before f one) xs ≡ 0
none-before f one [] none = refl
none-before f one (x ∷ xs) none =
    let here = none x (has-first x xs) in
    let rest = none-before f one xs (λ y h. none y (has-later x y xs h)) in
    rw here (omega (arith, rest))

part-at : {B : Type 0} (g : Entry → List B) (one : Entry) (xs : List Entry) → IsSorted xs → Has xs one
    → (k : ℕ) (v : B) → slice_get (g one) k ≡ Some v
    → slice_get (flat_map g xs) (weigh (before (λ y. length (g y)) one) xs + k) ≡ Some v
part-at g one [] sorted here k v h = absurd (has-none one here)
part-at {B} g one (x ∷ xs) sorted here k v h = elim (has-cases x one xs here) [
  | inl same ↦
      let before_other = subst (λ (z : Entry). (y : Entry) → Has xs y → contents_before z y ≡ true) same sorted.0 in
      let own : contents_before one one ≡ false =
      false_from_ne_true (contents_before one one) (λ t. contents-never one one t t) in
      let not_first : contents_before x one ≡ false = ap (λ (z : Entry). contents_before z one) same ∙ own in
      let none = none-before (λ y. length (g y)) one xs
      (λ y there. false_from_ne_true (contents_before y one)
      (λ t. contents-never one y (before_other y there) t)) in
      let here_zero : before (λ y. length (g y)) one x ≡ 0 = rw not_first refl in
      let number : weigh (before (λ y. length (g y)) one) (x ∷ xs) + k ≡ k = omega (arith, none, here_zero) in
      ap (slice_get (flat_map g (x ∷ xs))) number
      ∙ get-left (g x) (flat_map g xs) k v (ap (λ (z : Entry). slice_get (g z) k) same ∙ h)
  | inr later ↦
      let first = sorted.0 one later in
      let length_first : before (λ y. length (g y)) one x ≡ length (g x) = rw first refl in
      let number : weigh (before (λ y. length (g y)) one) (x ∷ xs) + k ≡ length (g x)
      + (weigh (before (λ y. length (g y)) one) xs + k) = omega (arith, length_first) in
      ap (slice_get (flat_map g (x ∷ xs))) number
      ∙ get-right (g x) (flat_map g xs) (weigh (before (λ y. length (g y)) one) xs + k)
      ∙ part-at g one xs sorted.1 later k v h
]

-- the formulas that a definition collects stand behind those of the definitions before it
pub collected-stand : (entries : Entries) → IsAscending entries → CollectedStand entries
collected-stand entries ascending place one there k f h =
    let g = λ (y : Entry). map (resolved_formula entries y) (collected_in y.body) in
    let at = part-at g one (by_contents entries) (by-sorted entries ascending) (has-by entries one (place, there)) k
    (resolved_formula entries one f)
    (slice_get-map (resolved_formula entries one) (collected_in one.body) k
    ∙ ap (option_map (resolved_formula entries one)) h) in
    let number : collected_before entries one ≡ weigh (before (λ y. length (g y)) one) (by_contents entries) =
    sum-weigh (before (λ y. length (collected_in y.body)) one) entries
    ∙ weigh-same _ _ (λ y. ap (λ (n : ℕ). if contents_before y one then n else 0)
    (sym (length-map (collected_in y.body) (resolved_formula entries y)))) entries
    ∙ sym (weigh-by (before (λ y. length (g y)) one) entries) in
    ap (λ (n : ℕ). slice_get (model_from entries).formulas (n + k)) number ∙ at
