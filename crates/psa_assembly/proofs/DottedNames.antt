-- A name is a path where it has a dot.
use Rattle.std.proofs.Common.{◌≡◌, ◌<◌, ◌≤◌, ℕ, true, false, List, length, take, get_or, ap, sym, ◌∙◌, arith, cond, eqb}
use Rattle.std.proofs.lemmas.Bool.{eq-eqb, le-leb, lt-leb}
use Rattle.std.proofs.lemmas.List.{take_all}
use Rattle.std.proofs.lemmas.List.Splits.{length-slice_split}
use Rattle.std.proofs.lemmas.List.Sums.{get_or-le-sum_by}
use Rattle.std.specs.List.{count_by, slice_split}
use Rattle.psa_model.specs.PathNames.{is_path}

-- a byte is a dot
pub dotted : (name items : List ℕ) (i d : ℕ) → items ≡ name → i < length items → get_or items i d ≡ 46 → true ≡ is_path name
dotted name items i d same inside is =
    let count = get_or-le-sum_by (λ (b : ℕ). cond (eqb b 46) 1 0) items i d inside in
    let one : ◌≡◌ {A = ℕ} (cond (eqb (get_or items i d) 46) 1 0) 1 = ap (λ b. cond b 1 0) (eq-eqb (get_or items i d) 46 is) in
    let split = length-slice_split (λ (b : ℕ). eqb b 46) items in
    let long : 2 ≤ length (slice_split (λ (b : ℕ). eqb b 46) items) = omega (arith, count, one, split) in
    sym (le-leb 2 (length (slice_split (λ (b : ℕ). eqb b 46) items)) long) ∙ ap is_path same

-- none is
pub undotted : (name items : List ℕ) (i : ℕ) → items ≡ name → length items ≤ i → count_by (λ (b : ℕ). eqb b 46) (take i items) ≡ 0 → false ≡ is_path name
undotted name items i same past none =
    let count : count_by (λ (b : ℕ). eqb b 46) items ≡ 0 = sym (ap (count_by (λ (b : ℕ). eqb b 46)) (take_all i items past)) ∙ none in
    let split = length-slice_split (λ (b : ℕ). eqb b 46) items in
    let short : length (slice_split (λ (b : ℕ). eqb b 46) items) < 2 = omega (arith, count, split) in
    sym (lt-leb 2 (length (slice_split (λ (b : ℕ). eqb b 46) items)) short) ∙ ap is_path same
