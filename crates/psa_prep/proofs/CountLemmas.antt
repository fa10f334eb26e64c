-- At least so many of the arguments from a place on.
use Rattle.std.proofs.Common.{inl, inr, ◌⊎◌, ◌≡◌, ◌<◌, ◌≤◌, ◌+◌, ◌-◌, ℕ, zero, suc, Bool, true, false, ◌==◌, List, [], ◌∷◌, ◌++◌, Some, cond, length, drop, get_or, slice_index_or, nat_le, not, ◌&&◌, ◌||◌, refl, sym, ap, ◌∙◌, subst, arith, length-append, add-one}
use Rattle.std.proofs.lemmas.Bool.Decides.{nat_tests, eqb_tells}
use Rattle.std.proofs.lemmas.List.{drop_all}
use Rattle.std.proofs.lemmas.Option.{slice_get-get_or}
use Rattle.std.specs.List.{slice_get}
use Rattle.psa_model.specs.Formulas.{count_true}
use Rattle.psa_model.specs.Parts.{Truth}
use Rattle.psa_prep.specs.declared.builder.Builder.{Builder}
use Rattle.psa_prep.specs.declared.connectives.Operands.{Operands}
use Rattle.psa_prep.specs.declared.lowering.Context.{Context}
use Rattle.psa_prep.specs.declared.pairs.Pair.{Pair}
use Rattle.psa_prep.specs.declared.pairs.Signs.{Signs}
use Rattle.psa_prep.specs.Connectives.{truths, AreOperands, MakesOf, IsPartly}
use Rattle.psa_prep.specs.Counting.{counts, ReadsCount, IsWanted, MakesCount, IsRow, MakesRow, first_pairs, falses}
use Rattle.psa_prep.specs.Lowering.{world_of, houses_of, both_signs}
use Rattle.psa_prep.specs.Nodes.{nodes_of, IsBuilt}
use Rattle.psa_prep.specs.Pairs.{swapped, swapped_pair, constant_pair}
use Rattle.psa_prep.specs.Places.{Grown}
use Rattle.psa_prep.specs.Sound.{formula_truth, IsSound, Made, JoinsPairs}
use Rattle.psa_prep.proofs.ConnectiveLemmas.{argument-at, argument-part, count-part, count-same, operand-reads, truths-next}
use Rattle.psa_prep.proofs.ListLemmas.{slice_get-push}
use Rattle.psa_prep.proofs.PlaceLemmas.{grown-self, grown-then}
use Rattle.psa_prep.proofs.SoundLemmas.{simple-parts, joined-parts, made-then, reads-constant, reads-grown, reads-swapped, reads-any}

count-next : (b : Bool) (values : List Bool) → count_true (b ∷ values) ≡ cond b (suc (count_true values)) (count_true values)
count-next true values = refl
count-next false values = refl

-- one argument more
choose : (b : Bool) (k n : ℕ) → 0 < k → nat_le k (cond b (suc n) n) ≡ ((b && nat_le (k - 1) n) || nat_le k n)
choose true k n l = both (nat_le k (suc n)) (nat_le (k - 1) n) (nat_le k n) less more
  where
    less : nat_le k (suc n) ≡ nat_le (k - 1) n
    less = grind (arith, nat_tests)

    more : nat_le k n ≡ true → nat_le (k - 1) n ≡ true
    more h = grind (arith, nat_tests)

    both : (x y z : Bool) → x ≡ y → (z ≡ true → y ≡ true) → x ≡ (y || z)
    both x true z e m = e
    both x false true e m = let bad : false ≡ true = m refl in absurd (cc)
    both x false false e m = e
choose false k n l = refl

counts-next : (context : Context) (operands : Operands) (i k : ℕ) (s : ℕ → Bool) (b : Bool) → 0 < k → truths context s (drop i operands.arguments.now) ≡ b ∷ truths context s (drop (i + 1) operands.arguments.now) → counts context operands i k s ≡ ((b && counts context operands (i + 1) (k - 1) s) || counts context operands (i + 1) k s)
counts-next context operands i k s b l next =
    ap (λ values. nat_le k (count_true values)) next
    ∙ ap (nat_le k) (count-next b (truths context s (drop (i + 1) operands.arguments.now)))
    ∙ choose b k (count_true (truths context s (drop (i + 1) operands.arguments.now))) l

-- the argument at a place, and one less of those after
pub count-with : (context : Context) (operands : Operands) (signs : Signs) (place count : ℕ) (start now : Builder) (operand less result : Pair) → AreOperands context operands start (λ i. signs) → IsSound (world_of context) start → place < length operands.pairs.now → operand ≡ get_or operands.pairs.now place operand → ReadsCount context operands signs (place + 1) start (count - 1) less → JoinsPairs signs true operand less start now result → (f : Truth) × (((s : ℕ → Bool) → truths context s (drop place operands.arguments.now) ≡ f s ∷ truths context s (drop (place + 1) operands.arguments.now)) × Made (world_of context) signs (λ s. f s && counts context operands (place + 1) (count - 1) s) start now result)
count-with context operands signs place count start now operand less result are sound inside is reads_less join =
    let w = world_of context in
    let found = argument-at context operands start (λ i. signs) place are inside in
    let f = formula_truth w (houses_of context) found.0 in
    let there : slice_get operands.pairs.now place ≡ Some operand = slice_get-get_or operands.pairs.now place operand inside ∙ ap Some (sym is) in (
      f,
      (
        (λ s. truths-next context s operands.arguments.now place found.0 found.1),
        join w f (counts context operands (place + 1) (count - 1)) (λ s. f s && counts context operands (place + 1) (count - 1) s) sound
            (operand-reads context operands signs start start (λ i. signs) place operand found.0 are (grown-self (nodes_of start)) found.1 there refl)
            reads_less (λ s. refl)
            (joined-parts w true f _ _ (argument-part context operands start (λ i. signs) place found.0 are found.1) (count-part context operands start (λ i. signs) (count - 1) (place + 1) are)
            (λ s. ap (λ b. f s && b) (count-same context operands (count - 1) (place + 1) s))),
      ),
    )

-- at least so many of those from the place on
pub count-made : (context : Context) (operands : Operands) (signs : Signs) (size place count : ℕ) (start now next : Builder) (operand less same with result : Pair) → 0 < count → AreOperands context operands start (λ i. signs) → IsSound (world_of context) start → place < length operands.pairs.now → operand ≡ get_or operands.pairs.now place operand → ReadsCount context operands signs (place + 1) start (count - 1) less → ReadsCount context operands signs (place + 1) start count same → JoinsPairs signs true operand less start now with → JoinsPairs signs false with same now next result → MakesCount context operands signs size place count start next result
count-made context operands signs size place count start now next operand less same with result some are sound inside is reads_less reads_same join_with join_same =
    let w = world_of context in
    let first = count-with context operands signs place count start now operand less with are sound inside is reads_less join_with in
    let made = made-then w signs _ start now next result first.1.1.grown
    (join_same w (λ s. first.0 s && counts context operands (place + 1) (count - 1) s) (counts context operands (place + 1) count) (counts context operands place count) first.1.1.sound first.1.1.reads
    (reads-grown signs _ (nodes_of start) (nodes_of now) same first.1.1.grown reads_same)
    (λ s. counts-next context operands place count s (first.0 s) some (first.1.0 s))
    (simple-parts w _ _ (count-part context operands start (λ i. signs) count place are) (λ s. count-same context operands count place s))) in
    record { reads = λ wanted. made.reads; grown = made.grown; sound = made.sound }

-- the pairs of the row after a place, for one less and for as many
pub less-read : (context : Context) (operands : Operands) (signs : Signs) (place count : ℕ) (builder : Builder) (row : List Pair) → 0 < count → count < length row → IsWanted (length row) place count → IsRow context operands signs (length row) (place + 1) builder row → ReadsCount context operands signs (place + 1) builder (count - 1) (slice_index_or row (count - 1) (record { yes = 0; no = 0 }))
less-read context operands signs place count builder row some inside wanted is_row =
    is_row (count - 1) _ (slice_get-get_or row (count - 1) (record { yes = 0; no = 0 }) (omega arith)) (omega arith)

pub same-read : (context : Context) (operands : Operands) (signs : Signs) (place count : ℕ) (builder : Builder) (row : List Pair) → count < length row → IsWanted (length row) place count → IsRow context operands signs (length row) (place + 1) builder row → ReadsCount context operands signs (place + 1) builder count (slice_index_or row count (record { yes = 0; no = 0 }))
same-read context operands signs place count builder row inside wanted is_row =
    is_row count _ (slice_get-get_or row count (record { yes = 0; no = 0 }) inside) (omega arith)

-- one that is not wanted is left as it was
pub count-kept : (context : Context) (operands : Operands) (signs : Signs) (size place count : ℕ) (builder : Builder) (pair : Pair) → IsSound (world_of context) builder → count + place + 1 < size → MakesCount context operands signs size place count builder builder pair
count-kept context operands signs size place count builder pair sound few = record {
  reads = λ wanted. absurd (omega arith);
  grown = grown-self (nodes_of builder);
  sound = sound;
}

le-none : (n : ℕ) → nat_le 0 n ≡ true
le-none n = grind (arith, nat_tests)

le-some : (k : ℕ) → 0 < k → nat_le k 0 ≡ false
le-some k l = grind (arith, nat_tests)

-- none are always as many
pub count-none : (context : Context) (operands : Operands) (signs : Signs) (place : ℕ) (builder : Builder) → IsBuilt builder → ReadsCount context operands signs place builder 0 (constant_pair true)
count-none context operands signs place builder built = reads-constant signs (counts context operands place 0) builder true built (λ s. le-none _)

length-falses : (n : ℕ) → length (falses n) ≡ n
length-falses zero = refl
length-falses (suc n) = length-append (falses n) (constant_pair false ∷ []) ∙ ap (λ k. k + 1) (length-falses n) ∙ add-one n

falses-get : (n count : ℕ) (pair : Pair) → slice_get (falses n) count ≡ Some pair → pair ≡ constant_pair false
falses-get zero count pair e = absurd (cc)
falses-get (suc n) count pair e = elim (eqb_tells count (length (falses n))) [
  | inl p ↦
      let is : Some (constant_pair false) ≡ Some pair = sym (slice_get-push (falses n) (constant_pair false) count ∙ ap (λ b. cond b (Some (constant_pair false)) (slice_get (falses n) count)) p.0) ∙ e in cc
  | inr p ↦ falses-get n count pair (sym (slice_get-push (falses n) (constant_pair false) count ∙ ap (λ b. cond b (Some (constant_pair false)) (slice_get (falses n) count)) p.0) ∙ e)
]

-- one more
pub falses-more : (n : ℕ) → falses (n + 1) ≡ falses n ++ (constant_pair false ∷ [])
falses-more n = rw add-one refl

pub first-more : (n : ℕ) → first_pairs (n + 1) ≡ first_pairs n ++ (constant_pair false ∷ [])
first-more n = ap (λ row. constant_pair true ∷ row) (falses-more n)

pub length-first : (n : ℕ) → length (first_pairs n) ≡ suc n
length-first n = ap suc (length-falses n)

-- the row of no arguments
pub first-row : (context : Context) (operands : Operands) (signs : Signs) (place bound : ℕ) (builder : Builder) (row : List Pair) → length operands.arguments.now ≤ place → IsSound (world_of context) builder → row ≡ first_pairs bound → MakesRow context operands signs (suc bound) place (suc bound) builder builder row
first-row context operands signs place bound builder row past sound is = record {
  is_made = ap length is ∙ length-first bound;
  row_reads = λ count pair at wanted. by count pair (subst (λ (r : List Pair). slice_get r count ≡ Some pair) is at);
  grown = grown-self (nodes_of builder);
  sound = sound;
}
  where
    by : (count : ℕ) (pair : Pair) → slice_get (first_pairs bound) count ≡ Some pair → ReadsCount context operands signs place builder count pair
    by zero pair at = let same : constant_pair true ≡ pair = cc in subst (λ (p : Pair). ReadsCount context operands signs place builder 0 p) same (count-none context operands signs place builder sound.built)
    by (suc count) pair at =
        subst (λ (p : Pair). ReadsCount context operands signs place builder (suc count) p) (sym (falses-get bound count pair at))
        (reads-constant signs (counts context operands place (suc count)) builder false sound.built
        (λ s. ap (λ fs. nat_le (suc count) (count_true (truths context s fs))) (drop_all place operands.arguments.now past) ∙ le-some (suc count) (omega arith)))

-- a row while it is made: the pairs for the counts so far
pub row-start : (context : Context) (operands : Operands) (signs : Signs) (size place : ℕ) (builder : Builder) → IsSound (world_of context) builder → MakesRow context operands signs size place 1 builder builder (constant_pair true ∷ [])
row-start context operands signs size place builder sound = record {
  is_made = refl;
  row_reads = λ count pair at wanted. by count pair at;
  grown = grown-self (nodes_of builder);
  sound = sound;
}
  where
    by : (count : ℕ) (pair : Pair) → slice_get (constant_pair true ∷ []) count ≡ Some pair → ReadsCount context operands signs place builder count pair
    by zero pair at = let same : constant_pair true ≡ pair = cc in subst (λ (p : Pair). ReadsCount context operands signs place builder 0 p) same (count-none context operands signs place builder sound.built)
    by (suc count) pair at = absurd (cc)

pub row-more : (context : Context) (operands : Operands) (signs : Signs) (size place count : ℕ) (start now next : Builder) (row : List Pair) (pair : Pair) → MakesRow context operands signs size place count start now row → MakesCount context operands signs size place count now next pair → MakesRow context operands signs size place (count + 1) start next (row ++ (pair ∷ []))
row-more context operands signs size place count start now next row pair so_far made = record {
  is_made = length-append row (pair ∷ []) ∙ ap (λ n. n + 1) so_far.is_made;
  row_reads = λ k p at wanted. by k p at wanted (eqb_tells k (length row));
  grown = grown-then (nodes_of start) (nodes_of now) (nodes_of next) so_far.grown made.grown;
  sound = made.sound;
}
  where
    by : (k : ℕ) (p : Pair) → slice_get (row ++ (pair ∷ [])) k ≡ Some p → IsWanted size place k → ((k == length row) ≡ true) × (k ≡ length row) ⊎ ((k == length row) ≡ false) × (k ≡ length row → ⊥) → ReadsCount context operands signs place next k p
    by k p at wanted (inl here) =
        let is : Some pair ≡ Some p = sym (slice_get-push row pair k ∙ ap (λ b. cond b (Some pair) (slice_get row k)) here.0) ∙ at in
        let same : pair ≡ p = cc in
        let place_is : k ≡ count = here.1 ∙ so_far.is_made in
        subst (λ (n : ℕ). ReadsCount context operands signs place next n p) (sym place_is)
        (subst (λ (q : Pair). ReadsCount context operands signs place next count q) same (made.reads (subst (λ (n : ℕ). IsWanted size place n) place_is wanted)))
    by k p at wanted (inr there) =
        reads-grown signs _ (nodes_of now) (nodes_of next) p made.grown
        (so_far.row_reads k p (sym (slice_get-push row pair k ∙ ap (λ b. cond b (Some pair) (slice_get row k)) there.0) ∙ at) wanted)

pub row-grown : (context : Context) (operands : Operands) (signs : Signs) (size place : ℕ) (before now : Builder) (row : List Pair) → Grown (nodes_of before) (nodes_of now) → IsRow context operands signs size place before row → IsRow context operands signs size place now row
row-grown context operands signs size place before now row g is k p at wanted = reads-grown signs _ (nodes_of before) (nodes_of now) p g (is k p at wanted)

-- a row after others
pub row-then : (context : Context) (operands : Operands) (signs : Signs) (size place : ℕ) (start now next : Builder) (row : List Pair) → Grown (nodes_of start) (nodes_of now) → MakesRow context operands signs size place size now next row → MakesRow context operands signs size place size start next row
row-then context operands signs size place start now next row g made = record { is_made = made.is_made; row_reads = made.row_reads; grown = grown-then (nodes_of start) (nodes_of now) (nodes_of next) g made.grown; sound = made.sound }

-- operands of a graph that grew
pub operands-grown : (context : Context) (operands : Operands) (signs_of : ℕ → Signs) (before now : Builder) → Grown (nodes_of before) (nodes_of now) → AreOperands context operands before signs_of → AreOperands context operands now signs_of
operands-grown context operands signs_of before now g are = record {
  meets = are.meets;
  arity = are.arity;
  is = are.is;
  size = are.size;
  read = λ place f pair at there. reads-grown (signs_of place) _ (nodes_of before) (nodes_of now) pair g (are.read place f pair at there);
}

-- .. for other signs
pub operands-any : (context : Context) (operands : Operands) (signs : Signs) (builder : Builder) → AreOperands context operands builder (λ i. both_signs) → AreOperands context operands builder (λ i. signs)
operands-any context operands signs builder are = record {
  meets = are.meets;
  arity = are.arity;
  is = are.is;
  size = are.size;
  read = λ place f pair at there. reads-any signs _ (nodes_of builder) pair (are.read place f pair at there);
}

-- the last row, of all arguments, has the answer
pub row-end : (context : Context) (operands : Operands) (signs : Signs) (bound : ℕ) (start now : Builder) (row : List Pair) (pair : Pair) → MakesRow context operands signs (suc bound) 0 (suc bound) start now row → slice_get row bound ≡ Some pair → MakesOf context operands (λ values. nat_le bound (count_true values)) signs start now pair
row-end context operands signs bound start now row pair made at =
    record { reads = made.row_reads bound pair at (omega arith); grown = made.grown; sound = made.sound }

-- from so many to so many
pub cardinality-made : (context : Context) (operands : Operands) (signs : Signs) (start mid now next : Builder) (low high result : Pair) → IsPartly context operands (λ values. nat_le operands.min (count_true values) && nat_le (count_true values) operands.max) → MakesOf context operands (λ values. nat_le operands.min (count_true values)) signs start mid low → MakesOf context operands (λ values. nat_le (operands.max + 1) (count_true values)) (swapped signs) mid now high → JoinsPairs signs true low (swapped_pair high) now next result → MakesOf context operands (λ values. nat_le operands.min (count_true values) && nat_le (count_true values) operands.max) signs start next result
cardinality-made context operands signs start mid now next low high result part made_low made_high join =
    let w = world_of context in
    made-then w signs _ start now next result (grown-then (nodes_of start) (nodes_of mid) (nodes_of now) made_low.grown made_high.grown)
    (join w (λ s. nat_le operands.min (count_true (truths context s operands.arguments.now))) (λ s. not (nat_le (operands.max + 1) (count_true (truths context s operands.arguments.now))))
    (λ s. nat_le operands.min (count_true (truths context s operands.arguments.now)) && nat_le (count_true (truths context s operands.arguments.now)) operands.max) made_high.sound
    (reads-grown signs _ (nodes_of mid) (nodes_of now) low made_high.grown made_low.reads)
    (reads-swapped signs _ (nodes_of now) high made_high.reads)
    (λ s. ap (λ b. nat_le operands.min (count_true (truths context s operands.arguments.now)) && b) (at-most (count_true (truths context s operands.arguments.now)) operands.max)) part)
  where
    at-most : (n k : ℕ) → nat_le n k ≡ not (nat_le (k + 1) n)
    at-most n k = grind (arith, nat_tests)
