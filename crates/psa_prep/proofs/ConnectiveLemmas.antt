-- The nodes of connectives by those of their arguments.
use Rattle.std.proofs.Common.{◌≡◌, ◌<◌, ◌≤◌, ◌+◌, ℕ, zero, suc, Bool, true, false, ◌==◌, List, [], ◌∷◌, ◌++◌, Some, cond, length, map, drop, get_or, nat_le, not, ◌&&◌, ◌||◌, refl, sym, ap, ◌∙◌, subst, arith}
use Rattle.std.proofs.lemmas.Bool.Decides.{nat_tests}
use Rattle.std.proofs.lemmas.List.{drop_all, length-map}
use Rattle.std.proofs.lemmas.Option.{slice_get-get_or, slice_get_within, get_or_from_slice_get}
use Rattle.std.specs.List.{slice_get, list_all}
use Rattle.psa_model.specs.declared.formula.Formula.{Formula}
use Rattle.psa_model.specs.Formulas.{count_true, of_one, of_two, is_same, truth_of_connective}
use Rattle.psa_model.specs.Parts.{Truth, IsSimplePart, between, formula, argument, at_least, opposite, truth_over}
use Rattle.psa_prep.specs.declared.builder.Builder.{Builder}
use Rattle.psa_prep.specs.declared.connectives.Operands.{Operands}
use Rattle.psa_prep.specs.declared.lowering.Context.{Context}
use Rattle.psa_prep.specs.declared.pairs.Pair.{Pair}
use Rattle.psa_prep.specs.declared.pairs.Signs.{Signs}
use Rattle.psa_prep.specs.Connectives.{whole, truths, AreOperands, gathers, MakesWhole, MakesOf, IsPartly}
use Rattle.psa_prep.specs.Lowering.{world_of, houses_of, both_signs}
use Rattle.psa_prep.specs.Nodes.{nodes_of, joins}
use Rattle.psa_prep.specs.Pairs.{Reads, Stands, swapped, swapped_pair, constant_pair}
use Rattle.psa_prep.specs.Sound.{formula_truth, AreParts, IsSound, Made, JoinsPairs}
use Rattle.psa_prep.proofs.EventLemmas.{between-drop}
use Rattle.psa_prep.proofs.ListLemmas.{at-place, drop-next}
use Rattle.psa_graph.specs.declared.graph.GraphNode.{GraphNode}
use Rattle.psa_prep.proofs.PlaceLemmas.{grown-then, grown-length}
use Rattle.psa_prep.proofs.SoundLemmas.{simple-parts, joined-parts, made-then, made-as, made-swapped, made-constant, reads-grown, reads-swapped, reads-any}

-- ---- parts

-- the connective itself
pub whole-parts : (context : Context) (operands : Operands) (builder : Builder) (signs_of : ℕ → Signs) (f : List Bool → Bool) → AreOperands context operands builder signs_of → ((s : ℕ → Bool) → f (truths context s operands.arguments.now) ≡ truth_of_connective operands.operator operands.min operands.max (truths context s operands.arguments.now)) → IsPartly context operands f
whole-parts context operands builder signs_of f are same =
    simple-parts (world_of context) (formula_truth (world_of context) (houses_of context) (whole operands)) _ (formula context.target.now (houses_of context) (whole operands) are.meets)
    (λ s. same s ∙ sym (are.is s))

-- .. and its opposite
pub whole-opposite : (context : Context) (operands : Operands) (builder : Builder) (signs_of : ℕ → Signs) (f : List Bool → Bool) → AreOperands context operands builder signs_of → ((s : ℕ → Bool) → f (truths context s operands.arguments.now) ≡ not (truth_of_connective operands.operator operands.min operands.max (truths context s operands.arguments.now))) → IsPartly context operands f
whole-opposite context operands builder signs_of f are same =
    simple-parts (world_of context) (λ s. not (formula_truth (world_of context) (houses_of context) (whole operands) s)) _
    (opposite context.target.now (formula_truth (world_of context) (houses_of context) (whole operands)) (formula context.target.now (houses_of context) (whole operands) are.meets))
    (λ s. same s ∙ ap not (sym (are.is s)))

-- an argument
pub argument-part : (context : Context) (operands : Operands) (builder : Builder) (signs_of : ℕ → Signs) (place : ℕ) (f : Formula) → AreOperands context operands builder signs_of → slice_get operands.arguments.now place ≡ Some f → IsSimplePart context.expanded.now context.target.now (formula_truth (world_of context) (houses_of context) f)
argument-part context operands builder signs_of place f are at =
    formula context.target.now (houses_of context) f
    (argument context.target.now (houses_of context) operands.operator operands.min operands.max operands.arguments.now place f are.meets at)

-- at least so many of the arguments from a place on
pub count-part : (context : Context) (operands : Operands) (builder : Builder) (signs_of : ℕ → Signs) (k i : ℕ) → AreOperands context operands builder signs_of → IsSimplePart context.expanded.now context.target.now (λ s. nat_le k (count_true (map (λ f. truth_over context.expanded.now context.target.now (houses_of context) f s) (between i (length operands.arguments.now) operands.arguments.now))))
count-part context operands builder signs_of k i are =
    at_least context.target.now (houses_of context) operands.operator operands.min operands.max operands.arguments.now k i (length operands.arguments.now) are.meets

pub count-same : (context : Context) (operands : Operands) (k i : ℕ) (s : ℕ → Bool) → nat_le k (count_true (truths context s (drop i operands.arguments.now))) ≡ nat_le k (count_true (map (λ f. truth_over context.expanded.now context.target.now (houses_of context) f s) (between i (length operands.arguments.now) operands.arguments.now)))
count-same context operands k i s = ap (λ fs. nat_le k (count_true (truths context s fs))) (sym (between-drop i operands.arguments.now))

-- ---- the pair of an argument

pub operand-reads : (context : Context) (operands : Operands) (signs : Signs) (start now : Builder) (signs_of : ℕ → Signs) (place : ℕ) (pair : Pair) (f : Formula) → AreOperands context operands start signs_of → (more : List _) × (nodes_of now ≡ more ++ nodes_of start) → slice_get operands.arguments.now place ≡ Some f → slice_get operands.pairs.now place ≡ Some pair → signs_of place ≡ signs → Reads signs (formula_truth (world_of context) (houses_of context) f) (nodes_of now) pair
operand-reads context operands signs start now signs_of place pair f are g at there is =
    reads-grown signs _ (nodes_of start) (nodes_of now) pair g
    (subst (λ (some : Signs). Reads some (formula_truth (world_of context) (houses_of context) f) (nodes_of start) pair) is (are.read place f pair at there))

-- the argument at a place
pub argument-at : (context : Context) (operands : Operands) (builder : Builder) (signs_of : ℕ → Signs) (place : ℕ) → AreOperands context operands builder signs_of → place < length operands.pairs.now → (f : Formula) × (slice_get operands.arguments.now place ≡ Some f)
argument-at context operands builder signs_of place are l = let size = are.size in at-place operands.arguments.now place (omega arith)

-- the truths of one argument more
pub truths-next : (context : Context) (s : ℕ → Bool) (arguments : List Formula) (i : ℕ) (f : Formula) → slice_get arguments i ≡ Some f → truths context s (drop i arguments) ≡ formula_truth (world_of context) (houses_of context) f s ∷ truths context s (drop (i + 1) arguments)
truths-next context s arguments i f at =
    ap (truths context s) (drop-next arguments i f (slice_get_within arguments i f at) (sym (get_or_from_slice_get arguments i f f at)))

-- ---- all, or some

gathers-next : (all : Bool) (b : Bool) (values : List Bool) → gathers all (b ∷ values) ≡ joins all b (gathers all values)
gathers-next true b values = refl
gathers-next false b values = refl

count-below : (values : List Bool) → count_true values ≤ length values
count-below [] = omega arith
count-below (true ∷ values) = let l = count-below values in omega arith
count-below (false ∷ values) = let l = count-below values in omega arith

le-suc : (a b : ℕ) → nat_le a b ≡ nat_le (suc a) (suc b)
le-suc a b = grind (arith, nat_tests)

le-none : (n : ℕ) → true ≡ nat_le 0 n
le-none n = grind (arith, nat_tests)

le-one : (n : ℕ) → true ≡ nat_le 1 (suc n)
le-one n = grind (arith, nat_tests)

le-not : (a b : ℕ) → b < a → false ≡ nat_le a b
le-not a b l = grind (arith, nat_tests)

-- all are true where as many as there are, some where at least one
gathers-count : (all : Bool) (values : List Bool) → gathers all values ≡ nat_le (cond all (length values) 1) (count_true values)
gathers-count true [] = le-none 0
gathers-count true (true ∷ values) = gathers-count true values ∙ le-suc (length values) (count_true values)
gathers-count true (false ∷ values) = let l = count-below values in le-not (suc (length values)) (count_true values) (omega arith)
gathers-count false [] = le-not 1 0 (omega arith)
gathers-count false (true ∷ values) = le-one (count_true values)
gathers-count false (false ∷ values) = gathers-count false values

gather-parts : (context : Context) (operands : Operands) (builder : Builder) (signs_of : ℕ → Signs) (all : Bool) (i : ℕ) → AreOperands context operands builder signs_of → AreParts (world_of context) (λ s. gathers all (truths context s (drop i operands.arguments.now)))
gather-parts context operands builder signs_of all i are =
    simple-parts (world_of context) _ _ (count-part context operands builder signs_of (cond all (length (drop i operands.arguments.now)) 1) i are)
    (λ s. gathers-count all (truths context s (drop i operands.arguments.now))
    ∙ ap (λ n. nat_le (cond all n 1) (count_true (truths context s (drop i operands.arguments.now)))) (length-map (drop i operands.arguments.now) (λ f. formula_truth (world_of context) (houses_of context) f s))
    ∙ count-same context operands (cond all (length (drop i operands.arguments.now)) 1) i s)

-- what was gathered of the arguments from a place on
abbrev pub GatheredSome : Context → Operands → Signs → Bool → ℕ → Builder → Builder → Pair → Type 0
GatheredSome context operands signs all i = Made (world_of context) signs (λ s. gathers all (truths context s (drop i operands.arguments.now)))

gathers-none : (all : Bool) → gathers all [] ≡ all
gathers-none true = refl
gathers-none false = refl

pub gather-start : (context : Context) (operands : Operands) (signs : Signs) (all : Bool) (i : ℕ) (builder : Builder) → AreOperands context operands builder (λ place. signs) → length operands.pairs.now ≤ i → IsSound (world_of context) builder → GatheredSome context operands signs all i builder builder (constant_pair all)
gather-start context operands signs all i builder are past sound =
    let size = are.size in
    made-constant (world_of context) signs _ builder all sound
    (λ s. ap (λ fs. gathers all (truths context s fs)) (drop_all i operands.arguments.now (omega arith)) ∙ gathers-none all)

pub gather-more : (context : Context) (operands : Operands) (signs : Signs) (all : Bool) (i : ℕ) (start now next : Builder) (pair operand result : Pair) → AreOperands context operands start (λ place. signs) → i < length operands.pairs.now → operand ≡ get_or operands.pairs.now i operand → GatheredSome context operands signs all (i + 1) start now pair → JoinsPairs signs all operand pair now next result → GatheredSome context operands signs all i start next result
gather-more context operands signs all i start now next pair operand result are inside is so_far joins_them =
    let found = argument-at context operands start (λ place. signs) i are inside in
    let there : slice_get operands.pairs.now i ≡ Some operand = slice_get-get_or operands.pairs.now i operand inside ∙ ap Some (sym is) in
    let reads_operand = operand-reads context operands signs start now (λ place. signs) i operand found.0 are so_far.grown found.1 there refl in
    made-then (world_of context) signs _ start now next result so_far.grown
    (joins_them (world_of context) (formula_truth (world_of context) (houses_of context) found.0) (λ s. gathers all (truths context s (drop (i + 1) operands.arguments.now))) (λ s. gathers all (truths context s (drop i operands.arguments.now))) so_far.sound reads_operand so_far.reads
    (λ s. ap (gathers all) (truths-next context s operands.arguments.now i found.0 found.1) ∙ gathers-next all (formula_truth (world_of context) (houses_of context) found.0 s) (truths context s (drop (i + 1) operands.arguments.now)))
    (gather-parts context operands start (λ place. signs) all i are))

-- a pair of the arguments stands
pub operand-stands : (context : Context) (operands : Operands) (start now : Builder) (signs_of : ℕ → Signs) (i : ℕ) (operand : Pair) → AreOperands context operands start signs_of → i < length operands.pairs.now → operand ≡ get_or operands.pairs.now i operand → (more : List _) × (nodes_of now ≡ more ++ nodes_of start) → Stands (nodes_of now) operand
operand-stands context operands start now signs_of i operand are inside is g =
    let found = argument-at context operands start signs_of i are inside in
    let there : slice_get operands.pairs.now i ≡ Some operand = slice_get-get_or operands.pairs.now i operand inside ∙ ap Some (sym is) in
    (operand-reads context operands (signs_of i) start now signs_of i operand found.0 are g found.1 there refl).there

-- ---- the whole connective

-- what was made of the arguments is the connective
pub whole-made : (context : Context) (operands : Operands) (f : List Bool → Bool) (signs : Signs) (builder start now : Builder) (signs_of : ℕ → Signs) (pair : Pair) → AreOperands context operands builder signs_of → ((s : ℕ → Bool) → f (truths context s operands.arguments.now) ≡ truth_of_connective operands.operator operands.min operands.max (truths context s operands.arguments.now)) → MakesOf context operands f signs start now pair → MakesWhole context operands signs start now pair
whole-made context operands f signs builder start now signs_of pair are same made =
    made-as (world_of context) signs _ _ start now pair (λ s. same s ∙ sym (are.is s)) made

-- .. or its opposite
pub whole-swapped : (context : Context) (operands : Operands) (f : List Bool → Bool) (signs : Signs) (builder start now : Builder) (signs_of : ℕ → Signs) (pair : Pair) → AreOperands context operands builder signs_of → ((s : ℕ → Bool) → not (f (truths context s operands.arguments.now)) ≡ truth_of_connective operands.operator operands.min operands.max (truths context s operands.arguments.now)) → MakesOf context operands f (swapped signs) start now pair → MakesWhole context operands signs start now (swapped_pair pair)
whole-swapped context operands f signs builder start now signs_of pair are same made =
    made-as (world_of context) signs _ _ start now (swapped_pair pair) (λ s. same s ∙ sym (are.is s)) (made-swapped (world_of context) signs _ start now pair made)

-- the truth of one argument alone
pub one-of : (context : Context) (s : ℕ → Bool) (arguments : List Formula) → length arguments ≡ 1 → not (list_all (λ b. b) (truths context s arguments)) ≡ of_one not (truths context s arguments)
one-of context s [] e = absurd (omega arith)
one-of context s (f ∷ []) e = ap not (end (formula_truth (world_of context) (houses_of context) f s))
  where
    end : (b : Bool) → (b && true) ≡ b
    end true = refl
    end false = refl
one-of context s (f ∷ g ∷ fs) e = absurd (omega arith)

-- the opposite of exactly one is both or neither
pub same-two : (context : Context) (s : ℕ → Bool) (arguments : List Formula) → length arguments ≡ 2 → not (of_two (λ a b. not (is_same a b)) (truths context s arguments)) ≡ of_two is_same (truths context s arguments)
same-two context s [] e = absurd (omega arith)
same-two context s (f ∷ []) e = absurd (omega arith)
same-two context s (f ∷ g ∷ []) e = twice (is_same (formula_truth (world_of context) (houses_of context) f s) (formula_truth (world_of context) (houses_of context) g s))
  where
    twice : (b : Bool) → not (not b) ≡ b
    twice true = refl
    twice false = refl
same-two context s (f ∷ g ∷ h ∷ fs) e = absurd (omega arith)

pub opposite-two : (context : Context) (s : ℕ → Bool) (arguments : List Formula) → length arguments ≡ 2 → of_two (λ a b. not (is_same a b)) (truths context s arguments) ≡ not (of_two is_same (truths context s arguments))
opposite-two context s [] e = absurd (omega arith)
opposite-two context s (f ∷ []) e = absurd (omega arith)
opposite-two context s (f ∷ g ∷ []) e = refl
opposite-two context s (f ∷ g ∷ h ∷ fs) e = absurd (omega arith)

-- ---- two arguments

two-truths : (context : Context) (f : Bool → Bool → Bool) (s : ℕ → Bool) (arguments : List Formula) (a b : Formula) → length arguments ≡ 2 → slice_get arguments 0 ≡ Some a → slice_get arguments 1 ≡ Some b → of_two f (truths context s arguments) ≡ f (formula_truth (world_of context) (houses_of context) a s) (formula_truth (world_of context) (houses_of context) b s)
two-truths context f s [] a b e p q = absurd (omega arith)
two-truths context f s (x ∷ []) a b e p q = absurd (omega arith)
two-truths context f s (x ∷ y ∷ []) a b e p q =
    let first : x ≡ a = cc in let second : y ≡ b = cc in
    λ i. f (formula_truth (world_of context) (houses_of context) (first i) s) (formula_truth (world_of context) (houses_of context) (second i) s)
two-truths context f s (x ∷ y ∷ z ∷ zs) a b e p q = absurd (omega arith)

-- an implication
pub imply-made : (context : Context) (operands : Operands) (signs : Signs) (start next : Builder) (left right result : Pair) → length operands.arguments.now ≡ 2 → left ≡ get_or operands.pairs.now 0 left → right ≡ get_or operands.pairs.now 1 right → AreOperands context operands start (λ i. cond (i == 0) (swapped signs) signs) → IsPartly context operands (of_two (λ a b. not a || b)) → IsSound (world_of context) start → JoinsPairs signs false (swapped_pair left) right start next result → MakesOf context operands (of_two (λ a b. not a || b)) signs start next result
imply-made context operands signs start next left right result two first second are parts sound joins_them =
    let size = are.size in
    let a = argument-at context operands start _ 0 are (omega arith) in
    let b = argument-at context operands start _ 1 are (omega arith) in
    let left_there : slice_get operands.pairs.now 0 ≡ Some left = slice_get-get_or operands.pairs.now 0 left (omega arith) ∙ ap Some (sym first) in
    let right_there : slice_get operands.pairs.now 1 ≡ Some right = slice_get-get_or operands.pairs.now 1 right (omega arith) ∙ ap Some (sym second) in
    joins_them (world_of context) (λ s. not (formula_truth (world_of context) (houses_of context) a.0 s)) (formula_truth (world_of context) (houses_of context) b.0) (λ s. of_two (λ x y. not x || y) (truths context s operands.arguments.now)) sound
    (reads-swapped signs (formula_truth (world_of context) (houses_of context) a.0) (nodes_of start) left (are.read 0 a.0 left a.1 left_there))
    (are.read 1 b.0 right b.1 right_there)
    (λ s. two-truths context (λ x y. not x || y) s operands.arguments.now a.0 b.0 two a.1 b.1) parts

differ-is : (a b : Bool) → not (is_same a b) ≡ ((a && not b) || (not a && b))
differ-is true true = refl
differ-is true false = refl
differ-is false true = refl
differ-is false false = refl

-- exactly one of two
pub differ-made : (context : Context) (operands : Operands) (signs : Signs) (start mid now next : Builder) (left right one other result : Pair) → length operands.arguments.now ≡ 2 → left ≡ get_or operands.pairs.now 0 left → right ≡ get_or operands.pairs.now 1 right → AreOperands context operands start (λ i. both_signs) → IsPartly context operands (of_two (λ a b. not (is_same a b))) → IsSound (world_of context) start → JoinsPairs signs true left (swapped_pair right) start mid one → JoinsPairs signs true (swapped_pair left) right mid now other → JoinsPairs signs false one other now next result → MakesOf context operands (of_two (λ a b. not (is_same a b))) signs start next result
differ-made context operands signs start mid now next left right one other result two first second are parts sound join_one join_other join_both =
    let w = world_of context in
    let size = are.size in
    let a = argument-at context operands start _ 0 are (omega arith) in
    let b = argument-at context operands start _ 1 are (omega arith) in
    let fa = formula_truth w (houses_of context) a.0 in
    let fb = formula_truth w (houses_of context) b.0 in
    let part_a = argument-part context operands start _ 0 a.0 are a.1 in
    let part_b = argument-part context operands start _ 1 b.0 are b.1 in
    let left_there : slice_get operands.pairs.now 0 ≡ Some left = slice_get-get_or operands.pairs.now 0 left (omega arith) ∙ ap Some (sym first) in
    let right_there : slice_get operands.pairs.now 1 ≡ Some right = slice_get-get_or operands.pairs.now 1 right (omega arith) ∙ ap Some (sym second) in
    let reads_left = are.read 0 a.0 left a.1 left_there in
    let reads_right = are.read 1 b.0 right b.1 right_there in
    let one_made = join_one w fa (λ s. not (fb s)) (λ s. fa s && not (fb s)) sound
    (reads-any signs fa (nodes_of start) left reads_left)
    (reads-swapped signs fb (nodes_of start) right (reads-any (swapped signs) fb (nodes_of start) right reads_right))
    (λ s. refl) (joined-parts w true fa (λ s. not (fb s)) _ part_a (opposite context.target.now fb part_b) (λ s. refl)) in
    let other_made = join_other w (λ s. not (fa s)) fb (λ s. not (fa s) && fb s) one_made.sound
    (reads-grown signs _ (nodes_of start) (nodes_of mid) (swapped_pair left) one_made.grown (reads-swapped signs fa (nodes_of start) left (reads-any (swapped signs) fa (nodes_of start) left reads_left)))
    (reads-grown signs _ (nodes_of start) (nodes_of mid) right one_made.grown (reads-any signs fb (nodes_of start) right reads_right))
    (λ s. refl) (joined-parts w true (λ s. not (fa s)) fb _ (opposite context.target.now fa part_a) part_b (λ s. refl)) in
    made-then w signs _ start now next result (grown-then (nodes_of start) (nodes_of mid) (nodes_of now) one_made.grown other_made.grown)
    (join_both w (λ s. fa s && not (fb s)) (λ s. not (fa s) && fb s) (λ s. of_two (λ x y. not (is_same x y)) (truths context s operands.arguments.now)) other_made.sound
    (reads-grown signs _ (nodes_of mid) (nodes_of now) one other_made.grown one_made.reads) other_made.reads
    (λ s. two-truths context (λ x y. not (is_same x y)) s operands.arguments.now a.0 b.0 two a.1 b.1 ∙ differ-is (fa s) (fb s)) parts)

-- the first and the second conjunction of these
pub differ-one : (context : Context) (operands : Operands) (signs : Signs) (start mid : Builder) (left right one : Pair) → length operands.arguments.now ≡ 2 → left ≡ get_or operands.pairs.now 0 left → right ≡ get_or operands.pairs.now 1 right → AreOperands context operands start (λ i. both_signs) → IsSound (world_of context) start → JoinsPairs signs true left (swapped_pair right) start mid one → (h : Truth) × Made (world_of context) signs h start mid one
differ-one context operands signs start mid left right one two first second are sound join_one =
    let w = world_of context in
    let size = are.size in
    let a = argument-at context operands start _ 0 are (omega arith) in
    let b = argument-at context operands start _ 1 are (omega arith) in
    let fa = formula_truth w (houses_of context) a.0 in
    let fb = formula_truth w (houses_of context) b.0 in
    let left_there : slice_get operands.pairs.now 0 ≡ Some left = slice_get-get_or operands.pairs.now 0 left (omega arith) ∙ ap Some (sym first) in
    let right_there : slice_get operands.pairs.now 1 ≡ Some right = slice_get-get_or operands.pairs.now 1 right (omega arith) ∙ ap Some (sym second) in (
      λ s. fa s && not (fb s),
      join_one w fa (λ s. not (fb s)) (λ s. fa s && not (fb s)) sound
          (reads-any signs fa (nodes_of start) left (are.read 0 a.0 left a.1 left_there))
          (reads-swapped signs fb (nodes_of start) right (reads-any (swapped signs) fb (nodes_of start) right (are.read 1 b.0 right b.1 right_there)))
          (λ s. refl) (joined-parts w true fa (λ s. not (fb s)) _ (argument-part context operands start _ 0 a.0 are a.1) (opposite context.target.now fb (argument-part context operands start _ 1 b.0 are b.1)) (λ s. refl)),
    )

pub differ-other : (context : Context) (operands : Operands) (signs : Signs) (start mid now : Builder) (left right one other : Pair) → length operands.arguments.now ≡ 2 → left ≡ get_or operands.pairs.now 0 left → right ≡ get_or operands.pairs.now 1 right → AreOperands context operands start (λ i. both_signs) → IsSound (world_of context) start → JoinsPairs signs true left (swapped_pair right) start mid one → JoinsPairs signs true (swapped_pair left) right mid now other → (h : Truth) × Made (world_of context) signs h mid now other
differ-other context operands signs start mid now left right one other two first second are sound join_one join_other =
    let w = world_of context in
    let size = are.size in
    let a = argument-at context operands start _ 0 are (omega arith) in
    let b = argument-at context operands start _ 1 are (omega arith) in
    let fa = formula_truth w (houses_of context) a.0 in
    let fb = formula_truth w (houses_of context) b.0 in
    let left_there : slice_get operands.pairs.now 0 ≡ Some left = slice_get-get_or operands.pairs.now 0 left (omega arith) ∙ ap Some (sym first) in
    let right_there : slice_get operands.pairs.now 1 ≡ Some right = slice_get-get_or operands.pairs.now 1 right (omega arith) ∙ ap Some (sym second) in
    let one_made = (differ-one context operands signs start mid left right one two first second are sound join_one).1 in (
      λ s. not (fa s) && fb s,
      join_other w (λ s. not (fa s)) fb (λ s. not (fa s) && fb s) one_made.sound
          (reads-grown signs _ (nodes_of start) (nodes_of mid) (swapped_pair left) one_made.grown (reads-swapped signs fa (nodes_of start) left (reads-any (swapped signs) fa (nodes_of start) left (are.read 0 a.0 left a.1 left_there))))
          (reads-grown signs _ (nodes_of start) (nodes_of mid) right one_made.grown (reads-any signs fb (nodes_of start) right (are.read 1 b.0 right b.1 right_there)))
          (λ s. refl) (joined-parts w true (λ s. not (fa s)) fb _ (opposite context.target.now fa (argument-part context operands start _ 0 a.0 are a.1)) (argument-part context operands start _ 1 b.0 are b.1) (λ s. refl)),
    )

pub stands-swapped : (nodes : List GraphNode) (pair : Pair) → Stands nodes pair → Stands nodes (swapped_pair pair)
stands-swapped nodes pair h = (h.1, h.0)

pub stands-grown : (before now : List GraphNode) (pair : Pair) → (more : List GraphNode) × (now ≡ more ++ before) → Stands before pair → Stands now pair
stands-grown before now pair g h =
    let longer = grown-length before now g in
    let first : pair.yes < length before = h.0 in
    let second : pair.no < length before = h.1 in (omega arith, omega arith)
