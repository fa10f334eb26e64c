-- Tails of members of a family's sides are tails of its members, and calls on the sides are steps of a call.
use Rattle.std.proofs.Common.{◌≡◌, ℕ, ◌+◌, ◌<◌, ◌≤◌, ◌⊎◌, true, List, [], ◌∷◌, Result, refl, sym, ◌∙◌, inl, inr, arith, le-ltb, lt-ltb}
use Rattle.std.proofs.lemmas.Bool.Decides.{eqb_tells}
use Rattle.psa_nodes.specs.declared.node.Kind.{Kind}
use Rattle.psa_nodes.specs.declared.node.Kind.TheVariants.{Zbdd}
use Rattle.psa_nodes.specs.declared.node.Node.{Node}
use Rattle.psa_nodes.specs.declared.node.NodeError.{NodeError}
use Rattle.psa_nodes.specs.Readings.{Reading, has, joined, stands, first_literal}
use Rattle.psa_nodes.specs.Nodes.{AllFit}
use Rattle.psa_nodes.specs.Table.{Table}
use Rattle.psa_nodes.specs.Tails.{tail_from, IsMember, AreTailsOf}
use Rattle.psa_nodes.specs.Progress.{IsCall}
use Rattle.psa_nodes.proofs.ProgressLemmas.{call-wide}
use Rattle.psa_nodes.proofs.MemberLemmas.{above-head, above-stands}

-- a set that begins at the variable or past it is its own tail
pub tail-own : (var y : ℕ) (ys : List ℕ) → var ≤ y → tail_from var (y ∷ ys) ≡ y ∷ ys
tail-own var y ys le = rw (le-ltb y var le) refl

-- the members of a node over sides that stand past its variable are their own tails
pub own-tails : (ns : List Node) → AllFit ns → (var hi lo : ℕ) → stands Zbdd (var + 1) ns lo ≡ true → (r : Reading) → ((set : List ℕ) → r.as_family set ≡ joined var (has ns hi) (has ns lo) set) → AreTailsOf (IsMember (joined var (has ns hi) (has ns lo))) Zbdd var r
own-tails ns fit var hi lo st r is = record { of_zbdd = refl; tails = λ set m. record { whole = set; member = sym (is set) ∙ m; tail = own set (sym (is set) ∙ m) } }
  where
    own : (set : List ℕ) → joined var (has ns hi) (has ns lo) set ≡ true → set ≡ tail_from var set
    own [] m = refl
    own (y ∷ ys) m = elim (eqb_tells y var) [
      | inl p ↦ sym (tail-own var y ys (omega (arith, p.1)))
      | inr p ↦
          let lt : var < y = above-head var y ys (above-stands ns fit var lo st (y ∷ ys) (rw p.0 at m)) in
          sym (tail-own var y ys (omega (arith, lt)))
    ]

-- the sets of a side are, with the variable or without it, sets of the source
abbrev pub IsSideOf : ℕ → (List ℕ → Type 0) → (List ℕ → Type 0) → Type 0
IsSideOf x Source Side = (set : List ℕ) → Side set → Source set ⊎ Source (x ∷ set)

-- so a node past the variable of tails of a side is one of tails of the source
pub tails-of-side : (x : ℕ) (Source Side : List ℕ → Type 0) → IsSideOf x Source Side → (k : Kind) (v : ℕ) (r : Reading) → x + 1 ≤ first_literal k v → AreTailsOf Side k v r → AreTailsOf Source k v r
tails-of-side x Source Side is k v r past t =
    let past' : x + 1 ≤ v = rw t.of_zbdd at past in
    record {
      of_zbdd = t.of_zbdd;
      tails = λ set m.
          let one = t.tails set m in
          elim (is one.whole one.member) [
            | inl e ↦ record { whole = one.whole; member = e; tail = one.tail }
            | inr e ↦ record { whole = x ∷ one.whole; member = e; tail = one.tail ∙ sym (skipped one.whole past') }
          ];
    }
  where
    skipped : (set : List ℕ) → x + 1 ≤ v → tail_from v (x ∷ set) ≡ tail_from v set
    skipped set le = rw (lt-ltb x v (omega (arith, le))) refl

-- tails of sets of a smaller source are tails of sets of a wider one
pub tails-in : (Source Inner : List ℕ → Type 0) → ((set : List ℕ) → Inner set → Source set) → (k : Kind) (v : ℕ) (r : Reading) → AreTailsOf Inner k v r → AreTailsOf Source k v r
tails-in Source Inner is k v r t = record {
  of_zbdd = t.of_zbdd;
  tails = λ set m. let one = t.tails set m in record { whole = one.whole; member = is one.whole one.member; tail = one.tail };
}

-- Calls on the sides by a variable, as steps of a call whose operands stand at `low`: a call on a side, the
-- exit after it, and the making of the result.
module _ (Source : List ℕ → Type 0) (var low : ℕ) (le : low ≤ var) {A : Type 0} where
  -- a call on a side is a step past the variable
  pub side-call : {before now : Table} (Side : List ℕ → Type 0) (start : ℕ) → IsSideOf var Source Side → var + 1 ≤ start → (answer : Result A NodeError) → IsCall (AreTailsOf Side) start before now answer → IsCall (AreTailsOf Source) (var + 1) before now answer
  side-call Side start is past answer call =
      call-wide past (λ k v r from t. tails-of-side var Source Side is k v r (omega (arith, past, from)) t) answer call

  -- an answer after such steps is one of the call
  pub exit-call : {before now : Table} (answer : Result A NodeError) → IsCall (AreTailsOf Source) (var + 1) before now answer → IsCall (AreTailsOf Source) low before now answer
  exit-call answer call = let l : low ≤ var + 1 = omega (arith, le) in call-wide l (λ k v r from t. t) answer call

  -- and so is the making of the result
  pub last-call : {before now : Table} (Inner : List ℕ → Type 0) → ((set : List ℕ) → Inner set → Source set) → (answer : Result A NodeError) → IsCall (AreTailsOf Inner) var before now answer → IsCall (AreTailsOf Source) low before now answer
  last-call Inner is answer call = call-wide le (λ k v r from t. tails-in Source Inner is k v r t) answer call
