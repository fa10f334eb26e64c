-- The steps of the recursion of the difference.
use Rattle.std.proofs.Common.{◌≡◌, ℕ, ◌+◌, ◌≤◌, Bool, true, List, ◌∷◌, Result, Ok, refl, sym, subst₂, ◌∙◌, inl, inr, arith}
use Rattle.psa_nodes.specs.declared.node.Kind.TheVariants.{Zbdd}
use Rattle.psa_nodes.specs.declared.node.Node.{Node}
use Rattle.psa_nodes.specs.declared.node.NodeId.{NodeId}
use Rattle.psa_nodes.specs.declared.node.NodeError.{NodeError}
use Rattle.psa_nodes.specs.declared.node.MemoKey.{MemoKey}
use Rattle.psa_nodes.specs.declared.node.Operation.TheVariants.{Without}
use Rattle.psa_nodes.specs.Readings.{has, joined, stands}
use Rattle.psa_nodes.specs.Nodes.{AllFit, Grown}
use Rattle.psa_nodes.specs.Table.{Table, Lacks}
use Rattle.psa_nodes.specs.Tails.{IsMember, AreTailsOf}
use Rattle.psa_nodes.specs.Progress.{IsCall, IsResult, key_level}
use Rattle.psa_nodes.proofs.CallerLemmas.{stands-below, stands-kept, stands-weaker, has-kept, grown-own, call-then, progress-lacks, above-stands, IsSideOf, side-call, exit-call, last-call}
use Rattle.psa_families.specs.declared.sides.Sides.{Sides}
use Rattle.psa_nodes.specs.Progress.{pair_level}
use Rattle.psa_families.specs.Operands.{AreApart}
use Rattle.psa_families.specs.Sides.{AreSides}
use Rattle.psa_nodes.specs.Making.{IsReady}
use Rattle.psa_families.proofs.SidesLemmas.{sides-kept, low-member, high-member}
use Rattle.psa_families.proofs.LevelLemmas.{pair-past}
use Rattle.psa_nodes.proofs.CallerLemmas.{result-kept}
use Rattle.psa_families.proofs.SubsetRemovalLemmas.{IsSubsetRemoval, past-without}
use Rattle.psa_families.proofs.DifferenceLemmas.{apart-high, apart-low, difference-sides}

-- what the result is remembered by
abbrev pub difference_key : NodeId → NodeId → MemoKey
difference_key left right = record { operation = Without; left = left; right = right; limit = 0 }

-- what a call does, with its answer
abbrev pub Called : {A : Type 0} → ℕ → ℕ → Table → Table → Result A NodeError → Type 0
Called left right before now answer = IsCall (AreTailsOf (IsMember (has before.nodes left))) (pair_level before.nodes left right) before now answer

-- no set of either family includes another of the right one
pub record IsReducible (ns : List Node) (left right : ℕ) : Type 0 where
  pub apart : AreApart (has ns left) (has ns right)
  pub own : AreApart (has ns right) (has ns right)

module _ (old : Table) (left right : NodeId) (s : Sides) (a : AreSides old.nodes left right s) (r : IsReducible old.nodes left.0 right.0) where
  abbrev source : List ℕ → Bool
  source = has old.nodes left.0

  abbrev low : ℕ
  low = pair_level old.nodes left.0 right.0

  low_least : low ≤ s.var
  low_least = let e = a.least in omega (arith, e)

  old_left : stands Zbdd 0 old.nodes left.0 ≡ true
  old_left = stands-weaker Zbdd s.var 0 old.nodes left.0 (omega arith) a.left_stands

  old_right : stands Zbdd 0 old.nodes right.0 ≡ true
  old_right = stands-weaker Zbdd s.var 0 old.nodes right.0 (omega arith) a.right_stands

  -- in a table that grew
  module _ (now : Table) (g : Grown old.nodes now.nodes) (fit : AllFit now.nodes) where
    now_sides : AreSides now.nodes left right s
    now_sides = sides-kept g left right s a

    -- the families are the sides joined
    reads_left : source ≡ joined s.var (has now.nodes s.left_hi.0) (has now.nodes s.left_lo.0)
    reads_left i set = (sym (has-kept g left.0 set (stands-below Zbdd 0 old.nodes left.0 old_left)) ∙ now_sides.of_left.reads set) i

    reads_right : has old.nodes right.0 ≡ joined s.var (has now.nodes s.right_hi.0) (has now.nodes s.right_lo.0)
    reads_right i set = (sym (has-kept g right.0 set (stands-below Zbdd 0 old.nodes right.0 old_right)) ∙ now_sides.of_right.reads set) i

    apart_joined : AreApart (joined s.var (has now.nodes s.left_hi.0) (has now.nodes s.left_lo.0)) (joined s.var (has now.nodes s.right_hi.0) (has now.nodes s.right_lo.0))
    apart_joined = subst₂ AreApart reads_left reads_right r.apart

    own_joined : AreApart (joined s.var (has now.nodes s.right_hi.0) (has now.nodes s.right_lo.0)) (joined s.var (has now.nodes s.right_hi.0) (has now.nodes s.right_lo.0))
    own_joined = subst₂ AreApart reads_right reads_right r.own

    -- so are the high sides
    pub high_reducible : IsReducible now.nodes s.left_hi.0 s.right_hi.0
    high_reducible = record {
      apart = apart-high s.var (has now.nodes s.left_hi.0) (has now.nodes s.left_lo.0) (has now.nodes s.right_hi.0) (has now.nodes s.right_lo.0) apart_joined;
      own = apart-high s.var (has now.nodes s.right_hi.0) (has now.nodes s.right_lo.0) (has now.nodes s.right_hi.0) (has now.nodes s.right_lo.0) own_joined;
    }

    -- and the low sides
    pub low_reducible : IsReducible now.nodes s.left_lo.0 s.right_lo.0
    low_reducible =
        let l = above-stands now.nodes fit s.var s.left_lo.0 now_sides.of_left.lo_stands in
        let k = above-stands now.nodes fit s.var s.right_lo.0 now_sides.of_right.lo_stands in
        record {
          apart = apart-low s.var (has now.nodes s.left_hi.0) (has now.nodes s.left_lo.0) (has now.nodes s.right_hi.0) (has now.nodes s.right_lo.0) apart_joined l k;
          own = apart-low s.var (has now.nodes s.right_hi.0) (has now.nodes s.right_lo.0) (has now.nodes s.right_hi.0) (has now.nodes s.right_lo.0) own_joined k k;
        }

    back : (set : List ℕ) → has now.nodes left.0 set ≡ true → source set ≡ true
    back set m = sym (has-kept g left.0 set (stands-below Zbdd 0 old.nodes left.0 old_left)) ∙ m

    high_side : IsSideOf s.var (IsMember source) (IsMember (has now.nodes s.left_hi.0))
    high_side set m = inr (back (s.var ∷ set) (high-member now.nodes s.var left.0 s.left_hi.0 s.left_lo.0 now_sides.of_left set m))

    low_side : IsSideOf s.var (IsMember source) (IsMember (has now.nodes s.left_lo.0))
    low_side set m = inl (back set (low-member now.nodes fit s.var left.0 s.left_hi.0 s.left_lo.0 now_sides.of_left set m))

    -- the high sides stand past the variable
    pub past_hi : s.var + 1 ≤ pair_level now.nodes s.left_hi.0 s.right_hi.0
    past_hi = pair-past now.nodes s.var s.left_hi.0 s.right_hi.0 a.bound now_sides.of_left.hi_stands now_sides.of_right.hi_stands

    -- and so do the low sides
    pub past_lo : s.var + 1 ≤ pair_level now.nodes s.left_lo.0 s.right_lo.0
    past_lo = pair-past now.nodes s.var s.left_lo.0 s.right_lo.0 a.bound now_sides.of_left.lo_stands now_sides.of_right.lo_stands

    weak : (id : ℕ) → stands Zbdd (s.var + 1) now.nodes id ≡ true → stands Zbdd 0 now.nodes id ≡ true
    weak id st = stands-weaker Zbdd (s.var + 1) 0 now.nodes id (omega arith) st

    -- the high sides may be operands
    pub high_operands : (stands Zbdd 0 now.nodes s.left_hi.0 ≡ true) × (stands Zbdd 0 now.nodes s.right_hi.0 ≡ true)
    high_operands = (weak s.left_hi.0 now_sides.of_left.hi_stands, weak s.right_hi.0 now_sides.of_right.hi_stands)

    -- and the low sides
    pub low_operands : (stands Zbdd 0 now.nodes s.left_lo.0 ≡ true) × (stands Zbdd 0 now.nodes s.right_lo.0 ≡ true)
    low_operands = (weak s.left_lo.0 now_sides.of_left.lo_stands, weak s.right_lo.0 now_sides.of_right.lo_stands)

    high-step : {A : Type 0} (after : Table) (answer : Result A NodeError) → Called s.left_hi.0 s.right_hi.0 now after answer → IsCall (AreTailsOf (IsMember source)) (s.var + 1) now after answer
    high-step after answer call = side-call (IsMember source) s.var low low_least (IsMember (has now.nodes s.left_hi.0)) (pair_level now.nodes s.left_hi.0 s.right_hi.0) high_side past_hi answer call

    low-step : {A : Type 0} (after : Table) (answer : Result A NodeError) → Called s.left_lo.0 s.right_lo.0 now after answer → IsCall (AreTailsOf (IsMember source)) (s.var + 1) now after answer
    low-step after answer call = side-call (IsMember source) s.var low low_least (IsMember (has now.nodes s.left_lo.0)) (pair_level now.nodes s.left_lo.0 s.right_lo.0) low_side past_lo answer call

    kept_level : key_level now.nodes (difference_key left right) ≡ s.var
    kept_level = sym now_sides.least

    module _ (hi lo : ℕ) (of_hi : IsResult Without 0 now.nodes s.left_hi.0 s.right_hi.0 hi) (of_lo : IsResult Without 0 now.nodes s.left_lo.0 s.right_lo.0 lo) where
      its_reads : IsSubsetRemoval (has now.nodes left.0) (has now.nodes right.0) (joined s.var (has now.nodes hi) (has now.nodes lo))
      its_reads =
          subst₂ (λ (f h : List ℕ → Bool). IsSubsetRemoval f h (joined s.var (has now.nodes hi) (has now.nodes lo)))
          (λ i set. sym (now_sides.of_left.reads set) i)
          (λ i set. sym (now_sides.of_right.reads set) i)
          (difference-sides s.var (has now.nodes s.left_hi.0) (has now.nodes s.left_lo.0) (has now.nodes s.right_hi.0) (has now.nodes s.right_lo.0) apart_joined
          (above-stands now.nodes fit s.var s.left_lo.0 now_sides.of_left.lo_stands) (above-stands now.nodes fit s.var s.right_lo.0 now_sides.of_right.lo_stands)
          (has now.nodes hi) (has now.nodes lo) of_hi.computes of_lo.computes)

      its_ready : IsReady now.nodes (difference_key left right) s.var hi lo
      its_ready = record {
        bounded = a.bound;
        no_right = λ e. cc;
        no_limit = λ e. refl;
        left_stands = stands-kept g Zbdd 0 left.0 old_left;
        right_stands = stands-kept g Zbdd 0 right.0 old_right;
        of_family = refl;
        past = let e = kept_level in omega (arith, e);
        hi_stands = past-without now.nodes fit s.var s.left_hi.0 s.right_hi.0 hi now_sides.of_left.hi_stands of_hi;
        lo_stands = past-without now.nodes fit s.var s.left_lo.0 s.right_lo.0 lo now_sides.of_left.lo_stands of_lo;
        computes = its_reads;
      }

  module _ (fit : AllFit old.nodes) where
    -- an error of the first call is passed on
    pub high-exit : {A : Type 0} (one : Table) (answer : Result A NodeError) → Called s.left_hi.0 s.right_hi.0 old one answer → IsCall (AreTailsOf (IsMember source)) low old one answer
    high-exit one answer call = exit-call (IsMember source) s.var low low_least answer (high-step old (grown-own old.nodes) fit one answer call)

    -- after the high sides
    module _ (one : Table) (hi : NodeId) (first : Called s.left_hi.0 s.right_hi.0 old one (Ok hi)) (of_hi : IsResult Without 0 one.nodes s.left_hi.0 s.right_hi.0 hi.0) where
      two-steps : {A : Type 0} (two : Table) (answer : Result A NodeError) → Called s.left_lo.0 s.right_lo.0 one two answer → IsCall (AreTailsOf (IsMember source)) (s.var + 1) old two answer
      two-steps two answer call =
          call-then hi answer (high-step old (grown-own old.nodes) fit one (Ok hi) first) (low-step one first.progress.nodes first.progress.table.fit two answer call)

      -- an error of the second call is passed on
      pub low-exit : {A : Type 0} (two : Table) (answer : Result A NodeError) → Called s.left_lo.0 s.right_lo.0 one two answer → IsCall (AreTailsOf (IsMember source)) low old two answer
      low-exit two answer call = exit-call (IsMember source) s.var low low_least answer (two-steps two answer call)

      -- after the low sides
      module _ (two : Table) (lo : NodeId) (second : Called s.left_lo.0 s.right_lo.0 one two (Ok lo)) (of_lo : IsResult Without 0 two.nodes s.left_lo.0 s.right_lo.0 lo.0) where
        whole : Grown old.nodes two.nodes
        whole = (two-steps two (Ok lo) second).progress.nodes

        hi_now : IsResult Without 0 two.nodes s.left_hi.0 s.right_hi.0 hi.0
        hi_now =
            let o = high_operands one first.progress.nodes first.progress.table.fit in
            result-kept second.progress.nodes Without 0 second.progress.table.fit s.left_hi.0 s.right_hi.0 hi.0
            (stands-below Zbdd 0 one.nodes s.left_hi.0 o.0) (stands-below Zbdd 0 one.nodes s.right_hi.0 o.1) of_hi

        -- the results make a ready result
        pub ready : IsReady two.nodes (difference_key left right) s.var hi.0 lo.0
        ready = its_ready two whole second.progress.table.fit hi.0 lo.0 hi_now of_lo

        -- no call remembered the key
        pub absent : Lacks old.entries (difference_key left right) → Lacks two.entries (difference_key left right)
        absent lacks =
            let e = kept_level two whole second.progress.table.fit in
            progress-lacks (two-steps two (Ok lo) second).progress (difference_key left right) lacks (omega (arith, e))

        -- all steps are the call
        pub whole-call : {A : Type 0} (now : Table) (answer : Result A NodeError) → IsCall (AreTailsOf (IsMember (joined s.var (has two.nodes hi.0) (has two.nodes lo.0)))) s.var two now answer → IsCall (AreTailsOf (IsMember source)) low old now answer
        whole-call now answer last =
            call-then lo answer (low-exit two (Ok lo) second)
            (last-call (IsMember source) s.var low low_least (IsMember (joined s.var (has two.nodes hi.0) (has two.nodes lo.0)))
            (λ set m. back two whole second.progress.table.fit set (((its_reads two whole second.progress.table.fit hi.0 lo.0 hi_now of_lo) set).0 m).0) answer last)
