-- The steps of the recursion of subset removal.
use Rattle.std.proofs.Common.{◌≡◌, ℕ, ◌+◌, ◌≤◌, Bool, true, List, ◌∷◌, Result, Ok, refl, sym, subst₂, ◌∙◌, inl, inr, arith}
use Rattle.psa_nodes.specs.declared.node.Kind.TheVariants.{Zbdd}
use Rattle.psa_nodes.specs.declared.node.NodeId.{NodeId}
use Rattle.psa_nodes.specs.declared.node.NodeError.{NodeError}
use Rattle.psa_nodes.specs.declared.node.MemoKey.{MemoKey}
use Rattle.psa_nodes.specs.declared.node.Operation.TheVariants.{Without}
use Rattle.psa_nodes.specs.Readings.{has, joined, stands}
use Rattle.psa_nodes.specs.Nodes.{AllFit, Grown}
use Rattle.psa_nodes.specs.Table.{Table, Lacks}
use Rattle.psa_nodes.specs.Progress.{IsCall, IsResult, key_level}
use Rattle.psa_nodes.proofs.CallerLemmas.{stands-below, stands-kept, stands-weaker, has-kept, grown-own, grown-then, call-then, progress-lacks}
use Rattle.psa_families.specs.declared.sides.Sides.{Sides}
use Rattle.psa_nodes.specs.Tails.{IsMember, AreTailsOf}
use Rattle.psa_nodes.specs.Progress.{pair_level}
use Rattle.psa_families.specs.Sides.{AreSides}
use Rattle.psa_nodes.specs.Making.{IsReady}
use Rattle.psa_nodes.proofs.CallerLemmas.{above-stands}
use Rattle.psa_families.proofs.SidesLemmas.{sides-kept, low-member, high-member}
use Rattle.psa_families.proofs.LevelLemmas.{pair-past}
use Rattle.psa_nodes.proofs.CallerLemmas.{IsSideOf, side-call, exit-call, last-call}
use Rattle.psa_nodes.proofs.CallerLemmas.{result-kept}
use Rattle.psa_families.proofs.SubsetRemovalLemmas.{IsSubsetRemoval, without-sides, past-without}

-- what the result is remembered by
abbrev pub without_key : NodeId → NodeId → MemoKey
without_key left right = record { operation = Without; left = left; right = right; limit = 0 }

-- what a call does, with its answer
abbrev pub Called : {A : Type 0} → ℕ → ℕ → Table → Table → Result A NodeError → Type 0
Called left right before now answer = IsCall (AreTailsOf (IsMember (has before.nodes left))) (pair_level before.nodes left right) before now answer

module _ (old : Table) (left right : NodeId) (s : Sides) (a : AreSides old.nodes left right s) where
  abbrev source : List ℕ → Bool
  source = has old.nodes left.0

  abbrev low : ℕ
  low = pair_level old.nodes left.0 right.0

  low_least : low ≤ s.var
  low_least = let e = a.least in omega (arith, e)

  old_left : stands Zbdd 0 old.nodes left.0 ≡ true
  old_left = stands-weaker Zbdd s.var 0 old.nodes left.0 (omega arith) a.left_stands

  old_right : stands Zbdd 0 old.nodes right.0 ≡ true
  old_right = stands-weaker Zbdd s.var 0 old.nodes right.0 (omega arith) a.right_stands

  -- in a table that grew
  module _ (now : Table) (g : Grown old.nodes now.nodes) (fit : AllFit now.nodes) where
    now_sides : AreSides now.nodes left right s
    now_sides = sides-kept g left right s a

    back : (set : List ℕ) → has now.nodes left.0 set ≡ true → source set ≡ true
    back set m = sym (has-kept g left.0 set (stands-below Zbdd 0 old.nodes left.0 old_left)) ∙ m

    high_side : IsSideOf s.var (IsMember source) (IsMember (has now.nodes s.left_hi.0))
    high_side set m = inr (back (s.var ∷ set) (high-member now.nodes s.var left.0 s.left_hi.0 s.left_lo.0 now_sides.of_left set m))

    low_side : IsSideOf s.var (IsMember source) (IsMember (has now.nodes s.left_lo.0))
    low_side set m = inl (back set (low-member now.nodes fit s.var left.0 s.left_hi.0 s.left_lo.0 now_sides.of_left set m))

    -- the high sides stand past the variable
    pub past_hi : s.var + 1 ≤ pair_level now.nodes s.left_hi.0 s.right_hi.0
    past_hi = pair-past now.nodes s.var s.left_hi.0 s.right_hi.0 a.bound now_sides.of_left.hi_stands now_sides.of_right.hi_stands

    -- and so do the low sides
    pub past_lo : s.var + 1 ≤ pair_level now.nodes s.left_lo.0 s.right_lo.0
    past_lo = pair-past now.nodes s.var s.left_lo.0 s.right_lo.0 a.bound now_sides.of_left.lo_stands now_sides.of_right.lo_stands

    weak : (id : ℕ) → stands Zbdd (s.var + 1) now.nodes id ≡ true → stands Zbdd 0 now.nodes id ≡ true
    weak id st = stands-weaker Zbdd (s.var + 1) 0 now.nodes id (omega arith) st

    -- the high sides may be operands
    pub high_operands : (stands Zbdd 0 now.nodes s.left_hi.0 ≡ true) × (stands Zbdd 0 now.nodes s.right_hi.0 ≡ true)
    high_operands = (weak s.left_hi.0 now_sides.of_left.hi_stands, weak s.right_hi.0 now_sides.of_right.hi_stands)

    -- and the low sides
    pub low_operands : (stands Zbdd 0 now.nodes s.left_lo.0 ≡ true) × (stands Zbdd 0 now.nodes s.right_lo.0 ≡ true)
    low_operands = (weak s.left_lo.0 now_sides.of_left.lo_stands, weak s.right_lo.0 now_sides.of_right.lo_stands)

    first-step : {A : Type 0} (after : Table) (answer : Result A NodeError) → Called s.left_hi.0 s.right_hi.0 now after answer → IsCall (AreTailsOf (IsMember source)) (s.var + 1) now after answer
    first-step after answer call = side-call (IsMember source) s.var low low_least (IsMember (has now.nodes s.left_hi.0)) (pair_level now.nodes s.left_hi.0 s.right_hi.0) high_side past_hi answer call

    third-step : {A : Type 0} (after : Table) (answer : Result A NodeError) → Called s.left_lo.0 s.right_lo.0 now after answer → IsCall (AreTailsOf (IsMember source)) (s.var + 1) now after answer
    third-step after answer call = side-call (IsMember source) s.var low low_least (IsMember (has now.nodes s.left_lo.0)) (pair_level now.nodes s.left_lo.0 s.right_lo.0) low_side past_lo answer call

    -- with what remains of the high side
    module _ (both : ℕ) (of_both : IsResult Without 0 now.nodes s.left_hi.0 s.right_hi.0 both) where
      both_stands : stands Zbdd (s.var + 1) now.nodes both ≡ true
      both_stands = past-without now.nodes fit s.var s.left_hi.0 s.right_hi.0 both now_sides.of_left.hi_stands of_both

      -- what remains of the high side stands past the variable
      pub past_both : s.var + 1 ≤ pair_level now.nodes both s.right_lo.0
      past_both = pair-past now.nodes s.var both s.right_lo.0 a.bound both_stands now_sides.of_right.lo_stands

      -- and may be an operand
      pub both_operands : (stands Zbdd 0 now.nodes both ≡ true) × (stands Zbdd 0 now.nodes s.right_lo.0 ≡ true)
      both_operands = (weak both both_stands, weak s.right_lo.0 now_sides.of_right.lo_stands)

      second-step : {A : Type 0} (after : Table) (answer : Result A NodeError) → Called both s.right_lo.0 now after answer → IsCall (AreTailsOf (IsMember source)) (s.var + 1) now after answer
      second-step after answer call =
          side-call (IsMember source) s.var low low_least (IsMember (has now.nodes both)) (pair_level now.nodes both s.right_lo.0)
          (λ set m. high_side set ((of_both.computes set).0 m).0) past_both answer call

    kept_level : key_level now.nodes (without_key left right) ≡ s.var
    kept_level = sym now_sides.least

    module _ (both hi lo : ℕ) (of_both : IsResult Without 0 now.nodes s.left_hi.0 s.right_hi.0 both) (of_hi : IsResult Without 0 now.nodes both s.right_lo.0 hi) (of_lo : IsResult Without 0 now.nodes s.left_lo.0 s.right_lo.0 lo) where
      its_reads : IsSubsetRemoval (has now.nodes left.0) (has now.nodes right.0) (joined s.var (has now.nodes hi) (has now.nodes lo))
      its_reads =
          subst₂ (λ (f g : List ℕ → Bool). IsSubsetRemoval f g (joined s.var (has now.nodes hi) (has now.nodes lo)))
          (λ i set. sym (now_sides.of_left.reads set) i)
          (λ i set. sym (now_sides.of_right.reads set) i)
          (without-sides s.var (has now.nodes s.left_hi.0) (has now.nodes s.left_lo.0) (has now.nodes s.right_hi.0) (has now.nodes s.right_lo.0) (has now.nodes both) (has now.nodes hi) (has now.nodes lo)
          (above-stands now.nodes fit s.var s.left_lo.0 now_sides.of_left.lo_stands) (above-stands now.nodes fit s.var s.right_lo.0 now_sides.of_right.lo_stands)
          of_both.computes of_hi.computes of_lo.computes)

      its_ready : IsReady now.nodes (without_key left right) s.var hi lo
      its_ready = record {
        bounded = a.bound;
        no_right = λ e. cc;
        no_limit = λ e. refl;
        left_stands = stands-kept g Zbdd 0 left.0 old_left;
        right_stands = stands-kept g Zbdd 0 right.0 old_right;
        of_family = refl;
        past = let e = kept_level in omega (arith, e);
        hi_stands = past-without now.nodes fit s.var both s.right_lo.0 hi (both_stands both of_both) of_hi;
        lo_stands = past-without now.nodes fit s.var s.left_lo.0 s.right_lo.0 lo now_sides.of_left.lo_stands of_lo;
        computes = its_reads;
      }

  module _ (fit : AllFit old.nodes) where
    -- an error of the first call is passed on
    pub first-exit : {A : Type 0} (one : Table) (answer : Result A NodeError) → Called s.left_hi.0 s.right_hi.0 old one answer → IsCall (AreTailsOf (IsMember source)) low old one answer
    first-exit one answer call = exit-call (IsMember source) s.var low low_least answer (first-step old (grown-own old.nodes) fit one answer call)

    -- after the subset removal of the high sides
    module _ (one : Table) (both : NodeId) (first : Called s.left_hi.0 s.right_hi.0 old one (Ok both)) (of_both : IsResult Without 0 one.nodes s.left_hi.0 s.right_hi.0 both.0) where
      two-steps : {A : Type 0} (two : Table) (answer : Result A NodeError) → Called both.0 s.right_lo.0 one two answer → IsCall (AreTailsOf (IsMember source)) (s.var + 1) old two answer
      two-steps two answer call =
          call-then both answer (first-step old (grown-own old.nodes) fit one (Ok both) first) (second-step one first.progress.nodes first.progress.table.fit both.0 of_both two answer call)

      -- an error of the second call is passed on
      pub second-exit : {A : Type 0} (two : Table) (answer : Result A NodeError) → Called both.0 s.right_lo.0 one two answer → IsCall (AreTailsOf (IsMember source)) low old two answer
      second-exit two answer call = exit-call (IsMember source) s.var low low_least answer (two-steps two answer call)

      -- after the high side of the result
      module _ (two : Table) (hi : NodeId) (second : Called both.0 s.right_lo.0 one two (Ok hi)) (of_hi : IsResult Without 0 two.nodes both.0 s.right_lo.0 hi.0) where
        -- two calls added nodes alone
        pub grown_two : Grown old.nodes two.nodes
        grown_two = (two-steps two (Ok hi) second).progress.nodes

        three-steps : {A : Type 0} (three : Table) (answer : Result A NodeError) → Called s.left_lo.0 s.right_lo.0 two three answer → IsCall (AreTailsOf (IsMember source)) (s.var + 1) old three answer
        three-steps three answer call =
            call-then hi answer (two-steps two (Ok hi) second) (third-step two grown_two second.progress.table.fit three answer call)

        -- an error of the third call is passed on
        pub third-exit : {A : Type 0} (three : Table) (answer : Result A NodeError) → Called s.left_lo.0 s.right_lo.0 two three answer → IsCall (AreTailsOf (IsMember source)) low old three answer
        third-exit three answer call = exit-call (IsMember source) s.var low low_least answer (three-steps three answer call)

        -- after the low side
        module _ (three : Table) (lo : NodeId) (third : Called s.left_lo.0 s.right_lo.0 two three (Ok lo)) (of_lo : IsResult Without 0 three.nodes s.left_lo.0 s.right_lo.0 lo.0) where
          whole : Grown old.nodes three.nodes
          whole = (three-steps three (Ok lo) third).progress.nodes

          both_now : IsResult Without 0 three.nodes s.left_hi.0 s.right_hi.0 both.0
          both_now =
              let o = high_operands one first.progress.nodes first.progress.table.fit in
              result-kept (grown-then second.progress.nodes third.progress.nodes) Without 0 third.progress.table.fit s.left_hi.0 s.right_hi.0 both.0
              (stands-below Zbdd 0 one.nodes s.left_hi.0 o.0) (stands-below Zbdd 0 one.nodes s.right_hi.0 o.1) of_both

          hi_now : IsResult Without 0 three.nodes both.0 s.right_lo.0 hi.0
          hi_now =
              let o = low_operands two grown_two second.progress.table.fit in
              result-kept third.progress.nodes Without 0 third.progress.table.fit both.0 s.right_lo.0 hi.0
              (stands-below Zbdd 0 two.nodes both.0 (stands-kept second.progress.nodes Zbdd 0 both.0 of_both.stands_at)) (stands-below Zbdd 0 two.nodes s.right_lo.0 o.1) of_hi

          -- the results make a ready result
          pub ready : IsReady three.nodes (without_key left right) s.var hi.0 lo.0
          ready = its_ready three whole third.progress.table.fit both.0 hi.0 lo.0 both_now hi_now of_lo

          -- no call remembered the key
          pub absent : Lacks old.entries (without_key left right) → Lacks three.entries (without_key left right)
          absent lacks =
              let e = kept_level three whole third.progress.table.fit in
              progress-lacks (three-steps three (Ok lo) third).progress (without_key left right) lacks (omega (arith, e))

          -- all steps are the call
          pub whole-call : {A : Type 0} (now : Table) (answer : Result A NodeError) → IsCall (AreTailsOf (IsMember (joined s.var (has three.nodes hi.0) (has three.nodes lo.0)))) s.var three now answer → IsCall (AreTailsOf (IsMember source)) low old now answer
          whole-call now answer last =
              call-then lo answer (third-exit three (Ok lo) third)
              (last-call (IsMember source) s.var low low_least (IsMember (joined s.var (has three.nodes hi.0) (has three.nodes lo.0)))
              (λ set m. back three whole third.progress.table.fit set (((its_reads three whole third.progress.table.fit both.0 hi.0 lo.0 both_now hi_now of_lo) set).0 m).0) answer last)
