-- The union of two families by their sides, and the steps of its recursion.
use Rattle.std.proofs.Common.{◌≡◌, ℕ, ◌+◌, ◌≤◌, ◌||◌, Bool, true, false, List, [], ◌∷◌, Result, Ok, refl, sym, ap, ap₂, ◌∙◌, inl, inr, arith}
use Rattle.std.proofs.lemmas.Bool.{or_cases, or_left, or_right}
use Rattle.std.proofs.lemmas.Bool.Decides.{eqb_tells}
use Rattle.psa_nodes.specs.declared.node.Kind.TheVariants.{Zbdd}
use Rattle.psa_nodes.specs.declared.node.Node.{Node}
use Rattle.psa_nodes.specs.declared.node.NodeId.{NodeId}
use Rattle.psa_nodes.specs.declared.node.NodeError.{NodeError}
use Rattle.psa_nodes.specs.declared.node.MemoKey.{MemoKey}
use Rattle.psa_nodes.specs.declared.node.Operation.TheVariants.{Union}
use Rattle.psa_nodes.specs.Readings.{has, joined, stands}
use Rattle.psa_nodes.specs.Nodes.{AllFit, Grown}
use Rattle.psa_nodes.specs.Table.{Table, Lacks}
use Rattle.psa_nodes.specs.Progress.{IsCall, IsResult, key_level}
use Rattle.psa_nodes.proofs.CallerLemmas.{stands-below, stands-kept, stands-weaker, has-kept, grown-own, call-then, progress-lacks, has-zero}
use Rattle.psa_families.specs.declared.sides.Sides.{Sides}
use Rattle.psa_nodes.specs.Tails.{either, IsMember, AreTailsOf}
use Rattle.psa_nodes.specs.Progress.{pair_level}
use Rattle.psa_families.specs.Sides.{AreSides}
use Rattle.psa_nodes.specs.Making.{IsReady}
use Rattle.psa_nodes.proofs.CallerLemmas.{AreAbove, above-stands, stands-above}
use Rattle.psa_families.proofs.SidesLemmas.{sides-kept, low-member, high-member}
use Rattle.psa_families.proofs.LevelLemmas.{pair-past}
use Rattle.psa_nodes.proofs.CallerLemmas.{IsSideOf, side-call, exit-call, last-call}
use Rattle.psa_nodes.proofs.CallerLemmas.{is_result, result-kept}

-- the union of families is the family of the unions of their sides
pub union-sides : (x : ℕ) (f1 f0 g1 g0 h1 h0 : List ℕ → Bool) → ((set : List ℕ) → h1 set ≡ (f1 set || g1 set)) → ((set : List ℕ) → h0 set ≡ (f0 set || g0 set)) → (set : List ℕ) → joined x h1 h0 set ≡ (joined x f1 f0 set || joined x g1 g0 set)
union-sides x f1 f0 g1 g0 h1 h0 h l [] = l []
union-sides x f1 f0 g1 g0 h1 h0 h l (y ∷ ys) = elim (eqb_tells y x) [ inl p ↦ rw p.0 (h ys) | inr p ↦ rw p.0 (l (y ∷ ys)) ]

-- the union of families above x is above x
union-above : (x : ℕ) (f g h : List ℕ → Bool) → AreAbove x f → AreAbove x g → ((set : List ℕ) → h set ≡ (f set || g set)) → AreAbove x h
union-above x f g h af ag is set m = elim (or_cases (f set) (g set) (sym (is set) ∙ m)) [ inl p ↦ af set p | inr p ↦ ag set p ]

-- a union stands where both families do
pub past-union : (ns : List Node) → AllFit ns → (x left right id : ℕ) → stands Zbdd (x + 1) ns left ≡ true → stands Zbdd (x + 1) ns right ≡ true → IsResult Union 0 ns left right id → stands Zbdd (x + 1) ns id ≡ true
past-union ns fit x left right id sl sr r =
    stands-above ns fit x id r.stands_at
    (union-above x (has ns left) (has ns right) (has ns id) (above-stands ns fit x left sl) (above-stands ns fit x right sr) r.computes)

-- what the result is remembered by
abbrev pub union_key : NodeId → NodeId → MemoKey
union_key left right = record { operation = Union; left = left; right = right; limit = 0 }

module _ (old : Table) (left right : NodeId) (s : Sides) (a : AreSides old.nodes left right s) where
  abbrev source : List ℕ → Bool
  source = either (has old.nodes left.0) (has old.nodes right.0)

  abbrev low : ℕ
  low = pair_level old.nodes left.0 right.0

  low_least : low ≤ s.var
  low_least = let e = a.least in omega (arith, e)

  old_left : stands Zbdd 0 old.nodes left.0 ≡ true
  old_left = stands-weaker Zbdd s.var 0 old.nodes left.0 (omega arith) a.left_stands

  old_right : stands Zbdd 0 old.nodes right.0 ≡ true
  old_right = stands-weaker Zbdd s.var 0 old.nodes right.0 (omega arith) a.right_stands

  -- in a table that grew
  module _ (now : Table) (g : Grown old.nodes now.nodes) (fit : AllFit now.nodes) where
    now_sides : AreSides now.nodes left right s
    now_sides = sides-kept g left right s a

    back : (set : List ℕ) → either (has now.nodes left.0) (has now.nodes right.0) set ≡ true → source set ≡ true
    back set m =
        ap₂ (λ x y. x || y) (sym (has-kept g left.0 set (stands-below Zbdd 0 old.nodes left.0 old_left))) (sym (has-kept g right.0 set (stands-below Zbdd 0 old.nodes right.0 old_right))) ∙ m

    in-left : (set : List ℕ) → has now.nodes left.0 set ≡ true → source set ≡ true
    in-left set m = back set (or_left (has now.nodes left.0 set) (has now.nodes right.0 set) m)

    in-right : (set : List ℕ) → has now.nodes right.0 set ≡ true → source set ≡ true
    in-right set m = back set (or_right (has now.nodes left.0 set) (has now.nodes right.0 set) m)

    high_side : IsSideOf s.var (IsMember source) (IsMember (either (has now.nodes s.left_hi.0) (has now.nodes s.right_hi.0)))
    high_side set m = inr (elim (or_cases (has now.nodes s.left_hi.0 set) (has now.nodes s.right_hi.0 set) m) [
      | inl p ↦ in-left (s.var ∷ set) (high-member now.nodes s.var left.0 s.left_hi.0 s.left_lo.0 now_sides.of_left set p)
      | inr p ↦ in-right (s.var ∷ set) (high-member now.nodes s.var right.0 s.right_hi.0 s.right_lo.0 now_sides.of_right set p)
    ])

    low_side : IsSideOf s.var (IsMember source) (IsMember (either (has now.nodes s.left_lo.0) (has now.nodes s.right_lo.0)))
    low_side set m = inl (elim (or_cases (has now.nodes s.left_lo.0 set) (has now.nodes s.right_lo.0 set) m) [
      | inl p ↦ in-left set (low-member now.nodes fit s.var left.0 s.left_hi.0 s.left_lo.0 now_sides.of_left set p)
      | inr p ↦ in-right set (low-member now.nodes fit s.var right.0 s.right_hi.0 s.right_lo.0 now_sides.of_right set p)
    ])

    -- the high sides stand past the variable
    pub past_hi : s.var + 1 ≤ pair_level now.nodes s.left_hi.0 s.right_hi.0
    past_hi = pair-past now.nodes s.var s.left_hi.0 s.right_hi.0 a.bound now_sides.of_left.hi_stands now_sides.of_right.hi_stands

    -- and so do the low sides
    pub past_lo : s.var + 1 ≤ pair_level now.nodes s.left_lo.0 s.right_lo.0
    past_lo = pair-past now.nodes s.var s.left_lo.0 s.right_lo.0 a.bound now_sides.of_left.lo_stands now_sides.of_right.lo_stands

    -- the high sides may be operands
    pub high_operands : (stands Zbdd 0 now.nodes s.left_hi.0 ≡ true) × (stands Zbdd 0 now.nodes s.right_hi.0 ≡ true)
    high_operands = (
      stands-weaker Zbdd (s.var + 1) 0 now.nodes s.left_hi.0 (omega arith) now_sides.of_left.hi_stands,
      stands-weaker Zbdd (s.var + 1) 0 now.nodes s.right_hi.0 (omega arith) now_sides.of_right.hi_stands,
    )

    -- and the low sides
    pub low_operands : (stands Zbdd 0 now.nodes s.left_lo.0 ≡ true) × (stands Zbdd 0 now.nodes s.right_lo.0 ≡ true)
    low_operands = (
      stands-weaker Zbdd (s.var + 1) 0 now.nodes s.left_lo.0 (omega arith) now_sides.of_left.lo_stands,
      stands-weaker Zbdd (s.var + 1) 0 now.nodes s.right_lo.0 (omega arith) now_sides.of_right.lo_stands,
    )

    high-step : {A : Type 0} (after : Table) (answer : Result A NodeError) → IsCall (AreTailsOf (IsMember (either (has now.nodes s.left_hi.0) (has now.nodes s.right_hi.0)))) (pair_level now.nodes s.left_hi.0 s.right_hi.0) now after answer → IsCall (AreTailsOf (IsMember source)) (s.var + 1) now after answer
    high-step after answer call = side-call (IsMember source) s.var low low_least (IsMember (either (has now.nodes s.left_hi.0) (has now.nodes s.right_hi.0))) (pair_level now.nodes s.left_hi.0 s.right_hi.0) high_side past_hi answer call

    low-step : {A : Type 0} (after : Table) (answer : Result A NodeError) → IsCall (AreTailsOf (IsMember (either (has now.nodes s.left_lo.0) (has now.nodes s.right_lo.0)))) (pair_level now.nodes s.left_lo.0 s.right_lo.0) now after answer → IsCall (AreTailsOf (IsMember source)) (s.var + 1) now after answer
    low-step after answer call = side-call (IsMember source) s.var low low_least (IsMember (either (has now.nodes s.left_lo.0) (has now.nodes s.right_lo.0))) (pair_level now.nodes s.left_lo.0 s.right_lo.0) low_side past_lo answer call

    kept_level : key_level now.nodes (union_key left right) ≡ s.var
    kept_level = sym now_sides.least

    its_reads : (hi lo : ℕ) → IsResult Union 0 now.nodes s.left_hi.0 s.right_hi.0 hi → IsResult Union 0 now.nodes s.left_lo.0 s.right_lo.0 lo → (set : List ℕ) → joined s.var (has now.nodes hi) (has now.nodes lo) set ≡ (has now.nodes left.0 set || has now.nodes right.0 set)
    its_reads hi lo h l set =
        union-sides s.var (has now.nodes s.left_hi.0) (has now.nodes s.left_lo.0) (has now.nodes s.right_hi.0) (has now.nodes s.right_lo.0) (has now.nodes hi) (has now.nodes lo) h.computes l.computes set
        ∙ sym (ap₂ (λ x y. x || y) (now_sides.of_left.reads set) (now_sides.of_right.reads set))

    its_ready : (hi lo : ℕ) → IsResult Union 0 now.nodes s.left_hi.0 s.right_hi.0 hi → IsResult Union 0 now.nodes s.left_lo.0 s.right_lo.0 lo → IsReady now.nodes (union_key left right) s.var hi lo
    its_ready hi lo h l = record {
      bounded = a.bound;
      no_right = λ e. cc;
      no_limit = λ e. refl;
      left_stands = stands-kept g Zbdd 0 left.0 old_left;
      right_stands = stands-kept g Zbdd 0 right.0 old_right;
      of_family = refl;
      past = let e = kept_level in omega (arith, e);
      hi_stands = past-union now.nodes fit s.var s.left_hi.0 s.right_hi.0 hi now_sides.of_left.hi_stands now_sides.of_right.hi_stands h;
      lo_stands = past-union now.nodes fit s.var s.left_lo.0 s.right_lo.0 lo now_sides.of_left.lo_stands now_sides.of_right.lo_stands l;
      computes = its_reads hi lo h l;
    }

  module _ (fit : AllFit old.nodes) where
    -- an error of the first call is passed on
    pub high-exit : {A : Type 0} (mid : Table) (answer : Result A NodeError) → IsCall (AreTailsOf (IsMember (either (has old.nodes s.left_hi.0) (has old.nodes s.right_hi.0)))) (pair_level old.nodes s.left_hi.0 s.right_hi.0) old mid answer → IsCall (AreTailsOf (IsMember source)) low old mid answer
    high-exit mid answer call = exit-call (IsMember source) s.var low low_least answer (high-step old (grown-own old.nodes) fit mid answer call)

    -- after the high sides
    module _ (mid : Table) (hi : NodeId) (high : IsCall (AreTailsOf (IsMember (either (has old.nodes s.left_hi.0) (has old.nodes s.right_hi.0)))) (pair_level old.nodes s.left_hi.0 s.right_hi.0) old mid (Ok hi)) where
      both-steps : {A : Type 0} (second : Table) (answer : Result A NodeError) → IsCall (AreTailsOf (IsMember (either (has mid.nodes s.left_lo.0) (has mid.nodes s.right_lo.0)))) (pair_level mid.nodes s.left_lo.0 s.right_lo.0) mid second answer → IsCall (AreTailsOf (IsMember source)) (s.var + 1) old second answer
      both-steps second answer call =
          call-then hi answer (high-step old (grown-own old.nodes) fit mid (Ok hi) high) (low-step mid high.progress.nodes high.progress.table.fit second answer call)

      -- an error of the second call is passed on
      pub low-exit : {A : Type 0} (second : Table) (answer : Result A NodeError) → IsCall (AreTailsOf (IsMember (either (has mid.nodes s.left_lo.0) (has mid.nodes s.right_lo.0)))) (pair_level mid.nodes s.left_lo.0 s.right_lo.0) mid second answer → IsCall (AreTailsOf (IsMember source)) low old second answer
      low-exit second answer call = exit-call (IsMember source) s.var low low_least answer (both-steps second answer call)

      -- after the low sides
      module _ (second : Table) (lo : NodeId) (low_call : IsCall (AreTailsOf (IsMember (either (has mid.nodes s.left_lo.0) (has mid.nodes s.right_lo.0)))) (pair_level mid.nodes s.left_lo.0 s.right_lo.0) mid second (Ok lo)) (of_hi : IsResult Union 0 mid.nodes s.left_hi.0 s.right_hi.0 hi.0) (of_lo : IsResult Union 0 second.nodes s.left_lo.0 s.right_lo.0 lo.0) where
        whole : Grown old.nodes second.nodes
        whole = (both-steps second (Ok lo) low_call).progress.nodes

        hi_now : IsResult Union 0 second.nodes s.left_hi.0 s.right_hi.0 hi.0
        hi_now =
            let o = high_operands mid high.progress.nodes high.progress.table.fit in
            result-kept low_call.progress.nodes Union 0 low_call.progress.table.fit s.left_hi.0 s.right_hi.0 hi.0
            (stands-below Zbdd 0 mid.nodes s.left_hi.0 o.0) (stands-below Zbdd 0 mid.nodes s.right_hi.0 o.1) of_hi

        -- the results make a ready result
        pub ready : IsReady second.nodes (union_key left right) s.var hi.0 lo.0
        ready = its_ready second whole low_call.progress.table.fit hi.0 lo.0 hi_now of_lo

        -- no call remembered the key
        pub absent : Lacks old.entries (union_key left right) → Lacks second.entries (union_key left right)
        absent lacks =
            let e = kept_level second whole low_call.progress.table.fit in
            progress-lacks (both-steps second (Ok lo) low_call).progress (union_key left right) lacks (omega (arith, e))

        -- all steps are the call
        pub whole-call : {A : Type 0} (now : Table) (answer : Result A NodeError) → IsCall (AreTailsOf (IsMember (joined s.var (has second.nodes hi.0) (has second.nodes lo.0)))) s.var second now answer → IsCall (AreTailsOf (IsMember source)) low old now answer
        whole-call now answer last =
            call-then lo answer (low-exit second (Ok lo) low_call)
            (last-call (IsMember source) s.var low low_least (IsMember (joined s.var (has second.nodes hi.0) (has second.nodes lo.0)))
            (λ set m. back second whole low_call.progress.table.fit set (sym (its_reads second whole low_call.progress.table.fit hi.0 lo.0 hi_now of_lo set) ∙ m)) answer last)

-- the union of a family with itself, and with the empty family
or_same : (x : Bool) → x ≡ (x || x)
or_same true = refl
or_same false = refl

or_false : (x y : Bool) → y ≡ false → x ≡ (x || y)
or_false true y e = refl
or_false false y e = sym e

or_after : (x y : Bool) → x ≡ false → y ≡ (x || y)
or_after x y e = rw e refl

-- a family is its union with itself
pub union-own : (ns : List Node) → AllFit ns → (left right : ℕ) → left ≡ right → stands Zbdd 0 ns left ≡ true → IsResult Union 0 ns left right left
union-own ns fit left right e st =
    is_result Union 0 ns left right left fit st (λ set. or_same (has ns left set) ∙ ap (λ (x : ℕ). has ns left set || has ns x set) e)

-- the empty family adds nothing on the left
pub union-after : (ns : List Node) → AllFit ns → (left right : ℕ) → left ≡ 0 → stands Zbdd 0 ns right ≡ true → IsResult Union 0 ns left right right
union-after ns fit left right e st =
    is_result Union 0 ns left right right fit st (λ set. or_after (has ns left set) (has ns right set) (ap (λ (x : ℕ). has ns x set) e ∙ has-zero ns set))

-- nor on the right
pub union-before : (ns : List Node) → AllFit ns → (left right : ℕ) → right ≡ 0 → stands Zbdd 0 ns left ≡ true → IsResult Union 0 ns left right left
union-before ns fit left right e st =
    is_result Union 0 ns left right left fit st (λ set. or_false (has ns left set) (has ns right set) (ap (λ (x : ℕ). has ns x set) e ∙ has-zero ns set))
