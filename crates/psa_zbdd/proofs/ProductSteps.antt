-- The steps of the recursion of the product.
use Rattle.std.proofs.Common.{◌≡◌, ◌↔◌, ℕ, ◌+◌, ◌≤◌, Bool, true, List, ◌∷◌, Result, Ok, refl, sym, subst₂, ◌∙◌, inl, inr, arith}
use Rattle.psa_nodes.specs.declared.node.Kind.TheVariants.{Zbdd}
use Rattle.psa_nodes.specs.declared.node.NodeId.{NodeId}
use Rattle.psa_nodes.specs.declared.node.NodeError.{NodeError}
use Rattle.psa_nodes.specs.declared.node.MemoKey.{MemoKey}
use Rattle.psa_nodes.specs.declared.node.Operation.TheVariants.{Product}
use Rattle.psa_nodes.specs.Families.{IsProductMember}
use Rattle.psa_nodes.specs.Readings.{has, joined, stands}
use Rattle.psa_nodes.specs.Nodes.{AllFit, Grown}
use Rattle.psa_nodes.specs.Table.{Table, Lacks}
use Rattle.psa_nodes.specs.Progress.{IsCall, IsResult, key_level}
use Rattle.psa_nodes.proofs.CallerLemmas.{stands-below, stands-kept, stands-weaker, has-kept, grown-own, grown-then, call-then, progress-lacks}
use Rattle.psa_families.specs.declared.sides.Sides.{Sides}
use Rattle.psa_nodes.specs.Tails.{IsMember, AreTailsOf}
use Rattle.psa_nodes.specs.Progress.{pair_level}
use Rattle.psa_families.specs.Sides.{AreSides}
use Rattle.psa_nodes.specs.Making.{IsReady}
use Rattle.psa_zbdd.specs.FamilyProducts.{IsProductSource, SidesStand, IsHighSide, left_family, right_family}
use Rattle.psa_nodes.proofs.CallerLemmas.{AreAbove, above-stands}
use Rattle.psa_families.proofs.SidesLemmas.{sides-kept, low-member}
use Rattle.psa_families.proofs.LevelLemmas.{pair-past}
use Rattle.psa_zbdd.proofs.ProductDecompositionLemmas.{low-product, product-sides}
use Rattle.psa_zbdd.proofs.ProductSideSteps.{ProductCalled, member-as, past-product}
use Rattle.psa_nodes.proofs.CallerLemmas.{result-kept}
use Rattle.psa_nodes.proofs.CallerLemmas.{IsSideOf, side-call, exit-call, last-call}

abbrev pub product_key : NodeId → NodeId → ℕ → MemoKey
product_key left right limit = record { operation = Product; left = left; right = right; limit = limit }

-- what a call for the side with the variable does
abbrev pub HighCalled : {A : Type 0} → Sides → ℕ → Table → Table → Result A NodeError → Type 0
HighCalled s limit before now answer =
    IsCall (AreTailsOf (IsProductSource (left_family before.nodes s) (right_family before.nodes s) limit)) (s.var + 1) before now answer

module _ (old : Table) (left right : NodeId) (limit : ℕ) (s : Sides) (a : AreSides old.nodes left right s) where
  abbrev Source : List ℕ → Type 0
  Source = IsProductSource (has old.nodes left.0) (has old.nodes right.0) limit

  abbrev low : ℕ
  low = pair_level old.nodes left.0 right.0

  low_least : low ≤ s.var
  low_least = let e = a.least in omega (arith, e)

  old_left : stands Zbdd 0 old.nodes left.0 ≡ true
  old_left = stands-weaker Zbdd s.var 0 old.nodes left.0 (omega arith) a.left_stands

  old_right : stands Zbdd 0 old.nodes right.0 ≡ true
  old_right = stands-weaker Zbdd s.var 0 old.nodes right.0 (omega arith) a.right_stands

  -- in a table that grew
  module _ (now : Table) (g : Grown old.nodes now.nodes) (fit : AllFit now.nodes) where
    now_sides : AreSides now.nodes left right s
    now_sides = sides-kept g left right s a

    same-left : (set : List ℕ) → left_family now.nodes s set ≡ has old.nodes left.0 set
    same-left set = sym (now_sides.of_left.reads set) ∙ has-kept g left.0 set (stands-below Zbdd 0 old.nodes left.0 old_left)

    same-right : (set : List ℕ) → right_family now.nodes s set ≡ has old.nodes right.0 set
    same-right set = sym (now_sides.of_right.reads set) ∙ has-kept g right.0 set (stands-below Zbdd 0 old.nodes right.0 old_right)

    to-source : (set : List ℕ) → IsProductMember (left_family now.nodes s) (right_family now.nodes s) limit set → IsProductMember (has old.nodes left.0) (has old.nodes right.0) limit set
    to-source set p =
        member-as limit (left_family now.nodes s) (right_family now.nodes s) (has old.nodes left.0) (has old.nodes right.0)
        (λ l m. sym (same-left l) ∙ m) (λ r m. sym (same-right r) ∙ m) set p

    from-source : (set : List ℕ) → IsProductMember (has now.nodes left.0) (has now.nodes right.0) limit set → IsProductMember (left_family now.nodes s) (right_family now.nodes s) limit set
    from-source set p =
        member-as limit (has now.nodes left.0) (has now.nodes right.0) (left_family now.nodes s) (right_family now.nodes s)
        (λ l m. sym (now_sides.of_left.reads l) ∙ m) (λ r m. sym (now_sides.of_right.reads r) ∙ m) set p

    into-source : (set : List ℕ) → IsProductMember (left_family now.nodes s) (right_family now.nodes s) limit set → IsProductMember (has now.nodes left.0) (has now.nodes right.0) limit set
    into-source set p =
        member-as limit (left_family now.nodes s) (right_family now.nodes s) (has now.nodes left.0) (has now.nodes right.0)
        (λ l m. now_sides.of_left.reads l ∙ m) (λ r m. now_sides.of_right.reads r ∙ m) set p

    above : (id : ℕ) → stands Zbdd (s.var + 1) now.nodes id ≡ true → AreAbove s.var (has now.nodes id)
    above id h = above-stands now.nodes fit s.var id h

    pub sides_stand : SidesStand now.nodes s
    sides_stand = record {
      bound = a.bound;
      left_hi = now_sides.of_left.hi_stands;
      left_lo = now_sides.of_left.lo_stands;
      right_hi = now_sides.of_right.hi_stands;
      right_lo = now_sides.of_right.lo_stands;
    }

    pub past_lo : s.var + 1 ≤ pair_level now.nodes s.left_lo.0 s.right_lo.0
    past_lo = pair-past now.nodes s.var s.left_lo.0 s.right_lo.0 a.bound now_sides.of_left.lo_stands now_sides.of_right.lo_stands

    pub low_operands : (stands Zbdd 0 now.nodes s.left_lo.0 ≡ true) × (stands Zbdd 0 now.nodes s.right_lo.0 ≡ true)
    low_operands = (
      stands-weaker Zbdd (s.var + 1) 0 now.nodes s.left_lo.0 (omega arith) now_sides.of_left.lo_stands,
      stands-weaker Zbdd (s.var + 1) 0 now.nodes s.right_lo.0 (omega arith) now_sides.of_right.lo_stands,
    )

    low_side : IsSideOf s.var Source (IsProductSource (has now.nodes s.left_lo.0) (has now.nodes s.right_lo.0) limit)
    low_side set m = inl (elim m [
      | inl l ↦ inl (sym (has-kept g left.0 set (stands-below Zbdd 0 old.nodes left.0 old_left)) ∙ low-member now.nodes fit s.var left.0 s.left_hi.0 s.left_lo.0 now_sides.of_left set l)
      | inr r ↦ elim r [
        | inl b ↦ inr (inl (sym (has-kept g right.0 set (stands-below Zbdd 0 old.nodes right.0 old_right)) ∙ low-member now.nodes fit s.var right.0 s.right_hi.0 s.right_lo.0 now_sides.of_right set b))
        | inr p ↦ inr (inr (to-source set
            (low-product s.var (has now.nodes s.left_hi.0) (has now.nodes s.left_lo.0) (has now.nodes s.right_hi.0) (has now.nodes s.right_lo.0)
            (above s.left_hi.0 now_sides.of_left.hi_stands) (above s.left_lo.0 now_sides.of_left.lo_stands) (above s.right_hi.0 now_sides.of_right.hi_stands) (above s.right_lo.0 now_sides.of_right.lo_stands) limit set p)))
      ]
    ])

    low-step : {A : Type 0} (after : Table) (answer : Result A NodeError) → ProductCalled limit s.left_lo.0 s.right_lo.0 now after answer → IsCall (AreTailsOf Source) (s.var + 1) now after answer
    low-step after answer call =
        side-call Source s.var low low_least (IsProductSource (has now.nodes s.left_lo.0) (has now.nodes s.right_lo.0) limit) (pair_level now.nodes s.left_lo.0 s.right_lo.0)
        low_side past_lo answer call

    high_side : IsSideOf s.var Source (IsProductSource (left_family now.nodes s) (right_family now.nodes s) limit)
    high_side set m = inl (elim m [
      | inl l ↦ inl (sym (same-left set) ∙ l)
      | inr r ↦ elim r [ inl b ↦ inr (inl (sym (same-right set) ∙ b)) | inr p ↦ inr (inr (to-source set p)) ]
    ])

    high-step : {A : Type 0} (after : Table) (answer : Result A NodeError) → HighCalled s limit now after answer → IsCall (AreTailsOf Source) (s.var + 1) now after answer
    high-step after answer call =
        side-call Source s.var low low_least (IsProductSource (left_family now.nodes s) (right_family now.nodes s) limit) (s.var + 1) high_side (omega arith) answer call

    kept_level : key_level now.nodes (product_key left right limit) ≡ s.var
    kept_level = sym now_sides.least

    module _ (hi lo : ℕ) (of_hi : IsHighSide now.nodes now.nodes s limit hi) (of_lo : IsResult Product limit now.nodes s.left_lo.0 s.right_lo.0 lo) where
      its_reads : (set : List ℕ) → (joined s.var (has now.nodes hi) (has now.nodes lo) set ≡ true) ↔ IsProductMember (left_family now.nodes s) (right_family now.nodes s) limit set
      its_reads =
          product-sides s.var (has now.nodes s.left_hi.0) (has now.nodes s.left_lo.0) (has now.nodes s.right_hi.0) (has now.nodes s.right_lo.0)
          (above s.left_hi.0 now_sides.of_left.hi_stands) (above s.left_lo.0 now_sides.of_left.lo_stands) (above s.right_hi.0 now_sides.of_right.hi_stands) (above s.right_lo.0 now_sides.of_right.lo_stands)
          limit (has now.nodes hi) (has now.nodes lo) of_hi.computes of_lo.computes

      its_ready : IsReady now.nodes (product_key left right limit) s.var hi lo
      its_ready = record {
        bounded = a.bound;
        no_right = λ e. cc;
        no_limit = λ e. cc;
        left_stands = stands-kept g Zbdd 0 left.0 old_left;
        right_stands = stands-kept g Zbdd 0 right.0 old_right;
        of_family = refl;
        past = let e = kept_level in omega (arith, e);
        hi_stands = of_hi.stands_at;
        lo_stands = past-product now.nodes fit s.var limit s.left_lo.0 s.right_lo.0 lo now_sides.of_left.lo_stands now_sides.of_right.lo_stands of_lo;
        computes = λ set. (λ m. into-source set ((its_reads set).0 m), λ p. (its_reads set).1 (from-source set p));
      }

      last-step : {A : Type 0} (after : Table) (answer : Result A NodeError) → IsCall (AreTailsOf (IsMember (joined s.var (has now.nodes hi) (has now.nodes lo)))) s.var now after answer → IsCall (AreTailsOf Source) low now after answer
      last-step after answer call =
          last-call Source s.var low low_least (IsMember (joined s.var (has now.nodes hi) (has now.nodes lo))) (λ set m. inr (inr (to-source set ((its_reads set).0 m)))) answer call

  -- the families of the sides in a table that grew further
  high-kept : (one two : Table) → Grown old.nodes one.nodes → Grown one.nodes two.nodes → (hi : ℕ) → IsHighSide one.nodes two.nodes s limit hi → IsHighSide two.nodes two.nodes s limit hi
  high-kept one two g1 g2 hi h = record {
    stands_at = h.stands_at;
    computes = subst₂ (λ (f k : List ℕ → Bool). (set : List ℕ) → (has two.nodes hi set ≡ true) ↔ IsProductMember f k limit (s.var ∷ set))
        (λ i set. same-family-left set i) (λ i set. same-family-right set i) h.computes;
  }
    where
      one_sides : AreSides one.nodes left right s
      one_sides = sides-kept g1 left right s a

      two_sides : AreSides two.nodes left right s
      two_sides = sides-kept (grown-then g1 g2) left right s a

      same-family-left : (set : List ℕ) → left_family one.nodes s set ≡ left_family two.nodes s set
      same-family-left set =
          sym (one_sides.of_left.reads set) ∙ sym (has-kept g2 left.0 set (stands-below Zbdd 0 one.nodes left.0 (stands-kept g1 Zbdd 0 left.0 old_left)))
          ∙ two_sides.of_left.reads set

      same-family-right : (set : List ℕ) → right_family one.nodes s set ≡ right_family two.nodes s set
      same-family-right set =
          sym (one_sides.of_right.reads set) ∙ sym (has-kept g2 right.0 set (stands-below Zbdd 0 one.nodes right.0 (stands-kept g1 Zbdd 0 right.0 old_right)))
          ∙ two_sides.of_right.reads set

  module _ (fit : AllFit old.nodes) where
    pub low-exit : {A : Type 0} (one : Table) (answer : Result A NodeError) → ProductCalled limit s.left_lo.0 s.right_lo.0 old one answer → IsCall (AreTailsOf Source) low old one answer
    low-exit one answer call = exit-call Source s.var low low_least answer (low-step old (grown-own old.nodes) fit one answer call)

    -- after the low side
    module _ (one : Table) (lo : NodeId) (call_one : ProductCalled limit s.left_lo.0 s.right_lo.0 old one (Ok lo)) (of_lo : IsResult Product limit one.nodes s.left_lo.0 s.right_lo.0 lo.0) where
      two-steps : {A : Type 0} (two : Table) (answer : Result A NodeError) → HighCalled s limit one two answer → IsCall (AreTailsOf Source) (s.var + 1) old two answer
      two-steps two answer call =
          call-then lo answer (low-step old (grown-own old.nodes) fit one (Ok lo) call_one) (high-step one call_one.progress.nodes call_one.progress.table.fit two answer call)

      pub high-exit : {A : Type 0} (two : Table) (answer : Result A NodeError) → HighCalled s limit one two answer → IsCall (AreTailsOf Source) low old two answer
      high-exit two answer call = exit-call Source s.var low low_least answer (two-steps two answer call)

      -- after the side with the variable
      module _ (two : Table) (hi : NodeId) (call_two : HighCalled s limit one two (Ok hi)) (of_hi : IsHighSide one.nodes two.nodes s limit hi.0) where
        whole : Grown old.nodes two.nodes
        whole = grown-then call_one.progress.nodes call_two.progress.nodes

        lo_now : IsResult Product limit two.nodes s.left_lo.0 s.right_lo.0 lo.0
        lo_now =
            let o = low_operands one call_one.progress.nodes call_one.progress.table.fit in
            result-kept call_two.progress.nodes Product limit call_two.progress.table.fit s.left_lo.0 s.right_lo.0 lo.0
            (stands-below Zbdd 0 one.nodes s.left_lo.0 o.0) (stands-below Zbdd 0 one.nodes s.right_lo.0 o.1) of_lo

        hi_now : IsHighSide two.nodes two.nodes s limit hi.0
        hi_now = high-kept one two call_one.progress.nodes call_two.progress.nodes hi.0 of_hi

        pub ready : IsReady two.nodes (product_key left right limit) s.var hi.0 lo.0
        ready = its_ready two whole call_two.progress.table.fit hi.0 lo.0 hi_now lo_now

        pub absent : Lacks old.entries (product_key left right limit) → Lacks two.entries (product_key left right limit)
        absent lacks =
            let e = kept_level two whole call_two.progress.table.fit in
            progress-lacks (two-steps two (Ok hi) call_two).progress (product_key left right limit) lacks (omega (arith, e))

        pub whole-call : {A : Type 0} (now : Table) (answer : Result A NodeError) → IsCall (AreTailsOf (IsMember (joined s.var (has two.nodes hi.0) (has two.nodes lo.0)))) s.var two now answer → IsCall (AreTailsOf Source) low old now answer
        whole-call now answer last =
            call-then hi answer (high-exit two (Ok hi) call_two)
            (last-step two whole call_two.progress.table.fit hi.0 lo.0 hi_now lo_now now answer last)
