-- The steps to the side with the variable of a product.
use Rattle.std.proofs.Common.{◌≡◌, ℕ, ◌+◌, ◌<◌, ◌≤◌, ◌⊎◌, ◌||◌, Bool, true, List, ◌∷◌, Result, Ok, sym, ap, ap₂, subst, ◌∙◌, inl, inr, arith}
use Rattle.std.proofs.lemmas.Bool.{or_cases, false≢true}
use Rattle.psa_logic.specs.Products.{is_positive}
use Rattle.psa_nodes.specs.declared.node.Kind.TheVariants.{Zbdd}
use Rattle.psa_nodes.specs.declared.node.Node.{Node}
use Rattle.psa_nodes.specs.declared.node.NodeId.{NodeId}
use Rattle.psa_nodes.specs.declared.node.NodeError.{NodeError}
use Rattle.psa_nodes.specs.declared.node.TheConstants.{MAX_LITERAL_NUMBERS}
use Rattle.psa_nodes.specs.declared.node.Operation.TheVariants.{Union, Product}
use Rattle.psa_nodes.specs.Families.{IsProductMember}
use Rattle.psa_nodes.specs.Readings.{has, stands}
use Rattle.psa_nodes.specs.Nodes.{AllFit, Grown}
use Rattle.psa_nodes.specs.Table.{Table}
use Rattle.psa_nodes.specs.Progress.{IsCall, IsResult}
use Rattle.psa_nodes.proofs.CallerLemmas.{stands-below, stands-kept, stands-weaker, stands-terminal, has-zero, has-kept, grown-own, grown-then, call-then}
use Rattle.psa_families.specs.declared.sides.Sides.{Sides}
use Rattle.psa_nodes.specs.Tails.{either, IsMember, AreTailsOf}
use Rattle.psa_nodes.specs.Progress.{pair_level}
use Rattle.psa_zbdd.specs.FamilyProducts.{IsProductSource, SidesStand, AreClearSides, IsHighSide, left_family, right_family, weight}
use Rattle.psa_nodes.proofs.CallerLemmas.{AreAbove, above-stands, stands-above}
use Rattle.psa_families.proofs.LevelLemmas.{pair-past}
use Rattle.psa_nodes.proofs.CallerLemmas.{result-kept}
use Rattle.psa_families.proofs.UnionSteps.{past-union}
use Rattle.psa_zbdd.proofs.SetUnionLemmas.{union-above, or-left, or-right}
use Rattle.psa_families.proofs.JoinedLemmas.{low-joined, high-joined}
use Rattle.psa_zbdd.proofs.ProductDecompositionLemmas.{high-product, product-high, no-high}
use Rattle.psa_nodes.proofs.CallerLemmas.{IsSideOf, side-call}

-- what calls do, with their answers
abbrev pub UnionCalled : {A : Type 0} → ℕ → ℕ → Table → Table → Result A NodeError → Type 0
UnionCalled left right before now answer =
    IsCall (AreTailsOf (IsMember (either (has before.nodes left) (has before.nodes right)))) (pair_level before.nodes left right) before now answer

abbrev pub ProductCalled : {A : Type 0} → ℕ → ℕ → ℕ → Table → Table → Result A NodeError → Type 0
ProductCalled limit left right before now answer =
    IsCall (AreTailsOf (IsProductSource (has before.nodes left) (has before.nodes right) limit)) (pair_level before.nodes left right) before now answer

-- a product of families is one of wider families
pub member-as : (limit : ℕ) (f g f' g' : List ℕ → Bool) → ((l : List ℕ) → f l ≡ true → f' l ≡ true) → ((r : List ℕ) → g r ≡ true → g' r ≡ true) → (set : List ℕ) → IsProductMember f g limit set → IsProductMember f' g' limit set
member-as limit f g f' g' first second set p = record {
  left = p.left;
  right = p.right;
  of_first = first p.left p.of_first;
  of_second = second p.right p.of_second;
  union = p.union;
  consistent = p.consistent;
  within = p.within;
}

-- a product stands where its operands do
pub past-product : (ns : List Node) → AllFit ns → (x limit left right id : ℕ) → stands Zbdd (x + 1) ns left ≡ true → stands Zbdd (x + 1) ns right ≡ true → IsResult Product limit ns left right id → stands Zbdd (x + 1) ns id ≡ true
past-product ns fit x limit left right id sl sr r = stands-above ns fit x id r.stands_at (λ set m.
    let p = (r.computes set).0 m in
    union-above x p.left p.right set p.union (above-stands ns fit x left sl p.left p.of_first) (above-stands ns fit x right sr p.right p.of_second))

module _ (old : Table) (s : Sides) (limit rest : ℕ) (counted : limit ≡ rest + weight s.var) (bound : s.var < MAX_LITERAL_NUMBERS) (st : SidesStand old.nodes s) (c : Sides) (cl : AreClearSides old.nodes s c) (fit_old : AllFit old.nodes) where
  abbrev first : List ℕ → Bool
  first = left_family old.nodes s

  abbrev second : List ℕ → Bool
  second = right_family old.nodes s

  abbrev Source : List ℕ → Type 0
  Source = IsProductSource first second limit

  al1 : AreAbove s.var (has old.nodes s.left_hi.0)
  al1 = above-stands old.nodes fit_old s.var s.left_hi.0 st.left_hi

  al0 : AreAbove s.var (has old.nodes s.left_lo.0)
  al0 = above-stands old.nodes fit_old s.var s.left_lo.0 st.left_lo

  ar1 : AreAbove s.var (has old.nodes s.right_hi.0)
  ar1 = above-stands old.nodes fit_old s.var s.right_hi.0 st.right_hi

  ar0 : AreAbove s.var (has old.nodes s.right_lo.0)
  ar0 = above-stands old.nodes fit_old s.var s.right_lo.0 st.right_lo

  abbrev High : List ℕ → Type 0
  High set =
      IsProductMember (has old.nodes c.left_hi.0) (either (has old.nodes c.right_hi.0) (has old.nodes c.right_lo.0)) rest set
      ⊎ IsProductMember (has old.nodes c.left_lo.0) (has old.nodes c.right_hi.0) rest set

  to-product : (set : List ℕ) → High set → IsProductMember first second limit (s.var ∷ set)
  to-product set h =
      high-product s.var (has old.nodes s.left_hi.0) (has old.nodes s.left_lo.0) (has old.nodes s.right_hi.0) (has old.nodes s.right_lo.0) al1 al0 ar1 ar0 limit rest counted
      (has old.nodes c.left_hi.0) (has old.nodes c.left_lo.0) (has old.nodes c.right_hi.0) (has old.nodes c.right_lo.0) cl.left_hi.are cl.left_lo.are cl.right_hi.are cl.right_lo.are set h

  from-product : (set : List ℕ) → IsProductMember first second limit (s.var ∷ set) → High set
  from-product set p =
      product-high s.var (has old.nodes s.left_hi.0) (has old.nodes s.left_lo.0) (has old.nodes s.right_hi.0) (has old.nodes s.right_lo.0) al1 al0 ar1 ar0 limit rest counted
      (has old.nodes c.left_hi.0) (has old.nodes c.left_lo.0) (has old.nodes c.right_hi.0) (has old.nodes c.right_lo.0) cl.left_hi.are cl.left_lo.are cl.right_hi.are cl.right_lo.are set p

  -- in a table that grew
  module _ (now : Table) (g : Grown old.nodes now.nodes) (fit : AllFit now.nodes) where
    there : (id : ℕ) → stands Zbdd (s.var + 1) old.nodes id ≡ true → stands Zbdd (s.var + 1) now.nodes id ≡ true
    there id h = stands-kept g Zbdd (s.var + 1) id h

    same : (id : ℕ) → stands Zbdd (s.var + 1) old.nodes id ≡ true → (set : List ℕ) → has now.nodes id set ≡ has old.nodes id set
    same id h set = has-kept g id set (stands-below Zbdd (s.var + 1) old.nodes id h)

    pub zero : (id : ℕ) → stands Zbdd (s.var + 1) now.nodes id ≡ true → stands Zbdd 0 now.nodes id ≡ true
    zero id h = stands-weaker Zbdd (s.var + 1) 0 now.nodes id (omega arith) h

    pub now_left_hi : stands Zbdd (s.var + 1) now.nodes c.left_hi.0 ≡ true
    now_left_hi = there c.left_hi.0 cl.left_hi.clear_stands

    pub now_left_lo : stands Zbdd (s.var + 1) now.nodes c.left_lo.0 ≡ true
    now_left_lo = there c.left_lo.0 cl.left_lo.clear_stands

    pub now_right_hi : stands Zbdd (s.var + 1) now.nodes c.right_hi.0 ≡ true
    now_right_hi = there c.right_hi.0 cl.right_hi.clear_stands

    pub now_right_lo : stands Zbdd (s.var + 1) now.nodes c.right_lo.0 ≡ true
    now_right_lo = there c.right_lo.0 cl.right_lo.clear_stands

    pub past : (left right : ℕ) → stands Zbdd (s.var + 1) now.nodes left ≡ true → stands Zbdd (s.var + 1) now.nodes right ≡ true → s.var + 1 ≤ pair_level now.nodes left right
    past left right l r = pair-past now.nodes s.var left right bound l r

    -- the clear sides are of the source
    left-high : (set : List ℕ) → has now.nodes c.left_hi.0 set ≡ true → Source (s.var ∷ set)
    left-high set m = inl (high-joined s.var (has old.nodes s.left_hi.0) (has old.nodes s.left_lo.0) set ((cl.left_hi.are set).0 (sym (same c.left_hi.0 cl.left_hi.clear_stands set) ∙ m)).0)

    left-low : (set : List ℕ) → has now.nodes c.left_lo.0 set ≡ true → Source set
    left-low set m = inl (low-joined s.var (has old.nodes s.left_hi.0) (has old.nodes s.left_lo.0) al0 set ((cl.left_lo.are set).0 (sym (same c.left_lo.0 cl.left_lo.clear_stands set) ∙ m)).0)

    right-high : (set : List ℕ) → has now.nodes c.right_hi.0 set ≡ true → Source (s.var ∷ set)
    right-high set m = inr (inl (high-joined s.var (has old.nodes s.right_hi.0) (has old.nodes s.right_lo.0) set ((cl.right_hi.are set).0 (sym (same c.right_hi.0 cl.right_hi.clear_stands set) ∙ m)).0))

    right-low : (set : List ℕ) → has now.nodes c.right_lo.0 set ≡ true → Source set
    right-low set m = inr (inl (low-joined s.var (has old.nodes s.right_hi.0) (has old.nodes s.right_lo.0) ar0 set ((cl.right_lo.are set).0 (sym (same c.right_lo.0 cl.right_lo.clear_stands set) ∙ m)).0))

    any_side : IsSideOf s.var Source (IsMember (either (has now.nodes c.right_hi.0) (has now.nodes c.right_lo.0)))
    any_side set m = elim (or_cases (has now.nodes c.right_hi.0 set) (has now.nodes c.right_lo.0 set) m) [
      | inl p ↦ inr (right-high set p)
      | inr p ↦ inl (right-low set p)
    ]

    pub any-step : {A : Type 0} (after : Table) (answer : Result A NodeError) → UnionCalled c.right_hi.0 c.right_lo.0 now after answer → IsCall (AreTailsOf Source) (s.var + 1) now after answer
    any-step after answer call =
        side-call Source s.var 0 (omega arith) (IsMember (either (has now.nodes c.right_hi.0) (has now.nodes c.right_lo.0))) (pair_level now.nodes c.right_hi.0 c.right_lo.0)
        any_side (past c.right_hi.0 c.right_lo.0 now_right_hi now_right_lo) answer call

    -- with the right sides joined
    module _ (any : ℕ) (of_any : IsResult Union 0 now.nodes c.right_hi.0 c.right_lo.0 any) where
      pub any_stands : stands Zbdd (s.var + 1) now.nodes any ≡ true
      any_stands = past-union now.nodes fit s.var c.right_hi.0 c.right_lo.0 any now_right_hi now_right_lo of_any

      any-old : (set : List ℕ) → has now.nodes any set ≡ either (has old.nodes c.right_hi.0) (has old.nodes c.right_lo.0) set
      any-old set = of_any.computes set ∙ ap₂ (λ x y. x || y) (same c.right_hi.0 cl.right_hi.clear_stands set) (same c.right_lo.0 cl.right_lo.clear_stands set)

      first-high : (set : List ℕ) → IsProductMember (has now.nodes c.left_hi.0) (has now.nodes any) rest set → High set
      first-high set p =
          inl (member-as rest (has now.nodes c.left_hi.0) (has now.nodes any) (has old.nodes c.left_hi.0) (either (has old.nodes c.right_hi.0) (has old.nodes c.right_lo.0))
          (λ l m. sym (same c.left_hi.0 cl.left_hi.clear_stands l) ∙ m) (λ r m. sym (any-old r) ∙ m) set p)

      high-first : (set : List ℕ) → IsProductMember (has old.nodes c.left_hi.0) (either (has old.nodes c.right_hi.0) (has old.nodes c.right_lo.0)) rest set → IsProductMember (has now.nodes c.left_hi.0) (has now.nodes any) rest set
      high-first set p =
          member-as rest (has old.nodes c.left_hi.0) (either (has old.nodes c.right_hi.0) (has old.nodes c.right_lo.0)) (has now.nodes c.left_hi.0) (has now.nodes any)
          (λ l m. same c.left_hi.0 cl.left_hi.clear_stands l ∙ m) (λ r m. any-old r ∙ m) set p

      first_side : IsSideOf s.var Source (IsProductSource (has now.nodes c.left_hi.0) (has now.nodes any) rest)
      first_side set m = elim m [
        | inl l ↦ inr (left-high set l)
        | inr r ↦ elim r [
          | inl a ↦ any_side set (sym (of_any.computes set) ∙ a)
          | inr p ↦ inr (inr (inr (to-product set (first-high set p))))
        ]
      ]

      pub first-step : {A : Type 0} (after : Table) (answer : Result A NodeError) → ProductCalled rest c.left_hi.0 any now after answer → IsCall (AreTailsOf Source) (s.var + 1) now after answer
      first-step after answer call =
          side-call Source s.var 0 (omega arith) (IsProductSource (has now.nodes c.left_hi.0) (has now.nodes any) rest) (pair_level now.nodes c.left_hi.0 any)
          first_side (past c.left_hi.0 any now_left_hi any_stands) answer call

    second-high : (set : List ℕ) → IsProductMember (has now.nodes c.left_lo.0) (has now.nodes c.right_hi.0) rest set → High set
    second-high set p =
        inr (member-as rest (has now.nodes c.left_lo.0) (has now.nodes c.right_hi.0) (has old.nodes c.left_lo.0) (has old.nodes c.right_hi.0)
        (λ l m. sym (same c.left_lo.0 cl.left_lo.clear_stands l) ∙ m) (λ r m. sym (same c.right_hi.0 cl.right_hi.clear_stands r) ∙ m) set p)

    high-second : (set : List ℕ) → IsProductMember (has old.nodes c.left_lo.0) (has old.nodes c.right_hi.0) rest set → IsProductMember (has now.nodes c.left_lo.0) (has now.nodes c.right_hi.0) rest set
    high-second set p =
        member-as rest (has old.nodes c.left_lo.0) (has old.nodes c.right_hi.0) (has now.nodes c.left_lo.0) (has now.nodes c.right_hi.0)
        (λ l m. same c.left_lo.0 cl.left_lo.clear_stands l ∙ m) (λ r m. same c.right_hi.0 cl.right_hi.clear_stands r ∙ m) set p

    second_side : IsSideOf s.var Source (IsProductSource (has now.nodes c.left_lo.0) (has now.nodes c.right_hi.0) rest)
    second_side set m = elim m [
      | inl l ↦ inl (left-low set l)
      | inr r ↦ elim r [
        | inl a ↦ inr (right-high set a)
        | inr p ↦ inr (inr (inr (to-product set (second-high set p))))
      ]
    ]

    pub second-step : {A : Type 0} (after : Table) (answer : Result A NodeError) → ProductCalled rest c.left_lo.0 c.right_hi.0 now after answer → IsCall (AreTailsOf Source) (s.var + 1) now after answer
    second-step after answer call =
        side-call Source s.var 0 (omega arith) (IsProductSource (has now.nodes c.left_lo.0) (has now.nodes c.right_hi.0) rest) (pair_level now.nodes c.left_lo.0 c.right_hi.0)
        second_side (past c.left_lo.0 c.right_hi.0 now_left_lo now_right_hi) answer call

    -- where no left member has the variable, the product with it is that of the members without it alone
    pub alone-side : c.left_hi.0 ≡ 0 → (id : ℕ) → IsResult Product rest now.nodes c.left_lo.0 c.right_hi.0 id → IsHighSide old.nodes now.nodes s limit id
    alone-side none id r = record {
      stands_at = past-product now.nodes fit s.var rest c.left_lo.0 c.right_hi.0 id now_left_lo now_right_hi r;
      computes = λ set. (
        λ m. to-product set (second-high set ((r.computes set).0 m)),
        λ p. elim (from-product set p) [
          | inl q ↦ absurd (false≢true (sym (has-zero old.nodes q.left) ∙ ap (λ (x : ℕ). has old.nodes x q.left) (sym none) ∙ q.of_first))
          | inr q ↦ (r.computes set).1 (high-second set q)
        ],
      );
    }

    -- with all three
    module _ (any a b : ℕ) (of_any : IsResult Union 0 now.nodes c.right_hi.0 c.right_lo.0 any) (of_a : IsResult Product rest now.nodes c.left_hi.0 any a) (of_b : IsResult Product rest now.nodes c.left_lo.0 c.right_hi.0 b) where
      pub a_stands : stands Zbdd (s.var + 1) now.nodes a ≡ true
      a_stands = past-product now.nodes fit s.var rest c.left_hi.0 any a now_left_hi (any_stands any of_any) of_a

      pub b_stands : stands Zbdd (s.var + 1) now.nodes b ≡ true
      b_stands = past-product now.nodes fit s.var rest c.left_lo.0 c.right_hi.0 b now_left_lo now_right_hi of_b

      either-high : (set : List ℕ) → either (has now.nodes a) (has now.nodes b) set ≡ true → High set
      either-high set m = elim (or_cases (has now.nodes a set) (has now.nodes b set) m) [
        | inl p ↦ first-high any of_any set ((of_a.computes set).0 p)
        | inr p ↦ second-high set ((of_b.computes set).0 p)
      ]

      high-either : (set : List ℕ) → High set → either (has now.nodes a) (has now.nodes b) set ≡ true
      high-either set h = elim h [
        | inl p ↦ or-left (has now.nodes a set) (has now.nodes b set) ((of_a.computes set).1 (high-first any of_any set p))
        | inr p ↦ or-right (has now.nodes a set) (has now.nodes b set) ((of_b.computes set).1 (high-second set p))
      ]

      pub last-step : {A : Type 0} (after : Table) (answer : Result A NodeError) → UnionCalled a b now after answer → IsCall (AreTailsOf Source) (s.var + 1) now after answer
      last-step after answer call =
          side-call Source s.var 0 (omega arith) (IsMember (either (has now.nodes a) (has now.nodes b))) (pair_level now.nodes a b)
          (λ set m. inr (inr (inr (to-product set (either-high set m))))) (past a b a_stands b_stands) answer call

      pub high-side : (id : ℕ) → IsResult Union 0 now.nodes a b id → IsHighSide old.nodes now.nodes s limit id
      high-side id r = record {
        stands_at = past-union now.nodes fit s.var a b id a_stands b_stands r;
        computes = λ set. (λ m. to-product set (either-high set (sym (r.computes set) ∙ m)), λ p. r.computes set ∙ high-either set (from-product set p));
      }

  -- after the right sides are joined
  module _ (one : Table) (any : NodeId) (call_one : UnionCalled c.right_hi.0 c.right_lo.0 old one (Ok any)) (of_any : IsResult Union 0 one.nodes c.right_hi.0 c.right_lo.0 any.0) where
    pub done_one : IsCall (AreTailsOf Source) (s.var + 1) old one (Ok any)
    done_one = any-step old (grown-own old.nodes) fit_old one (Ok any) call_one

    pub two-steps : {A : Type 0} (two : Table) (answer : Result A NodeError) → ProductCalled rest c.left_hi.0 any.0 one two answer → IsCall (AreTailsOf Source) (s.var + 1) old two answer
    two-steps two answer call =
        call-then any answer done_one (first-step one call_one.progress.nodes call_one.progress.table.fit any.0 of_any two answer call)

    -- after the left members with the variable
    module _ (two : Table) (a : NodeId) (call_two : ProductCalled rest c.left_hi.0 any.0 one two (Ok a)) (of_a : IsResult Product rest two.nodes c.left_hi.0 any.0 a.0) where
      pub grown_two : Grown old.nodes two.nodes
      grown_two = grown-then call_one.progress.nodes call_two.progress.nodes

      pub three-steps : {A : Type 0} (three : Table) (answer : Result A NodeError) → ProductCalled rest c.left_lo.0 c.right_hi.0 two three answer → IsCall (AreTailsOf Source) (s.var + 1) old three answer
      three-steps three answer call =
          call-then a answer (two-steps two (Ok a) call_two) (second-step two grown_two call_two.progress.table.fit three answer call)

      -- and those without it
      module _ (three : Table) (b : NodeId) (call_three : ProductCalled rest c.left_lo.0 c.right_hi.0 two three (Ok b)) (of_b : IsResult Product rest three.nodes c.left_lo.0 c.right_hi.0 b.0) where
        pub grown_three : Grown old.nodes three.nodes
        grown_three = grown-then grown_two call_three.progress.nodes

        any_three : IsResult Union 0 three.nodes c.right_hi.0 c.right_lo.0 any.0
        any_three =
            let g = call_one.progress.nodes in
            let f = call_one.progress.table.fit in
            result-kept (grown-then call_two.progress.nodes call_three.progress.nodes) Union 0 call_three.progress.table.fit c.right_hi.0 c.right_lo.0 any.0
            (stands-below Zbdd (s.var + 1) one.nodes c.right_hi.0 (now_right_hi one g f)) (stands-below Zbdd (s.var + 1) one.nodes c.right_lo.0 (now_right_lo one g f)) of_any

        a_three : IsResult Product rest three.nodes c.left_hi.0 any.0 a.0
        a_three =
            let g = grown_two in
            let f = call_two.progress.table.fit in
            result-kept call_three.progress.nodes Product rest call_three.progress.table.fit c.left_hi.0 any.0 a.0
            (stands-below Zbdd (s.var + 1) two.nodes c.left_hi.0 (now_left_hi two g f))
            (stands-below Zbdd 0 two.nodes any.0 (stands-kept call_two.progress.nodes Zbdd 0 any.0 of_any.stands_at)) of_a

        pub both_stand : (stands Zbdd (s.var + 1) three.nodes a.0 ≡ true) × (stands Zbdd (s.var + 1) three.nodes b.0 ≡ true)
        both_stand =
            let f = call_three.progress.table.fit in
            (a_stands three grown_three f any.0 a.0 b.0 any_three a_three of_b, b_stands three grown_three f any.0 a.0 b.0 any_three a_three of_b)

        module _ {A : Type 0} (four : Table) (answer : Result A NodeError) (call : UnionCalled a.0 b.0 three four answer) where
          pub four-steps : IsCall (AreTailsOf Source) (s.var + 1) old four answer
          four-steps =
              call-then b answer (three-steps three (Ok b) call_three)
              (last-step three grown_three call_three.progress.table.fit any.0 a.0 b.0 any_three a_three of_b four answer call)

          pub whole-side : (id : ℕ) → IsResult Union 0 four.nodes a.0 b.0 id → IsHighSide old.nodes four.nodes s limit id
          whole-side id r =
              let g = call.progress.nodes in
              let f = call.progress.table.fit in
              let fm = call_three.progress.table.fit in
              let below_three = λ (x : ℕ) (h : stands Zbdd (s.var + 1) three.nodes x ≡ true). stands-below Zbdd (s.var + 1) three.nodes x h in
              high-side four (grown-then grown_three g) f any.0 a.0 b.0
              (result-kept g Union 0 f c.right_hi.0 c.right_lo.0 any.0 (below_three c.right_hi.0 (now_right_hi three grown_three fm)) (below_three c.right_lo.0 (now_right_lo three grown_three fm)) any_three)
              (result-kept g Product rest f c.left_hi.0 any.0 a.0 (below_three c.left_hi.0 (now_left_hi three grown_three fm)) (below_three any.0 (any_stands three grown_three fm any.0 any_three)) a_three)
              (result-kept g Product rest f c.left_lo.0 c.right_hi.0 b.0 (below_three c.left_lo.0 (now_left_lo three grown_three fm)) (below_three c.right_hi.0 (now_right_hi three grown_three fm)) of_b)
              id r

-- Where the literal may not be taken there is nothing with it.
pub nothing-high : (ns : List Node) → AllFit ns → (s : Sides) (limit : ℕ) → SidesStand ns s → is_positive s.var ≡ true → limit ≡ 0 → IsHighSide ns ns s limit 0
nothing-high ns fit s limit st even zero = record {
  stands_at = stands-terminal Zbdd (s.var + 1) ns 0 (omega arith);
  computes = λ set. (
    λ m. absurd (false≢true (sym (has-zero ns set) ∙ m)),
    λ p. absurd (no-high s.var (has ns s.left_hi.0) (has ns s.left_lo.0) (has ns s.right_hi.0) (has ns s.right_lo.0)
        (above-stands ns fit s.var s.left_hi.0 st.left_hi) (above-stands ns fit s.var s.left_lo.0 st.left_lo) (above-stands ns fit s.var s.right_hi.0 st.right_hi) (above-stands ns fit s.var s.right_lo.0 st.right_lo)
        set even (subst (λ (l : ℕ). IsProductMember (left_family ns s) (right_family ns s) l (s.var ∷ set)) zero p)),
  );
}
