-- The steps of the recursion of the minimal cut sets.
use Rattle.std.proofs.Common.{◌≡◌, ◌↔◌, ◌⊎◌, ℕ, ◌+◌, ◌-◌, ◌*◌, ◌^◌, ◌<◌, ◌≤◌, Bool, true, false, List, [], Some, Result, Ok, if◌then◌else◌, refl, sym, ap, subst, ◌∙◌, inl, inr, arith}
use Rattle.std.proofs.lemmas.Bool.{false≢true}
use Rattle.psa_logic.specs.Products.{IsCutProduct}
use Rattle.psa_logic.proofs.PartLemmas.{part-nil}
use Rattle.psa_nodes.specs.declared.node.Kind.{Kind}
use Rattle.psa_nodes.specs.declared.node.Kind.TheVariants.{Bdd, Zbdd}
use Rattle.psa_nodes.specs.declared.node.Node.{Node}
use Rattle.psa_nodes.specs.declared.node.NodeId.{NodeId}
use Rattle.psa_nodes.specs.declared.node.NodeError.{NodeError}
use Rattle.psa_nodes.specs.declared.node.Operation.TheVariants.{MinimalOfBdd, Without}
use Rattle.psa_nodes.specs.declared.node.TheConstants.{MAX_RANKS}
use Rattle.psa_nodes.specs.Cofactors.{IsCutOfCofactor}
use Rattle.psa_nodes.specs.Readings.{Reading, node_at, truth, has, joined, stands, level, first_literal}
use Rattle.psa_nodes.specs.Nodes.{AllFit, Grown}
use Rattle.psa_nodes.specs.Families.{Spares}
use Rattle.psa_nodes.specs.Table.{Table, Lacks}
use Rattle.psa_nodes.specs.Progress.{IsCall, IsResult, key_level}
use Rattle.psa_nodes.proofs.CallerLemmas.{At, at, stands-below, stands-kept, stands-weaker, stands-terminal, stands-at, stands-node, level-node, level-stands, node_at-kept, truth-kept, truth-agree, blind-stands, fixed, high-cofactor, low-cofactor, has-zero, grown-own, call-then, call-wide, tails-in, progress-lacks}
use Rattle.psa_nodes.specs.Tails.{IsMember, AreTailsOf}
use Rattle.psa_nodes.specs.Progress.{pair_level}
use Rattle.psa_nodes.specs.Making.{IsReady}
use Rattle.psa_zbdd.specs.CutSets.{cut_key}
use Rattle.psa_nodes.proofs.CallerLemmas.{stands-above}
use Rattle.psa_families.proofs.LevelLemmas.{pair-past}
use Rattle.psa_nodes.proofs.CallerLemmas.{result-kept}
use Rattle.psa_families.proofs.PositiveProductLemmas.{DependsFrom, cuts-above, cuts-within}
use Rattle.psa_families.proofs.TerminalLemmas.{has-terminal}
use Rattle.psa_zbdd.proofs.DecompositionLemmas.{cut-sides}
use Rattle.psa_zbdd.proofs.CofactorCutSetLemmas.{own-cut, side-cut}
use Rattle.psa_families.proofs.SubsetRemovalLemmas.{past-without}

-- what a call does, with its answer
abbrev pub CutCalled : {A : Type 0} → ℕ → ℕ → Table → Table → Result A NodeError → Type 0
CutCalled root most before now answer = IsCall (AreTailsOf (IsCutOfCofactor (truth before.nodes root) most)) (level before.nodes root) before now answer

-- the id is the family of the minimal cut sets within the limit
abbrev pub IsCuts : List Node → ℕ → ℕ → ℕ → Type 0
IsCuts ns root limit id = IsResult MinimalOfBdd limit ns root 0 id

-- the products of a truth that depends on the ranks past x alone stand past 2 * x
pub past-cuts : (ns : List Node) → AllFit ns → (x root limit id : ℕ) → stands Bdd (x + 1) ns root ≡ true → IsCuts ns root limit id → stands Zbdd (2 * x + 1) ns id ≡ true
past-cuts ns fit x root limit id st r =
    stands-above ns fit (2 * x) id r.stands_at (λ set m. cuts-above x (truth ns root) limit (truth-agree ns fit (x + 1) root st) set ((r.computes set).0 m))

module _ (old : Table) (root : NodeId) (limit most : ℕ) (at_most : limit ≤ most) (n : Node) (st : stands Bdd 0 old.nodes root.0 ≡ true) (there : node_at old.nodes root.0 ≡ Some n) (bound : n.var < MAX_RANKS) where
  kind : n.kind ≡ Bdd
  kind = (stands-at Bdd 0 old.nodes root.0 n st there).0

  abbrev Source : List ℕ → Type 0
  Source = IsCutOfCofactor (truth old.nodes root.0) most

  abbrev Wide : Kind → ℕ → Reading → Type 0
  Wide = AreTailsOf Source

  -- where the root stands
  pub old_level : level old.nodes root.0 ≡ 2 * n.var
  old_level = level-node old.nodes root.0 n there ∙ ap (λ k. first_literal k n.var) kind

  -- in a table that grew
  module _ (now : Table) (g : Grown old.nodes now.nodes) (fit : AllFit now.nodes) where
    its : At now.nodes root.0 n
    its = at now.nodes fit root.0 n (node_at-kept g root.0 n there)

    -- the high side stands past the variable
    pub hi_stands : stands Bdd (n.var + 1) now.nodes n.hi.0 ≡ true
    hi_stands = rw kind at its.hi

    -- and so does the low side
    pub lo_stands : stands Bdd (n.var + 1) now.nodes n.lo.0 ≡ true
    lo_stands = rw kind at its.lo

    -- so both may be operands
    pub hi_zero : stands Bdd 0 now.nodes n.hi.0 ≡ true
    hi_zero = stands-weaker Bdd (n.var + 1) 0 now.nodes n.hi.0 (omega arith) hi_stands

    -- the low one too
    pub lo_zero : stands Bdd 0 now.nodes n.lo.0 ≡ true
    lo_zero = stands-weaker Bdd (n.var + 1) 0 now.nodes n.lo.0 (omega arith) lo_stands

    reads : (s : ℕ → Bool) → truth now.nodes root.0 s ≡ (if s n.var then truth now.nodes n.hi.0 s else truth now.nodes n.lo.0 s)
    reads s = ap (λ (r : Reading). r.as_truth s) its.reads

    from : DependsFrom n.var (truth now.nodes root.0)
    from = truth-agree now.nodes fit n.var root.0 (rw kind at (stands-node now.nodes root.0 n (node_at-kept g root.0 n there)))

    from_hi : DependsFrom (n.var + 1) (truth now.nodes n.hi.0)
    from_hi = truth-agree now.nodes fit (n.var + 1) n.hi.0 hi_stands

    from_lo : DependsFrom (n.var + 1) (truth now.nodes n.lo.0)
    from_lo = truth-agree now.nodes fit (n.var + 1) n.lo.0 lo_stands

    -- their levels are past the variable
    pub past_hi : 2 * n.var + 2 ≤ level now.nodes n.hi.0
    past_hi = let l : 2 * (n.var + 1) ≤ level now.nodes n.hi.0 = level-stands Bdd (n.var + 1) now.nodes n.hi.0 (omega (arith, bound)) hi_stands in omega (arith, l)

    -- that of the low side too
    pub past_lo : 2 * n.var + 2 ≤ level now.nodes n.lo.0
    past_lo = let l : 2 * (n.var + 1) ≤ level now.nodes n.lo.0 = level-stands Bdd (n.var + 1) now.nodes n.lo.0 (omega (arith, bound)) lo_stands in omega (arith, l)

    -- the truth is the same in both tables
    back : (set : List ℕ) → IsCutOfCofactor (truth now.nodes root.0) most set → Source set
    back set =
        subst (λ (f : (ℕ → Bool) → Bool). IsCutOfCofactor (truth now.nodes root.0) most set → IsCutOfCofactor f most set)
        (λ i s. truth-kept g root.0 s (stands-below Bdd 0 old.nodes root.0 st) i)
        (λ t. t)

    low_cut : (set : List ℕ) → IsCutOfCofactor (truth now.nodes n.lo.0) most set → Source set
    low_cut set t =
        back set (side-cut n.var (truth now.nodes root.0) (truth now.nodes n.lo.0) from_lo (λ a. fixed a n.var false)
        (λ a v lt s. low-cofactor (truth now.nodes root.0) (truth now.nodes n.hi.0) (truth now.nodes n.lo.0) n.var reads a v lt (blind-stands now.nodes fit n.var n.lo.0 lo_stands) s)
        most most set (omega arith) t)

    high_cut : (set : List ℕ) → IsCutOfCofactor (truth now.nodes n.hi.0) most set → Source set
    high_cut set t =
        back set (side-cut n.var (truth now.nodes root.0) (truth now.nodes n.hi.0) from_hi (λ a. fixed a n.var true)
        (λ a v lt s. high-cofactor (truth now.nodes root.0) (truth now.nodes n.hi.0) (truth now.nodes n.lo.0) n.var reads a v lt (blind-stands now.nodes fit n.var n.hi.0 hi_stands) s)
        most most set (omega arith) t)

    low-step : {A : Type 0} (after : Table) (answer : Result A NodeError) → CutCalled n.lo.0 most now after answer → IsCall Wide (2 * n.var + 1) now after answer
    low-step after answer call =
        let le : 2 * n.var + 1 ≤ level now.nodes n.lo.0 = let p = past_lo in omega (arith, p) in
        call-wide le (λ k v r past t. tails-in Source (IsCutOfCofactor (truth now.nodes n.lo.0) most) low_cut k v r t) answer call

    high-step : {A : Type 0} (after : Table) (answer : Result A NodeError) → CutCalled n.hi.0 most now after answer → IsCall Wide (2 * n.var + 1) now after answer
    high-step after answer call =
        let le : 2 * n.var + 1 ≤ level now.nodes n.hi.0 = let p = past_hi in omega (arith, p) in
        call-wide le (λ k v r past t. tails-in Source (IsCutOfCofactor (truth now.nodes n.hi.0) most) high_cut k v r t) answer call

    -- the high side's cut sets that include none of the low side's
    less-step : {A : Type 0} (high lo : ℕ) → IsCuts now.nodes n.hi.0 (limit - 1) high → IsCuts now.nodes n.lo.0 limit lo → (after : Table) (answer : Result A NodeError) → IsCall (AreTailsOf (IsMember (has now.nodes high))) (pair_level now.nodes high lo) now after answer → IsCall Wide (2 * n.var + 1) now after answer
    less-step high lo of_high of_lo after answer call =
        let le : 2 * n.var + 1 ≤ pair_level now.nodes high lo = pair-past now.nodes (2 * n.var) high lo (omega (arith, bound))
        (past-cuts now.nodes fit n.var n.hi.0 (limit - 1) high hi_stands of_high) (past-cuts now.nodes fit n.var n.lo.0 limit lo lo_stands of_lo) in
        call-wide le
        (λ k v r past t. tails-in Source (IsMember (has now.nodes high))
        (λ set m. high_cut set (own-cut (truth now.nodes n.hi.0) most set (cuts-within (truth now.nodes n.hi.0) (limit - 1) most set (omega (arith, at_most)) ((of_high.computes set).0 m)))) k v r t)
        answer call

    its_level : key_level now.nodes (cut_key root limit) ≤ 2 * n.var
    its_level = let e : level now.nodes root.0 ≡ 2 * n.var = level-node now.nodes root.0 n (node_at-kept g root.0 n there) ∙ ap (λ k. first_literal k n.var) kind in omega (arith, e)

    key_past : 2 * n.var ≤ key_level now.nodes (cut_key root limit)
    key_past =
        let e : level now.nodes root.0 ≡ 2 * n.var = level-node now.nodes root.0 n (node_at-kept g root.0 n there) ∙ ap (λ k. first_literal k n.var) kind in
        let z : 2 ^ 32 ≤ level now.nodes 0 = level-stands Zbdd (2 ^ 32) now.nodes 0 (omega arith) (stands-terminal Zbdd (2 ^ 32) now.nodes 0 (omega arith)) in
        omega (arith, e, z, bound)

    -- the sides of the result
    module _ (hi lo : ℕ) (of_lo : IsCuts now.nodes n.lo.0 limit lo) (past : stands Zbdd (2 * n.var + 1) now.nodes hi ≡ true)
        (of_hi : (set : List ℕ) → (has now.nodes hi set ≡ true) ↔ ((1 ≤ limit) × IsCutProduct (truth now.nodes n.hi.0) (limit - 1) set × Spares (has now.nodes lo) set)) where
      its_cuts : (set : List ℕ) → (joined (2 * n.var) (has now.nodes hi) (has now.nodes lo) set ≡ true) ↔ IsCutProduct (truth now.nodes root.0) limit set
      its_cuts =
          cut-sides n.var (truth now.nodes root.0) (truth now.nodes n.hi.0) (truth now.nodes n.lo.0) reads from from_hi from_lo
          limit (has now.nodes hi) (has now.nodes lo) of_lo.computes of_hi

      -- both sides' results make a ready result
      pub its_ready : IsReady now.nodes (cut_key root limit) (2 * n.var) hi lo
      its_ready = record {
        bounded = omega (arith, bound);
        no_right = λ e. refl;
        no_limit = λ e. cc;
        left_stands = stands-kept g Bdd 0 root.0 st;
        right_stands = stands-terminal Bdd 0 now.nodes 0 (omega arith);
        of_family = refl;
        past = key_past;
        hi_stands = past;
        lo_stands = past-cuts now.nodes fit n.var n.lo.0 limit lo lo_stands of_lo;
        computes = its_cuts;
      }

      -- and the making of it is the last step
      pub last-step : {A : Type 0} (after : Table) (answer : Result A NodeError) → IsCall (AreTailsOf (IsMember (joined (2 * n.var) (has now.nodes hi) (has now.nodes lo)))) (2 * n.var) now after answer → IsCall Wide (level old.nodes root.0) now after answer
      last-step after answer call =
          let le : level old.nodes root.0 ≤ 2 * n.var = let e = old_level in omega (arith, e) in
          call-wide le
          (λ k v r p t. tails-in Source (IsMember (joined (2 * n.var) (has now.nodes hi) (has now.nodes lo)))
          (λ set m. back set (own-cut (truth now.nodes root.0) most set (cuts-within (truth now.nodes root.0) limit most set at_most ((its_cuts set).0 m)))) k v r t)
          answer call

    -- no event may be added, or the empty set is a cut set, and a part of every other
    none-high : (lo : ℕ) → (limit ≡ 0) ⊎ (lo ≡ 1) → (set : List ℕ) → (has now.nodes 0 set ≡ true) ↔ ((1 ≤ limit) × IsCutProduct (truth now.nodes n.hi.0) (limit - 1) set × Spares (has now.nodes lo) set)
    none-high lo none set = (
      λ m. absurd (false≢true (sym (has-zero now.nodes set) ∙ m)),
      λ p. elim none [
        | inl e ↦ let one = p.0 in absurd (omega (arith, one, e))
        | inr e ↦ absurd (p.2 [] (ap (λ (id : ℕ). has now.nodes id []) e ∙ has-terminal now.nodes 1 [] (omega arith)) (part-nil set))
      ],
    )

    some-high : (high lo hi : ℕ) → 1 ≤ limit → IsCuts now.nodes n.hi.0 (limit - 1) high → IsResult Without 0 now.nodes high lo hi → (set : List ℕ) → (has now.nodes hi set ≡ true) ↔ ((1 ≤ limit) × IsCutProduct (truth now.nodes n.hi.0) (limit - 1) set × Spares (has now.nodes lo) set)
    some-high high lo hi one of_high of_hi set = (
      λ m. let d = (of_hi.computes set).0 m in (one, (of_high.computes set).0 d.0, d.1),
      λ p. (of_hi.computes set).1 ((of_high.computes set).1 p.1, p.2),
    )

    past-high : (high lo hi : ℕ) → IsCuts now.nodes n.hi.0 (limit - 1) high → IsResult Without 0 now.nodes high lo hi → stands Zbdd (2 * n.var + 1) now.nodes hi ≡ true
    past-high high lo hi of_high of_hi = past-without now.nodes fit (2 * n.var) high lo hi (past-cuts now.nodes fit n.var n.hi.0 (limit - 1) high hi_stands of_high) of_hi

  exit : {A : Type 0} (now : Table) (answer : Result A NodeError) → IsCall Wide (2 * n.var + 1) old now answer → IsCall Wide (level old.nodes root.0) old now answer
  exit now answer call = let le : level old.nodes root.0 ≤ 2 * n.var + 1 = let e = old_level in omega (arith, e) in call-wide le (λ k v r past t. t) answer call

  lacks-still : {A : Type 0} (now : Table) (answer : Result A NodeError) → IsCall Wide (2 * n.var + 1) old now answer → Lacks old.entries (cut_key root limit) → Lacks now.entries (cut_key root limit)
  lacks-still now answer call lacks =
      let e = its_level now call.progress.nodes call.progress.table.fit in
      progress-lacks call.progress (cut_key root limit) lacks (omega (arith, e))

  module _ (fit : AllFit old.nodes) where
    -- an error of the first call is passed on
    pub low-exit : {A : Type 0} (one : Table) (answer : Result A NodeError) → CutCalled n.lo.0 most old one answer → IsCall Wide (level old.nodes root.0) old one answer
    low-exit one answer call = exit one answer (low-step old (grown-own old.nodes) fit one answer call)

    -- after the low side
    module _ (one : Table) (lo : NodeId) (first : CutCalled n.lo.0 most old one (Ok lo)) (of_lo : IsCuts one.nodes n.lo.0 limit lo.0) where
      first_step : IsCall Wide (2 * n.var + 1) old one (Ok lo)
      first_step = low-step old (grown-own old.nodes) fit one (Ok lo) first

      -- nothing on the high side
      module _ (none : (limit ≡ 0) ⊎ (lo.0 ≡ 1)) where
        -- the low side's cut sets alone make a ready result
        pub low-ready : IsReady one.nodes (cut_key root limit) (2 * n.var) 0 lo.0
        low-ready =
            its_ready one first.progress.nodes first.progress.table.fit 0 lo.0 of_lo (stands-terminal Zbdd (2 * n.var + 1) one.nodes 0 (omega arith)) (none-high one first.progress.nodes first.progress.table.fit lo.0 none)

        -- the first call did not remember the key
        pub low-absent : Lacks old.entries (cut_key root limit) → Lacks one.entries (cut_key root limit)
        low-absent lacks = lacks-still one (Ok lo) first_step lacks

        -- these two steps are the call
        pub low-call : {A : Type 0} (now : Table) (answer : Result A NodeError) → IsCall (AreTailsOf (IsMember (joined (2 * n.var) (has one.nodes 0) (has one.nodes lo.0)))) (2 * n.var) one now answer → IsCall Wide (level old.nodes root.0) old now answer
        low-call now answer last =
            call-then lo answer (low-exit one (Ok lo) first)
            (last-step one first.progress.nodes first.progress.table.fit 0 lo.0 of_lo (stands-terminal Zbdd (2 * n.var + 1) one.nodes 0 (omega arith)) (none-high one first.progress.nodes first.progress.table.fit lo.0 none) now answer last)

      two-steps : {A : Type 0} (two : Table) (answer : Result A NodeError) → CutCalled n.hi.0 most one two answer → IsCall Wide (2 * n.var + 1) old two answer
      two-steps two answer call = call-then lo answer first_step (high-step one first.progress.nodes first.progress.table.fit two answer call)

      -- an error of the second call is passed on
      pub high-exit : {A : Type 0} (two : Table) (answer : Result A NodeError) → CutCalled n.hi.0 most one two answer → IsCall Wide (level old.nodes root.0) old two answer
      high-exit two answer call = exit two answer (two-steps two answer call)

      -- after the high side
      module _ (two : Table) (high : NodeId) (second : CutCalled n.hi.0 most one two (Ok high)) (of_high : IsCuts two.nodes n.hi.0 (limit - 1) high.0) where
        grown_two : Grown old.nodes two.nodes
        grown_two = (two-steps two (Ok high) second).progress.nodes

        lo_two : IsCuts two.nodes n.lo.0 limit lo.0
        lo_two =
            result-kept second.progress.nodes MinimalOfBdd limit second.progress.table.fit n.lo.0 0 lo.0
            (stands-below Bdd 0 one.nodes n.lo.0 (lo_zero one first.progress.nodes first.progress.table.fit)) (omega arith) of_lo

        -- the operands of the subset removal stand
        pub less_operands : (stands Zbdd 0 two.nodes high.0 ≡ true) × (stands Zbdd 0 two.nodes lo.0 ≡ true)
        less_operands = (of_high.stands_at, lo_two.stands_at)

        three-steps : {A : Type 0} (three : Table) (answer : Result A NodeError) → IsCall (AreTailsOf (IsMember (has two.nodes high.0))) (pair_level two.nodes high.0 lo.0) two three answer → IsCall Wide (2 * n.var + 1) old three answer
        three-steps three answer call =
            call-then high answer (two-steps two (Ok high) second) (less-step two grown_two second.progress.table.fit high.0 lo.0 of_high lo_two three answer call)

        -- an error of the subset removal is passed on
        pub less-exit : {A : Type 0} (three : Table) (answer : Result A NodeError) → IsCall (AreTailsOf (IsMember (has two.nodes high.0))) (pair_level two.nodes high.0 lo.0) two three answer → IsCall Wide (level old.nodes root.0) old three answer
        less-exit three answer call = exit three answer (three-steps three answer call)

        -- after the subset removal
        module _ (three : Table) (hi : NodeId) (third : IsCall (AreTailsOf (IsMember (has two.nodes high.0))) (pair_level two.nodes high.0 lo.0) two three (Ok hi)) (of_hi : IsResult Without 0 three.nodes high.0 lo.0 hi.0) (some : 1 ≤ limit) where
          whole : Grown old.nodes three.nodes
          whole = (three-steps three (Ok hi) third).progress.nodes

          lo_now : IsCuts three.nodes n.lo.0 limit lo.0
          lo_now =
              result-kept third.progress.nodes MinimalOfBdd limit third.progress.table.fit n.lo.0 0 lo.0
              (stands-below Bdd 0 two.nodes n.lo.0 (lo_zero two grown_two second.progress.table.fit)) (omega arith) lo_two

          high_now : IsCuts three.nodes n.hi.0 (limit - 1) high.0
          high_now =
              result-kept third.progress.nodes MinimalOfBdd (limit - 1) third.progress.table.fit n.hi.0 0 high.0
              (stands-below Bdd 0 two.nodes n.hi.0 (hi_zero two grown_two second.progress.table.fit)) (omega arith) of_high

          -- the sides make a ready result
          pub ready : IsReady three.nodes (cut_key root limit) (2 * n.var) hi.0 lo.0
          ready =
              its_ready three whole third.progress.table.fit hi.0 lo.0 lo_now (past-high three whole third.progress.table.fit high.0 lo.0 hi.0 high_now of_hi)
              (some-high three whole third.progress.table.fit high.0 lo.0 hi.0 some high_now of_hi)

          -- no step remembered the key
          pub absent : Lacks old.entries (cut_key root limit) → Lacks three.entries (cut_key root limit)
          absent lacks = lacks-still three (Ok hi) (three-steps three (Ok hi) third) lacks

          -- all steps are the call
          pub whole-call : {A : Type 0} (now : Table) (answer : Result A NodeError) → IsCall (AreTailsOf (IsMember (joined (2 * n.var) (has three.nodes hi.0) (has three.nodes lo.0)))) (2 * n.var) three now answer → IsCall Wide (level old.nodes root.0) old now answer
          whole-call now answer last =
              call-then hi answer (less-exit three (Ok hi) third)
              (last-step three whole third.progress.table.fit hi.0 lo.0 lo_now (past-high three whole third.progress.table.fit high.0 lo.0 hi.0 high_now of_hi)
              (some-high three whole third.progress.table.fit high.0 lo.0 hi.0 some high_now of_hi) now answer last)
