-- The steps of the recursion of the members of few literals.
use Rattle.std.proofs.Common.{◌≡◌, ◌↔◌, ℕ, ◌+◌, ◌-◌, ◌^◌, ◌<◌, ◌≤◌, Bool, true, List, ◌∷◌, Some, length, Result, Ok, refl, sym, ap, subst, ◌∙◌, inl, inr, arith}
use Rattle.std.proofs.lemmas.Bool.{false≢true}
use Rattle.psa_nodes.specs.declared.node.Kind.TheVariants.{Zbdd}
use Rattle.psa_nodes.specs.declared.node.Node.{Node}
use Rattle.psa_nodes.specs.declared.node.TheConstants.{MAX_LITERAL_NUMBERS}
use Rattle.psa_nodes.specs.declared.node.TheConstants.NodeId.{UNIT}
use Rattle.psa_nodes.specs.declared.node.NodeId.{NodeId}
use Rattle.psa_nodes.specs.declared.node.NodeError.{NodeError}
use Rattle.psa_nodes.specs.declared.node.MemoKey.{MemoKey}
use Rattle.psa_nodes.specs.declared.node.Operation.TheVariants.{Product}
use Rattle.psa_nodes.specs.Readings.{node_at, has, joined, stands, level, first_literal}
use Rattle.psa_nodes.specs.Nodes.{AllFit, Grown}
use Rattle.psa_nodes.specs.Table.{Table, Lacks}
use Rattle.psa_nodes.specs.Progress.{IsCall, IsResult, key_level}
use Rattle.psa_nodes.proofs.CallerLemmas.{stands-at, stands-below, stands-kept, stands-weaker, stands-terminal, level-node, level-stands, level-kept, node_at-kept, has-kept, has-zero, grown-own, call-then, progress-lacks}
use Rattle.psa_nodes.specs.Tails.{IsMember, AreTailsOf}
use Rattle.psa_families.specs.Sides.{IsSplit}
use Rattle.psa_nodes.specs.Making.{IsReady}
use Rattle.psa_families.specs.Operands.{ArePositive}
use Rattle.psa_families.proofs.SidesLemmas.{split-own, low-member, high-member}
use Rattle.psa_nodes.proofs.CallerLemmas.{side-call, exit-call, last-call}
use Rattle.psa_nodes.proofs.CallerLemmas.{result-kept}
use Rattle.psa_families.proofs.ShortMemberLemmas.{AreShort, tail-positive, product-short, short-product, short-sides, past-short}

-- what they are remembered by
abbrev pub short_key : NodeId → ℕ → MemoKey
short_key family limit = record { operation = Product; left = family; right = UNIT; limit = limit }

-- what a call does, with its answer
abbrev pub ShortCalled : {A : Type 0} → ℕ → Table → Table → Result A NodeError → Type 0
ShortCalled family before now answer = IsCall (AreTailsOf (IsMember (has before.nodes family))) (level before.nodes family) before now answer

-- the id is the family of the members within the limit
abbrev pub IsShort : List Node → ℕ → ℕ → ℕ → Type 0
IsShort ns family limit id = IsResult Product limit ns family 1 id

module _ (old : Table) (family : NodeId) (limit : ℕ) (n : Node) (st : stands Zbdd 0 old.nodes family.0 ≡ true) (there : node_at old.nodes family.0 ≡ Some n) (bound : n.var < MAX_LITERAL_NUMBERS) (positive : ArePositive (has old.nodes family.0)) where
  abbrev source : List ℕ → Bool
  source = has old.nodes family.0

  abbrev low : ℕ
  low = level old.nodes family.0

  kind : n.kind ≡ Zbdd
  kind = (stands-at Zbdd 0 old.nodes family.0 n st there).0

  -- where the family stands
  pub old_level : n.var ≡ level old.nodes family.0
  old_level = sym (level-node old.nodes family.0 n there ∙ ap (λ k. first_literal k n.var) kind)

  low_least : low ≤ n.var
  low_least = let e = old_level in omega (arith, e)

  -- in a table that grew
  module _ (now : Table) (g : Grown old.nodes now.nodes) (fit : AllFit now.nodes) where
    sides : IsSplit now.nodes n.var family.0 n.hi.0 n.lo.0
    sides = split-own now.nodes family.0 n fit (node_at-kept g family.0 n there) kind

    back : (set : List ℕ) → has now.nodes family.0 set ≡ true → source set ≡ true
    back set m = sym (has-kept g family.0 set (stands-below Zbdd 0 old.nodes family.0 st)) ∙ m

    in-high : (set : List ℕ) → has now.nodes n.hi.0 set ≡ true → source (n.var ∷ set) ≡ true
    in-high set m = back (n.var ∷ set) (high-member now.nodes n.var family.0 n.hi.0 n.lo.0 sides set m)

    in-low : (set : List ℕ) → has now.nodes n.lo.0 set ≡ true → source set ≡ true
    in-low set m = back set (low-member now.nodes fit n.var family.0 n.hi.0 n.lo.0 sides set m)

    -- the high side's level is past the variable
    pub past_hi : n.var + 1 ≤ level now.nodes n.hi.0
    past_hi = level-stands Zbdd (n.var + 1) now.nodes n.hi.0 (omega (arith, bound)) sides.hi_stands

    -- and the low side's
    pub past_lo : n.var + 1 ≤ level now.nodes n.lo.0
    past_lo = level-stands Zbdd (n.var + 1) now.nodes n.lo.0 (omega (arith, bound)) sides.lo_stands

    -- both may be operands
    pub hi_zero : stands Zbdd 0 now.nodes n.hi.0 ≡ true
    hi_zero = stands-weaker Zbdd (n.var + 1) 0 now.nodes n.hi.0 (omega arith) sides.hi_stands

    -- the low one too
    pub lo_zero : stands Zbdd 0 now.nodes n.lo.0 ≡ true
    lo_zero = stands-weaker Zbdd (n.var + 1) 0 now.nodes n.lo.0 (omega arith) sides.lo_stands

    -- the high side is of events that occur
    pub hi_positive : ArePositive (has now.nodes n.hi.0)
    hi_positive set m = let p = positive (n.var ∷ set) (in-high set m) in tail-positive n.var set p.0 p.1

    -- and so is the low side
    pub lo_positive : ArePositive (has now.nodes n.lo.0)
    lo_positive set m = positive set (in-low set m)

    low-step : {A : Type 0} (after : Table) (answer : Result A NodeError) → ShortCalled n.lo.0 now after answer → IsCall (AreTailsOf (IsMember source)) (n.var + 1) now after answer
    low-step after answer call = side-call (IsMember source) n.var low low_least (IsMember (has now.nodes n.lo.0)) (level now.nodes n.lo.0) (λ set m. inl (in-low set m)) past_lo answer call

    high-step : {A : Type 0} (after : Table) (answer : Result A NodeError) → ShortCalled n.hi.0 now after answer → IsCall (AreTailsOf (IsMember source)) (n.var + 1) now after answer
    high-step after answer call = side-call (IsMember source) n.var low low_least (IsMember (has now.nodes n.hi.0)) (level now.nodes n.hi.0) (λ set m. inr (in-high set m)) past_hi answer call

    kept_level : level now.nodes family.0 ≡ n.var
    kept_level = level-kept g family.0 (stands-below Zbdd 0 old.nodes family.0 st) ∙ sym old_level

    its_level : key_level now.nodes (short_key family limit) ≤ n.var
    its_level = let e = kept_level in omega (arith, e)

    key_past : n.var ≤ key_level now.nodes (short_key family limit)
    key_past =
        let e = kept_level in
        let z : 2 ^ 32 ≤ level now.nodes 1 = level-stands Zbdd (2 ^ 32) now.nodes 1 (omega arith) (stands-terminal Zbdd (2 ^ 32) now.nodes 1 (omega arith)) in
        omega (arith, e, z, bound)

    -- the sides of the result
    module _ (hi lo : ℕ) (of_lo : IsShort now.nodes n.lo.0 limit lo) (past : stands Zbdd (n.var + 1) now.nodes hi ≡ true)
        (of_hi : (set : List ℕ) → (has now.nodes hi set ≡ true) ↔ ((1 ≤ limit) × (has now.nodes n.hi.0 set ≡ true) × (length set ≤ limit - 1))) where
      low_short : AreShort (has now.nodes n.lo.0) limit (has now.nodes lo)
      low_short = product-short now.nodes fit n.lo.0 limit lo_zero lo_positive (has now.nodes lo) of_lo.computes

      its_short : AreShort (has now.nodes family.0) limit (joined n.var (has now.nodes hi) (has now.nodes lo))
      its_short =
          subst (λ (f : List ℕ → Bool). AreShort f limit (joined n.var (has now.nodes hi) (has now.nodes lo))) (λ i set. sym (sides.reads set) i)
          (short-sides n.var limit (has now.nodes n.hi.0) (has now.nodes n.lo.0) (has now.nodes hi) (has now.nodes lo) of_hi low_short)

      -- both sides' results make a ready result
      pub its_ready : IsReady now.nodes (short_key family limit) n.var hi lo
      its_ready = record {
        bounded = bound;
        no_right = λ e. cc;
        no_limit = λ e. cc;
        left_stands = stands-kept g Zbdd 0 family.0 st;
        right_stands = stands-terminal Zbdd 0 now.nodes 1 (omega arith);
        of_family = refl;
        past = key_past;
        hi_stands = past;
        lo_stands = past-short now.nodes fit n.var n.lo.0 limit lo sides.lo_stands of_lo.stands_at low_short;
        computes = short-product now.nodes fit family.0 limit (stands-kept g Zbdd 0 family.0 st) (λ set m. positive set (back set m)) (joined n.var (has now.nodes hi) (has now.nodes lo)) its_short;
      }

      -- and the making of it is the last step
      pub last-step : {A : Type 0} (after : Table) (answer : Result A NodeError) → IsCall (AreTailsOf (IsMember (joined n.var (has now.nodes hi) (has now.nodes lo)))) n.var now after answer → IsCall (AreTailsOf (IsMember source)) low now after answer
      last-step after answer call = last-call (IsMember source) n.var low low_least (IsMember (joined n.var (has now.nodes hi) (has now.nodes lo))) (λ set m. back set ((its_short set).0 m).0) answer call

    zero-high : limit ≡ 0 → (set : List ℕ) → (has now.nodes 0 set ≡ true) ↔ ((1 ≤ limit) × (has now.nodes n.hi.0 set ≡ true) × (length set ≤ limit - 1))
    zero-high e set = (λ m. absurd (false≢true (sym (has-zero now.nodes set) ∙ m)), λ p. let one = p.0 in absurd (omega (arith, one, e)))

    zero_past : stands Zbdd (n.var + 1) now.nodes 0 ≡ true
    zero_past = stands-terminal Zbdd (n.var + 1) now.nodes 0 (omega arith)

    module _ (hi : ℕ) (of_hi : IsShort now.nodes n.hi.0 (limit - 1) hi) where
      high_short : AreShort (has now.nodes n.hi.0) (limit - 1) (has now.nodes hi)
      high_short = product-short now.nodes fit n.hi.0 (limit - 1) hi_zero hi_positive (has now.nodes hi) of_hi.computes

      some-high : 1 ≤ limit → (set : List ℕ) → (has now.nodes hi set ≡ true) ↔ ((1 ≤ limit) × (has now.nodes n.hi.0 set ≡ true) × (length set ≤ limit - 1))
      some-high one set = (λ m. let p = (high_short set).0 m in (one, p.0, p.1), λ p. (high_short set).1 (p.1, p.2))

      past-high : stands Zbdd (n.var + 1) now.nodes hi ≡ true
      past-high = past-short now.nodes fit n.var n.hi.0 (limit - 1) hi sides.hi_stands of_hi.stands_at high_short

  lacks-still : {A : Type 0} (now : Table) (answer : Result A NodeError) → IsCall (AreTailsOf (IsMember source)) (n.var + 1) old now answer → Lacks old.entries (short_key family limit) → Lacks now.entries (short_key family limit)
  lacks-still now answer call lacks =
      let e = its_level now call.progress.nodes call.progress.table.fit in
      progress-lacks call.progress (short_key family limit) lacks (omega (arith, e))

  module _ (fit : AllFit old.nodes) where
    first-step : {A : Type 0} (one : Table) (answer : Result A NodeError) → ShortCalled n.lo.0 old one answer → IsCall (AreTailsOf (IsMember source)) (n.var + 1) old one answer
    first-step one answer call = low-step old (grown-own old.nodes) fit one answer call

    -- an error of the first call is passed on
    pub low-exit : {A : Type 0} (one : Table) (answer : Result A NodeError) → ShortCalled n.lo.0 old one answer → IsCall (AreTailsOf (IsMember source)) low old one answer
    low-exit one answer call = exit-call (IsMember source) n.var low low_least answer (first-step one answer call)

    -- after the low side
    module _ (one : Table) (lo : NodeId) (first : ShortCalled n.lo.0 old one (Ok lo)) (of_lo : IsShort one.nodes n.lo.0 limit lo.0) where
      -- no literal more is allowed
      module _ (none : limit ≡ 0) where
        -- the low side's members alone make a ready result
        pub low-ready : IsReady one.nodes (short_key family limit) n.var 0 lo.0
        low-ready =
            let g = first.progress.nodes in
            let f = first.progress.table.fit in
            its_ready one g f 0 lo.0 of_lo (zero_past one g f) (zero-high one g f none)

        -- these two steps are the call
        pub low-call : {A : Type 0} (now : Table) (answer : Result A NodeError) → IsCall (AreTailsOf (IsMember (joined n.var (has one.nodes 0) (has one.nodes lo.0)))) n.var one now answer → IsCall (AreTailsOf (IsMember source)) low old now answer
        low-call now answer last =
            let g = first.progress.nodes in
            let f = first.progress.table.fit in
            call-then lo answer (low-exit one (Ok lo) first) (last-step one g f 0 lo.0 of_lo (zero_past one g f) (zero-high one g f none) now answer last)

      -- the first call did not remember the key
      pub low-absent : Lacks old.entries (short_key family limit) → Lacks one.entries (short_key family limit)
      low-absent lacks = lacks-still one (Ok lo) (first-step one (Ok lo) first) lacks

      two-steps : {A : Type 0} (two : Table) (answer : Result A NodeError) → ShortCalled n.hi.0 one two answer → IsCall (AreTailsOf (IsMember source)) (n.var + 1) old two answer
      two-steps two answer call = call-then lo answer (first-step one (Ok lo) first) (high-step one first.progress.nodes first.progress.table.fit two answer call)

      -- an error of the second call is passed on
      pub high-exit : {A : Type 0} (two : Table) (answer : Result A NodeError) → ShortCalled n.hi.0 one two answer → IsCall (AreTailsOf (IsMember source)) low old two answer
      high-exit two answer call = exit-call (IsMember source) n.var low low_least answer (two-steps two answer call)

      -- after the high side
      module _ (two : Table) (hi : NodeId) (second : ShortCalled n.hi.0 one two (Ok hi)) (of_hi : IsShort two.nodes n.hi.0 (limit - 1) hi.0) (some : 1 ≤ limit) where
        whole : Grown old.nodes two.nodes
        whole = (two-steps two (Ok hi) second).progress.nodes

        lo_now : IsShort two.nodes n.lo.0 limit lo.0
        lo_now =
            result-kept second.progress.nodes Product limit second.progress.table.fit n.lo.0 1 lo.0
            (stands-below Zbdd 0 one.nodes n.lo.0 (lo_zero one first.progress.nodes first.progress.table.fit)) (omega arith) of_lo

        -- both sides make a ready result
        pub ready : IsReady two.nodes (short_key family limit) n.var hi.0 lo.0
        ready =
            let f = second.progress.table.fit in
            its_ready two whole f hi.0 lo.0 lo_now (past-high two whole f hi.0 of_hi) (some-high two whole f hi.0 of_hi some)

        -- no step remembered the key
        pub absent : Lacks old.entries (short_key family limit) → Lacks two.entries (short_key family limit)
        absent lacks = lacks-still two (Ok hi) (two-steps two (Ok hi) second) lacks

        -- all steps are the call
        pub whole-call : {A : Type 0} (now : Table) (answer : Result A NodeError) → IsCall (AreTailsOf (IsMember (joined n.var (has two.nodes hi.0) (has two.nodes lo.0)))) n.var two now answer → IsCall (AreTailsOf (IsMember source)) low old now answer
        whole-call now answer last =
            let f = second.progress.table.fit in
            call-then hi answer (high-exit two (Ok hi) second)
            (last-step two whole f hi.0 lo.0 lo_now (past-high two whole f hi.0 of_hi) (some-high two whole f hi.0 of_hi some) now answer last)
