-- The steps of the recursion of the prime implicants.
use Rattle.std.proofs.Common.{◌≡◌, ◌↔◌, ℕ, ◌+◌, ◌-◌, ◌*◌, ◌^◌, ◌<◌, ◌≤◌, ◌&&◌, Bool, true, List, Some, Result, Ok, length, if◌then◌else◌, refl, sym, ap, ap₂, subst, subst₂, ◌∙◌, arith}
use Rattle.std.proofs.lemmas.Bool.{and_parts}
use Rattle.psa_logic.specs.Products.{IsPrimeProduct}
use Rattle.psa_nodes.specs.declared.node.Kind.TheVariants.{Bdd, Zbdd}
use Rattle.psa_nodes.specs.declared.node.Node.{Node}
use Rattle.psa_nodes.specs.declared.node.NodeId.{NodeId}
use Rattle.psa_nodes.specs.declared.node.NodeError.{NodeError}
use Rattle.psa_nodes.specs.declared.node.TheConstants.{MAX_RANKS, MAX_LITERAL_NUMBERS}
use Rattle.psa_nodes.specs.declared.node.Operation.TheVariants.{And, Primes}
use Rattle.psa_nodes.specs.Readings.{Reading, node_at, truth, has, joined, stands, level, first_literal, node_reading}
use Rattle.psa_nodes.specs.Nodes.{AllFit, Grown}
use Rattle.psa_nodes.specs.Table.{Table, IsTable, MakesNode, Lacks}
use Rattle.psa_nodes.specs.Tails.{IsMember, AreTailsOf}
use Rattle.psa_nodes.specs.Progress.{pair_level, IsCall, IsResult, key_level}
use Rattle.psa_nodes.proofs.CallerLemmas.{At, at, stands-at, stands-node, stands-below, stands-kept, stands-weaker, stands-terminal, level-node, level-stands, node_at-kept, truth-kept, truth-agree, has-kept, above-stands, stands-above, own-tails, grown-own, call-then, call-wide, call-node, progress-lacks}
use Rattle.psa_bdd.specs.declared.connective.Connective.TheVariants as connectives
use Rattle.psa_bdd.specs.Combined.{IsCombining}
use Rattle.psa_bdd.specs.Combined as combined
use Rattle.psa_bdd.proofs.LevelLemmas as bdd
use Rattle.psa_bdd.proofs.SidesLemmas.{past-blind}
use Rattle.psa_nodes.specs.Making.{IsReady}
use Rattle.psa_prime.specs.Primes.{IsPrimeOrigin, IsSidePrime, AreSidePrimes, prime_key}
use Rattle.psa_prime.proofs.ImplicantLemmas.{Truth, DependsFrom, prime-above}
use Rattle.psa_prime.proofs.DecompositionLemmas.{prime-sides}
use Rattle.psa_prime.proofs.ConjunctionLemmas.{IsCofactorSide, high-cofactors, low-cofactors, both-cofactors}
use Rattle.psa_nodes.proofs.CallerLemmas.{result-kept}
use Rattle.psa_families.proofs.SidesLemmas.{joined-same}
use Rattle.psa_families.proofs.JoinedLemmas.{low-joined, joined-above}
use Rattle.psa_prime.proofs.OriginLemmas.{origin-side, origin-both, origin-tails}
use Rattle.psa_prime.proofs.SidePrimeSteps.{PrimeCalled, IsPrimes, past-primes}

-- a diagram by its node, within a limit
pub record IsDecision (old : Table) (root : NodeId) (limit : ℕ) (n : Node) : Type 0 where
  pub fit : AllFit old.nodes
  pub some : 1 ≤ limit
  pub root_stands : stands Bdd 0 old.nodes root.0 ≡ true
  pub there : node_at old.nodes root.0 ≡ Some n
  pub bound : n.var < MAX_RANKS

-- the prime implicants of a side are so in a table that grew
side-kept : {before now : List Node} → Grown before now → (side both less id : ℕ) → side < length before + 2 → both < length before + 2 → AreSidePrimes before side both less id → AreSidePrimes now side both less id
side-kept {before} {now} g side both less id sl bl a = record {
  stands_at = stands-kept g Zbdd 0 id a.stands_at;
  reads = λ set.
      subst₂ (λ (f h : Truth). (has now id set ≡ true) ↔ IsSidePrime f h less set)
      (λ i s. sym (truth-kept g side s sl) i) (λ i s. sym (truth-kept g both s bl) i) (
        λ m. (a.reads set).0 (sym (has-kept g id set (stands-below Zbdd 0 before id a.stands_at)) ∙ m),
        λ p. has-kept g id set (stands-below Zbdd 0 before id a.stands_at) ∙ (a.reads set).1 p,
      );
}

module _ (old : Table) (root : NodeId) (limit : ℕ) (n : Node) (d : IsDecision old root limit n) where
  abbrev decision : Truth
  decision = truth old.nodes root.0

  abbrev Wide : {A : Type 0} → Table → Table → Result A NodeError → Type 0
  Wide before now answer = IsCall (IsPrimeOrigin decision limit) (2 * n.var + 1) before now answer

  abbrev Whole : {A : Type 0} → Table → Table → Result A NodeError → Type 0
  Whole before now answer = IsCall (IsPrimeOrigin decision limit) (level old.nodes root.0) before now answer

  kind : n.kind ≡ Bdd
  kind = (stands-at Bdd 0 old.nodes root.0 n d.root_stands d.there).0

  -- where the root stands
  pub old_level : level old.nodes root.0 ≡ 2 * n.var
  old_level = level-node old.nodes root.0 n d.there ∙ ap (λ k. first_literal k n.var) kind

  exit : {A : Type 0} {before now : Table} (answer : Result A NodeError) → Wide before now answer → Whole before now answer
  exit answer call =
      let le : level old.nodes root.0 ≤ 2 * n.var + 1 = let e = old_level in omega (arith, e) in
      call-wide le (λ k v r past o. o) answer call

  from : DependsFrom n.var decision
  from = truth-agree old.nodes d.fit n.var root.0 (rw kind at (stands-node old.nodes root.0 n d.there))

  -- in a table that grew
  module _ (now : Table) (g : Grown old.nodes now.nodes) (fit : AllFit now.nodes) where
    its : At now.nodes root.0 n
    its = at now.nodes fit root.0 n (node_at-kept g root.0 n d.there)

    -- the high side stands past the variable
    pub hi_stands : stands Bdd (n.var + 1) now.nodes n.hi.0 ≡ true
    hi_stands = rw kind at its.hi

    -- and so does the low side
    pub lo_stands : stands Bdd (n.var + 1) now.nodes n.lo.0 ≡ true
    lo_stands = rw kind at its.lo

    -- so both may be operands
    pub hi_zero : stands Bdd 0 now.nodes n.hi.0 ≡ true
    hi_zero = stands-weaker Bdd (n.var + 1) 0 now.nodes n.hi.0 (omega arith) hi_stands

    -- the low one too
    pub lo_zero : stands Bdd 0 now.nodes n.lo.0 ≡ true
    lo_zero = stands-weaker Bdd (n.var + 1) 0 now.nodes n.lo.0 (omega arith) lo_stands

    reads : (s : ℕ → Bool) → decision s ≡ (if s n.var then truth now.nodes n.hi.0 s else truth now.nodes n.lo.0 s)
    reads s = sym (truth-kept g root.0 s (stands-below Bdd 0 old.nodes root.0 d.root_stands)) ∙ ap (λ (r : Reading). r.as_truth s) its.reads

    from_hi : DependsFrom (n.var + 1) (truth now.nodes n.hi.0)
    from_hi = truth-agree now.nodes fit (n.var + 1) n.hi.0 hi_stands

    from_lo : DependsFrom (n.var + 1) (truth now.nodes n.lo.0)
    from_lo = truth-agree now.nodes fit (n.var + 1) n.lo.0 lo_stands

    and-step : {A : Type 0} (after : Table) (answer : Result A NodeError)
        → IsCall (combined.IsCofactors connectives.And (truth now.nodes n.hi.0) (truth now.nodes n.lo.0)) (pair_level now.nodes n.hi.0 n.lo.0) now after answer → Wide now after answer
    and-step after answer call =
        let past = bdd.pair-past now.nodes n.var n.hi.0 n.lo.0 d.bound hi_stands lo_stands in
        let le : 2 * n.var + 1 ≤ pair_level now.nodes n.hi.0 n.lo.0 = omega (arith, past) in
        call-wide le
        (λ k v r later o. origin-both n.var decision (truth now.nodes n.hi.0) (truth now.nodes n.lo.0) reads from_hi from_lo limit k v r (omega (arith, past, later)) o)
        answer call

    child-step : {A : Type 0} (child less low : ℕ) → IsCofactorSide n.var decision (truth now.nodes child) → less ≤ limit → 2 * n.var + 2 ≤ low → (after : Table) (answer : Result A NodeError) → IsCall (IsPrimeOrigin (truth now.nodes child) less) low now after answer → Wide now after answer
    child-step child less low side le past after answer call =
        let below : 2 * n.var + 1 ≤ low = omega (arith, past) in
        call-wide below
        (λ k v r later o. origin-side n.var decision (truth now.nodes child) side less limit le k v r (omega (arith, past, later)) o)
        answer call

    hi-step : {A : Type 0} (after : Table) (answer : Result A NodeError) → IsCall (IsPrimeOrigin (truth now.nodes n.hi.0) (limit - 1)) (2 * n.var + 2) now after answer → Wide now after answer
    hi-step after answer call =
        child-step n.hi.0 (limit - 1) (2 * n.var + 2) (high-cofactors n.var decision (truth now.nodes n.hi.0) (truth now.nodes n.lo.0) reads from_hi from_lo) (omega arith) (omega arith) after answer call

    lo-step : {A : Type 0} (after : Table) (answer : Result A NodeError) → IsCall (IsPrimeOrigin (truth now.nodes n.lo.0) (limit - 1)) (2 * n.var + 2) now after answer → Wide now after answer
    lo-step after answer call =
        child-step n.lo.0 (limit - 1) (2 * n.var + 2) (low-cofactors n.var decision (truth now.nodes n.hi.0) (truth now.nodes n.lo.0) reads from_hi from_lo) (omega arith) (omega arith) after answer call

    now_level : level now.nodes root.0 ≡ 2 * n.var
    now_level = level-node now.nodes root.0 n (node_at-kept g root.0 n d.there) ∙ ap (λ k. first_literal k n.var) kind

    its_level : key_level now.nodes (prime_key root limit) ≤ 2 * n.var
    its_level = let e = now_level in omega (arith, e)

    key_past : 2 * n.var ≤ key_level now.nodes (prime_key root limit)
    key_past =
        let e = now_level in
        let z : 2 ^ 32 ≤ level now.nodes 0 = level-stands Zbdd (2 ^ 32) now.nodes 0 (omega arith) (stands-terminal Zbdd (2 ^ 32) now.nodes 0 (omega arith)) in
        let small = d.bound in
        omega (arith, e, z, small)

    -- with both sides together
    module _ (both : ℕ) (of_both : IsResult And 0 now.nodes n.hi.0 n.lo.0 both) where
      both_reads : (s : ℕ → Bool) → truth now.nodes both s ≡ (truth now.nodes n.hi.0 s && truth now.nodes n.lo.0 s)
      both_reads = of_both.computes

      from_both : DependsFrom (n.var + 1) (truth now.nodes both)
      from_both s t same = both_reads s ∙ ap₂ (λ (a b : Bool). a && b) (from_hi s t same) (from_lo s t same) ∙ sym (both_reads t)

      -- they stand past the variable
      pub both_stands : stands Bdd (n.var + 1) now.nodes both ≡ true
      both_stands = past-blind now.nodes fit n.var both of_both.stands_at from_both

      -- and so does their level
      pub past_both : 2 * n.var + 2 ≤ level now.nodes both
      past_both =
          let small = d.bound in
          let l : 2 * (n.var + 1) ≤ level now.nodes both = level-stands Bdd (n.var + 1) now.nodes both (omega (arith, small)) both_stands in
          omega (arith, l)

      -- what holds of both holds of the high side
      pub hi_weaker : (s : ℕ → Bool) → truth now.nodes both s ≡ true → truth now.nodes n.hi.0 s ≡ true
      hi_weaker s h = (and_parts (truth now.nodes n.hi.0 s) (truth now.nodes n.lo.0 s) (sym (both_reads s) ∙ h)).0

      -- and of the low side
      pub lo_weaker : (s : ℕ → Bool) → truth now.nodes both s ≡ true → truth now.nodes n.lo.0 s ≡ true
      lo_weaker s h = (and_parts (truth now.nodes n.hi.0 s) (truth now.nodes n.lo.0 s) (sym (both_reads s) ∙ h)).1

      rest-step : {A : Type 0} (after : Table) (answer : Result A NodeError) → PrimeCalled both limit now after answer → Wide now after answer
      rest-step after answer call =
          child-step both limit (level now.nodes both) (both-cofactors n.var decision (truth now.nodes n.hi.0) (truth now.nodes n.lo.0) reads from_hi from_lo (truth now.nodes both) both_reads from_both) (omega arith) past_both after answer call

      -- and the prime implicants of all three
      module _ (rest event opposite : ℕ) (of_rest : IsPrimes now.nodes both limit rest) (of_event : AreSidePrimes now.nodes n.hi.0 both (limit - 1) event) (of_opposite : AreSidePrimes now.nodes n.lo.0 both (limit - 1) opposite) where
        its_primes : (set : List ℕ) → (joined (2 * n.var) (has now.nodes event) (joined (2 * n.var + 1) (has now.nodes opposite) (has now.nodes rest)) set ≡ true) ↔ IsPrimeProduct decision limit set
        its_primes =
            prime-sides n.var decision (truth now.nodes n.hi.0) (truth now.nodes n.lo.0) (truth now.nodes both) reads both_reads from_hi from_lo from limit d.some
            (has now.nodes rest) (has now.nodes event) (has now.nodes opposite) of_rest.computes of_event.reads of_opposite.reads

        rest_past : stands Zbdd (2 * n.var + 1 + 1) now.nodes rest ≡ true
        rest_past = past-primes now.nodes fit n.var both limit rest both_stands of_rest

        event_past : stands Zbdd (2 * n.var + 1 + 1) now.nodes event ≡ true
        event_past = stands-above now.nodes fit (2 * n.var + 1) event of_event.stands_at (λ set m. prime-above n.var (truth now.nodes n.hi.0) from_hi set ((of_event.reads set).0 m).prime.prime)

        opposite_past : stands Zbdd (2 * n.var + 1 + 1) now.nodes opposite ≡ true
        opposite_past = stands-above now.nodes fit (2 * n.var + 1) opposite of_opposite.stands_at (λ set m. prime-above n.var (truth now.nodes n.lo.0) from_lo set ((of_opposite.reads set).0 m).prime.prime)

        -- the sets without the event are prime implicants
        past_primes : (set : List ℕ) → joined (2 * n.var + 1) (has now.nodes opposite) (has now.nodes rest) set ≡ true → IsPrimeProduct decision limit set
        past_primes set m =
            (its_primes set).0
            (low-joined (2 * n.var) (has now.nodes event) (joined (2 * n.var + 1) (has now.nodes opposite) (has now.nodes rest))
            (joined-above (2 * n.var) (2 * n.var + 1) (omega arith) (has now.nodes opposite) (has now.nodes rest)
            (above-stands now.nodes fit (2 * n.var + 1) opposite opposite_past) (above-stands now.nodes fit (2 * n.var + 1) rest rest_past))
            set m)

  -- the conjunction of both sides
  pub both-exit : {A : Type 0} (one : Table) (answer : Result A NodeError)
      → IsCall (combined.IsCofactors connectives.And (truth old.nodes n.hi.0) (truth old.nodes n.lo.0)) (pair_level old.nodes n.hi.0 n.lo.0) old one answer → Whole old one answer
  both-exit one answer call = exit answer (and-step old (grown-own old.nodes) d.fit one answer call)

  module _ (one : Table) (both : NodeId) (first : IsCombining connectives.And n.hi n.lo old one (Ok both)) (of_both : IsResult And 0 one.nodes n.hi.0 n.lo.0 both.0) where
    one_fit : AllFit one.nodes
    one_fit = first.progress.table.fit

    -- both sides together may be an operand
    pub one_stands : stands Bdd 0 one.nodes both.0 ≡ true
    one_stands = of_both.stands_at

    -- past the variable
    pub one_past : 2 * n.var + 2 ≤ level one.nodes both.0
    one_past = past_both one first.progress.nodes one_fit both.0 of_both

    two-steps : {A : Type 0} (two : Table) (answer : Result A NodeError) → PrimeCalled both.0 limit one two answer → Wide old two answer
    two-steps two answer call =
        call-then both answer (and-step old (grown-own old.nodes) d.fit one (Ok both) first) (rest-step one first.progress.nodes one_fit both.0 of_both two answer call)

    -- an error of the second call is passed on
    pub rest-exit : {A : Type 0} (two : Table) (answer : Result A NodeError) → PrimeCalled both.0 limit one two answer → Whole old two answer
    rest-exit two answer call = exit answer (two-steps two answer call)

    -- after the prime implicants of both sides
    module _ (two : Table) (rest : NodeId) (second : PrimeCalled both.0 limit one two (Ok rest)) (of_rest : IsPrimes two.nodes both.0 limit rest.0) where
      two_fit : AllFit two.nodes
      two_fit = second.progress.table.fit

      two_grown : Grown old.nodes two.nodes
      two_grown = (two-steps two (Ok rest) second).progress.nodes

      two_both : IsResult And 0 two.nodes n.hi.0 n.lo.0 both.0
      two_both =
          result-kept second.progress.nodes And 0 two_fit n.hi.0 n.lo.0 both.0
          (stands-below Bdd 0 one.nodes n.hi.0 (hi_zero one first.progress.nodes one_fit)) (stands-below Bdd 0 one.nodes n.lo.0 (lo_zero one first.progress.nodes one_fit)) of_both

      -- the sides of the third call
      pub event_sides : (stands Bdd (n.var + 1) two.nodes n.hi.0 ≡ true) × (stands Bdd (n.var + 1) two.nodes both.0 ≡ true) × ((s : ℕ → Bool) → truth two.nodes both.0 s ≡ true → truth two.nodes n.hi.0 s ≡ true)
      event_sides = (hi_stands two two_grown two_fit, both_stands two two_grown two_fit both.0 two_both, hi_weaker two two_grown two_fit both.0 two_both)

      three-steps : {A : Type 0} (three : Table) (answer : Result A NodeError) → IsCall (IsPrimeOrigin (truth two.nodes n.hi.0) (limit - 1)) (2 * n.var + 2) two three answer → Wide old three answer
      three-steps three answer call = call-then rest answer (two-steps two (Ok rest) second) (hi-step two two_grown two_fit three answer call)

      -- its error is passed on
      pub event-exit : {A : Type 0} (three : Table) (answer : Result A NodeError) → IsCall (IsPrimeOrigin (truth two.nodes n.hi.0) (limit - 1)) (2 * n.var + 2) two three answer → Whole old three answer
      event-exit three answer call = exit answer (three-steps three answer call)

      -- after those with the event
      module _ (three : Table) (event : NodeId) (third : IsCall (IsPrimeOrigin (truth two.nodes n.hi.0) (limit - 1)) (2 * n.var + 2) two three (Ok event)) (of_event : AreSidePrimes three.nodes n.hi.0 both.0 (limit - 1) event.0) where
        three_fit : AllFit three.nodes
        three_fit = third.progress.table.fit

        three_grown : Grown old.nodes three.nodes
        three_grown = (three-steps three (Ok event) third).progress.nodes

        three_both : IsResult And 0 three.nodes n.hi.0 n.lo.0 both.0
        three_both =
            result-kept third.progress.nodes And 0 three_fit n.hi.0 n.lo.0 both.0
            (stands-below Bdd 0 two.nodes n.hi.0 (hi_zero two two_grown two_fit)) (stands-below Bdd 0 two.nodes n.lo.0 (lo_zero two two_grown two_fit)) two_both

        -- the prime implicants of both sides stay so
        pub three_rest : IsPrimes three.nodes both.0 limit rest.0
        three_rest =
            result-kept third.progress.nodes Primes limit three_fit both.0 0 rest.0 (stands-below Bdd 0 two.nodes both.0 two_both.stands_at) (omega arith) of_rest

        -- the sides of the fourth call
        pub opposite_sides : (stands Bdd (n.var + 1) three.nodes n.lo.0 ≡ true) × (stands Bdd (n.var + 1) three.nodes both.0 ≡ true) × ((s : ℕ → Bool) → truth three.nodes both.0 s ≡ true → truth three.nodes n.lo.0 s ≡ true)
        opposite_sides = (lo_stands three three_grown three_fit, both_stands three three_grown three_fit both.0 three_both, lo_weaker three three_grown three_fit both.0 three_both)

        four-steps : {A : Type 0} (four : Table) (answer : Result A NodeError) → IsCall (IsPrimeOrigin (truth three.nodes n.lo.0) (limit - 1)) (2 * n.var + 2) three four answer → Wide old four answer
        four-steps four answer call = call-then event answer (three-steps three (Ok event) third) (lo-step three three_grown three_fit four answer call)

        -- its error is passed on
        pub opposite-exit : {A : Type 0} (four : Table) (answer : Result A NodeError) → IsCall (IsPrimeOrigin (truth three.nodes n.lo.0) (limit - 1)) (2 * n.var + 2) three four answer → Whole old four answer
        opposite-exit four answer call = exit answer (four-steps four answer call)

        -- after those with the opposite
        module _ (four : Table) (opposite : NodeId) (fourth : IsCall (IsPrimeOrigin (truth three.nodes n.lo.0) (limit - 1)) (2 * n.var + 2) three four (Ok opposite)) (of_opposite : AreSidePrimes four.nodes n.lo.0 both.0 (limit - 1) opposite.0) where
          four_fit : AllFit four.nodes
          four_fit = fourth.progress.table.fit

          four_grown : Grown old.nodes four.nodes
          four_grown = (four-steps four (Ok opposite) fourth).progress.nodes

          below_three : (id : ℕ) → stands Bdd (n.var + 1) three.nodes id ≡ true → id < length three.nodes + 2
          below_three id s = stands-below Bdd (n.var + 1) three.nodes id s

          four_both : IsResult And 0 four.nodes n.hi.0 n.lo.0 both.0
          four_both =
              result-kept fourth.progress.nodes And 0 four_fit n.hi.0 n.lo.0 both.0
              (below_three n.hi.0 (hi_stands three three_grown three_fit)) (below_three n.lo.0 opposite_sides.0) three_both

          four_rest : IsPrimes four.nodes both.0 limit rest.0
          four_rest = result-kept fourth.progress.nodes Primes limit four_fit both.0 0 rest.0 (below_three both.0 opposite_sides.1) (omega arith) three_rest

          four_event : AreSidePrimes four.nodes n.hi.0 both.0 (limit - 1) event.0
          four_event = side-kept fourth.progress.nodes n.hi.0 both.0 (limit - 1) event.0 (below_three n.hi.0 (hi_stands three three_grown three_fit)) (below_three both.0 opposite_sides.1) of_event

          -- the families without the event stand past its literals
          pub past_sides : (stands Zbdd (2 * n.var + 1 + 1) four.nodes opposite.0 ≡ true) × (stands Zbdd (2 * n.var + 1 + 1) four.nodes rest.0 ≡ true)
          past_sides = (
            opposite_past four four_grown four_fit both.0 four_both rest.0 event.0 opposite.0 four_rest four_event of_opposite,
            rest_past four four_grown four_fit both.0 four_both rest.0 event.0 opposite.0 four_rest four_event of_opposite,
          )

          four_primes : (set : List ℕ) → (joined (2 * n.var) (has four.nodes event.0) (joined (2 * n.var + 1) (has four.nodes opposite.0) (has four.nodes rest.0)) set ≡ true) ↔ IsPrimeProduct decision limit set
          four_primes = its_primes four four_grown four_fit both.0 four_both rest.0 event.0 opposite.0 four_rest four_event of_opposite

          abbrev triple : Node
          triple = record { kind = Zbdd; var = 2 * n.var + 1; hi = opposite; lo = rest }

          -- the family without the event
          past-step : (five : Table) (answer : Result NodeId NodeError) → IsTable five → MakesNode triple four five answer → Wide four five answer
          past-step five answer good made =
              call-node triple four fourth.progress.table
              (record {
                past = omega arith;
                origin =
                    origin-tails decision limit (joined (2 * n.var + 1) (has four.nodes opposite.0) (has four.nodes rest.0))
                    (past_primes four four_grown four_fit both.0 four_both rest.0 event.0 opposite.0 four_rest four_event of_opposite)
                    Zbdd (2 * n.var + 1) (node_reading four.nodes triple)
                    (own-tails four.nodes four_fit (2 * n.var + 1) opposite.0 rest.0 past_sides.1 (node_reading four.nodes triple) (λ set. refl));
              })
              (λ b. small) five answer good made
            where
              small : 2 * n.var + 1 < MAX_LITERAL_NUMBERS
              small = let b = d.bound in omega (arith, b)

          five-steps : (five : Table) (answer : Result NodeId NodeError) → IsTable five → MakesNode triple four five answer → Wide old five answer
          five-steps five answer good made = call-then opposite answer (four-steps four (Ok opposite) fourth) (past-step five answer good made)

          -- its error is passed on
          pub past-exit : (five : Table) (answer : Result NodeId NodeError) → IsTable five → MakesNode triple four five answer → Whole old five answer
          past-exit five answer good made = exit answer (five-steps five answer good made)

          -- after it was made
          module _ (five : Table) (past : NodeId) (good : IsTable five) (made : MakesNode triple four five (Ok past)) where
            five_grown : Grown old.nodes five.nodes
            five_grown = (five-steps five (Ok past) good made).progress.nodes

            last_grown : Grown four.nodes five.nodes
            last_grown = (past-step five (Ok past) good made).progress.nodes

            same : (set : List ℕ) → joined (2 * n.var) (has five.nodes event.0) (has five.nodes past.0) set ≡ joined (2 * n.var) (has four.nodes event.0) (joined (2 * n.var + 1) (has four.nodes opposite.0) (has four.nodes rest.0)) set
            same =
                joined-same (2 * n.var) (has five.nodes event.0) (has four.nodes event.0) (has five.nodes past.0) (joined (2 * n.var + 1) (has four.nodes opposite.0) (has four.nodes rest.0))
                (λ s. has-kept last_grown event.0 s (stands-below Zbdd 0 four.nodes event.0 four_event.stands_at)) made.reads

            five_primes : (set : List ℕ) → (joined (2 * n.var) (has five.nodes event.0) (has five.nodes past.0) set ≡ true) ↔ IsPrimeProduct decision limit set
            five_primes set = (λ m. (four_primes set).0 (sym (same set) ∙ m), λ p. same set ∙ (four_primes set).1 p)

            now_primes : (set : List ℕ) → (joined (2 * n.var) (has five.nodes event.0) (has five.nodes past.0) set ≡ true) ↔ IsPrimeProduct (truth five.nodes root.0) limit set
            now_primes set =
                subst (λ (f : Truth). (joined (2 * n.var) (has five.nodes event.0) (has five.nodes past.0) set ≡ true) ↔ IsPrimeProduct f limit set)
                (λ i s. sym (truth-kept five_grown root.0 s (stands-below Bdd 0 old.nodes root.0 d.root_stands)) i) (five_primes set)

            -- the results make a ready result
            pub ready : IsReady five.nodes (prime_key root limit) (2 * n.var) event.0 past.0
            ready = record {
              bounded = let b = d.bound in omega (arith, b);
              no_right = λ e. refl;
              no_limit = λ e. cc;
              left_stands = stands-kept five_grown Bdd 0 root.0 d.root_stands;
              right_stands = stands-terminal Bdd 0 five.nodes 0 (omega arith);
              of_family = refl;
              past = key_past five five_grown good.fit;
              hi_stands =
                  stands-weaker Zbdd (2 * n.var + 1 + 1) (2 * n.var + 1) five.nodes event.0 (omega arith)
                  (stands-kept last_grown Zbdd (2 * n.var + 1 + 1) event.0
                  (event_past four four_grown four_fit both.0 four_both rest.0 event.0 opposite.0 four_rest four_event of_opposite));
              lo_stands = made.stands_at;
              computes = now_primes;
            }

            -- no step remembered the key
            pub absent : Lacks old.entries (prime_key root limit) → Lacks five.entries (prime_key root limit)
            absent lacks =
                let e = its_level five five_grown good.fit in
                progress-lacks (five-steps five (Ok past) good made).progress (prime_key root limit) lacks (omega (arith, e))

            -- all steps are the call
            pub whole-call : {A : Type 0} (now : Table) (answer : Result A NodeError) → IsCall (AreTailsOf (IsMember (joined (2 * n.var) (has five.nodes event.0) (has five.nodes past.0)))) (2 * n.var) five now answer → Whole old now answer
            whole-call now answer last =
                let le : level old.nodes root.0 ≤ 2 * n.var = let e = old_level in omega (arith, e) in
                call-then past answer (past-exit five (Ok past) good made)
                (call-wide le
                (λ k v r later t. origin-tails decision limit (joined (2 * n.var) (has five.nodes event.0) (has five.nodes past.0)) (λ set m. (five_primes set).0 m) k v r t)
                answer last)
