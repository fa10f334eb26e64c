-- The steps of the recursion of the minimal sets.
use Rattle.std.proofs.Common.{◌≡◌, ◌↔◌, ℕ, ◌+◌, ◌<◌, ◌≤◌, Bool, true, List, ◌∷◌, Some, Result, Ok, refl, sym, subst, ◌∙◌, inl, inr, arith}
use Rattle.psa_nodes.specs.declared.node.Kind.TheVariants.{Zbdd}
use Rattle.psa_nodes.specs.declared.node.Node.{Node}
use Rattle.psa_nodes.specs.declared.node.NodeId.{NodeId}
use Rattle.psa_nodes.specs.declared.node.NodeError.{NodeError}
use Rattle.psa_nodes.specs.declared.node.Operation.TheVariants.{MinimalSets, Without}
use Rattle.psa_nodes.specs.declared.node.TheConstants.{MAX_LITERAL_NUMBERS}
use Rattle.psa_nodes.specs.Families.{IsMinimalMember}
use Rattle.psa_nodes.specs.Readings.{node_at, has, joined, stands, level}
use Rattle.psa_nodes.specs.Nodes.{AllFit, Grown}
use Rattle.psa_nodes.specs.Table.{Table, Lacks}
use Rattle.psa_nodes.specs.Progress.{IsCall, IsResult}
use Rattle.psa_nodes.specs.Tails.{IsMember, AreTailsOf}
use Rattle.psa_nodes.proofs.CallerLemmas.{stands-below, stands-kept, stands-terminal, above-stands, stands-above, grown-own, grown-then, call-then, progress-lacks, side-call, exit-call, last-call}
use Rattle.psa_nodes.specs.Progress.{pair_level}
use Rattle.psa_nodes.specs.Making.{IsReady}
use Rattle.psa_families.proofs.LevelLemmas.{pair-past}
use Rattle.psa_nodes.proofs.CallerLemmas.{is_result, result-kept}
use Rattle.psa_families.proofs.SubsetRemovalLemmas.{past-without}
use Rattle.psa_families.proofs.TerminalLemmas.{terminal-empty}
use Rattle.psa_families.proofs.MinimalMemberLemmas.{minimal-sides}
use Rattle.psa_families.proofs.NodeSidesLemmas.{family_key, low_least, sides, back, in-high, in-low, past_hi, past_lo, hi_zero, lo_zero, its_level, key_past}

-- what a call does, with its answer
abbrev pub MinimalCalled : {A : Type 0} → ℕ → Table → Table → Result A NodeError → Type 0
MinimalCalled root before now answer = IsCall (AreTailsOf (IsMember (has before.nodes root))) (level before.nodes root) before now answer

-- the id is the family of the minimal sets of another
abbrev pub AreMinimal : List Node → ℕ → ℕ → Type 0
AreMinimal ns root id = IsResult MinimalSets 0 ns root 0 id

-- minimal sets stand where their family does
pub past-minimal : (ns : List Node) → AllFit ns → (x root id : ℕ) → stands Zbdd (x + 1) ns root ≡ true → AreMinimal ns root id → stands Zbdd (x + 1) ns id ≡ true
past-minimal ns fit x root id st r = stands-above ns fit x id r.stands_at (λ set m. above-stands ns fit x root st set ((r.computes set).0 m).member)

-- a terminal is its own minimal sets
pub terminal-minimal : (ns : List Node) → AllFit ns → (root : ℕ) → root < 2 → AreMinimal ns root root
terminal-minimal ns fit root lt =
    is_result MinimalSets 0 ns root 0 root fit (stands-terminal Zbdd 0 ns root lt)
    (λ set. (
      λ m. record { member = m; least = λ part k p. terminal-empty ns root lt part k ∙ sym (terminal-empty ns root lt set m) },
      λ c. c.member,
    ))

module _ (old : Table) (root : NodeId) (n : Node) (st : stands Zbdd 0 old.nodes root.0 ≡ true) (there : node_at old.nodes root.0 ≡ Some n) (bound : n.var < MAX_LITERAL_NUMBERS) where
  abbrev Source : List ℕ → Type 0
  Source = IsMember (has old.nodes root.0)

  abbrev low : ℕ
  low = level old.nodes root.0

  least : low ≤ n.var
  least = low_least old root n st there bound

  -- in a table that grew
  module _ (now : Table) (g : Grown old.nodes now.nodes) (fit : AllFit now.nodes) where
    low-step : {A : Type 0} (after : Table) (answer : Result A NodeError) → MinimalCalled n.lo.0 now after answer → IsCall (AreTailsOf Source) (n.var + 1) now after answer
    low-step after answer call =
        side-call Source n.var low least (IsMember (has now.nodes n.lo.0)) (level now.nodes n.lo.0)
        (λ set m. inl (in-low old root n st there bound now g fit set m)) (past_lo old root n st there bound now g fit) answer call

    high_side : (set : List ℕ) → has now.nodes n.hi.0 set ≡ true → Source (n.var ∷ set)
    high_side set m = in-high old root n st there bound now g fit set m

    high-step : {A : Type 0} (after : Table) (answer : Result A NodeError) → MinimalCalled n.hi.0 now after answer → IsCall (AreTailsOf Source) (n.var + 1) now after answer
    high-step after answer call =
        side-call Source n.var low least (IsMember (has now.nodes n.hi.0)) (level now.nodes n.hi.0)
        (λ set m. inr (high_side set m)) (past_hi old root n st there bound now g fit) answer call

    module _ (high lo : ℕ) (of_high : AreMinimal now.nodes n.hi.0 high) (of_lo : AreMinimal now.nodes n.lo.0 lo) where
      high_past : stands Zbdd (n.var + 1) now.nodes high ≡ true
      high_past = past-minimal now.nodes fit n.var n.hi.0 high (sides old root n st there bound now g fit).hi_stands of_high

      lo_past : stands Zbdd (n.var + 1) now.nodes lo ≡ true
      lo_past = past-minimal now.nodes fit n.var n.lo.0 lo (sides old root n st there bound now g fit).lo_stands of_lo

      less-step : {A : Type 0} (after : Table) (answer : Result A NodeError) → IsCall (AreTailsOf (IsMember (has now.nodes high))) (pair_level now.nodes high lo) now after answer → IsCall (AreTailsOf Source) (n.var + 1) now after answer
      less-step after answer call =
          side-call Source n.var low least (IsMember (has now.nodes high)) (pair_level now.nodes high lo)
          (λ set m. inr (high_side set ((of_high.computes set).0 m).member)) (pair-past now.nodes n.var high lo bound high_past lo_past) answer call

      module _ (hi : ℕ) (of_hi : IsResult Without 0 now.nodes high lo hi) where
        its_minimal : (set : List ℕ) → (joined n.var (has now.nodes hi) (has now.nodes lo) set ≡ true) ↔ IsMinimalMember (has now.nodes root.0) set
        its_minimal =
            let s = sides old root n st there bound now g fit in
            subst (λ (f : List ℕ → Bool). (set : List ℕ) → (joined n.var (has now.nodes hi) (has now.nodes lo) set ≡ true) ↔ IsMinimalMember f set)
            (λ i set. sym (s.reads set) i)
            (minimal-sides n.var (has now.nodes n.hi.0) (has now.nodes n.lo.0) (has now.nodes high) (has now.nodes lo) (has now.nodes hi)
            (above-stands now.nodes fit n.var n.lo.0 s.lo_stands) of_lo.computes of_high.computes of_hi.computes)

        its_ready : IsReady now.nodes (family_key MinimalSets root) n.var hi lo
        its_ready = record {
          bounded = bound;
          no_right = λ e. refl;
          no_limit = λ e. refl;
          left_stands = stands-kept g Zbdd 0 root.0 st;
          right_stands = stands-terminal Zbdd 0 now.nodes 0 (omega arith);
          of_family = refl;
          past = key_past old root n st there bound now g fit MinimalSets;
          hi_stands = past-without now.nodes fit n.var high lo hi high_past of_hi;
          lo_stands = lo_past;
          computes = its_minimal;
        }

        last-step : {A : Type 0} (after : Table) (answer : Result A NodeError) → IsCall (AreTailsOf (IsMember (joined n.var (has now.nodes hi) (has now.nodes lo)))) n.var now after answer → IsCall (AreTailsOf Source) low now after answer
        last-step after answer call =
            last-call Source n.var low least (IsMember (joined n.var (has now.nodes hi) (has now.nodes lo)))
            (λ set m. back old root n st there bound now g fit set ((its_minimal set).0 m).member) answer call

  module _ (fit : AllFit old.nodes) where
    first-step : {A : Type 0} (one : Table) (answer : Result A NodeError) → MinimalCalled n.lo.0 old one answer → IsCall (AreTailsOf Source) (n.var + 1) old one answer
    first-step one answer call = low-step old (grown-own old.nodes) fit one answer call

    -- an error of the first call is passed on
    pub low-exit : {A : Type 0} (one : Table) (answer : Result A NodeError) → MinimalCalled n.lo.0 old one answer → IsCall (AreTailsOf Source) low old one answer
    low-exit one answer call = exit-call Source n.var low least answer (first-step one answer call)

    -- after the low side
    module _ (one : Table) (lo : NodeId) (first : MinimalCalled n.lo.0 old one (Ok lo)) (of_lo : AreMinimal one.nodes n.lo.0 lo.0) where
      two-steps : {A : Type 0} (two : Table) (answer : Result A NodeError) → MinimalCalled n.hi.0 one two answer → IsCall (AreTailsOf Source) (n.var + 1) old two answer
      two-steps two answer call = call-then lo answer (first-step one (Ok lo) first) (high-step one first.progress.nodes first.progress.table.fit two answer call)

      -- an error of the second call is passed on
      pub high-exit : {A : Type 0} (two : Table) (answer : Result A NodeError) → MinimalCalled n.hi.0 one two answer → IsCall (AreTailsOf Source) low old two answer
      high-exit two answer call = exit-call Source n.var low least answer (two-steps two answer call)

      -- after the high side
      module _ (two : Table) (high : NodeId) (second : MinimalCalled n.hi.0 one two (Ok high)) (of_high : AreMinimal two.nodes n.hi.0 high.0) where
        grown_two : Grown old.nodes two.nodes
        grown_two = grown-then first.progress.nodes second.progress.nodes

        lo_two : AreMinimal two.nodes n.lo.0 lo.0
        lo_two =
            result-kept second.progress.nodes MinimalSets 0 second.progress.table.fit n.lo.0 0 lo.0
            (stands-below Zbdd 0 one.nodes n.lo.0 (lo_zero old root n st there bound one first.progress.nodes first.progress.table.fit)) (omega arith) of_lo

        -- both results may be operands
        pub less_operands : (stands Zbdd 0 two.nodes high.0 ≡ true) × (stands Zbdd 0 two.nodes lo.0 ≡ true)
        less_operands = (of_high.stands_at, lo_two.stands_at)

        three-steps : {A : Type 0} (three : Table) (answer : Result A NodeError) → IsCall (AreTailsOf (IsMember (has two.nodes high.0))) (pair_level two.nodes high.0 lo.0) two three answer → IsCall (AreTailsOf Source) (n.var + 1) old three answer
        three-steps three answer call =
            call-then high answer (two-steps two (Ok high) second)
            (less-step two grown_two second.progress.table.fit high.0 lo.0 of_high lo_two three answer call)

        -- an error of the third call is passed on
        pub less-exit : {A : Type 0} (three : Table) (answer : Result A NodeError) → IsCall (AreTailsOf (IsMember (has two.nodes high.0))) (pair_level two.nodes high.0 lo.0) two three answer → IsCall (AreTailsOf Source) low old three answer
        less-exit three answer call = exit-call Source n.var low least answer (three-steps three answer call)

        -- after the removal of what includes a set of the low side
        module _ (three : Table) (hi : NodeId) (third : IsCall (AreTailsOf (IsMember (has two.nodes high.0))) (pair_level two.nodes high.0 lo.0) two three (Ok hi)) (of_hi : IsResult Without 0 three.nodes high.0 lo.0 hi.0) where
          grown_three : Grown old.nodes three.nodes
          grown_three = grown-then grown_two third.progress.nodes

          lo_three : AreMinimal three.nodes n.lo.0 lo.0
          lo_three =
              result-kept third.progress.nodes MinimalSets 0 third.progress.table.fit n.lo.0 0 lo.0
              (stands-below Zbdd 0 two.nodes n.lo.0 (lo_zero old root n st there bound two grown_two second.progress.table.fit)) (omega arith) lo_two

          high_three : AreMinimal three.nodes n.hi.0 high.0
          high_three =
              result-kept third.progress.nodes MinimalSets 0 third.progress.table.fit n.hi.0 0 high.0
              (stands-below Zbdd 0 two.nodes n.hi.0 (hi_zero old root n st there bound two grown_two second.progress.table.fit)) (omega arith) of_high

          -- the results make a ready result
          pub ready : IsReady three.nodes (family_key MinimalSets root) n.var hi.0 lo.0
          ready = its_ready three grown_three third.progress.table.fit high.0 lo.0 high_three lo_three hi.0 of_hi

          -- no call remembered the key
          pub absent : Lacks old.entries (family_key MinimalSets root) → Lacks three.entries (family_key MinimalSets root)
          absent lacks =
              let e = its_level old root n st there bound three grown_three third.progress.table.fit MinimalSets in
              progress-lacks (three-steps three (Ok hi) third).progress (family_key MinimalSets root) lacks (omega (arith, e))

          -- all steps are the call
          pub whole-call : {A : Type 0} (now : Table) (answer : Result A NodeError) → IsCall (AreTailsOf (IsMember (joined n.var (has three.nodes hi.0) (has three.nodes lo.0)))) n.var three now answer → IsCall (AreTailsOf Source) low old now answer
          whole-call now answer last =
              call-then hi answer (less-exit three (Ok hi) third)
              (last-step three grown_three third.progress.table.fit high.0 lo.0 high_three lo_three hi.0 of_hi now answer last)
