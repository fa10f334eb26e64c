-- The steps of the recursion of the positive part.
use Rattle.std.proofs.Common.{◌≡◌, ◌↔◌, ◌⊎◌, ℕ, ◌+◌, ◌%◌, ◌<◌, ◌≤◌, ◌||◌, Bool, true, false, List, [], ◌∷◌, Some, filter, Result, Ok, refl, sym, ap, subst, ◌∙◌, inl, inr, arith, eq-eqb, ne_eqb}
use Rattle.std.proofs.lemmas.Bool.{or_cases}
use Rattle.psa_logic.specs.Sets.{all_above}
use Rattle.psa_logic.specs.Products.{is_positive}
use Rattle.psa_nodes.specs.declared.node.Kind.TheVariants.{Zbdd}
use Rattle.psa_nodes.specs.declared.node.Node.{Node}
use Rattle.psa_nodes.specs.declared.node.NodeId.{NodeId}
use Rattle.psa_nodes.specs.declared.node.NodeError.{NodeError}
use Rattle.psa_nodes.specs.declared.node.Operation.TheVariants.{Positive, Union}
use Rattle.psa_nodes.specs.declared.node.TheConstants.{MAX_LITERAL_NUMBERS}
use Rattle.psa_nodes.specs.Families.{IsPositivePart}
use Rattle.psa_nodes.specs.Readings.{node_at, has, joined, stands, level}
use Rattle.psa_nodes.specs.Nodes.{AllFit, Grown}
use Rattle.psa_nodes.specs.Table.{Table, Lacks}
use Rattle.psa_nodes.specs.Progress.{IsCall, IsResult}
use Rattle.psa_nodes.specs.Tails.{either, IsMember, AreTailsOf}
use Rattle.psa_nodes.proofs.CallerLemmas.{stands-below, stands-kept, stands-terminal, above-stands, stands-above, grown-own, grown-then, call-then, progress-lacks, IsSideOf, side-call, exit-call, last-call}
use Rattle.psa_nodes.specs.Progress.{pair_level}
use Rattle.psa_nodes.specs.Making.{IsReady}
use Rattle.psa_families.proofs.LevelLemmas.{pair-past}
use Rattle.psa_families.proofs.SidesLemmas.{split-later}
use Rattle.psa_nodes.proofs.CallerLemmas.{is_result, result-kept}
use Rattle.psa_families.proofs.UnionSteps.{past-union}
use Rattle.psa_families.proofs.TerminalLemmas.{terminal-empty}
use Rattle.psa_families.proofs.PositivePartLemmas.{positive-kept, positive-dropped, positive-above, positive-either, positive-sides}
use Rattle.psa_families.proofs.NodeSidesLemmas.{family_key, low_least, sides, back, in-high, in-low, past_hi, past_lo, hi_zero, lo_zero, its_level, key_past}

-- what a call does, with its answer
abbrev pub PositiveCalled : {A : Type 0} → ℕ → Table → Table → Result A NodeError → Type 0
PositiveCalled root before now answer = IsCall (AreTailsOf (IsPositivePart (has before.nodes root))) (level before.nodes root) before now answer

-- the id is the family of the positive parts of another
abbrev pub ArePositiveOf : List Node → ℕ → ℕ → Type 0
ArePositiveOf ns root id = IsResult Positive 0 ns root 0 id

-- positive parts stand where their family does
pub past-positive : (ns : List Node) → AllFit ns → (x root id : ℕ) → stands Zbdd (x + 1) ns root ≡ true → ArePositiveOf ns root id → stands Zbdd (x + 1) ns id ≡ true
past-positive ns fit x root id st r = stands-above ns fit x id r.stands_at (λ set m.
    let c = (r.computes set).0 m in
    subst (λ (l : List ℕ). all_above x l ≡ true) (sym c.positive) (positive-above x c.whole (above-stands ns fit x root st c.whole c.member)))

-- a terminal is its own positive part
pub terminal-positive : (ns : List Node) → AllFit ns → (root : ℕ) → root < 2 → ArePositiveOf ns root root
terminal-positive ns fit root lt =
    is_result Positive 0 ns root 0 root fit (stands-terminal Zbdd 0 ns root lt)
    (λ set. (
      λ m. record { whole = set; member = m; positive = own set (terminal-empty ns root lt set m) },
      λ c. subst (λ (l : List ℕ). has ns root l ≡ true) (sym (c.positive ∙ sym (own c.whole (terminal-empty ns root lt c.whole c.member)))) c.member,
    ))
  where
    own : (set : List ℕ) → set ≡ [] → set ≡ filter is_positive set
    own set e = subst (λ (l : List ℕ). l ≡ filter is_positive l) (sym e) refl

-- whether a literal is of an event that occurs
pub odd-literal : (x : ℕ) → x % 2 ≡ 1 → is_positive x ≡ false
odd-literal x e = ne_eqb (x % 2) 0 (λ z. omega (arith, e, z))

pub even-literal : (x : ℕ) → (x % 2 ≡ 1 → ⊥) → is_positive x ≡ true
even-literal x ne = let e : x % 2 ≡ 0 = omega (arith, ne) in eq-eqb (x % 2) 0 e

module _ (old : Table) (root : NodeId) (n : Node) (st : stands Zbdd 0 old.nodes root.0 ≡ true) (there : node_at old.nodes root.0 ≡ Some n) (bound : n.var < MAX_LITERAL_NUMBERS) where
  abbrev Source : List ℕ → Type 0
  Source = IsPositivePart (has old.nodes root.0)

  abbrev low : ℕ
  low = level old.nodes root.0

  least : low ≤ n.var
  least = low_least old root n st there bound

  -- in a table that grew
  module _ (now : Table) (g : Grown old.nodes now.nodes) (fit : AllFit now.nodes) where
    low_side : (set : List ℕ) → IsPositivePart (has now.nodes n.lo.0) set → Source set
    low_side set c = record { whole = c.whole; member = in-low old root n st there bound now g fit c.whole c.member; positive = c.positive }

    high_side : IsSideOf n.var Source (IsPositivePart (has now.nodes n.hi.0))
    high_side set c = by (is_positive n.var) refl
      where
        member : has old.nodes root.0 (n.var ∷ c.whole) ≡ true
        member = in-high old root n st there bound now g fit c.whole c.member

        by : (b : Bool) → is_positive n.var ≡ b → Source set ⊎ Source (n.var ∷ set)
        by true e = inr (record { whole = n.var ∷ c.whole; member = member; positive = ap (λ (l : List ℕ). n.var ∷ l) c.positive ∙ sym (positive-kept n.var c.whole e) })
        by false e = inl (record { whole = n.var ∷ c.whole; member = member; positive = c.positive ∙ sym (positive-dropped n.var c.whole e) })

    low-step : {A : Type 0} (after : Table) (answer : Result A NodeError) → PositiveCalled n.lo.0 now after answer → IsCall (AreTailsOf Source) (n.var + 1) now after answer
    low-step after answer call =
        side-call Source n.var low least (IsPositivePart (has now.nodes n.lo.0)) (level now.nodes n.lo.0)
        (λ set m. inl (low_side set m)) (past_lo old root n st there bound now g fit) answer call

    high-step : {A : Type 0} (after : Table) (answer : Result A NodeError) → PositiveCalled n.hi.0 now after answer → IsCall (AreTailsOf Source) (n.var + 1) now after answer
    high-step after answer call =
        side-call Source n.var low least (IsPositivePart (has now.nodes n.hi.0)) (level now.nodes n.hi.0)
        high_side (past_hi old root n st there bound now g fit) answer call

    module _ (hi lo : ℕ) (of_hi : ArePositiveOf now.nodes n.hi.0 hi) (of_lo : ArePositiveOf now.nodes n.lo.0 lo) where
      hi_past : stands Zbdd (n.var + 1) now.nodes hi ≡ true
      hi_past = past-positive now.nodes fit n.var n.hi.0 hi (sides old root n st there bound now g fit).hi_stands of_hi

      lo_past : stands Zbdd (n.var + 1) now.nodes lo ≡ true
      lo_past = past-positive now.nodes fit n.var n.lo.0 lo (sides old root n st there bound now g fit).lo_stands of_lo

      either-step : {A : Type 0} (after : Table) (answer : Result A NodeError) → IsCall (AreTailsOf (IsMember (either (has now.nodes hi) (has now.nodes lo)))) (pair_level now.nodes hi lo) now after answer → IsCall (AreTailsOf Source) (n.var + 1) now after answer
      either-step after answer call =
          side-call Source n.var low least (IsMember (either (has now.nodes hi) (has now.nodes lo))) (pair_level now.nodes hi lo)
          (λ set m. elim (or_cases (has now.nodes hi set) (has now.nodes lo set) m) [
            | inl p ↦ high_side set ((of_hi.computes set).0 p)
            | inr p ↦ inl (low_side set ((of_lo.computes set).0 p))
          ]) (pair-past now.nodes n.var hi lo bound hi_past lo_past) answer call

      -- a ready result by its sides
      made-ready : (up down : ℕ) → stands Zbdd (n.var + 1) now.nodes up ≡ true → stands Zbdd (n.var + 1) now.nodes down ≡ true
          → ((set : List ℕ) → (joined n.var (has now.nodes up) (has now.nodes down) set ≡ true) ↔ IsPositivePart (has now.nodes root.0) set)
          → IsReady now.nodes (family_key Positive root) n.var up down
      made-ready up down up_past down_past computes = record {
        bounded = bound;
        no_right = λ e. refl;
        no_limit = λ e. refl;
        left_stands = stands-kept g Zbdd 0 root.0 st;
        right_stands = stands-terminal Zbdd 0 now.nodes 0 (omega arith);
        of_family = refl;
        past = key_past old root n st there bound now g fit Positive;
        hi_stands = up_past;
        lo_stands = down_past;
        computes = computes;
      }

      made-step : (up down : ℕ) → ((set : List ℕ) → (joined n.var (has now.nodes up) (has now.nodes down) set ≡ true) ↔ IsPositivePart (has now.nodes root.0) set)
          → {A : Type 0} (after : Table) (answer : Result A NodeError) → IsCall (AreTailsOf (IsMember (joined n.var (has now.nodes up) (has now.nodes down)))) n.var now after answer → IsCall (AreTailsOf Source) low now after answer
      made-step up down computes after answer call =
          last-call Source n.var low least (IsMember (joined n.var (has now.nodes up) (has now.nodes down)))
          (λ set m. let c = (computes set).0 m in record { whole = c.whole; member = back old root n st there bound now g fit c.whole c.member; positive = c.positive }) answer call

      -- the families of the node's sides
      for-root : (family : List ℕ → Bool) → ((set : List ℕ) → (family set ≡ true) ↔ IsPositivePart (joined n.var (has now.nodes n.hi.0) (has now.nodes n.lo.0)) set) → (set : List ℕ) → (family set ≡ true) ↔ IsPositivePart (has now.nodes root.0) set
      for-root family =
          let s = sides old root n st there bound now g fit in
          subst (λ (f : List ℕ → Bool). (set : List ℕ) → (family set ≡ true) ↔ IsPositivePart f set) (λ i set. sym (s.reads set) i)

      -- of an event that occurs
      even-positive : is_positive n.var ≡ true → (set : List ℕ) → (joined n.var (has now.nodes hi) (has now.nodes lo) set ≡ true) ↔ IsPositivePart (has now.nodes root.0) set
      even-positive even =
          let s = sides old root n st there bound now g fit in
          for-root (joined n.var (has now.nodes hi) (has now.nodes lo))
          (positive-sides n.var (has now.nodes n.hi.0) (has now.nodes n.lo.0) (has now.nodes hi) (has now.nodes lo)
          (above-stands now.nodes fit n.var n.hi.0 s.hi_stands) (above-stands now.nodes fit n.var n.lo.0 s.lo_stands) of_hi.computes of_lo.computes even)

      -- of one that does not
      module _ (union : ℕ) (of_union : IsResult Union 0 now.nodes hi lo union) where
        union_past : stands Zbdd (n.var + 1) now.nodes union ≡ true
        union_past = past-union now.nodes fit n.var hi lo union hi_past lo_past of_union

        odd-positive : is_positive n.var ≡ false → (set : List ℕ) → (joined n.var (has now.nodes 0) (has now.nodes union) set ≡ true) ↔ IsPositivePart (has now.nodes root.0) set
        odd-positive odd =
            let s = sides old root n st there bound now g fit in
            for-root (joined n.var (has now.nodes 0) (has now.nodes union))
            (λ set.
            let e : joined n.var (has now.nodes 0) (has now.nodes union) set ≡ (has now.nodes hi set || has now.nodes lo set) =
            sym ((split-later now.nodes union n.var fit union_past).reads set) ∙ of_union.computes set in
            let p = positive-either n.var (has now.nodes n.hi.0) (has now.nodes n.lo.0) (has now.nodes hi) (has now.nodes lo)
            (above-stands now.nodes fit n.var n.hi.0 s.hi_stands) (above-stands now.nodes fit n.var n.lo.0 s.lo_stands) of_hi.computes of_lo.computes odd set in
            (λ m. p.0 (sym e ∙ m), λ c. e ∙ p.1 c))

  module _ (fit : AllFit old.nodes) where
    first-step : {A : Type 0} (one : Table) (answer : Result A NodeError) → PositiveCalled n.lo.0 old one answer → IsCall (AreTailsOf Source) (n.var + 1) old one answer
    first-step one answer call = low-step old (grown-own old.nodes) fit one answer call

    -- an error of the first call is passed on
    pub low-exit : {A : Type 0} (one : Table) (answer : Result A NodeError) → PositiveCalled n.lo.0 old one answer → IsCall (AreTailsOf Source) low old one answer
    low-exit one answer call = exit-call Source n.var low least answer (first-step one answer call)

    -- after the low side
    module _ (one : Table) (lo : NodeId) (first : PositiveCalled n.lo.0 old one (Ok lo)) (of_lo : ArePositiveOf one.nodes n.lo.0 lo.0) where
      two-steps : {A : Type 0} (two : Table) (answer : Result A NodeError) → PositiveCalled n.hi.0 one two answer → IsCall (AreTailsOf Source) (n.var + 1) old two answer
      two-steps two answer call = call-then lo answer (first-step one (Ok lo) first) (high-step one first.progress.nodes first.progress.table.fit two answer call)

      -- an error of the second call is passed on
      pub high-exit : {A : Type 0} (two : Table) (answer : Result A NodeError) → PositiveCalled n.hi.0 one two answer → IsCall (AreTailsOf Source) low old two answer
      high-exit two answer call = exit-call Source n.var low least answer (two-steps two answer call)

      -- after the high side
      module _ (two : Table) (hi : NodeId) (second : PositiveCalled n.hi.0 one two (Ok hi)) (of_hi : ArePositiveOf two.nodes n.hi.0 hi.0) where
        grown_two : Grown old.nodes two.nodes
        grown_two = grown-then first.progress.nodes second.progress.nodes

        lo_two : ArePositiveOf two.nodes n.lo.0 lo.0
        lo_two =
            result-kept second.progress.nodes Positive 0 second.progress.table.fit n.lo.0 0 lo.0
            (stands-below Zbdd 0 one.nodes n.lo.0 (lo_zero old root n st there bound one first.progress.nodes first.progress.table.fit)) (omega arith) of_lo

        -- both results may be operands
        pub operands : (stands Zbdd 0 two.nodes hi.0 ≡ true) × (stands Zbdd 0 two.nodes lo.0 ≡ true)
        operands = (of_hi.stands_at, lo_two.stands_at)

        -- the key, which no call remembered
        lacks-still : {A : Type 0} (now : Table) (answer : Result A NodeError) → IsCall (AreTailsOf Source) (n.var + 1) old now answer → Lacks old.entries (family_key Positive root) → Lacks now.entries (family_key Positive root)
        lacks-still now answer call lacks =
            let e = its_level old root n st there bound now call.progress.nodes call.progress.table.fit Positive in
            progress-lacks call.progress (family_key Positive root) lacks (omega (arith, e))

        -- no call remembered the key
        pub even-absent : Lacks old.entries (family_key Positive root) → Lacks two.entries (family_key Positive root)
        even-absent lacks = lacks-still two (Ok hi) (two-steps two (Ok hi) second) lacks

        -- of an event that occurs
        module _ (even : n.var % 2 ≡ 1 → ⊥) where
          computes_two : (set : List ℕ) → (joined n.var (has two.nodes hi.0) (has two.nodes lo.0) set ≡ true) ↔ IsPositivePart (has two.nodes root.0) set
          computes_two = even-positive two grown_two second.progress.table.fit hi.0 lo.0 of_hi lo_two (even-literal n.var even)

          -- the results make a ready result
          pub even-ready : IsReady two.nodes (family_key Positive root) n.var hi.0 lo.0
          even-ready =
              let f = second.progress.table.fit in
              made-ready two grown_two f hi.0 lo.0 of_hi lo_two hi.0 lo.0 (hi_past two grown_two f hi.0 lo.0 of_hi lo_two) (lo_past two grown_two f hi.0 lo.0 of_hi lo_two) computes_two

          -- all steps are the call
          pub even-call : {A : Type 0} (now : Table) (answer : Result A NodeError) → IsCall (AreTailsOf (IsMember (joined n.var (has two.nodes hi.0) (has two.nodes lo.0)))) n.var two now answer → IsCall (AreTailsOf Source) low old now answer
          even-call now answer last =
              call-then hi answer (high-exit two (Ok hi) second)
              (made-step two grown_two second.progress.table.fit hi.0 lo.0 of_hi lo_two hi.0 lo.0 computes_two now answer last)

        three-steps : {A : Type 0} (three : Table) (answer : Result A NodeError) → IsCall (AreTailsOf (IsMember (either (has two.nodes hi.0) (has two.nodes lo.0)))) (pair_level two.nodes hi.0 lo.0) two three answer → IsCall (AreTailsOf Source) (n.var + 1) old three answer
        three-steps three answer call =
            call-then hi answer (two-steps two (Ok hi) second)
            (either-step two grown_two second.progress.table.fit hi.0 lo.0 of_hi lo_two three answer call)

        -- an error of the union is passed on
        pub either-exit : {A : Type 0} (three : Table) (answer : Result A NodeError) → IsCall (AreTailsOf (IsMember (either (has two.nodes hi.0) (has two.nodes lo.0)))) (pair_level two.nodes hi.0 lo.0) two three answer → IsCall (AreTailsOf Source) low old three answer
        either-exit three answer call = exit-call Source n.var low least answer (three-steps three answer call)

        -- of one that does not: after the union
        module _ (three : Table) (both : NodeId) (third : IsCall (AreTailsOf (IsMember (either (has two.nodes hi.0) (has two.nodes lo.0)))) (pair_level two.nodes hi.0 lo.0) two three (Ok both)) (of_both : IsResult Union 0 three.nodes hi.0 lo.0 both.0) (odd : n.var % 2 ≡ 1) where
          grown_three : Grown old.nodes three.nodes
          grown_three = grown-then grown_two third.progress.nodes

          lo_three : ArePositiveOf three.nodes n.lo.0 lo.0
          lo_three =
              result-kept third.progress.nodes Positive 0 third.progress.table.fit n.lo.0 0 lo.0
              (stands-below Zbdd 0 two.nodes n.lo.0 (lo_zero old root n st there bound two grown_two second.progress.table.fit)) (omega arith) lo_two

          hi_three : ArePositiveOf three.nodes n.hi.0 hi.0
          hi_three =
              result-kept third.progress.nodes Positive 0 third.progress.table.fit n.hi.0 0 hi.0
              (stands-below Zbdd 0 two.nodes n.hi.0 (hi_zero old root n st there bound two grown_two second.progress.table.fit)) (omega arith) of_hi

          computes_three : (set : List ℕ) → (joined n.var (has three.nodes 0) (has three.nodes both.0) set ≡ true) ↔ IsPositivePart (has three.nodes root.0) set
          computes_three = odd-positive three grown_three third.progress.table.fit hi.0 lo.0 hi_three lo_three both.0 of_both (odd-literal n.var odd)

          -- the union alone makes a ready result
          pub odd-ready : IsReady three.nodes (family_key Positive root) n.var 0 both.0
          odd-ready =
              let f = third.progress.table.fit in
              made-ready three grown_three f hi.0 lo.0 hi_three lo_three 0 both.0 (stands-terminal Zbdd (n.var + 1) three.nodes 0 (omega arith))
              (union_past three grown_three f hi.0 lo.0 hi_three lo_three both.0 of_both) computes_three

          -- no call remembered the key
          pub odd-absent : Lacks old.entries (family_key Positive root) → Lacks three.entries (family_key Positive root)
          odd-absent lacks = lacks-still three (Ok both) (three-steps three (Ok both) third) lacks

          -- all steps are the call
          pub odd-call : {A : Type 0} (now : Table) (answer : Result A NodeError) → IsCall (AreTailsOf (IsMember (joined n.var (has three.nodes 0) (has three.nodes both.0)))) n.var three now answer → IsCall (AreTailsOf Source) low old now answer
          odd-call now answer last =
              call-then both answer (either-exit three (Ok both) third)
              (made-step three grown_three third.progress.table.fit hi.0 lo.0 hi_three lo_three 0 both.0 computes_three now answer last)
