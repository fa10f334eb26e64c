-- One step of the recursion: the results on the sides, one after the other, and then the node.
use Rattle.std.proofs.Common.{◌≡◌, ℕ, ◌+◌, ◌*◌, ◌<◌, ◌≤◌, min, Bool, true, Result, Ok, sym, ap₂, subst₂, ◌∙◌, arith}
use Rattle.psa_nodes.specs.declared.node.Kind.{Kind}
use Rattle.psa_nodes.specs.declared.node.Kind.TheVariants.{Bdd}
use Rattle.psa_nodes.specs.declared.node.NodeId.{NodeId}
use Rattle.psa_nodes.specs.declared.node.TheConstants.{MAX_RANKS}
use Rattle.psa_nodes.specs.declared.node.NodeError.{NodeError}
use Rattle.psa_nodes.specs.Readings.{Reading, truth, stands}
use Rattle.psa_nodes.specs.Nodes.{AllFit, Grown}
use Rattle.psa_nodes.specs.Table.{Table, Lacks}
use Rattle.psa_nodes.specs.Progress.{pair_level, IsCall, IsResult, key_level}
use Rattle.psa_nodes.proofs.CallerLemmas.{stands-below, stands-kept, stands-weaker, truth-kept, level-kept, call-then, call-wide, progress-lacks}
use Rattle.psa_bdd.specs.declared.connective.Connective.{Connective}
use Rattle.psa_bdd.specs.Combined.{operation_of, key_of, IsCofactors, IsSplit, IsReady}
use Rattle.psa_bdd.proofs.KeyLemmas.{key-level}
use Rattle.psa_bdd.proofs.LevelLemmas.{pair-past}
use Rattle.psa_bdd.proofs.SidesLemmas.{split-kept, high-origin, low-origin, result-kept, ready-sides}

module _ (c : Connective) (old : Table) (fit : AllFit old.nodes) (left right : NodeId) (var left_hi left_lo right_hi right_lo : ℕ)
    (l : IsSplit old.nodes var left.0 left_hi left_lo) (r : IsSplit old.nodes var right.0 right_hi right_lo)
    (sl : stands Bdd var old.nodes left.0 ≡ true) (sr : stands Bdd var old.nodes right.0 ≡ true)
    (least : 2 * var ≡ pair_level old.nodes left.0 right.0) (bound : var < MAX_RANKS) where
  abbrev Wide : Kind → ℕ → Reading → Type 0
  Wide = IsCofactors c (truth old.nodes left.0) (truth old.nodes right.0)

  left_zero : stands Bdd 0 old.nodes left.0 ≡ true
  left_zero = stands-weaker Bdd var 0 old.nodes left.0 (omega arith) sl

  right_zero : stands Bdd 0 old.nodes right.0 ≡ true
  right_zero = stands-weaker Bdd var 0 old.nodes right.0 (omega arith) sr

  -- the high sides stand past the variable
  pub past_hi : 2 * var + 2 ≤ pair_level old.nodes left_hi right_hi
  past_hi = pair-past old.nodes var left_hi right_hi bound l.hi_stands r.hi_stands

  high-call : {A : Type 0} (mid : Table) (answer : Result A NodeError) → IsCall (IsCofactors c (truth old.nodes left_hi) (truth old.nodes right_hi)) (pair_level old.nodes left_hi right_hi) old mid answer → IsCall Wide (2 * var + 2) old mid answer
  high-call mid answer call =
      call-wide past_hi
      (λ k v x past o. high-origin c old.nodes fit var left.0 left_hi left_lo right.0 right_hi right_lo l r k v x (omega (arith, past, past_hi)) o)
      answer call

  module _ (mid : Table) (g : Grown old.nodes mid.nodes) (mid_fit : AllFit mid.nodes) where
    abbrev Later : Kind → ℕ → Reading → Type 0
    Later = IsCofactors c (truth mid.nodes left.0) (truth mid.nodes right.0)

    -- cofactors of the operands are so whichever table they are read in
    back : (k : Kind) (v : ℕ) (x : Reading) → Later k v x → Wide k v x
    back k v x =
        subst₂ (λ (f h : (ℕ → Bool) → Bool). Later k v x → IsCofactors c f h k v x)
        (λ i s. truth-kept g left.0 s (stands-below Bdd 0 old.nodes left.0 left_zero) i)
        (λ i s. truth-kept g right.0 s (stands-below Bdd 0 old.nodes right.0 right_zero) i)
        (λ o. o)

    left_mid : IsSplit mid.nodes var left.0 left_hi left_lo
    left_mid = split-kept g var left.0 left_hi left_lo left_zero l

    right_mid : IsSplit mid.nodes var right.0 right_hi right_lo
    right_mid = split-kept g var right.0 right_hi right_lo right_zero r

    -- and so do the low sides, in the table after the first call
    pub past_lo : 2 * var + 2 ≤ pair_level mid.nodes left_lo right_lo
    past_lo = pair-past mid.nodes var left_lo right_lo bound left_mid.lo_stands right_mid.lo_stands

    -- the left low side may be combined
    pub left_lo_stands : stands Bdd 0 mid.nodes left_lo ≡ true
    left_lo_stands = stands-weaker Bdd (var + 1) 0 mid.nodes left_lo (omega arith) left_mid.lo_stands

    -- and the right one
    pub right_lo_stands : stands Bdd 0 mid.nodes right_lo ≡ true
    right_lo_stands = stands-weaker Bdd (var + 1) 0 mid.nodes right_lo (omega arith) right_mid.lo_stands

    low-call : {A : Type 0} (now : Table) (answer : Result A NodeError) → IsCall (IsCofactors c (truth mid.nodes left_lo) (truth mid.nodes right_lo)) (pair_level mid.nodes left_lo right_lo) mid now answer → IsCall Wide (2 * var + 2) mid now answer
    low-call now answer call =
        call-wide past_lo
        (λ k v x past o. back k v x (low-origin c mid.nodes mid_fit var left.0 left_hi left_lo right.0 right_hi right_lo left_mid right_mid k v x (omega (arith, past, past_lo)) o))
        answer call

    last-call : {A : Type 0} (now : Table) (answer : Result A NodeError) → IsCall Later (2 * var) mid now answer → IsCall Wide (pair_level old.nodes left.0 right.0) mid now answer
    last-call now answer call =
        let le : pair_level old.nodes left.0 right.0 ≤ 2 * var = omega (arith, least) in
        call-wide le (λ k v x past o. back k v x o) answer call

    kept_level : key_level mid.nodes (key_of c left right) ≡ 2 * var
    kept_level =
        key-level c mid.nodes left right
        ∙ ap₂ min (level-kept g left.0 (stands-below Bdd 0 old.nodes left.0 left_zero)) (level-kept g right.0 (stands-below Bdd 0 old.nodes right.0 right_zero))
        ∙ sym least

  -- the exit after the high sides
  at-level : {A : Type 0} (now : Table) (answer : Result A NodeError) → IsCall Wide (2 * var + 2) old now answer → IsCall Wide (pair_level old.nodes left.0 right.0) old now answer
  at-level now answer call =
      let le : pair_level old.nodes left.0 right.0 ≤ 2 * var + 2 = omega (arith, least) in
      call-wide le (λ k v x past o. o) answer call

  -- an error of the first call is passed on
  pub high-exit : {A : Type 0} (mid : Table) (answer : Result A NodeError) → IsCall (IsCofactors c (truth old.nodes left_hi) (truth old.nodes right_hi)) (pair_level old.nodes left_hi right_hi) old mid answer → IsCall Wide (pair_level old.nodes left.0 right.0) old mid answer
  high-exit mid answer call = at-level mid answer (high-call mid answer call)

  -- after the high sides
  module _ (mid : Table) (hi : NodeId) (high : IsCall (IsCofactors c (truth old.nodes left_hi) (truth old.nodes right_hi)) (pair_level old.nodes left_hi right_hi) old mid (Ok hi)) where
    both-call : {A : Type 0} (second : Table) (answer : Result A NodeError) → IsCall (IsCofactors c (truth mid.nodes left_lo) (truth mid.nodes right_lo)) (pair_level mid.nodes left_lo right_lo) mid second answer → IsCall Wide (2 * var + 2) old second answer
    both-call second answer low =
        call-then hi answer (high-call mid (Ok hi) high) (low-call mid high.progress.nodes high.progress.table.fit second answer low)

    -- an error of the second call is passed on
    pub low-exit : {A : Type 0} (second : Table) (answer : Result A NodeError) → IsCall (IsCofactors c (truth mid.nodes left_lo) (truth mid.nodes right_lo)) (pair_level mid.nodes left_lo right_lo) mid second answer → IsCall Wide (pair_level old.nodes left.0 right.0) old second answer
    low-exit second answer low = at-level second answer (both-call second answer low)

    -- after the low sides
    module _ (second : Table) (lo : NodeId) (low : IsCall (IsCofactors c (truth mid.nodes left_lo) (truth mid.nodes right_lo)) (pair_level mid.nodes left_lo right_lo) mid second (Ok lo)) where
      -- the results on the sides make a ready result
      pub ready : IsResult (operation_of c) 0 mid.nodes left_hi right_hi hi.0 → IsResult (operation_of c) 0 second.nodes left_lo right_lo lo.0 → IsReady c second.nodes left.0 right.0 var hi.0 lo.0
      ready of_high of_low =
          let g = (both-call second (Ok lo) low).progress.nodes in
          let f = low.progress.table.fit in
          let h = result-kept c low.progress.nodes f left_hi right_hi hi.0
          (stands-weaker Bdd (var + 1) 0 mid.nodes left_hi (omega arith) (left_mid mid high.progress.nodes high.progress.table.fit).hi_stands)
          (stands-weaker Bdd (var + 1) 0 mid.nodes right_hi (omega arith) (right_mid mid high.progress.nodes high.progress.table.fit).hi_stands)
          of_high in
          ready-sides c second.nodes f var bound left.0 left_hi left_lo right.0 right_hi right_lo hi.0 lo.0
          (stands-kept g Bdd var left.0 sl) (stands-kept g Bdd var right.0 sr)
          (left_mid second g f) (right_mid second g f) h of_low

      -- no call on the sides remembered the key
      pub absent : Lacks old.entries (key_of c left right) → Lacks second.entries (key_of c left right)
      absent lacks =
          let p = (both-call second (Ok lo) low).progress in
          let e = kept_level second p.nodes low.progress.table.fit in
          progress-lacks p (key_of c left right) lacks (omega (arith, e))

      -- the three steps are the call
      pub whole-call : {A : Type 0} (now : Table) (answer : Result A NodeError) → IsCall (IsCofactors c (truth second.nodes left.0) (truth second.nodes right.0)) (2 * var) second now answer → IsCall Wide (pair_level old.nodes left.0 right.0) old now answer
      whole-call now answer last =
          let both = both-call second (Ok lo) low in
          call-then lo answer (at-level second (Ok lo) both) (last-call second both.progress.nodes low.progress.table.fit now answer last)
