-- A diagram by its sides, and the cofactors of both.
use Rattle.std.proofs.Common.{◌≡◌, ℕ, ◌+◌, ◌*◌, ◌<◌, ◌≤◌, Bool, true, false, List, Some, if◌then◌else◌, refl, sym, ap, ap₂, subst, ◌∙◌, inl, inr, arith}
use Rattle.std.proofs.lemmas.Bool.{cases_Bool}
use Rattle.psa_nodes.specs.declared.node.Kind.{Kind}
use Rattle.psa_nodes.specs.declared.node.Kind.TheVariants.{Bdd}
use Rattle.psa_nodes.specs.declared.node.Node.{Node}
use Rattle.psa_nodes.specs.declared.node.TheConstants.{MAX_RANKS}
use Rattle.psa_nodes.specs.Readings.{Reading, node_at, truth, stands, first_literal}
use Rattle.psa_nodes.specs.Nodes.{AllFit, Grown, IsReduced}
use Rattle.psa_nodes.specs.Progress.{IsResult}
use Rattle.psa_nodes.specs.Cofactors.{assigned}
use Rattle.psa_nodes.proofs.CallerLemmas.{at, stands-node, stands-weaker, stands-below, stands-kept, truth-kept, fixed, IsBlind, blind-stands, fixed-past, high-side, low-side, stands-split, canonical, high-cofactor, low-cofactor, truth-agree, assigned-past, choice-same}
use Rattle.psa_bdd.specs.declared.connective.Connective.{Connective}
use Rattle.psa_bdd.specs.Combined.{apply, operation_of, IsCofactors, IsSplit, IsReady}
use Rattle.psa_bdd.proofs.ConnectiveLemmas.{apply-branch, is_result, result-stands, result-reads}

-- a node is its children by its own variable
pub split-own : (ns : List Node) (id : ℕ) (m : Node) → AllFit ns → node_at ns id ≡ Some m → m.kind ≡ Bdd → IsSplit ns m.var id m.hi.0 m.lo.0
split-own ns id m fit there kind =
    let a = at ns fit id m there in
    record { hi_stands = rw kind at a.hi; lo_stands = rw kind at a.lo; reads = λ s. ap (λ (r : Reading). r.as_truth s) a.reads }

-- and itself twice by a smaller one
pub split-same : (ns : List Node) (id var : ℕ) (m : Node) → node_at ns id ≡ Some m → m.kind ≡ Bdd → var < m.var → IsSplit ns var id id id
split-same ns id var m there kind lt =
    let st = rw kind at (stands-weaker m.kind m.var (var + 1) ns id (omega arith) (stands-node ns id m there)) in
    record { hi_stands = st; lo_stands = st; reads = λ s. elim (cases_Bool (s var)) [ inl p ↦ rw p refl | inr p ↦ rw p refl ] }

-- the sides stay the sides when nodes are added
pub split-kept : {before now : List Node} → Grown before now → (var id hi lo : ℕ) → stands Bdd 0 before id ≡ true → IsSplit before var id hi lo → IsSplit now var id hi lo
split-kept {before} g var id hi lo st p = record {
  hi_stands = stands-kept g Bdd (var + 1) hi p.hi_stands;
  lo_stands = stands-kept g Bdd (var + 1) lo p.lo_stands;
  reads = λ s.
      truth-kept g id s (stands-below Bdd 0 before id st) ∙ p.reads s
      ∙ choice-same (s var) (s var) _ _ _ _ refl (sym (truth-kept g hi s (stands-below Bdd (var + 1) before hi p.hi_stands))) (sym (truth-kept g lo s (stands-below Bdd (var + 1) before lo p.lo_stands)));
}

-- cofactors of the high sides are cofactors of both operands, for variables past the split's
module _ (c : Connective) (ns : List Node) (fit : AllFit ns) (var left left_hi left_lo right right_hi right_lo : ℕ) (l : IsSplit ns var left left_hi left_lo) (r : IsSplit ns var right right_hi right_lo) where
  -- cofactors of both high sides are cofactors of both operands
  pub high-origin : (k : Kind) (v : ℕ) (x : Reading) → 2 * var + 2 ≤ first_literal k v → IsCofactors c (truth ns left_hi) (truth ns right_hi) k v x → IsCofactors c (truth ns left) (truth ns right) k v x
  high-origin k v x past o =
      let past' : 2 * var + 2 ≤ 2 * v = rw o.of_bdd at past in
      record {
        of_bdd = o.of_bdd;
        assignment = fixed o.assignment var true;
        reads = λ s. o.reads s ∙ ap₂ (apply c)
            (high-cofactor (truth ns left) (truth ns left_hi) (truth ns left_lo) var l.reads o.assignment v (omega arith) (blind-stands ns fit var left_hi l.hi_stands) s)
            (high-cofactor (truth ns right) (truth ns right_hi) (truth ns right_lo) var r.reads o.assignment v (omega arith) (blind-stands ns fit var right_hi r.hi_stands) s);
      }

  -- and so are those of both low sides
  pub low-origin : (k : Kind) (v : ℕ) (x : Reading) → 2 * var + 2 ≤ first_literal k v → IsCofactors c (truth ns left_lo) (truth ns right_lo) k v x → IsCofactors c (truth ns left) (truth ns right) k v x
  low-origin k v x past o =
      let past' : 2 * var + 2 ≤ 2 * v = rw o.of_bdd at past in
      record {
        of_bdd = o.of_bdd;
        assignment = fixed o.assignment var false;
        reads = λ s. o.reads s ∙ ap₂ (apply c)
            (low-cofactor (truth ns left) (truth ns left_hi) (truth ns left_lo) var l.reads o.assignment v (omega arith) (blind-stands ns fit var left_lo l.lo_stands) s)
            (low-cofactor (truth ns right) (truth ns right_hi) (truth ns right_lo) var r.reads o.assignment v (omega arith) (blind-stands ns fit var right_lo r.lo_stands) s);
      }

-- the node of a ready result is a cofactor of both operands: no rank below its variable makes a difference
pub own-origin : (c : Connective) (ns : List Node) → AllFit ns → (left right var hi lo : ℕ) → IsReady c ns left right var hi lo → (x : Reading) → ((s : ℕ → Bool) → x.as_truth s ≡ (if s var then truth ns hi s else truth ns lo s)) → IsCofactors c (truth ns left) (truth ns right) Bdd var x
own-origin c ns fit left right var hi lo ready x is = record {
  of_bdd = refl;
  assignment = λ y. true;
  reads = λ s. is s ∙ ready.reads s ∙ ap₂ (apply c)
      (truth-agree ns fit var left ready.left_stands s (assigned (λ y. true) var s) (λ y le. sym (assigned-past (λ y. true) s var y le)))
      (truth-agree ns fit var right ready.right_stands s (assigned (λ y. true) var s) (λ y le. sym (assigned-past (λ y. true) s var y le)));
}

-- the node of a ready result is the result
pub made-result : (c : Connective) {before now : List Node} → Grown before now → AllFit now → (left right var hi lo id : ℕ) → IsReady c before left right var hi lo → stands Bdd var now id ≡ true → ((s : ℕ → Bool) → truth now id s ≡ (if s var then truth before hi s else truth before lo s)) → IsResult (operation_of c) 0 now left right id
made-result c {before} {now} g fit left right var hi lo id ready st is =
    is_result c now left right id fit (stands-weaker Bdd var 0 now id (omega arith) st)
    (λ s. is s ∙ ready.reads s ∙ ap₂ (apply c)
    (sym (truth-kept g left s (stands-below Bdd var before left ready.left_stands)))
    (sym (truth-kept g right s (stands-below Bdd var before right ready.right_stands))))

-- a diagram that does not depend on the ranks up to x stands past x: its sides by a smaller variable would read the same
pub past-blind : (ns : List Node) → AllFit ns → (x id : ℕ) → stands Bdd 0 ns id ≡ true → IsBlind x (truth ns id) → stands Bdd (x + 1) ns id ≡ true
past-blind ns fit x id st blind =
    elim (stands-split Bdd (x + 1) ns id st) [
      | inl past ↦ past
      | inr m ↦
          let n = m.0 in
          let p = split-own ns id n fit m.1 m.2 in
          let high = high-side (truth ns id) (truth ns n.hi.0) (truth ns n.lo.0) n.var p.reads (blind-stands ns fit n.var n.hi.0 p.hi_stands) in
          let low = low-side (truth ns id) (truth ns n.hi.0) (truth ns n.lo.0) n.var p.reads (blind-stands ns fit n.var n.lo.0 p.lo_stands) in
          let same : n.hi.0 ≡ n.lo.0 = canonical Bdd ns fit n.hi.0 n.lo.0 (stands-weaker Bdd (n.var + 1) 0 ns n.hi.0 (omega arith) p.hi_stands) (stands-weaker Bdd (n.var + 1) 0 ns n.lo.0 (omega arith) p.lo_stands)
          (λ s. high s ∙ blind (fixed s n.var true) (fixed s n.var false) (λ y le. fixed-past s n.var true y (omega (arith, m.3)) ∙ sym (fixed-past s n.var false y (omega (arith, m.3)))) ∙ sym (low s)) in
          absurd ((subst (λ k. IsReduced k n.hi.0 n.lo.0) m.2 (at ns fit id n m.1).reduced) same)
    ]

-- so the result on operands past x stands past x
pub past-result : (c : Connective) (ns : List Node) → AllFit ns → (x left right id : ℕ) → stands Bdd (x + 1) ns left ≡ true → stands Bdd (x + 1) ns right ≡ true → IsResult (operation_of c) 0 ns left right id → stands Bdd (x + 1) ns id ≡ true
past-result c ns fit x left right id sl sr r =
    past-blind ns fit x id (result-stands c ns left right id r)
    (λ s t same. result-reads c ns left right id r s ∙ ap₂ (apply c) (truth-agree ns fit (x + 1) left sl s t same) (truth-agree ns fit (x + 1) right sr s t same) ∙ sym (result-reads c ns left right id r t))

-- a result over grown nodes
pub result-kept : (c : Connective) {before now : List Node} → Grown before now → AllFit now → (left right id : ℕ) → stands Bdd 0 before left ≡ true → stands Bdd 0 before right ≡ true → IsResult (operation_of c) 0 before left right id → IsResult (operation_of c) 0 now left right id
result-kept c {before} {now} g fit left right id sl sr r =
    let st = result-stands c before left right id r in
    is_result c now left right id fit (stands-kept g Bdd 0 id st)
    (λ s. truth-kept g id s (stands-below Bdd 0 before id st) ∙ result-reads c before left right id r s ∙ ap₂ (apply c)
    (sym (truth-kept g left s (stands-below Bdd 0 before left sl)))
    (sym (truth-kept g right s (stands-below Bdd 0 before right sr))))

-- the results on the sides make a ready result
pub ready-sides : (c : Connective) (ns : List Node) (fit : AllFit ns) (var : ℕ) → var < MAX_RANKS → (left left_hi left_lo right right_hi right_lo hi lo : ℕ) → stands Bdd var ns left ≡ true → stands Bdd var ns right ≡ true → IsSplit ns var left left_hi left_lo → IsSplit ns var right right_hi right_lo
    → IsResult (operation_of c) 0 ns left_hi right_hi hi → IsResult (operation_of c) 0 ns left_lo right_lo lo → IsReady c ns left right var hi lo
ready-sides c ns fit var bound left left_hi left_lo right right_hi right_lo hi lo sl sr l r h o = record {
  bounded = bound;
  left_stands = sl;
  right_stands = sr;
  hi_stands = past-result c ns fit var left_hi right_hi hi l.hi_stands r.hi_stands h;
  lo_stands = past-result c ns fit var left_lo right_lo lo l.lo_stands r.lo_stands o;
  reads = λ s.
      choice-same (s var) (s var) _ _ _ _ refl (result-reads c ns left_hi right_hi hi h s) (result-reads c ns left_lo right_lo lo o s)
      ∙ sym (apply-branch c (s var) (truth ns left_hi s) (truth ns left_lo s) (truth ns right_hi s) (truth ns right_lo s))
      ∙ sym (ap₂ (apply c) (l.reads s) (r.reads s));
}
