-- Canonical: ids of a kind that read the same are the same id.
use Rattle.std.proofs.Common.{◌≡◌, ℕ, ◌+◌, ◌<◌, ◌≤◌, Bool, true, false, ◌==◌, ◌&&◌, nat_le, List, [], ◌∷◌, Some, if◌then◌else◌, refl, sym, ap, subst, subst₂, ◌∙◌, inl, inr, arith, ltb-true, eqb-true}
use Rattle.std.proofs.lemmas.Bool.{and_parts}
use Rattle.std.proofs.lemmas.Bool.Decides.{eqb_tells}
use Rattle.psa_nodes.specs.declared.node.Kind.{Kind}
use Rattle.psa_nodes.specs.declared.node.Kind.TheVariants.{Bdd, Zbdd}
use Rattle.psa_nodes.specs.declared.node.Node.{Node}
use Rattle.psa_nodes.specs.Readings.{next_id, node_at, truth, has, joined, stands, same_kind, Reading, reading, node_reading, IsSameReading}
use Rattle.psa_nodes.specs.Nodes.{Fits, AllFit, IsReduced, IsNew, IsOnly}
use Rattle.psa_nodes.proofs.StandsLemmas.{same_kind-exact, stands-weaker, stands-terminal, stands-split, stands-below}
use Rattle.psa_nodes.proofs.GrownLemmas.{reading-cons}
use Rattle.psa_nodes.proofs.NodeAtLemmas.{At, at, reading-newest}
use Rattle.psa_nodes.proofs.TruthLemmas.{fixed, fixed-past, blind-stands, high-side, low-side, branch-blind}
use Rattle.psa_nodes.proofs.FamilyLemmas.{joined-own, joined-other, has-below, has-zero}

-- a new node is at no id
pub new-at : (ns : List Node) (n : Node) → IsNew ns n → (id : ℕ) (m : Node) → node_at ns id ≡ Some m → m ≡ n → ⊥
new-at [] n new id m e same = cc
new-at (k ∷ older) n new id m e same =
    elim (eqb_tells id (next_id older)) [
      | inl p ↦
          let e' : Some k ≡ Some m = rw p.0 at e in
          let own : k ≡ m = cc in
          new.0 (own ∙ same)
      | inr p ↦ new-at older n new.1 id m (rw p.0 at e) same
    ]

-- a node is its kind, variable and children
pub node-same : (n m : Node) → n.kind ≡ m.kind → n.var ≡ m.var → n.hi.0 ≡ m.hi.0 → n.lo.0 ≡ m.lo.0 → n ≡ m
node-same n m k v h l i = record { kind = k i; var = v i; hi = record { 0 = h i }; lo = record { 0 = l i } }

-- ids of the kind that read the same are the same
abbrev pub AreCanonical : Kind → List Node → Type 0
AreCanonical k ns =
    (a b : ℕ) → stands k 0 ns a ≡ true → stands k 0 ns b ≡ true → IsSameReading k (reading ns a) (reading ns b) → a ≡ b

-- where a new node's reading is known already, it is no new node: for decision diagrams
module _ (older : List Node) (fit : AllFit older) (IH : AreCanonical Bdd older) (n : Node) (fits : Fits older n) (kind : n.kind ≡ Bdd) (b : ℕ) (b0 : stands Bdd 0 older b ≡ true)
    (same : (s : ℕ → Bool) → (if s n.var then truth older n.hi.0 s else truth older n.lo.0 s) ≡ truth older b s) where
  hi_stands : stands Bdd (n.var + 1) older n.hi.0 ≡ true
  hi_stands = rw kind at fits.hi

  lo_stands : stands Bdd (n.var + 1) older n.lo.0 ≡ true
  lo_stands = rw kind at fits.lo

  hi_is : (s : ℕ → Bool) → truth older n.hi.0 s ≡ truth older b (fixed s n.var true)
  hi_is = high-side (truth older b) (truth older n.hi.0) (truth older n.lo.0) n.var (λ s. sym (same s)) (blind-stands older fit n.var n.hi.0 hi_stands)

  lo_is : (s : ℕ → Bool) → truth older n.lo.0 s ≡ truth older b (fixed s n.var false)
  lo_is = low-side (truth older b) (truth older n.hi.0) (truth older n.lo.0) n.var (λ s. sym (same s)) (blind-stands older fit n.var n.lo.0 lo_stands)

  weak : (v id : ℕ) → stands Bdd v older id ≡ true → stands Bdd 0 older id ≡ true
  weak v id h = stands-weaker Bdd v 0 older id (omega arith) h

  known-above : stands Bdd (n.var + 1) older b ≡ true → ⊥
  known-above above =
      let blind = blind-stands older fit n.var b above in
      let sides : n.hi.0 ≡ n.lo.0 = IH n.hi.0 n.lo.0 (weak (n.var + 1) n.hi.0 hi_stands) (weak (n.var + 1) n.lo.0 lo_stands)
      (λ s. hi_is s ∙ blind (fixed s n.var true) (fixed s n.var false) (λ y le. fixed-past s n.var true y le ∙ sym (fixed-past s n.var false y le)) ∙ sym (lo_is s)) in
      (subst (λ k. IsReduced k n.hi.0 n.lo.0) kind fits.reduced) sides

  module _ (m : Node) (at_b : node_at older b ≡ Some m) (m_kind : m.kind ≡ Bdd) where
    m_at : At older b m
    m_at = at older fit b m at_b

    m_hi : stands Bdd (m.var + 1) older m.hi.0 ≡ true
    m_hi = rw m_kind at m_at.hi

    m_lo : stands Bdd (m.var + 1) older m.lo.0 ≡ true
    m_lo = rw m_kind at m_at.lo

    m_reads : (s : ℕ → Bool) → truth older b s ≡ (if s m.var then truth older m.hi.0 s else truth older m.lo.0 s)
    m_reads s = ap (λ (r : Reading). r.as_truth s) m_at.reads

    m_hi_is : (s : ℕ → Bool) → truth older m.hi.0 s ≡ truth older b (fixed s m.var true)
    m_hi_is = high-side (truth older b) (truth older m.hi.0) (truth older m.lo.0) m.var m_reads (blind-stands older fit m.var m.hi.0 m_hi)

    m_lo_is : (s : ℕ → Bool) → truth older m.lo.0 s ≡ truth older b (fixed s m.var false)
    m_lo_is = low-side (truth older b) (truth older m.hi.0) (truth older m.lo.0) m.var m_reads (blind-stands older fit m.var m.lo.0 m_lo)

    known-level : m.var ≡ n.var → ⊥
    known-level e =
        let highs : n.hi.0 ≡ m.hi.0 = IH n.hi.0 m.hi.0 (weak (n.var + 1) n.hi.0 hi_stands) (weak (m.var + 1) m.hi.0 m_hi)
        (λ s. hi_is s ∙ ap (λ x. truth older b (fixed s x true)) (sym e) ∙ sym (m_hi_is s)) in
        let lows : n.lo.0 ≡ m.lo.0 = IH n.lo.0 m.lo.0 (weak (n.var + 1) n.lo.0 lo_stands) (weak (m.var + 1) m.lo.0 m_lo)
        (λ s. lo_is s ∙ ap (λ x. truth older b (fixed s x false)) (sym e) ∙ sym (m_lo_is s)) in
        new-at older n fits.fresh b m at_b (sym (node-same n m (kind ∙ sym m_kind) (sym e) highs lows))

    known-below : m.var + 1 ≤ n.var → ⊥
    known-below lt =
        let blind = branch-blind (truth older n.hi.0) (truth older n.lo.0) m.var n.var lt (blind-stands older fit n.var n.hi.0 hi_stands) (blind-stands older fit n.var n.lo.0 lo_stands) in
        let sides : m.hi.0 ≡ m.lo.0 = IH m.hi.0 m.lo.0 (weak (m.var + 1) m.hi.0 m_hi) (weak (m.var + 1) m.lo.0 m_lo)
        (λ s. m_hi_is s ∙ sym (same (fixed s m.var true)) ∙ blind (fixed s m.var true) (fixed s m.var false) (λ y le. fixed-past s m.var true y le ∙ sym (fixed-past s m.var false y le)) ∙ same (fixed s m.var false) ∙ sym (m_lo_is s)) in
        (subst (λ k. IsReduced k m.hi.0 m.lo.0) m_kind m_at.reduced) sides

  known-truth : ⊥
  known-truth =
      elim (stands-split Bdd (n.var + 1) older b b0) [
        | inl above ↦ known-above above
        | inr m ↦ elim (eqb_tells m.0.var n.var) [
          | inl p ↦ known-level m.0 m.1 m.2 p.1
          | inr p ↦ known-below m.0 m.1 m.2 (omega (arith, m.3, p.1))
        ]
      ]

-- for families
module _ (older : List Node) (fit : AllFit older) (IH : AreCanonical Zbdd older) (n : Node) (fits : Fits older n) (kind : n.kind ≡ Zbdd) (b : ℕ) (b0 : stands Zbdd 0 older b ≡ true)
    (same : (set : List ℕ) → joined n.var (has older n.hi.0) (has older n.lo.0) set ≡ has older b set) where
  high_stands : stands Zbdd (n.var + 1) older n.hi.0 ≡ true
  high_stands = rw kind at fits.hi

  low_stands : stands Zbdd (n.var + 1) older n.lo.0 ≡ true
  low_stands = rw kind at fits.lo

  weaker : (v id : ℕ) → stands Zbdd v older id ≡ true → stands Zbdd 0 older id ≡ true
  weaker v id h = stands-weaker Zbdd v 0 older id (omega arith) h

  empty : (v id : ℕ) → stands Zbdd v older id ≡ true → ((set : List ℕ) → has older id set ≡ false) → id ≡ 0
  empty v id h none =
      IH id 0 (weaker v id h) (stands-terminal Zbdd 0 older 0 (omega arith)) (λ set. none set ∙ sym (has-zero older set))

  high_is : (ys : List ℕ) → has older n.hi.0 ys ≡ has older b (n.var ∷ ys)
  high_is ys = sym (joined-own n.var (has older n.hi.0) (has older n.lo.0) ys) ∙ same (n.var ∷ ys)

  family-above : stands Zbdd (n.var + 1) older b ≡ true → ⊥
  family-above above =
      (subst (λ k. IsReduced k n.hi.0 n.lo.0) kind fits.reduced)
      (empty (n.var + 1) n.hi.0 high_stands (λ ys. high_is ys ∙ has-below older fit (n.var + 1) b above n.var ys (omega arith)))

  module _ (m : Node) (at_b : node_at older b ≡ Some m) (m_kind : m.kind ≡ Zbdd) where
    its : At older b m
    its = at older fit b m at_b

    its_high : stands Zbdd (m.var + 1) older m.hi.0 ≡ true
    its_high = rw m_kind at its.hi

    its_low : stands Zbdd (m.var + 1) older m.lo.0 ≡ true
    its_low = rw m_kind at its.lo

    its_reads : (set : List ℕ) → has older b set ≡ joined m.var (has older m.hi.0) (has older m.lo.0) set
    its_reads set = ap (λ (r : Reading). r.as_family set) its.reads

    its_high_is : (ys : List ℕ) → has older m.hi.0 ys ≡ has older b (m.var ∷ ys)
    its_high_is ys = sym (joined-own m.var (has older m.hi.0) (has older m.lo.0) ys) ∙ sym (its_reads (m.var ∷ ys))

    lows-same : m.var ≡ n.var → (set : List ℕ) → has older n.lo.0 set ≡ has older m.lo.0 set
    lows-same e [] = same [] ∙ its_reads []
    lows-same e (y ∷ ys) =
        elim (eqb_tells y n.var) [
          | inl p ↦ has-below older fit (n.var + 1) n.lo.0 low_stands y ys (omega arith) ∙ sym (has-below older fit (m.var + 1) m.lo.0 its_low y ys (omega arith))
          | inr p ↦
              sym (joined-other n.var (has older n.hi.0) (has older n.lo.0) y ys p.1) ∙ same (y ∷ ys) ∙ its_reads (y ∷ ys)
              ∙ joined-other m.var (has older m.hi.0) (has older m.lo.0) y ys (λ q. p.1 (q ∙ e))
        ]

    family-level : m.var ≡ n.var → ⊥
    family-level e =
        let highs : n.hi.0 ≡ m.hi.0 = IH n.hi.0 m.hi.0 (weaker (n.var + 1) n.hi.0 high_stands) (weaker (m.var + 1) m.hi.0 its_high)
        (λ ys. high_is ys ∙ ap (λ x. has older b (x ∷ ys)) (sym e) ∙ sym (its_high_is ys)) in
        let lows : n.lo.0 ≡ m.lo.0 = IH n.lo.0 m.lo.0 (weaker (n.var + 1) n.lo.0 low_stands) (weaker (m.var + 1) m.lo.0 its_low) (lows-same e) in
        new-at older n fits.fresh b m at_b (sym (node-same n m (kind ∙ sym m_kind) (sym e) highs lows))

    family-below : m.var + 1 ≤ n.var → ⊥
    family-below lt =
        (subst (λ k. IsReduced k m.hi.0 m.lo.0) m_kind its.reduced)
        (empty (m.var + 1) m.hi.0 its_high
        (λ ys. its_high_is ys ∙ sym (same (m.var ∷ ys)) ∙ joined-other n.var (has older n.hi.0) (has older n.lo.0) m.var ys (λ e. omega arith)
        ∙ has-below older fit (n.var + 1) n.lo.0 low_stands m.var ys (omega arith)))

  known-family : ⊥
  known-family =
      elim (stands-split Zbdd (n.var + 1) older b b0) [
        | inl above ↦ family-above above
        | inr m ↦ elim (eqb_tells m.0.var n.var) [
          | inl p ↦ family-level m.0 m.1 m.2 p.1
          | inr p ↦ family-below m.0 m.1 m.2 (omega (arith, m.3, p.1))
        ]
      ]

known : (k : Kind) (older : List Node) → AllFit older → AreCanonical k older → (n : Node) → Fits older n → n.kind ≡ k → (b : ℕ) → stands k 0 older b ≡ true → IsSameReading k (node_reading older n) (reading older b) → ⊥
known Bdd older fit IH n fits kind b b0 same = known-truth older fit IH n fits kind b b0 same
known Zbdd older fit IH n fits kind b b0 same = known-family older fit IH n fits kind b b0 same

-- readings that are the same the other way round
pub same-back : (k : Kind) (a b : Reading) → IsSameReading k a b → IsSameReading k b a
same-back Bdd a b h = λ s. sym (h s)
same-back Zbdd a b h = λ set. sym (h set)

small : (a b : ℕ) → a < 2 → b < 2 → (a == 1) ≡ (b == 1) → a ≡ b
small a b la lb e =
    elim (eqb_tells a 1) [
      | inl p ↦ let q : (b == 1) ≡ true = sym e ∙ p.0 in omega (arith, eqb-true b 1 q)
      | inr p ↦ elim (eqb_tells b 1) [
        | inl q ↦ let r : (a == 1) ≡ true = e ∙ q.0 in omega (arith, eqb-true a 1 r)
        | inr q ↦ omega (arith, p.1, q.1)
      ]
    ]

terminals : (k : Kind) (a b : ℕ) → a < 2 → b < 2 → IsSameReading k (reading [] a) (reading [] b) → a ≡ b
terminals Bdd a b la lb h = small a b la lb (h (λ _. true))
terminals Zbdd a b la lb h =
    let e : ((a == 1) && true) ≡ ((b == 1) && true) = h [] in
    small a b la lb (sym (and-true (a == 1)) ∙ e ∙ and-true (b == 1))
  where
    and-true : (b : Bool) → (b && true) ≡ b
    and-true true = refl
    and-true false = refl

-- the theorem
pub canonical : (k : Kind) (ns : List Node) → AllFit ns → AreCanonical k ns
canonical k [] fit a b sa sb same = terminals k a b (ltb-true a 2 sa) (ltb-true b 2 sb) same
canonical k (n ∷ older) fit a b sa sb same =
    elim (eqb_tells a (next_id older)) [
      | inl p ↦ elim (eqb_tells b (next_id older)) [
        | inl q ↦ p.1 ∙ sym q.1
        | inr q ↦
            let older_b = rw q.0 at sb in
            absurd (newest (canonical k older fit.1) a b p.1 (and_parts (same_kind n.kind k) (nat_le 0 n.var) (rw p.0 at sa)).0 older_b same)
      ]
      | inr p ↦ elim (eqb_tells b (next_id older)) [
        | inl q ↦
            let older_a = rw p.0 at sa in
            absurd (newest (canonical k older fit.1) b a q.1 (and_parts (same_kind n.kind k) (nat_le 0 n.var) (rw q.0 at sb)).0 older_a (same-back k (reading (n ∷ older) a) (reading (n ∷ older) b) same))
        | inr q ↦
            let older_a = rw p.0 at sa in
            let older_b = rw q.0 at sb in
            canonical k older fit.1 a b older_a older_b
            (subst₂ (IsSameReading k) (reading-cons n older a (stands-below k 0 older a older_a)) (reading-cons n older b (stands-below k 0 older b older_b)) same)
      ]
    ]
  where
    newest : AreCanonical k older → (a b : ℕ) → a ≡ next_id older → same_kind n.kind k ≡ true → stands k 0 older b ≡ true → IsSameReading k (reading (n ∷ older) a) (reading (n ∷ older) b) → ⊥
    newest IH a b at_top kind older_b h =
        known k older fit.1 IH n fit.0 (same_kind-exact n.kind k kind) b older_b
        (subst₂ (IsSameReading k) (ap (reading (n ∷ older)) at_top ∙ reading-newest n older) (reading-cons n older b (stands-below k 0 older b older_b)) h)

-- as a clause says it
pub only : (k : Kind) (ns : List Node) → AllFit ns → (id : ℕ) → stands k 0 ns id ≡ true → IsOnly k ns id
only k ns fit id h other so same = canonical k ns fit other id so h same
