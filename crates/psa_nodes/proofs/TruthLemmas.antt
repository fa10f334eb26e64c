-- A decision diagram does not depend on the ranks below its variable, and its children are its cofactors.
use Rattle.std.proofs.Common.{◌≡◌, ℕ, ◌+◌, ◌<◌, ◌≤◌, Bool, true, false, ◌==◌, nat_le, List, [], ◌∷◌, length, if◌then◌else◌, refl, sym, ◌∙◌, inl, inr, arith, leb-true, ne_eqb, eq-eqb}
use Rattle.std.proofs.lemmas.Bool.{and_parts}
use Rattle.std.proofs.lemmas.Bool.Decides.{eqb_tells}
use Rattle.psa_nodes.specs.declared.node.Kind.TheVariants.{Bdd}
use Rattle.psa_nodes.specs.declared.node.Node.{Node}
use Rattle.psa_nodes.specs.Readings.{next_id, truth, stands, same_kind}
use Rattle.psa_nodes.specs.Nodes.{AllFit}
use Rattle.psa_nodes.proofs.StandsLemmas.{same_kind-exact}

-- equal choices between equal sides
pub choice-same : (b c x x' y y' : Bool) → b ≡ c → x ≡ x' → y ≡ y' → (if b then x else y) ≡ (if c then x' else y')
choice-same b c x x' y y' p q r i = if p i then q i else r i

-- sets that agree from v on read the same at an id that stands at v
pub truth-agree : (ns : List Node) → AllFit ns → (v id : ℕ) → stands Bdd v ns id ≡ true → (s t : ℕ → Bool) → ((y : ℕ) → v ≤ y → s y ≡ t y) → truth ns id s ≡ truth ns id t
truth-agree [] fit v id h s t same = refl
truth-agree (n ∷ older) fit v id h s t same =
    elim (eqb_tells id (next_id older)) [
      | inl p ↦
          let parts = and_parts (same_kind n.kind Bdd) (nat_le v n.var) (rw p.0 at h) in
          let kind = same_kind-exact n.kind Bdd parts.0 in
          let from = leb-true v n.var parts.1 in
          let later : (y : ℕ) → n.var + 1 ≤ y → s y ≡ t y = λ y le. same y (omega arith) in
          rw p.0 (choice-same (s n.var) (t n.var) _ _ _ _ (same n.var from)
          (truth-agree older fit.1 (n.var + 1) n.hi.0 (rw kind at fit.0.hi) s t later)
          (truth-agree older fit.1 (n.var + 1) n.lo.0 (rw kind at fit.0.lo) s t later))
      | inr p ↦ rw p.0 (truth-agree older fit.1 v id (rw p.0 at h) s t same)
    ]

-- s, with x put in or out
abbrev pub fixed : (ℕ → Bool) → ℕ → Bool → ℕ → Bool
fixed s x b y = if y == x then b else s y

-- at x the set has what was put
pub fixed-own : (s : ℕ → Bool) (x : ℕ) (b : Bool) → fixed s x b x ≡ b
fixed-own s x b = rw (eq-eqb x x refl) refl

-- past x it is s
pub fixed-past : (s : ℕ → Bool) (x : ℕ) (b : Bool) (y : ℕ) → x + 1 ≤ y → fixed s x b y ≡ s y
fixed-past s x b y le = rw (ne_eqb y x (λ e. omega arith)) refl

-- a truth does not depend on the ranks up to x
abbrev pub IsBlind : ℕ → ((ℕ → Bool) → Bool) → Type 0
IsBlind x f = (s t : ℕ → Bool) → ((y : ℕ) → x + 1 ≤ y → s y ≡ t y) → f s ≡ f t

-- a diagram that stands past x does not depend on the ranks up to x
pub blind-stands : (ns : List Node) → AllFit ns → (x id : ℕ) → stands Bdd (x + 1) ns id ≡ true → IsBlind x (truth ns id)
blind-stands ns fit x id h s t same = truth-agree ns fit (x + 1) id h s t same

-- the sides of a decision are its reading with the variable put in or out
module _ (f hi lo : (ℕ → Bool) → Bool) (x : ℕ) (is : (s : ℕ → Bool) → f s ≡ (if s x then hi s else lo s)) where
  -- the high side is the decision with the variable put in
  pub high-side : IsBlind x hi → (s : ℕ → Bool) → hi s ≡ f (fixed s x true)
  high-side blind s =
      let open_ : f (fixed s x true) ≡ (if fixed s x true x then hi (fixed s x true) else lo (fixed s x true)) = is (fixed s x true) in
      sym ((rw (fixed-own s x true) at open_) ∙ blind (fixed s x true) s (fixed-past s x true))

  -- the low side is the decision with the variable put out
  pub low-side : IsBlind x lo → (s : ℕ → Bool) → lo s ≡ f (fixed s x false)
  low-side blind s =
      let open_ : f (fixed s x false) ≡ (if fixed s x false x then hi (fixed s x false) else lo (fixed s x false)) = is (fixed s x false) in
      sym ((rw (fixed-own s x false) at open_) ∙ blind (fixed s x false) s (fixed-past s x false))

-- a decision over later ranks does not depend on x
pub branch-blind : (hi lo : (ℕ → Bool) → Bool) (x v : ℕ) → x + 1 ≤ v → IsBlind v hi → IsBlind v lo → IsBlind x (λ s. if s v then hi s else lo s)
branch-blind hi lo x v le bh bl s t same =
    choice-same (s v) (t v) _ _ _ _ (same v le) (bh s t (λ y l. same y (omega arith))) (bl s t (λ y l. same y (omega arith)))

-- a terminal is false or true
pub truth-terminal : (ns : List Node) (id : ℕ) (s : ℕ → Bool) → id < 2 → truth ns id s ≡ (id == 1)
truth-terminal [] id s lt = refl
truth-terminal (n ∷ older) id s lt =
    rw (ne_eqb id (length older + 2) (λ e. omega arith)) (truth-terminal older id s lt)
