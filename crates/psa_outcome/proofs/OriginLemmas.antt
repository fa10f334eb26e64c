-- The origin of a node passes to its children.
use Rattle.std.proofs.Common.{◌≡◌, ◌≢◌, ℕ, ◌+◌, ◌<◌, ◌≤◌, Bool, true, false, List, [], ◌∷◌, Some, if◌then◌else◌, refl, sym, ap, subst, ◌∙◌, inl, inr, arith, lt-ltb, le-ltb}
use Rattle.std.specs.Prelude.{map}
use Rattle.std.proofs.lemmas.Bool.{cases_lt}
use Rattle.std.proofs.lemmas.Bool.Decides.{eqb_tells}
use Rattle.psa_nodes.specs.declared.node.Node.{Node}
use Rattle.psa_nodes.specs.declared.node.Kind.{Kind}
use Rattle.psa_nodes.specs.declared.node.Kind.TheVariants as node
use Rattle.psa_nodes.specs.Cofactors.{assigned, all_hold, IsCofactorConjunction}
use Rattle.psa_nodes.specs.Nodes.{AllFit}
use Rattle.psa_nodes.specs.Readings.{Reading, node_at, reading, truth, has, joined, stands}
use Rattle.psa_nodes.specs.Tails.{tail_from, IsTailOf}
use Rattle.psa_nodes.proofs.CallerLemmas.{At, at, stands-at, stands-node, truth-agree, fixed, blind-stands, high-side, low-side, joined-own, joined-other, above-stands, above-head, own-tails}
use Rattle.psa_model.specs.declared.targets.Target.{Target}
use Rattle.psa_outcome.specs.Origins.{IsSourceOf, Origin}
use Rattle.psa_model.specs.Report.{Analysis}
use Rattle.psa_model.specs.Parts.{Truth}

-- ---- decision diagrams

-- no rank
abbrev no_rank : ℕ → Bool
no_rank y = false

-- an assignment of the ranks below x that fixes x too
abbrev and-fixed : ℕ → Bool → (ℕ → Bool) → ℕ → Bool
and-fixed x b assignment = assigned assignment x (fixed no_rank x b)

module _ (f : Truth) (x v : ℕ) (b : Bool) (lt : x < v) (s : ℕ → Bool) where
  -- fixed below v, then at x, then below x: as fixed below v by one assignment
  fixed-below : (assignment : ℕ → Bool) (y : ℕ) → assigned assignment x (fixed (assigned no_rank v s) x b) y ≡ assigned (and-fixed x b assignment) v s y
  fixed-below assignment y =
      elim (cases_lt y x) [
        | inl p ↦ rw (lt-ltb y x p, lt-ltb y v (omega (arith, p, lt))) refl
        | inr p ↦
            elim (eqb_tells y x) [
              | inl q ↦ rw (le-ltb y x p, q.0, lt-ltb y v (omega (arith, q.1, lt))) refl
              | inr q ↦
                  elim (cases_lt y v) [
                    | inl r ↦ rw (le-ltb y x p, q.0, lt-ltb y v r) refl
                    | inr r ↦ rw (le-ltb y x p, q.0, le-ltb y v r) refl
                  ]
            ]
      ]

  all-fixed-below : (assignments : List (ℕ → Bool)) → all_hold f x assignments (fixed (assigned no_rank v s) x b) ≡ all_hold f v (map (and-fixed x b) assignments) s
  all-fixed-below [] = refl
  all-fixed-below (assignment ∷ more) =
      let one : f (assigned assignment x (fixed (assigned no_rank v s) x b)) ≡ f (assigned (and-fixed x b assignment) v s) = ap f (λ i y. fixed-below assignment y i) in
      let rest = all-fixed-below more in
      rw (one, rest) refl

map-some : {A B : Type 0} (h : A → B) (xs : List A) → xs ≢ [] → map h xs ≢ []
map-some h [] some p = some refl
map-some h (x ∷ xs) some p = absurd (cc)

-- the side of a conjunction of cofactors, by one value of x, that decides from v on alone
side-cofactors : (f g side : Truth) (x v : ℕ) (b : Bool) → x < v → ((s : ℕ → Bool) → side s ≡ g (fixed s x b)) → ((s t : ℕ → Bool) → ((y : ℕ) → v ≤ y → s y ≡ t y) → side s ≡ side t) → IsCofactorConjunction f x g → IsCofactorConjunction f v side
side-cofactors f g side x v b lt is blind c = record {
  assignments = map (and-fixed x b) c.assignments;
  some = map-some (and-fixed x b) c.assignments c.some;
  same = λ s.
      blind s (assigned no_rank v s) (λ y le. rw (le-ltb y v le) refl)
      ∙ is (assigned no_rank v s)
      ∙ c.same (fixed (assigned no_rank v s) x b)
      ∙ all-fixed-below f x v b lt s c.assignments;
}

-- ---- families

tail-later : (x v : ℕ) → x ≤ v → (whole : List ℕ) → tail_from v whole ≡ tail_from v (tail_from x whole)
tail-later x v le [] = refl
tail-later x v le (y ∷ ys) =
    elim (cases_lt y x) [
      | inl p ↦ rw (lt-ltb y x p, lt-ltb y v (omega (arith, p, le))) (tail-later x v le ys)
      | inr p ↦ rw (le-ltb y x p) refl
    ]

module _ (Source : List ℕ → Type 0) (x v : ℕ) (lt : x < v) where
  -- a set that is its own tail at v, and with x before it a tail at x, is a tail at v
  tail-with : (set : List ℕ) → set ≡ tail_from v set → IsTailOf Source x (x ∷ set) → IsTailOf Source v set
  tail-with set own t = record {
    whole = t.whole;
    member = t.member;
    tail = own ∙ sym skipped ∙ ap (tail_from v) t.tail ∙ sym (tail-later x v (omega (arith, lt)) t.whole);
  }
    where
      skipped : tail_from v (x ∷ set) ≡ tail_from v set
      skipped = rw (lt-ltb x v lt) refl

  tail-without : (set : List ℕ) → set ≡ tail_from v set → IsTailOf Source x set → IsTailOf Source v set
  tail-without set own t = record {
    whole = t.whole;
    member = t.member;
    tail = own ∙ ap (tail_from v) t.tail ∙ sym (tail-later x v (omega (arith, lt)) t.whole);
  }

-- ---- nodes

module _ (ns : List Node) (fit : AllFit ns) (id : ℕ) (n : Node) (here : node_at ns id ≡ Some n) where
  placed : At ns id n
  placed = at ns fit id n here

  -- each member of a family is its own tail at the variable of the family's node
  own-tail : n.kind ≡ node.Zbdd → (set : List ℕ) → has ns id set ≡ true → set ≡ tail_from n.var set
  own-tail kind set m =
      let lo : stands node.Zbdd (n.var + 1) ns n.lo.0 ≡ true = rw kind at placed.lo in
      let tails = own-tails ns fit n.var n.hi.0 n.lo.0 lo (reading ns id) (λ set. ap (λ (r : Reading). r.as_family set) placed.reads) in
      let one = tails.tails set m in
      one.tail ∙ tail-later n.var n.var (omega arith) one.whole ∙ ap (tail_from n.var) (sym one.tail)

  is-branch : (s : ℕ → Bool) → truth ns id s ≡ (if s n.var then truth ns n.hi.0 s else truth ns n.lo.0 s)
  is-branch s = ap (λ (r : Reading). r.as_truth s) placed.reads

  is-joined : (set : List ℕ) → has ns id set ≡ joined n.var (has ns n.hi.0) (has ns n.lo.0) set
  is-joined set = ap (λ (r : Reading). r.as_family set) placed.reads

module _ (analysis : Analysis) (target : Target) (ns : List Node) (fit : AllFit ns) (id : ℕ) (n child : Node) (here : node_at ns id ≡ Some n) where
  module _ (there : node_at ns n.hi.0 ≡ Some child) where
    high-child : (child.kind ≡ n.kind) × (n.var + 1 ≤ child.var)
    high-child = stands-at n.kind (n.var + 1) ns n.hi.0 child (placed ns fit id n here).hi there

    high-by-kind : (k : Kind) → n.kind ≡ k → Origin analysis target k n.var (reading ns id) → Origin analysis target k child.var (reading ns n.hi.0)
    high-by-kind node.Bdd kind o = record {
      by_diagram = o.by_diagram;
      of_part = record {
        part = o.of_part.part;
        is_part = o.of_part.is_part;
        cofactors = side-cofactors o.of_part.part (truth ns id) (truth ns n.hi.0) n.var child.var true later side agree o.of_part.cofactors;
      };
    }
      where
        later : n.var < child.var
        later = omega (arith, high-child.1)

        stands-past : stands node.Bdd (n.var + 1) ns n.hi.0 ≡ true
        stands-past = rw kind at (placed ns fit id n here).hi

        stands-there : stands node.Bdd child.var ns n.hi.0 ≡ true
        stands-there = rw (high-child.0 ∙ kind) at (stands-node ns n.hi.0 child there)

        side : (s : ℕ → Bool) → truth ns n.hi.0 s ≡ truth ns id (fixed s n.var true)
        side = high-side (truth ns id) (truth ns n.hi.0) (truth ns n.lo.0) n.var (is-branch ns fit id n here) (blind-stands ns fit n.var n.hi.0 stands-past)

        agree : (s t : ℕ → Bool) → ((y : ℕ) → child.var ≤ y → s y ≡ t y) → truth ns n.hi.0 s ≡ truth ns n.hi.0 t
        agree s t same = truth-agree ns fit child.var n.hi.0 stands-there s t same
    high-by-kind node.Zbdd kind o = record {
      of_zbdd = refl;
      tails = λ set m.
          tail-with (IsSourceOf analysis target) n.var child.var (omega (arith, high-child.1)) set
          (own-tail ns fit n.hi.0 child there (high-child.0 ∙ kind) set m)
          (o.tails (n.var ∷ set) (is-joined ns fit id n here (n.var ∷ set) ∙ joined-own n.var (has ns n.hi.0) (has ns n.lo.0) set ∙ m));
    }

    pub high-origin : Origin analysis target n.kind n.var (reading ns id) → Origin analysis target child.kind child.var (reading ns n.hi.0)
    high-origin o = subst (λ k. Origin analysis target k child.var (reading ns n.hi.0)) (sym high-child.0) (high-by-kind n.kind refl o)

  module _ (there : node_at ns n.lo.0 ≡ Some child) where
    low-child : (child.kind ≡ n.kind) × (n.var + 1 ≤ child.var)
    low-child = stands-at n.kind (n.var + 1) ns n.lo.0 child (placed ns fit id n here).lo there

    low-by-kind : (k : Kind) → n.kind ≡ k → Origin analysis target k n.var (reading ns id) → Origin analysis target k child.var (reading ns n.lo.0)
    low-by-kind node.Bdd kind o = record {
      by_diagram = o.by_diagram;
      of_part = record {
        part = o.of_part.part;
        is_part = o.of_part.is_part;
        cofactors = side-cofactors o.of_part.part (truth ns id) (truth ns n.lo.0) n.var child.var false later side agree o.of_part.cofactors;
      };
    }
      where
        later : n.var < child.var
        later = omega (arith, low-child.1)

        stands-past : stands node.Bdd (n.var + 1) ns n.lo.0 ≡ true
        stands-past = rw kind at (placed ns fit id n here).lo

        stands-there : stands node.Bdd child.var ns n.lo.0 ≡ true
        stands-there = rw (low-child.0 ∙ kind) at (stands-node ns n.lo.0 child there)

        side : (s : ℕ → Bool) → truth ns n.lo.0 s ≡ truth ns id (fixed s n.var false)
        side = low-side (truth ns id) (truth ns n.hi.0) (truth ns n.lo.0) n.var (is-branch ns fit id n here) (blind-stands ns fit n.var n.lo.0 stands-past)

        agree : (s t : ℕ → Bool) → ((y : ℕ) → child.var ≤ y → s y ≡ t y) → truth ns n.lo.0 s ≡ truth ns n.lo.0 t
        agree s t same = truth-agree ns fit child.var n.lo.0 stands-there s t same
    low-by-kind node.Zbdd kind o = record {
      of_zbdd = refl;
      tails = λ set m.
          tail-without (IsSourceOf analysis target) n.var child.var (omega (arith, low-child.1)) set
          (own-tail ns fit n.lo.0 child there (low-child.0 ∙ kind) set m)
          (o.tails set (is-joined ns fit id n here set ∙ in-low set m));
    }
      where
        stands-past : stands node.Zbdd (n.var + 1) ns n.lo.0 ≡ true
        stands-past = rw kind at (placed ns fit id n here).lo

        in-low : (set : List ℕ) → has ns n.lo.0 set ≡ true → joined n.var (has ns n.hi.0) (has ns n.lo.0) set ≡ true
        in-low [] m = m
        in-low (y ∷ ys) m =
            let past : n.var < y = above-head n.var y ys (above-stands ns fit n.var n.lo.0 stands-past (y ∷ ys) m) in
            joined-other n.var (has ns n.hi.0) (has ns n.lo.0) y ys (λ e. omega (arith, past, e)) ∙ m

    pub low-origin : Origin analysis target n.kind n.var (reading ns id) → Origin analysis target child.kind child.var (reading ns n.lo.0)
    low-origin o = subst (λ k. Origin analysis target k child.var (reading ns n.lo.0)) (sym low-child.0) (low-by-kind n.kind refl o)
