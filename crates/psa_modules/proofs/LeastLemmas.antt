-- The law of modules over tests: least tests of the whole, of the quotient and of the modules.
use Rattle.std.proofs.Common.{◌≡◌, ◌==◌, ℕ, Bool, true, false, ◌&&◌, if◌then◌else◌, refl, sym, ap, ◌∙◌, inl, inr}
use Rattle.std.proofs.lemmas.Bool.{false≢true, eq-eqb, and_parts, and_from, cases_Bool, false_from_ne_true}
use Rattle.std.proofs.lemmas.Bool.Decides.{eqb_tells}
use Rattle.psa_modules.specs.Modules.{within, seen, whole, AreFalseAtNone}
use Rattle.psa_modules.proofs.TestLemmas.{tests-same, bits-same, IsBelow, IsLeast}

-- what is within a module belongs to it and occurs
pub within-parts : (module_of : ℕ → ℕ) (m : ℕ) (s : ℕ → Bool) (e : ℕ) → within module_of m s e ≡ true
    → (module_of e ≡ m) × (s e ≡ true)
within-parts module_of m s e h =
    let p = and_parts (module_of e == m) (s e) h in
    elim (eqb_tells (module_of e) m) [
      | inl q ↦ (q.1, p.1)
      | inr q ↦ absurd (false≢true (sym q.0 ∙ p.0))
    ]

-- what belongs to a module and occurs is within it
pub within-from : (module_of : ℕ → ℕ) (m : ℕ) (s : ℕ → Bool) (e : ℕ) → module_of e ≡ m → s e ≡ true
    → within module_of m s e ≡ true
within-from module_of m s e h k = and_from (module_of e == m) (s e) (eq-eqb (module_of e) m h) k

-- two tests with the same events of a module are the same within it
within-same : (module_of : ℕ → ℕ) (m : ℕ) (s t : ℕ → Bool) → ((e : ℕ) → module_of e ≡ m → s e ≡ true → t e ≡ true)
    → ((e : ℕ) → module_of e ≡ m → t e ≡ true → s e ≡ true) → within module_of m s ≡ within module_of m t
within-same module_of m s t to from = tests-same (within module_of m s) (within module_of m t) (λ e.
    bits-same (within module_of m s e) (within module_of m t e)
    (λ h. let p = within-parts module_of m s e h in within-from module_of m t e p.0 (to e p.0 p.1))
    (λ h. let p = within-parts module_of m t e h in within-from module_of m s e p.0 (from e p.0 p.1)))

-- a module none of whose events occurs does not hold
pub seen-none : (module_of : ℕ → ℕ) (truth_of : ℕ → (ℕ → Bool) → Bool) → AreFalseAtNone truth_of → (s : ℕ → Bool)
    (m : ℕ) → ((e : ℕ) → module_of e ≡ m → s e ≡ true → ⊥) → seen module_of truth_of s m ≡ false
seen-none module_of truth_of none s m without =
    let empty : within module_of m s ≡ (λ event. false) = tests-same (within module_of m s) (λ event. false) (λ e.
    false_from_ne_true (within module_of m s e) (λ h. let p = within-parts module_of m s e h in without e p.0 p.1)) in
    ap (truth_of m) empty ∙ none m

-- of the events that occur those of the modules that pass a test
abbrev pub cut_down : (ℕ → ℕ) → (ℕ → Bool) → (ℕ → Bool) → ℕ → Bool
cut_down module_of top s e = top (module_of e) && s e

-- the quotient sees of them the modules that pass the test, where each of these held
seen-cut_down : (module_of : ℕ → ℕ) (truth_of : ℕ → (ℕ → Bool) → Bool) → AreFalseAtNone truth_of
    → (s top : ℕ → Bool) → IsBelow top (seen module_of truth_of s)
    → seen module_of truth_of (cut_down module_of top s) ≡ top
seen-cut_down module_of truth_of none s top below = tests-same
    (seen module_of truth_of (cut_down module_of top s)) top (λ m.
    elim (cases_Bool (top m)) [
      | inl p ↦
          let same : within module_of m (cut_down module_of top s) ≡ within module_of m s =
          within-same module_of m (cut_down module_of top s) s
          (λ e h k. (and_parts (top (module_of e)) (s e) k).1)
          (λ e h k. and_from (top (module_of e)) (s e) (ap top h ∙ p) k) in
          ap (truth_of m) same ∙ (below m p ∙ sym p)
      | inr p ↦
          seen-none module_of truth_of none (cut_down module_of top s) m
          (λ e h k. false≢true (sym p ∙ (ap top (sym h) ∙ (and_parts (top (module_of e)) (s e) k).0))) ∙ sym p
    ])

-- a least test of the whole stays whole when it is cut down to the modules of a cut set of the quotient
kept_whole : (module_of : ℕ → ℕ) (truth_of : ℕ → (ℕ → Bool) → Bool) (quotient : (ℕ → Bool) → Bool)
    → AreFalseAtNone truth_of → (s : ℕ → Bool) → IsLeast (whole module_of truth_of quotient) s → (top : ℕ → Bool)
    → IsBelow top (seen module_of truth_of s) → quotient top ≡ true → (e : ℕ) → s e ≡ true
    → top (module_of e) ≡ true
kept_whole module_of truth_of quotient none s so top below holds e h =
    let cuts : whole module_of truth_of quotient (cut_down module_of top s) ≡ true =
    ap quotient (seen-cut_down module_of truth_of none s top below) ∙ holds in
    let all = so.least (cut_down module_of top s) (λ x k. (and_parts (top (module_of x)) (s x) k).1) cuts e h in
    (and_parts (top (module_of e)) (s e) all).0

-- each event of a least test of the whole belongs to a module that holds
pub only-seen : (module_of : ℕ → ℕ) (truth_of : ℕ → (ℕ → Bool) → Bool) (quotient : (ℕ → Bool) → Bool)
    → AreFalseAtNone truth_of → (s : ℕ → Bool) → IsLeast (whole module_of truth_of quotient) s → (e : ℕ)
    → s e ≡ true → seen module_of truth_of s (module_of e) ≡ true
only-seen module_of truth_of quotient none s so = kept_whole module_of truth_of quotient none s so
    (seen module_of truth_of s) (λ x h. h) so.cuts

-- what the quotient sees of a least test of the whole is least for it
pub seen-least : (module_of : ℕ → ℕ) (truth_of : ℕ → (ℕ → Bool) → Bool) (quotient : (ℕ → Bool) → Bool)
    → AreFalseAtNone truth_of → (s : ℕ → Bool) → IsLeast (whole module_of truth_of quotient) s
    → IsLeast quotient (seen module_of truth_of s)
seen-least module_of truth_of quotient none s so = record {
  cuts = so.cuts;
  least = λ top below holds m held. elim (cases_Bool (top m)) [
    | inl p ↦ p
    | inr p ↦ absurd (false≢true (sym (seen-none module_of truth_of none s m (λ e h k.
        false≢true (sym p ∙ (ap top (sym h) ∙ kept_whole module_of
        truth_of quotient none s so top below holds e k)))) ∙ held))
  ];
}

-- the events of one module are replaced
abbrev pub replaced : (ℕ → ℕ) → ℕ → (ℕ → Bool) → (ℕ → Bool) → ℕ → Bool
replaced module_of m c s e = if module_of e == m then c e else s e

-- within the module the new events occur, within another the old ones
replaced-own : (module_of : ℕ → ℕ) (m : ℕ) (c s : ℕ → Bool) (e : ℕ) → module_of e ≡ m
    → replaced module_of m c s e ≡ c e
replaced-own module_of m c s e h = rw (eq-eqb (module_of e) m h) refl

-- Of an event of another module nothing changes.
replaced-other : (module_of : ℕ → ℕ) (m : ℕ) (c s : ℕ → Bool) (e : ℕ) → (module_of e ≡ m → ⊥)
    → replaced module_of m c s e ≡ s e
replaced-other module_of m c s e h = elim (eqb_tells (module_of e) m) [
  | inl p ↦ absurd (h p.1)
  | inr p ↦ rw p.0 refl
]

-- what is within a module that holds is least for its truth
pub within-least : (module_of : ℕ → ℕ) (truth_of : ℕ → (ℕ → Bool) → Bool) (quotient : (ℕ → Bool) → Bool)
    (s : ℕ → Bool) → IsLeast (whole module_of truth_of quotient) s → (m : ℕ) → seen module_of truth_of s m ≡ true
    → IsLeast (truth_of m) (within module_of m s)
within-least module_of truth_of quotient s so m held = record {
  cuts = held;
  least = λ c below holds e in_s.
      let t : ℕ → Bool = replaced module_of m c s in
      let belongs = within-parts module_of m s e in_s in
      let all = so.least t (replaced-below c below) (ap quotient (replaced-seen c below holds) ∙ so.cuts) e belongs.1 in
      sym (replaced-own module_of m c s e belongs.0) ∙ all;
}
  where
    replaced-below : (c : ℕ → Bool) → IsBelow c (within module_of m s) → IsBelow (replaced module_of m c s) s
    replaced-below c below x h = elim (eqb_tells (module_of x) m) [
      | inl p ↦ (within-parts module_of m s x (below x (sym (replaced-own module_of m c s x p.1) ∙ h))).1
      | inr p ↦ sym (replaced-other module_of m c s x p.1) ∙ h
    ]

    replaced-seen : (c : ℕ → Bool) → IsBelow c (within module_of m s) → truth_of m c ≡ true
        → seen module_of truth_of (replaced module_of m c s) ≡ seen module_of truth_of s
    replaced-seen c below holds = tests-same (seen module_of truth_of (replaced module_of m c s))
        (seen module_of truth_of s) (λ n.
        elim (eqb_tells n m) [
          | inl p ↦
              let own : within module_of m (replaced module_of m c s) ≡ c =
              tests-same (within module_of m (replaced module_of m c s)) c (λ x.
              bits-same (within module_of m (replaced module_of m c s) x) (c x)
              (λ h. let q = within-parts module_of m (replaced module_of m c s) x h in sym
              (replaced-own module_of m c s x q.0) ∙ q.1)
              (λ h. let q = within-parts module_of m s x (below x h) in within-from module_of m
              (replaced module_of m c s) x q.0 (replaced-own module_of m c s x q.0 ∙ h))) in
              ap (λ k. seen module_of truth_of (replaced module_of m c s) k) p.1 ∙
              (ap (truth_of m) own ∙ (holds ∙ (sym held ∙ ap (λ k. seen module_of truth_of s k) (sym p.1))))
          | inr p ↦ ap (truth_of n) (within-same module_of n (replaced module_of m c s) s
              (λ x h k. sym (replaced-other module_of m c s x (λ e. p.1 (sym h ∙ e))) ∙ k)
              (λ x h k. replaced-other module_of m c s x (λ e. p.1 (sym h ∙ e)) ∙ k))
        ])

-- The events are of these modules alone, and least within each.
pub record IsPut (module_of : ℕ → ℕ) (truth_of : ℕ → (ℕ → Bool) → Bool) (top s : ℕ → Bool) : Type 0 where
  pub parts : (m : ℕ) → top m ≡ true → IsLeast (truth_of m) (within module_of m s)
  pub only : (e : ℕ) → s e ≡ true → top (module_of e) ≡ true

-- what the quotient sees of events that are put for modules is these modules
pub put-seen : (module_of : ℕ → ℕ) (truth_of : ℕ → (ℕ → Bool) → Bool) → AreFalseAtNone truth_of → (top s : ℕ → Bool)
    → IsPut module_of truth_of top s → seen module_of truth_of s ≡ top
put-seen module_of truth_of none top s put = tests-same (seen module_of truth_of s) top
    (λ m. elim (cases_Bool (top m)) [
      | inl p ↦ (put.parts m p).cuts ∙ sym p
      | inr p ↦ seen-none module_of truth_of none s m (λ e h k. false≢true (sym p ∙ (ap top (sym h) ∙ put.only e k)))
          ∙ sym p
    ])

-- events that are put for the modules of a least test of the quotient are least for the whole
pub put-least : (module_of : ℕ → ℕ) (truth_of : ℕ → (ℕ → Bool) → Bool) (quotient : (ℕ → Bool) → Bool)
    → AreFalseAtNone truth_of → (top s : ℕ → Bool) → IsLeast quotient top → IsPut module_of truth_of top s
    → IsLeast (whole module_of truth_of quotient) s
put-least module_of truth_of quotient none top s least put = record {
  cuts = ap quotient (put-seen module_of truth_of none top s put) ∙ least.cuts;
  least = λ t below holds e h.
      let fewer : IsBelow (seen module_of truth_of t) top = λ m held. elim (cases_Bool (top m)) [
        | inl p ↦ p
        | inr p ↦ absurd (false≢true (sym (seen-none module_of truth_of none t m (λ x q k.
            false≢true (sym p ∙ (ap top (sym q) ∙ put.only x (below x k))))) ∙ held))
      ] in
      let held : seen module_of truth_of t (module_of e) ≡ true =
      least.least (seen module_of truth_of t) fewer holds (module_of e) (put.only e h) in
      let inner : IsBelow (within module_of (module_of e) t) (within module_of (module_of e) s) = λ x k.
      let p = within-parts module_of (module_of e) t x k in
      within-from module_of (module_of e) s x p.0 (below x p.1) in
      let all = (put.parts (module_of e) (put.only e h)).least (within module_of (module_of e) t) inner held e
      (within-from module_of (module_of e) s e refl h) in
      (within-parts module_of (module_of e) t e all).1;
}
