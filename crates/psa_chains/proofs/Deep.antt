-- Depths along an order of the definitions.
use Rattle.std.proofs.Common.{◌≡◌, ◌≤◌, ◌<◌, ◌+◌, ◌^◌, inl, inr, ℕ, suc, max, List, [], ◌∷◌, length, get_or, set, take, refl, sym, ap, ◌∙◌, subst, arith}
use Rattle.std.specs.List.{Contains}
use Rattle.std.proofs.lemmas.List.{length-take, get_or-take, get_or_default, get_or-set_same, get_or-set_other, take_all, set_past}
use Rattle.std.proofs.lemmas.Bool.{cases_eq, cases_lt}
use Rattle.psa_chains.specs.declared.reference.Reference.{Reference}
use Rattle.psa_chains.specs.Chains.{row, targets, RefersTo, AllStand, AreComponents, HasNoCycle}
use Rattle.psa_chains.specs.Depths.{deepest, depth_by, AreDepths, IsOrder, AreRight, AreBelow}
use Rattle.psa_chains.proofs.Walks.{tied-cyclic, refers-at}

-- without cycles each reference leads to an earlier place
pub order-acyclic : (g : List (List Reference)) (ranks order : List ℕ) → AllStand g → AreComponents g ranks order → HasNoCycle g → IsOrder g order
order-acyclic g ranks order stand are acyclic i target low refers =
    elim (are.ordered i target low refers) [
      | inl before ↦ before
      | inr tied ↦ absurd (acyclic (get_or order i 0) (tied-cyclic g ranks (get_or order i 0) target stand are.ranks_right refers tied))
    ]

-- depths that agree on what is referred to
deepest-same : (a b : List ℕ) (rs : List Reference) → ((k : ℕ) → k < length rs → get_or a (get_or (targets rs) k 0) 0 ≡ get_or b (get_or (targets rs) k 0) 0) → deepest a rs ≡ deepest b rs
deepest-same a b [] same = refl
deepest-same a b (r ∷ rs) same =
    let here = same 0 (omega arith) in
    let rest = deepest-same a b rs (λ k low. same (suc k) (omega arith)) in
    rw (here, rest) refl

front-longer : (order : List ℕ) (i j x : ℕ) → i ≤ j → Contains (take i order) x → Contains (take j order) x
front-longer order i j x le h =
    let low : h.0 < i = omega (arith, h.1, length-take i order) in (
      h.0,
      omega (arith, h.1, length-take i order, length-take j order),
      get_or-take j order h.0 x (omega arith) ∙ sym (get_or-take i order h.0 x low) ∙ h.2,
    )

module _ (g : List (List Reference)) (nested order depths : List ℕ) (i : ℕ) (inside : i < length order) (is : IsOrder g order)
    (room : get_or order i 0 < length depths) (right : AreRight g nested depths (take i order)) where
  abbrev node : ℕ
  node = get_or order i 0

  abbrev more : List ℕ
  more = set depths node (depth_by depths (get_or nested node 0) (row g node))

  -- the depths of the front stay
  front-same : (q : ℕ) → Contains (take i order) q → get_or more q 0 ≡ get_or depths q 0
  front-same q there =
      elim (cases_eq q node) [
        | inl same ↦ (let own = right q there in
            subst (λ x. get_or more x 0 ≡ get_or depths x 0) (sym same)
            (get_or-set_same depths node _ 0 room ∙ sym (subst (λ x. get_or depths x 0 ≡ depth_by depths (get_or nested x 0) (row g x)) same own)))
        | inr other ↦ get_or-set_other depths node q _ 0 other
      ]

  -- what the front and the node refer to stands in the front
  refers-front : (q t : ℕ) → Contains (take (i + 1) order) q → RefersTo g q t → Contains (take i order) t
  refers-front q t there refers =
      let low : there.0 < i + 1 = omega (arith, there.1, length-take (i + 1) order) in
      let within : there.0 < length order = omega arith in
      let at : get_or order there.0 0 ≡ q = get_or_default order there.0 0 q within ∙ sym (get_or-take (i + 1) order there.0 q low) ∙ there.2 in
      let before = is there.0 t within (subst (λ x. RefersTo g x t) (sym at) refers) in
      front-longer order there.0 i t (omega arith) before

  same-row : (q : ℕ) → Contains (take (i + 1) order) q → depth_by depths (get_or nested q 0) (row g q) ≡ depth_by more (get_or nested q 0) (row g q)
  same-row q there = ap (λ d. max (get_or nested q 0) d) (deepest-same depths more (row g q) (λ k low. sym (front-same _ (refers-front q _ there (refers-at g q k low)))))

  -- what the longer front has beside the node, the front has
  front-other : (q : ℕ) → Contains (take (i + 1) order) q → (q ≡ node → ⊥) → Contains (take i order) q
  front-other q there other =
      let low : there.0 < i + 1 = omega (arith, there.1, length-take (i + 1) order) in
      let within : there.0 < length order = omega arith in
      let at : get_or order there.0 0 ≡ q = get_or_default order there.0 0 q within ∙ sym (get_or-take (i + 1) order there.0 q low) ∙ there.2 in
      elim (cases_eq there.0 i) [
        | inl last ↦ absurd (other (sym at ∙ ap (λ k. get_or order k 0) last))
        | inr less ↦ (there.0, omega (arith, length-take i order), get_or-take i order there.0 q (omega arith) ∙ get_or_default order there.0 q 0 within ∙ at)
      ]

  -- the depth of one more place of the order is right, and those before stay right
  pub right-more : AreRight g nested more (take (i + 1) order)
  right-more q there =
      elim (cases_eq q node) [
        | inl same ↦ subst (λ x. get_or more x 0 ≡ depth_by more (get_or nested x 0) (row g x)) (sym same)
            (get_or-set_same depths node _ 0 room ∙ same-row node (subst (λ x. Contains (take (i + 1) order) x) same there))
        | inr other ↦ (let front = front-other q there other in front-same q front ∙ right q front ∙ same-row q there)
      ]

-- one more depth raises the bound by one level
pub below-more : (depths : List ℕ) (i place depth bound : ℕ) → AreBelow bound depths → depth ≤ bound + 2 ^ 32 → AreBelow (bound + 2 ^ 32) (set depths place depth)
below-more depths i place depth bound below fits q =
    elim (cases_lt place (length depths)) [
      | inl room ↦ elim (cases_eq q place) [
        | inl same ↦ subst (λ x. get_or (set depths place depth) x 0 ≤ bound + 2 ^ 32) (sym same) (subst (λ x. x ≤ bound + 2 ^ 32) (sym (get_or-set_same depths place depth 0 room)) fits)
        | inr other ↦ subst (λ x. x ≤ bound + 2 ^ 32) (sym (get_or-set_other depths place q depth 0 other)) (omega (arith, below q))
      ]
      | inr past ↦ subst (λ xs. get_or xs q 0 ≤ bound + 2 ^ 32) (sym (set_past depths place depth past)) (omega (arith, below q))
    ]

-- at the end of the order all depths are right
pub right-all : (g : List (List Reference)) (ranks order nested depths : List ℕ) (i : ℕ) → AreComponents g ranks order → length depths ≡ length g → length order ≤ i → AreRight g nested depths (take i order) → AreDepths g nested depths
right-all g ranks order nested depths i are all past right = record {
  all = all;
  each = λ place low. right place (subst (λ xs. Contains xs place) (sym (take_all i order past)) (are.listed place low));
}
