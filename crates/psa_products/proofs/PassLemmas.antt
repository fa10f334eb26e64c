-- The members of all sizes up to a limit, in order.
use Rattle.std.proofs.Common.{◌≡◌, ℕ, zero, suc, ◌+◌, ◌<◌, ◌≤◌, true, List, [], ◌++◌, length, refl, sym, ap, ap₂, ◌∙◌, inl, inr, arith}
use Rattle.std.proofs.lemmas.Bool.Decides.{eqb_tells}
use Rattle.psa_logic.specs.Sets.{Has}
use Rattle.psa_logic.specs.Products.{is_in_order, IsListing}
use Rattle.psa_logic.proofs.ListingLemmas.{has-append_left, has-append_right, has-append_cases, in_order-append}
use Rattle.psa_logic.proofs.ReportOrderLemmas.{before-shorter}
use Rattle.psa_nodes.specs.declared.node.Kind.TheVariants.{Zbdd}
use Rattle.psa_nodes.specs.declared.node.Node.{Node}
use Rattle.psa_nodes.specs.Readings.{has, stands}
use Rattle.psa_nodes.specs.Nodes.{AllFit}
use Rattle.psa_products.specs.Members.{sized, passes}
use Rattle.psa_products.proofs.MemberLemmas.{sized-sound, sized-whole, sized-order}

-- where no member has k literals or more, no later pass has one
pub passes-none : (ns : List Node) (id n k : ℕ) → ((more : ℕ) → sized ns id (k + more) ≡ []) → passes ns id k n ≡ []
passes-none ns id zero k none = refl
passes-none ns id (suc n) k none =
    let own : k + 0 ≡ k = omega arith in
    let step : (more : ℕ) → k + suc more ≡ k + 1 + more = λ more. omega arith in
    ap₂ (λ (a b : List (List ℕ)). a ++ b)
    (ap (sized ns id) (sym own) ∙ none 0)
    (passes-none ns id n (k + 1) (λ more. ap (sized ns id) (sym (step more)) ∙ none (suc more)))

module _ (ns : List Node) (fit : AllFit ns) (id : ℕ) (h : stands Zbdd 0 ns id ≡ true) where
  -- a member of one of n sizes from k on
  pub record IsInPasses (k n : ℕ) (set : List ℕ) : Type 0 where
    pub is_member : has ns id set ≡ true
    pub least : k ≤ length set
    pub most : length set < k + n

  -- what the passes list are members of these sizes
  pub passes-sound : (n k : ℕ) (set : List ℕ) → Has (passes ns id k n) set → IsInPasses k n set
  passes-sound zero k set m = absurd m
  passes-sound (suc n) k set m = elim (has-append_cases (sized ns id k) (passes ns id (k + 1) n) set m) [
    | inl p ↦
        let r = sized-sound ns fit 0 id h k set p in
        record { is_member = r.is_member; least = omega (arith, r.of_size); most = omega (arith, r.of_size) }
    | inr p ↦
        let r = passes-sound n (k + 1) set p in
        record { is_member = r.is_member; least = omega (arith, r.least); most = omega (arith, r.most) }
  ]

  -- all members of these sizes
  pub passes-whole : (n k : ℕ) (set : List ℕ) → IsInPasses k n set → Has (passes ns id k n) set
  passes-whole zero k set r = absurd (omega (arith, r.least, r.most))
  passes-whole (suc n) k set r = elim (eqb_tells k (length set)) [
    | inl p ↦ has-append_left (sized ns id k) (passes ns id (k + 1) n) set (rw p.1 (sized-whole ns id set r.is_member))
    | inr p ↦ has-append_right (sized ns id k) (passes ns id (k + 1) n) set
        (passes-whole n (k + 1) set (record { is_member = r.is_member; least = omega (arith, r.least, p.1); most = omega (arith, r.most) }))
  ]

  -- and they stand in order
  pub passes-order : (n k : ℕ) → is_in_order (passes ns id k n) ≡ true
  passes-order zero k = refl
  passes-order (suc n) k =
      in_order-append (sized ns id k) (passes ns id (k + 1) n) (sized-order ns fit 0 id h k) (passes-order n (k + 1))
      (λ a b ma mb.
      let ra = sized-sound ns fit 0 id h k a ma in
      let rb = passes-sound n (k + 1) b mb in
      before-shorter a b (omega (arith, ra.of_size, rb.least)))

  -- all members, where none has more than `limit` literals
  pub listing : (limit : ℕ) → ((set : List ℕ) → has ns id set ≡ true → length set ≤ limit) → IsListing (λ set. has ns id set ≡ true) (passes ns id 0 (limit + 1))
  listing limit within = record {
    ordered = passes-order (limit + 1) 0;
    sound = λ set m. (passes-sound (limit + 1) 0 set m).is_member;
    whole = λ set m. passes-whole (limit + 1) 0 set (let w = within set m in record { is_member = m; least = omega arith; most = omega (arith, w) });
  }
