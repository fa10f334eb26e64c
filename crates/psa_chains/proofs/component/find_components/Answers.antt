use Rattle.std.proofs.Common.{◌≡◌, ◌<◌, ◌+◌, ℕ, List, [], get_or, subst, sym, ap, ◌∙◌, refl, arith, inl, inr}
use Rattle.std.proofs.lemmas.Bool.{cases_eq}
use Rattle.psa_chains.specs.declared.search.Mark.{Mark}
use Rattle.psa_chains.specs.declared.search.Mark.TheVariants.{New}
use Rattle.psa_chains.specs.declared.search.Search.{Search}
use Rattle.psa_chains.specs.declared.reference.Reference.{Reference}
use Rattle.psa_chains.specs.Searching.{mark_of, mark_at, IsSearch, AllClosed, KeepsSeen, RanksAre}
use Rattle.psa_chains.proofs.Entering.{search-begun}
use Rattle.psa_chains.proofs.Ranked.{search-fresh, all-closed, ranks-right, seen-more}
use Rattle.psa_chains.proofs.component.find_components.Goals as goal
use Rattle.psa_chains.proofs.component.find_components.Goals.{in-New+in_ok-enter+in_ok-explore, in_default}

-- what is kept from node to node
abbrev Kept : List (List Reference) → Search → ℕ → Type 0
Kept g s node = record { search : IsSearch g s; none : s.blocks ≡ []; seen : (k : ℕ) → k < node → mark_of s k ≡ New → ⊥ }

is-new : (marks slice : List Mark) (node : ℕ) → slice ≡ marks → get_or slice node New ≡ New → mark_at marks node ≡ New
is-new marks slice node same is = ap (λ xs. get_or xs node New) (sym same) ∙ is

not-new : (marks slice : List Mark) (node : ℕ) → slice ≡ marks → (get_or slice node New ≡ New → ⊥) → mark_at marks node ≡ New → ⊥
not-new marks slice node same not is = not (ap (λ xs. get_or xs node New) same ∙ is)

seen-next : (s : Search) (node : ℕ) → ((k : ℕ) → k < node → mark_of s k ≡ New → ⊥) → (mark_of s node ≡ New → ⊥) → (k : ℕ) → k < node + 1 → mark_of s k ≡ New → ⊥
seen-next s node seen here k low is =
    elim (cases_eq k node) [
      | inl same ↦ here (subst (λ x. mark_of s x ≡ New) same is)
      | inr other ↦ seen k (omega arith) is
    ]

pub loop-node-init : goal.loop-node-init
loop-node-init c =
    subst (λ s. Kept c.args.graph.now s 0) (sym c.in_ok-search.ensures)
    (record { search = search-fresh c.args.graph.now; none = refl; seen = λ k low. absurd (omega arith) })

pub explore-requires-clause-search : goal.explore-requires-clause-search
explore-requires-clause-search c =
    let s = c.loop-node.search in
    let inv = c.loop-node.invariant in
    subst (λ x. IsSearch c.args.graph.now x) (sym c.in_ok-enter.ensures)
    (search-begun c.args.graph.now s c.loop-node.node c.requires.stand (omega (arith, inv.search.base.all)) (is-new s.marks c.as_slice.result.now c.loop-node.node c.as_slice.ensures c.in-New.is) inv.none inv.search)

pub loop-node-preserved : goal.loop-node-preserved
loop-node-preserved c =
    let s = c.loop-node.search in
    let inv = c.loop-node.invariant in
    elim c.match-mark.branch [
      | in-New+in_ok-enter+in_ok-explore w ↦
          subst (λ x. Kept c.args.graph.now x (c.loop-node.node + 1)) (sym w.search-is) (record {
            search = w.in_ok-explore.ensures.search;
            none = w.in_ok-explore.ensures.left;
            seen = seen-more c.args.graph.now s w.explore.new.self c.loop-node.node (omega (arith, inv.search.base.all)) (is-new s.marks c.as_slice.result.now c.loop-node.node c.as_slice.ensures w.in-New.is)
                (subst (λ x. KeepsSeen x w.explore.new.self) w.in_ok-enter.ensures w.in_ok-explore.ensures.kept) inv.seen;
          })
      | in_default w ↦
          subst (λ x. Kept c.args.graph.now x (c.loop-node.node + 1)) (sym w.search-is) (record {
            search = inv.search;
            none = inv.none;
            seen = seen-next s c.loop-node.node inv.seen (not-new s.marks c.as_slice.result.now c.loop-node.node c.as_slice.ensures w.in_default.not-New);
          })
    ]

pub ranks_of-requires : goal.ranks_of-requires
ranks_of-requires c =
    let inv = c.loop-node.invariant in
    subst AllClosed (sym c.as_slice-2.ensures) (all-closed c.args.graph.now c.loop-node.search inv.search inv.none (λ k low. inv.seen k (omega arith)))

pub returns : goal.returns
returns c = ranks-right c.args.graph.now c.loop-node.search c.in_ok-ranks_of.field-0 c.requires.stand c.loop-node.invariant.search
    (subst (λ ms. RanksAre ms c.in_ok-ranks_of.field-0) c.as_slice-2.ensures c.in_ok-ranks_of.ensures)
