use Rattle.std.proofs.Common.{◌≡◌, ◌<◌, ◌≤◌, ◌+◌, ℕ, List, [], ◌∷◌, ◌++◌, length, get_or, take, drop, reverse, set, refl, sym, ap, ◌∙◌, subst, arith, append_assoc}
use Rattle.std.proofs.lemmas.List.{length_push, get_or-take, get_or_push, take_at, drop_more, take-take, reverse-append}
use Rattle.psa_chains.specs.declared.search.Mark.TheVariants.{Closed}
use Rattle.psa_chains.specs.Searching.{marked}
use Rattle.psa_chains.proofs.Marks.{marked-length}
use Rattle.psa_chains.proofs.search.Search.close.Goals as goal

-- the last of a front of a list
last-of : (stack front rest : List ℕ) (node : ℕ) → length front ≤ length stack → front ≡ take (length front) stack → front ≡ rest ++ node ∷ [] → (length rest < length stack) × (get_or stack (length rest) 0 ≡ node) × (rest ≡ take (length rest) stack)
last-of stack front rest node fits is split =
    let size : length front ≡ length rest + 1 = ap length split ∙ length_push rest node in
    let low : length rest < length front = omega arith in (
      omega arith,
      sym (get_or-take (length front) stack (length rest) 0 low) ∙ ap (λ xs. get_or xs (length rest) 0) (sym is ∙ split) ∙ get_or_push rest node 0 (length rest) refl,
      sym (take_at rest (node ∷ []) (length rest) refl) ∙ ap (take (length rest)) (sym split ∙ is) ∙ take-take (length rest) (length front) stack (omega arith),
    )

dropped : (stack : List ℕ) (i node : ℕ) → i < length stack → get_or stack i 0 ≡ node → drop i stack ≡ node ∷ drop (i + 1) stack
dropped stack i node low at = drop_more stack i 0 low ∙ ap (λ n. n ∷ drop (i + 1) stack) at

pub set-requires : goal.set-requires
set-requires c =
    let inv = c.loop-block.invariant in
    let l = last-of c.args.self.now.stack c.loop-block.self.stack c.pop.new.self c.in-Some.node inv.fits inv.stack c.in-Some.ensures in
    let room = subst (λ n. n < length c.args.self.now.marks) l.1 (c.requires.nodes (length c.pop.new.self) l.0) in
    omega (arith, ap length inv.marks, marked-length (Closed (length c.args.self.now.order)) (drop (length c.loop-block.self.stack) c.args.self.now.stack) c.args.self.now.marks)

pub loop-block-preserved : goal.loop-block-preserved
loop-block-preserved c =
    let inv = c.loop-block.invariant in
    let stack = c.args.self.now.stack in
    let l = last-of stack c.loop-block.self.stack c.pop.new.self c.in-Some.node inv.fits inv.stack c.in-Some.ensures in
    let size : length c.loop-block.self.stack ≡ length c.pop.new.self + 1 = ap length c.in-Some.ensures ∙ length_push c.pop.new.self c.in-Some.node in
    let more = dropped stack (length c.pop.new.self) c.in-Some.node l.0 l.1 in
    record {
      low = omega (arith, c.loop-block-test.true, c.len.ensures);
      fits = omega (arith, l.0);
      stack = l.2;
      marks = c.set.ensures ∙ ap (λ ms. set ms c.in-Some.node (Closed c.len-rank.result)) inv.marks ∙ ap (λ r. set (marked (Closed (length c.args.self.now.order)) (drop (length c.loop-block.self.stack) stack) c.args.self.now.marks) c.in-Some.node (Closed r)) c.len-rank.ensures ∙ ap (λ n. set (marked (Closed (length c.args.self.now.order)) (drop n stack) c.args.self.now.marks) c.in-Some.node (Closed (length c.args.self.now.order))) size ∙ sym (ap (λ xs. marked (Closed (length c.args.self.now.order)) xs c.args.self.now.marks) more);
      order = c.in_ok-push.ensures.ok ∙ ap (λ xs. xs ++ c.in-Some.node ∷ []) (inv.order ∙ ap (λ n. c.args.self.now.order ++ reverse (drop n stack)) size) ∙ append_assoc c.args.self.now.order (reverse (drop (length c.pop.new.self + 1) stack)) (c.in-Some.node ∷ []) ∙ sym (ap (λ xs. c.args.self.now.order ++ xs) (ap reverse more ∙ reverse-append (c.in-Some.node ∷ []) (drop (length c.pop.new.self + 1) stack)));
      waiting = inv.waiting;
      blocks = inv.blocks;
    }
