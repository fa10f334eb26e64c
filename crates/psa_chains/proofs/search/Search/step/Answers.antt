use Rattle.std.proofs.Common.{◌≡◌, ◌++◌, ◌∷◌, [], ◌<◌, ◌-◌, ℕ, List, get_or, length, inl, inr, subst, sym, ap, ◌∙◌, arith}
use Rattle.psa_chains.specs.declared.search.Mark.{Mark}
use Rattle.psa_chains.specs.declared.search.Mark.TheVariants.{New, Open, Closed}
use Rattle.psa_chains.specs.Searching.{mark_at, entered}
use Rattle.psa_chains.proofs.Steps.{IsPast, search-past, search-joined, waiting_on, with_blocks}
use Rattle.psa_chains.proofs.Stepping.{on-ok, popped, newest-some, remaining, Stepped, step-left, step-entered, last-is}
use Rattle.psa_chains.proofs.search.Search.step.Goals as goal
use Rattle.psa_chains.proofs.search.Search.step.Goals.{in_default-via-in-Open+else-place-block, in_default-via-in_default}

left : (c : goal.After-pop) → Stepped c.args.graph.now c.args.self.now (with_blocks c.close.new.self c.pop.new.self)
left c =
    let newest = c.requires.block.1 in
    let own = newest-some c.args.self.now.blocks c.args.block c.requires.block.0 newest in
    let blocks = ap (λ s. s.blocks) c.in_ok-close.ensures in
    let p = popped c.pop.result c.close.new.self.blocks c.pop.new.self c.pop.ensures (subst (λ bs. 0 < length bs) (sym blocks) own) in
    step-left c.args.graph.now c.args.self.now c.close.new.self c.args.block p.0 c.requires.block.0 c.pop.new.self c.requires.search newest (omega (arith, c.if-len-block.true, c.len.ensures)) c.in_ok-close.ensures p.1

pub returns-then-len-block-clause-search : goal.returns-then-len-block-clause-search
returns-then-len-block-clause-search c = (left c).search

pub returns-then-len-block-clause-less : goal.returns-then-len-block-clause-less
returns-then-len-block-clause-less c = (left c).less

pub returns-then-len-block-clause-kept : goal.returns-then-len-block-clause-kept
returns-then-len-block-clause-kept c = (left c).kept

abbrev target : goal.After-enter → ℕ
target c = get_or c.as_slice.result.now (c.len-2.result - 1) 0

-- the target that waits last
last : (waiting slice : List ℕ) (length_is : ℕ) → slice ≡ waiting → length_is ≡ length waiting → get_or slice (length_is - 1) 0 ≡ get_or waiting (length waiting - 1) 0
last waiting slice n same size = ap (λ xs. get_or xs (n - 1) 0) same ∙ ap (λ k. get_or waiting (k - 1) 0) size

marked-as : (marks slice : List Mark) (t : ℕ) (m : Mark) → slice ≡ marks → get_or slice t New ≡ m → mark_at marks t ≡ m
marked-as marks slice t m same is = ap (λ xs. get_or xs t New) (sym same) ∙ is

new : (c : goal.After-enter) → c.enter.new.self ≡ entered c.args.graph.now (target c) (waiting_on c.args.self.now c.pop-in-New.new.self) → Stepped c.args.graph.now c.args.self.now c.enter.new.self
new c is =
    let s = c.args.self.now in
    let room : c.args.block.waiting < length s.waiting = omega (arith, c.if-len-block.false, c.len.ensures) in
    let p = popped c.pop-in-New.result s.waiting c.pop-in-New.new.self c.pop-in-New.ensures (omega arith) in
    let same = last-is s.waiting c.pop-in-New.new.self p.0 (target c) p.1 (last s.waiting c.as_slice.result.now c.len-2.result c.as_slice.ensures c.len-2.ensures) in
    let split = subst (λ x. s.waiting ≡ c.pop-in-New.new.self ++ x ∷ []) same p.1 in
    step-entered c.args.graph.now s c.enter.new.self c.args.block c.requires.block.0 c.pop-in-New.new.self (target c) c.requires.stand c.requires.search c.requires.block.1 room split
    (marked-as s.marks c.as_slice-2.result.now (target c) New c.as_slice-2.ensures c.in-New.is) is

pub returns-in-New-clause-search : goal.returns-in-New-clause-search
returns-in-New-clause-search c = on-ok c.enter.result _ _ (λ is. (new c is).search) c.enter.ensures

pub returns-in-New-clause-less : goal.returns-in-New-clause-less
returns-in-New-clause-less c = on-ok c.enter.result _ _ (λ is. (new c is).less) c.enter.ensures

pub returns-in-Open-clause-search : goal.returns-in-Open-clause-search
returns-in-Open-clause-search c =
    let s = c.args.self.now in
    let newest = c.requires.block.1 in
    let room : c.args.block.waiting < length s.waiting = omega (arith, c.if-len-block.false, c.len.ensures) in
    let p = popped c.pop-in-Open.result s.blocks c.pop-in-Open.new.self c.pop-in-Open.ensures (newest-some s.blocks c.args.block c.requires.block.0 newest) in
    search-joined c.args.graph.now s c.args.block c.requires.block.0 c.pop-in-Open.new.self (get_or c.as_slice.result.now (c.len-2.result - 1) 0) c.in-Open.place newest
    (remaining s.blocks c.pop-in-Open.new.self c.requires.block.0 c.args.block p.0 newest p.1) room
    (sym (last s.waiting c.as_slice.result.now c.len-2.result c.as_slice.ensures c.len-2.ensures))
    (marked-as s.marks c.as_slice-2.result.now (get_or c.as_slice.result.now (c.len-2.result - 1) 0) (Open c.in-Open.place) c.as_slice-2.ensures c.in-Open.is)
    c.if-place-block.true c.requires.search

is-past : (c : goal.After-pop-in_default) → IsPast c.args.self.now c.args.block (get_or c.as_slice.result.now (c.len-2.result - 1) 0)
is-past c =
    elim c.in_default.branch [
      | in_default-via-in-Open+else-place-block w ↦ inr (w.in-Open.place, marked-as c.args.self.now.marks c.as_slice-2.result.now (get_or c.as_slice.result.now (c.len-2.result - 1) 0) (Open w.in-Open.place) c.as_slice-2.ensures w.in-Open.is, w.if-place-block.false)
      | in_default-via-in_default w ↦ inl (w.in_default.field-0, marked-as c.args.self.now.marks c.as_slice-2.result.now (get_or c.as_slice.result.now (c.len-2.result - 1) 0) (Closed w.in_default.field-0) c.as_slice-2.ensures w.in_default.is)
    ]

pub returns-in_default-clause-search : goal.returns-in_default-clause-search
returns-in_default-clause-search c =
    let s = c.args.self.now in
    let room : c.args.block.waiting < length s.waiting = omega (arith, c.if-len-block.false, c.len.ensures) in
    let p = popped c.pop-in_default.result s.waiting c.pop-in_default.new.self c.pop-in_default.ensures (omega arith) in
    let same = last-is s.waiting c.pop-in_default.new.self p.0 (get_or c.as_slice.result.now (c.len-2.result - 1) 0) p.1 (last s.waiting c.as_slice.result.now c.len-2.result c.as_slice.ensures c.len-2.ensures) in
    let split = subst (λ x. s.waiting ≡ c.pop-in_default.new.self ++ x ∷ []) same p.1 in
    search-past c.args.graph.now s c.args.block c.requires.block.0 c.pop-in_default.new.self (get_or c.as_slice.result.now (c.len-2.result - 1) 0) split room c.requires.block.1 (is-past c) c.requires.search
