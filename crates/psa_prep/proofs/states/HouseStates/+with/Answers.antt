use Rattle.std.proofs.Common.{◌≡◌, ◌<◌, ◌-◌, ◌/◌, ℕ, suc, List, reverse, refl, ap, sym, subst, arith}
use Rattle.psa_prep.specs.declared.states.Changes.{Changes}
use Rattle.psa_prep.specs.declared.states.HouseStates.{HouseStates}
use Rattle.psa_prep.specs.States.{IsWith}
use Rattle.psa_prep.proofs.PlaceLemmas.{if-ok}
use Rattle.psa_prep.proofs.StateLemmas.{with-first, with-left, with-right, one-bit-less}
use Rattle.psa_prep.proofs.states.HouseStates.+with.Goals.{then-more-eq0+in_ok-parts, else-more-eq0+in_ok-parts-2}
use Rattle.psa_prep.proofs.states.HouseStates.+with.Goals as goal

pub returns-then-house-eq0 : goal.returns-then-house-eq0
returns-then-house-eq0 t c =
    if-ok c.join.result _ _
    (λ next joined. subst (λ (h : ℕ). IsWith (reverse c.args.self.now.changes.keys) (reverse c.join.new.self.changes.keys) c.args.number h c.args.changed next) (sym c.if-house-eq0.true)
    (with-first (reverse c.args.self.now.changes.keys) (reverse c.join.new.self.changes.keys) c.args.number next c.parts-parts.result _ c.args.changed c.requires.number c.parts-parts.ensures refl refl refl joined))
    c.join.ensures

pub with-requires : goal.with-requires
with-requires t c =
    let some : 0 < c.args.house = omega (arith, c.if-house-eq0.false) in
    let less = one-bit-less c.args.bits c.args.house some c.requires.few in
    (omega (arith, less.0, c.decreases), (c.requires.shared, (c.parts-parts.ensures.left, less.1)))

pub with-requires-else-more-eq0 : goal.with-requires-else-more-eq0
with-requires-else-more-eq0 t c =
    let some : 0 < c.args.house = omega (arith, c.if-house-eq0.false) in
    let less = one-bit-less c.args.bits c.args.house some c.requires.few in
    (omega (arith, less.0, c.decreases), (c.requires.shared, (c.parts-parts.ensures.right, less.1)))

pub returns : goal.returns
returns t c = elim c.if-more-eq0.branch [
  | then-more-eq0+in_ok-parts w ↦
      let mid : List Changes = reverse c.if-more-eq0.self.changes.keys in
      let inner : IsWith (reverse c.args.self.now.changes.keys) mid c.parts-parts.result.left ((c.args.house - 1) / 2) c.args.changed w.in_ok-parts.field-0 =
      subst (λ (ts : List Changes). IsWith (reverse c.args.self.now.changes.keys) ts c.parts-parts.result.left ((c.args.house - 1) / 2) c.args.changed w.in_ok-parts.field-0)
      (sym (ap (λ (s : HouseStates). reverse s.changes.keys) w.self-is)) w.in_ok-parts.ensures in
      let next : c.args.house ≡ suc (c.args.house - 1) = omega (arith, c.if-house-eq0.false) in
      if-ok c.join-2.result _ _
      (λ n joined. with-left (reverse c.args.self.now.changes.keys) mid (reverse c.join-2.new.self.changes.keys) c.args.number c.args.house (c.args.house - 1) n w.in_ok-parts.field-0 c.parts-parts.result c.if-more-eq0.parts c.args.changed
      c.requires.number next w.if-more-eq0.true c.parts-parts.ensures (ap (λ (p : Changes). p.left) w.parts-is) (ap (λ (p : Changes). p.right) w.parts-is) (ap (λ (p : Changes). p.first) w.parts-is) inner joined) c.join-2.ensures
  | else-more-eq0+in_ok-parts-2 w ↦
      let mid : List Changes = reverse c.if-more-eq0.self.changes.keys in
      let inner : IsWith (reverse c.args.self.now.changes.keys) mid c.parts-parts.result.right ((c.args.house - 1) / 2) c.args.changed w.in_ok-parts-2.field-0 =
      subst (λ (ts : List Changes). IsWith (reverse c.args.self.now.changes.keys) ts c.parts-parts.result.right ((c.args.house - 1) / 2) c.args.changed w.in_ok-parts-2.field-0)
      (sym (ap (λ (s : HouseStates). reverse s.changes.keys) w.self-is)) w.in_ok-parts-2.ensures in
      let next : c.args.house ≡ suc (c.args.house - 1) = omega (arith, c.if-house-eq0.false) in
      if-ok c.join-2.result _ _
      (λ n joined. with-right (reverse c.args.self.now.changes.keys) mid (reverse c.join-2.new.self.changes.keys) c.args.number c.args.house (c.args.house - 1) n w.in_ok-parts-2.field-0 c.parts-parts.result c.if-more-eq0.parts c.args.changed
      c.requires.number next w.if-more-eq0.false c.parts-parts.ensures (ap (λ (p : Changes). p.left) w.parts-is) (ap (λ (p : Changes). p.right) w.parts-is) (ap (λ (p : Changes). p.first) w.parts-is) inner joined) c.join-2.ensures
]
