use Rattle.std.proofs.Common.{◌≡◌, ◌-◌, ◌<◌, true, Some, List, length, sym, ap, ◌∙◌, subst, arith}
use Rattle.std.specs.List.{slice_get, list_all}
use Rattle.psa_model.specs.declared.formula.Formula.{Formula}
use Rattle.psa_model.specs.declared.formula.Formula.TheVariants as variant
use Rattle.psa_model.specs.Parts.{in_gate}
use Rattle.psa_model.specs.Truth.{within}
use Rattle.psa_model.proofs.Levels.{some-level, arguments-within, gate-within, gate-stands, basic-stands, house-stands}
use Rattle.psa_prep.specs.Lowering.{houses_of}
use Rattle.std.proofs.lemmas.Option.{slice_get-get_or}
use Rattle.psa_prep.proofs.ListLemmas.{all-at, at-place, some-none}
use Rattle.psa_prep.proofs.LoweringLemmas.{makes-as, makes-house, makes-constant, meets-as, gate-known, gate-made, argument-meets, some-start, some-more, some-end, operands-made, connective-made}
use Rattle.psa_prep.proofs.PlaceLemmas.{if-ok}
use Rattle.psa_prep.proofs.lowering.+lowering.Goals as goal

pub lower-lower_gate-requires : goal.lower-lower_gate-requires
lower-lower_gate-requires t c = (
  omega arith,
  (
    subst (λ f. within c.args.depth c.args.context.now.expanded.now.model f ≡ true) c.in-Gate.is c.requires.within,
    (c.requires.depth, (meets-as c.args.context.now c.args.formula.now (variant.Gate c.in-Gate.id) c.in-Gate.is c.requires.meets, (c.requires.context, c.requires.sound))),
  ),
)

pub lower-lower_basic-requires-clause-stands : goal.lower-lower_basic-requires-clause-stands
lower-lower_basic-requires-clause-stands t c =
    basic-stands c.args.depth c.args.context.now.expanded.now.model c.in-Basic.id (subst (λ f. within c.args.depth c.args.context.now.expanded.now.model f ≡ true) c.in-Basic.is c.requires.within)

pub lower-lower_basic-requires-clause-meets : goal.lower-lower_basic-requires-clause-meets
lower-lower_basic-requires-clause-meets t c = meets-as c.args.context.now c.args.formula.now (variant.Basic c.in-Basic.id) c.in-Basic.is c.requires.meets

pub lower-state-requires-clause-earlier : goal.lower-state-requires-clause-earlier
lower-state-requires-clause-earlier t c = c.requires.context.earlier

pub lower-state-requires-clause-number : goal.lower-state-requires-clause-number
lower-state-requires-clause-number t c = c.requires.context.within

pub lower-state-requires-clause-house : goal.lower-state-requires-clause-house
lower-state-requires-clause-house t c =
    house-stands c.args.depth c.args.context.now.expanded.now.model c.in-House.id (subst (λ f. within c.args.depth c.args.context.now.expanded.now.model f ≡ true) c.in-House.is c.requires.within)

pub lower-overflow_sub-depth : goal.lower-overflow_sub-depth
lower-overflow_sub-depth t c =
    let some = some-level c.args.depth c.args.context.now.expanded.now.model c.args.formula.now c.requires.within in omega arith

pub lower-lower_all-requires : goal.lower-lower_all-requires
lower-lower_all-requires t c =
    let some = some-level c.args.depth c.args.context.now.expanded.now.model c.args.formula.now c.requires.within in
    let whole = subst (λ f. within c.args.depth c.args.context.now.expanded.now.model f ≡ true) c.in-Connective.is c.requires.within in (
      omega arith,
      (
        subst (λ (gs : List Formula). list_all (λ g. within (c.args.depth - 1) c.args.context.now.expanded.now.model g) gs ≡ true) (sym c.as_slice-arguments.ensures)
            (arguments-within c.args.depth c.args.context.now.expanded.now.model c.in-Connective.operator c.in-Connective.min c.in-Connective.max c.in-Connective.arguments whole),
        (
          omega (arith, c.requires.depth),
          (
            argument-meets c.args.context.now c.args.formula.now c.in-Connective.operator c.in-Connective.min c.in-Connective.max c.in-Connective.arguments c.as_slice-arguments.result.now c.in-Connective.is c.as_slice-arguments.ensures c.requires.meets,
            (c.requires.context, c.requires.sound),
          ),
        ),
      ),
    )

pub lower-connect-requires-clause-operands : goal.lower-connect-requires-clause-operands
lower-connect-requires-clause-operands t c =
    operands-made c.args.context.now c.args.formula.now c.args.depth (record { operator = c.in-Connective.operator; min = c.in-Connective.min; max = c.in-Connective.max; arguments = c.as_slice-arguments.result; pairs = c.as_slice-made.result }) c.args.builder.now c.lower_all.new.builder c.args.signs c.in_ok-pairs-in-Connective.pairs.items
    (c.in-Connective.is ∙ ap (variant.Connective c.in-Connective.operator c.in-Connective.min c.in-Connective.max) (sym c.as_slice-arguments.ensures))
    c.requires.within c.requires.depth c.requires.meets c.as_slice-made.ensures.value c.in_ok-pairs-in-Connective.ensures

pub lower-connect-requires-clause-sound : goal.lower-connect-requires-clause-sound
lower-connect-requires-clause-sound t c = c.in_ok-pairs-in-Connective.ensures.sound

pub lower-returns-in_ok-pairs-in-Connective : goal.lower-returns-in_ok-pairs-in-Connective
lower-returns-in_ok-pairs-in-Connective t c =
    if-ok c.connect.result _ _
    (λ pair made. connective-made c.args.context.now c.args.formula.now (record { operator = c.in-Connective.operator; min = c.in-Connective.min; max = c.in-Connective.max; arguments = c.as_slice-arguments.result; pairs = c.as_slice-made.result }) c.args.builder.now c.lower_all.new.builder c.connect.new.builder c.args.signs c.in_ok-pairs-in-Connective.pairs.items pair
    (c.in-Connective.is ∙ ap (variant.Connective c.in-Connective.operator c.in-Connective.min c.in-Connective.max) (sym c.as_slice-arguments.ensures))
    c.in_ok-pairs-in-Connective.ensures made) c.connect.ensures

pub lower-returns-in-Gate : goal.lower-returns-in-Gate
lower-returns-in-Gate t c =
    if-ok c.lower_gate.result _ _ (λ pair made. makes-as c.args.context.now c.args.formula.now (variant.Gate c.in-Gate.id) c.args.signs c.args.builder.now c.lower_gate.new.builder pair c.in-Gate.is made) c.lower_gate.ensures

pub lower-returns-in-Basic : goal.lower-returns-in-Basic
lower-returns-in-Basic t c =
    if-ok c.lower_basic.result _ _ (λ pair made. makes-as c.args.context.now c.args.formula.now (variant.Basic c.in-Basic.id) c.args.signs c.args.builder.now c.lower_basic.new.builder pair c.in-Basic.is made) c.lower_basic.ensures

pub lower-returns-in-House : goal.lower-returns-in-House
lower-returns-in-House t c =
    rw c.constant.ensures (makes-house c.args.context.now c.args.formula.now c.in-House.id c.args.signs c.args.builder.now c.state.result c.in-House.is c.requires.sound c.state.ensures)

pub lower-returns-in-Constant : goal.lower-returns-in-Constant
lower-returns-in-Constant t c =
    rw c.constant-in-Constant.ensures (makes-constant c.args.context.now c.args.formula.now c.args.signs c.args.builder.now c.in-Constant.value c.in-Constant.is c.requires.sound)

pub lower_gate-overflow_sub-depth : goal.lower_gate-overflow_sub-depth
lower_gate-overflow_sub-depth t c =
    let some = some-level c.args.depth c.args.context.now.expanded.now.model (variant.Gate c.args.id) c.requires.within in omega arith

pub lower_gate-returns-then-is_none : goal.lower_gate-returns-then-is_none
lower_gate-returns-then-is_none t c =
    gate-known c.args.context.now c.args.id c.args.signs c.without-missing.result c.recall-known.result c.args.builder.now c.requires.sound c.recall-known.ensures c.without-missing.ensures (sym c.is_none.ensures ∙ c.if-is_none.true)

pub lower_gate-lower-requires : goal.lower_gate-lower-requires
lower_gate-lower-requires t c =
    let some = some-level c.args.depth c.args.context.now.expanded.now.model (variant.Gate c.args.id) c.requires.within in
    let found : slice_get c.args.context.now.expanded.now.model.gates c.args.id.0 ≡ Some c.in-Some.gate.now = ap (λ gs. slice_get gs c.args.id.0) (sym c.as_slice.ensures) ∙ sym c.in-Some.ensures in (
      omega arith,
      (
        gate-within c.args.depth c.args.context.now.expanded.now.model c.args.id c.in-Some.gate.now c.requires.within found,
        (
          omega (arith, c.requires.depth),
          (in_gate c.args.context.now.target.now (houses_of c.args.context.now) c.args.id c.in-Some.gate.now c.requires.meets found, (c.requires.context, c.requires.sound)),
        ),
      ),
    )

pub lower_gate-returns : goal.lower_gate-returns
lower_gate-returns t c =
    rw c.with-known.ensures
    (gate-made c.args.context.now c.args.depth c.args.id c.in-Some.gate.now c.args.signs c.without-missing.result c.recall-known.result c.args.builder.now c.lower.new.builder c.remember.new.self c.in_ok-pair-in-Some.pair c.requires.depth c.requires.within
    (ap (λ gs. slice_get gs c.args.id.0) (sym c.as_slice.ensures) ∙ sym c.in-Some.ensures) c.requires.context c.requires.sound c.recall-known.ensures c.without-missing.ensures c.in_ok-pair-in-Some.ensures
    (rw c.with-known.ensures at c.in_ok-remember-in-Some.ensures))

pub lower_gate-unreachable-requires : goal.lower_gate-unreachable-requires
lower_gate-unreachable-requires t c =
    let stands : c.args.id.0 < length c.args.context.now.expanded.now.model.gates = gate-stands c.args.depth c.args.context.now.expanded.now.model c.args.id c.requires.within in
    let found = at-place c.args.context.now.expanded.now.model.gates c.args.id.0 stands in
    some-none c.args.context.now.expanded.now.model.gates c.args.id.0 found.0 found.1 (ap (λ gs. slice_get gs c.args.id.0) (sym c.as_slice.ensures) ∙ sym c.in-None.ensures)

pub lower_all-loop-place-init : goal.lower_all-loop-place-init
lower_all-loop-place-init t c = some-start c.args.context.now c.args.operator c.args.arguments.now c.args.signs c.args.builder.now c.in_ok-pairs.pairs.items c.in_ok-pairs.ensures.items c.requires.sound

pub lower_all-lower-requires : goal.lower_all-lower-requires
lower_all-lower-requires t c =
    let found : slice_get c.args.arguments.now c.loop-place.place ≡ Some c.index-arguments-place.result = slice_get-get_or c.args.arguments.now c.loop-place.place c.index-arguments-place.result c.loop-place-test.true ∙ ap Some (sym c.index-arguments-place.is) in (
      omega arith,
      (
        all-at (λ g. within c.args.depth c.args.context.now.expanded.now.model g) c.args.arguments.now c.loop-place.place c.index-arguments-place.result c.requires.within c.loop-place-test.true c.index-arguments-place.is,
        (
          omega (arith, c.requires.depth),
          (c.requires.meets c.loop-place.place c.index-arguments-place.result found, (c.requires.context, c.loop-place.invariant.sound)),
        ),
      ),
    )

pub lower_all-loop-place-preserved : goal.lower_all-loop-place-preserved
lower_all-loop-place-preserved t c =
    let found : slice_get c.args.arguments.now c.loop-place.place ≡ Some c.index-arguments-place.result = slice_get-get_or c.args.arguments.now c.loop-place.place c.index-arguments-place.result c.loop-place-test.true ∙ ap Some (sym c.index-arguments-place.is) in
    some-more c.args.context.now c.args.operator c.args.arguments.now c.args.signs c.asked_of-asked.result c.loop-place.place c.index-arguments-place.result c.args.builder.now c.loop-place.builder c.lower.new.builder c.loop-place.pairs.items c.push.new.self.items c.in_ok-pair.pair
    found c.asked_of-asked.ensures c.in_ok-push.ensures.items c.loop-place.invariant c.in_ok-pair.ensures

pub lower_all-returns : goal.lower_all-returns
lower_all-returns t c =
    some-end c.args.context.now c.args.operator c.args.arguments.now c.args.signs c.loop-place.place c.args.builder.now c.loop-place.builder c.loop-place.pairs.items (omega arith) c.loop-place.invariant
