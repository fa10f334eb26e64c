use Rattle.std.proofs.Common.{◌≡◌, Some, sym, ap, ◌∙◌, subst}
use Rattle.std.specs.List.{slice_get}
use Rattle.psa_prep.specs.declared.builder.Prepared.TheVariants as prepared
use Rattle.psa_model.specs.declared.formula.Formula.{Formula}
use Rattle.psa_prep.specs.Pairs.{without}
use Rattle.psa_prep.specs.Sound.{Made, formula_truth, state_houses}
use Rattle.psa_prep.specs.Paths.{task_world, changes_of, yes_signs}
use Rattle.psa_prep.proofs.LoweringLemmas.{known-made, prepared-made}
use Rattle.psa_prep.proofs.ListLemmas.{at-place, some-none, some-same}
use Rattle.psa_prep.proofs.paths.lower_collected.Goals as goal

pub returns-then-is_none : goal.returns-then-is_none
returns-then-is_none c =
    λ f found. known-made (task_world c.args.task.now (changes_of c.args.states.now)) (prepared.Formula c.args.id.0 c.args.number) f yes_signs c.without-missing.result c.recall-known.result c.args.builder.now c.requires.started.sound found c.recall-known.ensures
    (c.without-missing.ensures ∙ ap (λ y. without y c.recall-known.result.signs) c.yes.ensures) (sym c.is_none.ensures ∙ c.if-is_none.true)

pub lower-requires-clause-within : goal.lower-requires-clause-within
lower-requires-clause-within c =
    c.requires.resolved.formulas c.args.id.0 c.in-Some.formula.now (ap (λ gs. slice_get gs c.args.id.0) (sym c.as_slice.ensures) ∙ sym c.in-Some.ensures)

pub lower-requires-clause-meets : goal.lower-requires-clause-meets
lower-requires-clause-meets c = c.requires.meets c.in-Some.formula.now (ap (λ gs. slice_get gs c.args.id.0) (sym c.as_slice.ensures) ∙ sym c.in-Some.ensures)

pub lower-requires-clause-context : goal.lower-requires-clause-context
lower-requires-clause-context c = record { has_index = c.requires.task.has_index; has_ranks = c.requires.task.has_ranks; earlier = c.requires.started.states.shared.earlier; within = c.requires.number }

pub lower-requires-clause-sound : goal.lower-requires-clause-sound
lower-requires-clause-sound c = c.requires.started.sound

pub returns : goal.returns
returns c = λ f found.
    let here : slice_get c.args.task.now.expanded.now.model.formulas c.args.id.0 ≡ Some c.in-Some.formula.now = ap (λ gs. slice_get gs c.args.id.0) (sym c.as_slice.ensures) ∙ sym c.in-Some.ensures in
    let f_is : c.in-Some.formula.now ≡ f = some-same (slice_get c.args.task.now.expanded.now.model.formulas c.args.id.0) f c.in-Some.formula.now found here in
    let w = task_world c.args.task.now (changes_of c.args.states.now) in
    rw c.with-known.ensures
    (prepared-made w (prepared.Formula c.args.id.0 c.args.number) f yes_signs c.without-missing.result c.recall-known.result c.args.builder.now c.lower.new.builder c.remember.new.self c.in_ok-pair-in-Some.pair c.requires.started.sound found
    (λ g g_is. some-same (slice_get c.args.task.now.expanded.now.model.formulas c.args.id.0) f g found g_is) c.requires.number c.recall-known.ensures
    (c.without-missing.ensures ∙ ap (λ y. without y c.recall-known.result.signs) c.yes.ensures)
    (subst (λ (g : Formula). Made w c.without-missing.result (formula_truth w (state_houses w c.args.number) g) c.args.builder.now c.lower.new.builder c.in_ok-pair-in-Some.pair) f_is c.in_ok-pair-in-Some.ensures)
    (rw c.with-known.ensures at c.in_ok-remember-in-Some.ensures))

pub unreachable-requires : goal.unreachable-requires
unreachable-requires c =
    let found = at-place c.args.task.now.expanded.now.model.formulas c.args.id.0 c.requires.stands in
    some-none c.args.task.now.expanded.now.model.formulas c.args.id.0 found.0 found.1 (ap (λ gs. slice_get gs c.args.id.0) (sym c.as_slice.ensures) ∙ sym c.in-None.ensures)
