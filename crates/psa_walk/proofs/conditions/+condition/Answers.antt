use Rattle.std.proofs.Common.{ap, sym, not, List, ◌∙◌}
use Rattle.std.specs.List.{list_all, list_any}
use Rattle.psa_model.specs.declared.walks.Test.{Test}
use Rattle.psa_model.specs.Tests.{is_true_in}
use Rattle.psa_walk.proofs.TestForms.{all-true, any-true, not-true}
use Rattle.psa_walk.proofs.conditions.+condition.Goals as goal

pub holds-returns-in-All : goal.holds-returns-in-All
holds-returns-in-All t c =
    c.all_hold.ensures ∙ ap (λ (ts : List Test). list_all (λ test. is_true_in c.args.initiating.0 c.args.travelled.now.forks test) ts) c.as_slice.ensures
    ∙ sym (all-true c.args.initiating.0 c.args.travelled.now.forks c.in-All.tests) ∙ ap (is_true_in c.args.initiating.0 c.args.travelled.now.forks) (sym c.in-All.is)

pub holds-returns-in-Any : goal.holds-returns-in-Any
holds-returns-in-Any t c =
    c.any_holds.ensures ∙ ap (λ (ts : List Test). list_any (λ test. is_true_in c.args.initiating.0 c.args.travelled.now.forks test) ts) c.as_slice-in-Any.ensures
    ∙ sym (any-true c.args.initiating.0 c.args.travelled.now.forks c.in-Any.tests) ∙ ap (is_true_in c.args.initiating.0 c.args.travelled.now.forks) (sym c.in-Any.is)

pub holds-returns-in-Not : goal.holds-returns-in-Not
holds-returns-in-Not t c =
    ap (λ b. not b) (c.any_holds-in-Not.ensures ∙ ap (λ (ts : List Test). list_any (λ test. is_true_in c.args.initiating.0 c.args.travelled.now.forks test) ts) c.as_slice-in-Not.ensures)
    ∙ sym (not-true c.args.initiating.0 c.args.travelled.now.forks c.in-Not.tests) ∙ ap (is_true_in c.args.initiating.0 c.args.travelled.now.forks) (sym c.in-Not.is)
