use Rattle.std.proofs.Common.{◌≡◌, ◌-◌, ◌++◌, ap, ◌∙◌, arith}
use Rattle.std.specs.List.{range_with_len}
use Rattle.psa_model.specs.Expansion.{choices}
use Rattle.psa_ccf.proofs.Choices.{events_with, events-of-sets}
use Rattle.psa_ccf.proofs.Joined.{on-ok}
use Rattle.psa_ccf.proofs.subsets.push_subsets_of_size.Goals as goal

pub returns : goal.returns
returns c =
    let whole : c.args.count - 0 ≡ c.args.count = omega arith in
    on-ok c.push_choices.result
    (λ grown. grown
    ∙ ap (λ es. c.args.events.now ++ es)
    (ap (λ n. events_with c.args.id 0 (choices c.args.size (range_with_len 0 n))) whole
    ∙ events-of-sets c.args.id (choices c.args.size (range_with_len 0 c.args.count))))
    c.push_choices.ensures
