use Rattle.std.proofs.Common.{is_some, ap, ◌∙◌}
use Rattle.psa_lookup.proofs.SearchLemmas.{dot-is-path}
use Rattle.psa_lookup.proofs.paths.joins_names.Goals as goal

pub returns : goal.returns
returns c = c.is_some.ensures ∙ ap is_some c.first_dot.ensures.value ∙ dot-is-path c.args.name.now
