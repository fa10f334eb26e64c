use Rattle.std.proofs.Common.{◌∷◌, ◌+◌, List, ℕ, take, sym, ap, ◌∙◌}
use Rattle.psa_model.specs.PathNames.{name_parts}
use Rattle.psa_lookup.proofs.SearchLemmas.{first-part, one-part, take-rest}
use Rattle.psa_lookup.proofs.paths.split_first.Goals as goal

pub returns-in_default-clause-one : goal.returns-in_default-clause-one
returns-in_default-clause-one c = one-part c.args.name.now (sym c.first_dot.ensures.value ∙ c.in_default.is)

pub returns-clause-more : goal.returns-clause-more
returns-clause-more c =
    let f = first-part c.args.name.now c.in-Some.dot (sym c.first_dot.ensures.value ∙ c.in-Some.is) in
    f.1 ∙ ap (λ (rest : List ℕ). take c.in-Some.dot c.args.name.now ∷ name_parts rest) (sym (take-rest (c.in-Some.dot + 1) c.args.name.now))
