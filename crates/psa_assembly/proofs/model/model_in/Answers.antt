use Rattle.std.proofs.Common.{refl, ◌∙◌}
use Rattle.psa_assembly.proofs.AssembledFirst.{none-assembled}
use Rattle.psa_assembly.proofs.model.model_in.Goals as goal

pub assemble-requires-clause-none : goal.assemble-requires-clause-none
assemble-requires-clause-none c =
    none-assembled c.args.context.now.draft.now c.args.found.now c.new-assembly.result _ c.requires.found
    c.new-assembly.ensures.model c.new-assembly.ensures.references c.new-assembly.ensures.members refl

pub returns : goal.returns
returns c = c.into_model.ensures ∙ c.in_ok-assemble.ensures
