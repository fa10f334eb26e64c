use Rattle.std.proofs.Common.{refl, ap}
use Rattle.std.specs.Option.{option_map}
use Rattle.psa_names.specs.Meanings.{definition}
use Rattle.psa_lookup.proofs.names.definition_sense.Goals as goal

pub returns-in-Some : goal.returns-in-Some
returns-in-Some c entries = (definition c.in-Some.place, refl, ap (option_map definition) c.in-Some.is)
