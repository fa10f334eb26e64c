use Rattle.std.proofs.Common.{ap, ◌∙◌}
use Rattle.psa_spaces.specs.Addresses.{address_of, place_of}
use Rattle.psa_spaces.proofs.places.Places.get.Goals as goal

pub returns : goal.returns
returns c = c.copied.ensures ∙ c.get.ensures.value ∙ ap (λ es. place_of es (address_of c.args.key)) c.self.view_is
