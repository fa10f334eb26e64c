use Rattle.std.proofs.Common.{◌≡◌, ◌++◌, ◌∷◌, [], take}
use Rattle.std.specs.List.{flat_map}
use Rattle.std.specs.String.{string_bytes}
use Rattle.psa_model.specs.PathNames.{dot}
use Rattle.psa_bodies.proofs.names.path_of.Given as goal

abbrev pub invariant-loop-part : goal.invariant-loop-part
invariant-loop-part l = string_bytes l.path ≡ flat_map (λ part. part ++ dot ∷ []) (take l.part-index l.container)
