-- What callers have who know what is promised of a model.
use Rattle.std.proofs.Common.{◌≤◌, All, length}
use Rattle.std.proofs.lemmas.List.Elements.{All-weaker}
use Rattle.psa_model.specs.declared.limits.TheConstants.{MAX_MEMBERS}
use Rattle.psa_model.specs.declared.model.Model.{Model}
use Rattle.psa_model.specs.Models.{IsGroup, IsModel}

-- no group has too many members
pub small-groups-of-model : (model : Model) → IsModel model → All (λ group. length group.members ≤ MAX_MEMBERS) model.groups
small-groups-of-model model is =
    All-weaker (IsGroup model) (λ group. length group.members ≤ MAX_MEMBERS) (λ group has. has.number.1) model.groups is.groups
