-- Which kinds of events are asked for.
use Rattle.std.proofs.Common.{◌≡◌, refl}
use denote.Enum.Bare.{sameb}
use Rattle.psa_model.specs.contracts.draft.DefinitionKind as kinds
use Rattle.psa_model.specs.declared.draft.DefinitionKind.{DefinitionKind}
use Rattle.psa_model.specs.declared.draft.DefinitionKind.TheVariants as kind
use Rattle.psa_model.specs.declared.draft.EventKind.TheVariants as asked
use Rattle.psa_names.specs.NameFaults.{is_event_kind}

pub gate-asked : (its : DefinitionKind) → sameb kinds.the_type its kind.Gate ≡ is_event_kind asked.Gate its
gate-asked kind.FaultTree = refl
gate-asked kind.Gate = refl
gate-asked kind.BasicEvent = refl
gate-asked kind.HouseEvent = refl
gate-asked kind.Parameter = refl
gate-asked kind.Group = refl
gate-asked kind.InitiatingEvent = refl
gate-asked kind.EventTree = refl
gate-asked kind.FunctionalEvent = refl
gate-asked kind.Sequence = refl
gate-asked kind.Branch = refl
gate-asked kind.Rule = refl
gate-asked kind.Component = refl

pub basic-asked : (its : DefinitionKind) → sameb kinds.the_type its kind.BasicEvent ≡ is_event_kind asked.Basic its
basic-asked kind.FaultTree = refl
basic-asked kind.Gate = refl
basic-asked kind.BasicEvent = refl
basic-asked kind.HouseEvent = refl
basic-asked kind.Parameter = refl
basic-asked kind.Group = refl
basic-asked kind.InitiatingEvent = refl
basic-asked kind.EventTree = refl
basic-asked kind.FunctionalEvent = refl
basic-asked kind.Sequence = refl
basic-asked kind.Branch = refl
basic-asked kind.Rule = refl
basic-asked kind.Component = refl

pub house-asked : (its : DefinitionKind) → sameb kinds.the_type its kind.HouseEvent ≡ is_event_kind asked.House its
house-asked kind.FaultTree = refl
house-asked kind.Gate = refl
house-asked kind.BasicEvent = refl
house-asked kind.HouseEvent = refl
house-asked kind.Parameter = refl
house-asked kind.Group = refl
house-asked kind.InitiatingEvent = refl
house-asked kind.EventTree = refl
house-asked kind.FunctionalEvent = refl
house-asked kind.Sequence = refl
house-asked kind.Branch = refl
house-asked kind.Rule = refl
house-asked kind.Component = refl
