use Rattle.std.proofs.Common.{◌≡◌, sym, ap}
use Rattle.psa_model.specs.declared.draft.DefinitionKind.{DefinitionKind}
use Rattle.psa_names.specs.NameSpaces.{family_of, is_scoped}
use Rattle.psa_bodies.proofs.names.is_scoped.Goals as goal

scoped : {one other : DefinitionKind} → one ≡ other → is_scoped (family_of other) ≡ is_scoped (family_of one)
scoped is = ap (λ its. is_scoped (family_of its)) (sym is)

pub returns-in-Gate : goal.returns-in-Gate
returns-in-Gate c = scoped c.in-Gate.is

pub returns-in-BasicEvent : goal.returns-in-BasicEvent
returns-in-BasicEvent c = scoped c.in-BasicEvent.is

pub returns-in-HouseEvent : goal.returns-in-HouseEvent
returns-in-HouseEvent c = scoped c.in-HouseEvent.is

pub returns-in-Parameter : goal.returns-in-Parameter
returns-in-Parameter c = scoped c.in-Parameter.is

pub returns-in-FaultTree : goal.returns-in-FaultTree
returns-in-FaultTree c = scoped c.in-FaultTree.is

pub returns-in-Group : goal.returns-in-Group
returns-in-Group c = scoped c.in-Group.is

pub returns-in-InitiatingEvent : goal.returns-in-InitiatingEvent
returns-in-InitiatingEvent c = scoped c.in-InitiatingEvent.is

pub returns-in-EventTree : goal.returns-in-EventTree
returns-in-EventTree c = scoped c.in-EventTree.is

pub returns-in-FunctionalEvent : goal.returns-in-FunctionalEvent
returns-in-FunctionalEvent c = scoped c.in-FunctionalEvent.is

pub returns-in-Sequence : goal.returns-in-Sequence
returns-in-Sequence c = scoped c.in-Sequence.is

pub returns-in-Branch : goal.returns-in-Branch
returns-in-Branch c = scoped c.in-Branch.is

pub returns-in-Rule : goal.returns-in-Rule
returns-in-Rule c = scoped c.in-Rule.is

pub returns-in-Component : goal.returns-in-Component
returns-in-Component c = scoped c.in-Component.is
