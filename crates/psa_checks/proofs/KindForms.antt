-- The kinds of a family, and the body of each kind.
use Rattle.std.proofs.Common.{◌≡◌, ◌==◌, ◌⊎◌, inl, inr, true, List, Option, Some, None, refl}
use Rattle.std.proofs.lemmas.Bool.{false≢true}
use Rattle.psa_model.specs.declared.draft.DefinitionKind.{DefinitionKind}
use Rattle.psa_model.specs.declared.draft.DefinitionKind.TheVariants as kind
use Rattle.psa_model.specs.declared.draft.DraftBody.{DraftBody}
use Rattle.psa_model.specs.declared.draft.DraftBody.TheVariants as body
use Rattle.psa_model.specs.declared.draft.DraftBranch.{DraftBranch}
use Rattle.psa_model.specs.declared.draft.DraftExpression.{DraftExpression}
use Rattle.psa_model.specs.declared.draft.DraftFormula.{DraftFormula}
use Rattle.psa_model.specs.declared.draft.DraftGroup.{DraftGroup}
use Rattle.psa_model.specs.declared.draft.DraftInstruction.{DraftInstruction}
use Rattle.psa_model.specs.declared.draft.DraftReference.{DraftReference}
use Rattle.psa_model.specs.Drafts.{has_body}
use Rattle.psa_names.specs.NameSpaces.{events, parameters, groups, event_trees, initiating_events, functional_events, sequences, branches, rules, family_of, same_family}
use Rattle.psa_names.specs.Ids.{kind_number}
use Rattle.psa_names.specs.NameFaults.{is_event_kind}
use Rattle.psa_model.specs.declared.draft.EventKind.TheVariants as asked

-- ---- the kinds of a family

-- a definition of the family of parameters is one
pub is-parameter : (its : DefinitionKind) → same_family (family_of its) parameters ≡ true → its ≡ kind.Parameter
is-parameter kind.Parameter h = refl
is-parameter _ h = absurd (false≢true h)

-- a definition of the family of groups is one
pub is-group : (its : DefinitionKind) → same_family (family_of its) groups ≡ true → its ≡ kind.Group
is-group kind.Group h = refl
is-group _ h = absurd (false≢true h)

-- a definition of the family of event trees is one
pub is-event-tree : (its : DefinitionKind) → same_family (family_of its) event_trees ≡ true → its ≡ kind.EventTree
is-event-tree kind.EventTree h = refl
is-event-tree _ h = absurd (false≢true h)

-- a definition of the family of initiating events is one
pub is-initiating : (its : DefinitionKind) → same_family (family_of its) initiating_events ≡ true
    → its ≡ kind.InitiatingEvent
is-initiating kind.InitiatingEvent h = refl
is-initiating _ h = absurd (false≢true h)

-- a definition of the family of functional events is one
pub is-functional : (its : DefinitionKind) → same_family (family_of its) functional_events ≡ true
    → its ≡ kind.FunctionalEvent
is-functional kind.FunctionalEvent h = refl
is-functional _ h = absurd (false≢true h)

-- a definition of the family of sequences is one
pub is-sequence : (its : DefinitionKind) → same_family (family_of its) sequences ≡ true → its ≡ kind.Sequence
is-sequence kind.Sequence h = refl
is-sequence _ h = absurd (false≢true h)

-- a definition of the family of branches is one
pub is-branch : (its : DefinitionKind) → same_family (family_of its) branches ≡ true → its ≡ kind.Branch
is-branch kind.Branch h = refl
is-branch _ h = absurd (false≢true h)

-- a definition of the family of rules is one
pub is-rule : (its : DefinitionKind) → same_family (family_of its) rules ≡ true → its ≡ kind.Rule
is-rule kind.Rule h = refl
is-rule _ h = absurd (false≢true h)

-- an event is a gate, a basic event or a house event
pub is-event : (its : DefinitionKind) → same_family (family_of its) events ≡ true
    → (its ≡ kind.Gate) ⊎ ((its ≡ kind.BasicEvent) ⊎ (its ≡ kind.HouseEvent))
is-event kind.Gate h = inl refl
is-event kind.BasicEvent h = inr (inl refl)
is-event kind.HouseEvent h = inr (inr refl)
is-event _ h = absurd (false≢true h)

-- what is asked for as a house event is one
pub is-house : (its : DefinitionKind) → is_event_kind asked.House its ≡ true → its ≡ kind.HouseEvent
is-house kind.HouseEvent h = refl
is-house _ h = absurd (false≢true h)

-- ---- bodies

-- the body of a gate
pub gate-body : (its : DraftBody) → has_body kind.Gate its ≡ true → (f : DraftFormula) × (its ≡ body.Formula f)
gate-body (body.Formula f) h = (f, refl)
gate-body _ h = absurd (false≢true h)

-- the body of a parameter
pub parameter-body : (its : DraftBody) → has_body kind.Parameter its ≡ true
    → (value : DraftExpression) × (its ≡ body.Value (Some value))
parameter-body (body.Value (Some value)) h = (value, refl)
parameter-body _ h = absurd (false≢true h)

-- the body of a basic event
pub basic-body : (its : DraftBody) → has_body kind.BasicEvent its ≡ true
    → (value : Option DraftExpression) × (its ≡ body.Value value)
basic-body (body.Value value) h = (value, refl)
basic-body _ h = absurd (false≢true h)

-- the body of a group
pub group-body : (its : DraftBody) → has_body kind.Group its ≡ true → (group : DraftGroup) × (its ≡ body.Group group)
group-body (body.Group group) h = (group, refl)
group-body _ h = absurd (false≢true h)

-- the body of an initiating event
pub start-body : (its : DraftBody) → has_body kind.InitiatingEvent its ≡ true
    → (tree : Option DraftReference) × (its ≡ body.Start tree)
start-body (body.Start tree) h = (tree, refl)
start-body _ h = absurd (false≢true h)

-- the body of an event tree
pub tree-body : (its : DraftBody) → has_body kind.EventTree its ≡ true
    → (start : DraftBranch) × (its ≡ body.Walk start)
tree-body (body.Walk start) h = (start, refl)
tree-body _ h = absurd (false≢true h)

-- the body of a branch
pub branch-body : (its : DraftBody) → has_body kind.Branch its ≡ true
    → (branch : DraftBranch) × (its ≡ body.Walk branch)
branch-body (body.Walk branch) h = (branch, refl)
branch-body _ h = absurd (false≢true h)

-- the body of a sequence
pub sequence-body : (its : DraftBody) → has_body kind.Sequence its ≡ true
    → (instructions : List DraftInstruction) × (link : Option DraftReference) × (its ≡ body.Steps instructions link)
sequence-body (body.Steps instructions link) h = (instructions, link, refl)
sequence-body _ h = absurd (false≢true h)

-- the body of a rule
pub rule-body : (its : DraftBody) → has_body kind.Rule its ≡ true
    → (instructions : List DraftInstruction) × (its ≡ body.Steps instructions None)
rule-body (body.Steps instructions None) h = (instructions, refl)
rule-body _ h = absurd (false≢true h)

-- ---- kinds by their numbers

-- a definition with the number of gates is one
pub gate-kind : (its : DefinitionKind) → kind_number its == kind_number kind.Gate ≡ true → its ≡ kind.Gate
gate-kind kind.Gate h = refl
gate-kind _ h = absurd (false≢true h)

-- a definition with the number of basic events is one
pub basic-kind : (its : DefinitionKind) → kind_number its == kind_number kind.BasicEvent ≡ true
    → its ≡ kind.BasicEvent
basic-kind kind.BasicEvent h = refl
basic-kind _ h = absurd (false≢true h)

-- a definition with the number of parameters is one
pub parameter-kind : (its : DefinitionKind) → kind_number its == kind_number kind.Parameter ≡ true
    → its ≡ kind.Parameter
parameter-kind kind.Parameter h = refl
parameter-kind _ h = absurd (false≢true h)

-- a definition with the number of groups is one
pub group-kind : (its : DefinitionKind) → kind_number its == kind_number kind.Group ≡ true → its ≡ kind.Group
group-kind kind.Group h = refl
group-kind _ h = absurd (false≢true h)

-- a definition with the number of initiating events is one
pub initiating-kind : (its : DefinitionKind) → kind_number its == kind_number kind.InitiatingEvent ≡ true
    → its ≡ kind.InitiatingEvent
initiating-kind kind.InitiatingEvent h = refl
initiating-kind _ h = absurd (false≢true h)

-- a definition with the number of event trees is one
pub tree-kind : (its : DefinitionKind) → kind_number its == kind_number kind.EventTree ≡ true → its ≡ kind.EventTree
tree-kind kind.EventTree h = refl
tree-kind _ h = absurd (false≢true h)

-- a definition with the number of functional events is one
pub functional-kind : (its : DefinitionKind) → kind_number its == kind_number kind.FunctionalEvent ≡ true
    → its ≡ kind.FunctionalEvent
functional-kind kind.FunctionalEvent h = refl
functional-kind _ h = absurd (false≢true h)

-- a definition with the number of sequences is one
pub sequence-kind : (its : DefinitionKind) → kind_number its == kind_number kind.Sequence ≡ true → its ≡ kind.Sequence
sequence-kind kind.Sequence h = refl
sequence-kind _ h = absurd (false≢true h)

-- a definition with the number of branches is one
pub branch-kind : (its : DefinitionKind) → kind_number its == kind_number kind.Branch ≡ true → its ≡ kind.Branch
branch-kind kind.Branch h = refl
branch-kind _ h = absurd (false≢true h)

-- a definition with the number of rules is one
pub rule-kind : (its : DefinitionKind) → kind_number its == kind_number kind.Rule ≡ true → its ≡ kind.Rule
rule-kind kind.Rule h = refl
rule-kind _ h = absurd (false≢true h)

-- only a group has members, and only definitions of chains collect
pub body-group : (its : DefinitionKind) (group : DraftGroup) → has_body its (body.Group group) ≡ true
    → its ≡ kind.Group
body-group kind.Group group h = refl
body-group _ group h = absurd (false≢true h)

-- what has instructions is a sequence or a rule
pub body-steps : (its : DefinitionKind) (instructions : List DraftInstruction) (link : Option DraftReference)
    → has_body its (body.Steps instructions link) ≡ true → (its ≡ kind.Sequence) ⊎ (its ≡ kind.Rule)
body-steps kind.Sequence instructions link h = inl refl
body-steps kind.Rule instructions link h = inr refl
body-steps _ instructions link h = absurd (false≢true h)

-- what has a branch is an event tree or a branch
pub body-walk : (its : DefinitionKind) (branch : DraftBranch) → has_body its (body.Walk branch) ≡ true
    → (its ≡ kind.EventTree) ⊎ (its ≡ kind.Branch)
body-walk kind.EventTree branch h = inl refl
body-walk kind.Branch branch h = inr refl
body-walk _ branch h = absurd (false≢true h)
