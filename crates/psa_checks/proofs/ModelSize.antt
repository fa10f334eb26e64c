-- The model of a draft is within the limit of size: it has no more definitions, members and collected formulas.
use Rattle.std.proofs.Common.{◌≡◌, ◌≤◌, ◌+◌, ◌-◌, ℕ, cond, None, length, arith}
use Rattle.psa_model.specs.declared.draft.Draft.{Draft}
use Rattle.psa_model.specs.declared.draft.DefinitionKind.TheVariants as kind
use Rattle.psa_model.specs.declared.model.Model.{Model}
use Rattle.psa_model.specs.Drafts.{IsDraft, body_contents, member_count}
use Rattle.psa_model.specs.Models.{defined_members, model_size, IsOfSize}
use Rattle.psa_model.specs.Models.{members_of as model_members}
use Rattle.psa_names.specs.Outlines.{Entry, entries_of}
use Rattle.psa_names.specs.Meanings.{defined_by_group}
use Rattle.psa_names.specs.Ids.{is_kind}
use Rattle.psa_names.specs.NameFaults.{name_fault}
use Rattle.psa_names.specs.ModelOfDraft.{model_of}
use Rattle.psa_names.proofs.Sums.{weigh}
use Rattle.psa_checks.proofs.NoFault.{has-no-fault, are-entries}
use Rattle.psa_checks.proofs.KindCounts.{of_number, kind-count, kinds-few}
use Rattle.psa_checks.proofs.MemberCounts.{basics-few, defined-many, members-few}
use Rattle.psa_names.proofs.FewCollected.{draft-sized}
use Rattle.psa_checks.proofs.FormulaCounts.{formulas-few}

-- ---- the size

-- the size of a model by the numbers of its definitions
sized : (model : Model) (total n0 n1 n2 n3 n4 n5 n6 n7 n8 n9 n10 n11 defined members formulas : ℕ)
    → length model.fault_trees ≡ n0 → length model.gates ≡ n1 → length model.basics ≤ n2 + defined
    → defined ≤ defined_members model → length model.houses ≡ n3 → length model.parameters ≡ n4
    → length model.groups ≡ n5 → length model.initiatings ≡ n6 → length model.event_trees ≡ n7
    → length model.functionals ≡ n8 → length model.sequences ≡ n9 → length model.branches ≡ n10
    → length model.rules ≡ n11 → length (model_members model) ≤ members → length model.formulas ≤ formulas
    → n0 + n1 + n2 + n3 + n4 + n5 + n6 + n7 + n8 + n9 + n10 + n11 ≤ total
    → model_size model ≤ total + members + formulas
sized model total n0 n1 n2 n3 n4 n5 n6 n7 n8 n9 n10 n11 defined members formulas e0 e1 l2 d e3 e4 e5 e6 e7 e8 e9 e10
    e11 m f all =
    let basics : length model.basics - defined_members model ≤ n2 = omega (arith, l2, d) in
    omega (arith, basics)

-- the model of a draft without a fault is within the limit of size
pub of-size : (draft : Draft) → IsDraft draft → name_fault draft ≡ None → IsOfSize (model_of draft)
of-size draft is none =
    let entries = entries_of draft in
    let are = are-entries draft is (has-no-fault entries none) in
    let less = sized (model_of draft) (length entries)
    (of_number 0 entries) (of_number 1 entries) (of_number 2 entries) (of_number 3 entries) (of_number 4 entries)
    (of_number 5 entries)
    (of_number 6 entries) (of_number 7 entries) (of_number 8 entries) (of_number 9 entries) (of_number 10 entries)
    (of_number 11 entries)
    (weigh (λ (e : Entry). cond (is_kind kind.Group e) (length (defined_by_group entries e)) 0) entries)
    (weigh (λ (e : Entry). member_count e.body) entries)
    (weigh (λ (e : Entry). (body_contents e.body).formulas) entries)
    (kind-count kind.FaultTree entries _) (kind-count kind.Gate entries _) (basics-few entries)
    (defined-many entries are)
    (kind-count kind.HouseEvent entries _) (kind-count kind.Parameter entries _) (kind-count kind.Group entries _)
    (kind-count kind.InitiatingEvent entries _)
    (kind-count kind.EventTree entries _) (kind-count kind.FunctionalEvent entries _)
    (kind-count kind.Sequence entries _) (kind-count kind.Branch entries _)
    (kind-count kind.Rule entries _) (members-few entries) (formulas-few entries are) (kinds-few entries) in
    let few = is.few in
    let same = draft-sized draft in
    omega (arith, less, few, same)
