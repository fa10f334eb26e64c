use Rattle.std.proofs.Common.{List, not, ap, ◌∙◌}
use Rattle.psa_spaces.proofs.ContainerLemmas.{path-is}
use Rattle.psa_model.specs.PathNames.{Text}
use Rattle.std.proofs.Common.{map, Some, ◌++◌}
use Rattle.psa_lookup.specs.Members.{may_stand, senses_of_members}
use Rattle.psa_lookup.specs.Senses.{names_entries, names_paths}
use Rattle.psa_lookup.proofs.GroupLemmas.{if-ok, group-bad, group-added}
use Rattle.psa_lookup.proofs.groups.add_definition.Goals as goal

pub returns-in-Group-clause-allowed : goal.returns-in-Group-clause-allowed
returns-in-Group-clause-allowed c =
    let entries = names_entries c.args.names.now in
    let d = c.args.definition.now in
    let around = path-is (names_paths c.args.names.now) c.args.within d.container c.requires.within in
    if-ok c.add_group.result _ _
    (λ allowed is before are.
    ap not (is ∙ ap (λ (container : List Text). may_stand entries c.args.members.now container c.in-Group.group) around)
    ∙ group-bad entries before c.args.members.now d c.in-Group.group c.in-Group.is c.requires.body are) c.add_group.ensures.allowed

pub returns-in-Group-clause-added : goal.returns-in-Group-clause-added
returns-in-Group-clause-added c =
    let entries = names_entries c.args.names.now in
    let d = c.args.definition.now in
    let around = path-is (names_paths c.args.names.now) c.args.within d.container c.requires.within in
    if-ok c.add_group.result _ _
    (λ allowed is right before are.
    group-added entries before c.args.members.now c.add_group.new.members d c.in-Group.group c.in-Group.is
    (is right ∙ ap (λ (container : List Text). map Some c.args.members.now ++ senses_of_members entries container c.in-Group.group.members) around) are) c.add_group.ensures.added
