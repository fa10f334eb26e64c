use Rattle.std.proofs.Common.{◌≡◌, true, get_or, sym, ◌∙◌, subst}
use Rattle.std.proofs.lemmas.List.{get_or_default}
use Rattle.psa_model.specs.declared.targets.PathStep.TheVariants.{Collect, Set}
use Rattle.psa_prep.specs.declared.pairs.Signs.{Signs}
use Rattle.psa_prep.specs.Nodes.{nodes_of}
use Rattle.psa_prep.specs.Paths.{changes_of}
use Rattle.psa_prep.specs.Sound.{JoinsPairs}
use Rattle.psa_prep.proofs.ConnectiveLemmas.{stands-grown}
use Rattle.psa_prep.proofs.ListLemmas.{at-place}
use Rattle.psa_prep.proofs.PathLemmas.{collect-stands, path-meets, path-collect, path-set}
use Rattle.psa_prep.proofs.paths.lower_step.Goals as goal

pub lower_collected-requires-clause-stands : goal.lower_collected-requires-clause-stands
lower_collected-requires-clause-stands c =
    let is : Collect c.in-Collect.id ≡ get_or c.args.path.now c.args.place (Collect c.in-Collect.id) = sym c.in-Collect.is ∙ get_or_default c.args.path.now c.args.place _ (Collect c.in-Collect.id) c.requires.place in
    collect-stands c.args.task.now c.args.path.now c.args.place c.in-Collect.id c.requires.path c.requires.place is

pub lower_collected-requires-clause-meets : goal.lower_collected-requires-clause-meets
lower_collected-requires-clause-meets c =
    let is : Collect c.in-Collect.id ≡ get_or c.args.path.now c.args.place (Collect c.in-Collect.id) = sym c.in-Collect.is ∙ get_or_default c.args.path.now c.args.place _ (Collect c.in-Collect.id) c.requires.place in
    λ one found. path-meets c.args.task.now c.args.path.now c.args.place c.in-Collect.id one (changes_of c.args.states.now) c.args.builder.now c.args.progress c.requires.path c.requires.so_far c.requires.place is found

pub lower_collected-requires-clause-number : goal.lower_collected-requires-clause-number
lower_collected-requires-clause-number c = c.requires.so_far.within

pub lower_collected-requires-clause-started : goal.lower_collected-requires-clause-started
lower_collected-requires-clause-started c = c.requires.so_far.started

pub join_pair-requires-clause-built : goal.join_pair-requires-clause-built
join_pair-requires-clause-built c =
    let is : Collect c.in-Collect.id ≡ get_or c.args.path.now c.args.place (Collect c.in-Collect.id) = sym c.in-Collect.is ∙ get_or_default c.args.path.now c.args.place _ (Collect c.in-Collect.id) c.requires.place in
    let found = at-place c.args.task.now.expanded.now.model.formulas c.in-Collect.id.0 (collect-stands c.args.task.now c.args.path.now c.args.place c.in-Collect.id c.requires.path c.requires.place is) in
    let made = c.in_ok-one-in-Collect.ensures found.0 found.1 in
    made.sound.built

pub join_pair-requires-clause-left : goal.join_pair-requires-clause-left
join_pair-requires-clause-left c =
    let is : Collect c.in-Collect.id ≡ get_or c.args.path.now c.args.place (Collect c.in-Collect.id) = sym c.in-Collect.is ∙ get_or_default c.args.path.now c.args.place _ (Collect c.in-Collect.id) c.requires.place in
    let found = at-place c.args.task.now.expanded.now.model.formulas c.in-Collect.id.0 (collect-stands c.args.task.now c.args.path.now c.args.place c.in-Collect.id c.requires.path c.requires.place is) in
    let made = c.in_ok-one-in-Collect.ensures found.0 found.1 in
    stands-grown (nodes_of c.args.builder.now) (nodes_of c.lower_collected.new.builder) c.args.progress.pair made.grown c.requires.so_far.reads.there

pub join_pair-requires-clause-right : goal.join_pair-requires-clause-right
join_pair-requires-clause-right c =
    let is : Collect c.in-Collect.id ≡ get_or c.args.path.now c.args.place (Collect c.in-Collect.id) = sym c.in-Collect.is ∙ get_or_default c.args.path.now c.args.place _ (Collect c.in-Collect.id) c.requires.place in
    let found = at-place c.args.task.now.expanded.now.model.formulas c.in-Collect.id.0 (collect-stands c.args.task.now c.args.path.now c.args.place c.in-Collect.id c.requires.path c.requires.place is) in
    let made = c.in_ok-one-in-Collect.ensures found.0 found.1 in
    made.reads.there

pub returns-in_ok-pair-in-Collect : goal.returns-in_ok-pair-in-Collect
returns-in_ok-pair-in-Collect c =
    let is : Collect c.in-Collect.id ≡ get_or c.args.path.now c.args.place (Collect c.in-Collect.id) = sym c.in-Collect.is ∙ get_or_default c.args.path.now c.args.place _ (Collect c.in-Collect.id) c.requires.place in
    let found = at-place c.args.task.now.expanded.now.model.formulas c.in-Collect.id.0 (collect-stands c.args.task.now c.args.path.now c.args.place c.in-Collect.id c.requires.path c.requires.place is) in
    let made = c.in_ok-one-in-Collect.ensures found.0 found.1 in
    path-collect c.args.task.now c.args.path.now c.args.place c.in-Collect.id found.0 (changes_of c.args.states.now) c.args.builder.now c.lower_collected.new.builder c.join_pair.new.builder c.args.progress c.in_ok-one-in-Collect.one c.in_ok-pair-in-Collect.pair c.requires.path c.requires.so_far c.requires.place is found.1 made
    (subst (λ (some : Signs). JoinsPairs some true c.args.progress.pair c.in_ok-one-in-Collect.one c.lower_collected.new.builder c.join_pair.new.builder c.in_ok-pair-in-Collect.pair) c.yes.ensures c.in_ok-pair-in-Collect.ensures)

pub returns-in_ok-number-in-Set : goal.returns-in_ok-number-in-Set
returns-in_ok-number-in-Set c =
    let is : Set c.in-Set.house c.in-Set.state ≡ get_or c.args.path.now c.args.place (Set c.in-Set.house c.in-Set.state) = sym c.in-Set.is ∙ get_or_default c.args.path.now c.args.place _ (Set c.in-Set.house c.in-Set.state) c.requires.place in
    path-set c.args.task.now c.args.path.now c.args.place c.in-Set.house c.in-Set.state (changes_of c.args.states.now) (changes_of c.set.new.self) c.args.builder.now c.args.progress c.in_ok-number-in-Set.number c.requires.so_far c.requires.place is c.in_ok-number-in-Set.ensures
