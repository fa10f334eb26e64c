use Rattle.std.proofs.Common.{sym, ◌∙◌}
use Rattle.psa_spaces.specs.Paths.{path_at}
use Rattle.psa_lookup.specs.Senses.{names_entries, names_paths}
use Rattle.psa_lookup.proofs.SenseLemmas.{event-found, event-nowhere, event-grouped, sense-found, sense-nowhere, sense-grouped}
use Rattle.psa_lookup.proofs.names.find_event.Goals as goal

pub returns-in-Some-clause-means : goal.returns-in-Some-clause-means
returns-in-Some-clause-means c =
    let names = c.args.names.now in
    event-found (names_entries names) (path_at (names_paths names) c.args.within) c.args.name.now c.in-Some.place c.in-Some.ensures

pub returns-then-joins_names-clause-means : goal.returns-then-joins_names-clause-means
returns-then-joins_names-clause-means c =
    let names = c.args.names.now in
    event-nowhere (names_entries names) (path_at (names_paths names) c.args.within) c.args.name.now (sym c.in_default.is ∙ c.find_named.ensures) (sym c.joins_names.ensures ∙ c.if-joins_names.true)

pub returns-clause-means : goal.returns-clause-means
returns-clause-means c =
    let names = c.args.names.now in
    event-grouped (names_entries names) (path_at (names_paths names) c.args.within) c.args.name.now c.get.result c.group_sense.result (sym c.in_default.is ∙ c.find_named.ensures) (sym c.joins_names.ensures ∙ c.if-joins_names.false)
    (c.get.ensures ∙ c.requires.names.grouped c.args.name.now) c.group_sense.ensures

pub returns-in-Some-clause-first : goal.returns-in-Some-clause-first
returns-in-Some-clause-first c =
    let names = c.args.names.now in
    sense-found (names_entries names) (path_at (names_paths names) c.args.within) c.args.name.now c.in-Some.place c.in-Some.ensures

pub returns-then-joins_names-clause-first : goal.returns-then-joins_names-clause-first
returns-then-joins_names-clause-first c =
    let names = c.args.names.now in
    sense-nowhere (names_entries names) (path_at (names_paths names) c.args.within) c.args.name.now (sym c.in_default.is ∙ c.find_named.ensures) (sym c.joins_names.ensures ∙ c.if-joins_names.true)

pub returns-clause-first : goal.returns-clause-first
returns-clause-first c =
    let names = c.args.names.now in
    sense-grouped (names_entries names) (path_at (names_paths names) c.args.within) c.args.name.now c.get.result c.group_sense.result (sym c.in_default.is ∙ c.find_named.ensures) (sym c.joins_names.ensures ∙ c.if-joins_names.false)
    (c.get.ensures ∙ c.requires.names.grouped c.args.name.now) c.group_sense.ensures
