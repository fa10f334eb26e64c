use Rattle.std.proofs.Common.{sym, ◌∙◌, arith}
use Rattle.psa_spaces.specs.Paths.{path_at}
use Rattle.psa_lookup.specs.Tables.{meant, table_entries}
use Rattle.psa_lookup.proofs.SearchLemmas.{scope-here, scope-on, inside-scoped, around-contained}
use Rattle.psa_lookup.proofs.search.find_outwards.Goals as goal

pub returns-in-Some-get : goal.returns-in-Some-get
returns-in-Some-get c =
    let table = c.args.table.now in
    let paths = table.numbered.containers in
    let around = c.in-Some.ensures.inner in
    scope-here (table_entries table) (meant c.args.family) (path_at paths c.loop-outer.within) (path_at paths c.in-Some.outer) around.name c.args.name.now c.in-Some-get.place around.path
    (c.in-Some-get.ensures ∙ inside-scoped (table_entries table) paths table.places c.requires.table.right c.args.family c.loop-outer.within c.args.name.now c.requires.scoped c.loop-outer.invariant.stands (around-contained paths c.loop-outer.within c.in-Some.outer around))
    ∙ c.loop-outer.invariant.same

pub loop-outer-preserved : goal.loop-outer-preserved
loop-outer-preserved c =
    let table = c.args.table.now in
    let paths = table.numbered.containers in
    let around = c.in-Some.ensures.inner in
    record {
      stands = (let low = c.loop-outer.invariant.stands in omega (arith, around.before));
      same =
          scope-on (table_entries table) (meant c.args.family) (path_at paths c.loop-outer.within) (path_at paths c.in-Some.outer) around.name c.args.name.now around.path
          (sym c.in_default-get.is ∙ c.get.ensures ∙ inside-scoped (table_entries table) paths table.places c.requires.table.right c.args.family c.loop-outer.within c.args.name.now c.requires.scoped c.loop-outer.invariant.stands (around-contained paths c.loop-outer.within c.in-Some.outer around))
          ∙ c.loop-outer.invariant.same;
    }
