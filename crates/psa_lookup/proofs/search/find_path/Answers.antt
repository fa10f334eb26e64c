use Rattle.std.proofs.Common.{◌≡◌, ◌++◌, ◌∷◌, [], sym, ap, ◌∙◌, append_assoc}
use Rattle.std.proofs.lemmas.Option.{slice_get_within}
use Rattle.psa_model.specs.PathNames.{name_parts}
use Rattle.psa_spaces.specs.Paths.{Path, path_at}
use Rattle.psa_spaces.proofs.ContainerLemmas.{path-is}
use Rattle.psa_names.specs.Meanings.{by_path}
use Rattle.psa_lookup.specs.Tables.{meant, table_entries}
use Rattle.psa_lookup.proofs.SearchLemmas.{path-nowhere, path-one, inside-scoped, path-contained, parts-some}
use Rattle.psa_lookup.proofs.search.find_path.Goals as goal

pub loop-part-preserved : goal.loop-part-preserved
loop-part-preserved c =
    let paths = c.args.table.now.numbered.containers in
    let at = c.loop-part in
    let found = c.in-Some-find.ensures.found in
    let split : name_parts at.rest.now ≡ c.in-Some.part.now ∷ name_parts c.in-Some.more.now = rw (c.in-Some.part-is, c.in-Some.more-is) c.in-Some.ensures.more in
    record {
      stands = slice_get_within paths c.in-Some-find.inner _ found;
      joined =
          ap (λ (l : Path). l ++ name_parts c.in-Some.more.now) (path-is paths c.in-Some-find.inner _ found)
          ∙ append_assoc (path_at paths at.within) (c.in-Some.part.now ∷ []) (name_parts c.in-Some.more.now)
          ∙ ap (λ (l : Path). path_at paths at.within ++ l) (sym split) ∙ at.invariant.joined;
    }

pub returns-in_default-find : goal.returns-in_default-find
returns-in_default-find c =
    let table = c.args.table.now in
    let paths = table.numbered.containers in
    let at = c.loop-part in
    let more = parts-some c.in-Some.more.now in
    let split : name_parts at.rest.now ≡ c.in-Some.part.now ∷ name_parts c.in-Some.more.now = rw (c.in-Some.part-is, c.in-Some.more-is) c.in-Some.ensures.more in
    sym (path-nowhere paths c.requires.table.right.containers (table_entries table) (meant c.args.family) (path_at paths at.within) c.in-Some.part.now more.0 more.1.0 (name_parts c.args.name.now)
    (λ path name none. c.requires.table.right.absent c.args.family path name none)
    c.in_default-find.ensures.absent
    (ap (λ (l : Path). path_at paths at.within ++ (c.in-Some.part.now ∷ l)) (sym more.1.1) ∙ ap (λ (l : Path). path_at paths at.within ++ l) (sym split) ∙ at.invariant.joined))

pub returns : goal.returns
returns c =
    let table = c.args.table.now in
    let paths = table.numbered.containers in
    let at = c.loop-part in
    let one : path_at paths at.within ++ at.rest.now ∷ [] ≡ name_parts c.args.name.now =
    ap (λ (l : Path). path_at paths at.within ++ l) (sym c.in_default.ensures.one) ∙ at.invariant.joined in
    c.get.ensures
    ∙ inside-scoped (table_entries table) paths table.places c.requires.table.right c.args.family at.within at.rest.now c.requires.scoped at.invariant.stands
    (path-contained (path_at paths at.within) at.rest.now c.args.name.now c.requires.path one)
    ∙ sym (path-one (table_entries table) (meant c.args.family) (path_at paths at.within) at.rest.now)
    ∙ ap (by_path (table_entries table) (meant c.args.family)) one
