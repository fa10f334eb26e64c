use Rattle.std.proofs.Common.{◌≡◌, ◌∷◌, [], List, Option, map, refl, sym, ap, ◌∙◌}
use Rattle.psa_model.specs.Drafts.{Position, position_of, are_ascending}
use Rattle.psa_model.specs.declared.draft.DraftDefinition.{DraftDefinition}
use Rattle.psa_names.specs.Outlines.{Entry, Entries, ForkState, entry_of}
use Rattle.psa_names.specs.PlacedFaults.{earliest}
use Rattle.psa_lookup.specs.Repeats.{least_state, repeats_from}
use Rattle.psa_lookup.specs.States.{first_spot}
use Rattle.psa_lookup.proofs.RepeatLemmas.{all-repeats}
use Rattle.psa_lookup.proofs.RightLemmas.{right-table, containers-stand}
use Rattle.psa_lookup.proofs.table.build_table.Goals as goal

positions : (ds : List DraftDefinition) → map (λ (e : Entry). position_of e.definition) (map entry_of ds) ≡ map position_of ds
positions [] = refl
positions (d ∷ ds) = ap (λ (l : List Position). position_of d ∷ l) (positions ds)

pub returns-clause-table : goal.returns-clause-table
returns-clause-table c =
    let ds = c.args.definitions.now in
    let numbered = c.in_ok-numbered.numbered in
    let is = c.in_ok-numbered.ensures in
    record {
      right = right-table numbered.containers is.containers (map entry_of ds) c.in_ok-noted.noted.places (containers-stand numbered.containers numbered.numbers ds is) c.in_ok-noted.ensures.places;
      numbered = is;
      few = c.requires.few;
    }

pub returns-clause-first : goal.returns-clause-first
returns-clause-first c =
    let ds = c.args.definitions.now in
    let entries : Entries = map entry_of ds in
    let numbered = c.in_ok-numbered.numbered in
    let is = c.in_ok-numbered.ensures in
    let least : first_spot c.in_ok-least.least ≡ least_state entries = λ i state. c.in_ok-least.ensures state i in
    c.in_ok-noted.ensures.first
    ∙ ap (λ (l : ForkState → Option Position). earliest (repeats_from numbered.containers l [] entries)) least
    ∙ ap earliest (sym (all-repeats numbered.containers is.containers entries (containers-stand numbered.containers numbered.numbers ds is)
    (ap are_ascending (positions ds) ∙ c.requires.ascending)))
