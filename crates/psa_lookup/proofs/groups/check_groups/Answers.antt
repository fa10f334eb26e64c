use Rattle.std.proofs.Common.{List, Some, map, flat_map, ap, ◌∙◌}
use Rattle.psa_names.specs.GroupRules.{meanings_of_members}
use Rattle.psa_names.specs.declared.found.Sense.{Sense}
use Rattle.psa_lookup.specs.Senses.{names_entries}
use Rattle.psa_lookup.proofs.GroupLemmas.{none-first}
use Rattle.psa_lookup.proofs.MemberLemmas.{all-known, senses-mean}
use Rattle.psa_lookup.proofs.groups.check_groups.Goals as goal

pub returns : goal.returns
returns c =
    let entries = names_entries c.args.names.now in
    record {
      first = c.in_ok-first.ensures.first;
      all = λ none.
          senses-mean entries (flat_map (meanings_of_members entries) entries) c.in_ok-senses.senses (all-known entries entries)
          (ap (λ (l : List Sense). map Some l) c.in_ok-senses.ensures
          ∙ c.in_ok-first.ensures.added (none-first c.in_ok-first.first (c.in_ok-first.ensures.first ∙ none)));
    }
