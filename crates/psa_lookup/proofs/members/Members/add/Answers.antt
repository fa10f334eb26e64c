use Rattle.std.proofs.Common.{List, not, ◌++◌, ◌∷◌, [], ap, ◌∙◌}
use Rattle.std.specs.List.{list_any}
use Rattle.psa_names.specs.declared.found.Sense.{Sense}
use Rattle.psa_lookup.specs.Members.{same_sense}
use Rattle.psa_lookup.proofs.MemberLemmas.{keys-any, keys-added}
use Rattle.psa_lookup.proofs.members.Members.add.Goals as goal

pub returns-clause-new : goal.returns-clause-new
returns-clause-new c =
    c.in_ok-is_new.ensures.added
    ∙ ap not (keys-any c.key_of.result c.self.inside.keys.keys c.args.sense c.key_of.ensures)
    ∙ ap (λ (l : List Sense). not (list_any (same_sense c.args.sense) l)) c.self.view_is

pub returns-clause-added : goal.returns-clause-added
returns-clause-added c holds =
    keys-added c.key_of.result c.self.inside.keys.keys c.insert.new.self.keys c.args.sense c.in_ok-is_new.is_new c.key_of.ensures c.in_ok-is_new.ensures.keys c.in_ok-is_new.ensures.added holds
    ∙ ap (λ (l : List Sense). l ++ c.args.sense ∷ []) c.self.view_is
