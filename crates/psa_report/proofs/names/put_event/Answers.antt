use Rattle.std.proofs.Common.{[], ◌++◌, codes, map, rules}
use Rattle.psa_model.specs.Events.{members_at}
use Rattle.psa_model.specs.Names.{basic_name, held_members}
use Rattle.psa_report.specs.Joined.{separated}
use Rattle.psa_report.proofs.WrittenLemmas.{left-of, left-stop, left-next, left-last, written-as}
use Rattle.psa_report.proofs.JoinedLemmas.{event-in-parts}
use Rattle.psa_report.proofs.names.put_event.Goals as goal

pub returns-in_err-put_held-in-Shared : goal.returns-in_err-put_held-in-Shared
returns-in_err-put_held-in-Shared g c =
    left-stop _ _ _ _ _ _ (separated [] (map (λ id. basic_name c.args.model.now id.0) (held_members c.in-Shared.subset (members_at c.args.model.now c.in-Shared.group.0)))) (codes "]") _ c.put_held.result c.from_residual-in_err-put_held-in-Shared.result _
    (left-next _ _ _ _ _ _ (codes "[") ((separated [] (map (λ id. basic_name c.args.model.now id.0) (held_members c.in-Shared.subset (members_at c.args.model.now c.in-Shared.group.0)))) ++ codes "]") _ c.put_one-in-Shared.result _
    (left-of _ _ (codes "[" ++ ((separated [] (map (λ id. basic_name c.args.model.now id.0) (held_members c.in-Shared.subset (members_at c.args.model.now c.in-Shared.group.0)))) ++ codes "]")) _ (event-in-parts c.args.model.now c.args.event c.in-Shared.group c.in-Shared.subset c.in-Shared.is))
    c.put_one-in-Shared.ensures c.in_ok-put_one-in-Shared.was)
    (written-as _ _ _ _ _ (separated [] (map (λ id. basic_name c.args.model.now id.0) (held_members c.in-Shared.subset (members_at c.args.model.now c.in-Shared.group.0)))) c.put_held.result c.put_held.ensures (search rules)) c.in_err-put_held-in-Shared.was c.from_residual-in_err-put_held-in-Shared.ensures.0

pub returns-in_ok-put_held-in-Shared : goal.returns-in_ok-put_held-in-Shared
returns-in_ok-put_held-in-Shared g c =
    left-last _ _ _ _ _ _ (codes "]") _ c.put_one-in-Shared-2.result
    (left-next _ _ _ _ _ _ (separated [] (map (λ id. basic_name c.args.model.now id.0) (held_members c.in-Shared.subset (members_at c.args.model.now c.in-Shared.group.0)))) (codes "]") _ c.put_held.result _
    (left-next _ _ _ _ _ _ (codes "[") ((separated [] (map (λ id. basic_name c.args.model.now id.0) (held_members c.in-Shared.subset (members_at c.args.model.now c.in-Shared.group.0)))) ++ codes "]") _ c.put_one-in-Shared.result _
    (left-of _ _ (codes "[" ++ ((separated [] (map (λ id. basic_name c.args.model.now id.0) (held_members c.in-Shared.subset (members_at c.args.model.now c.in-Shared.group.0)))) ++ codes "]")) _ (event-in-parts c.args.model.now c.args.event c.in-Shared.group c.in-Shared.subset c.in-Shared.is))
    c.put_one-in-Shared.ensures c.in_ok-put_one-in-Shared.was)
    (written-as _ _ _ _ _ (separated [] (map (λ id. basic_name c.args.model.now id.0) (held_members c.in-Shared.subset (members_at c.args.model.now c.in-Shared.group.0)))) c.put_held.result c.put_held.ensures (search rules)) c.in_ok-put_held-in-Shared.was)
    c.put_one-in-Shared-2.ensures
