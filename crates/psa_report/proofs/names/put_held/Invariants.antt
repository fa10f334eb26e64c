use Rattle.std.proofs.Common.{[], map, drop}
use denote.Text.{Utf8}
use denote.Shadow.{shadow}
use Rattle.psa_model.specs.Names.{basic_name, held_members}
use Rattle.psa_report.specs.Joined.{separated}
use Rattle.psa_report.proofs.WrittenLemmas.{Left}
use Rattle.psa_report.proofs.names.put_held.Given as goal

abbrev pub invariant-loop-member : goal.invariant-loop-member
invariant-loop-member g l =
    shadow (Utf8 l.separator)
    × Left (g.S.Sink.written l.fn.out) (g.S.Sink.written l.out) (g.S.Sink.faults l.fn.out) (g.S.Sink.faults l.out)
    (separated l.separator (map (λ id. basic_name l.model id.0) (held_members l.left (drop l.member-index l.members))))
    (separated [] (map (λ id. basic_name l.model id.0) (held_members l.subset l.members)))
