use Rattle.std.proofs.Common.{[], ◌%◌, ◌==◌, get_or, rules, if◌then◌else◌}
use Rattle.psa_model.specs.Names.{basic_name}
use Rattle.psa_report.proofs.WrittenLemmas.{left-as, left-stop, left-next, left-end, written-as}
use Rattle.psa_report.proofs.JoinedLemmas.{members-from}
use Rattle.psa_report.proofs.PartLemmas.{no-members}
use Rattle.psa_report.proofs.names.put_held.Goals as goal

pub returns-in_err-put_one : goal.returns-in_err-put_one
returns-in_err-put_one g c =
    left-stop _ _ _ _ _ _ _ _ _ c.put_one.result c.from_residual.result _
    (left-as _ _ _ _ _ _ _ c.loop-member.invariant.1 (members-from (λ id. basic_name c.args.model.now id.0) c.loop-member.separator.now c.loop-member.left c.args.members.now c.loop-member.member-index (record { 0 = 0 }) c.loop-member-test.true))
    (written-as _ _ _ _ _ (if c.loop-member.left % 2 == 1 then c.loop-member.separator.now else []) c.put_one.result c.put_one.ensures (search rules)) c.in_err-put_one.was c.from_residual.ensures.0

pub returns-in_err-put_one-2 : goal.returns-in_err-put_one-2
returns-in_err-put_one-2 g c =
    left-stop _ _ _ _ _ _ _ _ _ c.put_one-in-loop-member.result c.from_residual-in_err-put_one-2.result _
    (left-next _ _ _ _ _ _ _ _ _ c.put_one.result _
    (left-as _ _ _ _ _ _ _ c.loop-member.invariant.1 (members-from (λ id. basic_name c.args.model.now id.0) c.loop-member.separator.now c.loop-member.left c.args.members.now c.loop-member.member-index (record { 0 = 0 }) c.loop-member-test.true))
    (written-as _ _ _ _ _ (if c.loop-member.left % 2 == 1 then c.loop-member.separator.now else []) c.put_one.result c.put_one.ensures (search rules)) c.in_ok-put_one.was)
    (written-as _ _ _ _ _ (if c.loop-member.left % 2 == 1 then basic_name c.args.model.now (get_or c.args.members.now c.loop-member.member-index (record { 0 = 0 })).0 else []) c.put_one-in-loop-member.result c.put_one-in-loop-member.ensures (search rules)) c.in_err-put_one-2.was c.from_residual-in_err-put_one-2.ensures.0

pub loop-member-preserved : goal.loop-member-preserved
loop-member-preserved g c = (
  search rules,
  left-as _ _ _ _ _ _ _ (left-next _ _ _ _ _ _ _ _ _ c.put_one-in-loop-member.result _
      (left-next _ _ _ _ _ _ _ _ _ c.put_one.result _
      (left-as _ _ _ _ _ _ _ c.loop-member.invariant.1 (members-from (λ id. basic_name c.args.model.now id.0) c.loop-member.separator.now c.loop-member.left c.args.members.now c.loop-member.member-index (record { 0 = 0 }) c.loop-member-test.true))
      (written-as _ _ _ _ _ (if c.loop-member.left % 2 == 1 then c.loop-member.separator.now else []) c.put_one.result c.put_one.ensures (search rules)) c.in_ok-put_one.was)
      (written-as _ _ _ _ _ (if c.loop-member.left % 2 == 1 then basic_name c.args.model.now (get_or c.args.members.now c.loop-member.member-index (record { 0 = 0 })).0 else []) c.put_one-in-loop-member.result c.put_one-in-loop-member.ensures (search rules)) c.in_ok-put_one-2.was) (search rules),
)

pub returns : goal.returns
returns g c =
    left-end _ _ _ _ _ (left-as _ _ _ _ _ _ _ c.loop-member.invariant.1 (no-members (λ id. basic_name c.args.model.now id.0) c.loop-member.left c.args.members.now c.loop-member.member-index c.loop-member.separator.now c.loop-member-test.false))
