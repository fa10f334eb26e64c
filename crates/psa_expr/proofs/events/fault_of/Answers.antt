use Rattle.std.proofs.Common.{◌≡◌, IfOk, sym, subst}
use Rattle.psa_model.specs.Faults.{fault_at}
use Rattle.psa_model.specs.Values.{place_of_event}
use Rattle.psa_expr.proofs.events.fault_of.Goals as goal

pub returns-in-Member : goal.returns-in-Member
returns-in-Member c =
    subst (λ e. IfOk c.group_fault.result (λ fault. fault ≡ fault_at c.args.kind (place_of_event c.args.model.now e))) (sym c.in-Member.is) (c.group_fault.ensures 0)

pub returns-in-Shared : goal.returns-in-Shared
returns-in-Shared c =
    subst (λ e. IfOk c.group_fault-in-Shared.result (λ fault. fault ≡ fault_at c.args.kind (place_of_event c.args.model.now e))) (sym c.in-Shared.is) (c.group_fault-in-Shared.ensures 0)
