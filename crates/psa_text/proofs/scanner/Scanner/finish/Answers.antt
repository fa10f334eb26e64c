use Rattle.std.proofs.Common.{sym, ◌∙◌, subst, Err}
use Rattle.psa_text.specs.scanner.State.{scan_of, Ends}
use Rattle.psa_text.proofs.scanner.RootsAtEnd.{end_ok, end_err, ended_ok, ended_open, ended_inside}
use Rattle.psa_text.proofs.scanner.Scanner.finish.Goals as goal

pub returns-then-not-is_between-clause-read : goal.returns-then-not-is_between-clause-read
returns-then-not-is_between-clause-read c = λ h has.
    let s = scan_of c.args.self in
    subst (λ e. Ends h (Err e)) (sym c.fault.ensures) (end_err h s _ has.1 (ended_inside s (sym c.is_between.ensures ∙ c.if-not-is_between.true)))

pub returns-in-Some-finish-clause-read : goal.returns-in-Some-finish-clause-read
returns-in-Some-finish-clause-read c = λ h has.
    let s = scan_of c.args.self in
    end_ok h s c.in-Some-finish.root has.1 (ended_ok s c.in-Some-finish.root (sym c.is_between.ensures ∙ c.if-not-is_between.false) (sym c.finish.ensures ∙ c.in-Some-finish.is))

pub returns-clause-read : goal.returns-clause-read
returns-clause-read c = λ h has.
    let s = scan_of c.args.self in
    subst (λ e. Ends h (Err e)) (sym c.fault-in-None.ensures) (end_err h s _ has.1 (ended_open s (sym c.is_between.ensures ∙ c.if-not-is_between.false) (sym c.finish.ensures ∙ c.in-None.is)))
