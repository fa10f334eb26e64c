use Rattle.std.proofs.Common.{[], ◌++◌, codes, rules}
use Rattle.std.specs.Fmt.{decimal}
use Rattle.psa_model.specs.FaultTexts.{fault_words, told_name}
use Rattle.psa_report.proofs.PartLemmas.{fault-in-parts}
use Rattle.psa_report.proofs.WrittenLemmas.{left-of, left-stop, left-next, left-last, written-as}
use Rattle.psa_report.proofs.faults.write_fault.Goals as goal

pub returns-in_err-put_one : goal.returns-in_err-put_one
returns-in_err-put_one g c =
    left-stop _ _ _ _ _ _ (codes "scram: ") (c.args.file.now ++ ((codes ":" ++ (decimal c.args.fault.now.line ++ (codes ": " ++ (fault_words c.args.fault.now.kind ++ [])))) ++ (told_name c.args.fault.now ++ codes "\n"))) _ c.put_one.result c.from_residual.result _
    (left-of _ _ ((codes "scram: ") ++ (c.args.file.now ++ ((codes ":" ++ (decimal c.args.fault.now.line ++ (codes ": " ++ (fault_words c.args.fault.now.kind ++ [])))) ++ (told_name c.args.fault.now ++ codes "\n")))) _ (fault-in-parts c.args.file.now (decimal c.args.fault.now.line) (fault_words c.args.fault.now.kind) (told_name c.args.fault.now)))
    c.put_one.ensures c.in_err-put_one.was c.from_residual.ensures.0

pub returns-in_err-put_one-2 : goal.returns-in_err-put_one-2
returns-in_err-put_one-2 g c =
    left-stop _ _ _ _ _ _ (c.args.file.now) ((codes ":" ++ (decimal c.args.fault.now.line ++ (codes ": " ++ (fault_words c.args.fault.now.kind ++ [])))) ++ (told_name c.args.fault.now ++ codes "\n")) _ c.put_one-2.result c.from_residual-in_err-put_one-2.result _
    (left-next _ _ _ _ _ _ (codes "scram: ") (c.args.file.now ++ ((codes ":" ++ (decimal c.args.fault.now.line ++ (codes ": " ++ (fault_words c.args.fault.now.kind ++ [])))) ++ (told_name c.args.fault.now ++ codes "\n"))) _ c.put_one.result _
    (left-of _ _ ((codes "scram: ") ++ (c.args.file.now ++ ((codes ":" ++ (decimal c.args.fault.now.line ++ (codes ": " ++ (fault_words c.args.fault.now.kind ++ [])))) ++ (told_name c.args.fault.now ++ codes "\n")))) _ (fault-in-parts c.args.file.now (decimal c.args.fault.now.line) (fault_words c.args.fault.now.kind) (told_name c.args.fault.now)))
    c.put_one.ensures c.in_ok-put_one.was)
    (written-as _ _ _ _ _ (c.args.file.now) c.put_one-2.result c.put_one-2.ensures (c.as_str.ensures)) c.in_err-put_one-2.was c.from_residual-in_err-put_one-2.ensures.0

pub returns-in_err-put_all : goal.returns-in_err-put_all
returns-in_err-put_all g c =
    left-stop _ _ _ _ _ _ (codes ":" ++ (decimal c.args.fault.now.line ++ (codes ": " ++ (fault_words c.args.fault.now.kind ++ [])))) (told_name c.args.fault.now ++ codes "\n") _ c.put_all.result c.from_residual-in_err-put_all.result _
    (left-next _ _ _ _ _ _ (c.args.file.now) ((codes ":" ++ (decimal c.args.fault.now.line ++ (codes ": " ++ (fault_words c.args.fault.now.kind ++ [])))) ++ (told_name c.args.fault.now ++ codes "\n")) _ c.put_one-2.result _
    (left-next _ _ _ _ _ _ (codes "scram: ") (c.args.file.now ++ ((codes ":" ++ (decimal c.args.fault.now.line ++ (codes ": " ++ (fault_words c.args.fault.now.kind ++ [])))) ++ (told_name c.args.fault.now ++ codes "\n"))) _ c.put_one.result _
    (left-of _ _ ((codes "scram: ") ++ (c.args.file.now ++ ((codes ":" ++ (decimal c.args.fault.now.line ++ (codes ": " ++ (fault_words c.args.fault.now.kind ++ [])))) ++ (told_name c.args.fault.now ++ codes "\n")))) _ (fault-in-parts c.args.file.now (decimal c.args.fault.now.line) (fault_words c.args.fault.now.kind) (told_name c.args.fault.now)))
    c.put_one.ensures c.in_ok-put_one.was)
    (written-as _ _ _ _ _ (c.args.file.now) c.put_one-2.result c.put_one-2.ensures (c.as_str.ensures)) c.in_ok-put_one-2.was)
    (written-as _ _ _ _ _ (codes ":" ++ (decimal c.args.fault.now.line ++ (codes ": " ++ (fault_words c.args.fault.now.kind ++ [])))) c.put_all.result c.put_all.ensures (search rules)) c.in_err-put_all.was c.from_residual-in_err-put_all.ensures.0

pub returns-in_err-put_one-3 : goal.returns-in_err-put_one-3
returns-in_err-put_one-3 g c =
    left-stop _ _ _ _ _ _ (told_name c.args.fault.now) (codes "\n") _ c.put_one-3.result c.from_residual-in_err-put_one-3.result _
    (left-next _ _ _ _ _ _ (codes ":" ++ (decimal c.args.fault.now.line ++ (codes ": " ++ (fault_words c.args.fault.now.kind ++ [])))) (told_name c.args.fault.now ++ codes "\n") _ c.put_all.result _
    (left-next _ _ _ _ _ _ (c.args.file.now) ((codes ":" ++ (decimal c.args.fault.now.line ++ (codes ": " ++ (fault_words c.args.fault.now.kind ++ [])))) ++ (told_name c.args.fault.now ++ codes "\n")) _ c.put_one-2.result _
    (left-next _ _ _ _ _ _ (codes "scram: ") (c.args.file.now ++ ((codes ":" ++ (decimal c.args.fault.now.line ++ (codes ": " ++ (fault_words c.args.fault.now.kind ++ [])))) ++ (told_name c.args.fault.now ++ codes "\n"))) _ c.put_one.result _
    (left-of _ _ ((codes "scram: ") ++ (c.args.file.now ++ ((codes ":" ++ (decimal c.args.fault.now.line ++ (codes ": " ++ (fault_words c.args.fault.now.kind ++ [])))) ++ (told_name c.args.fault.now ++ codes "\n")))) _ (fault-in-parts c.args.file.now (decimal c.args.fault.now.line) (fault_words c.args.fault.now.kind) (told_name c.args.fault.now)))
    c.put_one.ensures c.in_ok-put_one.was)
    (written-as _ _ _ _ _ (c.args.file.now) c.put_one-2.result c.put_one-2.ensures (c.as_str.ensures)) c.in_ok-put_one-2.was)
    (written-as _ _ _ _ _ (codes ":" ++ (decimal c.args.fault.now.line ++ (codes ": " ++ (fault_words c.args.fault.now.kind ++ [])))) c.put_all.result c.put_all.ensures (search rules)) c.in_ok-put_all.was)
    (written-as _ _ _ _ _ (told_name c.args.fault.now) c.put_one-3.result c.put_one-3.ensures (c.name_of.ensures)) c.in_err-put_one-3.was c.from_residual-in_err-put_one-3.ensures.0

pub returns : goal.returns
returns g c =
    left-last _ _ _ _ _ _ (codes "\n") _ c.put_one-4.result
    (left-next _ _ _ _ _ _ (told_name c.args.fault.now) (codes "\n") _ c.put_one-3.result _
    (left-next _ _ _ _ _ _ (codes ":" ++ (decimal c.args.fault.now.line ++ (codes ": " ++ (fault_words c.args.fault.now.kind ++ [])))) (told_name c.args.fault.now ++ codes "\n") _ c.put_all.result _
    (left-next _ _ _ _ _ _ (c.args.file.now) ((codes ":" ++ (decimal c.args.fault.now.line ++ (codes ": " ++ (fault_words c.args.fault.now.kind ++ [])))) ++ (told_name c.args.fault.now ++ codes "\n")) _ c.put_one-2.result _
    (left-next _ _ _ _ _ _ (codes "scram: ") (c.args.file.now ++ ((codes ":" ++ (decimal c.args.fault.now.line ++ (codes ": " ++ (fault_words c.args.fault.now.kind ++ [])))) ++ (told_name c.args.fault.now ++ codes "\n"))) _ c.put_one.result _
    (left-of _ _ ((codes "scram: ") ++ (c.args.file.now ++ ((codes ":" ++ (decimal c.args.fault.now.line ++ (codes ": " ++ (fault_words c.args.fault.now.kind ++ [])))) ++ (told_name c.args.fault.now ++ codes "\n")))) _ (fault-in-parts c.args.file.now (decimal c.args.fault.now.line) (fault_words c.args.fault.now.kind) (told_name c.args.fault.now)))
    c.put_one.ensures c.in_ok-put_one.was)
    (written-as _ _ _ _ _ (c.args.file.now) c.put_one-2.result c.put_one-2.ensures (c.as_str.ensures)) c.in_ok-put_one-2.was)
    (written-as _ _ _ _ _ (codes ":" ++ (decimal c.args.fault.now.line ++ (codes ": " ++ (fault_words c.args.fault.now.kind ++ [])))) c.put_all.result c.put_all.ensures (search rules)) c.in_ok-put_all.was)
    (written-as _ _ _ _ _ (told_name c.args.fault.now) c.put_one-3.result c.put_one-3.ensures (c.name_of.ensures)) c.in_ok-put_one-3.was)
    c.put_one-4.ensures
