use Rattle.std.proofs.Common.{ℕ, List, ◌++◌, take, drop, ap, ap₂, ◌∙◌, rules}
use Rattle.psa_model.specs.declared.ids.EventNumber.{EventNumber}
use Rattle.psa_model.specs.declared.product.Literal.{Literal}
use Rattle.psa_model.specs.Literals.{literals_of}
use Rattle.psa_model.specs.Report.{product_text}
use Rattle.psa_report.specs.Lines.{Naming, spaced_bound}
use Rattle.psa_report.proofs.LineLemmas.{composed-parts}
use Rattle.psa_report.proofs.WrittenLemmas.{written-as}
use Rattle.psa_report.proofs.lines.ProductLines.write.Goals as goal

pub returns-clause-line : goal.returns-clause-line
returns-clause-line g c =
    let kept = c.compose.new.self in
    let naming : Naming = record { expanded = c.self.inside.expanded.now; ranks = c.as_slice.result.now } in
    written-as _ _ _ _ _ _ _ c.put_made.ensures
    (ap (λ (line : List ℕ). take kept.start line ++ (spaced_bound c.args.bound ++ drop kept.start line)) c.as_slice-2.ensures
    ∙ composed-parts naming kept c.as_slice-literals.result.now (c.compose.ensures.line (search rules)) c.args.bound
    ∙ ap₂ (λ (ranks : List EventNumber) (literals : List Literal). product_text c.self.inside.expanded.now ranks c.args.bound (literals_of literals)) c.as_slice.ensures c.as_slice-literals.ensures.value
    ∙ ap (λ (naming : Naming). product_text naming.expanded naming.ranks c.args.bound (literals_of c.args.product.now.items)) c.self.view_is)
