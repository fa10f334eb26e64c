use Rattle.std.proofs.Common.{List, Option, IfSome, ◌∙◌, ap, subst, sym, flat_map, unwrap_or, rules}
use Rattle.std.specs.List.{All}
use Rattle.std.specs.Option.{option_map}
use Rattle.psa_model.specs.declared.product.Literal.{Literal}
use Rattle.psa_model.specs.Literals.{literals_of}
use Rattle.psa_model.specs.Quantities.{at_rank, bound_of, zero_ends}
use Rattle.psa_model.specs.Report.{product_text}
use Rattle.psa_number.specs.Ends.{Ends}
use Rattle.psa_number.specs.Operations.{IsInUnit}
use Rattle.psa_products.specs.PartialBounds.{Valuation}
use Rattle.psa_report.specs.Lines.{Naming}
use Rattle.psa_report.proofs.WrittenLemmas.{left-as, left-start, left-stop, left-next, left-end, written-as}
use Rattle.psa_sections.specs.Writing.{bound_by, line_by}
use Rattle.psa_sections.proofs.SectionLemmas.{done-all, done-more, done-none, events-in_unit}
use Rattle.psa_sections.proofs.section.write_listed.Goals as goal

pub bound-bound-requires : goal.bound-bound-requires
bound-bound-requires g c =
    let items = c.product-product.result.now.items in
    subst (λ (v : Valuation). IfSome v.values (λ (some : List Ends). All (λ (literal : Literal). IsInUnit (at_rank zero_ends some v.ranks literal.rank)) items)) (sym c.loop-lines.invariant.bounds)
    (events-in_unit c.args.subject.now.values.now c.args.subject.now.ranks.now items c.requires.values)

pub returns-in_err-write-clause-lines : goal.returns-in_err-write-clause-lines
returns-in_err-write-clause-lines g c =
    let subject = c.args.subject.now in
    let line = line_by subject.expanded.now subject.values.now subject.ranks.now in
    let items = c.product-product.result.now.items in
    left-stop _ _ _ _ _ _ (line (literals_of c.advance.new.self.product)) (flat_map line c.advance.new.self.rest) _ c.write.result c.from_residual.result _
    (left-as _ _ _ _ _ _ _ c.loop-lines.invariant.lines (ap (flat_map line) (c.advance.ensures.some c.loop-lines-test.true)))
    (written-as _ _ _ _ _ _ c.write.result c.write.ensures.line
    (ap (λ (naming : Naming). product_text naming.expanded naming.ranks c.bound-bound.result (literals_of items)) c.loop-lines.invariant.naming
    ∙ ap (λ (bound : Option Ends). product_text subject.expanded.now subject.ranks.now bound (literals_of items))
    (c.bound-bound.ensures.exact ∙ ap (λ (v : Valuation). option_map (λ (some : List Ends). bound_of some v.ranks (literals_of items)) v.values) c.loop-lines.invariant.bounds)
    ∙ ap (λ (literals : List Literal). line (literals_of literals)) c.product-product.ensures))
    c.in_err-write.was c.from_residual.ensures.0

pub loop-lines-init : goal.loop-lines-init
loop-lines-init g c = record {
  naming = search rules;
  bounds = search rules;
  totals = done-none _ _ _ _ _ c.requires.totals;
  lines = left-start _ _ _;
}

pub loop-lines-preserved : goal.loop-lines-preserved
loop-lines-preserved g c =
    let subject = c.args.subject.now in
    let line = line_by subject.expanded.now subject.values.now subject.ranks.now in
    let items = c.product-product.result.now.items in
    record {
      naming = c.write.ensures.same ∙ c.loop-lines.invariant.naming;
      bounds = c.bound-bound.ensures.same ∙ c.loop-lines.invariant.bounds;
      totals = done-more subject.settings.now subject.values.now subject.ranks.now _ _ _ _ _ (literals_of c.advance.new.self.product) _ c.loop-lines.invariant.totals (c.advance.ensures.some c.loop-lines-test.true)
          (c.counted_bound-counted.ensures.exact
          ∙ ap (λ (bound : Option Ends). unwrap_or bound zero_ends)
          (c.bound-bound.ensures.exact
          ∙ ap (λ (v : Valuation). option_map (λ (some : List Ends). bound_of some v.ranks (literals_of items)) v.values) c.loop-lines.invariant.bounds
          ∙ ap (λ (literals : List Literal). bound_by subject.values.now subject.ranks.now (literals_of literals)) c.product-product.ensures))
          c.count.ensures;
      lines =
          left-next _ _ _ _ _ _ (line (literals_of c.advance.new.self.product)) (flat_map line c.advance.new.self.rest) _ c.write.result _
          (left-as _ _ _ _ _ _ _ c.loop-lines.invariant.lines (ap (flat_map line) (c.advance.ensures.some c.loop-lines-test.true)))
          (written-as _ _ _ _ _ _ c.write.result c.write.ensures.line
          (ap (λ (naming : Naming). product_text naming.expanded naming.ranks c.bound-bound.result (literals_of items)) c.loop-lines.invariant.naming
          ∙ ap (λ (bound : Option Ends). product_text subject.expanded.now subject.ranks.now bound (literals_of items))
          (c.bound-bound.ensures.exact ∙ ap (λ (v : Valuation). option_map (λ (some : List Ends). bound_of some v.ranks (literals_of items)) v.values) c.loop-lines.invariant.bounds)
          ∙ ap (λ (literals : List Literal). line (literals_of literals)) c.product-product.ensures))
          c.in_ok-write.was;
    }

pub returns-clause-lines : goal.returns-clause-lines
returns-clause-lines g c =
    let line = line_by c.args.subject.now.expanded.now c.args.subject.now.values.now c.args.subject.now.ranks.now in
    let none = c.advance.ensures.none c.loop-lines-test.false in
    left-end _ _ _ _ _ (left-as _ _ _ _ _ _ _ c.loop-lines.invariant.lines (ap (flat_map line) none.0))

pub returns-clause-totals : goal.returns-clause-totals
returns-clause-totals g c = done-all _ _ _ _ _ _ c.loop-lines.invariant.totals (c.advance.ensures.none c.loop-lines-test.false).0
