use Rattle.std.proofs.Common.{◌++◌, flat_map, refl}
use Rattle.psa_number.specs.Operations.{complement_ends}
use Rattle.psa_model.specs.Report.{target_line, totals_text}
use Rattle.psa_report.proofs.WrittenLemmas.{left-of, left-stop, left-next, left-last, written-as}
use Rattle.psa_sections.specs.Writing.{line_by, totals_by}
use Rattle.psa_sections.proofs.SectionLemmas.{text-asked}
use Rattle.psa_sections.proofs.section.write_kept.Goals as goal

pub returns-in_err-write_target : goal.returns-in_err-write_target
returns-in_err-write_target g c = λ keeps answers.
    let subject = c.args.subject.now in
    let kept = c.new-lister.result.rest in
    let sums = totals_by subject.values.now subject.ranks.now kept in
    let front = target_line subject.expanded.now.model subject.target.now in
    let lines = flat_map (line_by subject.expanded.now subject.values.now subject.ranks.now) kept in
    let back = totals_text subject.settings.now sums.count sums.rare_event (complement_ends sums.rest) in (
      kept,
      c.new-lister.ensures.listing keeps answers,
      left-stop _ _ _ _ _ _ front (lines ++ back) _ c.write_target.result c.from_residual.result _
          (left-of _ _ (front ++ (lines ++ back)) _ refl)
          c.write_target.ensures c.in_err-write_target.was c.from_residual.ensures.0,
    )

pub returns-in_err-write_listed : goal.returns-in_err-write_listed
returns-in_err-write_listed g c = λ keeps answers.
    let subject = c.args.subject.now in
    let kept = c.new-lister.result.rest in
    let sums = totals_by subject.values.now subject.ranks.now kept in
    let front = target_line subject.expanded.now.model subject.target.now in
    let lines = flat_map (line_by subject.expanded.now subject.values.now subject.ranks.now) kept in
    let back = totals_text subject.settings.now sums.count sums.rare_event (complement_ends sums.rest) in (
      kept,
      c.new-lister.ensures.listing keeps answers,
      left-stop _ _ _ _ _ _ lines back _ c.write_listed.result c.from_residual-in_err-write_listed.result _
          (left-next _ _ _ _ _ _ front (lines ++ back) _ c.write_target.result _
          (left-of _ _ (front ++ (lines ++ back)) _ refl)
          c.write_target.ensures c.in_ok-write_target.was)
          c.write_listed.ensures.lines c.in_err-write_listed.was c.from_residual-in_err-write_listed.ensures.0,
    )

pub returns : goal.returns
returns g c = λ keeps answers.
    let subject = c.args.subject.now in
    let kept = c.new-lister.result.rest in
    let sums = totals_by subject.values.now subject.ranks.now kept in
    let front = target_line subject.expanded.now.model subject.target.now in
    let lines = flat_map (line_by subject.expanded.now subject.values.now subject.ranks.now) kept in
    let back = totals_text subject.settings.now sums.count sums.rare_event (complement_ends sums.rest) in (
      kept,
      c.new-lister.ensures.listing keeps answers,
      left-last _ _ _ _ _ _ back _ c.write_totals.result
          (left-next _ _ _ _ _ _ lines back _ c.write_listed.result _
          (left-next _ _ _ _ _ _ front (lines ++ back) _ c.write_target.result _
          (left-of _ _ (front ++ (lines ++ back)) _ refl)
          c.write_target.ensures c.in_ok-write_target.was)
          c.write_listed.ensures.lines c.in_ok-write_listed.was)
          (written-as _ _ _ _ _ _ c.write_totals.result c.write_totals.ensures
          (text-asked subject.settings.now _ _ c.in_ok-write_listed.ensures.totals)),
    )
