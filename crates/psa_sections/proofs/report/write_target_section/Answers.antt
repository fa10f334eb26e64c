use Rattle.std.proofs.Common.{◌≡◌, Option, Some, Ok, refl, subst}
use Rattle.psa_nodes.specs.declared.node.NodeId.{NodeId}
use Rattle.psa_nodes.specs.Progress.{IsCall}
use Rattle.psa_outcome.specs.Origins.{Origin}
use Rattle.psa_model.specs.declared.targets.Target.{Target}
use Rattle.psa_outcome.specs.Loading.{loaded_analysis}
use Rattle.psa_sections.specs.declared.report.TargetError.TheVariants.{Write}
use Rattle.psa_sections.specs.Reports.{WritesTarget, target_error}
use Rattle.psa_sections.proofs.LoadedLemmas.{few-at, read-at, target-stands, values-in-unit}
use Rattle.psa_sections.proofs.TargetLemmas.{section-unwritten, section-written, turned, unmade}
use Rattle.psa_sections.proofs.report.write_target_section.Goals as goal

-- two elements at one place are one
same-at : {A : Type 0} {o : Option A} {x y : A} → o ≡ Some x → o ≡ Some y → x ≡ y
same-at p q = cc

-- the target and the ranks at the place
pub products_of_target-requires-clause-target : goal.products_of_target-requires-clause-target
products_of_target-requires-clause-target g c =
    target-stands c.args.loaded.now c.requires.loaded c.args.place c.index-as_slice-place.result
    (read-at c.args.loaded.now.targets c.as_slice.result.now c.args.place c.index-as_slice-place.result c.as_slice.ensures c.requires.place c.index-as_slice-place.is)

pub products_of_target-requires-clause-few : goal.products_of_target-requires-clause-few
products_of_target-requires-clause-few g c =
    few-at c.args.loaded.now c.requires.loaded c.args.place c.requires.place c.as_slice-2.result.now c.index-as_slice-place-2.result c.as_slice-2.ensures c.index-as_slice-place-2.is

pub returns-in_err-root : goal.returns-in_err-root
returns-in_err-root g c target stands =
    subst (λ (t : Target). WritesTarget (loaded_analysis c.args.loaded.now) t (c.args.table.now, c.products_of_target.new.table) (g.O.Sink.faults c.args.out.now, g.O.Sink.faults c.args.out.now) (g.O.Sink.written c.args.out.now) (g.O.Sink.written c.args.out.now) c.from_residual.result)
    (same-at (read-at c.args.loaded.now.targets c.as_slice.result.now c.args.place c.index-as_slice-place.result c.as_slice.ensures c.requires.place c.index-as_slice-place.is) stands)
    (unmade (loaded_analysis c.args.loaded.now) c.index-as_slice-place.result c.args.table.now c.products_of_target.new.table c.in_err-root.field-0.0 (g.O.Sink.faults c.args.out.now) (g.O.Sink.written c.args.out.now) c.from_residual.result
    (subst (IsCall (Origin (loaded_analysis c.args.loaded.now) c.index-as_slice-place.result) 0 {A = NodeId} c.args.table.now c.products_of_target.new.table) c.in_err-root.was (c.products_of_target.ensures.call c.args.loaded.now.values))
    (turned c.from_residual.result (target_error c.in_err-root.field-0.0) c.from_residual.ensures.1))

pub write_section-requires-clause-products : goal.write_section-requires-clause-products
write_section-requires-clause-products g c = c.in_ok-root.ensures.products c.args.loaded.now.values

pub write_section-requires-clause-values : goal.write_section-requires-clause-values
write_section-requires-clause-values g c = values-in-unit c.args.loaded.now c.requires.loaded

pub returns-in_err-write_section : goal.returns-in_err-write_section
returns-in_err-write_section g c target stands =
    subst (λ (t : Target). WritesTarget (loaded_analysis c.args.loaded.now) t (c.args.table.now, c.products_of_target.new.table) (g.O.Sink.faults c.args.out.now, g.O.Sink.faults c.write_section.new.out) (g.O.Sink.written c.args.out.now) (g.O.Sink.written c.write_section.new.out) c.from_residual-in_err-write_section.result)
    (same-at (read-at c.args.loaded.now.targets c.as_slice.result.now c.args.place c.index-as_slice-place.result c.as_slice.ensures c.requires.place c.index-as_slice-place.is) stands)
    (section-unwritten (loaded_analysis c.args.loaded.now) c.index-as_slice-place.result c.args.table.now c.products_of_target.new.table c.in_ok-root.root
    (subst (IsCall (Origin (loaded_analysis c.args.loaded.now) c.index-as_slice-place.result) 0 {A = NodeId} c.args.table.now c.products_of_target.new.table) c.in_ok-root.was (c.products_of_target.ensures.call c.args.loaded.now.values))
    (c.in_ok-root.root.0, (c.in_ok-root.ensures.products c.args.loaded.now.values).0, (c.in_ok-root.ensures.products c.args.loaded.now.values).1)
    (g.O.Sink.faults c.args.out.now) (g.O.Sink.faults c.write_section.new.out) (g.O.Sink.written c.args.out.now) (g.O.Sink.written c.write_section.new.out)
    c.write_section.result c.in_err-write_section.field-0.0 c.from_residual-in_err-write_section.result c.write_section.ensures c.in_err-write_section.was
    (turned c.from_residual-in_err-write_section.result Write c.from_residual-in_err-write_section.ensures.1))

pub returns : goal.returns
returns g c target stands =
    subst (λ (t : Target). WritesTarget (loaded_analysis c.args.loaded.now) t (c.args.table.now, c.products_of_target.new.table) (g.O.Sink.faults c.args.out.now, g.O.Sink.faults c.write_section.new.out) (g.O.Sink.written c.args.out.now) (g.O.Sink.written c.write_section.new.out) (Ok tt))
    (same-at (read-at c.args.loaded.now.targets c.as_slice.result.now c.args.place c.index-as_slice-place.result c.as_slice.ensures c.requires.place c.index-as_slice-place.is) stands)
    (section-written (loaded_analysis c.args.loaded.now) c.index-as_slice-place.result c.args.table.now c.products_of_target.new.table c.in_ok-root.root
    (subst (IsCall (Origin (loaded_analysis c.args.loaded.now) c.index-as_slice-place.result) 0 {A = NodeId} c.args.table.now c.products_of_target.new.table) c.in_ok-root.was (c.products_of_target.ensures.call c.args.loaded.now.values))
    (c.in_ok-root.root.0, (c.in_ok-root.ensures.products c.args.loaded.now.values).0, (c.in_ok-root.ensures.products c.args.loaded.now.values).1)
    (g.O.Sink.faults c.args.out.now) (g.O.Sink.faults c.write_section.new.out) (g.O.Sink.written c.args.out.now) (g.O.Sink.written c.write_section.new.out)
    c.write_section.result (Ok tt) c.write_section.ensures c.in_ok-write_section.was refl)
