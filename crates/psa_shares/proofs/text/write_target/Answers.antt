use Rattle.std.proofs.Common.{◌≡◌, Option, Some, Ok, refl, subst}
use Rattle.psa_model.specs.declared.targets.Target.{Target}
use Rattle.psa_outcome.specs.Loading.{loaded_analysis}
use Rattle.psa_sections.specs.ProductNodes.{IsNodeOfProducts}
use Rattle.psa_sections.proofs.LoadedLemmas.{few-at, read-at, target-stands}
use Rattle.psa_sections.proofs.TargetLemmas.{turned}
use Rattle.psa_shares.specs.declared.text.TextError.TheVariants.{Memory, Write}
use Rattle.psa_shares.specs.SectionEnds.{WritesTarget}
use Rattle.psa_shares.proofs.ShareLemmas.{ranks-of-target}
use Rattle.psa_shares.proofs.TextLemmas.{section-unwritten, section-written, unmade}
use Rattle.psa_shares.proofs.text.write_target.Goals as goal

-- two elements at one place are one
same-at : {A : Type 0} {o : Option A} {x y : A} → o ≡ Some x → o ≡ Some y → x ≡ y
same-at p q = cc

-- the target and the ranks at the place
pub products_of_target-requires-clause-target : goal.products_of_target-requires-clause-target
products_of_target-requires-clause-target g c =
    target-stands c.args.loaded.now c.requires.loaded c.args.place c.index-as_slice-place.result
    (read-at c.args.loaded.now.targets c.as_slice.result.now c.args.place c.index-as_slice-place.result c.as_slice.ensures c.requires.place c.index-as_slice-place.is)

pub products_of_target-requires-clause-ranks : goal.products_of_target-requires-clause-ranks
products_of_target-requires-clause-ranks g c =
    ranks-of-target c.args.loaded.now c.requires.loaded c.args.place c.requires.place c.index-as_slice-place.result
    (read-at c.args.loaded.now.targets c.as_slice.result.now c.args.place c.index-as_slice-place.result c.as_slice.ensures c.requires.place c.index-as_slice-place.is)
    c.as_slice-2.result.now c.index-as_slice-place-2.result c.as_slice-2.ensures c.index-as_slice-place-2.is

pub products_of_target-requires-clause-few : goal.products_of_target-requires-clause-few
products_of_target-requires-clause-few g c =
    few-at c.args.loaded.now c.requires.loaded c.args.place c.requires.place c.as_slice-2.result.now c.index-as_slice-place-2.result c.as_slice-2.ensures c.index-as_slice-place-2.is

pub write_shares-requires-clause-products : goal.write_shares-requires-clause-products
write_shares-requires-clause-products g c its stands =
    subst (λ (t : Target). IsNodeOfProducts (loaded_analysis c.args.loaded.now) t c.products_of_target.new.table c.in_ok-root.root.0)
    (same-at (read-at c.args.loaded.now.targets c.as_slice.result.now c.args.place c.index-as_slice-place.result c.as_slice.ensures c.requires.place c.index-as_slice-place.is) stands)
    (c.in_ok-root.ensures.products c.args.loaded.now.values)

pub returns-in_err-root-clause-writes : goal.returns-in_err-root-clause-writes
returns-in_err-root-clause-writes g c target stands =
    unmade (loaded_analysis c.args.loaded.now) target (g.O.Sink.faults c.args.out.now) 0 (g.O.Sink.written c.args.out.now) (g.O.Sink.written c.args.out.now)
    c.from_residual.result (turned c.from_residual.result Memory c.from_residual.ensures.1)

pub returns-in_err-root-clause-bounded : goal.returns-in_err-root-clause-bounded
returns-in_err-root-clause-bounded g c =
    (c.products_of_target.ensures.call c.args.loaded.now.values).progress.bounded c.requires.bounded

pub returns-in_err-write_shares-clause-writes : goal.returns-in_err-write_shares-clause-writes
returns-in_err-write_shares-clause-writes g c target stands =
    section-unwritten (loaded_analysis c.args.loaded.now) target (g.O.Sink.faults c.args.out.now) (g.O.Sink.faults c.write_shares.new.out) (g.O.Sink.written c.args.out.now) (g.O.Sink.written c.write_shares.new.out)
    c.write_shares.result c.in_err-write_shares.field-0.0 c.from_residual-in_err-write_shares.result (c.write_shares.ensures target stands) c.in_err-write_shares.was
    (turned c.from_residual-in_err-write_shares.result Write c.from_residual-in_err-write_shares.ensures.1)

pub returns-in_err-write_shares-clause-later : goal.returns-in_err-write_shares-clause-later
returns-in_err-write_shares-clause-later g c =
    (c.write_shares.ensures c.index-as_slice-place.result
    (read-at c.args.loaded.now.targets c.as_slice.result.now c.args.place c.index-as_slice-place.result c.as_slice.ensures c.requires.place c.index-as_slice-place.is)).written.cause.later

pub returns-in_err-write_shares-clause-bounded : goal.returns-in_err-write_shares-clause-bounded
returns-in_err-write_shares-clause-bounded g c =
    (c.products_of_target.ensures.call c.args.loaded.now.values).progress.bounded c.requires.bounded

pub returns-clause-writes : goal.returns-clause-writes
returns-clause-writes g c target stands =
    section-written (loaded_analysis c.args.loaded.now) target (g.O.Sink.faults c.args.out.now) (g.O.Sink.faults c.write_shares.new.out) (g.O.Sink.written c.args.out.now) (g.O.Sink.written c.write_shares.new.out)
    c.write_shares.result (c.write_shares.ensures target stands) c.in_ok-write_shares.was

pub returns-clause-later : goal.returns-clause-later
returns-clause-later g c =
    (c.write_shares.ensures c.index-as_slice-place.result
    (read-at c.args.loaded.now.targets c.as_slice.result.now c.args.place c.index-as_slice-place.result c.as_slice.ensures c.requires.place c.index-as_slice-place.is)).written.cause.later

pub returns-clause-bounded : goal.returns-clause-bounded
returns-clause-bounded g c =
    (c.products_of_target.ensures.call c.args.loaded.now.values).progress.bounded c.requires.bounded
