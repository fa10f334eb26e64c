use Rattle.std.proofs.Common.{◌≡◌, ◌+◌, ◌≤◌, rules, take, ap, arith}
use Rattle.psa_text.specs.declared.tree.Element.TheViews.{out-Element}
use Rattle.psa_draft_parts.specs.Sayings.{size_of, sizes_of}
use Rattle.psa_draft_parts.proofs.Readings.{size-out}
use Rattle.psa_draft_parts.proofs.Passing.{sizes-within, counted-more}
use Rattle.psa_text.specs.declared.tree.Element.TheViews as q
use Rattle.psa_draft_parts.proofs.counting.+count.Goals as goal

pub pass_over-overflow_add-reader : goal.pass_over-overflow_add-reader
pass_over-overflow_add-reader t c = omega (arith, c.requires, size-out c.args.element.now)

pub pass_over-pass_over_all-requires : goal.pass_over-pass_over_all-requires
pass_over-pass_over_all-requires t c =
    let sizes : sizes_of c.as_slice.result.now ≡ sizes_of (out-Element c.args.element.now).children = ap sizes_of
    c.as_slice.ensures in
    (search (rules, q.the_lemmas), omega (arith, c.requires, size-out c.args.element.now))

pub pass_over-returns : goal.pass_over-returns
pass_over-returns t c =
    let sizes : sizes_of c.as_slice.result.now ≡ sizes_of (out-Element c.args.element.now).children = ap sizes_of
    c.as_slice.ensures in
    omega (arith, c.pass_over_all.ensures, size-out c.args.element.now)

pub pass_over_all-pass_over-requires : goal.pass_over_all-pass_over-requires
pass_over_all-pass_over-requires t c =
    let within : sizes_of (take c.loop-element.element-index c.args.elements.now) + size_of c.element-item.result ≤
    sizes_of c.args.elements.now =
    sizes-within c.args.elements.now c.loop-element.element-index c.element-item.result c.loop-element-test.true
    c.element-item.is in
    (search (rules, q.the_lemmas), omega (arith, c.requires, c.loop-element.invariant))

pub pass_over_all-loop-element-preserved : goal.pass_over_all-loop-element-preserved
pass_over_all-loop-element-preserved t c =
    counted-more c.args.reader.now.number c.args.elements.now c.loop-element.element-index c.element-item.result
    c.loop-element.reader.number c.pass_over.new.reader.number
    c.loop-element.invariant c.loop-element-test.true c.element-item.is c.pass_over.ensures
