use Rattle.std.proofs.Common.{rules, ◌≡◌, ◌<◌, [], arith, length}
use Rattle.psa_text.proofs.TreeSizes.{tree_depth, tree_elements}
use Rattle.psa_load.proofs.ReadingLemmas.{no-byte, got-more, fed-error, ended-tree, ended-error, passed-on, no-more-turns}
use Rattle.psa_load.proofs.document.read_opened.Goals as goal

pub loop-turn-init : goal.loop-turn-init
loop-turn-init g c = record {
  got = record { bytes = []; read = c.new-scanner.ensures; sound = no-byte; turned = omega arith; reads = c.requires };
  later = search rules;
  counted = search rules;
  same_opens = search rules;
  same_texts = search rules;
  same_allows = search rules;
}

pub returns-in_err-finish-clause-answer : goal.returns-in_err-finish-clause-answer
returns-in_err-finish-clause-answer g c =
    let none : c.in_ok-count.count ≡ 0 = omega arith in
    let some : 0 < length c.read.new.buf = search rules in
    passed-on _ _ _ _ _ c.from_residual-in_err-finish.ensures.1
    (ended-error _ _ (g.F.Folder.rest c.loop-turn.files) _ c.loop-turn._turn c.loop-turn.scanner c.in_ok-count.count c.read.new.buf c.in_err-finish.field-0.0
    c.loop-turn.invariant.got none c.in_ok-count.ensures.bytes.0 (c.in_ok-count.ensures.bytes.1 none some) c.in_err-finish.ensures.read)

pub returns-then-count-eq0-clause-answer : goal.returns-then-count-eq0-clause-answer
returns-then-count-eq0-clause-answer g c =
    let none : c.in_ok-count.count ≡ 0 = omega arith in
    let some : 0 < length c.read.new.buf = search rules in
    ended-tree _ _ (g.F.Folder.rest c.loop-turn.files) _ c.loop-turn._turn c.loop-turn.scanner c.in_ok-count.count c.read.new.buf c.in_ok-finish.field-0
    c.loop-turn.invariant.got none c.in_ok-count.ensures.bytes.0 (c.in_ok-count.ensures.bytes.1 none some) c.in_ok-finish.ensures.read

pub returns-then-count-eq0-clause-flat : goal.returns-then-count-eq0-clause-flat
returns-then-count-eq0-clause-flat g c =
    let got = c.loop-turn.invariant.got in
    tree_depth got.bytes c.in_ok-finish.field-0.root (c.in_ok-finish.ensures.read got.bytes got.read).0

pub returns-then-count-eq0-clause-small : goal.returns-then-count-eq0-clause-small
returns-then-count-eq0-clause-small g c =
    let got = c.loop-turn.invariant.got in
    let ends = c.in_ok-finish.ensures.read got.bytes got.read in
    tree_elements got.bytes c.in_ok-finish.field-0.root ends.0 ends.1

pub returns-in_err-feed-clause-answer : goal.returns-in_err-feed-clause-answer
returns-in_err-feed-clause-answer g c =
    passed-on _ _ _ _ _ c.from_residual-in_err-feed.ensures.1
    (fed-error _ _ (g.F.Folder.rest c.loop-turn.files) _ c.loop-turn._turn c.loop-turn.scanner c.feed.new.self c.in_ok-count.count c.read.new.buf _ c.in_err-feed.field-0.0
    c.loop-turn.invariant.got c.in_ok-count.ensures.bytes.0 c.split_at.ensures.front c.in_err-feed.ensures.read)

pub loop-turn-preserved : goal.loop-turn-preserved
loop-turn-preserved g c =
    let some : 0 < c.in_ok-count.count = omega arith in
    record {
      got =
          got-more _ _ (g.F.Folder.rest c.loop-turn.files) _ c.loop-turn._turn c.loop-turn.scanner c.feed.new.self c.in_ok-count.count c.read.new.buf _
          c.loop-turn.invariant.got c.in_ok-count.ensures.bytes.0 some c.in_ok-count.ensures.bound.0 c.split_at.ensures.front c.in_ok-feed.ensures.read;
      later = search rules;
      counted = search rules;
      same_opens = search rules;
      same_texts = search rules;
      same_allows = search rules;
    }

pub unreachable-requires : goal.unreachable-requires
unreachable-requires g c = no-more-turns _ _ _ c.loop-turn._turn c.loop-turn.scanner c.loop-turn.invariant.got (omega arith)
