use Rattle.std.proofs.Common.{◌≡◌, ◌+◌, take}
use Rattle.psa_draft_parts.specs.Sayings.{sizes_of}
use Rattle.psa_draft_parts.proofs.counting.+count.Given as goal

abbrev pub invariant-pass_over_all-loop-element : goal.invariant-pass_over_all-loop-element
invariant-pass_over_all-loop-element l = l.reader.number ≡ l.fn.reader.number + sizes_of (take l.element-index
    l.elements)
