use Rattle.std.proofs.Common.{◌≡◌, ◌++◌, flat_map, string_bytes}
use Rattle.std.specs.List.{range_with_len}
use Rattle.psa_outcome.specs.SampleText.{train_reference}
use Rattle.psa_load.proofs.sample.push_references.Given as goal

abbrev pub invariant-loop-train : goal.invariant-loop-train
invariant-loop-train l = string_bytes l.text ≡ string_bytes l.fn.text ++ flat_map train_reference (range_with_len 1 l.train)
