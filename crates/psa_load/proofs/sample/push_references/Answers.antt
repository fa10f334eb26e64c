use Rattle.std.proofs.Common.{◌+◌, ◌++◌, flat_map, string_bytes, sym, ap, ◌∙◌, append_assoc}
use Rattle.std.specs.List.{range_with_len}
use Rattle.psa_outcome.specs.SampleText.{train_reference}
use Rattle.psa_ccf.proofs.Choices.{sizes-step}
use Rattle.psa_load.proofs.sample.push_references.Goals as goal

pub loop-train-preserved : goal.loop-train-preserved
loop-train-preserved c =
    let before = string_bytes c.args.text.now in
    c.in_ok-push_reference.ensures ∙ ap (λ bytes. bytes ++ train_reference (c.loop-train.train + 1)) c.loop-train.invariant
    ∙ append_assoc before (flat_map train_reference (range_with_len 1 c.loop-train.train)) (train_reference (c.loop-train.train + 1))
    ∙ ap (λ bytes. before ++ bytes) (sym (sizes-step train_reference c.loop-train.train))
