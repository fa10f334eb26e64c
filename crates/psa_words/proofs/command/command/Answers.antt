use Rattle.std.proofs.Common.{◌∙◌, ap₂}
use Rattle.std.proofs.lemmas.Result.{IfOk-weaker}
use Rattle.clap.specs.Words.{with_rule}
use Rattle.psa_words.proofs.SimpleCommandLemmas.{scram_made}
use Rattle.psa_words.proofs.command.command.Goals as goal

pub returns : goal.returns
returns c =
    let a1 = c.in_ok-command.ensures.shape c.flag.ensures.local ∙ ap₂ with_rule c.blank-command.ensures c.flag.ensures.rule in
    let a2 = c.in_ok-command-2.ensures.shape c.flag-2.ensures.local ∙ ap₂ with_rule a1 c.flag-2.ensures.rule in
    let a3 = c.in_ok-command-3.ensures.shape c.flag-3.ensures.local ∙ ap₂ with_rule a2 c.flag-3.ensures.rule in
    let a4 = c.in_ok-command-4.ensures.shape c.flag-4.ensures.local ∙ ap₂ with_rule a3 c.flag-4.ensures.rule in
    let a5 = c.in_ok-command-5.ensures.shape c.flag-5.ensures.local ∙ ap₂ with_rule a4 c.flag-5.ensures.rule in
    let a6 = c.in_ok-command-6.ensures.shape c.flag-6.ensures.local ∙ ap₂ with_rule a5 c.flag-6.ensures.rule in
    let a7 = c.in_ok-command-7.ensures.shape c.flag-7.ensures.local ∙ ap₂ with_rule a6 c.flag-7.ensures.rule in
    let a8 = c.in_ok-command-8.ensures.shape c.limit_order.ensures.local ∙ ap₂ with_rule a7 c.limit_order.ensures.rule in
    let a9 = c.in_ok-command-9.ensures.shape c.valued.ensures.local ∙ ap₂ with_rule a8 c.valued.ensures.rule in
    let a10 = c.in_ok-command-10.ensures.shape c.valued-2.ensures.local ∙ ap₂ with_rule a9 c.valued-2.ensures.rule in
    let a11 = c.in_ok-command-11.ensures.shape c.valued-3.ensures.local ∙ ap₂ with_rule a10 c.valued-3.ensures.rule in
    let a12 = c.in_ok-command-12.ensures.shape c.valued-4.ensures.local ∙ ap₂ with_rule a11 c.valued-4.ensures.rule in
    IfOk-weaker c.arg-13.result _ _ (λ r h. (h.shape c.file.ensures.local ∙ ap₂ with_rule a12 c.file.ensures.rule) ∙ scram_made) c.arg-13.ensures
