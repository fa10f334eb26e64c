use Rattle.std.proofs.Common.{Global, codes, map, arith, subst, sym}
use Rattle.std.specs.Prelude.{List, ℕ}
use Rattle.std.specs.String.{string_bytes}
use Rattle.psa_outcome.specs.declared.status.Status.{Status}
use Rattle.psa_outcome.specs.RunOutcome.{IsRefusal}
use Rattle.psa_engine.specs.Ends.{refusal_text}
use Rattle.psa_engine.proofs.EndLemmas.{refusal-of}
use Rattle.psa_engine.proofs.SettingsLimits.{opened-few}
use Rattle.psa_shares.specs.ShareText.{refused_shares_text}
use Rattle.psa_shares.proofs.ShareSettings.{shares-within}
use Rattle.psa_shares.proofs.run.share_words.Goals as goal

pub run-end-requires-clause-input : goal.run-end-requires-clause-input
run-end-requires-clause-input g c =
    (shares-within (map (string_bytes {Z = Global}) c.args.words.now.items) c.in-Ok.settings c.in-Ok.ensures).0

pub run-end-requires-clause-order : goal.run-end-requires-clause-order
run-end-requires-clause-order g c =
    (shares-within (map (string_bytes {Z = Global}) c.args.words.now.items) c.in-Ok.settings c.in-Ok.ensures).1

pub run-end-requires-clause-shown : goal.run-end-requires-clause-shown
run-end-requires-clause-shown g c =
    (shares-within (map (string_bytes {Z = Global}) c.args.words.now.items) c.in-Ok.settings c.in-Ok.ensures).2

pub returns-in-Ok-clause-opens : goal.returns-in-Ok-clause-opens
returns-in-Ok-clause-opens g c =
    let few = opened-few c.in-Ok.settings.input (shares-within (map (string_bytes {Z = Global}) c.args.words.now.items) c.in-Ok.settings c.in-Ok.ensures).0 in
    let opens = c.run-end.ensures.opens in
    omega (arith, few, opens)

pub returns-in-Err-clause-refused_words : goal.returns-in-Err-clause-refused_words
returns-in-Err-clause-refused_words g c none = (
  refusal_text (codes "scram_shares") c.in-Err.error,
  subst (λ (s : Status). IsRefusal refused_shares_text s (refusal_text (codes "scram_shares") c.in-Err.error)) (sym c.refuse.ensures.status) (refusal-of (codes "scram_shares") c.in-Err.error),
  c.refuse.ensures.line,
)
