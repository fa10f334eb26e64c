-- The command is simple: what the parser makes of words is a function of them.
use Rattle.std.proofs.Common.{◌≡◌, ◌∙◌, refl, ap, true, [], codes}
use Rattle.clap.specs.Simple.{App, is_simple, with_rule}
use Rattle.clap.specs.Faults.{is_simple_and_free}
use Rattle.psa_words.specs.Scram.{scram, blank_shape, flag_rule, valued_rule, limit_rule, file_rule}

simple_scram : is_simple scram ≡ true
unfolding scram
simple_scram = refl

simple_free_scram : is_simple_and_free scram ≡ true
unfolding scram
simple_free_scram = refl

-- The command is of the simple form for which the parser's answer is a function of the words.
pub simple : (a : App) → a ≡ scram → is_simple a ≡ true
simple a e = ap is_simple e ∙ simple_scram

-- The command is simple, and no argument of it has a rule on another.
pub simple_free : (a : App) → a ≡ scram → is_simple_and_free a ≡ true
simple_free a e = ap is_simple_and_free e ∙ simple_free_scram

-- the arguments, one after another
pub scram_made : with_rule (with_rule (with_rule (with_rule (with_rule (with_rule (with_rule (with_rule (with_rule (with_rule (with_rule (with_rule (with_rule (record { top = blank_shape; subs = [] }) (flag_rule (codes "bdd"))) (flag_rule (codes "zbdd"))) (flag_rule (codes "prime-implicants"))) (flag_rule (codes "rare-event"))) (flag_rule (codes "mcub"))) (flag_rule (codes "ccf"))) (flag_rule (codes "validate"))) limit_rule) (valued_rule (codes "cut-off"))) (valued_rule (codes "mission-time"))) (valued_rule (codes "node-limit"))) (valued_rule (codes "sample"))) file_rule ≡ scram
unfolding scram
scram_made = refl
