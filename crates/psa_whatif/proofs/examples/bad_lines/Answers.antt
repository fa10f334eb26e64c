use Rattle.std.proofs.Common.{refl}
use Rattle.psa_whatif.specs.EditText.{script_from}
use Rattle.psa_whatif.proofs.examples.bad_lines.Goals as goal

pub returns-clause-space_behind : goal.returns-clause-space_behind
unfolding script_from
returns-clause-space_behind c = refl

pub returns-clause-space_before : goal.returns-clause-space_before
unfolding script_from
returns-clause-space_before c = refl

pub returns-clause-two_spaces : goal.returns-clause-two_spaces
unfolding script_from
returns-clause-two_spaces c = refl

pub returns-clause-tab : goal.returns-clause-tab
unfolding script_from
returns-clause-tab c = refl

pub returns-clause-carriage_return : goal.returns-clause-carriage_return
unfolding script_from
returns-clause-carriage_return c = refl

pub returns-clause-no_name : goal.returns-clause-no_name
unfolding script_from
returns-clause-no_name c = refl

pub returns-clause-other_kind : goal.returns-clause-other_kind
unfolding script_from
returns-clause-other_kind c = refl

pub returns-clause-no_state : goal.returns-clause-no_state
unfolding script_from
returns-clause-no_state c = refl

pub returns-clause-no_decimal : goal.returns-clause-no_decimal
unfolding script_from
returns-clause-no_decimal c = refl

pub returns-clause-above : goal.returns-clause-above
unfolding script_from
returns-clause-above c = refl

pub returns-clause-below : goal.returns-clause-below
unfolding script_from
returns-clause-below c = refl

pub returns-clause-nothing_left : goal.returns-clause-nothing_left
unfolding script_from
returns-clause-nothing_left c = refl
