use Rattle.std.proofs.Common.{◌≡◌, ◌∙◌, sym, ap, false, Some}
use Rattle.std.proofs.lemmas.Result.{err_from_is_err_and}
use Rattle.clap.specs.Words.{found_of}
use Rattle.psa_words.specs.declared.limits.TheConstants.{DEFAULT_LIMIT_ORDER, MAX_LIMIT_ORDER, MAX_NODE_LIMIT}
use Rattle.psa_words.specs.Given.{Given, decimal_that, default_mission, has_conflict, is_fraction, is_not_below_zero, optional_value, value_or, whole_between}
use Rattle.psa_words.specs.Found.{all_names, given_in}
use Rattle.psa_words.proofs.SettingsStepLemmas.{same_source, same_text, cut_of, excluded, limit_of, mission_of, nodes_of, settings_made, source_of, stops_at_cut, stops_at_input, stops_at_limit, stops_at_mission, stops_at_nodes}
use Rattle.psa_words.proofs.settings.settings.Goals as goal

pub returns-then-has_conflict : goal.returns-then-has_conflict
returns-then-has_conflict c = excluded (given_in (found_of c.args.matches.now)) (sym c.has_conflict.ensures ∙ c.if-has_conflict.true)

pub returns-in_err-limit_order : goal.returns-in_err-limit_order
unfolding given_in
returns-in_err-limit_order c =
    let g : Given = given_in (found_of c.args.matches.now) in
    let none_excluded : has_conflict g ≡ false = sym c.has_conflict.ensures ∙ c.if-has_conflict.false in
    let p = err_from_is_err_and c.from_residual.result c.from_residual.ensures.1 in
    rw (p.1, p.2) (stops_at_limit g c.in_err-limit_order.field-0.0 none_excluded (same_text (value_or DEFAULT_LIMIT_ORDER (whole_between 1 MAX_LIMIT_ORDER)) _ _ c.in_err-limit_order.field-0.0 c.get_str.ensures c.in_err-limit_order.ensures))

pub returns-in_err-cut_off : goal.returns-in_err-cut_off
unfolding given_in
returns-in_err-cut_off c =
    let g : Given = given_in (found_of c.args.matches.now) in
    let none_excluded : has_conflict g ≡ false = sym c.has_conflict.ensures ∙ c.if-has_conflict.false in
    let limit_order_is : limit_of g ≡ Some c.in_ok-limit_order.limit_order = rw c.get_str.ensures at c.in_ok-limit_order.ensures in
    let p = err_from_is_err_and c.from_residual-in_err-cut_off.result c.from_residual-in_err-cut_off.ensures.1 in
    rw (p.1, p.2) (stops_at_cut g c.in_ok-limit_order.limit_order c.in_err-cut_off.field-0.0 none_excluded limit_order_is (same_text (optional_value (decimal_that is_fraction)) _ _ c.in_err-cut_off.field-0.0 c.get_str-2.ensures c.in_err-cut_off.ensures))

pub returns-in_err-mission : goal.returns-in_err-mission
unfolding given_in
returns-in_err-mission c =
    let g : Given = given_in (found_of c.args.matches.now) in
    let none_excluded : has_conflict g ≡ false = sym c.has_conflict.ensures ∙ c.if-has_conflict.false in
    let limit_order_is : limit_of g ≡ Some c.in_ok-limit_order.limit_order = rw c.get_str.ensures at c.in_ok-limit_order.ensures in
    let cut_off_is : cut_of g ≡ Some c.in_ok-cut_off.cut_off = rw c.get_str-2.ensures at c.in_ok-cut_off.ensures in
    let p = err_from_is_err_and c.from_residual-in_err-mission.result c.from_residual-in_err-mission.ensures.1 in
    rw (p.1, p.2) (stops_at_mission g c.in_ok-limit_order.limit_order c.in_ok-cut_off.cut_off c.in_err-mission.field-0.0 none_excluded limit_order_is cut_off_is (same_text (value_or default_mission (decimal_that is_not_below_zero)) _ _ c.in_err-mission.field-0.0 c.get_str-3.ensures c.in_err-mission.ensures))

pub returns-in_err-node_limit : goal.returns-in_err-node_limit
unfolding given_in
returns-in_err-node_limit c =
    let g : Given = given_in (found_of c.args.matches.now) in
    let none_excluded : has_conflict g ≡ false = sym c.has_conflict.ensures ∙ c.if-has_conflict.false in
    let limit_order_is : limit_of g ≡ Some c.in_ok-limit_order.limit_order = rw c.get_str.ensures at c.in_ok-limit_order.ensures in
    let cut_off_is : cut_of g ≡ Some c.in_ok-cut_off.cut_off = rw c.get_str-2.ensures at c.in_ok-cut_off.ensures in
    let mission_is : mission_of g ≡ Some c.in_ok-mission.mission = rw c.get_str-3.ensures at c.in_ok-mission.ensures in
    let p = err_from_is_err_and c.from_residual-in_err-node_limit.result c.from_residual-in_err-node_limit.ensures.1 in
    rw (p.1, p.2) (stops_at_nodes g c.in_ok-limit_order.limit_order c.in_ok-cut_off.cut_off c.in_ok-mission.mission c.in_err-node_limit.field-0.0 none_excluded limit_order_is cut_off_is mission_is (same_text (optional_value (whole_between 1 MAX_NODE_LIMIT)) _ _ c.in_err-node_limit.field-0.0 c.get_str-4.ensures c.in_err-node_limit.ensures))

pub returns-in_err-input : goal.returns-in_err-input
unfolding given_in
returns-in_err-input c =
    let g : Given = given_in (found_of c.args.matches.now) in
    let none_excluded : has_conflict g ≡ false = sym c.has_conflict.ensures ∙ c.if-has_conflict.false in
    let limit_order_is : limit_of g ≡ Some c.in_ok-limit_order.limit_order = rw c.get_str.ensures at c.in_ok-limit_order.ensures in
    let cut_off_is : cut_of g ≡ Some c.in_ok-cut_off.cut_off = rw c.get_str-2.ensures at c.in_ok-cut_off.ensures in
    let mission_is : mission_of g ≡ Some c.in_ok-mission.mission = rw c.get_str-3.ensures at c.in_ok-mission.ensures in
    let node_limit_is : nodes_of g ≡ Some c.in_ok-node_limit.node_limit = rw c.get_str-4.ensures at c.in_ok-node_limit.ensures in
    let p = err_from_is_err_and c.from_residual-in_err-input.result c.from_residual-in_err-input.ensures.1 in
    rw (p.1, p.2) (stops_at_input g c.in_ok-limit_order.limit_order c.in_ok-cut_off.cut_off c.in_ok-mission.mission c.in_ok-node_limit.node_limit c.in_err-input.field-0.0 none_excluded limit_order_is cut_off_is mission_is node_limit_is (same_source _ _ _ _ c.in_err-input.field-0.0 c.get_str-5.ensures (ap all_names c.get_raw.ensures) c.in_err-input.ensures))

pub returns : goal.returns
unfolding given_in
returns c =
    let g : Given = given_in (found_of c.args.matches.now) in
    let none_excluded : has_conflict g ≡ false = sym c.has_conflict.ensures ∙ c.if-has_conflict.false in
    let limit_order_is : limit_of g ≡ Some c.in_ok-limit_order.limit_order = rw c.get_str.ensures at c.in_ok-limit_order.ensures in
    let cut_off_is : cut_of g ≡ Some c.in_ok-cut_off.cut_off = rw c.get_str-2.ensures at c.in_ok-cut_off.ensures in
    let mission_is : mission_of g ≡ Some c.in_ok-mission.mission = rw c.get_str-3.ensures at c.in_ok-mission.ensures in
    let node_limit_is : nodes_of g ≡ Some c.in_ok-node_limit.node_limit = rw c.get_str-4.ensures at c.in_ok-node_limit.ensures in
    let input_is : source_of g ≡ Some c.in_ok-input.input = rw (c.get_str-5.ensures, c.get_raw.ensures) at c.in_ok-input.ensures in
    rw (c.algorithm.ensures, c.mode.ensures, c.is_given.ensures, c.is_given-2.ensures, c.is_given-3.ensures, c.is_given-4.ensures)
    (settings_made g c.in_ok-limit_order.limit_order c.in_ok-cut_off.cut_off c.in_ok-mission.mission c.in_ok-node_limit.node_limit c.in_ok-input.input none_excluded limit_order_is cut_off_is mission_is node_limit_is input_is)
