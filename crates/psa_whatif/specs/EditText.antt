-- The text of edits: its lines, what each means, and the first bad one. This project's own.
use Rattle.std.specs.Prelude.{◌==◌, ◌&&◌, ℕ, suc, Bool, true, false, List, [], ◌∷◌, ◌++◌, Option, Some, None, codes, if◌then◌else◌, option_and_then, option_map, position}
use Rattle.std.specs.List.{slice_split}
use Rattle.std.specs.Str.{bytes_eq}
use Rattle.psa_model.specs.declared.model.Model.{Model}
use Rattle.psa_model.specs.Quantities.{has_quantities}
use Rattle.psa_model.specs.Report.{Analysis, IsReport}
use Rattle.psa_outcome.specs.Runs.{all_targets}
use Rattle.psa_words.specs.Given.{decimal_that, is_fraction}
use Rattle.psa_whatif.specs.Edits.{Edit, house, value, IsEdited, is_member}

-- what a line asks for: an edit, or that the latest one is taken back
pub data Action : Type 0 where
  makes : Edit → Action
  undoes : Action

-- ---- a line

-- the first house event with a name, by its place
abbrev pub house_named : Model → List ℕ → Option ℕ
house_named model name = position (λ found. bytes_eq found.name name) model.houses

-- an id, if it is outside all groups
abbrev pub outside_groups : Model → ℕ → Option ℕ
outside_groups model id = if is_member model id then None else Some id

-- the first basic event with a name, by its place, if it is outside all groups
abbrev pub single_named : Model → List ℕ → Option ℕ
single_named model name =
    option_and_then (outside_groups model) (position (λ found. bytes_eq found.name name) model.basics)

-- the state that a word tells
abbrev pub state_of : List ℕ → Option Bool
state_of word =
    if bytes_eq word (codes "true") then Some true
    else (if bytes_eq word (codes "false") then Some false else None)

-- the edit of the house event with a name
abbrev pub house_action : Model → List ℕ → List ℕ → Option Action
house_action model name state =
    option_and_then (λ id. option_map (λ given. makes (house id given)) (state_of state)) (house_named model name)

-- the edit of the basic event with a name: a decimal within 0 and 1
abbrev pub value_action : Model → List ℕ → List ℕ → Option Action
value_action model name number =
    option_and_then (λ id. option_map (λ given. makes (value id given)) (decimal_that is_fraction number))
    (single_named model name)

-- What a line asks for by the words between its spaces; None: the line is bad. Two spaces in a row, or one at an end,
-- make an empty word.
abbrev pub action_by : Analysis → List (List ℕ) → Option Action
action_by accepted (word ∷ []) = if bytes_eq word (codes "undo") then Some undoes else None
action_by accepted (word ∷ name ∷ last ∷ []) =
    if bytes_eq word (codes "house") then house_action accepted.expanded.model name last
    else (if bytes_eq word (codes "value") && has_quantities accepted.settings
    then value_action accepted.expanded.model name last else None)
action_by accepted _ = None

-- what a line asks for
abbrev pub action_of : Analysis → List ℕ → Option Action
action_of accepted line = action_by accepted (slice_split (λ byte. byte == 32) line)

-- the edits after an action, the latest first; None where no edit is left to take back
abbrev pub after_action : List Edit → Action → Option (List Edit)
after_action edits (makes edit) = Some (edit ∷ edits)
after_action [] undoes = None
after_action (edit ∷ edits) undoes = Some edits

-- the edits after a line, by those before it; None: the line is bad
abbrev pub after_line : Analysis → List Edit → List ℕ → Option (List Edit)
after_line accepted edits line = option_and_then (after_action edits) (action_of accepted line)

-- ---- the lines

-- the lines of a text; the last may lack its end
abbrev pub lines_of : List ℕ → List (List ℕ)
lines_of text = slice_split (λ byte. byte == 10) text

-- the edits after each line that is not empty, before the first bad one, and the number of that, from 1
pub record Script : Type 0 where
  pub states : List (List Edit)
  pub bad : Option ℕ

-- a script behind one line more
abbrev pub script_after : List Edit → Script → Script
script_after edits script = record { states = edits ∷ script.states; bad = script.bad }

-- the script from a line with a number: it ends at a bad line, else it goes on with the edits after this one
abbrev pub script_at : ℕ → Option (List Edit) → (List Edit → Script) → Script
script_at number None behind = record { states = []; bad = Some number }
script_at number (Some edits) behind = script_after edits (behind edits)

-- the script of some lines, of which the first has a number, after some edits; empty lines are passed over
unfoldable pub script_from : Analysis → ℕ → List Edit → List (List ℕ) → Script
script_from accepted number edits [] = record { states = []; bad = None }
script_from accepted number edits ([] ∷ lines) = script_from accepted (suc number) edits lines
script_from accepted number edits ((byte ∷ line) ∷ lines) =
    script_at number (after_line accepted edits (byte ∷ line)) (λ next. script_from accepted (suc number) next lines)

-- the script of a whole text
abbrev pub script_of : Analysis → List ℕ → Script
script_of accepted text = script_from accepted 1 [] (lines_of text)

-- ---- the reports

-- the whole reports of the model after some lists of edits, one behind another
pub data AreReports (accepted : Analysis) : List (List Edit) → List ℕ → Type 0 where
  no_report : AreReports accepted [] []
  and_report :
      (states : List (List Edit)) (text : List ℕ) (edits : List Edit) (analysis : Analysis) (report : List ℕ)
      → AreReports accepted states text
      → IsEdited accepted edits analysis
      → IsReport analysis (all_targets analysis) report
      → AreReports accepted (states ++ edits ∷ []) (text ++ report)

-- the lists of edits that a text of edits has a report for: none, and those after each line before the first bad one
abbrev pub reported_states : Analysis → List ℕ → List (List Edit)
reported_states accepted edits = [] ∷ (script_of accepted edits).states

-- the report of the accepted model, and that after each line before the first bad one
abbrev pub IsWhatIfText : Analysis → List ℕ → List ℕ → Type 0
IsWhatIfText accepted edits text = AreReports accepted (reported_states accepted edits) text
