-- Texts of edits: what each line asks for is taken, and each text of edits has at most one text of reports, and one
-- where each state has an analysis.
use Rattle.std.proofs.Common.{◌≡◌, ◌⊎◌, ◌<◌, ◌==◌, ◌&&◌, ℕ, suc, Bool, true, false, List, [], ◌∷◌, ◌++◌, Option, Some, None, length, if◌then◌else◌, refl, sym, ap, ◌∙◌, subst, inl, inr}
use Rattle.std.proofs.lemmas.Bool.{cases_Bool, ltb-true}
use Rattle.std.proofs.lemmas.List.{append_assoc, append-nil}
use Rattle.std.proofs.lemmas.List.Elements.{All-cons, All-head, All-nil, All-tail}
use Rattle.std.proofs.lemmas.Option.{cond_some, none-some, option_and_then_some, same_Some}
use Rattle.std.specs.Prelude.{All, Result, Ok, codes, nat_lt, position}
use Rattle.std.specs.List.{position_or_len, slice_split}
use Rattle.std.specs.Result.{result_ok}
use Rattle.std.specs.Str.{bytes_eq}
use Rattle.std.specs.Option.{option_map}
use Rattle.psa_number.specs.DecimalText.{decimal_of}
use Rattle.psa_number.specs.Scaled.{Scaled}
use Rattle.psa_model.specs.declared.model.BasicEvent.{BasicEvent}
use Rattle.psa_model.specs.declared.model.House.{House}
use Rattle.psa_model.specs.declared.model.Model.{Model}
use Rattle.psa_model.specs.Quantities.{has_quantities}
use Rattle.psa_model.specs.Report.{Analysis, IsReport}
use Rattle.psa_model.proofs.Determined.{report-determined, report-exists}
use Rattle.psa_model.proofs.Levels.{and-right}
use Rattle.psa_outcome.specs.Runs.{all_targets}
use Rattle.psa_words.specs.Given.{decimal_that, is_fraction}
use Rattle.psa_whatif.specs.Edits.{Edit, IsEdited, IsTaken, house, is_member, value}
use Rattle.psa_whatif.specs.EditText.{Action, AreReports, Script, action_by, action_of, after_action, after_line, house_action, house_named, lines_of, makes, outside_groups, reported_states, script_at, script_from, script_of, single_named, state_of, undoes, value_action}
use Rattle.psa_whatif.specs.EditText.AreReports.{no_report, and_report}

-- the value of an answer is one
ok-same : {A B : Type 0} {x y : A} → ◌≡◌ {A = Result A B} (Ok x) (Ok y) → x ≡ y
ok-same p = cc

-- ---- one text

-- two reports of the same edits are the same text
pub report-once : (accepted : Analysis) (edits : List Edit) (one other : Analysis) (text more : List ℕ)
    → IsEdited accepted edits one → IsEdited accepted edits other
    → IsReport one (all_targets one) text → IsReport other (all_targets other) more → text ≡ more
report-once accepted edits one other text more p q r s =
    let same : one ≡ other = ok-same (sym p ∙ q) in
    report-determined other (all_targets other) text more
    (subst (λ (a : Analysis). IsReport a (all_targets a) text) same r) s

-- the reports before the last, and the last
record EndsWith (accepted : Analysis) (states : List (List Edit)) (text : List ℕ) : Type 0 where
  before : List (List Edit)
  written : List ℕ
  edits : List Edit
  analysis : Analysis
  report : List ℕ
  are : AreReports accepted before written
  is_edited : IsEdited accepted edits analysis
  is_report : IsReport analysis (all_targets analysis) report
  states_are : states ≡ before ++ edits ∷ []
  text_is : text ≡ written ++ report

reports-cases : (accepted : Analysis) (states : List (List Edit)) (text : List ℕ) → AreReports accepted states text
    → ((states ≡ []) × (text ≡ [])) ⊎ EndsWith accepted states text
reports-cases accepted _ _ no_report = inl (refl, refl)
reports-cases accepted _ _ (and_report states text edits analysis report are is_edited is_report) = inr (record {
  before = states;
  written = text;
  edits = edits;
  analysis = analysis;
  report = report;
  are = are;
  is_edited = is_edited;
  is_report = is_report;
  states_are = refl;
  text_is = refl;
})

-- a list with a last item is not empty
not-empty : {A : Type 0} (xs : List A) (x : A) → xs ++ x ∷ [] ≡ [] → ⊥
not-empty [] x p = absurd (cc)
not-empty (y ∷ ys) x p = absurd (cc)

tails-same : {A : Type 0} (x y : A) (xs ys : List A) → x ∷ xs ≡ y ∷ ys → xs ≡ ys
tails-same x y xs ys p = cc

heads-same : {A : Type 0} (x y : A) (xs ys : List A) → x ∷ xs ≡ y ∷ ys → x ≡ y
heads-same x y xs ys p = cc

-- lists with a last item are the same in front and at the end
snoc-same : {A : Type 0} (xs ys : List A) (x y : A) → xs ++ x ∷ [] ≡ ys ++ y ∷ [] → (xs ≡ ys) × (x ≡ y)
snoc-same [] [] x y p = (refl, heads-same x y [] [] p)
snoc-same [] (z ∷ zs) x y p = absurd (not-empty zs y (sym (tails-same x z [] (zs ++ y ∷ []) p)))
snoc-same (w ∷ ws) [] x y p = absurd (not-empty ws x (tails-same w y (ws ++ x ∷ []) [] p))
snoc-same (w ∷ ws) (z ∷ zs) x y p =
    let rest = snoc-same ws zs x y (tails-same w z (ws ++ x ∷ []) (zs ++ y ∷ []) p) in
    (ap (λ h. h ∷ ws) (heads-same w z (ws ++ x ∷ []) (zs ++ y ∷ []) p) ∙ ap (λ t. z ∷ t) rest.0, rest.1)

-- the reports of the same states are the same text
pub reports-once : (accepted : Analysis) (states others : List (List Edit)) (x y : List ℕ)
    → AreReports accepted states x → AreReports accepted others y → states ≡ others → x ≡ y
reports-once accepted _ others _ y no_report more p = at_none (reports-cases accepted others y more)
  where
    at_none : ((others ≡ []) × (y ≡ [])) ⊎ EndsWith accepted others y → [] ≡ y
    at_none (inl e) = sym e.1
    at_none (inr l) = absurd (not-empty l.before l.edits (sym l.states_are ∙ sym p))
reports-once accepted _ others _ y (and_report states text edits analysis report are is_edited is_report) more p =
    at_last (reports-cases accepted others y more) (λ ss t q r. reports-once accepted states ss text t are q r)
  where
    at_last : ((others ≡ []) × (y ≡ [])) ⊎ EndsWith accepted others y
        → ((ss : List (List Edit)) (t : List ℕ) → AreReports accepted ss t → states ≡ ss → text ≡ t)
        → text ++ report ≡ y
    at_last (inl e) again = absurd (not-empty states edits (p ∙ e.0))
    at_last (inr l) again =
        let same = snoc-same states l.before edits l.edits (p ∙ l.states_are) in
        let front = again l.before l.written l.are same.0 in
        let back = report-once accepted l.edits analysis l.analysis report l.report
        (subst (λ (es : List Edit). IsEdited accepted es analysis) same.1 is_edited) l.is_edited is_report
        l.is_report in
        ap (λ t. t ++ report) front ∙ ap (λ t. l.written ++ t) back ∙ sym l.text_is

-- some edits of an accepted model give an analysis
abbrev IsAnalysed : Analysis → List Edit → Type 0
IsAnalysed accepted edits = (analysis : Analysis) × IsEdited accepted edits analysis

-- the reports of further states behind those of some, where each state has an analysis
reports-follow : (accepted : Analysis) (shown more : List (List Edit)) (text : List ℕ)
    → All (IsAnalysed accepted) more → AreReports accepted shown text
    → (whole : List ℕ) × AreReports accepted (shown ++ more) whole
reports-follow accepted shown [] text have are =
    (text, subst (λ (ss : List (List Edit)). AreReports accepted ss text) (sym (append-nil shown)) are)
reports-follow accepted shown (edits ∷ more) text have are =
    let now = All-head (IsAnalysed accepted) edits more have in
    let report = report-exists now.0 (all_targets now.0) in
    let rest = reports-follow accepted (shown ++ edits ∷ []) more (text ++ report.0)
    (All-tail (IsAnalysed accepted) edits more have)
    (and_report shown text edits now.0 report.0 are now.1 report.1) in (
      rest.0,
      subst (λ (ss : List (List Edit)). AreReports accepted ss rest.0)
          (append_assoc shown (edits ∷ []) more) rest.1,
    )

-- states that have an analysis have one text of reports
pub reports-exist : (accepted : Analysis) (states : List (List Edit)) → All (IsAnalysed accepted) states
    → (text : List ℕ) × AreReports accepted states text
reports-exist accepted states have = reports-follow accepted [] states [] have no_report

-- ---- what lines ask for is taken

-- what an action asks for is taken
abbrev ActionTaken : Analysis → Action → Type 0
ActionTaken accepted (makes edit) = IsTaken accepted edit
ActionTaken accepted undoes = Unit {0}

-- a place that is found is within the list
place-within : {A : Type 0} (p : A → Bool) (items : List A) (place : ℕ) → position p items ≡ Some place
    → place < length items
place-within p items place is =
    let parts = cond_some (nat_lt (position_or_len p items) (length items)) (position_or_len p items) place is in
    subst (λ (k : ℕ). k < length items) parts.1 (ltb-true (position_or_len p items) (length items) parts.0)

-- what stands behind an optional value
mapped-some : {A B : Type 0} (f : A → B) (found : Option A) (y : B) → option_map f found ≡ Some y
    → (x : A) × (found ≡ Some x) × (f x ≡ y)
mapped-some f None y is = absurd (cc)
mapped-some f (Some x) y is = (x, refl, same_Some (f x) y is)

-- a text that spells a decimal within 0 and 1
fraction-given : (text : List ℕ) (number : Scaled) → decimal_that is_fraction text ≡ Some number
    → is_fraction number ≡ true
fraction-given text number is =
    option_and_then_some (λ (d : Scaled). if is_fraction d then Some d else None) (result_ok (decimal_of text)) number
    is
    (λ d found given.
    let parts = cond_some (is_fraction d) d number given in
    subst (λ (x : Scaled). is_fraction x ≡ true) parts.1 parts.0)

house-taken : (accepted : Analysis) (name state : List ℕ) (action : Action)
    → house_action accepted.expanded.model name state ≡ Some action → ActionTaken accepted action
house-taken accepted name state action is =
    option_and_then_some (λ (id : ℕ). option_map (λ given. makes (house id given)) (state_of state))
    (house_named accepted.expanded.model name) action is
    (λ id found given.
    let made = mapped-some (λ given. makes (house id given)) (state_of state) action given in
    subst (ActionTaken accepted) made.2
    (place-within (λ (h : House). bytes_eq h.name name) accepted.expanded.model.houses id found))

-- an id outside all groups
outside-parts : (model : Model) (found id : ℕ) → outside_groups model found ≡ Some id
    → (is_member model found ≡ false) × (found ≡ id)
outside-parts model found id is = elim (cases_Bool (is_member model found)) [
  | inl inside ↦ absurd (none-some id (rw inside at is))
  | inr outside ↦ (outside, same_Some found id (rw outside at is))
]

value-taken : (accepted : Analysis) (name number : List ℕ) (action : Action) → has_quantities accepted.settings ≡ true
    → value_action accepted.expanded.model name number ≡ Some action → ActionTaken accepted action
value-taken accepted name number action has is =
    option_and_then_some (λ (id : ℕ). option_map (λ given. makes (value id given)) (decimal_that is_fraction number))
    (single_named accepted.expanded.model name) action is
    (λ id found given.
    let made = mapped-some (λ given. makes (value id given)) (decimal_that is_fraction number) action given in
    option_and_then_some (outside_groups accepted.expanded.model)
    (position (λ (b : BasicEvent). bytes_eq b.name name) accepted.expanded.model.basics) id found
    (λ place at there.
    let parts = outside-parts accepted.expanded.model place id there in
    let within = place-within (λ (b : BasicEvent). bytes_eq b.name name) accepted.expanded.model.basics place at in
    subst (ActionTaken accepted) made.2
    (subst (λ (k : ℕ). IsTaken accepted (value k made.0)) parts.1
    (has, within, parts.0, fraction-given number made.0 made.1))))

-- the action of three words, by the tests of the first
three-taken : (accepted : Analysis) (name last : List ℕ) (action : Action) (is_house is_value : Bool)
    → (if is_house then house_action accepted.expanded.model name last
    else (if is_value && has_quantities accepted.settings
    then value_action accepted.expanded.model name last else None)) ≡ Some action
    → ActionTaken accepted action
three-taken accepted name last action true is_value is = house-taken accepted name last action is
three-taken accepted name last action false is_value is =
    elim (cases_Bool (is_value && has_quantities accepted.settings)) [
      | inl both ↦ value-taken accepted name last action (and-right is_value _ both) (rw both at is)
      | inr not_both ↦ absurd (none-some action (rw not_both at is))
    ]

-- what a line asks for by its words is taken
words-taken : (accepted : Analysis) (words : List (List ℕ)) (action : Action) → action_by accepted words ≡ Some action
    → ActionTaken accepted action
words-taken accepted [] action is = absurd (none-some action is)
words-taken accepted (word ∷ []) action is =
    let parts = cond_some (bytes_eq word (codes "undo")) undoes action is in subst (ActionTaken accepted) parts.1 tt
words-taken accepted (word ∷ name ∷ []) action is = absurd (none-some action is)
words-taken accepted (word ∷ name ∷ last ∷ []) action is =
    three-taken accepted name last action (bytes_eq word (codes "house")) (bytes_eq word (codes "value")) is
words-taken accepted (word ∷ name ∷ last ∷ more ∷ rest) action is = absurd (none-some action is)

-- edits that are taken stay so after an action that is
action-taken : (accepted : Analysis) (edits next : List Edit) (action : Action)
    → after_action edits action ≡ Some next → ActionTaken accepted action → All (IsTaken accepted) edits
    → All (IsTaken accepted) next
action-taken accepted edits next (makes edit) is taken all =
    subst (All (IsTaken accepted)) (same_Some (edit ∷ edits) next is) (All-cons (IsTaken accepted) edit edits taken all)
action-taken accepted [] next undoes is taken all = absurd (none-some next is)
action-taken accepted (edit ∷ edits) next undoes is taken all =
    subst (All (IsTaken accepted)) (same_Some edits next is) (All-tail (IsTaken accepted) edit edits all)

-- the edits after a line are taken
pub line-taken : (accepted : Analysis) (edits next : List Edit) (line : List ℕ)
    → after_line accepted edits line ≡ Some next → All (IsTaken accepted) edits → All (IsTaken accepted) next
line-taken accepted edits next line is all =
    option_and_then_some (after_action edits) (action_of accepted line) next is
    (λ action found after.
    action-taken accepted edits next action after
    (words-taken accepted (slice_split (λ byte. byte == 32) line) action found) all)

-- a script from a line, by the edits after it
at-taken : (accepted : Analysis) (number : ℕ) (found : Option (List Edit)) (behind : List Edit → Script)
    → ((next : List Edit) → found ≡ Some next
    → All (IsTaken accepted) next × All (All (IsTaken accepted)) (behind next).states)
    → All (All (IsTaken accepted)) (script_at number found behind).states
at-taken accepted number None behind are = All-nil _
at-taken accepted number (Some edits) behind are =
    All-cons (All (IsTaken accepted)) edits (behind edits).states (are edits refl).0 (are edits refl).1

-- all states of a script hold edits that are taken
lines-taken : (accepted : Analysis) (number : ℕ) (edits : List Edit) (lines : List (List ℕ))
    → All (IsTaken accepted) edits → All (All (IsTaken accepted)) (script_from accepted number edits lines).states
unfolding script_from
lines-taken accepted number edits [] all = All-nil _
lines-taken accepted number edits ([] ∷ lines) all = lines-taken accepted (suc number) edits lines all
lines-taken accepted number edits ((byte ∷ line) ∷ lines) all =
    at-taken accepted number (after_line accepted edits (byte ∷ line))
    (λ next. script_from accepted (suc number) next lines)
    (λ next is.
    let taken = line-taken accepted edits next (byte ∷ line) is all in
    (taken, lines-taken accepted (suc number) next lines taken))

pub script-taken : (accepted : Analysis) (text : List ℕ)
    → All (All (IsTaken accepted)) (reported_states accepted text)
script-taken accepted text =
    All-cons (All (IsTaken accepted)) [] (script_of accepted text).states (All-nil _)
    (lines-taken accepted 1 [] (lines_of text) (All-nil _))
