-- The settings are made one value after another, and the first error is the answer.
use Rattle.psa_words.specs.Reading.{Text}
use Rattle.std.proofs.Common.{subst, List, ◌≡◌, ◌∙◌, refl, ℕ, true, false, Option, Some, None, Result, Err}
use Rattle.psa_number.specs.Scaled.{Scaled}
use Rattle.psa_model.specs.declared.settings.Input.{Input}
use Rattle.psa_model.specs.declared.settings.Settings.{Settings}
use Rattle.psa_words.specs.declared.fault.WordsError.{WordsError}
use Rattle.psa_words.specs.declared.fault.WordsError.TheVariants.{BadWords, Memory}
use Rattle.psa_words.specs.declared.limits.TheConstants.{DEFAULT_LIMIT_ORDER, MAX_LIMIT_ORDER, MAX_NODE_LIMIT}
use Rattle.psa_words.specs.Answer.{Answers}
use Rattle.psa_words.specs.Given.{Given, decimal_that, default_mission, has_conflict, input_of, is_fraction, is_not_below_zero, optional_value, settings_from, settings_with, value_or, values_of, whole_between}

-- the limit order that is asked for
abbrev pub limit_of : Given → Option ℕ
limit_of given = value_or DEFAULT_LIMIT_ORDER (whole_between 1 MAX_LIMIT_ORDER) given.limit_order_text

-- the cut-off that is asked for, if any
abbrev pub cut_of : Given → Option (Option Scaled)
cut_of given = optional_value (decimal_that is_fraction) given.cut_off_text

-- the mission time that is asked for
abbrev pub mission_of : Given → Option Scaled
mission_of given = value_or default_mission (decimal_that is_not_below_zero) given.mission_time_text

-- the limit of nodes that is asked for, if any
abbrev pub nodes_of : Given → Option (Option ℕ)
nodes_of given = optional_value (whole_between 1 MAX_NODE_LIMIT) given.node_limit_text

-- where the model comes from
abbrev pub source_of : Given → Option Input
source_of given = input_of given.sample_text given.file_names

-- An answer for a text of a value is an answer for an equal text.
pub same_text : {X : Type 0} (value : Option Text → Option X) (a b : Option Text) (e : WordsError) → a ≡ b
    → Answers (value a) (let r : Result X WordsError = Err e in r) → Answers (value b) (let r : Result X WordsError = Err e in r)
same_text {X} value a b e same answer = subst (λ (t : Option Text). Answers (value t) (let r : Result X WordsError = Err e in r)) same answer

-- An answer for a sample and file names is an answer for equal ones.
pub same_source : (a b : Option Text) (m n : List Text) (e : WordsError) → a ≡ b → m ≡ n
    → Answers (input_of a m) (let r : Result Input WordsError = Err e in r) → Answers (input_of b n) (let r : Result Input WordsError = Err e in r)
same_source a b m n e same names answer =
    subst (λ (t : List Text). Answers (input_of b t) (let r : Result Input WordsError = Err e in r)) names
    (subst (λ (t : Option Text). Answers (input_of t m) (let r : Result Input WordsError = Err e in r)) same answer)

-- Options that exclude one another ask for no settings.
pub excluded : (g : Given) → has_conflict g ≡ true → settings_from g ≡ None
unfolding settings_from
excluded g e = rw e refl

included : (g : Given) → has_conflict g ≡ false → settings_from g ≡ values_of g
unfolding settings_from
included g e = rw e refl

-- Where the limit order answers an error, so do the settings. The same for each value after it.
pub stops_at_limit : (g : Given) (e : WordsError) → has_conflict g ≡ false → Answers (limit_of g) (let r : Result ℕ WordsError = Err e in r) → Answers (settings_from g) (let r : Result Settings WordsError = Err e in r)
stops_at_limit g BadWords x a = (included g x ∙ rw a refl)
stops_at_limit g Memory x a = tt

pub stops_at_cut : (g : Given) (limit : ℕ) (e : WordsError) → has_conflict g ≡ false → limit_of g ≡ Some limit → Answers (cut_of g) (let r : Result (Option Scaled) WordsError = Err e in r) → Answers (settings_from g) (let r : Result Settings WordsError = Err e in r)
stops_at_cut g limit BadWords x l a = (included g x ∙ rw (l, a) refl)
stops_at_cut g limit Memory x l a = tt

pub stops_at_mission : (g : Given) (limit : ℕ) (cut : Option Scaled) (e : WordsError) → has_conflict g ≡ false → limit_of g ≡ Some limit → cut_of g ≡ Some cut
    → Answers (mission_of g) (let r : Result Scaled WordsError = Err e in r) → Answers (settings_from g) (let r : Result Settings WordsError = Err e in r)
stops_at_mission g limit cut BadWords x l k a = (included g x ∙ rw (l, k, a) refl)
stops_at_mission g limit cut Memory x l k a = tt

pub stops_at_nodes : (g : Given) (limit : ℕ) (cut : Option Scaled) (mission : Scaled) (e : WordsError) → has_conflict g ≡ false → limit_of g ≡ Some limit → cut_of g ≡ Some cut
    → mission_of g ≡ Some mission → Answers (nodes_of g) (let r : Result (Option ℕ) WordsError = Err e in r) → Answers (settings_from g) (let r : Result Settings WordsError = Err e in r)
stops_at_nodes g limit cut mission BadWords x l k m a = (included g x ∙ rw (l, k, m, a) refl)
stops_at_nodes g limit cut mission Memory x l k m a = tt

pub stops_at_input : (g : Given) (limit : ℕ) (cut : Option Scaled) (mission : Scaled) (nodes : Option ℕ) (e : WordsError) → has_conflict g ≡ false → limit_of g ≡ Some limit → cut_of g ≡ Some cut
    → mission_of g ≡ Some mission → nodes_of g ≡ Some nodes → Answers (source_of g) (let r : Result Input WordsError = Err e in r) → Answers (settings_from g) (let r : Result Settings WordsError = Err e in r)
stops_at_input g limit cut mission nodes BadWords x l k m n a = (included g x ∙ rw (l, k, m, n, a) refl)
stops_at_input g limit cut mission nodes Memory x l k m n a = tt

-- Where every value is there and no options exclude one another, the settings are those of the values.
pub settings_made : (g : Given) (limit : ℕ) (cut : Option Scaled) (mission : Scaled) (nodes : Option ℕ) (input : Input) → has_conflict g ≡ false → limit_of g ≡ Some limit → cut_of g ≡ Some cut
    → mission_of g ≡ Some mission → nodes_of g ≡ Some nodes → source_of g ≡ Some input → settings_from g ≡ Some (settings_with g limit cut mission nodes input)
settings_made g limit cut mission nodes input x l k m n i = included g x ∙ rw (l, k, m, n, i) refl
