-- The row of each end of a run.
use Rattle.std.proofs.Common.{◌≡◌, ◌⊎◌, inl, inr, ◌≤◌, ◌<◌, ℕ, suc, Bool, true, false, List, [], Option, Some, None, length, refl, sym, ap, subst, ◌∙◌, arith, append-nil, ap₂, ◌∷◌, ◌++◌, zero}
use Rattle.std.specs.Prelude.{Result, Ok, Err, IsSomeAnd, unwrap_or}
use Rattle.std.specs.List.{slice_get}
use Rattle.std.specs.Io.KnownBytes.{Appends, Keeps}
use Rattle.std.proofs.KnownBytes.{Appends-nil, Appends-kept, Keeps-trans}
use Rattle.std.proofs.lemmas.Bool.{false≢true}
use Rattle.psa_text.specs.declared.tree.Element.{Element}
use Rattle.psa_nodes.specs.Table.{Table}
use Rattle.psa_model.specs.declared.fault.ModelFault.{ModelFault}
use Rattle.psa_model.specs.declared.settings.Settings.{Settings}
use Rattle.psa_model.specs.FaultTexts.{fault_line}
use Rattle.psa_model.specs.Report.{Analysis, validated}
use Rattle.psa_outcome.specs.declared.loaded.Loaded.{Loaded}
use Rattle.psa_outcome.specs.declared.loaded.LoadError.{LoadError}
use Rattle.psa_outcome.specs.declared.loaded.LoadError.TheVariants as load
use Rattle.psa_outcome.specs.Analyses.{analysis_of}
use Rattle.psa_outcome.specs.Causes.{names_of, Analysed, IsBadModel, IsUnread}
use Rattle.psa_outcome.specs.Inputs.{Told, IsFirstFault, IsAnalysis}
use Rattle.psa_outcome.specs.Loading.{loaded_analysis}
use Rattle.psa_outcome.specs.RunOutcome.{GrewBy, IsRefusal, bad_words, out_of_memory, IsBetweenSections, IsFinished, IsStopped, RunOutcome, unread_line, writes_nothing}
use Rattle.psa_outcome.specs.Runs.{Run, ReadRose, ReportedFirst, ReportedPart, all_targets}
use Rattle.psa_outcome.proofs.SettingsLemmas.{brackets}
use Rattle.psa_ports.specs.Counts.{Rose}
use Rattle.psa_ports.specs.Sink.{AppendsPrefix}
use Rattle.psa_ports.proofs.RisenCountLemmas.{Rose-within}
use Rattle.psa_ports.proofs.WrittenPieceLemmas.{prefix-whole}
use Rattle.psa_report.specs.Pieces.{Writes}
use Rattle.psa_sections.specs.Reports.{HasReport, IsFullReport}
use Rattle.psa_words.specs.declared.fault.WordsError.{WordsError}
use Rattle.psa_words.specs.declared.fault.WordsError.TheVariants as words
use Rattle.psa_words.specs.Refused.{refused_text}
use Rattle.psa_engine.specs.declared.end.End.{End}
use Rattle.psa_engine.specs.declared.end.End.TheVariants.{Done, Bad, Read, Write, Full, Memory}
use Rattle.psa_engine.specs.Ends.{EndsLoaded, checked, unbegun, shown, EndsShown, IsRefusedModel, PassesOn, line_of, name_in_input, refusal_status, refusal_text, status_of}

-- ---- what is passed on at the end

-- bytes that stay after a prefix was appended
prefix-kept : (before middle after : Option (List ℕ)) (text : List ℕ) → AppendsPrefix before middle text → Keeps middle after → AppendsPrefix before after text
prefix-kept before middle after text part kept =
    record { count = part.count; appended = Appends-kept before middle after _ part.appended kept }

first-kept : (analysis : Analysis) (count : ℕ) (before middle after : Option (List ℕ)) → ReportedFirst analysis count before middle → Keeps middle after → ReportedFirst analysis count before after
first-kept analysis count before middle after r kept =
    record { shown = r.shown; more = r.more; are_targets = r.are_targets; number = r.number; text = r.text; is_report = r.is_report; appended = Appends-kept before middle after r.text r.appended kept }

part-kept : (analysis : Analysis) (before middle after : Option (List ℕ)) → ReportedPart analysis before middle → Keeps middle after → ReportedPart analysis before after
part-kept analysis before middle after r kept =
    record { shown = r.shown; more = r.more; are_targets = r.are_targets; text = r.text; is_report = r.is_report; appended = prefix-kept before middle after r.text r.appended kept }

-- the head and whole sections are a prefix of themselves
part-of-first : (analysis : Analysis) (count : ℕ) (before after : Option (List ℕ)) → ReportedFirst analysis count before after → ReportedPart analysis before after
part-of-first analysis count before after r =
    record { shown = r.shown; more = r.more; are_targets = r.are_targets; text = r.text; is_report = r.is_report; appended = prefix-whole before after r.text r.appended }

-- and so is the report
part-of-report : (analysis : Analysis) (table : Table) (before after : Option (List ℕ)) → HasReport analysis table before after → ReportedPart analysis before after
part-of-report analysis table before after r = record {
  shown = all_targets analysis;
  more = [];
  are_targets = sym (append-nil (all_targets analysis));
  text = r.text;
  is_report = r.is_report;
  appended = prefix-whole before after r.text r.appended;
}

module _ (analysis : Analysis) (table : Table) (first second last : ℕ) (before middle after : Option (List ℕ)) where
  -- an end whose bytes stay
  same-end : (end : End) → EndsShown analysis table (first, second) before middle end → Keeps middle after → second ≤ last → EndsShown analysis table (first, last) before after end
  same-end Done r kept later =
      record { text = r.text; is_report = r.is_report; appended = Appends-kept before middle after r.text r.appended kept; own_table = r.own_table }
  same-end (Bad fault file) r kept later = r
  same-end (Read number) r kept later = r
  same-end Write (rose, part) kept later = (rose-later rose, part-kept analysis before middle after part kept)
    where
      rose-later : Rose first second → Rose first last
      rose-later rose = omega arith
  same-end (Full number) r kept later = record {
    triple = r.triple;
    last = r.last;
    refusal = r.refusal;
    stopped = record {
      earlier = r.stopped.earlier;
      target = r.stopped.target;
      behind = r.stopped.behind;
      targets = r.stopped.targets;
      place = r.stopped.place;
      nodes = r.stopped.nodes;
      from_target = r.stopped.from_target;
      reported = first-kept analysis _ before middle after r.stopped.reported kept;
    };
  }
  same-end Memory r kept later =
      record { count = r.count; before_one = r.before_one; reported = first-kept analysis r.count before middle after r.reported kept }

  -- what was written at each end is a prefix of the report
  part-at : (end : End) → EndsShown analysis table (first, second) before middle end → ReportedPart analysis before middle
  part-at Done r = part-of-report analysis table before middle r
  part-at (Bad fault file) r = absurd r
  part-at (Read number) r = absurd r
  part-at Write (rose, part) = part
  part-at (Full number) r = part-of-first analysis _ before middle r.stopped.reported
  part-at Memory r = part-of-first analysis r.count before middle r.reported

  -- an end, and then the sink passes on what it kept back
  pub passed-on : (one other : End) → EndsShown analysis table (first, second) before middle one → first ≤ second → PassesOn (second, last) middle after one other → EndsShown analysis table (first, last) before after other
  passed-on one other r sooner passes = of passes.end
    where
      of : (other ≡ one) ⊎ ((other ≡ Write) × Rose second last) → EndsShown analysis table (first, last) before after other
      of (inl same) = subst (EndsShown analysis table (first, last) before after) (sym same) (same-end one r passes.kept passes.later)
      of (inr (written, rose)) =
          subst (EndsShown analysis table (first, last) before after) (sym written)
          (Rose-within first second last last sooner rose (omega arith), part-kept analysis before middle after (part-at one r) passes.kept)

-- ---- rows

-- what stands between two lists
get-middle : (before : List (List ℕ)) (x : List ℕ) (behind : List (List ℕ)) → slice_get (before ++ x ∷ behind) (length before) ≡ Some x
get-middle [] x behind = refl
get-middle (y ∷ before) x behind = get-middle before x behind

module _ (settings : Settings) (run : Run) (table : Table) where
  -- what holds of the analysis that was loaded, where the files are told
  over : (x : Analysis) → Analysed settings run.told (λ analysis. x ≡ analysis) → (P : Analysis → Type 0) → ((roots : List Element) → analysis_of settings roots ≡ Ok x → P x) → Analysed settings run.told P
  over x analysed P f = of run.told analysed
    where
      of : (told : Option Told) → Analysed settings told (λ analysis. x ≡ analysis) → Analysed settings told P
      of None a = tt
      of (Some files) (analysis, is, same) =
          (analysis, is, subst P same (f is.roots (subst (λ (a : Analysis). analysis_of settings is.roots ≡ Ok a) (sym same) is.analysed)))

  module _ (loaded : Loaded) (same : loaded.settings ≡ settings) (analysed : Analysed settings run.told (λ analysis. loaded_analysis loaded ≡ analysis)) where
    abbrev analysis : Analysis
    analysis = loaded_analysis loaded

    of-settings : (P : Settings → Type 0) → P loaded.settings → P settings
    of-settings P p = subst P same p

    done-checked : loaded.settings.validate ≡ true → run.after ≡ run.before → RunOutcome settings run table [] (status_of Done)
    done-checked checks unchanged = record {
      silent = refl;
      finished = over analysis analysed (IsFinished run table) (λ roots is. record {
        reported = record {
          text = [];
          is_report = validated checks;
          bracketed = brackets settings roots analysis is;
          appended = subst (λ (b : Option (List ℕ)). Appends run.before b []) (sym unchanged) (Appends-nil run.before);
        };
        own_table = λ writes some. absurd (false≢true (sym writes ∙ checks));
      });
    }

    done-shown : HasReport analysis table run.before run.after → RunOutcome settings run table [] (status_of Done)
    done-shown r = record {
      silent = refl;
      finished = over analysis analysed (IsFinished run table) (λ roots is. record {
        reported = record {
          text = r.text;
          is_report = r.is_report;
          bracketed = brackets settings roots analysis is;
          appended = r.appended;
        };
        own_table = λ writes some. r.own_table;
      });
    }

    at-shown : (end : End) → loaded.settings.validate ≡ false → table.limit ≡ loaded.settings.node_limit → EndsShown analysis table run.out_faults run.before run.after end → RunOutcome settings run table (line_of settings end) (status_of end)
    at-shown Done shows limit r = done-shown r
    at-shown (Bad fault file) shows limit r = absurd r
    at-shown (Read number) shows limit r = absurd r
    at-shown Write shows limit (rose, part) = record {
      rose = rose;
      writes = of-settings (λ (s : Settings). s.validate ≡ false) shows;
      reported = over analysis analysed (λ a. ReportedPart a run.before run.after) (λ roots is. part);
      spelled = refl;
    }
    at-shown (Full number) shows limit r = record {
      from_one = let e : suc (length r.stopped.earlier) ≡ number = r.stopped.place in omega arith;
      writes = of-settings (λ (s : Settings). s.validate ≡ false) shows;
      full = record {
        limit = of-settings (λ (s : Settings). s.node_limit ≡ Some (length table.nodes)) (sym limit ∙ r.refusal.full);
        triple = r.triple;
        refused = r.last;
      };
      stopped = over analysis analysed (λ a. IsStopped a number table r.triple run.before run.after) (λ roots is. r.stopped);
      spelled = refl;
    }
    at-shown Memory shows limit r = record {
      reported = inr (over analysis analysed (λ a. IsBetweenSections a run.before run.after) (λ roots is. r));
      spelled = refl;
    }

    -- the row of a run whose input was loaded
    pub loaded-row : (end : End) → EndsLoaded analysis table run.out_faults run.before run.after end → RunOutcome settings run table (line_of settings end) (status_of end)
    loaded-row Done (checked checks unchanged) = done-checked checks unchanged
    loaded-row Memory (unbegun unchanged) = record { reported = inl unchanged; spelled = refl }
    loaded-row _ (shown end shows limit r) = at-shown end shows limit r

  -- the row of a run whose model has a fault
  pub bad-row : (fault : ModelFault) (end : End) → run.after ≡ run.before → IsBadModel settings run.told fault → IsRefusedModel settings fault end → RunOutcome settings run table (line_of settings end) (status_of end)
  bad-row fault Done unchanged cause refused = absurd refused
  bad-row fault (Bad found file) unchanged cause (same, name) = record {
    unchanged = unchanged;
    found = fault;
    cause = cause;
    spelled = ap₂ fault_line name same;
  }
  bad-row fault (Read number) unchanged cause refused = absurd refused
  bad-row fault Write unchanged cause refused = absurd refused
  bad-row fault (Full number) unchanged cause refused = absurd refused
  bad-row fault Memory unchanged cause refused = record { reported = inl unchanged; spelled = refl }

  -- the row of a run that could not read a file
  pub read-row : (number : ℕ) → run.after ≡ run.before → ReadRose run → suc number ≡ run.opened → IsUnread settings run.told run.rest number → RunOutcome settings run table (line_of settings (Read number)) (status_of (Read number))
  read-row number unchanged rose last cause = record {
    rose = rose;
    unchanged = unchanged;
    number = number;
    last_opened = last;
    cause = cause;
    spelled = ap unread_line (ap (λ (o : Option (List ℕ)). unwrap_or o []) (named cause));
  }
    where
      named : (u : IsUnread settings run.told run.rest number) → slice_get (names_of settings.input) number ≡ Some u.file
      named u =
          subst (λ (l : List (List ℕ)). slice_get l number ≡ Some u.file) (sym u.files)
          (subst (λ n. slice_get (u.before ++ u.file ∷ u.behind) n ≡ Some u.file) u.place (get-middle u.before u.file u.behind))

  -- the row of a run without memory to load
  pub memory-row : run.after ≡ run.before → RunOutcome settings run table (line_of settings Memory) (status_of Memory)
  memory-row unchanged = record { reported = inl unchanged; spelled = refl }

-- what was loaded ends neither with a fault of the model nor with one of a file
pub not-nothing : (analysis : Analysis) (table : Table) (faults : ℕ × ℕ) (before after : Option (List ℕ)) (end : End) → EndsLoaded analysis table faults before after end → writes_nothing (status_of end) ≡ true → ⊥
not-nothing _ table faults before after Done ends nothing = false≢true nothing
not-nothing _ table faults before after (Bad fault file) (shown _ shows limit r) nothing = r
not-nothing _ table faults before after (Read number) (shown _ shows limit r) nothing = r
not-nothing _ table faults before after Write ends nothing = false≢true nothing
not-nothing _ table faults before after (Full number) ends nothing = false≢true nothing
not-nothing _ table faults before after Memory ends nothing = false≢true nothing

-- ---- the line

-- what was written grew by its text, whole where the count of faults did not rise
pub grew-by : {E : Type 0} (text : List ℕ) (faults later : ℕ) (before after : Option (List ℕ)) (result : Result (Unit {0}) E) → Writes {E = E} before after faults later text result → GrewBy text (faults, later) before after
grew-by {E} text faults later before after (Ok done) w = record { prefix = w.part; whole = λ none. w.whole }
grew-by {E} text faults later before after (Err error) w = record { prefix = w.part; whole = λ none. absurd (none w.cause.failed) }

-- the text where words give no settings is that of its status
pub refusal-of : (program : List ℕ) (error : WordsError) → IsRefusal (refused_text program) (refusal_status error) (refusal_text program error)
refusal-of program words.BadWords = bad_words
refusal-of program words.Memory = out_of_memory
