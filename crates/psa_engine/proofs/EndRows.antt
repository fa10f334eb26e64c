-- The row of each end of a run that writes a text, and when such a run does not fail.
use Rattle.std.proofs.Common.{◌≡◌, ◌⊎◌, inl, inr, ◌≤◌, ℕ, suc, Bool, true, false, List, [], Option, Some, None, refl, sym, ap, subst, ◌∙◌, arith, append-nil, ap₂}
use Rattle.std.specs.Prelude.{Result, Ok, Err, IsSomeAnd}
use Rattle.std.specs.Io.KnownBytes.{Appends, Keeps}
use Rattle.std.proofs.KnownBytes.{Appends-kept}
use Rattle.std.proofs.lemmas.Bool.{false≢true}
use Rattle.psa_text.specs.declared.tree.Element.{Element}
use Rattle.psa_nodes.specs.Table.{table_of}
use Rattle.psa_model.specs.declared.fault.ModelFault.{ModelFault}
use Rattle.psa_model.specs.declared.settings.Settings.{Settings}
use Rattle.psa_model.specs.FaultTexts.{fault_line}
use Rattle.psa_model.specs.Report.{Analysis}
use Rattle.psa_outcome.specs.declared.loaded.Loaded.{Loaded}
use Rattle.psa_outcome.specs.declared.loaded.LoadError.{LoadError}
use Rattle.psa_outcome.specs.declared.loaded.LoadError.TheVariants as load
use Rattle.psa_outcome.specs.declared.status.Status.TheVariants as status
use Rattle.psa_outcome.specs.Analyses.{analysis_of}
use Rattle.psa_outcome.specs.Causes.{Analysed, IsBadModel, IsUnread, names_of}
use Rattle.psa_outcome.specs.Inputs.{IsFirstFault, Told}
use Rattle.psa_outcome.specs.Loading.{LoadOutcome, loaded_analysis}
use Rattle.psa_outcome.specs.RunOutcome.{Completeness, HasAnalysis, HasFault, IsBetween, IsWithinLimit, TextOutcome, writes_nothing}
use Rattle.psa_outcome.specs.Runs.{NoFaultRose, ReadRose, Run, Texts, Wrote, WroteFirst, WrotePart, all_targets}
use Rattle.psa_outcome.proofs.SettingsLemmas.{brackets}
use Rattle.psa_ports.specs.Counts.{Rose}
use Rattle.psa_ports.specs.Sink.{AppendsPrefix}
use Rattle.psa_ports.proofs.RisenCountLemmas.{Rose-within}
use Rattle.psa_ports.proofs.WrittenPieceLemmas.{prefix-whole}
use Rattle.psa_engine.specs.declared.end.End.{End}
use Rattle.psa_engine.specs.declared.end.End.TheVariants.{Done, Bad, Read, Write, Full, Memory}
use Rattle.psa_engine.specs.Ends.{IsRefusedModel, PassesOn, line_of, status_of}
use Rattle.psa_engine.proofs.EndLemmas.{read-row}
use Rattle.psa_engine.specs.TextEnds.{EndsRun, unbegun, begun, EndsText, HasText}

-- ---- what is passed on at the end

-- bytes that stay after a prefix was appended
prefix-kept : (before middle after : Option (List ℕ)) (text : List ℕ) → AppendsPrefix before middle text → Keeps middle after → AppendsPrefix before after text
prefix-kept before middle after text part kept =
    record { count = part.count; appended = Appends-kept before middle after _ part.appended kept }

module _ (IsText : Texts) (analysis : Analysis) where
  first-kept : (count : ℕ) (before middle after : Option (List ℕ)) → WroteFirst IsText analysis count before middle → Keeps middle after → WroteFirst IsText analysis count before after
  first-kept count before middle after r kept =
      record { shown = r.shown; more = r.more; are_targets = r.are_targets; number = r.number; text = r.text; is_report = r.is_report; appended = Appends-kept before middle after r.text r.appended kept }

  part-kept : (before middle after : Option (List ℕ)) → WrotePart IsText analysis before middle → Keeps middle after → WrotePart IsText analysis before after
  part-kept before middle after r kept =
      record { shown = r.shown; more = r.more; are_targets = r.are_targets; text = r.text; is_report = r.is_report; appended = prefix-kept before middle after r.text r.appended kept }

  -- the text over some first targets is a prefix of itself
  part-of-first : (count : ℕ) (before after : Option (List ℕ)) → WroteFirst IsText analysis count before after → WrotePart IsText analysis before after
  part-of-first count before after r =
      record { shown = r.shown; more = r.more; are_targets = r.are_targets; text = r.text; is_report = r.is_report; appended = prefix-whole before after r.text r.appended }

  -- and so is the whole text
  part-of-whole : (before after : Option (List ℕ)) → HasText IsText analysis before after → WrotePart IsText analysis before after
  part-of-whole before after r = record {
    shown = all_targets analysis;
    more = [];
    are_targets = sym (append-nil (all_targets analysis));
    text = r.text;
    is_report = r.is_text;
    appended = prefix-whole before after r.text r.appended;
  }

  -- the count of faults is looked at from sooner on
  pub sooner-end : (first second last : ℕ) (before after : Option (List ℕ)) (end : End) → first ≤ second → EndsText IsText analysis (second, last) before after end → EndsText IsText analysis (first, last) before after end
  sooner-end first second last before after Done sooner r = r
  sooner-end first second last before after (Bad fault file) sooner r = r
  sooner-end first second last before after (Read number) sooner r = r
  sooner-end first second last before after Write sooner (rose, part) =
      (Rose-within first second last last sooner rose (omega arith), part)
  sooner-end first second last before after (Full number) sooner r = r
  sooner-end first second last before after Memory sooner r = r

  module _ (first second last : ℕ) (before middle after : Option (List ℕ)) where
    -- an end whose bytes stay
    same-end : (end : End) → EndsText IsText analysis (first, second) before middle end → Keeps middle after → second ≤ last → EndsText IsText analysis (first, last) before after end
    same-end Done r kept later =
        record { text = r.text; is_text = r.is_text; appended = Appends-kept before middle after r.text r.appended kept }
    same-end (Bad fault file) r kept later = r
    same-end (Read number) r kept later = r
    same-end Write (rose, part) kept later = (rose-later rose, part-kept before middle after part kept)
      where
        rose-later : Rose first second → Rose first last
        rose-later rose = omega arith
    same-end (Full number) r kept later = r
    same-end Memory r kept later =
        record { count = r.count; before_one = r.before_one; reported = first-kept r.count before middle after r.reported kept }

    -- what was written at each end is a prefix of the text
    part-at : (end : End) → EndsText IsText analysis (first, second) before middle end → WrotePart IsText analysis before middle
    part-at Done r = part-of-whole before middle r
    part-at (Bad fault file) r = absurd r
    part-at (Read number) r = absurd r
    part-at Write (rose, part) = part
    part-at (Full number) r = absurd r
    part-at Memory r = part-of-first r.count before middle r.reported

    -- an end, and then the sink passes on what it kept back
    pub passed-on : (one other : End) → EndsText IsText analysis (first, second) before middle one → first ≤ second → PassesOn (second, last) middle after one other → EndsText IsText analysis (first, last) before after other
    passed-on one other r sooner passes = of passes.end
      where
        of : (other ≡ one) ⊎ ((other ≡ Write) × Rose second last) → EndsText IsText analysis (first, last) before after other
        of (inl same) = subst (EndsText IsText analysis (first, last) before after) (sym same) (same-end one r passes.kept passes.later)
        of (inr (written, rose)) =
            subst (EndsText IsText analysis (first, last) before after) (sym written)
            (Rose-within first second last last sooner rose (omega arith), part-kept before middle after (part-at one r) passes.kept)

-- ---- rows

module _ (IsText : Texts) (settings : Settings) (run : Run) where
  -- what holds of the analysis that was loaded, where the files are told
  over : (x : Analysis) → Analysed settings run.told (λ analysis. x ≡ analysis) → (P : Analysis → Type 0) → ((roots : List Element) → analysis_of settings roots ≡ Ok x → P x) → Analysed settings run.told P
  over x analysed P f = of run.told analysed
    where
      of : (told : Option Told) → Analysed settings told (λ analysis. x ≡ analysis) → Analysed settings told P
      of None a = tt
      of (Some files) (analysis, is, same) =
          (analysis, is, subst P same (f is.roots (subst (λ (a : Analysis). analysis_of settings is.roots ≡ Ok a) (sym same) is.analysed)))

  module _ (loaded : Loaded) (shows : settings.validate ≡ false) (analysed : Analysed settings run.told (λ analysis. loaded_analysis loaded ≡ analysis)) where
    abbrev analysis : Analysis
    analysis = loaded_analysis loaded

    at-begun : (end : End) → EndsText IsText analysis run.out_faults run.before run.after end → TextOutcome IsText settings run (line_of settings end) (status_of end)
    at-begun Done r = record {
      silent = refl;
      finished = over analysis analysed (λ a. Wrote IsText a run.before run.after) (λ roots is. record {
        text = r.text;
        is_report = r.is_text;
        bracketed = brackets settings roots analysis is;
        appended = r.appended;
      });
    }
    at-begun (Bad fault file) r = absurd r
    at-begun (Read number) r = absurd r
    at-begun Write (rose, part) = record {
      rose = rose;
      writes = shows;
      reported = over analysis analysed (λ a. WrotePart IsText a run.before run.after) (λ roots is. part);
      spelled = refl;
    }
    at-begun (Full number) r = absurd r
    at-begun Memory r = record {
      reported = inr (over analysis analysed (λ a. IsBetween IsText a run.before run.after) (λ roots is. r));
      spelled = refl;
    }

    -- the row of a run whose input was loaded
    pub loaded-row : (end : End) → EndsRun IsText analysis run.out_faults run.before run.after end → TextOutcome IsText settings run (line_of settings end) (status_of end)
    loaded-row Memory (unbegun unchanged) = record { reported = inl unchanged; spelled = refl }
    loaded-row _ (begun end r) = at-begun end r

  -- the row of a run whose model has a fault
  pub bad-row : (fault : ModelFault) (end : End) → run.after ≡ run.before → IsBadModel settings run.told fault → IsRefusedModel settings fault end → TextOutcome IsText settings run (line_of settings end) (status_of end)
  bad-row fault Done unchanged cause refused = absurd refused
  bad-row fault (Bad found file) unchanged cause (same, name) = record {
    unchanged = unchanged;
    found = fault;
    cause = cause;
    spelled = ap₂ fault_line name same;
  }
  bad-row fault (Read number) unchanged cause refused = absurd refused
  bad-row fault Write unchanged cause refused = absurd refused
  bad-row fault (Full number) unchanged cause refused = absurd refused
  bad-row fault Memory unchanged cause refused = record { reported = inl unchanged; spelled = refl }

  -- the row of a run that could not read a file
  pub unread-row : (number : ℕ) → run.after ≡ run.before → ReadRose run → suc number ≡ run.opened → IsUnread settings run.told run.rest number → TextOutcome IsText settings run (line_of settings (Read number)) (status_of (Read number))
  unread-row = read-row settings run (table_of [] [] None None)

-- what was loaded ends neither with a fault of the model nor with one of a file
pub not-nothing : (IsText : Texts) (analysis : Analysis) (faults : ℕ × ℕ) (before after : Option (List ℕ)) (end : End) → EndsRun IsText analysis faults before after end → writes_nothing (status_of end) ≡ true → ⊥
not-nothing IsText _ faults before after Done ends nothing = false≢true nothing
not-nothing IsText _ faults before after (Bad fault file) (begun _ r) nothing = r
not-nothing IsText _ faults before after (Read number) (begun _ r) nothing = r
not-nothing IsText _ faults before after Write ends nothing = false≢true nothing
not-nothing IsText _ faults before after (Full number) ends nothing = false≢true nothing
not-nothing IsText _ faults before after Memory ends nothing = false≢true nothing

-- ---- when a run does not fail

module _ (settings : Settings) (run : Run) (answer : Result Loaded LoadError) (outcome : LoadOutcome settings run.told run.rest run.opened run.folder_faults answer) (loaded : Loaded) (is : answer ≡ Ok loaded) where
  -- what was loaded has no fault
  no-fault : (ReadRose run → ⊥) → HasFault settings run → ⊥
  no-fault none fault = differ (outcome.refused none its.0 its.1)
    where
      one-of : (told : Option Told) → IsSomeAnd told (λ files. (found : ModelFault) × IsFirstFault settings (names_of settings.input) files found) → (found : ModelFault) × IsSomeAnd told (λ files. IsFirstFault settings (names_of settings.input) files found)
      one-of None nothing = absurd nothing
      one-of (Some files) (found, p) = (found, p)

      its : (found : ModelFault) × IsSomeAnd run.told (λ files. IsFirstFault settings (names_of settings.input) files found)
      its = one-of run.told fault

      differ : (answer ≡ Err (load.Bad its.0)) ⊎ (answer ≡ Err load.Memory) → ⊥
      differ (inl p) = absurd (cc)
      differ (inr p) = absurd (cc)

  module _ (IsText : Texts) (analysis : Analysis) where
    written-at : (end : End) → EndsRun IsText analysis run.out_faults run.before run.after end → NoFaultRose run → (status_of end ≡ status.Done) ⊎ (status_of end ≡ status.OutOfMemory)
    written-at Memory (unbegun unchanged) none = inr refl
    written-at _ (begun end r) none = of end r
      where
        of : (end : End) → EndsText IsText analysis run.out_faults run.before run.after end → (status_of end ≡ status.Done) ⊎ (status_of end ≡ status.OutOfMemory)
        of Done r = inl refl
        of (Bad fault file) r = absurd r
        of (Read number) r = absurd r
        of Write r = absurd (none.1 r.0)
        of (Full number) r = absurd r
        of Memory r = inr refl

    -- what was loaded is written, where no device fails
    pub loaded-complete : (end : End) → EndsRun IsText analysis run.out_faults run.before run.after end → Completeness settings run (status_of end)
    loaded-complete end ends =
        record { refused = λ none fault. absurd (no-fault none fault); reported = λ none has. written-at end ends none }
