-- When a run does not fail.
use Rattle.std.proofs.Common.{◌≡◌, ◌⊎◌, inl, inr, ℕ, suc, true, false, List, [], ◌∷◌, ◌++◌, Option, Some, None, length, refl, sym, ap, subst, ◌∙◌, append_assoc}
use Rattle.std.specs.Prelude.{Result, Ok, Err, IfSome, IsSomeAnd}
use Rattle.std.specs.List.{slice_get}
use Rattle.std.proofs.lemmas.Bool.{false≢true}
use Rattle.psa_text.proofs.OneOutcome.{reads_once}
use Rattle.psa_nodes.specs.declared.node.Node.{Node}
use Rattle.psa_nodes.specs.Nodes.{AllFit}
use Rattle.psa_nodes.specs.Readings.{node_at, reading}
use Rattle.psa_nodes.specs.Table.{IsTable, Table}
use Rattle.psa_model.specs.declared.fault.ModelFault.{ModelFault}
use Rattle.psa_model.specs.declared.settings.Settings.{Settings}
use Rattle.psa_model.specs.declared.targets.Target.{Target}
use Rattle.psa_model.specs.Report.{Analysis}
use Rattle.psa_outcome.specs.declared.loaded.Loaded.{Loaded}
use Rattle.psa_outcome.specs.declared.loaded.LoadError.{LoadError}
use Rattle.psa_outcome.specs.declared.loaded.LoadError.TheVariants as load
use Rattle.psa_outcome.specs.declared.status.Status.{Status}
use Rattle.psa_outcome.specs.declared.status.Status.TheVariants as status
use Rattle.psa_outcome.specs.Causes.{Analysed, names_of}
use Rattle.psa_outcome.specs.Inputs.{IsAnalysis, IsFirstFault, Told}
use Rattle.psa_outcome.specs.Loading.{LoadOutcome, loaded_analysis}
use Rattle.psa_outcome.specs.Origins.{AtMost, OriginIn}
use Rattle.psa_outcome.specs.RunOutcome.{Completeness, HasAnalysis, HasFault, IsWithinLimit}
use Rattle.psa_outcome.specs.Runs.{NoFaultRose, ReadRose, Run, all_targets}
use Rattle.psa_outcome.proofs.OutcomeLemmas.{outcomes-same}
use Rattle.psa_ports.specs.Counts.{Rose}
use Rattle.psa_sections.specs.Reports.{IsFullReport}
use Rattle.psa_engine.specs.declared.end.End.{End}
use Rattle.psa_engine.specs.declared.end.End.TheVariants.{Done, Bad, Read, Write, Full, Memory}
use Rattle.psa_engine.specs.Ends.{EndsLoaded, checked, unbegun, shown, EndsShown, IsRefusedModel, status_of}
use Rattle.psa_engine.proofs.LimitLemmas.{origin-more, refused-limit}

-- two `Ok` that are the same have the same value
ok-same : {A B : Type 0} {x y : A} → ◌≡◌ {A = Result A B} (Ok x) (Ok y) → x ≡ y
ok-same p = cc

-- what is said of some fault or analysis of told files, for that one
one-of : {A : Type 0} (P : Told → A → Type 0) (told : Option Told) → IsSomeAnd told (λ files. (x : A) × P files x) → (x : A) × IsSomeAnd told (λ files. P files x)
one-of P None none = absurd none
one-of P (Some files) (x, p) = (x, p)

-- the analysis that told files have
analysis-of : (settings : Settings) (told : Option Told) → IsSomeAnd told (λ files. (analysis : Analysis) × IsAnalysis settings (names_of settings.input) files analysis × IsWithinLimit settings analysis) → (analysis : Analysis) × IsSomeAnd told (λ files. IsAnalysis settings (names_of settings.input) files analysis)
analysis-of settings None none = absurd none
analysis-of settings (Some files) (analysis, is, within) = (analysis, is)

-- ---- a full table

-- a report that stopped at a full table has more readings than its limit
module _ (analysis : Analysis) (number : ℕ) (table : Table) (before after : Option (List ℕ)) (well : IsTable table) (full : IsFullReport analysis number table before after) where
  targets : all_targets analysis ≡ (full.stopped.earlier ++ full.stopped.target ∷ []) ++ full.stopped.behind
  targets =
      full.stopped.targets ∙ sym (append_assoc full.stopped.earlier (full.stopped.target ∷ []) full.stopped.behind)

  from : (id : ℕ) (n : Node) → node_at table.nodes id ≡ Some n → OriginIn analysis (all_targets analysis) n.kind n.var (reading table.nodes id)
  from id n is =
      subst (λ (l : List Target). OriginIn analysis l n.kind n.var (reading table.nodes id)) (sym targets)
      (origin-more analysis (full.stopped.earlier ++ full.stopped.target ∷ []) full.stopped.behind n (reading table.nodes id) (full.stopped.nodes id n is))

  -- the target at which it stopped stands behind the earlier ones
  get-stopped : (earlier : List Target) (target : Target) (behind : List Target) → slice_get (earlier ++ target ∷ behind) (length earlier) ≡ Some target
  get-stopped [] target behind = refl
  get-stopped (one ∷ earlier) target behind = get-stopped earlier target behind

  pub not-within : AtMost (length table.nodes) analysis (all_targets analysis) → ⊥
  not-within =
      refused-limit analysis (all_targets analysis) table.nodes full.triple well.fit full.refusal.fits from (
        length full.stopped.earlier,
        full.stopped.target,
        subst (λ (l : List Target). slice_get l (length full.stopped.earlier) ≡ Some full.stopped.target) (sym full.stopped.targets)
            (get-stopped full.stopped.earlier full.stopped.target full.stopped.behind),
        full.stopped.from_target,
      )

-- ---- the ends

module _ (settings : Settings) (run : Run) (answer : Result Loaded LoadError) (outcome : LoadOutcome settings run.told run.rest run.opened run.folder_faults answer) where
  -- without read faults a first fault is told
  fault-told : (P : Type 0) → (ReadRose run → ⊥) → HasFault settings run → ((found : ModelFault) → answer ≡ Err (load.Bad found) → P) → (answer ≡ Err load.Memory → P) → P
  fault-told P none fault bad memory = of (outcome.refused none its.0 its.1)
    where
      its : (found : ModelFault) × IsSomeAnd run.told (λ files. IsFirstFault settings (names_of settings.input) files found)
      its = one-of (λ files found. IsFirstFault settings (names_of settings.input) files found) run.told fault

      of : (answer ≡ Err (load.Bad its.0)) ⊎ (answer ≡ Err load.Memory) → P
      of (inl p) = bad its.0 p
      of (inr p) = memory p

  -- and an input without one is loaded
  analysis-loaded : (P : Type 0) → (ReadRose run → ⊥) → HasAnalysis settings run (IsWithinLimit settings) → ((loaded : Loaded) → answer ≡ Ok loaded → P) → (answer ≡ Err load.Memory → P) → P
  analysis-loaded P none has loads memory = of (outcome.accepted none its.0 its.1)
    where
      its : (analysis : Analysis) × IsSomeAnd run.told (λ files. IsAnalysis settings (names_of settings.input) files analysis)
      its = analysis-of settings run.told has

      of : ((loaded : Loaded) × (answer ≡ Ok loaded)) ⊎ (answer ≡ Err load.Memory) → P
      of (inl (loaded, p)) = loads loaded p
      of (inr p) = memory p

  -- an input that could not be loaded
  pub bad-complete : (found : ModelFault) (end : End) → answer ≡ Err (load.Bad found) → IsRefusedModel settings found end → Completeness settings run (status_of end)
  bad-complete found end is refused = record {
    refused = λ none fault. answers end refused;
    reported = λ none has. absurd (analysis-loaded (⊥) none.0 has (λ loaded p. absurd (cc)) (λ p. absurd (cc)));
  }
    where
      answers : (end : End) → IsRefusedModel settings found end → (status_of end ≡ status.BadModel) ⊎ (status_of end ≡ status.OutOfMemory)
      answers Done refused = absurd refused
      answers (Bad fault file) refused = inl refl
      answers (Read number) refused = absurd refused
      answers Write refused = absurd refused
      answers (Full number) refused = absurd refused
      answers Memory refused = inr refl

  pub read-complete : (number : ℕ) → answer ≡ Err (load.Read number) → Completeness settings run (status_of (Read number))
  read-complete number is = record {
    refused = λ none fault. absurd (fault-told (⊥) none fault (λ found p. absurd (cc)) (λ p. absurd (cc)));
    reported = λ none has. absurd (analysis-loaded (⊥) none.0 has (λ loaded p. absurd (cc)) (λ p. absurd (cc)));
  }

  pub memory-complete : Completeness settings run (status_of Memory)
  memory-complete = record { refused = λ none fault. inr refl; reported = λ none has. inr refl }

  module _ (loaded : Loaded) (is : answer ≡ Ok loaded) (table : Table) (well : IsTable table) where
    parts : (loaded.settings ≡ settings) × Analysed settings run.told (λ analysis. loaded_analysis loaded ≡ analysis)
    parts = let p = outcome.ok loaded is in (p.0, p.2)

    -- the limit counts more readings than stand nodes
    never-full : (number : ℕ) → loaded.settings.validate ≡ false → table.limit ≡ loaded.settings.node_limit → IsFullReport (loaded_analysis loaded) number table run.before run.after → HasAnalysis settings run (IsWithinLimit settings) → ⊥
    never-full number shows limit full has = of run.told parts.1 has
      where
        node-limit : settings.node_limit ≡ Some (length table.nodes)
        node-limit = subst (λ (s : Settings). s.node_limit ≡ Some (length table.nodes)) parts.0 (sym limit ∙ full.refusal.full)

        shows-too : settings.validate ≡ false
        shows-too = subst (λ (s : Settings). s.validate ≡ false) parts.0 shows

        within : (analysis : Analysis) → loaded_analysis loaded ≡ analysis → IsWithinLimit settings analysis → ⊥
        within analysis same (inl checks) = false≢true (sym shows-too ∙ checks)
        within analysis same (inr most) =
            not-within (loaded_analysis loaded) number table run.before run.after well full
            (subst (λ (a : Analysis). AtMost (length table.nodes) a (all_targets a)) (sym same)
            (subst (λ (o : Option ℕ). IfSome o (λ limit. AtMost limit analysis (all_targets analysis))) node-limit most))

        of : (told : Option Told) → Analysed settings told (λ analysis. loaded_analysis loaded ≡ analysis) → IsSomeAnd told (λ files. (analysis : Analysis) × IsAnalysis settings (names_of settings.input) files analysis × IsWithinLimit settings analysis) → ⊥
        of None analysed none = none
        of (Some files) (one, is-one, same) (other, is-other, limits) =
            within other
            (same ∙ ok-same (outcomes-same reads_once files settings (names_of settings.input) (Ok one) (Ok other) is-one is-other))
            limits

    never-refused : (ReadRose run → ⊥) → HasFault settings run → ⊥
    never-refused none fault = fault-told (⊥) none fault (λ found p. absurd (cc)) (λ p. absurd (cc))

    reported-at : (end : End) → EndsLoaded (loaded_analysis loaded) table run.out_faults run.before run.after end → NoFaultRose run → HasAnalysis settings run (IsWithinLimit settings) → (status_of end ≡ status.Done) ⊎ (status_of end ≡ status.OutOfMemory)
    reported-at Done (checked checks unchanged) none has = inl refl
    reported-at Memory (unbegun unchanged) none has = inr refl
    reported-at _ (shown end shows limit r) none has = of end r
      where
        of : (end : End) → EndsShown (loaded_analysis loaded) table run.out_faults run.before run.after end → (status_of end ≡ status.Done) ⊎ (status_of end ≡ status.OutOfMemory)
        of Done r = inl refl
        of (Bad fault file) r = absurd r
        of (Read number) r = absurd r
        of Write r = absurd (none.1 r.0)
        of (Full number) r = absurd (never-full number shows limit r has)
        of Memory r = inr refl

    pub loaded-complete : (end : End) → EndsLoaded (loaded_analysis loaded) table run.out_faults run.before run.after end → Completeness settings run (status_of end)
    loaded-complete end ends =
        record { refused = λ none fault. absurd (never-refused none fault); reported = λ none has. reported-at end ends none has }
