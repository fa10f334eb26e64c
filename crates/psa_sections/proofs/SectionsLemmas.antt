-- The sections of targets one after another, to the end of the report or to where it stops.
use Rattle.std.proofs.Common.{◌≡◌, ◌<◌, ◌+◌, ℕ, true, false, List, [], ◌∷◌, ◌++◌, Option, Some, length, take, drop, refl, sym, ap, subst, ◌∙◌, arith}
use Rattle.std.specs.Prelude.{All, Result, Ok, Err}
use Rattle.std.specs.List.{slice_get}
use Rattle.std.proofs.lemmas.List.Elements.{All-nil}
use Rattle.std.proofs.lemmas.Option.{slice_get_within}
use Rattle.psa_nodes.specs.declared.node.Node.{Node}
use Rattle.psa_nodes.specs.declared.node.Kind.{Kind}
use Rattle.psa_nodes.specs.declared.node.Kind.TheVariants as node
use Rattle.psa_nodes.specs.Readings.{Reading, node_at, reading}
use Rattle.psa_nodes.specs.Progress.{IsFull}
use Rattle.psa_nodes.specs.Table.{Table}
use Rattle.psa_model.specs.declared.targets.Target.{Target}
use Rattle.psa_model.specs.Report.{Analysis}
use Rattle.psa_outcome.specs.Origins.{AllFrom, Origin, OriginIn, is_by_graph}
use Rattle.psa_outcome.specs.Runs.{HasProducts, ReportedFirst, all_targets}
use Rattle.psa_ports.proofs.RisenCountLemmas.{Rose-within}
use Rattle.psa_sections.specs.declared.report.ReportError.TheVariants as report
use Rattle.psa_sections.specs.declared.report.TargetError.{TargetError}
use Rattle.psa_sections.specs.declared.report.TargetError.TheVariants.{Full, Memory, Write}
use Rattle.psa_sections.specs.Reports.{EndsReport, HasSections, IsFullReport, WritesTarget, report_error}
use Rattle.psa_sections.proofs.ReportLemmas.{all-shown, section-after, section-part, split-at, take-count, take-next}
use Rattle.psa_sections.proofs.TableLemmas.{nodes-after, products-after}

-- before the first target
pub no-sections : (analysis : Analysis) (table : Table) (faults : ℕ) (start : Option (List ℕ)) → table.nodes ≡ [] → HasSections analysis 0 (table, table) (faults, faults) start start
no-sections analysis table faults start empty = record {
  reported = λ before first. first;
  nodes = λ id n is. absurd (none id n is);
  products = All-nil (HasProducts analysis table);
  bounded = λ id n is. absurd (none id n is);
  limit = refl;
  later = omega arith;
}
  where
    none : (id : ℕ) (n : Node) → node_at table.nodes id ≡ Some n → ⊥
    none id n is = let e : node_at [] id ≡ Some n = subst (λ (ns : List Node). node_at ns id ≡ Some n) empty is in absurd (cc)

module _ (analysis : Analysis) (place : ℕ) (target : Target) (first middle last : Table) (sooner now later : ℕ) (start written after : Option (List ℕ)) (shows : analysis.settings.validate ≡ false) (stands : slice_get (all_targets analysis) place ≡ Some target) (so-far : HasSections analysis place (first, middle) (sooner, now) start written) where
  abbrev done : List Target
  done = take place (all_targets analysis)

  next : take (place + 1) (all_targets analysis) ≡ done ++ target ∷ []
  next = take-next (all_targets analysis) place target stands

  -- one more section
  pub one-more-section : (answer : Result (Unit {0}) TargetError) → answer ≡ Ok tt → WritesTarget analysis target (middle, last) (now, later) written after answer → HasSections analysis (place + 1) (first, last) (sooner, later) start after
  one-more-section answer ok writes =
      of (subst (λ (r : Result (Unit {0}) TargetError). WritesTarget analysis target (middle, last) (now, later) written after r) ok writes)
    where
      of : WritesTarget analysis target (middle, last) (now, later) written after (Ok tt) → HasSections analysis (place + 1) (first, last) (sooner, later) start after
      of writes = record {
        reported = λ before head.
            section-after analysis place target writes.written.0 before written after shows stands writes.written.1 (so-far.reported before head) writes.written.2;
        nodes = subst (λ (l : List Target). AllFrom analysis l last) (sym next)
            (nodes-after analysis done target middle last writes.progress so-far.nodes);
        products = subst (λ (l : List Target). All (HasProducts analysis last) l) (sym next)
            (products-after analysis middle last writes.progress.nodes done target so-far.products writes.products);
        bounded = writes.progress.bounded so-far.bounded;
        limit = writes.progress.same_limit ∙ so-far.limit;
        later = let a = so-far.later in let b = writes.later in omega (arith, a, b);
      }

  module _ (before : Option (List ℕ)) (head : ReportedFirst analysis 0 before start) where
    abbrev reported : ReportedFirst analysis place before written
    reported = so-far.reported before head

    place-below : place < length (all_targets analysis)
    place-below = slice_get_within (all_targets analysis) place target stands

    at-write : WritesTarget analysis target (middle, last) (now, later) written after (Err Write) → EndsReport analysis (first, last) (sooner, later) before after (Err report.Write)
    at-write writes = record {
      finished = tt;
      unwritten = λ e.
          let w = writes.unwritten refl in (
            Rose-within sooner now later later so-far.later w.0 (omega arith),
            section-part analysis place target w.1.0 before written after shows stands w.1.1 reported w.1.2,
          );
      full = λ number e. absurd (cc);
      memory = λ e. absurd (cc);
      limit = writes.progress.same_limit ∙ so-far.limit;
      later = let a = so-far.later in let b = writes.later in omega (arith, a, b);
    }

    at-full : WritesTarget analysis target (middle, last) (now, later) written after (Err Full) → EndsReport analysis (first, last) (sooner, later) before after (Err (report.Full (place + 1)))
    at-full writes = record {
      finished = tt;
      unwritten = λ e. absurd (cc);
      full = λ number e.
          let same : place + 1 ≡ number = cc in
          subst (λ n. IsFullReport analysis n last before after) same stopped;
      memory = λ e. absurd (cc);
      limit = writes.progress.same_limit ∙ so-far.limit;
      later = let a = so-far.later in let b = writes.later in omega (arith, a, b);
    }
      where
        refused : IsFull (Origin analysis target) 0 last
        refused = (writes.full refl).0

        stopped : IsFullReport analysis (place + 1) last before after
        stopped = record {
          triple = refused.triple;
          last = refused.last;
          refusal = refused.refusal;
          stopped = record {
            earlier = done;
            target = target;
            behind = drop (place + 1) (all_targets analysis);
            targets = split-at (all_targets analysis) place target stands;
            place = let e = take-count (all_targets analysis) place target stands in omega (arith, e);
            nodes = nodes-after analysis done target middle last writes.progress so-far.nodes;
            from_target = refused.from.origin;
            reported =
                subst (λ n. ReportedFirst analysis n before after) (sym (take-count (all_targets analysis) place target stands))
                (subst (λ (bytes : Option (List ℕ)). ReportedFirst analysis place before bytes) (sym (writes.full refl).1) reported);
          };
        }

    at-memory : WritesTarget analysis target (middle, last) (now, later) written after (Err Memory) → EndsReport analysis (first, last) (sooner, later) before after (Err report.Memory)
    at-memory writes = record {
      finished = tt;
      unwritten = λ e. absurd (cc);
      full = λ number e. absurd (cc);
      memory = λ e. record {
        count = place;
        before_one = place-below;
        reported = subst (λ (bytes : Option (List ℕ)). ReportedFirst analysis place before bytes) (sym (writes.memory refl)) reported;
      };
      limit = writes.progress.same_limit ∙ so-far.limit;
      later = let a = so-far.later in let b = writes.later in omega (arith, a, b);
    }

    -- the section of a target was not written
    pub stops : (answer : Result (Unit {0}) TargetError) (error : TargetError) → answer ≡ Err error → WritesTarget analysis target (middle, last) (now, later) written after answer → EndsReport analysis (first, last) (sooner, later) before after (Err (report_error error place))
    stops answer error is writes =
        of error (subst (λ (r : Result (Unit {0}) TargetError). WritesTarget analysis target (middle, last) (now, later) written after r) is writes)
      where
        of : (error : TargetError) → WritesTarget analysis target (middle, last) (now, later) written after (Err error) → EndsReport analysis (first, last) (sooner, later) before after (Err (report_error error place))
        of Write writes = at-write writes
        of Full writes = at-full writes
        of Memory writes = at-memory writes

-- all elements are those up to the end
take-all : (xs : List Target) → take (length xs) xs ≡ xs
take-all [] = refl
take-all (x ∷ xs) = ap (λ l. x ∷ l) (take-all xs)

-- where products come straight from the graph, no decision diagram has an origin
family-only : (analysis : Analysis) (targets : List Target) → is_by_graph analysis.settings.algorithm analysis.settings.mode ≡ true → (k : Kind) (v : ℕ) (r : Reading) → OriginIn analysis targets k v r → k ≡ node.Zbdd
family-only analysis targets by node.Zbdd v r o = refl
family-only analysis targets by node.Bdd v r (place, target, here, o) = absurd (differ (sym by ∙ o.by_diagram))
  where
    differ : true ≡ false → ⊥
    differ e = cc

-- all targets have their sections
pub all-sections : (analysis : Analysis) (count : ℕ) (first last : Table) (sooner later : ℕ) (start after before : Option (List ℕ)) → count ≡ length (all_targets analysis) → ReportedFirst analysis 0 before start → HasSections analysis count (first, last) (sooner, later) start after → EndsReport analysis (first, last) (sooner, later) before after (Ok tt)
all-sections analysis count first last sooner later start after before all head has = record {
  finished = record {
    text = whole.text;
    is_report = all-shown analysis before after whole;
    appended = whole.appended;
    own_table = record {
      from = subst (λ (l : List Target). AllFrom analysis l last) every has.nodes;
      products = subst (λ (l : List Target). All (HasProducts analysis last) l) every has.products;
      families = λ e id n here. family-only analysis (take count (all_targets analysis)) e n.kind n.var (reading last.nodes id) (has.nodes id n here);
    };
  };
  unwritten = λ e. absurd (cc);
  full = λ number e. absurd (cc);
  memory = λ e. absurd (cc);
  limit = has.limit;
  later = has.later;
}
  where
    whole : ReportedFirst analysis (length (all_targets analysis)) before after
    whole = subst (λ n. ReportedFirst analysis n before after) all (has.reported before head)

    every : take count (all_targets analysis) ≡ all_targets analysis
    every = ap (λ n. take n (all_targets analysis)) all ∙ take-all (all_targets analysis)
