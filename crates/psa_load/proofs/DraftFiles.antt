-- Each definition of some files stands in one of them, and so does all that it refers to.
use Rattle.std.proofs.Common.{◌≡◌, ℕ, zero, suc, ◌+◌, ◌<◌, ◌≤◌, Bool, true, false, not, List, [], ◌∷◌, map, length, nat_lt, refl, ap, lt-ltb, ltb-true, arith}
use Rattle.std.specs.List.{AllByRecursion, flat_map, enumerate_from}
use Rattle.psa_text.specs.declared.tree.Element.{Element}
use Rattle.psa_model.specs.declared.draft.DraftDefinition.{DraftDefinition}
use Rattle.psa_model.specs.Drafts.{Position, position_of, reference_position, path_position}
use Rattle.psa_elements.specs.ElementTable.{opsa_mef}
use Rattle.psa_elements.specs.DraftReading.{Reading, some_definitions, definitions_of, element_reading, whole_file, file_definitions, draft_of}
use Rattle.psa_names.specs.Chains.{references_of}
use Rattle.psa_names.specs.Outlines.{Reference, ForkState, states_of, Entry, entry_of, entries_of}
use Rattle.psa_reader.proofs.Totals.{total, total-append, span}
use Rattle.psa_reader.proofs.Weights.{Weights, weigh, definition_weight}
use Rattle.psa_reader.proofs.ElementWeights.{size_of, own_at, element-weight}
use Rattle.psa_load.proofs.AskedFiles.{one_if, late, late_weights, late-law, definition-fits}

-- a position that is not late is of the files
early : (n : ℕ) (p : Position) → late n p ≡ 0 → p.file < n
early n p none = by-test (nat_lt p.file n) refl
  where
    by-test : (b : Bool) → nat_lt p.file n ≡ b → p.file < n
    by-test true e = ltb-true p.file n e
    by-test false e = absurd (omega (arith, none, ap (λ c. one_if (not c)) e))

not-late : (n : ℕ) (p : Position) → p.file < n → late n p ≡ 0
not-late n p h = rw (lt-ltb p.file n h) refl

own-none : (n file : ℕ) → file < n → (from count : ℕ) → span (own_at (late_weights n) file) from count ≡ 0
own-none n file h from zero = refl
own-none n file h from (suc count) =
    omega (arith, not-late n (record { file = file; tag = from }) h, own-none n file h (suc from) count)

definitions-weigh : (w : Weights) (r : Reading) → total (definition_weight w) (definitions_of r) ≤ weigh w 0 r
definitions-weigh w (some_definitions ds) = omega arith
definitions-weigh w _ = omega arith

-- nothing that the files say is late
none-late : (n file : ℕ) (roots : List Element) → file + length roots ≤ n → total (definition_weight (late_weights n)) (flat_map file_definitions (enumerate_from file roots)) ≡ 0
none-late n file [] fits = refl
none-late n file (root ∷ roots) fits =
    omega (
      arith,
      total-append (definition_weight (late_weights n)) (file_definitions (file, root)) (flat_map file_definitions (enumerate_from (file + 1) roots)),
      definitions-weigh (late_weights n) ((element_reading root).reading opsa_mef (whole_file file) 0),
      element-weight (late_weights n) (late-law n) root opsa_mef (whole_file file) 0 0,
      own-none n file (omega (arith, fits)) 0 (size_of root),
      none-late n (file + 1) roots (omega (arith, fits)),
    )

-- a definition of the files, all that it refers to, and the paths of forks in it
pub record IsOfFiles (n : ℕ) (one : Entry) : Type 0 where
  pub place : one.place.file < n
  pub references : AllByRecursion (λ (r : Reference). r.written.place.file < n) (references_of one)
  pub states : AllByRecursion (λ (s : ForkState). s.path.place.file < n) one.states

each-early : {A : Type 0} (n : ℕ) (at : A → Position) (xs : List A) → total (λ x. late n (at x)) xs ≡ 0 → AllByRecursion (λ x. (at x).file < n) xs
each-early n at [] none = tt
each-early n at (x ∷ xs) none = (early n (at x) (omega (arith, none)), each-early n at xs (omega (arith, none)))

entries-of-files : (n : ℕ) (ds : List DraftDefinition) → total (definition_weight (late_weights n)) ds ≡ 0 → AllByRecursion (IsOfFiles n) (map entry_of ds)
entries-of-files n [] none = tt
entries-of-files n (d ∷ ds) none =
    let fits = definition-fits n d in (
      record {
        place = early n (position_of d) (omega (arith, none));
        references = each-early n (λ (r : Reference). reference_position r.written) (references_of (entry_of d)) (omega (arith, none, fits.0));
        states = each-early n (λ (s : ForkState). path_position s.path) (states_of d.body) (omega (arith, none, fits.1));
      },
      entries-of-files n ds (omega (arith, none)),
    )

-- the definitions of files
pub draft-of-files : (roots : List Element) → AllByRecursion (IsOfFiles (length roots)) (entries_of (draft_of roots))
draft-of-files roots = entries-of-files (length roots) (draft_of roots).definitions (none-late (length roots) 0 roots (omega arith))
