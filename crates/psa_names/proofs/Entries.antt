-- The worked drafts laid out: the outlines of their definitions.
use Rattle.std.proofs.Common.{◌≡◌, ℕ, List, [], ◌∷◌, refl}
use Rattle.std.specs.Prelude.{codes}
use Rattle.psa_model.specs.PathNames.{Text}
use Rattle.psa_model.specs.declared.draft.DraftDefinition.{DraftDefinition}
use Rattle.psa_model.specs.declared.draft.EventKind.TheVariants as asked
use Rattle.psa_model.specs.ExampleDrafts.{refer, one_gate_draft, gate_draft, repeated_draft, house_draft, short_group_draft, group_draft, component_draft, nested_draft}
use Rattle.psa_names.specs.Outlines.{Outline, Entries, plain, naming, event, formula_layer, expression_layer, entries_of}
use Rattle.psa_names.proofs.Forms.{at-event, at-constant, at-connective, at-number}

-- definitions without forks, with these outlines
abbrev pub entries_by : List DraftDefinition → List (List Outline) → Entries
entries_by (one ∷ others) (its ∷ more) = record { definition = one; outlines = its; states = [] } ∷ entries_by others more
entries_by _ _ = []

abbrev pub gate_named : ℕ → ℕ → ℕ → Text → Outline
gate_named file line number name = naming (event asked.Gate) (refer file line number name) []

abbrev pub basic_named : ℕ → ℕ → ℕ → Text → Outline
basic_named file line number name = naming (event asked.Basic) (refer file line number name) []

-- the gate of the first file
abbrev pub one_gate_outlines : List Outline
one_gate_outlines = plain (gate_named 0 3 4 (codes "G2") ∷ basic_named 0 3 5 (codes "a") ∷ []) ∷ []

abbrev pub one_gate_entries : Entries
one_gate_entries = entries_by one_gate_draft.definitions ([] ∷ one_gate_outlines ∷ [] ∷ [])

pub one_gate_laid_out : entries_of one_gate_draft ≡ one_gate_entries
one_gate_laid_out = simp (at-event formula_layer, at-connective formula_layer) refl

abbrev pub gate_entries : Text → Entries
gate_entries target =
    entries_by (gate_draft target).definitions ([] ∷ one_gate_outlines ∷ [] ∷ [] ∷ (gate_named 1 3 3 target ∷ []) ∷ [])

pub gate_laid_out : (target : Text) → entries_of (gate_draft target) ≡ gate_entries target
gate_laid_out target = simp (at-event formula_layer, at-connective formula_layer) refl

abbrev pub repeated_entries : Entries
repeated_entries =
    entries_by repeated_draft.definitions ([] ∷ one_gate_outlines ∷ [] ∷ [] ∷ (plain [] ∷ []) ∷ [])

pub repeated_laid_out : entries_of repeated_draft ≡ repeated_entries
repeated_laid_out = simp (at-event formula_layer, at-constant formula_layer, at-connective formula_layer) refl

abbrev pub house_entries : Entries
house_entries = entries_by house_draft.definitions ([] ∷ one_gate_outlines ∷ [] ∷ [] ∷ [] ∷ [])

pub house_laid_out : entries_of house_draft ≡ house_entries
house_laid_out = simp (at-event formula_layer, at-connective formula_layer) refl

abbrev pub short_group_entries : Entries
short_group_entries = entries_by short_group_draft.definitions ((plain [] ∷ []) ∷ [])

pub short_group_laid_out : entries_of short_group_draft ≡ short_group_entries
short_group_laid_out = simp (at-number expression_layer) refl

abbrev pub group_entries : Entries
group_entries =
    entries_by group_draft.definitions
    ([]
    ∷ (plain (basic_named 0 3 4 (codes "A") ∷ basic_named 0 3 5 (codes "B") ∷ basic_named 0 3 6 (codes "C") ∷ []) ∷ [])
    ∷ (plain [] ∷ plain [] ∷ plain [] ∷ [])
    ∷ [])

pub group_laid_out : entries_of group_draft ≡ group_entries
group_laid_out = simp (at-event formula_layer, at-connective formula_layer, at-number expression_layer) refl

abbrev pub component_entries : Text → Text → Entries
component_entries first second =
    entries_by (component_draft first second).definitions
    ([]
    ∷ (plain (gate_named 0 3 4 first ∷ gate_named 0 3 5 (codes "F.Q.g") ∷ []) ∷ [])
    ∷ []
    ∷ (plain (basic_named 0 5 9 (codes "x") ∷ basic_named 0 5 10 (codes "s") ∷ []) ∷ [])
    ∷ []
    ∷ []
    ∷ (plain (basic_named 0 9 15 (codes "x") ∷ basic_named 0 9 16 (codes "s") ∷ []) ∷ [])
    ∷ []
    ∷ []
    ∷ [])

pub component_laid_out : (first second : Text) → entries_of (component_draft first second) ≡ component_entries first second
component_laid_out first second = simp (at-event formula_layer, at-connective formula_layer) refl

abbrev pub nested_entries : Entries
nested_entries = entries_by nested_draft.definitions ([] ∷ [] ∷ [] ∷ [] ∷ [] ∷ [] ∷ [])

pub nested_laid_out : entries_of nested_draft ≡ nested_entries
nested_laid_out = refl
