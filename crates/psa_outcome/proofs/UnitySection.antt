-- The section of a top event that always occurs.
use Rattle.std.proofs.Common.{◌≡◌, ℕ, suc, Bool, true, false, List, [], ◌∷◌, ◌||◌, refl, sym, ap, ◌∙◌, inl, inr, arith}
use Rattle.std.proofs.lemmas.Bool.{false≢true, or_parts}
use Rattle.std.specs.Fmt.{digits}
use Rattle.std.specs.List.{filter, list_any}
use Rattle.std.specs.Prelude.{codes, is_some, not}
use Rattle.psa_logic.specs.Products.{positive_product, IsMinimalCutSet, IsPrimeImplicant, IsListing}
use Rattle.psa_logic.specs.Sets.{is_part, occurs, Has}
use Rattle.psa_logic.proofs.LiteralLemmas.{prime-part}
use Rattle.psa_logic.proofs.PartLemmas.{part-nil}
use Rattle.psa_model.specs.declared.expanded.Expanded.{Expanded}
use Rattle.psa_model.specs.declared.formula.Formula.{Formula}
use Rattle.psa_model.specs.declared.formula.Formula.TheViews.{out-Formula}
use Rattle.psa_model.specs.declared.formula.Formula.TheVariants as formula
use Rattle.psa_model.specs.declared.settings.Mode.{Mode}
use Rattle.psa_model.specs.declared.settings.Mode.TheVariants.{CutSets, Primes}
use Rattle.psa_model.specs.declared.settings.Settings.{Settings}
use Rattle.psa_model.specs.declared.targets.Target.{Target}
use Rattle.psa_model.specs.declared.targets.Target.TheVariants.{TopEvent}
use Rattle.psa_model.specs.Expansion.{expanded_of}
use Rattle.psa_model.specs.Parts.{Truth}
use Rattle.psa_model.specs.Quantities.{has_quantities}
use Rattle.psa_model.specs.Report.{IsProductIn, IsProductOf, IsSection, is_kept_in, section_text}
use Rattle.psa_model.specs.Truth.{truth, truth_layer}
use Rattle.psa_outcome.specs.UnityExample.{unity_model, unity_analysis}
use Rattle.psa_outcome.proofs.Analysed.{out-gate, out-basic}
use Rattle.psa_outcome.proofs.RankedGroup.{out-connective}

-- ---- the products of a truth that holds everywhere

-- nothing is its minimal cut set
no-events : (f : Truth) → ((s : ℕ → Bool) → f s ≡ true) → IsMinimalCutSet f []
no-events f certain = record { ascending = refl; minimal = record { cuts = certain (occurs []); least = least } }
  where
    least : (part : List ℕ) → is_part part [] ≡ true → f (occurs part) ≡ true → part ≡ []
    least [] h k = refl
    least (t ∷ ts) h k = absurd (false≢true h)

-- and its prime implicant
no-literals : (f : Truth) → ((s : ℕ → Bool) → f s ≡ true) → IsPrimeImplicant f []
no-literals f certain = record {
  ascending = refl;
  consistent = refl;
  implicant = λ s h. certain s;
  prime = λ part h shorter implies. absurd (omega arith);
}

unity-product : (mode : Mode) (f : Truth) (limit : ℕ) → ((s : ℕ → Bool) → f s ≡ true) → IsProductIn mode f limit []
unity-product CutSets f limit certain = record { set = []; is_set = refl; minimal = no-events f certain; within = omega arith }
unity-product Primes f limit certain = record { prime = no-literals f certain; within = omega arith }

-- no other is a product
unity-alone : (mode : Mode) (f : Truth) (limit : ℕ) → ((s : ℕ → Bool) → f s ≡ true) → (product : List ℕ) → IsProductIn mode f limit product → [] ≡ product
unity-alone CutSets f limit certain product is =
    ap positive_product (is.minimal.minimal.least [] (part-nil is.set) (certain (occurs []))) ∙ sym is.is_set
unity-alone Primes f limit certain product is = prime-part f product [] is.prime (part-nil product) (λ s h. certain s)

-- the list of the products of a truth that holds everywhere
unity-listing : (mode : Mode) (f : Truth) (limit : ℕ) → ((s : ℕ → Bool) → f s ≡ true) → IsListing (IsProductIn mode f limit) ([] ∷ [])
unity-listing mode f limit certain = record {
  ordered = refl;
  sound = sound;
  whole = λ product is. inl (unity-alone mode f limit certain product is);
}
  where
    sound : (product : List ℕ) → Has ([] ∷ []) product → IsProductIn mode f limit product
    sound product h = elim h [
      | inl e ↦ rw (sym e) (unity-product mode f limit certain)
      | inr none ↦ absurd none
    ]

-- ---- the truth of the worked model

truth-suc : (levels : ℕ) (expanded : Expanded) (houses : List Bool) (s : ℕ → Bool) (f : Formula) → truth (suc levels) expanded houses s f ≡ truth_layer expanded houses s (λ g. truth levels expanded houses s g) (out-Formula f)
unfolding truth
truth-suc levels expanded houses s f = refl

-- an event occurs, or it does not
either-way : (b : Bool) → list_any (λ one. one) ((b || false) ∷ not (b || false) ∷ []) ≡ true
either-way true = refl
either-way false = refl

always : (n : ℕ) (ccf : Bool) (s : ℕ → Bool) → truth (suc (suc (suc (suc n)))) (expanded_of ccf unity_model) [] s (formula.Gate (record { 0 = 0 })) ≡ true
always n ccf s = simp (truth-suc, out-gate, out-connective, out-basic) (either-way (s 0))

-- ---- its section

abbrev top : Target
top = TopEvent (record { 0 = 0 })

-- the one product is the empty one, within every limit
pub unity-listed : (settings : Settings) → IsListing (IsProductOf (unity_analysis settings) top) ([] ∷ [])
unity-listed settings =
    unity-listing settings.mode _ settings.limit_order (λ s. always 497 settings.ccf _)

spelled : (settings : Settings) → settings.rare_event ≡ false → settings.mcub ≡ false → codes "top-event F top\n- 0 unity\ncount 1\n" ≡ section_text (unity_analysis settings) top (filter (is_kept_in (unity_analysis settings) top) ([] ∷ []))
unfolding digits
spelled settings rare-event mcub = rw (rare-event, mcub) refl

-- where no quantities are computed, its section is this text
pub unity-section : (settings : Settings) → has_quantities settings ≡ false → IsSection (unity_analysis settings) top (codes "top-event F top\n- 0 unity\ncount 1\n")
unity-section settings none = record {
  products = [] ∷ [];
  listing = unity-listed settings;
  spelled =
      let totals = or_parts (is_some settings.cut_off || settings.rare_event) settings.mcub none in
      spelled settings (or_parts (is_some settings.cut_off) settings.rare_event totals.0).1 totals.1;
}
