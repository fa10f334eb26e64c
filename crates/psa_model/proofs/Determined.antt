-- A report is determined by what it is about, and exists.
use Rattle.std.proofs.Common.{◌≡◌, ◌⊎◌, ℕ, Bool, true, false, List, [], ◌∷◌, ◌++◌, refl, sym, ap, ◌∙◌, subst, inl, inr}
use Rattle.std.proofs.lemmas.List.{append_assoc, append-nil}
use Rattle.std.proofs.lemmas.Bool.{cases_Bool}
use Rattle.std.specs.List.{filter}
use Rattle.psa_model.specs.declared.targets.Target.{Target}
use Rattle.psa_logic.proofs.ListingLemmas.{listing-only}
use Rattle.psa_model.specs.Report.{Analysis, IsSection, AreSections, IsReport, IsProductOf, section_text, is_kept_in, head_text}
use Rattle.psa_model.specs.Report.AreSections.{no_section, and_section}
use Rattle.psa_model.specs.Report.IsReport.{validated, written}
use Rattle.psa_model.proofs.TargetProducts.{target-listing}

-- two sections of one target are the same text
section-determined : (a : Analysis) (t : Target) (x y : List ℕ) → IsSection a t x → IsSection a t y → x ≡ y
section-determined a t x y p q =
    p.spelled ∙ ap (λ products. section_text a t (filter (is_kept_in a t) products)) (listing-only (IsProductOf a t) p.products q.products p.listing q.listing) ∙ sym q.spelled

-- the sections before the last, and the last
record EndsWith (a : Analysis) (targets : List Target) (text : List ℕ) : Type 0 where
  before : List Target
  written_before : List ℕ
  last : Target
  section : List ℕ
  are : AreSections a before written_before
  is_section : IsSection a last section
  targets_are : targets ≡ before ++ last ∷ []
  text_is : text ≡ written_before ++ section

sections-cases : (a : Analysis) (targets : List Target) (text : List ℕ) → AreSections a targets text → ((targets ≡ []) × (text ≡ [])) ⊎ EndsWith a targets text
sections-cases a _ _ no_section = inl (refl, refl)
sections-cases a _ _ (and_section targets text target section are is) = inr (record { before = targets; written_before = text; last = target; section = section; are = are; is_section = is; targets_are = refl; text_is = refl })

-- a list with a last item is not empty
not-empty : (xs : List Target) (x : Target) → xs ++ x ∷ [] ≡ [] → ⊥
not-empty [] x p = absurd (cc)
not-empty (y ∷ ys) x p = absurd (cc)

tails-same : (x y : Target) (xs ys : List Target) → x ∷ xs ≡ y ∷ ys → xs ≡ ys
tails-same x y xs ys p = cc

heads-same : (x y : Target) (xs ys : List Target) → x ∷ xs ≡ y ∷ ys → x ≡ y
heads-same x y xs ys p = cc

snoc-same : (xs ys : List Target) (x y : Target) → xs ++ x ∷ [] ≡ ys ++ y ∷ [] → (xs ≡ ys) × (x ≡ y)
snoc-same [] [] x y p = (refl, heads-same x y [] [] p)
snoc-same [] (z ∷ zs) x y p = absurd (not-empty zs y (sym (tails-same x z [] (zs ++ y ∷ []) p)))
snoc-same (w ∷ ws) [] x y p = absurd (not-empty ws x (tails-same w y (ws ++ x ∷ []) [] p))
snoc-same (w ∷ ws) (z ∷ zs) x y p =
    let rest = snoc-same ws zs x y (tails-same w z (ws ++ x ∷ []) (zs ++ y ∷ []) p) in
    (ap (λ h. h ∷ ws) (heads-same w z (ws ++ x ∷ []) (zs ++ y ∷ []) p) ∙ ap (λ t. z ∷ t) rest.0, rest.1)

-- two texts of the sections of the same targets are the same
sections-determined : (a : Analysis) (ts us : List Target) (x y : List ℕ) → AreSections a ts x → AreSections a us y → ts ≡ us → x ≡ y
sections-determined a _ us _ y no_section other p = at_none (sections-cases a us y other)
  where
    at_none : ((us ≡ []) × (y ≡ [])) ⊎ EndsWith a us y → [] ≡ y
    at_none (inl e) = sym e.1
    at_none (inr l) = absurd (not-empty l.before l.last (sym l.targets_are ∙ sym p))
sections-determined a _ us _ y (and_section targets text target section are is) other p = at_last (sections-cases a us y other) (λ ts t q r. sections-determined a targets ts text t are q r)
  where
    at_last : ((us ≡ []) × (y ≡ [])) ⊎ EndsWith a us y → ((ts : List Target) (t : List ℕ) → AreSections a ts t → targets ≡ ts → text ≡ t) → text ++ section ≡ y
    at_last (inl e) again = absurd (not-empty targets target (p ∙ e.0))
    at_last (inr l) again =
        let same = snoc-same targets l.before target l.last (p ∙ l.targets_are) in
        let front = again l.before l.written_before l.are same.0 in
        let back = section-determined a l.last section l.section (subst (λ t. IsSection a t section) same.1 is) l.is_section in
        ap (λ t. t ++ section) front ∙ ap (λ t. l.written_before ++ t) back ∙ sym l.text_is

differ : (b : Bool) → b ≡ true → b ≡ false → ⊥
differ b p q = absurd (cc)

-- two reports about the same are the same text
pub report-determined : (a : Analysis) (targets : List Target) (x y : List ℕ) → IsReport a targets x → IsReport a targets y → x ≡ y
report-determined a targets _ _ (validated p) (validated q) = refl
report-determined a targets _ _ (validated p) (written sections q are) = absurd (differ a.settings.validate p q)
report-determined a targets _ _ (written sections p are) (validated q) = absurd (differ a.settings.validate q p)
report-determined a targets _ _ (written sections p are) (written others q more) = ap (λ t. head_text a.settings ++ t) (sections-determined a targets targets sections others are more refl)

-- each target has a section
section-exists : (a : Analysis) (target : Target) → (text : List ℕ) × IsSection a target text
section-exists a target =
    let listing = target-listing a target in
    (section_text a target (filter (is_kept_in a target) listing.0), record { products = listing.0; listing = listing.1; spelled = refl })

-- the sections of further targets behind those of some
sections-follow : (a : Analysis) (shown more : List Target) (text : List ℕ) → AreSections a shown text → (whole : List ℕ) × AreSections a (shown ++ more) whole
sections-follow a shown [] text are = (text, subst (λ targets. AreSections a targets text) (sym (append-nil shown)) are)
sections-follow a shown (target ∷ more) text are =
    let next = section-exists a target in
    let rest = sections-follow a (shown ++ target ∷ []) more (text ++ next.0) (and_section shown text target next.0 are next.1) in
    (rest.0, subst (λ targets. AreSections a targets rest.0) (append_assoc shown (target ∷ []) more) rest.1)

-- a report about each analysis exists
pub report-exists : (a : Analysis) (targets : List Target) → (text : List ℕ) × IsReport a targets text
report-exists a targets = elim (cases_Bool a.settings.validate) [
  | inl only ↦ ([], validated only)
  | inr not_only ↦
      let sections = sections-follow a [] targets [] no_section in
      (head_text a.settings ++ sections.0, written sections.0 not_only sections.1)
]
