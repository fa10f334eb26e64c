-- Folds over the literals of a product.
use Rattle.std.proofs.Common.{◌≡◌, ℕ, zero, suc, ◌<◌, ◌≤◌, ◌+◌, List, [], ◌∷◌, ◌++◌, Option, Some, None, IfSome, take, get_or, set, length, refl, sym, ap, ap₂, subst, ◌∙◌, arith}
use Rattle.std.specs.List.{All, fold}
use Rattle.std.proofs.lemmas.List.{get_or-take, length-set, length-take-le, take-take, take_more_set}
use Rattle.std.proofs.lemmas.List.Elements.{All-append, All-cons, All-nil, All-take}
use Rattle.std.proofs.lemmas.List.Folds.{fold-map}
use Rattle.psa_logic.specs.Products.{literal_number}
use Rattle.psa_number.specs.Ends.{Ends}
use Rattle.psa_number.specs.Operations.{IsInUnit, unit_product_ends}
use Rattle.psa_model.specs.declared.ids.EventNumber.{EventNumber}
use Rattle.psa_model.specs.declared.product.Literal.{Literal}
use Rattle.psa_model.specs.declared.product.TheConstants.{MAX_ORDER}
use Rattle.psa_model.specs.Literals.{literals_of}
use Rattle.psa_model.specs.Quantities.{bound_of, literal_ends, one_ends}
use Rattle.psa_products.specs.PartialBounds.{ArePartial, bound_step, bounds_after}
use Rattle.psa_products.specs.declared.partial.PartialBounds.{PartialBounds}

-- the bound of literals taken one by one is that of their numbers
pub bound-fold : (values : List Ends) (ranks : List EventNumber) (literals : List Literal) → fold (bound_step values ranks) one_ends literals ≡ bound_of values ranks (literals_of literals)
bound-fold values ranks literals =
    sym (fold-map (λ bound literal. unit_product_ends bound (literal_ends values ranks literal)) (λ (literal : Literal). literal_number literal.rank literal.occurs) one_ends literals)

module _ (values : List Ends) (ranks : List EventNumber) where
  -- the bounds of fewer literals
  pub after-take : (k : ℕ) (bound : Ends) (literals : List Literal) → take k (bounds_after values ranks bound literals) ≡ bounds_after values ranks bound (take k literals)
  after-take zero bound literals = refl
  after-take (suc k) bound [] = refl
  after-take (suc k) bound (literal ∷ literals) =
      let next = bound_step values ranks bound literal in
      ap (λ (bounds : List Ends). next ∷ bounds) (after-take k next literals)

  -- the bounds of one literal more
  pub after-more : (bound : Ends) (literals : List Literal) (literal : Literal)
      → bounds_after values ranks bound (literals ++ literal ∷ []) ≡ bounds_after values ranks bound literals ++ bound_step values ranks (fold (bound_step values ranks) bound literals) literal ∷ []
  after-more bound [] literal = refl
  after-more bound (first ∷ literals) literal =
      let next = bound_step values ranks bound first in
      ap (λ (bounds : List Ends). next ∷ bounds) (after-more next literals literal)

  -- the last of them is the bound of all literals
  pub after-last : (k : ℕ) (bound d : Ends) (literals : List Literal) → length literals ≡ suc k → get_or (bounds_after values ranks bound literals) k d ≡ fold (bound_step values ranks) bound literals
  after-last k bound d [] size = absurd (omega (arith, size))
  after-last zero bound d (literal ∷ []) size = refl
  after-last zero bound d (literal ∷ second ∷ literals) size = absurd (omega (arith, size))
  after-last (suc k) bound d (literal ∷ literals) size =
      let next = bound_step values ranks bound literal in
      after-last k next d literals (omega (arith, size))

  -- what is kept of the last literal is the bound of all
  pub partial-last : (p : PartialBounds) → ArePartial values ranks p → (k : ℕ) → p.count ≡ suc k → (d : Ends) → get_or p.bounds k d ≡ fold (bound_step values ranks) one_ends (take p.count p.literals)
  partial-last p partial k e d =
      let count = partial.count in
      let size : length (take p.count p.literals) ≡ suc k =
      length-take-le p.count p.literals (omega (arith, count, partial.literals)) ∙ e in
      sym (get_or-take p.count p.bounds k d (omega (arith, e)))
      ∙ ap (λ (bounds : List Ends). get_or bounds k d) partial.exact
      ∙ after-last k one_ends d (take p.count p.literals) size

  -- fewer literals
  pub partial-fewer : (p : PartialBounds) → ArePartial values ranks p → (n : ℕ) → n ≤ p.count → ArePartial values ranks (record p { count = n })
  partial-fewer p partial n fewer =
      let count = partial.count in
      let less : take n p.bounds ≡ take n (take p.count p.bounds) = sym (take-take n p.count p.bounds fewer) in
      record {
        count = omega (arith, count, fewer);
        literals = partial.literals;
        bounds = partial.bounds;
        exact =
            less ∙ ap (take n) partial.exact ∙ after-take n one_ends (take p.count p.literals)
            ∙ ap (bounds_after values ranks one_ends) (take-take n p.count p.literals fewer);
        in_unit = subst (All IsInUnit) (sym less) (All-take IsInUnit n (take p.count p.bounds) partial.in_unit);
      }

  -- one literal more
  pub partial-push : (p : PartialBounds) → ArePartial values ranks p → p.count < MAX_ORDER → (literal : Literal) (bound : Ends)
      → bound ≡ bound_step values ranks (fold (bound_step values ranks) one_ends (take p.count p.literals)) literal → IsInUnit bound
      → ArePartial values ranks (record { literals = set p.literals p.count literal; bounds = set p.bounds p.count bound; count = p.count + 1 })
  partial-push p partial room literal bound e unit =
      let longer = take_more_set p.bounds p.count bound (omega (arith, room, partial.bounds)) in
      record {
        count = omega (arith, room);
        literals = length-set p.literals p.count literal ∙ partial.literals;
        bounds = length-set p.bounds p.count bound ∙ partial.bounds;
        exact =
            longer
            ∙ ap₂ (λ (bounds : List Ends) (last : Ends). bounds ++ last ∷ []) partial.exact e
            ∙ sym (after-more one_ends (take p.count p.literals) literal)
            ∙ ap (bounds_after values ranks one_ends) (sym (take_more_set p.literals p.count literal (omega (arith, room, partial.literals))));
        in_unit = subst (All IsInUnit) (sym longer) (All-append IsInUnit (take p.count p.bounds) (bound ∷ []) partial.in_unit (All-cons IsInUnit bound [] unit (All-nil IsInUnit)));
      }

-- where there are intervals, no literal counts yet
pub partial-new : (values : Option (List Ends)) (ranks : List EventNumber) (p : PartialBounds) → ((some : List Ends) (by : List EventNumber) → ArePartial some by p) → IfSome values (λ some. ArePartial some ranks p)
partial-new None ranks p all = tt
partial-new (Some some) ranks p all = all some ranks
