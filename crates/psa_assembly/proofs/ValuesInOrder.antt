-- The order of values, a definition at a time.
use Rattle.std.proofs.Common.{◌≡◌, ◌<◌, ◌≤◌, ◌+◌, ℕ, Bool, List, [], ◌∷◌, ◌++◌, length, take, get_or, sym, ap, ◌∙◌, eqb, not, ◌&&◌, if◌then◌else◌}
use Rattle.std.proofs.lemmas.List.{append-nil, take_more, take_all}
use Rattle.std.proofs.lemmas.List.Concat.{flat_map-append}
use Rattle.std.specs.List.{flat_map}
use Rattle.psa_model.specs.declared.model.Valued.{Valued}
use Rattle.psa_model.specs.declared.model.Valued.TheVariants as valued
use Rattle.psa_names.specs.Ids.{kind_number}
use Rattle.psa_bodies.specs.declared.numbers.Numbered.{Numbered}
use Rattle.psa_assembly.specs.Values.{valued_by}

-- what is asked of members is asked of the definition alone
pub valued-same : (f g : ℕ → Bool) (one : Numbered) → ((id : ℕ) → f id ≡ g id) → valued_by f one ≡ valued_by g one
valued-same f g one same =
    ap (λ (b : Bool). if eqb (kind_number one.kind) 5 then valued.Group (record { 0 = one.id }) ∷ []
    else if eqb (kind_number one.kind) 2 && not b then valued.Basic (record { 0 = one.id }) ∷ []
    else []) (same one.id)

-- one more definition
pub values-more : (f g : ℕ → Bool) (xs : List Numbered) (i : ℕ) (d : Numbered) (made more : List Valued) → ((id : ℕ) → f id ≡ g id) → i < length xs → made ≡ flat_map (valued_by g) (take i xs) → more ≡ made ++ valued_by f (get_or xs i d) → more ≡ flat_map (valued_by g) (take (i + 1) xs)
values-more f g xs i d made more same inside before pushed =
    pushed ∙ ap (λ vs. vs ++ valued_by f (get_or xs i d)) before
    ∙ ap (λ vs. flat_map (valued_by g) (take i xs) ++ vs) (valued-same f g (get_or xs i d) same ∙ sym (append-nil (valued_by g (get_or xs i d))))
    ∙ sym (flat_map-append (valued_by g) (take i xs) (get_or xs i d ∷ []))
    ∙ ap (flat_map (valued_by g)) (sym (take_more xs i d inside))

-- all definitions
pub values-all : (g : ℕ → Bool) (xs items : List Numbered) (i : ℕ) (made : List Valued) → items ≡ xs → length items ≤ i → made ≡ flat_map (valued_by g) (take i items) → made ≡ flat_map (valued_by g) xs
values-all g xs items i made same past before = before ∙ ap (flat_map (valued_by g)) (take_all i items past ∙ same)
