-- The numbers of containers, one definition after the other.
use Rattle.std.proofs.Common.{◌≡◌, ◌-◌, ◌⊎◌, inl, inr, ℕ, true, List, [], ◌∷◌, ◌++◌, length, get_or, slice_get, unwrap_or, Option, Some, None, refl, sym, ap, ◌∙◌, subst, arith, length-append}
use Rattle.std.proofs.lemmas.Bool.{false≢true, and_parts, and_from}
use Rattle.std.proofs.lemmas.Option.{get_or_from_slice_get}
use Rattle.std.proofs.lemmas.Iterator.Adapters.{position_from-zero}
use Rattle.std.specs.List.{position_from}
use Rattle.std.specs.Str.{bytes_eq}
use Rattle.psa_model.specs.Drafts.{same_texts}
use Rattle.psa_model.specs.PathNames.{Text}
use Rattle.psa_model.specs.declared.draft.DraftDefinition.{DraftDefinition}
use Rattle.psa_spaces.specs.Paths.{Path, IsPath, AreContainers}
use Rattle.psa_spaces.proofs.ListLemmas.{at-front, at-end, back-cases, first-at, first-none}
use Rattle.psa_lookup.specs.Keys.{number_of}
use Rattle.psa_lookup.specs.Numbers.{IsNumbered}
use Rattle.psa_lookup.proofs.BoolLemmas.{text-same, same-text}

pub numbered-none : (paths : List Path) → AreContainers paths → IsNumbered paths [] []
numbered-none paths are = record { containers = are; all = refl; each = λ place one at. absurd (cc) }

pub numbered-more : (paths more : List Path) (numbers : List ℕ) (definitions : List DraftDefinition) (number : ℕ) (one : DraftDefinition) → IsNumbered paths numbers definitions → AreContainers more → ((n : ℕ) (path : Path) → IsPath paths n path → IsPath more n path) → IsPath more number one.container → IsNumbered more (numbers ++ number ∷ []) (definitions ++ one ∷ [])
numbered-more paths more numbers definitions number one is are kept at = record {
  containers = are;
  all = let a = length-append numbers (number ∷ []) in let b = length-append definitions (one ∷ []) in omega (arith, a, b, is.all);
  each = λ place d there. by place d (back-cases definitions one d place there);
}
  where
    by : (place : ℕ) (d : DraftDefinition) → (slice_get definitions place ≡ Some d) ⊎ ((place ≡ length definitions) × (d ≡ one)) → (n : ℕ) × (slice_get (numbers ++ number ∷ []) place ≡ Some n) × IsPath more n d.container
    by place d (inl h) = (let its = is.each place d h in (its.0, at-front numbers (number ∷ []) place its.0 its.1, kept its.0 d.container its.2))
    by place d (inr h) =
        (number, ap (slice_get (numbers ++ number ∷ [])) (h.0 ∙ sym is.all) ∙ at-end numbers number, subst (λ (e : DraftDefinition). IsPath more number e.container) (sym h.1) at)

-- ---- the number of a path

pub texts-same : (xs ys : List Text) → same_texts xs ys ≡ true → xs ≡ ys
texts-same [] [] h = refl
texts-same [] (y ∷ ys) h = absurd (false≢true h)
texts-same (x ∷ xs) [] h = absurd (false≢true h)
texts-same (x ∷ xs) (y ∷ ys) h =
    let p = and_parts (bytes_eq x y) (same_texts xs ys) h in
    let head = text-same x y p.0 in
    let tail = texts-same xs ys p.1 in
    cc

pub same-texts-own : (xs : List Text) → same_texts xs xs ≡ true
same-texts-own [] = refl
same-texts-own (x ∷ xs) = and_from _ _ (same-text x x refl) (same-texts-own xs)

pub same-texts : (xs ys : List Text) → xs ≡ ys → same_texts xs ys ≡ true
same-texts xs ys h = subst (λ (zs : List Text). same_texts xs zs ≡ true) h (same-texts-own xs)

-- a path that stands has its number
pub number-is : (paths : List Path) → AreContainers paths → (number : ℕ) (path : Path) → IsPath paths number path → number_of paths path ≡ number
number-is paths are number path at = by (position_from (same_texts path) 0 paths) refl
  where
    by : (r : Option ℕ) → position_from (same_texts path) 0 paths ≡ r → number_of paths path ≡ number
    by None e = absurd (false≢true (sym (first-none (same_texts path) 0 paths e number path at) ∙ same-texts-own path))
    by (Some n) e =
        (let f = first-at (same_texts path) 0 paths n e in
        let none : n - 0 ≡ n = omega arith in
        let there : IsPath paths n path = ap (slice_get paths) (sym none) ∙ f.1.1 ∙ ap (λ (p : Path). Some p) (sym (texts-same path f.1.0 f.1.2)) in
        ap (λ o. unwrap_or o 0) (position_from-zero (same_texts path) paths ∙ e) ∙ are.apart n number path there at)

-- a definition's number is that of its container
pub numbered-at : (paths : List Path) (numbers : List ℕ) (definitions : List DraftDefinition) (place : ℕ) (one : DraftDefinition) → IsNumbered paths numbers definitions → slice_get definitions place ≡ Some one → get_or numbers place 0 ≡ number_of paths one.container
numbered-at paths numbers definitions place one is at =
    let its = is.each place one at in
    get_or_from_slice_get numbers place its.0 0 its.1 ∙ sym (number-is paths is.containers its.0 one.container its.2)
