-- What stands in an element is not nested as deep as the element.
use Rattle.std.proofs.Common.{◌≡◌, ◌≤◌, ◌<◌, ℕ, zero, suc, max, List, [], ◌∷◌, ◌++◌, length, get_or, map, ap, arith}
use Rattle.psa_model.specs.Drafts.{Contents, together}

-- how deep some elements and others are nested
pub nesting-append : (xs ys : List Contents) → (together (xs ++ ys)).nesting ≡ max (together xs).nesting (together ys).nesting
nesting-append [] ys = omega arith
nesting-append (x ∷ xs) ys = let rest = nesting-append xs ys in omega arith

nesting-among : {X : Type 0} (f : X → Contents) (xs : List X) (i : ℕ) (x : X) → i < length xs → x ≡ get_or xs i x → (f x).nesting ≤ (together (map f xs)).nesting
nesting-among f [] i x low is = absurd (omega arith)
nesting-among f (y ∷ xs) zero x low is = let same : (f x).nesting ≡ (f y).nesting = ap (λ z. (f z).nesting) is in omega arith
nesting-among f (y ∷ xs) (suc i) x low is = let rest = nesting-among f xs i x (omega arith) is in omega arith

-- one of some elements
pub nesting-at : {X : Type 0} (f : X → Contents) (xs ys : List X) (i : ℕ) (x : X) → xs ≡ ys → i < length xs → x ≡ get_or xs i x → (f x).nesting ≤ (together (map f ys)).nesting
nesting-at f xs ys i x same low is =
    let inside = nesting-among f xs i x low is in
    let all : (together (map f xs)).nesting ≡ (together (map f ys)).nesting = ap (λ zs. (together (map f zs)).nesting) same in
    omega arith
