-- Lists of values by place, and the values of all.
use Rattle.std.proofs.Common.{◌≡◌, ◌<◌, ◌+◌, ℕ, suc, zero, Bool, true, List, [], ◌∷◌, ◌++◌, Result, Ok, Err, length, map, take, drop, get_or, refl, ap, sym, ◌∙◌, subst, arith}
use Rattle.std.proofs.lemmas.Bool.{and_parts}
use Rattle.std.specs.List.{list_all}
use Rattle.psa_number.specs.Ends.{Ends}
use Rattle.psa_number.specs.declared.fault.NumberFault.{NumberFault}
use Rattle.psa_model.specs.Values.{Computed, and_first, all_computed}

pub all-at : {A : Type 0} (p : A → Bool) (xs : List A) (i : ℕ) (x : A) → list_all p xs ≡ true → i < length xs → x ≡ get_or xs i x → p x ≡ true
all-at p [] i x h l is = absurd (omega arith)
all-at p (y ∷ ys) zero x h l is = subst (λ z. p z ≡ true) (sym is) (and_parts (p y) (list_all p ys) h).0
all-at p (y ∷ ys) (suc i) x h l is = all-at p ys i x ((and_parts (p y) (list_all p ys) h).1) (omega arith) is

-- one value more
pub all-more : (xs : List Computed) (vs : List Ends) (v : Ends) → all_computed xs ≡ Ok vs → all_computed (xs ++ (Ok v ∷ [])) ≡ Ok (vs ++ (v ∷ []))
all-more [] vs v h = let same : vs ≡ [] = cc in ap (λ us. Ok (us ++ (v ∷ []))) (sym same)
all-more (Err f ∷ xs) vs v h = absurd (cc)
all-more (Ok x ∷ xs) vs v h = by-rest (λ us is. all-more xs us v is) (all_computed xs) refl h
  where
    by-rest : ((us : List Ends) → all_computed xs ≡ Ok us → all_computed (xs ++ (Ok v ∷ [])) ≡ Ok (us ++ (v ∷ []))) → (rest : Result (List Ends) NumberFault) → all_computed xs ≡ rest → and_first (Ok x) rest ≡ Ok vs → and_first (Ok x) (all_computed (xs ++ (Ok v ∷ []))) ≡ Ok (vs ++ (v ∷ []))
    by-rest before (Err f) is e = absurd (cc)
    by-rest before (Ok us) is e =
        let same : x ∷ us ≡ vs = cc in
        ap (and_first (Ok x)) (before us is) ∙ ap (λ ws. Ok (ws ++ (v ∷ []))) same

-- the first fault
pub all-failed : (xs : List Computed) (vs : List Ends) (f : NumberFault) (ys : List Computed) → all_computed xs ≡ Ok vs → all_computed (xs ++ (Err f ∷ ys)) ≡ Err f
all-failed [] vs f ys h = refl
all-failed (Err g ∷ xs) vs f ys h = absurd (cc)
all-failed (Ok x ∷ xs) vs f ys h = by-rest (λ us is. all-failed xs us f ys is) (all_computed xs) refl h
  where
    by-rest : ((us : List Ends) → all_computed xs ≡ Ok us → all_computed (xs ++ (Err f ∷ ys)) ≡ Err f) → (rest : Result (List Ends) NumberFault) → all_computed xs ≡ rest → and_first (Ok x) rest ≡ Ok vs → and_first (Ok x) (all_computed (xs ++ (Err f ∷ ys))) ≡ Err f
    by-rest before (Err g) is e = absurd (cc)
    by-rest before (Ok us) is e = ap (and_first (Ok x)) (before us is)

-- the values of all where those before a place are known
pub map-take-more : {A B : Type 0} (f : A → B) (xs : List A) (i : ℕ) (x : A) → i < length xs → x ≡ get_or xs i x → map f (take (i + 1) xs) ≡ map f (take i xs) ++ (f x ∷ [])
map-take-more f [] i x l is = absurd (omega arith)
map-take-more f (y ∷ ys) zero x l is = ap (λ z. f z ∷ []) (sym is)
map-take-more f (y ∷ ys) (suc i) x l is = let e : suc i + 1 ≡ suc (i + 1) = omega arith in rw e (ap (λ zs. f y ∷ zs) (map-take-more f ys i x (omega arith) is))

pub map-split : {A B : Type 0} (f : A → B) (xs : List A) (i : ℕ) (x : A) → i < length xs → x ≡ get_or xs i x → map f xs ≡ map f (take i xs) ++ (f x ∷ map f (drop (i + 1) xs))
map-split f [] i x l is = absurd (omega arith)
map-split f (y ∷ ys) zero x l is = ap (λ z. f z ∷ map f ys) (sym is)
map-split f (y ∷ ys) (suc i) x l is = let e : suc i + 1 ≡ suc (i + 1) = omega arith in rw e (ap (λ zs. f y ∷ zs) (map-split f ys i x (omega arith) is))
