-- Factors by level, one more at a time.
use Rattle.std.proofs.Common.{◌≡◌, ◌<◌, ◌≤◌, ◌+◌, ℕ, zero, suc, true, false, List, [], ◌∷◌, ◌++◌, ◌||◌, not, length, refl, ap, sym, ◌∙◌, inl, inr, arith, cond, eqb, leb, zero-add}
use Rattle.std.proofs.lemmas.Bool.{cases_Bool, cases_eq, eqb-true, eqb-false, eq-eqb, ne_eqb, le-leb, lt-leb, leb-true, leb-false, or_parts, or_cases, not-true, not-false}
use Rattle.std.proofs.lemmas.List.{append-nil, append_assoc}
use Rattle.std.proofs.lemmas.List.Sums.{sum_by-append, sum_by-cons}
use Rattle.std.specs.List.{filter, flat_map, range_with_len, count_by, insert}
use Rattle.psa_model.specs.declared.limits.TheConstants.{MAX_MEMBERS}
use Rattle.psa_model.specs.declared.model.Factor.{Factor}
use Rattle.psa_names.specs.ModelOfDraft.{by_level}
use Rattle.psa_assembly.specs.Groups.{with_factor}
use Rattle.psa_bodies.proofs.NumberingInOrder.{filter-append}

abbrev at_level : ℕ → List Factor → List Factor
at_level level xs = filter (λ f. eqb f.level level) xs

abbrev in_levels : ℕ → ℕ → List Factor → List Factor
in_levels a n xs = flat_map (λ level. at_level level xs) (range_with_len a n)

abbrev up_to : ℕ → List Factor → ℕ
up_to v xs = count_by (λ f. leb f.level v) xs

other-level : (level : ℕ) (xs : List Factor) (x : Factor) → (x.level ≡ level → ⊥) → at_level level (xs ++ x ∷ []) ≡ at_level level xs
other-level level xs x apart =
    filter-append (λ f. eqb f.level level) xs (x ∷ [])
    ∙ ap (λ b. at_level level xs ++ cond b (x ∷ []) []) (ne_eqb x.level level apart)
    ∙ append-nil (at_level level xs)

own-level : (level : ℕ) (xs : List Factor) (x : Factor) → x.level ≡ level → at_level level (xs ++ x ∷ []) ≡ at_level level xs ++ x ∷ []
own-level level xs x same =
    filter-append (λ f. eqb f.level level) xs (x ∷ []) ∙ ap (λ b. at_level level xs ++ cond b (x ∷ []) []) (eq-eqb x.level level same)

outside : (a n : ℕ) (xs : List Factor) (x : Factor) → ((level : ℕ) → a ≤ level → level < a + n → x.level ≡ level → ⊥) → in_levels a n (xs ++ x ∷ []) ≡ in_levels a n xs
outside a zero xs x apart = refl
outside a (suc n) xs x apart =
    ap (λ fs. fs ++ in_levels (a + 1) n (xs ++ x ∷ [])) (other-level a xs x (apart a (omega arith) (omega arith)))
    ∙ ap (λ fs. at_level a xs ++ fs) (outside (a + 1) n xs x (λ level low high. apart level (omega (arith, low)) (omega (arith, high))))

count-level : (level v : ℕ) (xs : List Factor) → level ≤ v → up_to v (at_level level xs) ≡ length (at_level level xs)
count-level level v [] low = refl
count-level level v (x ∷ xs) low =
    elim (cases_Bool (eqb x.level level)) [
      | inl is ↦
          let same : x.level ≡ level = eqb-true x.level level is in
          let passes : leb x.level v ≡ true = le-leb x.level v (omega (arith, same, low)) in
          rw is (sum_by-cons (λ (f : Factor). cond (leb f.level v) 1 0) x (at_level level xs) ∙ rest passes (count-level level v xs low))
      | inr isnt ↦ rw isnt (count-level level v xs low)
    ]
  where
    rest : leb x.level v ≡ true → up_to v (at_level level xs) ≡ length (at_level level xs) → cond (leb x.level v) 1 0 + up_to v (at_level level xs) ≡ suc (length (at_level level xs))
    rest passes same = rw passes (omega (arith, same))

count-none : (level v : ℕ) (xs : List Factor) → v < level → up_to v (at_level level xs) ≡ 0
count-none level v [] high = refl
count-none level v (x ∷ xs) high =
    elim (cases_Bool (eqb x.level level)) [
      | inl is ↦
          let same : x.level ≡ level = eqb-true x.level level is in
          let fails : leb x.level v ≡ false = lt-leb x.level v (omega (arith, same, high)) in
          rw is (sum_by-cons (λ (f : Factor). cond (leb f.level v) 1 0) x (at_level level xs) ∙ rest fails (count-none level v xs high))
      | inr isnt ↦ rw isnt (count-none level v xs high)
    ]
  where
    rest : leb x.level v ≡ false → up_to v (at_level level xs) ≡ 0 → cond (leb x.level v) 1 0 + up_to v (at_level level xs) ≡ 0
    rest fails same = rw fails (omega (arith, same))

count-append : (v : ℕ) (xs ys : List Factor) → up_to v (xs ++ ys) ≡ up_to v xs + up_to v ys
count-append v xs ys = sum_by-append (λ (f : Factor). cond (leb f.level v) 1 0) xs ys

count-above : (a n v : ℕ) (xs : List Factor) → v < a → up_to v (in_levels a n xs) ≡ 0
count-above a zero v xs high = refl
count-above a (suc n) v xs high =
    let first = count-none a v xs high in
    let rest = count-above (a + 1) n v xs (omega (arith, high)) in
    let both = count-append v (at_level a xs) (in_levels (a + 1) n xs) in
    omega (arith, first, rest, both)

insert-behind : (fs rs : List Factor) (c : ℕ) (x : Factor) → insert (fs ++ rs) (length fs + c) x ≡ fs ++ insert rs c x
insert-behind [] rs c x = ap (λ m. insert rs m x) (zero-add c)
insert-behind (f ∷ fs) rs c x =
    let e : length (f ∷ fs) + c ≡ suc (length fs + c) = omega arith in
    ap (λ m. insert (f ∷ (fs ++ rs)) m x) e ∙ ap (λ zs. f ∷ zs) (insert-behind fs rs c x)

inside : (a n : ℕ) (xs : List Factor) (x : Factor) → a ≤ x.level → x.level < a + n → in_levels a n (xs ++ x ∷ []) ≡ insert (in_levels a n xs) (up_to x.level (in_levels a n xs)) x
inside a zero xs x low high = absurd (omega (arith, low, high))
inside a (suc n) xs x low high =
    elim (cases_eq x.level a) [
      | inl same ↦
          ap (λ fs. fs ++ in_levels (a + 1) n (xs ++ x ∷ [])) (own-level a xs x same)
          ∙ ap (λ fs. (at_level a xs ++ x ∷ []) ++ fs) (outside (a + 1) n xs x (λ level l h is. omega (arith, l, is, same)))
          ∙ append_assoc (at_level a xs) (x ∷ []) (in_levels (a + 1) n xs)
          ∙ sym (ap (λ m. insert (at_level a xs ++ in_levels (a + 1) n xs) m x)
          (count-append x.level (at_level a xs) (in_levels (a + 1) n xs)
          ∙ ap (λ m. m + up_to x.level (in_levels (a + 1) n xs)) (count-level a x.level xs low)
          ∙ ap (λ m. length (at_level a xs) + m) (count-above (a + 1) n x.level xs (omega (arith, same))))
          ∙ insert-behind (at_level a xs) (in_levels (a + 1) n xs) 0 x)
      | inr apart ↦
          ap (λ fs. fs ++ in_levels (a + 1) n (xs ++ x ∷ [])) (other-level a xs x apart)
          ∙ ap (λ fs. at_level a xs ++ fs) (inside (a + 1) n xs x (omega (arith, low, apart)) (omega (arith, high)))
          ∙ sym (ap (λ m. insert (at_level a xs ++ in_levels (a + 1) n xs) m x)
          (count-append x.level (at_level a xs) (in_levels (a + 1) n xs)
          ∙ ap (λ m. m + up_to x.level (in_levels (a + 1) n xs)) (count-level a x.level xs low))
          ∙ insert-behind (at_level a xs) (in_levels (a + 1) n xs) (up_to x.level (in_levels (a + 1) n xs)) x)
    ]

-- one more factor
pub one-more-level : (xs : List Factor) (x : Factor) → by_level (xs ++ x ∷ []) ≡ with_factor (by_level xs) x
one-more-level xs x =
    elim (cases_Bool (eqb x.level 0 || not (leb x.level MAX_MEMBERS))) [
      | inl out ↦ rw out (outside 1 8 xs x (λ level low high is. far out level low high is))
      | inr within ↦
          let both = or_parts (eqb x.level 0) (not (leb x.level MAX_MEMBERS)) within in
          let some = eqb-false x.level 0 both.0 in
          let few : x.level ≤ 8 = leb-true x.level 8 (not-false (leb x.level 8) both.1) in
          rw within (inside 1 8 xs x (omega (arith, some)) (omega (arith, few)))
    ]
  where
    far : (eqb x.level 0 || not (leb x.level MAX_MEMBERS)) ≡ true → (level : ℕ) → 1 ≤ level → level < 1 + 8 → x.level ≡ level → ⊥
    far out level low high is =
        elim (or_cases (eqb x.level 0) (not (leb x.level MAX_MEMBERS)) out) [
          | inl none ↦ let e = eqb-true x.level 0 none in omega (arith, e, low, is)
          | inr many ↦ let e = leb-false x.level 8 (not-true (leb x.level 8) many) in omega (arith, e, high, is)
        ]
