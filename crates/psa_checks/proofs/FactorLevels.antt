-- The levels of a group's factors are those of its model.
use Rattle.std.proofs.Common.{◌≡◌, inl, inr, ◌≤◌, ◌<◌, ◌+◌, ◌-◌, ◌==◌, ℕ, zero, suc, Bool, true, false, cond, List, [], ◌∷◌, Option, Some, None, map, length, replicate, refl, sym, ap, ap₂, ◌∙◌, subst, one-add, arith}
use Rattle.std.proofs.lemmas.Bool.{false≢true, and_parts, eqb-true, eq-eqb, cases_Bool, cases_eq, ne_eqb, false_from_ne_true}
use Rattle.std.proofs.lemmas.List.Sums.{sum_by-cons}
use Rattle.std.specs.Prelude.{unwrap_or}
use Rattle.std.specs.List.{list_all, list_any, filter, flat_map, count_by, range_with_len}
use Rattle.std.specs.Option.{option_map_or}
use Rattle.psa_model.specs.declared.draft.DraftFactor.{DraftFactor}
use Rattle.psa_model.specs.declared.limits.TheConstants.{MIN_MEMBERS, MAX_MEMBERS}
use Rattle.psa_model.specs.declared.model.Factor.{Factor}
use Rattle.psa_model.specs.declared.model.GroupModel.{GroupModel}
use Rattle.psa_model.specs.declared.model.GroupModel.TheVariants.{Beta, Mgl, Alpha}
use Rattle.psa_model.specs.Models.{levels_of}
use Rattle.psa_names.specs.GroupRules.{level_in, has_level, has_levels}
use Rattle.psa_names.specs.ModelOfDraft.{by_level}
use Rattle.psa_names.proofs.ListPlaces.{Has, has-none, has-first, has-later, has-cases, has-any, any-from, all-at}
use Rattle.psa_checks.proofs.BasicEvents.{map-flat, flat-same}
use Rattle.psa_names.proofs.Sums.{weigh, weigh-same, weigh-sum, one_if}

count-weigh : {A : Type 0} (p : A → Bool) (xs : List A) → count_by p xs ≡ weigh (λ x. one_if (p x)) xs
count-weigh p [] = refl
count-weigh p (x ∷ xs) = sum_by-cons (λ x. cond (p x) 1 0) x xs ∙ ap (λ n. one_if (p x) + n) (count-weigh p xs)

-- ---- sums of sums

weigh-none : {A : Type 0} (xs : List A) → weigh (λ x. 0) xs ≡ 0
weigh-none [] = refl
weigh-none (x ∷ xs) = let rest = weigh-none xs in omega (arith, rest)

exchange : {A B : Type 0} (h : A → B → ℕ) (xs : List A) (ys : List B)
    → weigh (λ x. weigh (λ y. h x y) ys) xs ≡ weigh (λ y. weigh (λ x. h x y) xs) ys
exchange h [] ys = sym (weigh-none ys)
exchange h (x ∷ xs) ys = ap (λ n. weigh (λ y. h x y) ys + n) (exchange h xs ys)
    ∙ sym (weigh-sum (λ y. h x y) (λ y. weigh (λ z. h z y) xs) ys)

weigh-most : {A : Type 0} (f : A → ℕ) → ((x : A) → f x ≤ 1) → (xs : List A) → weigh f xs ≤ length xs
weigh-most f most [] = omega arith
weigh-most f most (x ∷ xs) = let here = most x in let rest = weigh-most f most xs in omega (arith, here, rest)

-- where each weighs at most one and all weigh as many as they are, each weighs one
each-one : {A : Type 0} (f : A → ℕ) → ((x : A) → f x ≤ 1) → (xs : List A) → weigh f xs ≡ length xs → (x : A)
    → Has xs x → f x ≡ 1
each-one f most [] h x here = absurd (has-none x here)
each-one {A} f most (y ∷ xs) h x here =
    let first = most y in
    let rest = weigh-most f most xs in
    elim (has-cases y x xs here) [
      | inl same ↦ let one : f y ≡ 1 = omega (arith, first, rest, h) in ap f (sym same) ∙ one
      | inr later ↦ each-one f most xs (omega (arith, first, rest, h)) x later
    ]

ones : {A : Type 0} (f : A → ℕ) (xs : List A) → list_all (λ x. f x == 1) xs ≡ true → weigh f xs ≡ length xs
ones f [] h = refl
ones f (x ∷ xs) h =
    let parts = and_parts (f x == 1) (list_all (λ y. f y == 1) xs) h in
    let here = eqb-true (f x) 1 parts.0 in
    let rest = ones f xs parts.1 in
    omega (arith, here, rest)

some-one : {A : Type 0} (p : A → Bool) (xs : List A) → weigh (λ x. one_if (p x)) xs ≡ 1
    → (x : A) × Has xs x × (p x ≡ true)
some-one p [] h = absurd (omega (arith, h))
some-one p (x ∷ xs) h = elim (cases_Bool (p x)) [
  | inl here ↦ (x, has-first x xs, here)
  | inr fails ↦
      let zero_here : one_if (p x) ≡ 0 = rw fails refl in
      let r = some-one p xs (omega (arith, h, zero_here)) in
      (r.0, has-later x r.0 xs r.1, r.2)
]

-- ---- levels

-- a level stands at most once in a range
once : (v a n : ℕ) → (weigh (λ level. one_if (v == level)) (range_with_len a n) ≤ 1)
    × (v < a → weigh (λ level. one_if (v == level)) (range_with_len a n) ≡ 0)
once v a zero = (omega arith, λ l. refl)
once v a (suc n) =
    let rest = once v (a + 1) n in
    let few = rest.0 in
    elim (cases_eq v a) [
      | inl same ↦
          let none = rest.1 (omega (arith, same)) in
          let here : one_if (v == a) ≡ 1 = rw (eq-eqb v a same) refl in
          (omega (arith, none, here), λ l. absurd (omega (arith, same, l)))
      | inr apart ↦
          let here : one_if (v == a) ≡ 0 = rw (ne_eqb v a apart) refl in
          (omega (arith, few, here), λ l. (let none = rest.1 (omega (arith, l)) in omega (arith, none, here)))
    ]

once-in : (model : GroupModel) (members v : ℕ) → weigh (λ level. one_if (v == level)) (levels_of model members) ≤ 1
once-in Beta members v = elim (cases_Bool (v == members)) [
  | inl same ↦ let here : one_if (v == members) ≡ 1 = rw same refl in omega (arith, here)
  | inr apart ↦ let here : one_if (v == members) ≡ 0 = rw apart refl in omega (arith, here)
]
once-in Mgl members v = (once v 2 (members - 1)).0
once-in Alpha members v = (once v 1 members).0

most-once : (model : GroupModel) (members : ℕ) (o : Option ℕ)
    → weigh (λ level. one_if (option_map_or (λ its. its == level) o false)) (levels_of model members) ≤ 1
most-once model members None = let none = weigh-none (levels_of model members) in omega (arith, none)
most-once model members (Some v) = once-in model members v

-- each factor has a level of the model
each-level : (model : GroupModel) (members : ℕ) (factors : List DraftFactor) → has_levels model members factors ≡ true
    → (factor : DraftFactor) → Has factors factor
    → (level : ℕ) × Has (levels_of model members) level × (has_level model members level factor ≡ true)
each-level model members factors h factor here =
    let levels = levels_of model members in
    let parts = and_parts (length factors == length levels) _ h in
    let number = eqb-true (length factors) (length levels) parts.0 in
    let counted = ones (λ level. count_by (has_level model members level) factors) levels parts.1 in
    let each = weigh-same (λ level. count_by (has_level model members level) factors)
    (λ level. weigh (λ f. one_if (has_level model members level f)) factors)
    (λ level. count-weigh (has_level model members level) factors) levels in
    let other = exchange (λ (f : DraftFactor) (level : ℕ). one_if (has_level model members level f)) factors levels in
    let all : weigh (λ f. weigh (λ level. one_if (has_level model members level f)) levels) factors ≡ length factors =
    other ∙ sym each ∙ counted ∙ sym number in
    let one = each-one (λ f. weigh (λ level. one_if (has_level model members level f)) levels)
    (λ f. most-once model members (level_in model members f)) factors all factor here in
    some-one (λ level. has_level model members level factor) levels one

-- the level of a factor in the model
level-says : (model : GroupModel) (members : ℕ) (factor : DraftFactor) (v : ℕ)
    → level_in model members factor ≡ Some v → unwrap_or factor.level members ≡ v
level-says Beta members factor v h = cc
level-says Mgl members factor v h = ap (λ o. unwrap_or o members) h
level-says Alpha members factor v h = ap (λ o. unwrap_or o members) h

-- where a factor has some level, it has it in the model, and no other
same-level : (model : GroupModel) (members : ℕ) (factor : DraftFactor) (level : ℕ)
    → has_level model members level factor ≡ true → (other : ℕ)
    → (unwrap_or factor.level members == other) ≡ has_level model members other factor
same-level model members factor level h other = by_level_in (level_in model members factor) refl h
  where
    by_level_in : (o : Option ℕ) → level_in model members factor ≡ o
        → option_map_or (λ its. its == level) o false ≡ true
        → (unwrap_or factor.level members == other) ≡ has_level model members other factor
    by_level_in None at k = absurd (false≢true k)
    by_level_in (Some v) at k = ap (λ (n : ℕ). n == other) (level-says model members factor v at)
        ∙ ap (λ (o : Option ℕ). option_map_or (λ its. its == other) o false) (sym at)

-- ---- the factors of the model

kept-levels : (make : DraftFactor → Factor) (hit : DraftFactor → Bool) (level : ℕ) (factors : List DraftFactor)
    → ((f : DraftFactor) → Has factors f → ((make f).level == level) ≡ hit f)
    → map (λ (f : Factor). f.level) (filter (λ f. f.level == level) (map make factors)) ≡ replicate
    (weigh (λ f. one_if (hit f)) factors) level
kept-levels make hit level [] same = refl
kept-levels make hit level (f ∷ factors) same =
    let rest = kept-levels make hit level factors (λ g later. same g (has-later f g factors later)) in
    let here = same f (has-first f factors) in
    elim (cases_Bool (hit f)) [
      | inl hits ↦
          let passes : ((make f).level == level) ≡ true = here ∙ hits in
          rw passes (rw hits (ap₂ (λ (n : ℕ) (ns : List ℕ). n ∷ ns) (eqb-true (make f).level level passes) rest
          ∙ ap (λ (n : ℕ). replicate n level) (sym (one-add (weigh (λ g. one_if (hit g)) factors)))))
      | inr misses ↦
          let fails : ((make f).level == level) ≡ false = here ∙ misses in
          rw fails (rw misses (rest ∙ ap (λ (n : ℕ). replicate n level)
          (zero_front (weigh (λ g. one_if (hit g)) factors))))
    ]
  where
    zero_front : (n : ℕ) → n ≡ 0 + n
    zero_front n = omega arith

no-hit : (p : DraftFactor → Bool) (factors : List DraftFactor) → ((f : DraftFactor) → Has factors f → p f ≡ false)
    → weigh (λ f. one_if (p f)) factors ≡ 0
no-hit p [] none = refl
no-hit p (f ∷ factors) none =
    let here : one_if (p f) ≡ 0 = rw (none f (has-first f factors)) refl in
    let rest = no-hit p factors (λ g later. none g (has-later f g factors later)) in
    omega (arith, here, rest)

hits-one : (model : GroupModel) (members : ℕ) (factors : List DraftFactor) → has_levels model members factors ≡ true
    → (level : ℕ) → weigh (λ f. one_if (has_level model members level f)) factors ≡ one_if
    (list_any (λ x. x == level) (levels_of model members))
hits-one model members factors h level =
    let levels = levels_of model members in
    let parts = and_parts (length factors == length levels) _ h in
    elim (cases_Bool (list_any (λ x. x == level) levels)) [
      | inl there ↦
          let r = any-from (λ x. x == level) levels there in
          let same = eqb-true r.0 level r.2 in
          let count = eqb-true _ 1 (all-at (λ l. count_by (has_level model members l) factors == 1)
          levels r.0 parts.1 r.1) in
          let one : count_by (has_level model members level) factors ≡ 1 =
          subst (λ (l : ℕ). count_by (has_level model members l) factors ≡ 1) same count in
          rw there (sym (count-weigh (has_level model members level) factors) ∙ one)
      | inr absent ↦
          rw absent (no-hit (has_level model members level) factors
          (λ f here. false_from_ne_true (has_level model members level f) (λ hits.
          (let r = each-level model members factors h f here in
          let own = same-level model members f level hits level ∙ hits in
          let its = same-level model members f level hits r.0 ∙ r.2 in
          let equal = sym (eqb-true _ r.0 its) ∙ eqb-true _ level own in
          false≢true (sym absent ∙ has-any (λ x. x == level) levels r.0 r.1 (eq-eqb r.0 level equal))))))
    ]

small : (P : ℕ → Type 0) → P 2 → P 3 → P 4 → P 5 → P 6 → P 7 → P 8 → (n : ℕ) → 2 ≤ n → n ≤ 8 → P n
small P p2 p3 p4 p5 p6 p7 p8 zero l u = absurd (omega (arith, l))
small P p2 p3 p4 p5 p6 p7 p8 (suc zero) l u = absurd (omega (arith, l))
small P p2 p3 p4 p5 p6 p7 p8 (suc (suc zero)) l u = p2
small P p2 p3 p4 p5 p6 p7 p8 (suc (suc (suc zero))) l u = p3
small P p2 p3 p4 p5 p6 p7 p8 (suc (suc (suc (suc zero)))) l u = p4
small P p2 p3 p4 p5 p6 p7 p8 (suc (suc (suc (suc (suc zero))))) l u = p5
small P p2 p3 p4 p5 p6 p7 p8 (suc (suc (suc (suc (suc (suc zero)))))) l u = p6
small P p2 p3 p4 p5 p6 p7 p8 (suc (suc (suc (suc (suc (suc (suc zero))))))) l u = p7
small P p2 p3 p4 p5 p6 p7 p8 (suc (suc (suc (suc (suc (suc (suc (suc zero)))))))) l u = p8
small P p2 p3 p4 p5 p6 p7 p8 (suc (suc (suc (suc (suc (suc (suc (suc (suc n))))))))) l u = absurd (omega (arith, u))

among-levels : (model : GroupModel) (members : ℕ) → MIN_MEMBERS ≤ members → members ≤ MAX_MEMBERS
    → flat_map (λ level. replicate (one_if (list_any (λ x. x == level) (levels_of model members))) level)
    (range_with_len 1 MAX_MEMBERS) ≡ levels_of model members
among-levels Beta members l u = small (λ n. flat_map
    (λ level. replicate (one_if (list_any (λ x. x == level) (levels_of Beta n))) level) (range_with_len 1 MAX_MEMBERS)
    ≡ levels_of Beta n) refl refl refl refl refl refl refl members l u
among-levels Mgl members l u = small (λ n. flat_map
    (λ level. replicate (one_if (list_any (λ x. x == level) (levels_of Mgl n))) level) (range_with_len 1 MAX_MEMBERS)
    ≡ levels_of Mgl n) refl refl refl refl refl refl refl members l u
among-levels Alpha members l u = small (λ n. flat_map
    (λ level. replicate (one_if (list_any (λ x. x == level) (levels_of Alpha n))) level)
    (range_with_len 1 MAX_MEMBERS) ≡ levels_of Alpha n) refl refl refl refl refl refl refl members l u

-- the levels of the factors of a group with the levels of its model
pub model-levels : (model : GroupModel) (members : ℕ) (factors : List DraftFactor) (make : DraftFactor → Factor)
    → ((f : DraftFactor) → (make f).level ≡ unwrap_or f.level members) → has_levels model members factors ≡ true
    → MIN_MEMBERS ≤ members → members ≤ MAX_MEMBERS
    → map (λ (f : Factor). f.level) (by_level (map make factors)) ≡ levels_of model members
model-levels model members factors make says h least most =
    map-flat (λ (f : Factor). f.level) (λ level. filter (λ f. f.level == level) (map make factors))
    (range_with_len 1 MAX_MEMBERS)
    ∙ flat-same _ (λ level. replicate (one_if (list_any (λ x. x == level) (levels_of model members))) level) (λ level.
    kept-levels make (has_level model members level) level factors (λ f here.
    (let r = each-level model members factors h f here in
    ap (λ (n : ℕ). n == level) (says f) ∙ same-level model members f r.0 r.2 level))
    ∙ ap (λ (n : ℕ). replicate n level) (hits-one model members factors h level)) (range_with_len 1 MAX_MEMBERS)
    ∙ among-levels model members least most
