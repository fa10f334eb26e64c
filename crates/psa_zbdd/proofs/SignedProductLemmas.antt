-- Signed products: their literals of events that occur, and where they hold.
use Rattle.std.proofs.Common.{◌≡◌, ℕ, ◌*◌, ◌/◌, ◌%◌, ◌<◌, ◌≤◌, ◌==◌, ◌||◌, Bool, true, false, not, nat_lt, List, [], ◌∷◌, length, map, filter, if◌then◌else◌, refl, sym, ap, ◌∙◌, inl, inr, arith}
use Rattle.std.proofs.lemmas.List.{length-map}
use Rattle.std.specs.List.{list_all}
use Rattle.std.proofs.lemmas.Bool.{false≢true, and_parts, and_from, lt-ltb, ltb-true, eq-eqb, ne_eqb}
use Rattle.std.proofs.lemmas.Bool.Decides.{eqb_tells}
use Rattle.psa_logic.specs.Sets.{all_above, is_ascending, is_part, occurs, Has}
use Rattle.psa_logic.specs.Products.{rank_of, is_positive, positive_product, holds_at}
use Rattle.psa_logic.proofs.PartLemmas.{part-skip, part-cons, part-le, part-ascending, part-has, part-from_has, occurs-has, has-occurs}
use Rattle.psa_logic.proofs.LiteralLemmas.{holds-each, holds-part, consistent-holds, holds-consistent, positive-literal, rank-literal}
use Rattle.psa_zbdd.specs.GraphFamilies.{IsSignedProduct, IsSignedImplicant, IsCuttingProduct}

-- the ranks of the events that occur in a product
abbrev pub events : List ℕ → List ℕ
events product = map (λ literal. rank_of literal) (filter is_positive product)

-- what holds of each literal of a product holds of each one in it
pub all-each : (p : ℕ → Bool) (l : List ℕ) → list_all p l ≡ true → (x : ℕ) → Has l x → p x ≡ true
all-each p [] h x m = absurd m
all-each p (y ∷ ys) h x m =
    let parts = and_parts (p y) (list_all p ys) h in
    elim m [ inl e ↦ ap p (sym e) ∙ parts.0 | inr r ↦ all-each p ys parts.1 x r ]

pub all-from : (p : ℕ → Bool) (l : List ℕ) → ((x : ℕ) → Has l x → p x ≡ true) → list_all p l ≡ true
all-from p [] each = refl
all-from p (y ∷ ys) each = and_from (p y) (list_all p ys) (each y (inl refl)) (all-from p ys (λ x m. each x (inr m)))

-- the literals of events that occur are a part
pub filter-part : (p : ℕ → Bool) (l : List ℕ) → is_part (filter p l) l ≡ true
filter-part p [] = refl
filter-part p (x ∷ xs) = by (filter-part p xs) (p x) refl
  where
    by : is_part (filter p xs) xs ≡ true → (b : Bool) → p x ≡ b → is_part (filter p (x ∷ xs)) (x ∷ xs) ≡ true
    by rest true e = rw e (part-cons x (filter p xs) xs rest)
    by rest false e = rw e (part-skip xs x (filter p xs) rest)

-- and have no others among them
pub filter-twice : (p : ℕ → Bool) (l : List ℕ) → filter p (filter p l) ≡ filter p l
filter-twice p [] = refl
filter-twice p (x ∷ xs) = by (filter-twice p xs) (p x) refl
  where
    by : filter p (filter p xs) ≡ filter p xs → (b : Bool) → p x ≡ b → filter p (filter p (x ∷ xs)) ≡ filter p (x ∷ xs)
    by rest true e = rw e (rw e (ap (λ (l : List ℕ). x ∷ l) rest))
    by rest false e = rw e rest

even-of : (x : ℕ) → is_positive x ≡ true → x % 2 ≡ 0
even-of x h = elim (eqb_tells (x % 2) 0) [ inl p ↦ p.1 | inr p ↦ absurd (false≢true (sym p.0 ∙ h)) ]

odd-of : (x : ℕ) → is_positive x ≡ false → x % 2 ≡ 1
odd-of x h = elim (eqb_tells (x % 2) 0) [
  | inl p ↦ absurd (false≢true (sym h ∙ p.0))
  | inr p ↦ let ne = p.1 in omega arith
]

-- so they are the product of their events
pub events-product : (l : List ℕ) → filter is_positive l ≡ positive_product (events l)
events-product [] = refl
events-product (x ∷ xs) = by (events-product xs) (is_positive x) refl
  where
    whole : is_positive x ≡ true → x ≡ 2 * (x / 2)
    whole e = let even = even-of x e in omega arith

    by : filter is_positive xs ≡ positive_product (events xs) → (b : Bool) → is_positive x ≡ b → filter is_positive (x ∷ xs) ≡ positive_product (events (x ∷ xs))
    by rest true e = rw e (ap (λ (l : List ℕ). x ∷ l) rest ∙ ap (λ (y : ℕ). y ∷ positive_product (events xs)) (whole e))
    by rest false e = rw e rest

halves : (x y : ℕ) → x % 2 ≡ 0 → y % 2 ≡ 0 → x < y → x / 2 < y / 2
halves x y ex ey lt = omega arith

events-above : (x : ℕ) (l : List ℕ) → x % 2 ≡ 0 → all_above x l ≡ true → all_above (rank_of x) (events l) ≡ true
events-above x [] even h = refl
events-above x (y ∷ ys) even h = by (events-above x ys even (and_parts (nat_lt x y) (all_above x ys) h).1) (is_positive y) refl
  where
    by : all_above (rank_of x) (events ys) ≡ true → (b : Bool) → is_positive y ≡ b → all_above (rank_of x) (events (y ∷ ys)) ≡ true
    by rest true e =
        let lt : x < y = ltb-true x y (and_parts (nat_lt x y) (all_above x ys) h).0 in
        rw e (and_from (nat_lt (rank_of x) (rank_of y)) (all_above (rank_of x) (events ys)) (lt-ltb (rank_of x) (rank_of y) (halves x y even (even-of y e) lt)) rest)
    by rest false e = rw e rest

-- the events of a product are a set
pub events-ascending : (l : List ℕ) → is_ascending l ≡ true → is_ascending (events l) ≡ true
events-ascending [] h = refl
events-ascending (x ∷ xs) h = by (events-ascending xs (and_parts (all_above x xs) (is_ascending xs) h).1) (is_positive x) refl
  where
    by : is_ascending (events xs) ≡ true → (b : Bool) → is_positive x ≡ b → is_ascending (events (x ∷ xs)) ≡ true
    by rest true e =
        rw e (and_from (all_above (rank_of x) (events xs)) (is_ascending (events xs))
        (events-above x xs (even-of x e) (and_parts (all_above x xs) (is_ascending xs) h).0) rest)
    by rest false e = rw e rest

-- an event is among them where its literal stands
pub events-occurs : (l : List ℕ) (rank : ℕ) → occurs (events l) rank ≡ occurs l (2 * rank)
events-occurs [] rank = refl
events-occurs (x ∷ xs) rank = by (events-occurs xs rank) (is_positive x) refl
  where
    same : x % 2 ≡ 0 → (rank_of x == rank) ≡ (x == 2 * rank)
    same even = elim (eqb_tells x (2 * rank)) [
      | inl p ↦ rw p.0 (eq-eqb (x / 2) rank (let e = p.1 in omega arith))
      | inr p ↦ rw p.0 (ne_eqb (x / 2) rank (λ e. p.1 (omega (arith, e, even))))
    ]

    other : x % 2 ≡ 1 → (x == 2 * rank) ≡ false
    other odd = ne_eqb x (2 * rank) (λ e. omega (arith, e, odd))

    by : occurs (events xs) rank ≡ occurs xs (2 * rank) → (b : Bool) → is_positive x ≡ b → occurs (events (x ∷ xs)) rank ≡ occurs (x ∷ xs) (2 * rank)
    by rest true e = rw e (ap (λ b. b || occurs (events xs) rank) (same (even-of x e)) ∙ ap (λ b. (x == 2 * rank) || b) rest)
    by rest false e = rw e (rest ∙ ap (λ b. b || occurs xs (2 * rank)) (sym (other (odd-of x e))))

-- an implicant's events are a cut set
pub events-cut : (width limit : ℕ) (f : (ℕ → Bool) → Bool) (product : List ℕ) → IsSignedImplicant width limit f product → f (occurs (events product)) ≡ true
events-cut width limit f product i =
    ap f (λ k rank. events-occurs product rank k) ∙ i.1 (λ rank. occurs product (2 * rank)) (consistent-holds product i.0.consistent)

-- of at most as many
pub events-length : (product : List ℕ) → length (events product) ≡ length (filter is_positive product)
events-length product = length-map (filter is_positive product) (λ literal. rank_of literal)

-- where a product holds its events occur
pub held-events : (s : ℕ → Bool) (product : List ℕ) → holds_at s product ≡ true → (rank : ℕ) → occurs (events product) rank ≡ true → s rank ≡ true
held-events s product h rank o =
    let there : Has product (2 * rank) = occurs-has product (2 * rank) (sym (events-occurs product rank) ∙ o) in
    let held = holds-each s product h (2 * rank) there in
    sym (ap s (rank-literal rank true)) ∙ sym (ap (λ b. if b then s (rank_of (2 * rank)) else not (s (rank_of (2 * rank)))) (positive-literal rank true)) ∙ held

-- so they are a part of the set at which it holds
pub held-part : (set product : List ℕ) → is_ascending set ≡ true → is_ascending product ≡ true → holds_at (occurs set) product ≡ true → is_part (events product) set ≡ true
held-part set product first second h =
    part-from_has (events product) set (events-ascending product second) first
    (λ rank m. occurs-has set rank (held-events (occurs set) product h rank (has-occurs (events product) rank m)))

-- and no more than that has
pub held-within : (set product : List ℕ) → is_ascending set ≡ true → is_ascending product ≡ true → holds_at (occurs set) product ≡ true → length (filter is_positive product) ≤ length set
held-within set product first second h =
    let le = part-le (events product) set (held-part set product first second h) in
    let e = events-length product in
    omega (arith, le, e)

-- the positive part of a signed product is one
pub positive-signed : (width limit : ℕ) (product : List ℕ) → IsSignedProduct width limit product → IsSignedProduct width limit (filter is_positive product)
positive-signed width limit product p = record {
  ranked = all-from (λ literal. nat_lt (rank_of literal) width) (filter is_positive product) (λ x m. all-each (λ literal. nat_lt (rank_of literal) width) product p.ranked x (part-has (filter is_positive product) product x part m));
  ascending = ascends;
  consistent = holds-consistent (λ rank. occurs product (2 * rank)) (filter is_positive product) ascends
      (holds-part (λ rank. occurs product (2 * rank)) (filter is_positive product) product part (consistent-holds product p.consistent));
  within = let e = ap (λ (l : List ℕ). length l) (filter-twice is_positive product) in let w = p.within in omega (arith, e, w);
}
  where
    part : is_part (filter is_positive product) product ≡ true
    part = filter-part is_positive product

    ascends : is_ascending (filter is_positive product) ≡ true
    ascends = part-ascending (filter is_positive product) product part p.ascending

-- and that of an implicant is the product of a cut set
pub positive-cuts : (width limit : ℕ) (f : (ℕ → Bool) → Bool) (product : List ℕ) → IsSignedImplicant width limit f product → IsCuttingProduct f (filter is_positive product)
positive-cuts width limit f product i = (events product, events-product product, events-cut width limit f product i)
