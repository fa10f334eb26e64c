-- The rounded Taylor sums bracket the exact ones, all in natural numbers.
use Rattle.std.proofs.Common.{ℕ, zero, suc, ◌≡◌, ◌+◌, ◌-◌, ◌*◌, ◌/◌, ◌^◌, ◌<◌, ◌≤◌, Bool, true, false, ◌⊎◌, inl, inr, ⊎_elim, min, nat_le, nat_lt, refl, ap, subst, cond, arith, ◌&&◌, le_refl, le_trans, leb-true, ltb-false, add-one, ◌∙◌, le-leb}
use Rattle.std.proofs.Math.Nat.{mul-le-mul_left, mul-le-mul_right, div-mul-le_self, div-le_of_le-mul, le_of_mul-le-mul_right}
use Rattle.std.proofs.lemmas.Nat.{mul-le}
use Rattle.std.proofs.lemmas.Bool.{cases_lt}
use Rattle.std.proofs.lemmas.Grind.{div_ceil_times}
use Rattle.std.specs.Int.{div_ceil}
use Rattle.psa_number.specs.Units.{units}
use Rattle.psa_number.specs.Exponential.{power, denominator, numerator, lower_term, lower_sum, upper_term, upper_sum, may_end, first_from, last_place, last_term, closed_sum, greatest_place, lower_end, upper_end, lower_end_at, upper_end_at}

-- ---- each term, and each sum of the same number of terms
lower_step : (t p k n d dk nk : ℕ) → p * d ≤ n * units → t * dk ≤ units * nk → t * p / (suc k * units) * (dk * (d * suc k)) ≤ units * (nk * n)
lower_step t p k n d dk nk below term =
    let next : ℕ = t * p / (suc k * units) in
    let h1 : next * (suc k * units) ≤ t * p = div-mul-le_self (t * p) (suc k * units) in
    let h2 : (next * (suc k * units)) * (dk * d) ≤ (t * p) * (dk * d) = mul-le-mul_right (dk * d) h1 in
    let h3 : (t * dk) * (p * d) ≤ (units * nk) * (p * d) = mul-le-mul_right (p * d) term in
    let h4 : (units * nk) * (p * d) ≤ (units * nk) * (n * units) = mul-le-mul_left (units * nk) below in
    omega (arith, h2, h3, h4)

-- A term rounded down, at no more than the exact place, is at most the exact term.
pub lower_term_below : (p n d k : ℕ) → p * d ≤ n * units → lower_term p k * denominator d k ≤ units * power n k
unfolding lower_term denominator power
lower_term_below p n d zero below = omega arith
lower_term_below p n d (suc k) below = lower_step (lower_term p k) p k n d (denominator d k) (power n k) below (lower_term_below p n d k below)

sum_step : (s t u w n d dk k pk : ℕ) → s * dk ≤ u * n → t * (dk * (d * suc k)) ≤ u * pk → (s + t) * (dk * (d * suc k)) ≤ u * (n * (d * suc k) + pk)
sum_step s t u w n d dk k pk h1 h2 =
    let h3 : (s * dk) * (d * suc k) ≤ (u * n) * (d * suc k) = mul-le-mul_right (d * suc k) h1 in
    omega (arith, h2, h3)

-- A sum of terms rounded down, at no more than the exact place, is at most the exact sum.
pub lower_sum_below : (p n d k : ℕ) → p * d ≤ n * units → lower_sum p k * denominator d k ≤ units * numerator n d k
unfolding lower_sum denominator numerator
lower_sum_below p n d zero below = omega arith
lower_sum_below p n d (suc k) below =
    let term : lower_term p (suc k) * (denominator d k * (d * suc k)) ≤ units * power n (suc k) = unfold denominator in lower_term_below p n d (suc k) below in
    sum_step (lower_sum p k) (lower_term p (suc k)) units 0 (numerator n d k) d (denominator d k) k (power n (suc k)) (lower_sum_below p n d k below) term

upper_step : (t q k n d dk nk : ℕ) → n * units ≤ q * d → units * nk ≤ t * dk → units * (nk * n) ≤ div_ceil (t * q) (suc k * units) * (dk * (d * suc k))
upper_step t q k n d dk nk above term =
    let next : ℕ = div_ceil (t * q) (suc k * units) in
    let some : 0 < suc k * units = omega arith in
    let h1 : t * q ≤ next * (suc k * units) = (div_ceil_times (t * q) (suc k * units) some).0 in
    let h2 : (t * q) * (dk * d) ≤ (next * (suc k * units)) * (dk * d) = mul-le-mul_right (dk * d) h1 in
    let h3 : (units * nk) * (q * d) ≤ (t * dk) * (q * d) = mul-le-mul_right (q * d) term in
    let h4 : (units * nk) * (n * units) ≤ (units * nk) * (q * d) = mul-le-mul_left (units * nk) above in
    omega (arith, h2, h3, h4)

-- A term rounded up, at no less than the exact place, is at least the exact term.
pub upper_term_above : (q n d k : ℕ) → n * units ≤ q * d → units * power n k ≤ upper_term q k * denominator d k
unfolding upper_term denominator power
upper_term_above q n d zero above = omega arith
upper_term_above q n d (suc k) above = upper_step (upper_term q k) q k n d (denominator d k) (power n k) above (upper_term_above q n d k above)

sum_step_up : (s t u n d dk k pk : ℕ) → u * n ≤ s * dk → u * pk ≤ t * (dk * (d * suc k)) → u * (n * (d * suc k) + pk) ≤ (s + t) * (dk * (d * suc k))
sum_step_up s t u n d dk k pk h1 h2 =
    let h3 : (u * n) * (d * suc k) ≤ (s * dk) * (d * suc k) = mul-le-mul_right (d * suc k) h1 in
    omega (arith, h2, h3)

-- A sum of terms rounded up, at no less than the exact place, is at least the exact sum.
pub upper_sum_above : (q n d k : ℕ) → n * units ≤ q * d → units * numerator n d k ≤ upper_sum q k * denominator d k
unfolding upper_sum denominator numerator
upper_sum_above q n d zero above = omega arith
upper_sum_above q n d (suc k) above =
    let term : units * power n (suc k) ≤ upper_term q (suc k) * (denominator d k * (d * suc k)) = unfold denominator in upper_term_above q n d (suc k) above in
    sum_step_up (upper_sum q k) (upper_term q (suc k)) units (numerator n d k) d (denominator d k) k (power n (suc k)) (upper_sum_above q n d k above) term

-- ---- more terms
-- `more` places after place k
unfoldable pub later : ℕ → ℕ → ℕ
later k zero = k
later k (suc more) = suc (later k more)

-- The place `more` after place k is k + more.
pub later_is : (k more : ℕ) → later k more ≡ k + more
unfolding later
later_is k zero = omega arith
later_is k (suc more) = omega (arith, later_is k more)

longer_step : (s u n d dk k pk : ℕ) → s * dk ≤ u * n → s * (dk * (d * suc k)) ≤ u * (n * (d * suc k) + pk)
longer_step s u n d dk k pk h1 =
    let h3 : (s * dk) * (d * suc k) ≤ (u * n) * (d * suc k) = mul-le-mul_right (d * suc k) h1 in
    omega (arith, h3)

-- a sum that is at most the exact one is at most each longer one
pub lower_sum_longer : (s n d k more : ℕ) → s * denominator d k ≤ units * numerator n d k → s * denominator d (later k more) ≤ units * numerator n d (later k more)
unfolding later denominator numerator
lower_sum_longer s n d k zero h = h
lower_sum_longer s n d k (suc more) h = longer_step s units (numerator n d (later k more)) d (denominator d (later k more)) (later k more) (power n (suc (later k more))) (lower_sum_longer s n d k more h)

tail_step : (c n d dk j nk pk : ℕ) → 2 * n ≤ d * suc j → units * nk + units * pk ≤ c * dk → units * (nk * (d * suc j) + pk * n) + units * (pk * n) ≤ c * (dk * (d * suc j))
tail_step c n d dk j nk pk half h =
    let h1 : (units * nk + units * pk) * (d * suc j) ≤ (c * dk) * (d * suc j) = mul-le-mul_right (d * suc j) h in
    let h2 : (units * pk) * (2 * n) ≤ (units * pk) * (d * suc j) = mul-le-mul_left (units * pk) half in
    omega (arith, h1, h2)

half_later : (n d k j : ℕ) → k ≤ j → 2 * n ≤ d * suc k → 2 * n ≤ d * suc j
half_later n d k j later half =
    let le : suc k ≤ suc j = omega arith in
    let h1 : d * suc k ≤ d * suc j = mul-le-mul_left d le in
    omega (arith, h1)

-- where each later term is at most half of the one before, the sum with its last term once more is at least each
-- longer one with its last term once more
pub upper_sum_longer : (c n d k more : ℕ) → 2 * n ≤ d * suc k → units * numerator n d k + units * power n k ≤ c * denominator d k
    → units * numerator n d (later k more) + units * power n (later k more) ≤ c * denominator d (later k more)
unfolding later denominator numerator power
upper_sum_longer c n d k zero half h = h
upper_sum_longer c n d k (suc more) half h =
    let le : k ≤ later k more = omega (arith, later_is k more) in
    tail_step c n d (denominator d (later k more)) (later k more) (numerator n d (later k more)) (power n (later k more)) (half_later n d k (later k more) le half) (upper_sum_longer c n d k more half h)

-- ---- the last place of the upper sum
-- a search for the first number that passes ended at one that does, or at its stop
pub record Ended (test : ℕ → Bool) (stop end : ℕ) : Type 0 where
  pub within : end ≤ stop
  pub passes : (test end ≡ true) ⊎ (end ≡ stop)

first_case : (test : ℕ → Bool) (k left : ℕ) (t : Bool) → test k ≡ t → Ended test (suc k + left) (first_from test (suc k) left) → Ended test (k + suc left) (cond t k (first_from test (suc k) left))
first_case test k left true e rest = record { within = omega arith; passes = inl e }
first_case test k left false e rest = let same : suc k + left ≡ k + suc left = omega arith in subst (λ (stop : ℕ). Ended test stop (first_from test (suc k) left)) same rest

-- A search for the first number that passes ends at one that does, or at its stop.
pub first_ends : (test : ℕ → Bool) (k left : ℕ) → Ended test (k + left) (first_from test k left)
unfolding first_from
first_ends test k zero = record { within = omega arith; passes = inr (omega arith) }
first_ends test k (suc left) = first_case test k left (test k) refl (first_ends test (suc k) left)

-- ---- floors and ceilings of quotients
le_or_lt : (m n : ℕ) → (m ≤ n) ⊎ (n < m)
le_or_lt m n = ⊎_elim (λ (after : n < m). inr after) (λ (before : m ≤ n). inl before) (cases_lt n m)

-- A quotient rounded up is at most c where the dividend is at most c times the divisor.
pub ceil_at_most : (a b c : ℕ) → 0 < b → a ≤ c * b → div_ceil a b ≤ c
ceil_at_most a b c some h = ⊎_elim (λ (small : div_ceil a b ≤ c). small) (λ (large : c < div_ceil a b).
    let h1 : suc c * b ≤ div_ceil a b * b = mul-le-mul_right b (let l : suc c ≤ div_ceil a b = omega arith in l) in
    absurd (omega (arith, h1, div_ceil_times a b some))) (le_or_lt (div_ceil a b) c)

-- A quotient rounded up grows with its dividend.
pub ceil_grows : (a b c : ℕ) → 0 < c → a ≤ b → div_ceil a c ≤ div_ceil b c
ceil_grows a b c some h = ceil_at_most a c (div_ceil b c) some (le_trans h (div_ceil_times b c some).0)

-- A quotient rounded down is at most the quotient, rounded up, of a dividend that is not less.
pub floor_below_ceil : (a b c : ℕ) → 0 < c → a ≤ b → a / c ≤ div_ceil b c
floor_below_ceil a b c some h =
    let h1 : a / c * c ≤ div_ceil b c * c = le_trans (div-mul-le_self a c) (le_trans h (div_ceil_times b c some).0) in
    le_of_mul-le-mul_right h1 some

-- ---- no term is past 10^24
upper_term_grows : (p q k : ℕ) → p ≤ q → upper_term p k ≤ upper_term q k
unfolding upper_term
upper_term_grows p q zero h = le_refl units
upper_term_grows p q (suc k) h = let some : 0 < suc k * units = omega arith in
    ceil_grows (upper_term p k * p) (upper_term q k * q) (suc k * units) some (mul-le (upper_term p k) p (upper_term q k) q (upper_term_grows p q k h) h)

lower_term_below_upper : (p q k : ℕ) → p ≤ q → lower_term p k ≤ upper_term q k
unfolding lower_term upper_term
lower_term_below_upper p q zero h = le_refl units
lower_term_below_upper p q (suc k) h = let some : 0 < suc k * units = omega arith in
    floor_below_ceil (lower_term p k * p) (upper_term q k * q) (suc k * units) some (mul-le (lower_term p k) p (upper_term q k) q (lower_term_below_upper p q k h) h)

unfoldable all_small : ℕ → Bool
all_small zero = nat_le (upper_term greatest_place zero) (10 ^ 24)
all_small (suc k) = nat_le (upper_term greatest_place (suc k)) (10 ^ 24) && all_small k

they_are_small : all_small 160 ≡ true
unfolding all_small upper_term
they_are_small = refl

both_true : (a b : Bool) → (a && b) ≡ true → (a ≡ true) × (b ≡ true)
both_true true b h = (refl, h)
both_true false b h = absurd (cc)

small_at : (k : ℕ) (n : ℕ) → k ≤ n → all_small n ≡ true → upper_term greatest_place k ≤ 10 ^ 24
unfolding all_small
small_at k zero le h = let here : k ≡ 0 = omega arith in rw here (leb-true (upper_term greatest_place 0) (10 ^ 24) h)
small_at k (suc n) le h = let both = both_true (nat_le (upper_term greatest_place (suc n)) (10 ^ 24)) (all_small n) h in
    ⊎_elim (λ (before : k ≤ n). small_at k n before both.1) (λ (after : n < k).
    let here : k ≡ suc n = omega arith in rw here (leb-true (upper_term greatest_place (suc n)) (10 ^ 24) both.0)) (le_or_lt k n)

-- Each term of an upper sum, at a place within the limit, is at most 10^24.
pub upper_term_small : (q k : ℕ) → q ≤ greatest_place → k ≤ last_term → upper_term q k ≤ 10 ^ 24
upper_term_small q k place le = le_trans (upper_term_grows q greatest_place k place) (small_at k 160 le they_are_small)

-- Each term of a lower sum, at a place within the limit, is at most 10^24.
pub lower_term_small : (p k : ℕ) → p ≤ greatest_place → k ≤ last_term → lower_term p k ≤ 10 ^ 24
lower_term_small p k place le = le_trans (lower_term_below_upper p greatest_place k place) (small_at k 160 le they_are_small)

-- ---- the ends
-- A lower sum is at least 1.
pub lower_sum_some : (p k : ℕ) → units ≤ lower_sum p k
unfolding lower_sum
lower_sum_some p zero = le_refl units
lower_sum_some p (suc k) = omega (arith, lower_sum_some p k)

-- An upper sum is at least 1.
pub upper_sum_some : (q k : ℕ) → units ≤ upper_sum q k
unfolding upper_sum
upper_sum_some q zero = le_refl units
upper_sum_some q (suc k) = omega (arith, upper_sum_some q k)

low_core : (s a b : ℕ) → units ≤ s → s * b ≤ units * a → lower_end s * a + b * units ≤ a * units
low_core s a b some h =
    let e : ℕ = div_ceil (units * units) s in
    let positive : 0 < s = omega arith in
    let h1 : units * units ≤ e * s = (div_ceil_times (units * units) s positive).0 in
    let h2 : e ≤ units = ceil_at_most (units * units) s units positive (omega arith) in
    let h3 : (units * units) * b ≤ (e * s) * b = mul-le-mul_right b h1 in
    let h4 : e * (s * b) ≤ e * (units * a) = mul-le-mul_left e h in
    let h5 : (units - e) + e ≡ units = omega arith in
    let h6 : ((units - e) + e) * a ≡ units * a = ap (λ (t : ℕ). t * a) h5 in
    omega (arith, h3, h4, h6)

high_core : (c a b : ℕ) → units ≤ c → units * a ≤ c * b → a * units ≤ upper_end c * a + b * units
high_core c a b some h =
    let f : ℕ = units * units / c in
    let h1 : f * c ≤ units * units = div-mul-le_self (units * units) c in
    let h2 : f ≤ units = div-le_of_le-mul c (let l : units * units ≤ c * units = omega arith in l) in
    let h3 : (f * c) * b ≤ (units * units) * b = mul-le-mul_right b h1 in
    let h4 : f * (units * a) ≤ f * (c * b) = mul-le-mul_left f h in
    let h5 : (units - f) + f ≡ units = omega arith in
    let h6 : ((units - f) + f) * a ≡ units * a = ap (λ (t : ℕ). t * a) h5 in
    omega (arith, h3, h4, h6)

-- n ≥ k is later than k
later_than : (k n : ℕ) → k ≤ n → later k (n - k) ≡ n
later_than k n le = omega (arith, later_is k (n - k))

lower_brackets : (p n d m : ℕ) → last_term ≤ m → p * d ≤ n * units → lower_end (lower_sum p last_term) * numerator n d m + denominator d m * units ≤ numerator n d m * units
lower_brackets p n d m long below =
    let at_last : lower_sum p last_term * denominator d last_term ≤ units * numerator n d last_term = lower_sum_below p n d last_term below in
    let at_m = rw (later_than last_term m long) at (lower_sum_longer (lower_sum p last_term) n d last_term (m - last_term) at_last) in
    low_core (lower_sum p last_term) (numerator n d m) (denominator d m) (lower_sum_some p last_term) at_m

half_at_last : (q : ℕ) → q ≤ greatest_place → 2 * q ≤ suc (last_place q) * units
half_at_last q place =
    let ended = first_ends (may_end q) 0 last_term in
    ⊎_elim (λ (passes : may_end q (last_place q) ≡ true). leb-true (2 * q) (suc (last_place q) * units) (both_true (nat_le (2 * q) (suc (last_place q) * units)) (nat_le (upper_term q (last_place q)) 1) passes).0)
    (λ (end : last_place q ≡ 0 + last_term). omega (arith, end)) ended.passes

upper_brackets : (q n d m : ℕ) → last_term ≤ m → q ≤ greatest_place → n * units ≤ q * d → numerator n d m * units ≤ upper_end (closed_sum q) * numerator n d m + denominator d m * units
upper_brackets q n d m long place above =
    let k : ℕ = last_place q in
    let sum : units * numerator n d k ≤ upper_sum q k * denominator d k = upper_sum_above q n d k above in
    let term : units * power n k ≤ upper_term q k * denominator d k = upper_term_above q n d k above in
    let within : k ≤ last_term = (first_ends (may_end q) 0 last_term).within in
    let h1 : (2 * q) * d ≤ (suc k * units) * d = mul-le-mul_right d (half_at_last q place) in
    let half : 2 * n ≤ d * suc k = omega (arith, h1) in
    let closed : units * numerator n d k + units * power n k ≤ closed_sum q * denominator d k = omega (arith, sum, term) in
    let le : k ≤ m = omega arith in
    let at_m = rw (later_than k m le) at (upper_sum_longer (closed_sum q) n d k (m - k) half closed) in
    let some : units ≤ closed_sum q = omega (arith, upper_sum_some q k) in
    high_core (closed_sum q) (numerator n d m) (denominator d m) some (omega (arith, at_m))

-- the lower end is at most 1 - 1 / S at the fraction n / d and each number of terms m, where low is at most n / d
pub lower_end_brackets : (low n d m : ℕ) → last_term ≤ m → low * d ≤ n * (units * units) → lower_end_at low * numerator n d m + denominator d m * units ≤ numerator n d m * units
lower_end_brackets low n d m long below =
    let p : ℕ = min (low / units) greatest_place in
    let h1 : low / units * units ≤ low = div-mul-le_self low units in
    let h2 : p * units ≤ low = omega arith in
    let h3 : (p * units) * d ≤ low * d = mul-le-mul_right d h2 in
    lower_brackets p n d m long (omega (arith, h3))

upper_case : (high n d m : ℕ) (t : Bool) → nat_lt (greatest_place * units) high ≡ t → last_term ≤ m → n * (units * units) ≤ high * d
    → numerator n d m * units ≤ cond t units (upper_end (closed_sum (min (div_ceil high units) greatest_place))) * numerator n d m + denominator d m * units
upper_case high n d m true e long above = omega arith
upper_case high n d m false e long above =
    let small : high ≤ greatest_place * units = ltb-false (greatest_place * units) high e in
    let q : ℕ = min (div_ceil high units) greatest_place in
    let one : 0 < units = omega arith in
    let h1 : high ≤ div_ceil high units * units = (div_ceil_times high units one).0 in
    let h2 : div_ceil high units ≤ greatest_place = ceil_at_most high units greatest_place one small in
    let h3 : high ≤ q * units = omega arith in
    let h4 : high * d ≤ (q * units) * d = mul-le-mul_right d h3 in
    let place : q ≤ greatest_place = omega arith in
    upper_brackets q n d m long place (omega (arith, h4))

-- the upper end is at least that, where high is at least n / d
pub upper_end_brackets : (high n d m : ℕ) → last_term ≤ m → n * (units * units) ≤ high * d → numerator n d m * units ≤ upper_end_at high * numerator n d m + denominator d m * units
upper_end_brackets high n d m long above = upper_case high n d m (nat_lt (greatest_place * units) high) refl long above

-- An exact sum is more than 0.
pub numerator_some : (n d k : ℕ) → 0 < d → 0 < numerator n d k
unfolding numerator
numerator_some n d zero some = omega arith
numerator_some n d (suc k) some =
    let h1 : 1 * 1 ≤ d * suc k = mul-le 1 1 d (suc k) (omega arith) (omega arith) in
    let h2 : 1 * 1 ≤ numerator n d k * (d * suc k) = mul-le 1 1 (numerator n d k) (d * suc k) (omega (arith, numerator_some n d k some)) (omega (arith, h1)) in
    omega (arith, h2)

-- The lower end of an exponential is at most the upper end.
pub ends_ordered : (low high : ℕ) → low ≤ high → lower_end_at low ≤ upper_end_at high
ends_ordered low high le =
    let d : ℕ = units * units in
    let h1 = lower_end_brackets low low d last_term (le_refl last_term) (omega arith) in
    let h2 = upper_end_brackets high low d last_term (le_refl last_term) (omega arith) in
    let h3 : lower_end_at low * numerator low d last_term ≤ upper_end_at high * numerator low d last_term = omega (arith, h1, h2) in
    le_of_mul-le-mul_right h3 (numerator_some low d last_term (omega arith))

-- ---- one term more, as the loops go on
-- The next term of a lower sum is the last one times the place, by the number of the term, rounded down.
pub lower_term-next : (p k : ℕ) → lower_term p (k + 1) ≡ lower_term p k * p / ((k + 1) * units)
unfolding lower_term
lower_term-next p k = rw add-one refl

-- A lower sum goes on by its next term.
pub lower_sum-next : (p k : ℕ) → lower_sum p (k + 1) ≡ lower_sum p k + lower_term p (k + 1)
unfolding lower_sum
lower_sum-next p k = rw add-one refl

-- The next term of an upper sum is the last one times the place, by the number of the term, rounded up.
pub upper_term-next : (q k : ℕ) → upper_term q (k + 1) ≡ div_ceil (upper_term q k * q) ((k + 1) * units)
unfolding upper_term
upper_term-next q k = rw add-one refl

-- An upper sum goes on by its next term.
pub upper_sum-next : (q k : ℕ) → upper_sum q (k + 1) ≡ upper_sum q k + upper_term q (k + 1)
unfolding upper_sum
upper_sum-next q k = rw add-one refl

-- A lower sum begins with 1, its first term.
pub lower-first : (p : ℕ) → (lower_term p 0 ≡ units) × (lower_sum p 0 ≡ units)
unfolding lower_term lower_sum
lower-first p = (refl, refl)

-- An upper sum begins with 1, its first term.
pub upper-first : (q : ℕ) → (upper_term q 0 ≡ units) × (upper_sum q 0 ≡ units)
unfolding upper_term upper_sum
upper-first q = (refl, refl)

first_of-next : (test : ℕ → Bool) (k left : ℕ) → test k ≡ false → first_from test k (suc left) ≡ first_from test (suc k) left
unfolding first_from
first_of-next test k left h = rw h refl

-- A search for the first number that passes goes on past one that does not.
pub first-next : (test : ℕ → Bool) (k end : ℕ) → k < end → test k ≡ false → first_from test k (end - k) ≡ first_from test (k + 1) (end - (k + 1))
first-next test k end le h =
    let e : end - k ≡ suc (end - (k + 1)) = omega arith in
    let e2 : suc k ≡ k + 1 = omega arith in
    ap (first_from test k) e ∙ first_of-next test k (end - (k + 1)) h ∙ ap (λ (j : ℕ). first_from test j (end - (k + 1))) e2

first_of-here : (test : ℕ → Bool) (k left : ℕ) → test k ≡ true → first_from test k (suc left) ≡ k
unfolding first_from
first_of-here test k left h = rw h refl

-- A search for the first number that passes ends at one that does.
pub first-here : (test : ℕ → Bool) (k end : ℕ) → k < end → test k ≡ true → first_from test k (end - k) ≡ k
first-here test k end le h =
    let e : end - k ≡ suc (end - (k + 1)) = omega arith in
    ap (first_from test k) e ∙ first_of-here test k (end - (k + 1)) h

first_of-none : (test : ℕ → Bool) (k : ℕ) → first_from test k zero ≡ k
unfolding first_from
first_of-none test k = refl

-- A search for the first number that passes ends at its stop where no number is left.
pub first-none : (test : ℕ → Bool) (k end : ℕ) → k ≡ end → first_from test k (end - k) ≡ k
first-none test k end same =
    let e : end - k ≡ zero = omega arith in
    ap (first_from test k) e ∙ first_of-none test k

-- The test of the code that an upper sum may end, where it passes.
pub may_end-true : (q k : ℕ) → 2 * q ≤ (k + 1) * units → upper_term q k ≤ 1 → may_end q k ≡ true
may_end-true q k half small = let half2 : 2 * q ≤ suc k * units = omega arith in rw (le-leb (2 * q) (suc k * units) half2, le-leb (upper_term q k) 1 small) refl

and-false : (b : Bool) → (b && false) ≡ false
and-false true = refl
and-false false = refl

not_le_case : (m n : ℕ) (t : Bool) → nat_le m n ≡ t → n < m → t ≡ false
not_le_case m n true e h = absurd (omega (arith, leb-true m n e))
not_le_case m n false e h = refl

not_le : (m n : ℕ) → n < m → nat_le m n ≡ false
not_le m n h = not_le_case m n (nat_le m n) refl h

-- The test of the code that an upper sum may end, where it does not pass.
pub may_end-false : (q k : ℕ) → (((k + 1) * units < 2 * q) ⊎ (1 < upper_term q k)) → may_end q k ≡ false
may_end-false q k why = ⊎_elim (λ (large : (k + 1) * units < 2 * q). let more : suc k * units < 2 * q = omega arith in rw (not_le (2 * q) (suc k * units) more) refl)
    (λ (large : 1 < upper_term q k). rw (not_le (upper_term q k) 1 large) (and-false (nat_le (2 * q) (suc k * units)))) why

-- ---- the ends stay within 0 and 1
upper_end_case : (high : ℕ) (t : Bool) → cond t units (upper_end (closed_sum (min (div_ceil high units) greatest_place))) ≤ units
upper_end_case high true = omega arith
upper_end_case high false = omega arith

-- The upper end of an exponential is at most 1.
pub upper_end_at_most : (high : ℕ) → upper_end_at high ≤ units
upper_end_at_most high = upper_end_case high (nat_lt (greatest_place * units) high)
