-- An interval that is computed brackets the exact number, operation by operation.
use Rattle.std.proofs.Common.{◌^◌, ◌/◌, sym, ℕ, ℤ, pos, negsuc, neg_ℤ, zero, suc, Bool, true, false, Result, Ok, Err, IfOk, ◌≡◌, ◌+◌, ◌*◌, ◌<◌, ◌≤◌, ◌+ℤ◌, ◌-ℤ◌, ◌*ℤ◌, ◌≤ℤ◌, int_lt, int_le, ◌||◌, ◌&&◌, ◌⊎◌, inl, inr, ⊎_elim, ◌<ℤ◌, ◌≢◌, cond, arith, refl, ap, ap₂, ◌∙◌, subst}
use Rattle.std.specs.Int.{int_min, int_max, int_div_euclid}
use Rattle.std.proofs.lemmas.Int.{ints, clamps}
use Rattle.std.proofs.lemmas.Nat.{mul-le, pow-add}
use Rattle.std.specs.Int.{div_ceil}
use Rattle.std.proofs.Math.Nat.{mul-le-mul_right, mul-le-mul_left, le_of_mul-le-mul_right, one-le-pow, div-mul-le_self}
use borrow.Author.Differences.{up, down, le_out, at_most_in, same_in, product_is, sum_is_lem, neg_is, le-false, below_in, same_out}
use Rattle.psa_number.specs.declared.fault.NumberFault.{NumberFault}
use Rattle.psa_number.specs.declared.fault.NumberFault.TheVariants.{TooLarge, ZeroDivisor, Negative}
use Rattle.psa_number.specs.Units.{units, floor_units, ceil_units, least, greatest}
use Rattle.psa_number.specs.Ends.{Ends}
use Rattle.psa_number.specs.Scaled.{Scaled}
use Rattle.std.proofs.lemmas.Grind.{div_ceil_times}
use Rattle.psa_number.specs.Operations.{limited, is_limited, sum_ends, difference_ends, product_ends, exponential_of, IsInUnit, has_zero, floor_quotient, ceil_quotient, quotient_below, quotient_above, quotient_ends, quotient_of, negative_ends, positive_ends, decimal_ends, unit_ends, unit_sum_ends, unit_product_ends, complement_ends}
use Rattle.psa_number.specs.Fraction.{Fraction, Holds, plus, difference, times, over, quotient, held_in_unit, at_most_one, one_minus, magnitude, fraction_of, minus, exponential_at}
use Rattle.psa_number.specs.Exponential.{raised, numerator, denominator, last_term, lower_end_at, upper_end_at}
use Rattle.psa_number.proofs.TaylorSumLemmas.{lower_end_brackets, upper_end_brackets, numerator_some}
use Rattle.psa_number.proofs.SignedLemmas.{parts_out, parts_in, raised_low, raised_high, times_up, between_low, between_high, by_up, IsLeast, IsGreatest, le_then, floor_over, floor_below, ceil_above, least_within, greatest_within, min_keeps, max_keeps}

-- ---- the answer of an operation that can be refused
limited_case : (P : Ends → Type 0) (e : Ends) (t : Bool) → P e → IfOk {E = NumberFault} (cond t (Ok e) (Err TooLarge)) P
limited_case P e true h = h
limited_case P e false h = tt

-- What holds of the ends holds of the answer that gives them, unless it refuses them as too large.
pub held_if_limited : (P : Ends → Type 0) (r : Result Ends NumberFault) (e : Ends) → r ≡ limited e → P e → IfOk r P
held_if_limited P r e is h = rw is (limited_case P e (is_limited e) h)

up_product : (x y : ℤ) → up (x *ℤ y) ≡ up x * up y + down x * down y
up_product x y = (product_is x y).0

down_product : (x y : ℤ) → down (x *ℤ y) ≡ up x * down y + down x * up y
down_product x y = (product_is x y).1

-- The ends of an answer may be replaced by equal ones.
pub limited_same : (r : Result Ends NumberFault) (lo hi lo' hi' : ℤ) → r ≡ limited (record { lo = lo; hi = hi }) → lo ≡ lo' → hi ≡ hi' → r ≡ limited (record { lo = lo'; hi = hi' })
limited_same r lo hi lo' hi' is lo_is hi_is = is ∙ ap₂ (λ (l h : ℤ). limited (record { lo = l; hi = h })) lo_is hi_is

positive_product : (d e : ℕ) → 0 < d → 0 < e → 0 < d * e
positive_product d e hd he = let h : 1 * 1 ≤ d * e = mul-le 1 1 d e (omega arith) (omega arith) in omega (arith, h)

-- ---- sums
sum_low : (a b nx ny : ℤ) (dx dy : ℕ) → (a *ℤ pos dx) ≤ℤ (nx *ℤ pos units) → (b *ℤ pos dy) ≤ℤ (ny *ℤ pos units)
    → ((a +ℤ b) *ℤ pos (dx * dy)) ≤ℤ (((nx *ℤ pos dy) +ℤ (ny *ℤ pos dx)) *ℤ pos units)
sum_low a b nx ny dx dy h g =
    let h1 = mul-le-mul_right dy (parts_out a nx dx units h) in
    let g1 = mul-le-mul_right dx (parts_out b ny dy units g) in
    let s = ap (λ (t : ℕ). t * (dx * dy)) (sum_is_lem a b) in
    parts_in (a +ℤ b) ((nx *ℤ pos dy) +ℤ (ny *ℤ pos dx)) (dx * dy) units
    (omega (arith, h1, g1, s, sum_is_lem (nx *ℤ pos dy) (ny *ℤ pos dx), product_is nx (pos dy), product_is ny (pos dx)))

sum_high : (a b nx ny : ℤ) (dx dy : ℕ) → (nx *ℤ pos units) ≤ℤ (a *ℤ pos dx) → (ny *ℤ pos units) ≤ℤ (b *ℤ pos dy)
    → (((nx *ℤ pos dy) +ℤ (ny *ℤ pos dx)) *ℤ pos units) ≤ℤ ((a +ℤ b) *ℤ pos (dx * dy))
sum_high a b nx ny dx dy h g =
    let h1 = mul-le-mul_right dy (parts_out nx a units dx h) in
    let g1 = mul-le-mul_right dx (parts_out ny b units dy g) in
    let s = ap (λ (t : ℕ). t * (dx * dy)) (sum_is_lem a b) in
    parts_in ((nx *ℤ pos dy) +ℤ (ny *ℤ pos dx)) (a +ℤ b) units (dx * dy)
    (omega (arith, h1, g1, s, sum_is_lem (nx *ℤ pos dy) (ny *ℤ pos dx), product_is nx (pos dy), product_is ny (pos dx)))

-- The sum of two intervals brackets the sum of what they bracket.
pub sum_held : (a b : Ends) (x y : Fraction) → Holds a x → Holds b y → Holds (sum_ends a b) (plus x y)
sum_held a b x y h g = record {
  positive = positive_product x.den y.den h.positive g.positive;
  low = sum_low a.lo b.lo x.num y.num x.den y.den h.low g.low;
  high = sum_high a.hi b.hi x.num y.num x.den y.den h.high g.high;
}

-- ---- differences
-- Negated, an upper end of a fraction is a lower end of the negated fraction.
pub negative_low : (a n : ℤ) (d : ℕ) → (n *ℤ pos units) ≤ℤ (a *ℤ pos d) → (neg_ℤ a *ℤ pos d) ≤ℤ (neg_ℤ n *ℤ pos units)
negative_low a n d h = parts_in (neg_ℤ a) (neg_ℤ n) d units (rw ((neg_is a).0, (neg_is a).1, (neg_is n).0, (neg_is n).1) (omega (arith, parts_out n a units d h)))

-- Negated, a lower end of a fraction is an upper end of the negated fraction.
pub negative_high : (a n : ℤ) (d : ℕ) → (a *ℤ pos d) ≤ℤ (n *ℤ pos units) → (neg_ℤ n *ℤ pos units) ≤ℤ (neg_ℤ a *ℤ pos d)
negative_high a n d h = parts_in (neg_ℤ n) (neg_ℤ a) units d (rw ((neg_is a).0, (neg_is a).1, (neg_is n).0, (neg_is n).1) (omega (arith, parts_out a n d units h)))

negative_times : (y : ℤ) (k : ℕ) → (neg_ℤ y *ℤ pos k) ≡ neg_ℤ (y *ℤ pos k)
negative_times y k = same_in (neg_ℤ y *ℤ pos k) (neg_ℤ (y *ℤ pos k)) (omega (arith, product_is (neg_ℤ y) (pos k), product_is y (pos k), ap (λ (t : ℕ). t * k) (neg_is y).0, ap (λ (t : ℕ). t * k) (neg_is y).1, neg_is (y *ℤ pos k)))

-- The difference of two intervals brackets the difference of what they bracket.
pub difference_held : (a b : Ends) (x y : Fraction) → Holds a x → Holds b y → Holds (difference_ends a b) (difference x y)
difference_held a b x y h g = record {
  positive = positive_product x.den y.den h.positive g.positive;
  low = rw (negative_times y.num x.den) at (sum_low a.lo (neg_ℤ b.hi) x.num (neg_ℤ y.num) x.den y.den h.low (negative_low b.hi y.num y.den g.high));
  high = rw (negative_times y.num x.den) at (sum_high a.hi (neg_ℤ b.lo) x.num (neg_ℤ y.num) x.den y.den h.high (negative_high b.lo y.num y.den g.low));
}

-- ---- products
-- the product of two scaled numbers, scaled by both
cross : (s r : ℤ) (d e : ℕ) → ((s *ℤ pos d) *ℤ (r *ℤ pos e)) ≡ ((s *ℤ r) *ℤ pos (d * e))
cross s r d e = same_in ((s *ℤ pos d) *ℤ (r *ℤ pos e)) ((s *ℤ r) *ℤ pos (d * e)) (simp (up_product, down_product) (omega arith))

scaled_twice : (s : ℤ) (d e : ℕ) → ((s *ℤ pos d) *ℤ pos e) ≡ (s *ℤ pos (d * e))
scaled_twice s d e = same_in ((s *ℤ pos d) *ℤ pos e) (s *ℤ pos (d * e)) (simp (up_product, down_product) (omega arith))

cancel_low : (l n : ℤ) (d : ℕ) → (l *ℤ pos (units * d)) ≤ℤ (n *ℤ pos (units * units)) → (l *ℤ pos d) ≤ℤ (n *ℤ pos units)
cancel_low l n d h = parts_in l n d units (omega (arith, parts_out l n (units * d) (units * units) h))

cancel_high : (l n : ℤ) (d : ℕ) → (n *ℤ pos (units * units)) ≤ℤ (l *ℤ pos (units * d)) → (n *ℤ pos units) ≤ℤ (l *ℤ pos d)
cancel_high l n d h = parts_in n l units d (omega (arith, parts_out n l (units * units) (units * d) h))

corner_low : (l a b : ℤ) (d e : ℕ) → (l *ℤ pos units) ≤ℤ (a *ℤ b) → (l *ℤ pos (units * (d * e))) ≤ℤ ((a *ℤ pos d) *ℤ (b *ℤ pos e))
corner_low l a b d e h = rw (cross a b d e, ← scaled_twice l units (d * e)) (times_up (l *ℤ pos units) (a *ℤ b) (d * e) h)

corner_high : (l a b : ℤ) (d e : ℕ) → (a *ℤ b) ≤ℤ (l *ℤ pos units) → ((a *ℤ pos d) *ℤ (b *ℤ pos e)) ≤ℤ (l *ℤ pos (units * (d * e)))
corner_high l a b d e h = rw (cross a b d e, ← scaled_twice l units (d * e)) (times_up (a *ℤ b) (l *ℤ pos units) (d * e) h)

-- What is at most each product of ends is at most the product of the bracketed fractions.
pub product_low : (l : ℤ) (a b : Ends) (x y : Fraction) → Holds a x → Holds b y
    → (l *ℤ pos units) ≤ℤ (a.lo *ℤ b.lo) → (l *ℤ pos units) ≤ℤ (a.lo *ℤ b.hi) → (l *ℤ pos units) ≤ℤ (a.hi *ℤ b.lo) → (l *ℤ pos units) ≤ℤ (a.hi *ℤ b.hi)
    → (l *ℤ pos (x.den * y.den)) ≤ℤ ((x.num *ℤ y.num) *ℤ pos units)
product_low l a b x y h g p00 p01 p10 p11 =
    let bound = between_low (l *ℤ pos (units * (x.den * y.den))) (x.num *ℤ pos units) (a.lo *ℤ pos x.den) (a.hi *ℤ pos x.den) (y.num *ℤ pos units) (b.lo *ℤ pos y.den) (b.hi *ℤ pos y.den)
    h.low h.high g.low g.high (corner_low l a.lo b.lo x.den y.den p00) (corner_low l a.lo b.hi x.den y.den p01) (corner_low l a.hi b.lo x.den y.den p10) (corner_low l a.hi b.hi x.den y.den p11) in
    cancel_low l (x.num *ℤ y.num) (x.den * y.den) (rw (cross x.num y.num units units) at bound)

-- What is at least each product of ends is at least the product of the bracketed fractions.
pub product_high : (l : ℤ) (a b : Ends) (x y : Fraction) → Holds a x → Holds b y
    → (a.lo *ℤ b.lo) ≤ℤ (l *ℤ pos units) → (a.lo *ℤ b.hi) ≤ℤ (l *ℤ pos units) → (a.hi *ℤ b.lo) ≤ℤ (l *ℤ pos units) → (a.hi *ℤ b.hi) ≤ℤ (l *ℤ pos units)
    → ((x.num *ℤ y.num) *ℤ pos units) ≤ℤ (l *ℤ pos (x.den * y.den))
product_high l a b x y h g p00 p01 p10 p11 =
    let bound = between_high (l *ℤ pos (units * (x.den * y.den))) (x.num *ℤ pos units) (a.lo *ℤ pos x.den) (a.hi *ℤ pos x.den) (y.num *ℤ pos units) (b.lo *ℤ pos y.den) (b.hi *ℤ pos y.den)
    h.low h.high g.low g.high (corner_high l a.lo b.lo x.den y.den p00) (corner_high l a.lo b.hi x.den y.den p01) (corner_high l a.hi b.lo x.den y.den p10) (corner_high l a.hi b.hi x.den y.den p11) in
    cancel_high l (x.num *ℤ y.num) (x.den * y.den) (rw (cross x.num y.num units units) at bound)

-- The product of two intervals brackets the product of what they bracket.
pub product_held : (a b : Ends) (x y : Fraction) → Holds a x → Holds b y → Holds (product_ends a b) (times x y)
product_held a b x y h g =
    let l : ℤ = least (a.lo *ℤ b.lo) (a.lo *ℤ b.hi) (a.hi *ℤ b.lo) (a.hi *ℤ b.hi) in
    let m : ℤ = greatest (a.lo *ℤ b.lo) (a.lo *ℤ b.hi) (a.hi *ℤ b.lo) (a.hi *ℤ b.hi) in
    let within = least_within (a.lo *ℤ b.lo) (a.lo *ℤ b.hi) (a.hi *ℤ b.lo) (a.hi *ℤ b.hi) in
    let above = greatest_within (a.lo *ℤ b.lo) (a.lo *ℤ b.hi) (a.hi *ℤ b.lo) (a.hi *ℤ b.hi) in
    let below : (floor_units l *ℤ pos units) ≤ℤ l = floor_below l in
    let over : m ≤ℤ (ceil_units m *ℤ pos units) = ceil_above m in
    record {
      positive = positive_product x.den y.den h.positive g.positive;
      low = product_low (floor_units l) a b x y h g (le_then (floor_units l *ℤ pos units) l (a.lo *ℤ b.lo) below within.first) (le_then (floor_units l *ℤ pos units) l (a.lo *ℤ b.hi) below within.second)
          (le_then (floor_units l *ℤ pos units) l (a.hi *ℤ b.lo) below within.third) (le_then (floor_units l *ℤ pos units) l (a.hi *ℤ b.hi) below within.fourth);
      high = product_high (ceil_units m) a b x y h g (le_then (a.lo *ℤ b.lo) m (ceil_units m *ℤ pos units) above.first over) (le_then (a.lo *ℤ b.hi) m (ceil_units m *ℤ pos units) above.second over)
          (le_then (a.hi *ℤ b.lo) m (ceil_units m *ℤ pos units) above.third over) (le_then (a.hi *ℤ b.hi) m (ceil_units m *ℤ pos units) above.fourth over);
    }

-- ---- held to 0 and 1
same_units : (d : ℕ) → (pos units *ℤ pos d) ≤ℤ (pos d *ℤ pos units)
same_units d = parts_in (pos units) (pos d) d units (omega arith)

same_units_back : (d : ℕ) → (pos d *ℤ pos units) ≤ℤ (pos units *ℤ pos d)
same_units_back d = parts_in (pos d) (pos units) units d (omega arith)

no_units : (d e : ℕ) → (pos 0 *ℤ pos d) ≤ℤ (pos 0 *ℤ pos e)
no_units d e = parts_in (pos 0) (pos 0) d e (omega arith)

min_first : (x y : ℤ) → int_min x y ≤ℤ x
min_first x y = omega (arith, ints, clamps)

min_second : (x y : ℤ) → int_min x y ≤ℤ y
min_second x y = omega (arith, ints, clamps)

max_first : (x y : ℤ) → x ≤ℤ int_max x y
max_first x y = omega (arith, ints, clamps)

max_second : (x y : ℤ) → y ≤ℤ int_max x y
max_second x y = omega (arith, ints, clamps)

-- A lower end stays one where it and its fraction are both lowered to at most 1.
pub min_held_low : (s n : ℤ) (d : ℕ) → (s *ℤ pos d) ≤ℤ (n *ℤ pos units) → (int_min (pos units) s *ℤ pos d) ≤ℤ (int_min (pos d) n *ℤ pos units)
min_held_low s n d h = min_keeps (λ (z : ℤ). (int_min (pos units) s *ℤ pos d) ≤ℤ (z *ℤ pos units)) (pos d) n
    (le_then (int_min (pos units) s *ℤ pos d) (pos units *ℤ pos d) (pos d *ℤ pos units) (times_up (int_min (pos units) s) (pos units) d (min_first (pos units) s)) (same_units d))
    (le_then (int_min (pos units) s *ℤ pos d) (s *ℤ pos d) (n *ℤ pos units) (times_up (int_min (pos units) s) s d (min_second (pos units) s)) h)

-- An upper end stays one where it and its fraction are both lowered to at most 1.
pub min_held_high : (s n : ℤ) (d : ℕ) → (n *ℤ pos units) ≤ℤ (s *ℤ pos d) → (int_min (pos d) n *ℤ pos units) ≤ℤ (int_min (pos units) s *ℤ pos d)
min_held_high s n d h = min_keeps (λ (z : ℤ). (int_min (pos d) n *ℤ pos units) ≤ℤ (z *ℤ pos d)) (pos units) s
    (le_then (int_min (pos d) n *ℤ pos units) (pos d *ℤ pos units) (pos units *ℤ pos d) (times_up (int_min (pos d) n) (pos d) units (min_first (pos d) n)) (same_units_back d))
    (le_then (int_min (pos d) n *ℤ pos units) (n *ℤ pos units) (s *ℤ pos d) (times_up (int_min (pos d) n) n units (min_second (pos d) n)) h)

max_held : (s n : ℤ) (d e : ℕ) → (s *ℤ pos d) ≤ℤ (n *ℤ pos e) → (int_max (pos 0) s *ℤ pos d) ≤ℤ (int_max (pos 0) n *ℤ pos e)
max_held s n d e h = max_keeps (λ (z : ℤ). (z *ℤ pos d) ≤ℤ (int_max (pos 0) n *ℤ pos e)) (pos 0) s
    (le_then (pos 0 *ℤ pos d) (pos 0 *ℤ pos e) (int_max (pos 0) n *ℤ pos e) (no_units d e) (times_up (pos 0) (int_max (pos 0) n) e (max_first (pos 0) n)))
    (le_then (s *ℤ pos d) (n *ℤ pos e) (int_max (pos 0) n *ℤ pos e) h (times_up n (int_max (pos 0) n) e (max_second (pos 0) n)))

-- An interval held to 0 and 1 brackets the fraction held to 0 and 1.
pub unit_held : (a : Ends) (x : Fraction) → Holds a x → Holds (unit_ends a) (held_in_unit x)
unit_held a x h = record {
  positive = h.positive;
  low = max_held (int_min (pos units) a.lo) (int_min (pos x.den) x.num) x.den units (min_held_low a.lo x.num x.den h.low);
  high = max_held (int_min (pos x.den) x.num) (int_min (pos units) a.hi) units x.den (min_held_high a.hi x.num x.den h.high);
}

-- The sum of two intervals, held at 1, brackets the sum of what they bracket, lowered to at most 1.
pub unit_sum_held : (a b : Ends) (x y : Fraction) → Holds a x → Holds b y → Holds (unit_sum_ends a b) (at_most_one (plus x y))
unit_sum_held a b x y h g =
    let held = sum_held a b x y h g in
    record {
      positive = held.positive;
      low = min_held_low (a.lo +ℤ b.lo) ((x.num *ℤ pos y.den) +ℤ (y.num *ℤ pos x.den)) (x.den * y.den) held.low;
      high = min_held_high (a.hi +ℤ b.hi) ((x.num *ℤ pos y.den) +ℤ (y.num *ℤ pos x.den)) (x.den * y.den) held.high;
    }

less_low : (a n : ℤ) (d : ℕ) → (n *ℤ pos units) ≤ℤ (a *ℤ pos d) → ((pos units -ℤ a) *ℤ pos d) ≤ℤ ((pos d -ℤ n) *ℤ pos units)
less_low a n d h = parts_in (pos units -ℤ a) (pos d -ℤ n) d units
    (omega (arith, parts_out n a units d h, ap (λ (t : ℕ). t * d) (sum_is_lem (pos units) (neg_ℤ a)), ap (λ (t : ℕ). t * d) (neg_is a).0, ap (λ (t : ℕ). t * d) (neg_is a).1, sum_is_lem (pos d) (neg_ℤ n), neg_is n))

less_high : (a n : ℤ) (d : ℕ) → (a *ℤ pos d) ≤ℤ (n *ℤ pos units) → ((pos d -ℤ n) *ℤ pos units) ≤ℤ ((pos units -ℤ a) *ℤ pos d)
less_high a n d h = parts_in (pos d -ℤ n) (pos units -ℤ a) units d
    (omega (arith, parts_out a n d units h, ap (λ (t : ℕ). t * d) (sum_is_lem (pos units) (neg_ℤ a)), ap (λ (t : ℕ). t * d) (neg_is a).0, ap (λ (t : ℕ). t * d) (neg_is a).1, sum_is_lem (pos d) (neg_ℤ n), neg_is n))

-- 1 less an interval brackets 1 less what it brackets.
pub complement_held : (a : Ends) (x : Fraction) → Holds a x → Holds (complement_ends a) (one_minus x)
complement_held a x h = record {
  positive = h.positive;
  low = less_low a.hi x.num x.den h.high;
  high = less_high a.lo x.num x.den h.low;
}

-- ---- products within 0 and 1
corner_least : (l p q r s : ℤ) → pos 0 ≤ℤ p → p ≤ℤ q → pos 0 ≤ℤ r → r ≤ℤ s → l ≤ℤ (p *ℤ r) → IsLeast l (p *ℤ r) (p *ℤ s) (q *ℤ r) (q *ℤ s)
corner_least l (pos p) (pos q) (pos r) (pos s) hp hq hr hs h =
    let first : (pos p *ℤ pos r) ≤ℤ (pos p *ℤ pos s) = by_up (pos r) (pos s) p hs in
    let second : (pos p *ℤ pos r) ≤ℤ (pos q *ℤ pos r) = times_up (pos p) (pos q) r hq in
    let third : (pos p *ℤ pos s) ≤ℤ (pos q *ℤ pos s) = times_up (pos p) (pos q) s hq in
    record {
      first = h;
      second = le_then l (pos p *ℤ pos r) (pos p *ℤ pos s) h first;
      third = le_then l (pos p *ℤ pos r) (pos q *ℤ pos r) h second;
      fourth = le_then l (pos p *ℤ pos s) (pos q *ℤ pos s) (le_then l (pos p *ℤ pos r) (pos p *ℤ pos s) h first) third;
    }
corner_least l (negsuc p) q r s hp hq hr hs h = absurd (omega (arith, ints))
corner_least l p q (negsuc r) s hp hq hr hs h = absurd (omega (arith, ints))
corner_least l p (negsuc q) r s hp hq hr hs h = absurd (omega (arith, ints))
corner_least l p q r (negsuc s) hp hq hr hs h = absurd (omega (arith, ints))

corner_greatest : (l p q r s : ℤ) → pos 0 ≤ℤ p → p ≤ℤ q → pos 0 ≤ℤ r → r ≤ℤ s → (q *ℤ s) ≤ℤ l → IsGreatest l (p *ℤ r) (p *ℤ s) (q *ℤ r) (q *ℤ s)
corner_greatest l (pos p) (pos q) (pos r) (pos s) hp hq hr hs h =
    let first : (pos p *ℤ pos r) ≤ℤ (pos p *ℤ pos s) = by_up (pos r) (pos s) p hs in
    let second : (pos q *ℤ pos r) ≤ℤ (pos q *ℤ pos s) = by_up (pos r) (pos s) q hs in
    let third : (pos p *ℤ pos s) ≤ℤ (pos q *ℤ pos s) = times_up (pos p) (pos q) s hq in
    record {
      first = le_then (pos p *ℤ pos r) (pos p *ℤ pos s) l first (le_then (pos p *ℤ pos s) (pos q *ℤ pos s) l third h);
      second = le_then (pos p *ℤ pos s) (pos q *ℤ pos s) l third h;
      third = le_then (pos q *ℤ pos r) (pos q *ℤ pos s) l second h;
      fourth = h;
    }
corner_greatest l (negsuc p) q r s hp hq hr hs h = absurd (omega (arith, ints))
corner_greatest l p q (negsuc r) s hp hq hr hs h = absurd (omega (arith, ints))
corner_greatest l p (negsuc q) r s hp hq hr hs h = absurd (omega (arith, ints))
corner_greatest l p q r (negsuc s) hp hq hr hs h = absurd (omega (arith, ints))

-- The product of two intervals within 0 and 1, by their like ends alone, brackets the exact product.
pub unit_product_held : (a b : Ends) (x y : Fraction) → IsInUnit a → a.lo ≤ℤ a.hi → IsInUnit b → b.lo ≤ℤ b.hi → Holds a x → Holds b y → Holds (unit_product_ends a b) (times x y)
unit_product_held a b x y in_a ordered_a in_b ordered_b h g =
    let least = corner_least (floor_units (a.lo *ℤ b.lo) *ℤ pos units) a.lo a.hi b.lo b.hi in_a.low ordered_a in_b.low ordered_b (floor_below (a.lo *ℤ b.lo)) in
    let greatest = corner_greatest (ceil_units (a.hi *ℤ b.hi) *ℤ pos units) a.lo a.hi b.lo b.hi in_a.low ordered_a in_b.low ordered_b (ceil_above (a.hi *ℤ b.hi)) in
    record {
      positive = positive_product x.den y.den h.positive g.positive;
      low = product_low (floor_units (a.lo *ℤ b.lo)) a b x y h g least.first least.second least.third least.fourth;
      high = product_high (ceil_units (a.hi *ℤ b.hi)) a b x y h g greatest.first greatest.second greatest.third greatest.fourth;
    }

-- ---- quotients
un_turn : (g n : ℤ) (k : ℕ) → (neg_ℤ g *ℤ pos k) ≤ℤ (n *ℤ pos units) → (neg_ℤ n *ℤ pos units) ≤ℤ (g *ℤ pos k)
un_turn g n k p = parts_in (neg_ℤ n) g units k
    (rw ((neg_is n).0, (neg_is n).1) (omega (arith, parts_out (neg_ℤ g) n k units p, ap (λ (t : ℕ). t * k) (neg_is g).0, ap (λ (t : ℕ). t * k) (neg_is g).1)))

-- f is at most each quotient of a by b0 and by b1, which are positive or 0 with y between them
quotient_low : (f a n : ℤ) (b0 b1 m d e : ℕ) → (f *ℤ pos b0) ≤ℤ (a *ℤ pos units) → (f *ℤ pos b1) ≤ℤ (a *ℤ pos units) → (a *ℤ pos d) ≤ℤ (n *ℤ pos units)
    → b0 * e ≤ m * units → m * units ≤ b1 * e → (f *ℤ pos (d * m)) ≤ℤ ((n *ℤ pos e) *ℤ pos units)
quotient_low (pos f) a n b0 b1 m d e h0 h1 g l u =
    let k1 = mul-le-mul_right (d * e) (parts_out (pos f) a b1 units h1) in
    let k2 = mul-le-mul_right (e * units) (parts_out a n d units g) in
    let k3 : (f * d) * (m * units) ≤ (f * d) * (b1 * e) = mul-le-mul_left (f * d) u in
    parts_in (pos f) (n *ℤ pos e) (d * m) units (omega (arith, k1, k2, k3, product_is n (pos e)))
quotient_low (negsuc f) a n b0 b1 m d e h0 h1 g l u =
    let k1 = mul-le-mul_right (d * e) (parts_out (negsuc f) a b0 units h0) in
    let k2 = mul-le-mul_right (e * units) (parts_out a n d units g) in
    let k3 : (suc f * d) * (b0 * e) ≤ (suc f * d) * (m * units) = mul-le-mul_left (suc f * d) l in
    parts_in (negsuc f) (n *ℤ pos e) (d * m) units (omega (arith, k1, k2, k3, product_is n (pos e)))

un_negate : (h n : ℤ) (k e : ℕ) → (neg_ℤ h *ℤ pos k) ≤ℤ ((neg_ℤ n *ℤ pos e) *ℤ pos units) → ((n *ℤ pos e) *ℤ pos units) ≤ℤ (h *ℤ pos k)
un_negate h n k e p = parts_in (n *ℤ pos e) h units k
    (omega (arith, parts_out (neg_ℤ h) (neg_ℤ n *ℤ pos e) k units p, product_is (neg_ℤ n) (pos e), product_is n (pos e), ap (λ (t : ℕ). t * k) (neg_is h).0, ap (λ (t : ℕ). t * k) (neg_is h).1, ap (λ (t : ℕ). t * e) (neg_is n).0, ap (λ (t : ℕ). t * e) (neg_is n).1))

bounded_by : (f g n : ℤ) (d : ℕ) → f ≤ℤ g → (g *ℤ pos d) ≤ℤ n → (f *ℤ pos d) ≤ℤ n
bounded_by f g n d h p = le_then (f *ℤ pos d) (g *ℤ pos d) n (times_up f g d h) p

negative_under : (g c : ℤ) → neg_ℤ c ≤ℤ g → neg_ℤ g ≤ℤ c
negative_under g c h = omega (arith, ints)

negative_twice : (z : ℤ) → neg_ℤ (neg_ℤ z) ≡ z
negative_twice z = omega (arith, ints)

-- the floor of a over b, where b is positive, and where it is negative
floor_positive : (f a : ℤ) (d : ℕ) → f ≤ℤ quotient_below a (pos (suc d)) → (f *ℤ pos (suc d)) ≤ℤ (a *ℤ pos units)
floor_positive f a d h = bounded_by f (quotient_below a (pos (suc d))) (a *ℤ pos units) (suc d) h (floor_over (a *ℤ pos units) d)

floor_negative : (f a : ℤ) (d : ℕ) → f ≤ℤ quotient_below a (negsuc d) → (f *ℤ pos (suc d)) ≤ℤ (neg_ℤ a *ℤ pos units)
floor_negative f a d h = rw (negative_times a units) (bounded_by f (quotient_below a (negsuc d)) (neg_ℤ (a *ℤ pos units)) (suc d) h (floor_over (neg_ℤ (a *ℤ pos units)) d))

-- the same of the ceiling, with both turned round
ceil_positive : (g a : ℤ) (d : ℕ) → quotient_above a (pos (suc d)) ≤ℤ g → (neg_ℤ g *ℤ pos (suc d)) ≤ℤ (neg_ℤ a *ℤ pos units)
ceil_positive g a d h =
    let f : ℤ = int_div_euclid (neg_ℤ (a *ℤ pos units)) (pos (suc d)) in
    rw (negative_times a units) (bounded_by (neg_ℤ g) f (neg_ℤ (a *ℤ pos units)) (suc d) (negative_under g f h) (floor_over (neg_ℤ (a *ℤ pos units)) d))

ceil_negative : (g a : ℤ) (d : ℕ) → quotient_above a (negsuc d) ≤ℤ g → (neg_ℤ g *ℤ pos (suc d)) ≤ℤ (a *ℤ pos units)
ceil_negative g a d h =
    let f : ℤ = int_div_euclid (neg_ℤ (neg_ℤ (a *ℤ pos units))) (pos (suc d)) in
    let p = bounded_by (neg_ℤ g) f (neg_ℤ (neg_ℤ (a *ℤ pos units))) (suc d) (negative_under g f h) (floor_over (neg_ℤ (neg_ℤ (a *ℤ pos units))) d) in
    rw negative_twice at p

-- l is at most each quotient of ends, and g at least each
pub record AreQuotients (l g : ℤ) (a b : Ends) : Type 0 where
  pub below : IsLeast l (quotient_below a.lo b.lo) (quotient_below a.lo b.hi) (quotient_below a.hi b.lo) (quotient_below a.hi b.hi)
  pub above : IsGreatest g (quotient_above a.lo b.lo) (quotient_above a.lo b.hi) (quotient_above a.hi b.lo) (quotient_above a.hi b.hi)

-- Ends that bound each quotient of ends bracket the exact quotient, where the divisor is on one side of 0.
pub quotient_held_by : (l g : ℤ) (a : Ends) (b0 b1 : ℤ) (x : Fraction) (m : ℤ) (e : ℕ) → (pos 0 <ℤ b0) ⊎ (b1 <ℤ pos 0) → b0 ≤ℤ b1 → AreQuotients l g a (record { lo = b0; hi = b1 }) → Holds a x
    → Holds (record { lo = b0; hi = b1 }) (record { num = m; den = e }) → Holds (record { lo = l; hi = g }) (over x m e)
quotient_held_by l g a (pos (suc p)) (pos (suc q)) x (pos (suc m)) e apart ordered quotients h k =
    let b_low : suc p * e ≤ suc m * units = omega (arith, parts_out (pos (suc p)) (pos (suc m)) e units k.low) in
    let b_high : suc m * units ≤ suc q * e = omega (arith, parts_out (pos (suc m)) (pos (suc q)) units e k.high) in
    record {
      positive = positive_product x.den (suc m) h.positive (omega arith);
      low = quotient_low l a.lo x.num (suc p) (suc q) (suc m) x.den e (floor_positive l a.lo p quotients.below.first) (floor_positive l a.lo q quotients.below.second) h.low b_low b_high;
      high = un_negate g x.num (x.den * suc m) e
          (quotient_low (neg_ℤ g) (neg_ℤ a.hi) (neg_ℤ x.num) (suc p) (suc q) (suc m) x.den e (ceil_positive g a.hi p quotients.above.third) (ceil_positive g a.hi q quotients.above.fourth) (negative_low a.hi x.num x.den h.high) b_low b_high);
    }
quotient_held_by l g a (negsuc p) (negsuc q) x (negsuc m) e apart ordered quotients h k =
    let b_low : suc q * e ≤ suc m * units = omega (arith, parts_out (negsuc m) (negsuc q) units e k.high) in
    let b_high : suc m * units ≤ suc p * e = omega (arith, parts_out (negsuc p) (negsuc m) e units k.low) in
    record {
      positive = positive_product x.den (suc m) h.positive (omega arith);
      low = rw (negative_times x.num e) at (quotient_low l (neg_ℤ a.hi) (neg_ℤ x.num) (suc q) (suc p) (suc m) x.den e (floor_negative l a.hi q quotients.below.fourth) (floor_negative l a.hi p quotients.below.third) (negative_low a.hi x.num x.den h.high) b_low b_high);
      high = un_turn g (x.num *ℤ pos e) (x.den * suc m)
          (quotient_low (neg_ℤ g) a.lo x.num (suc q) (suc p) (suc m) x.den e (ceil_negative g a.lo q quotients.above.second) (ceil_negative g a.lo p quotients.above.first) h.low b_low b_high);
    }
quotient_held_by l g a (pos zero) b1 x m e apart ordered quotients h k = absurd (⊎_elim (λ (p : pos 0 <ℤ pos 0). absurd (omega (arith, ints))) (λ (n : b1 <ℤ pos 0). absurd (omega (arith, ints))) apart)
quotient_held_by l g a (pos (suc p)) (pos zero) x m e apart ordered quotients h k = absurd (omega (arith, ints))
quotient_held_by l g a (pos (suc p)) (negsuc q) x m e apart ordered quotients h k = absurd (omega (arith, ints))
quotient_held_by l g a (pos (suc p)) (pos (suc q)) x (pos zero) e apart ordered quotients h k = absurd (omega (arith, parts_out (pos (suc p)) (pos 0) e units k.low, k.positive))
quotient_held_by l g a (pos (suc p)) (pos (suc q)) x (negsuc m) e apart ordered quotients h k = absurd (omega (arith, parts_out (pos (suc p)) (negsuc m) e units k.low, k.positive))
quotient_held_by l g a (negsuc p) (pos q) x m e apart ordered quotients h k = absurd (⊎_elim (λ (n : pos 0 <ℤ negsuc p). absurd (omega (arith, ints))) (λ (n : pos q <ℤ pos 0). absurd (omega (arith, ints))) apart)
quotient_held_by l g a (negsuc p) (negsuc q) x (pos m) e apart ordered quotients h k = absurd (omega (arith, parts_out (pos m) (negsuc q) units e k.high, k.positive))

-- 0 is not within the ends
apart_case : (l h : ℤ) (s t : Bool) → int_le l (pos 0) ≡ s → int_le (pos 0) h ≡ t → (s && t) ≡ false → (pos 0 <ℤ l) ⊎ (h <ℤ pos 0)
apart_case l h true true e g is = absurd (cc)
apart_case l h true false e g is = inr (below_in h (pos 0) (omega (arith, le-false (pos 0) h g)))
apart_case l h false t e g is = inl (below_in (pos 0) l (omega (arith, le-false l (pos 0) e)))

-- An interval without 0 is all above 0 or all below it.
pub apart : (b : Ends) → has_zero b ≡ false → (pos 0 <ℤ b.lo) ⊎ (b.hi <ℤ pos 0)
apart b is = apart_case b.lo b.hi (int_le b.lo (pos 0)) (int_le (pos 0) b.hi) refl refl is

-- The quotient of two intervals brackets the quotient of what they bracket, where 0 is not in the divisor.
pub quotient_held : (a b : Ends) (x y : Fraction) → has_zero b ≡ false → b.lo ≤ℤ b.hi → Holds a x → Holds b y → Holds (quotient_ends a b) (quotient x y)
quotient_held a b x y clear ordered h g =
    quotient_held_by (quotient_ends a b).lo (quotient_ends a b).hi a b.lo b.hi x y.num y.den (apart b clear) ordered
    (record {
      below = least_within (quotient_below a.lo b.lo) (quotient_below a.lo b.hi) (quotient_below a.hi b.lo) (quotient_below a.hi b.hi);
      above = greatest_within (quotient_above a.lo b.lo) (quotient_above a.lo b.hi) (quotient_above a.hi b.lo) (quotient_above a.hi b.hi);
    }) h g

-- a floor is at most the ceiling
sum_cancel : (f g n : ℤ) (d : ℕ) → (f *ℤ pos (suc d)) ≤ℤ n → (g *ℤ pos (suc d)) ≤ℤ neg_ℤ n → f ≤ℤ neg_ℤ g
sum_cancel f g n d h k =
    let both : (up f + up g) * suc d ≤ (down f + down g) * suc d = omega (arith, le_out (f *ℤ pos (suc d)) n h, le_out (g *ℤ pos (suc d)) (neg_ℤ n) k, product_is f (pos (suc d)), product_is g (pos (suc d)), neg_is n) in
    at_most_in f (neg_ℤ g) (omega (arith, le_of_mul-le-mul_right both (let s : 0 < suc d = omega arith in s), neg_is g))

-- The floor of a quotient is at most its ceiling.
pub floor_at_most_ceil : (n y : ℤ) → y ≢ pos 0 → floor_quotient n y ≤ℤ ceil_quotient n y
floor_at_most_ceil n (pos zero) some = absurd (some refl)
floor_at_most_ceil n (pos (suc d)) some = sum_cancel (floor_quotient n (pos (suc d))) (floor_quotient (neg_ℤ n) (pos (suc d))) n d (floor_over n d) (floor_over (neg_ℤ n) d)
floor_at_most_ceil n (negsuc d) some = sum_cancel (floor_quotient n (negsuc d)) (floor_quotient (neg_ℤ n) (negsuc d)) (neg_ℤ n) d (floor_over (neg_ℤ n) d) (floor_over (neg_ℤ (neg_ℤ n)) d)

-- No end of an interval without 0 is 0.
pub nonzero : (b : Ends) → has_zero b ≡ false → b.lo ≤ℤ b.hi → (b.lo ≢ pos 0) × (b.hi ≢ pos 0)
nonzero b clear ordered = ((λ (e : b.lo ≡ pos 0). away (apart b clear) (same_out b.lo (pos 0) e)), (λ (e : b.hi ≡ pos 0). away_high (apart b clear) (same_out b.hi (pos 0) e)))
  where
    away : (pos 0 <ℤ b.lo) ⊎ (b.hi <ℤ pos 0) → (up b.lo ≡ 0) × (down b.lo ≡ 0) → ⊥
    away which e = ⊎_elim (λ (p : pos 0 <ℤ b.lo). omega (arith, ints, e)) (λ (n : b.hi <ℤ pos 0). omega (arith, ints, e)) which

    away_high : (pos 0 <ℤ b.lo) ⊎ (b.hi <ℤ pos 0) → (up b.hi ≡ 0) × (down b.hi ≡ 0) → ⊥
    away_high which e = ⊎_elim (λ (p : pos 0 <ℤ b.lo). omega (arith, ints, e)) (λ (n : b.hi <ℤ pos 0). omega (arith, ints, e)) which

-- The ends of a quotient are in order.
pub quotient_ordered : (a b : Ends) → b.lo ≢ pos 0 → (quotient_ends a b).lo ≤ℤ (quotient_ends a b).hi
quotient_ordered a b some =
    let below = least_within (quotient_below a.lo b.lo) (quotient_below a.lo b.hi) (quotient_below a.hi b.lo) (quotient_below a.hi b.hi) in
    let above = greatest_within (quotient_above a.lo b.lo) (quotient_above a.lo b.hi) (quotient_above a.hi b.lo) (quotient_above a.hi b.hi) in
    le_then (quotient_ends a b).lo (quotient_below a.lo b.lo) (quotient_ends a b).hi below.first
    (le_then (quotient_below a.lo b.lo) (quotient_above a.lo b.lo) (quotient_ends a b).hi (floor_at_most_ceil (a.lo *ℤ pos units) b.lo some) above.first)

not_refused_case : (r q : Result Ends NumberFault) (t : Bool) → t ≡ false → r ≡ q → r ≡ cond t (Err ZeroDivisor) q
not_refused_case r q true clear is = absurd (cc)
not_refused_case r q false clear is = is

-- Where 0 is not in the divisor, the limited quotient is the whole answer of a division.
pub not_refused : (r : Result Ends NumberFault) (a b : Ends) → has_zero b ≡ false → r ≡ limited (quotient_ends a b) → r ≡ quotient_of a b
not_refused r a b clear is = not_refused_case r (limited (quotient_ends a b)) (has_zero b) clear is

-- ---- the exponential
times_low : (u v dx dy m n : ℕ) → u * dx ≤ m * units → v * dy ≤ n * units → (u * v) * (dx * dy) ≤ (m * n) * (units * units)
times_low u v dx dy m n h g = let h1 : (u * dx) * (v * dy) ≤ (m * units) * (n * units) = mul-le (u * dx) (v * dy) (m * units) (n * units) h g in omega (arith, h1)

times_high : (u v dx dy m n : ℕ) → m * units ≤ u * dx → n * units ≤ v * dy → (m * n) * (units * units) ≤ (u * v) * (dx * dy)
times_high u v dx dy m n h g = let h1 : (m * units) * (n * units) ≤ (u * dx) * (v * dy) = mul-le (m * units) (n * units) (u * dx) (v * dy) h g in omega (arith, h1)

end_low : (e a b : ℕ) → e * a + b * units ≤ a * units → (pos e *ℤ pos a) ≤ℤ ((pos a -ℤ pos b) *ℤ pos units)
end_low e a b h = parts_in (pos e) (pos a -ℤ pos b) a units (omega (arith, h, sum_is_lem (pos a) (neg_ℤ (pos b)), neg_is (pos b)))

end_high : (e a b : ℕ) → a * units ≤ e * a + b * units → ((pos a -ℤ pos b) *ℤ pos units) ≤ℤ (pos e *ℤ pos a)
end_high e a b h = parts_in (pos a -ℤ pos b) (pos e) units a (omega (arith, h, sum_is_lem (pos a) (neg_ℤ (pos b)), neg_is (pos b)))

-- The ends of the exponential bracket each exact Taylor sum that is at least as long.
pub exponential_held : (rate time : Ends) (m : ℕ) (x y : Fraction) → last_term ≤ m → Holds rate x → Holds time y
    → Holds (record { lo = pos (lower_end_at (raised rate.lo * raised time.lo)); hi = pos (upper_end_at (raised rate.hi * raised time.hi)) }) (exponential_at m x y)
exponential_held rate time m x y long h g =
    let n : ℕ = raised x.num * raised y.num in
    let d : ℕ = x.den * y.den in
    let low = times_low (raised rate.lo) (raised time.lo) x.den y.den (raised x.num) (raised y.num) (raised_low rate.lo x.num x.den h.low) (raised_low time.lo y.num y.den g.low) in
    let high = times_high (raised rate.hi) (raised time.hi) x.den y.den (raised x.num) (raised y.num) (raised_high rate.hi x.num x.den h.high) (raised_high time.hi y.num y.den g.high) in
    record {
      positive = numerator_some n d m (positive_product x.den y.den h.positive g.positive);
      low = end_low (lower_end_at (raised rate.lo * raised time.lo)) (numerator n d m) (denominator d m) (lower_end_brackets (raised rate.lo * raised time.lo) n d m long low);
      high = end_high (upper_end_at (raised rate.hi * raised time.hi)) (numerator n d m) (denominator d m) (upper_end_brackets (raised rate.hi * raised time.hi) n d m long high);
    }

exponential_case : (P : Ends → Type 0) (r e : Ends) (t : Bool) → Ok r ≡ cond t (Err Negative) (Ok e) → P e → P r
exponential_case P r e true is h = absurd (cc)
exponential_case P r e false is h = let same : e ≡ r = cc in subst P same h

-- What holds of the ends of the exponential holds of an interval that it answers.
pub held_if_exponential : (P : Ends → Type 0) (rate time r : Ends) → Ok r ≡ exponential_of rate time
    → P (record { lo = pos (lower_end_at (raised rate.lo * raised time.lo)); hi = pos (upper_end_at (raised rate.hi * raised time.hi)) }) → P r
held_if_exponential P rate time r is h = exponential_case P r (record { lo = pos (lower_end_at (raised rate.lo * raised time.lo)); hi = pos (upper_end_at (raised rate.hi * raised time.hi)) }) (int_lt rate.hi (pos 0) || int_lt time.hi (pos 0)) is h

-- ---- decimals
-- A negated interval brackets the negated fraction.
pub negative_held : (a : Ends) (x : Fraction) → Holds a x → Holds (negative_ends a) (minus x)
negative_held a x h = record {
  positive = h.positive;
  low = negative_low a.hi x.num x.den h.high;
  high = negative_high a.lo x.num x.den h.low;
}

power_sum : (i j k : ℕ) → i + j ≡ k → 10 ^ k ≡ 10 ^ i * 10 ^ j
power_sum i j k e = ap (λ (n : ℕ). 10 ^ n) (sym e) ∙ pow-add 10 i j

ten_some : (k : ℕ) → 0 < 10 ^ k
ten_some k = let ten : 0 < 10 = omega arith in omega (arith, one-le-pow k 10 ten)

-- The interval of a decimal without its sign brackets the decimal's magnitude.
pub magnitude_held : (digits : ℕ) (e s : ℤ) → s ≡ (e +ℤ pos 12) → Holds (positive_ends digits s) (magnitude digits e)
magnitude_held digits (pos high) (pos k) is =
    let all = ap (λ (t : ℕ). digits * t) (power_sum high 12 k (omega (arith, ints))) in
    record {
      positive = omega arith;
      low = parts_in (pos (digits * 10 ^ k)) (pos (digits * 10 ^ high)) 1 units (omega (arith, all));
      high = parts_in (pos (digits * 10 ^ high)) (pos (digits * 10 ^ k)) units 1 (omega (arith, all));
    }
magnitude_held digits (pos high) (negsuc k) is = absurd (omega (arith, ints))
magnitude_held digits (negsuc down) (pos k) is =
    let all = ap (λ (t : ℕ). digits * t) (power_sum k (suc down) 12 (omega (arith, ints))) in
    record {
      positive = ten_some (suc down);
      low = parts_in (pos (digits * 10 ^ k)) (pos digits) (10 ^ suc down) units (omega (arith, all));
      high = parts_in (pos digits) (pos (digits * 10 ^ k)) units (10 ^ suc down) (omega (arith, all));
    }
magnitude_held digits (negsuc down) (negsuc k) is =
    let below : digits / 10 ^ suc k * 10 ^ suc k ≤ digits = div-mul-le_self digits (10 ^ suc k) in
    let above : digits ≤ div_ceil digits (10 ^ suc k) * 10 ^ suc k = (div_ceil_times digits (10 ^ suc k) (ten_some (suc k))).0 in
    let low_all = ap (λ (t : ℕ). digits / 10 ^ suc k * t) (power_sum (suc k) 12 (suc down) (omega (arith, ints))) in
    let high_all = ap (λ (t : ℕ). div_ceil digits (10 ^ suc k) * t) (power_sum (suc k) 12 (suc down) (omega (arith, ints))) in
    record {
      positive = ten_some (suc down);
      low = parts_in (pos (digits / 10 ^ suc k)) (pos digits) (10 ^ suc down) units (omega (arith, below, low_all));
      high = parts_in (pos digits) (pos (div_ceil digits (10 ^ suc k))) units (10 ^ suc down) (omega (arith, above, high_all));
    }

decimal_case : (digits : ℕ) (e : ℤ) (t : Bool) → Holds (cond t (negative_ends (positive_ends digits (e +ℤ pos 12))) (positive_ends digits (e +ℤ pos 12))) (cond t (minus (magnitude digits e)) (magnitude digits e))
decimal_case digits e true = negative_held (positive_ends digits (e +ℤ pos 12)) (magnitude digits e) (magnitude_held digits e (e +ℤ pos 12) refl)
decimal_case digits e false = magnitude_held digits e (e +ℤ pos 12) refl

-- The interval of a decimal brackets the number that the decimal is.
pub decimal_held : (d : Scaled) → Holds (decimal_ends d) (fraction_of d)
decimal_held d = decimal_case d.digits d.exponent d.negative
