-- Integers as ends of intervals: scaled, rounded, multiplied, held to 0 and 1, and read back from their bits.
use Rattle.std.proofs.Common.{ℕ, ℤ, pos, negsuc, neg_ℤ, suc, Bool, true, false, cond, int_lt, ap₂, ◌<ℤ◌, ◌≡◌, ◌+◌, ◌*◌, ◌/◌, ◌^◌, ◌<◌, ◌≤◌, ◌+ℤ◌, ◌-ℤ◌, ◌*ℤ◌, ◌≤ℤ◌, unsigned_abs, to_z, of_z, arith, ap, ◌∙◌}
use Rattle.std.specs.Int.{w128, int_div_euclid, int_min, int_max}
use lib.Signed.{mag}
use Rattle.std.proofs.lemmas.Int.{ints, clamps, to_z_pos, fits_signed_from_abs, to_z-of_z}
use Rattle.std.proofs.lemmas.Nat.{mul-le, div-add-mod', mod_below}
use Rattle.std.proofs.Math.Nat.{mul-le-mul_right, div-mul-le_self}
use borrow.Author.Differences.{up, down, le_out, lt_out, at_most_in, below_in, product_is, sum_is_lem, neg_is}
use Rattle.psa_number.specs.Units.{units, floor_units, ceil_units, least, greatest}
use Rattle.psa_number.specs.Ends.{Ends, IsInterval}
use Rattle.psa_number.specs.Exponential.{raised}
use Rattle.psa_number.specs.Operations.{held_to_unit, IsInUnit}

-- two naturals that are ends
pub natural_ends : (lo hi : ℕ) → lo ≤ hi → hi ≤ units → IsInterval (to_z w128 lo) (to_z w128 hi)
natural_ends lo hi ordered small =
    let lo_is : to_z w128 lo ≡ pos lo = to_z_pos w128 lo (omega arith) in
    let hi_is : to_z w128 hi ≡ pos hi = to_z_pos w128 hi (omega arith) in
    rw (lo_is, hi_is) (record {
      ordered = omega (arith, ints);
      lo_limited = omega arith;
      hi_limited = omega arith;
    })

-- to raise to 0 keeps the order
pub raised_grows : (x y : ℤ) → x ≤ℤ y → raised x ≤ raised y
raised_grows (pos a) (pos b) h = omega (arith, le_out (pos a) (pos b) h)
raised_grows (pos a) (negsuc b) h = absurd (omega (arith, le_out (pos a) (negsuc b) h))
raised_grows (negsuc a) y h = omega arith

-- A lower end stays one where it and its fraction are both raised to 0.
pub raised_low : (z m : ℤ) (d : ℕ) → (z *ℤ pos d) ≤ℤ (m *ℤ pos units) → raised z * d ≤ raised m * units
raised_low (pos a) (pos b) d h = omega (arith, le_out (pos a *ℤ pos d) (pos b *ℤ pos units) h)
raised_low (pos a) (negsuc b) d h = omega (arith, le_out (pos a *ℤ pos d) (negsuc b *ℤ pos units) h, product_is (negsuc b) (pos units))
raised_low (negsuc a) m d h = omega arith

-- An upper end stays one where it and its fraction are both raised to 0.
pub raised_high : (z m : ℤ) (d : ℕ) → (m *ℤ pos units) ≤ℤ (z *ℤ pos d) → raised m * units ≤ raised z * d
raised_high (pos a) (pos b) d h = omega (arith, le_out (pos b *ℤ pos units) (pos a *ℤ pos d) h)
raised_high (negsuc a) (pos b) d h = omega (arith, le_out (pos b *ℤ pos units) (negsuc a *ℤ pos d) h, product_is (negsuc a) (pos d))
raised_high z (negsuc b) d h = omega arith

-- an end, cast to its bits and read again
pub read_end : (z : ℤ) → unsigned_abs z ≤ 10 ^ 36 → to_z w128 (of_z w128 z) ≡ z
read_end z small = to_z-of_z w128 z (fits_signed_from_abs w128 z (omega (arith, small)))

-- ---- products by naturals, in the two parts of an integer
-- An order of two scaled integers, as an order of naturals: by their parts above and below 0.
pub parts_out : (x y : ℤ) (k j : ℕ) → (x *ℤ pos k) ≤ℤ (y *ℤ pos j) → up x * k + down y * j ≤ up y * j + down x * k
parts_out x y k j h = omega (arith, le_out (x *ℤ pos k) (y *ℤ pos j) h, product_is x (pos k), product_is y (pos j))

-- An order of two scaled integers follows from the order of naturals of their parts above and below 0.
pub parts_in : (x y : ℤ) (k j : ℕ) → up x * k + down y * j ≤ up y * j + down x * k → (x *ℤ pos k) ≤ℤ (y *ℤ pos j)
parts_in x y k j h = at_most_in (x *ℤ pos k) (y *ℤ pos j) (omega (arith, h, product_is x (pos k), product_is y (pos j)))

-- The order of integers is transitive.
pub le_then : (x y z : ℤ) → x ≤ℤ y → y ≤ℤ z → x ≤ℤ z
le_then x y z h g = omega (arith, ints)

-- ---- a product with one factor fixed
-- A product grows with its first factor where the second is a natural.
pub times_up : (x y : ℤ) (k : ℕ) → x ≤ℤ y → (x *ℤ pos k) ≤ℤ (y *ℤ pos k)
times_up x y k h = let h1 = mul-le-mul_right k (le_out x y h) in at_most_in (x *ℤ pos k) (y *ℤ pos k) (omega (arith, h1, product_is x (pos k), product_is y (pos k)))

-- A product falls as its first factor grows, where the second is below 0.
pub times_down : (x y : ℤ) (k : ℕ) → x ≤ℤ y → (y *ℤ negsuc k) ≤ℤ (x *ℤ negsuc k)
times_down x y k h = let h1 = mul-le-mul_right (suc k) (le_out x y h) in at_most_in (y *ℤ negsuc k) (x *ℤ negsuc k) (omega (arith, h1, product_is x (negsuc k), product_is y (negsuc k)))

-- A product grows with its second factor where the first is a natural.
pub by_up : (x y : ℤ) (k : ℕ) → x ≤ℤ y → (pos k *ℤ x) ≤ℤ (pos k *ℤ y)
by_up x y k h = let h1 = mul-le-mul_right k (le_out x y h) in at_most_in (pos k *ℤ x) (pos k *ℤ y) (omega (arith, h1, product_is (pos k) x, product_is (pos k) y))

-- A product falls as its second factor grows, where the first is below 0.
pub by_down : (x y : ℤ) (k : ℕ) → x ≤ℤ y → (negsuc k *ℤ y) ≤ℤ (negsuc k *ℤ x)
by_down x y k h = let h1 = mul-le-mul_right (suc k) (le_out x y h) in at_most_in (negsuc k *ℤ y) (negsuc k *ℤ x) (omega (arith, h1, product_is (negsuc k) x, product_is (negsuc k) y))

-- ---- the product of two numbers is between the least and the greatest of the products of their bounds
low_right : (l a y y0 y1 : ℤ) → y0 ≤ℤ y → y ≤ℤ y1 → l ≤ℤ (a *ℤ y0) → l ≤ℤ (a *ℤ y1) → l ≤ℤ (a *ℤ y)
low_right l (pos k) y y0 y1 h0 h1 p q = le_then l (pos k *ℤ y0) (pos k *ℤ y) p (by_up y0 y k h0)
low_right l (negsuc k) y y0 y1 h0 h1 p q = le_then l (negsuc k *ℤ y1) (negsuc k *ℤ y) q (by_down y y1 k h1)

-- What is at most each of the four products of the bounds is at most the product.
pub between_low : (l x x0 x1 y y0 y1 : ℤ) → x0 ≤ℤ x → x ≤ℤ x1 → y0 ≤ℤ y → y ≤ℤ y1
    → l ≤ℤ (x0 *ℤ y0) → l ≤ℤ (x0 *ℤ y1) → l ≤ℤ (x1 *ℤ y0) → l ≤ℤ (x1 *ℤ y1) → l ≤ℤ (x *ℤ y)
between_low l x x0 x1 (pos k) y0 y1 h0 h1 g0 g1 p00 p01 p10 p11 = le_then l (x0 *ℤ pos k) (x *ℤ pos k) (low_right l x0 (pos k) y0 y1 g0 g1 p00 p01) (times_up x0 x k h0)
between_low l x x0 x1 (negsuc k) y0 y1 h0 h1 g0 g1 p00 p01 p10 p11 = le_then l (x1 *ℤ negsuc k) (x *ℤ negsuc k) (low_right l x1 (negsuc k) y0 y1 g0 g1 p10 p11) (times_down x x1 k h1)

high_right : (l a y y0 y1 : ℤ) → y0 ≤ℤ y → y ≤ℤ y1 → (a *ℤ y0) ≤ℤ l → (a *ℤ y1) ≤ℤ l → (a *ℤ y) ≤ℤ l
high_right l (pos k) y y0 y1 h0 h1 p q = le_then (pos k *ℤ y) (pos k *ℤ y1) l (by_up y y1 k h1) q
high_right l (negsuc k) y y0 y1 h0 h1 p q = le_then (negsuc k *ℤ y) (negsuc k *ℤ y0) l (by_down y0 y k h0) p

-- What is at least each of the four products of the bounds is at least the product.
pub between_high : (l x x0 x1 y y0 y1 : ℤ) → x0 ≤ℤ x → x ≤ℤ x1 → y0 ≤ℤ y → y ≤ℤ y1
    → (x0 *ℤ y0) ≤ℤ l → (x0 *ℤ y1) ≤ℤ l → (x1 *ℤ y0) ≤ℤ l → (x1 *ℤ y1) ≤ℤ l → (x *ℤ y) ≤ℤ l
between_high l x x0 x1 (pos k) y0 y1 h0 h1 g0 g1 p00 p01 p10 p11 = le_then (x *ℤ pos k) (x1 *ℤ pos k) l (times_up x x1 k h1) (high_right l x1 (pos k) y0 y1 g0 g1 p10 p11)
between_high l x x0 x1 (negsuc k) y0 y1 h0 h1 g0 g1 p00 p01 p10 p11 = le_then (x *ℤ negsuc k) (x0 *ℤ negsuc k) l (times_down x0 x k h0) (high_right l x0 (negsuc k) y0 y1 g0 g1 p00 p01)

-- ---- floors and ceilings
below_next : (a d : ℕ) → suc a ≤ suc (a / suc d) * suc d
below_next a d = let some : 0 < suc d = omega arith in omega (arith, div-add-mod' a (suc d), mod_below a (suc d) some)

-- The floor of a quotient, times the divisor, is at most the dividend.
pub floor_over : (z : ℤ) (d : ℕ) → (int_div_euclid z (pos (suc d)) *ℤ pos (suc d)) ≤ℤ z
floor_over (pos a) d = at_most_in (pos (a / suc d) *ℤ pos (suc d)) (pos a) (omega (arith, div-mul-le_self a (suc d)))
floor_over (negsuc a) d = at_most_in (negsuc (a / suc d) *ℤ pos (suc d)) (negsuc a) (omega (arith, product_is (negsuc (a / suc d)) (pos (suc d)), below_next a d))

above_next : (a d : ℕ) → a < a / suc d * suc d + suc d
above_next a d = let some : 0 < suc d = omega arith in omega (arith, div-add-mod' a (suc d), mod_below a (suc d) some)

-- The dividend is less than one divisor above the floor of the quotient times the divisor.
pub floor_under : (z : ℤ) (d : ℕ) → z <ℤ ((int_div_euclid z (pos (suc d)) *ℤ pos (suc d)) +ℤ pos (suc d))
floor_under (pos a) d = below_in (pos a) ((pos (a / suc d) *ℤ pos (suc d)) +ℤ pos (suc d)) (omega (arith, above_next a d))
floor_under (negsuc a) d =
    below_in (negsuc a) ((negsuc (a / suc d) *ℤ pos (suc d)) +ℤ pos (suc d))
    (omega (arith, product_is (negsuc (a / suc d)) (pos (suc d)), sum_is_lem (negsuc (a / suc d) *ℤ pos (suc d)) (pos (suc d)), div-mul-le_self a (suc d)))

-- A number rounded down to whole units is at most the number.
pub floor_below : (z : ℤ) → (floor_units z *ℤ pos units) ≤ℤ z
floor_below z = floor_over z 999999999999

-- A number rounded down to whole units is less than one unit below the number.
pub floor_close : (z : ℤ) → z <ℤ ((floor_units z *ℤ pos units) +ℤ pos units)
floor_close z = floor_under z 999999999999

turn : (f z : ℤ) → (f *ℤ pos units) ≤ℤ neg_ℤ z → z ≤ℤ (neg_ℤ f *ℤ pos units)
turn f z h = at_most_in z (neg_ℤ f *ℤ pos units) (omega (arith, le_out (f *ℤ pos units) (neg_ℤ z) h, neg_is z, neg_is f, product_is f (pos units), product_is (neg_ℤ f) (pos units)))

-- A number rounded up to whole units is at least the number.
pub ceil_above : (z : ℤ) → z ≤ℤ (ceil_units z *ℤ pos units)
ceil_above z = turn (floor_units (neg_ℤ z)) z (floor_below (neg_ℤ z))

turn_close : (f z : ℤ) → neg_ℤ z <ℤ ((f *ℤ pos units) +ℤ pos units) → (neg_ℤ f *ℤ pos units) <ℤ (z +ℤ pos units)
turn_close f z h = below_in (neg_ℤ f *ℤ pos units) (z +ℤ pos units)
    (omega (arith, lt_out (neg_ℤ z) ((f *ℤ pos units) +ℤ pos units) h, sum_is_lem (f *ℤ pos units) (pos units), sum_is_lem z (pos units), neg_is z, neg_is f, product_is f (pos units), product_is (neg_ℤ f) (pos units)))

-- A number rounded up to whole units is less than one unit above the number.
pub ceil_close : (z : ℤ) → (ceil_units z *ℤ pos units) <ℤ (z +ℤ pos units)
ceil_close z = turn_close (floor_units (neg_ℤ z)) z (floor_close (neg_ℤ z))

-- what is at most the other in units is at most the other
pub units_cancel : (f c : ℤ) → (f *ℤ pos units) ≤ℤ (c *ℤ pos units) → f ≤ℤ c
units_cancel f c h = at_most_in f c (omega (arith, parts_out f c units units h))

-- The floor of a number is at most the ceiling of one that is not less.
pub floor_ceil : (l g : ℤ) → l ≤ℤ g → floor_units l ≤ℤ ceil_units g
floor_ceil l g h = units_cancel (floor_units l) (ceil_units g) (le_then (floor_units l *ℤ pos units) l (ceil_units g *ℤ pos units) (floor_below l) (le_then l g (ceil_units g *ℤ pos units) h (ceil_above g)))

-- ---- the least and the greatest
cond_keeps : (P : ℤ → Type 0) (t : Bool) (x y : ℤ) → P x → P y → P (cond t x y)
cond_keeps P true x y p q = p
cond_keeps P false x y p q = q

-- What holds of both numbers holds of the less.
pub min_keeps : (P : ℤ → Type 0) (x y : ℤ) → P x → P y → P (int_min x y)
min_keeps P x y p q = cond_keeps P (int_lt y x) y x q p

-- What holds of both numbers holds of the greater.
pub max_keeps : (P : ℤ → Type 0) (x y : ℤ) → P x → P y → P (int_max x y)
max_keeps P x y p q = cond_keeps P (int_lt y x) x y p q

-- What holds of all four numbers holds of the least.
pub least_keeps : (P : ℤ → Type 0) (a b c d : ℤ) → P a → P b → P c → P d → P (least a b c d)
least_keeps P a b c d p q r s = min_keeps P (int_min a b) (int_min c d) (min_keeps P a b p q) (min_keeps P c d r s)

-- What holds of all four numbers holds of the greatest.
pub greatest_keeps : (P : ℤ → Type 0) (a b c d : ℤ) → P a → P b → P c → P d → P (greatest a b c d)
greatest_keeps P a b c d p q r s = max_keeps P (int_max a b) (int_max c d) (max_keeps P a b p q) (max_keeps P c d r s)

-- l is at most each of the four numbers
pub record IsLeast (l a b c d : ℤ) : Type 0 where
  pub first : l ≤ℤ a
  pub second : l ≤ℤ b
  pub third : l ≤ℤ c
  pub fourth : l ≤ℤ d

-- The least of four numbers is at most each of them.
pub least_within : (a b c d : ℤ) → IsLeast (least a b c d) a b c d
least_within a b c d = record {
  first = omega (arith, ints, clamps);
  second = omega (arith, ints, clamps);
  third = omega (arith, ints, clamps);
  fourth = omega (arith, ints, clamps);
}

-- l is at least each of the four numbers
pub record IsGreatest (l a b c d : ℤ) : Type 0 where
  pub first : a ≤ℤ l
  pub second : b ≤ℤ l
  pub third : c ≤ℤ l
  pub fourth : d ≤ℤ l

-- The greatest of four numbers is at least each of them.
pub greatest_within : (a b c d : ℤ) → IsGreatest (greatest a b c d) a b c d
greatest_within a b c d = record {
  first = omega (arith, ints, clamps);
  second = omega (arith, ints, clamps);
  third = omega (arith, ints, clamps);
  fourth = omega (arith, ints, clamps);
}

-- ---- what a call is given: its argument, cast to its bits and read again
-- a number as a call reads it from its 128 bits
abbrev pub read : ℤ → ℤ
read z = to_z w128 (of_z w128 z)

-- A number whose magnitude is below 2^127 is read back as it is.
pub read_back : (z : ℤ) → mag z < 2 ^ 127 → read z ≡ z
read_back z fits = to_z-of_z w128 z (record { sfits = fits })

-- A product of numbers as they are read is the product of the numbers, where both are within the limit.
pub product_read : (r x y : ℤ) → r ≡ (read x *ℤ read y) → unsigned_abs x ≤ 10 ^ 18 → unsigned_abs y ≤ 10 ^ 18 → r ≡ (x *ℤ y)
product_read r x y is small_x small_y = is ∙ ap₂ (λ (s t : ℤ). s *ℤ t) (read_end x (omega (arith, small_x))) (read_end y (omega (arith, small_y)))

-- The least of four numbers as they are read is the least of the numbers, where they fit.
pub least_read : (l a b c d : ℤ) → l ≡ least (read a) (read b) (read c) (read d) → mag a < 2 ^ 127 → mag b < 2 ^ 127 → mag c < 2 ^ 127 → mag d < 2 ^ 127 → l ≡ least a b c d
least_read l a b c d is fa fb fc fd = is ∙ ap₂ (λ (s t : ℤ). least s t (read c) (read d)) (read_back a fa) (read_back b fb) ∙ ap₂ (λ (s t : ℤ). least a b s t) (read_back c fc) (read_back d fd)

-- The greatest of four numbers as they are read is the greatest of the numbers, where they fit.
pub greatest_read : (g a b c d : ℤ) → g ≡ greatest (read a) (read b) (read c) (read d) → mag a < 2 ^ 127 → mag b < 2 ^ 127 → mag c < 2 ^ 127 → mag d < 2 ^ 127 → g ≡ greatest a b c d
greatest_read g a b c d is fa fb fc fd = is ∙ ap₂ (λ (s t : ℤ). greatest s t (read c) (read d)) (read_back a fa) (read_back b fb) ∙ ap₂ (λ (s t : ℤ). greatest a b s t) (read_back c fc) (read_back d fd)

-- An answer for a number as it is read is the answer for the number, where it is within the limit.
pub one_read : (f : ℤ → ℤ) (r x : ℤ) → r ≡ f (read x) → unsigned_abs x ≤ 10 ^ 18 → r ≡ f x
one_read f r x is small = is ∙ ap f (read_end x (omega (arith, small)))

-- An answer for two numbers as they are read is the answer for the numbers, where they are within the limit.
pub two_read : (f : ℤ → ℤ → ℤ) (r x y : ℤ) → r ≡ f (read x) (read y) → unsigned_abs x ≤ 10 ^ 18 → unsigned_abs y ≤ 10 ^ 18 → r ≡ f x y
two_read f r x y is small_x small_y = is ∙ ap₂ f (read_end x (omega (arith, small_x))) (read_end y (omega (arith, small_y)))

-- The sum of two numbers within the limit is read back, and so are its terms.
pub sum_read : (x y : ℤ) → unsigned_abs x ≤ 10 ^ 18 → unsigned_abs y ≤ 10 ^ 18 → read (read x +ℤ read y) ≡ (x +ℤ y)
sum_read x y small_x small_y =
    let small : unsigned_abs (x +ℤ y) ≤ 10 ^ 36 = omega (arith, ints) in
    ap read (ap₂ (λ (s t : ℤ). s +ℤ t) (read_end x (omega (arith, small_x))) (read_end y (omega (arith, small_y)))) ∙ read_end (x +ℤ y) small

-- The difference of two numbers within the limit is read back, and so are its terms.
pub difference_read : (x y : ℤ) → unsigned_abs x ≤ 10 ^ 18 → unsigned_abs y ≤ 10 ^ 18 → read (read x -ℤ read y) ≡ (x -ℤ y)
difference_read x y small_x small_y =
    let small : unsigned_abs (x -ℤ y) ≤ 10 ^ 36 = omega (arith, ints) in
    ap read (ap₂ (λ (s t : ℤ). s -ℤ t) (read_end x (omega (arith, small_x))) (read_end y (omega (arith, small_y)))) ∙ read_end (x -ℤ y) small

-- The least of four numbers is the least of four equal ones.
pub least_four : (a a' b b' c c' d d' : ℤ) → a ≡ a' → b ≡ b' → c ≡ c' → d ≡ d' → least a b c d ≡ least a' b' c' d'
least_four a a' b b' c c' d d' p q r s = ap₂ (λ (x y : ℤ). least x y c d) p q ∙ ap₂ (λ (x y : ℤ). least a' b' x y) r s

-- The greatest of four numbers is the greatest of four equal ones.
pub greatest_four : (a a' b b' c c' d d' : ℤ) → a ≡ a' → b ≡ b' → c ≡ c' → d ≡ d' → greatest a b c d ≡ greatest a' b' c' d'
greatest_four a a' b b' c c' d d' p q r s = ap₂ (λ (x y : ℤ). greatest x y c d) p q ∙ ap₂ (λ (x y : ℤ). greatest a' b' x y) r s

-- ---- ends within 0 and 1
-- the two ends are in order and within 0 and 1
pub record AreUnitEnds (lo hi : ℤ) : Type 0 where
  pub low : pos 0 ≤ℤ lo
  pub ordered : lo ≤ℤ hi
  pub high : hi ≤ℤ pos units

-- Ends within 0 and 1 are those of an interval within the limit.
pub interval_of_unit : (lo hi : ℤ) → AreUnitEnds lo hi → IsInterval lo hi
interval_of_unit lo hi ends = record {
  ordered = ends.ordered;
  lo_limited = omega (arith, ints);
  hi_limited = omega (arith, ints);
}

-- The sums of ends within 0 and 1, held at 1, are ends within 0 and 1.
pub sums_in_unit : (p q r s : ℤ) → AreUnitEnds p q → AreUnitEnds r s → AreUnitEnds (int_min (pos units) (p +ℤ r)) (int_min (pos units) (q +ℤ s))
sums_in_unit p q r s h g = record {
  low = omega (arith, ints, clamps);
  ordered = omega (arith, ints, clamps);
  high = omega (arith, ints, clamps);
}

-- Two numbers in order, held to 0 and 1, are ends within 0 and 1.
pub held_in_order : (p q : ℤ) → p ≤ℤ q → AreUnitEnds (held_to_unit p) (held_to_unit q)
held_in_order p q h = record {
  low = omega (arith, ints, clamps);
  ordered = omega (arith, ints, clamps);
  high = omega (arith, ints, clamps);
}

-- the product of two numbers within 0 and 1, in units of 10^-24
product_low_end : (p r : ℤ) → pos 0 ≤ℤ p → pos 0 ≤ℤ r → pos 0 ≤ℤ (p *ℤ r)
product_low_end (pos p) (pos r) h g = omega (arith, ints)
product_low_end (negsuc p) r h g = absurd (omega (arith, ints))
product_low_end p (negsuc r) h g = absurd (omega (arith, ints))

product_high_end : (q s : ℤ) → pos 0 ≤ℤ q → pos 0 ≤ℤ s → q ≤ℤ pos units → s ≤ℤ pos units → (q *ℤ s) ≤ℤ pos (units * units)
product_high_end (pos q) (pos s) h g small_q small_s = at_most_in (pos q *ℤ pos s) (pos (units * units)) (omega (arith, mul-le q s units units (omega (arith, ints)) (omega (arith, ints))))
product_high_end (negsuc q) s h g small_q small_s = absurd (omega (arith, ints))
product_high_end q (negsuc s) h g small_q small_s = absurd (omega (arith, ints))

product_grows : (p q r s : ℤ) → pos 0 ≤ℤ p → p ≤ℤ q → pos 0 ≤ℤ r → r ≤ℤ s → (p *ℤ r) ≤ℤ (q *ℤ s)
product_grows (pos p) (pos q) (pos r) (pos s) hp hq hr hs = le_then (pos p *ℤ pos r) (pos p *ℤ pos s) (pos q *ℤ pos s) (by_up (pos r) (pos s) p hs) (times_up (pos p) (pos q) s hq)
product_grows (negsuc p) q r s hp hq hr hs = absurd (omega (arith, ints))
product_grows p q (negsuc r) s hp hq hr hs = absurd (omega (arith, ints))
product_grows p (negsuc q) r s hp hq hr hs = absurd (omega (arith, ints))
product_grows p q r (negsuc s) hp hq hr hs = absurd (omega (arith, ints))

floor_at_least : (z : ℤ) → pos 0 ≤ℤ z → pos 0 ≤ℤ floor_units z
floor_at_least z h = let f : ℤ = floor_units z in at_most_in (pos 0) f
    (omega (arith, le_out (pos 0) z h, lt_out z ((f *ℤ pos units) +ℤ pos units) (floor_close z), sum_is_lem (f *ℤ pos units) (pos units), product_is f (pos units)))

ceil_at_unit : (z : ℤ) → z ≤ℤ pos (units * units) → ceil_units z ≤ℤ pos units
ceil_at_unit z h = let g : ℤ = ceil_units z in at_most_in g (pos units)
    (omega (arith, le_out z (pos (units * units)) h, lt_out (g *ℤ pos units) (z +ℤ pos units) (ceil_close z), sum_is_lem z (pos units), product_is g (pos units)))

-- The rounded products of ends within 0 and 1 are ends within 0 and 1.
pub products_in_unit : (p q r s : ℤ) → AreUnitEnds p q → AreUnitEnds r s → AreUnitEnds (floor_units (p *ℤ r)) (ceil_units (q *ℤ s))
products_in_unit p q r s h g = record {
  low = floor_at_least (p *ℤ r) (product_low_end p r h.low g.low);
  ordered = floor_ceil (p *ℤ r) (q *ℤ s) (product_grows p q r s h.low h.ordered g.low g.ordered);
  high = ceil_at_unit (q *ℤ s) (product_high_end q s (le_then (pos 0) p q h.low h.ordered) (le_then (pos 0) r s g.low g.ordered) h.high g.high);
}

-- The ends of an interval within 0 and 1 are ends within 0 and 1.
pub unit_ends_of : (a : Ends) → IsInUnit a → a.lo ≤ℤ a.hi → AreUnitEnds a.lo a.hi
unit_ends_of a inside ordered = record { low = inside.low; ordered = ordered; high = inside.high }
