-- Worked examples of `narrowed`, and of sums, products and quotients in binary32, by computation alone. `fin s m e` is ± m * 2 ^ e, and `negsuc k` is
-- -(k + 1). Assumes nothing.
use mathlib.Core.Path.{◌≡◌, refl}
use mathlib.Core.Bool.{true, false}
use lib.IntN.{pos, negsuc}
use lib.Ieee.{nan, inf, fin, binary32, binary64, add, mul, div, is_nan, of_bits, to_bits}
use Rattle.rounding.specs.Narrow.{pattern, narrowed_bits, narrowed}

-- 1 + 2 ^ -24 lies half way between 1 and 1 + 2 ^ -23, and 1 is the even one
pub case_7_tie_down : narrowed (fin false 16777217 (negsuc 23)) ≡ fin false 1 (pos 0)
unfolding narrowed narrowed_bits pattern is_nan to_bits of_bits
case_7_tie_down = refl

-- 1 + 3 * 2 ^ -24 lies half way between 1 + 2 ^ -23 and 1 + 2 ^ -22, and the latter is the even one
pub case_7_tie_up : narrowed (fin false 16777219 (negsuc 23)) ≡ fin false 4194305 (negsuc 21)
unfolding narrowed narrowed_bits pattern is_nan to_bits of_bits
case_7_tie_up = refl

-- 2 ^ -150 lies half way between 0 and the smallest f32, 2 ^ -149
pub case_7_to_zero : narrowed (fin false 1 (negsuc 149)) ≡ fin false 0 (pos 0)
unfolding narrowed narrowed_bits pattern is_nan to_bits of_bits
case_7_to_zero = refl

-- the next f64 below -2 ^ -150 rounds away from 0
pub past_tie : narrowed (fin true 4503599627370497 (negsuc 201)) ≡ fin true 1 (negsuc 148)
unfolding narrowed narrowed_bits pattern is_nan to_bits of_bits
past_tie = refl

-- 2 ^ 128 - 2 ^ 103 = 33554431 * 2 ^ 103 is the least number that is too large; the f64 before it gives the largest f32, 16777215 * 2 ^ 104
pub too_large : narrowed (fin true 33554431 (pos 103)) ≡ inf true
unfolding narrowed narrowed_bits pattern is_nan to_bits of_bits
too_large = refl

pub largest : narrowed (fin false 9007198986305535 (pos 75)) ≡ fin false 16777215 (pos 104)
unfolding narrowed narrowed_bits pattern is_nan to_bits of_bits
largest = refl

-- a zero keeps its sign
pub minus_zero_lem : narrowed (fin true 0 (pos 0)) ≡ fin true 0 (pos 0)
unfolding narrowed narrowed_bits pattern is_nan to_bits of_bits
minus_zero_lem = refl

-- by bit patterns: 0.1, minus infinity, and a NaN
pub tenth : narrowed (of_bits binary64 0x3fb9_9999_9999_999a) ≡ of_bits binary32 0x3dcc_cccd
unfolding narrowed narrowed_bits pattern is_nan to_bits of_bits
tenth = refl

pub infinite : narrowed (of_bits binary64 0xfff0_0000_0000_0000) ≡ of_bits binary32 0xff80_0000
unfolding narrowed narrowed_bits pattern is_nan to_bits of_bits
infinite = refl

pub not_a_number : narrowed (of_bits binary64 0xfff0_0000_0000_0001) ≡ nan
unfolding narrowed is_nan of_bits
not_a_number = refl

-- ---- `one_times` and `zero_plus`
-- 1 × x is x for a subnormal x too: -5 * 2 ^ -149
pub one_times_subnormal : mul binary32 (fin false 1 (pos 0)) (fin true 5 (negsuc 148)) ≡ fin true 5 (negsuc 148)
unfolding mul
one_times_subnormal = refl

-- but not where binary32 does not hold x: 1 + 2 ^ -24
pub one_times_wider : mul binary32 (fin false 1 (pos 0)) (fin false 16777217 (negsuc 23)) ≡ fin false 1 (pos 0)
unfolding mul
one_times_wider = refl

-- +0 + x is x for the negative value nearest to 0, -2 ^ -149
pub zero_plus_smallest : add binary32 (fin false 0 (pos 0)) (fin true 1 (negsuc 148)) ≡ fin true 1 (negsuc 148)
unfolding add
zero_plus_smallest = refl

-- but not for -0
pub zero_plus_minus_zero : add binary32 (fin false 0 (pos 0)) (fin true 0 (pos 0)) ≡ fin false 0 (pos 0)
unfolding add
zero_plus_minus_zero = refl

-- ---- a sum, a product and a quotient are the exact one, rounded
-- 1 + 2 ^ -24 is off by about a 2 ^ 24 th
pub sum_tie : add binary32 (fin false 1 (pos 0)) (fin false 1 (negsuc 23)) ≡ fin false 1 (pos 0)
unfolding add
sum_tie = refl

-- 2 ^ -100 * 2 ^ -50 is off by half of the smallest value, and all of it is lost
pub product_lost : mul binary32 (fin false 1 (negsuc 99)) (fin false 1 (negsuc 49)) ≡ fin false 0 (pos 0)
unfolding mul
product_lost = refl

-- 1 / 3, by its bits
pub third : div binary32 (fin false 1 (pos 0)) (fin false 3 (pos 0)) ≡ of_bits binary32 0x3eaa_aaab
unfolding div of_bits
third = refl
