-- An f64 rounded to an f32: to the nearest one, a tie to the even one. What is too large becomes an infinity, and a NaN stays a NaN. Definitions only.
use Rattle.std.specs.Prelude.{ℕ, ◌+◌, ◌-◌, ◌*◌, ◌/◌, ◌%◌, ◌^◌, Bool, ◌&&◌, ◌||◌, cond, ltb, eqb, Float}
use Rattle.std.specs.Float.{nan, inf, fin, Format, binary32, binary64}
use Rattle.std.specs.Float.Ieee.{up, down, round, is_nan, of_bits, to_bits}
use Rattle.std.specs.Float.Ieee.Nearest.{closest}

-- The f32's bits below its sign, from the f64's exponent field and its 53 digits, the leading one with them: the f64 is digits * 2 ^ (field - 1075).
-- `closest a b` is the whole number nearest to a / b, of two that are as near the even one.
-- Below 2 ^ -150 the result is 0; below 2 ^ -126 it counts in units of 2 ^ -149; then it has 24 digits, and each step of the field doubles the unit.
-- A carry out of the digits adds one to the f32's field, up to an infinity's, 255. From 2 ^ 128 on all are infinities.
-- (At the field 0 an f64 has no leading digit. All there is below 2 ^ -150, so it makes no difference.)
unfoldable pub pattern : ℕ → ℕ → ℕ
pattern field digits =
    cond (ltb field 873) 0
    (cond (ltb field 897) (closest digits (2 ^ (926 - field)))
    (cond (ltb field 1151) ((field - 897) * 2 ^ 23 + closest digits (2 ^ 29))
    (255 * 2 ^ 23)))

-- The f32's 32 bits from the f64's 64: the sign moves from bit 63 to bit 31; bits 52 to 62 are the field, and bits 0 to 51 the digits below the leading one.
unfoldable pub narrowed_bits : ℕ → ℕ
narrowed_bits b = b / 2 ^ 63 * 2 ^ 31 + pattern (b % 2 ^ 63 / 2 ^ 52) (2 ^ 52 + b % 2 ^ 52)

-- The f32 that an f64 is rounded to.
unfoldable pub narrowed : Float → Float
narrowed x = cond (is_nan x) nan (of_bits binary32 (narrowed_bits (to_bits binary64 x)))

-- The same by fractions: a finite value is ± m * up e / down e, and `round` is the rounding that every operation on an f32 has.
unfoldable pub rounded : Float → Float
rounded nan = nan
rounded (inf s) = inf s
rounded (fin s m e) = round binary32 s (m * up e) (down e)

-- Two floats of the format f have the same bits, or both are NaN.
unfoldable pub same_float : Format → Float → Float → Bool
same_float f x y = eqb (to_bits f x) (to_bits f y) || (is_nan x && is_nan y)
