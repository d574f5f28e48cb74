-- The numbers of document 01's table of cases. A number is the same `Float` as an f32 and as an f64. Definitions only.
use Rattle.std.specs.Prelude.{ℕ, zero, suc, true, false, pos, negsuc, Float}
use Rattle.std.specs.Float.{inf, fin}

-- m / 2 ^ n, for an odd m
abbrev pub over : ℕ → ℕ → Float
over m zero = fin false m (pos 0)
over m (suc n) = fin false m (negsuc n)

-- 2 ^ n, and 2 to the power of -n
abbrev pub two_to : ℕ → Float
two_to n = fin false 1 (pos n)

abbrev pub half_to : ℕ → Float
half_to n = over 1 n

abbrev pub plus_zero : Float
plus_zero = fin false 0 (pos 0)

abbrev pub minus_zero : Float
minus_zero = fin true 0 (pos 0)

abbrev pub infinity : Float
infinity = inf false

abbrev pub eighth : Float
eighth = over 1 3

abbrev pub quarter : Float
quarter = over 1 2

abbrev pub half : Float
half = over 1 1

abbrev pub three_quarters : Float
three_quarters = over 3 2

abbrev pub one : Float
one = over 1 0

abbrev pub two : Float
two = two_to 1

abbrev pub three : Float
three = over 3 0

abbrev pub five : Float
five = over 5 0
