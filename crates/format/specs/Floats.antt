-- Numbers as floats, by their bits: 0, 1, 2, -1, -2 as an f64, and 1 as an f32. Definitions only.
use Rattle.std.specs.Prelude.{Float}
use Rattle.std.specs.Float.{binary32, binary64}
use Rattle.std.specs.Float.Ieee.{neg, of_bits}

abbrev pub zero64 : Float
zero64 = of_bits binary64 0

abbrev pub one64 : Float
one64 = of_bits binary64 0x3ff0_0000_0000_0000

abbrev pub two64 : Float
two64 = of_bits binary64 0x4000_0000_0000_0000

abbrev pub minus_one64 : Float
minus_one64 = neg one64

abbrev pub minus_two64 : Float
minus_two64 = neg two64

abbrev pub one32 : Float
one32 = of_bits binary32 0x3f80_0000
