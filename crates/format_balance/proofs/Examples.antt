-- Worked examples of the balance, by computation alone: document 01's case 10, and the order of the refusals. Assumes nothing.
use mathlib.Core.Path.{◌≡◌, refl}
use mathlib.Core.Bool.{true}
use mathlib.Core.List.{[], ◌∷◌}
use lib.Ieee.{Float, nan, inf, binary32, binary64, round, add, sub, mul, div, neg, lt, le, eq, of_bits, is_nan, to_bits}
use Rattle.refusal.specs.Tests.{refusal}
use Rattle.rounding.specs.Narrow.{pattern, narrowed_bits, narrowed}
use Rattle.format.specs.Formats.{labels, channels}
use Rattle.format.specs.Floats.{one64, two64, one32}
use Rattle.format_balance.specs.Balance.{finite, clamp, at_most_one, left_gain, right_gain, of_side, gains_of, balance_of, balance_answer, balance_area, width_in, stereo_matrix, side}
use Rattle.refusal.specs.declared.Reason.TheVariants.{NoFormat, OutOfRange, ShortArea}
use Rattle.std.specs.Prelude.{Ok, Err, None}

-- 0.5 as an f64 and as an f32
abbrev half : Float
half = of_bits binary64 0x3fe0_0000_0000_0000

abbrev half32 : Float
half32 = of_bits binary32 0x3f00_0000

-- 10. Balance 0.5 of 5.1: 0.5 1 1 1 0.5 1, whatever the area of six held
pub case_10 : (a b c d e f : Float) → balance_area 3 half (a ∷ b ∷ c ∷ d ∷ e ∷ f ∷ []) ≡ half32 ∷ one32 ∷ one32 ∷ one32 ∷ half32 ∷ one32 ∷ []
unfolding balance_area balance_answer balance_of gains_of left_gain right_gain clamp at_most_one of_side side labels channels finite narrowed narrowed_bits pattern is_nan to_bits round add sub neg lt of_bits
case_10 a b c d e f = refl

pub case_10_answer : balance_answer 3 half 6 ≡ Ok tt
unfolding balance_answer finite channels labels of_bits
case_10_answer = refl

-- the first fault answers: a format above 6, then a balance that is not finite, then a short area
pub balance_16 : balance_answer 7 nan 0 ≡ Err (refusal NoFormat None)
unfolding balance_answer finite channels labels
balance_16 = refl

pub balance_17 : balance_answer 6 (inf true) 0 ≡ Err (refusal OutOfRange None)
unfolding balance_answer finite channels labels
balance_17 = refl

pub balance_2 : balance_answer 6 half 11 ≡ Err (refusal ShortArea None)
unfolding balance_answer finite channels labels of_bits
balance_2 = refl

-- the width 2 at the balance 1: 0, -0, -0.5, 1.5
pub stereo_signs : stereo_matrix two64 one64
    ≡ Ok (of_bits binary64 0 ∷ of_bits binary64 0x8000_0000_0000_0000 ∷ of_bits binary64 0xbfe0_0000_0000_0000 ∷ of_bits binary64 0x3ff8_0000_0000_0000 ∷ [])
unfolding stereo_matrix width_in finite left_gain right_gain clamp at_most_one round add sub mul div neg le lt eq of_bits
stereo_signs = refl
