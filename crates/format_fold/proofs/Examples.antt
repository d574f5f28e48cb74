-- Worked examples of `width_matrix`, by computation alone: document 01's case 9, the range of a gain, and the order of the refusals.
-- Assumes nothing.
use mathlib.Core.Path.{◌≡◌, refl}
use mathlib.Core.Bool.{true, false}
use mathlib.Core.List.{[], ◌∷◌}
use lib.Ieee.{Float, nan, binary32, binary64, round, add, mul, div, neg, lt, eq, le, of_bits, is_nan, to_bits}
use Rattle.refusal.specs.Tests.{refusal}
use Rattle.rounding.specs.Narrow.{pattern, narrowed_bits, narrowed}
use Rattle.format.specs.Formats.{labels, channels, index_of, has}
use Rattle.format_fold.specs.declared.FoldGains.{FoldGains}
use Rattle.format_fold.specs.Folds.{negative, gain_in_range, gains_in_range, folds_to, folded, matrix_of}
use Rattle.format_fold.specs.Width.{absolute, larger, normalised, entries_of, width_answer, width_area}
use Rattle.refusal.specs.declared.Reason.TheVariants.{NoFormat, OutOfRange, ShortArea}
use Rattle.std.specs.Prelude.{Ok, Err, None}

-- the gain x for all, and none for LFE
abbrev all : Float → FoldGains
all x = record { pan_left = x; pan_right = x; mono_sum = x; centre = x; surround = x; lfe = of_bits binary64 0 }

abbrev half64 : Float
half64 = of_bits binary64 0x3fe0_0000_0000_0000

-- 0, 0.125, 0.25 and 0.5 as f32
abbrev zero32 : Float
zero32 = of_bits binary32 0

abbrev eighth : Float
eighth = of_bits binary32 0x3e00_0000

abbrev quarter : Float
quarter = of_bits binary32 0x3e80_0000

abbrev half : Float
half = of_bits binary32 0x3f00_0000

-- 9. 5.1 to mono, all gains 0.5, LFE 0, into any area of six: 0.5 0.5 0.5 0 0.25 0.25; normalised 0.25 0.25 0.25 0 0.125 0.125
pub case_9_answer : width_answer 3 0 (all half64) 6 ≡ Ok tt
unfolding width_answer gains_in_range gain_in_range negative channels labels le lt eq of_bits
case_9_answer = refl

pub case_9 : (a b c d e f : Float) → width_area 3 0 (all half64) false (a ∷ b ∷ c ∷ d ∷ e ∷ f ∷ []) ≡ half ∷ half ∷ half ∷ zero32 ∷ quarter ∷ quarter ∷ []
unfolding width_area width_answer entries_of matrix_of normalised absolute larger folded folds_to has index_of channels labels gains_in_range gain_in_range negative narrowed narrowed_bits pattern is_nan to_bits round add mul div neg le lt eq of_bits
case_9 a b c d e f = refl

pub case_9_normalised : (a b c d e f : Float)
    → width_area 3 0 (all half64) true (a ∷ b ∷ c ∷ d ∷ e ∷ f ∷ []) ≡ quarter ∷ quarter ∷ quarter ∷ zero32 ∷ eighth ∷ eighth ∷ []
unfolding width_area width_answer entries_of matrix_of normalised absolute larger folded folds_to has index_of channels labels gains_in_range gain_in_range negative narrowed narrowed_bits pattern is_nan to_bits round add mul div neg le lt eq of_bits
case_9_normalised a b c d e f = refl

-- ---- the range of a gain: -0, a NaN and the least number above 16 are outside, 16 is inside

pub minus_zero_lem : gain_in_range (of_bits binary64 0x8000_0000_0000_0000) ≡ false
unfolding gain_in_range negative le lt eq of_bits
minus_zero_lem = refl

pub no_number : gain_in_range nan ≡ false
unfolding gain_in_range negative le lt eq
no_number = refl

pub above_sixteen : gain_in_range (of_bits binary64 0x4030_0000_0000_0001) ≡ false
unfolding gain_in_range negative le lt eq of_bits
above_sixteen = refl

pub sixteen_taken : gain_in_range (of_bits binary64 0x4030_0000_0000_0000) ≡ true
unfolding gain_in_range negative le lt eq of_bits
sixteen_taken = refl

-- ---- the first fault answers: a format above 6, then a gain out of range, then a short area

pub first_16 : width_answer 3 7 (all nan) 0 ≡ Err (refusal NoFormat None)
unfolding width_answer gains_in_range gain_in_range negative channels labels le lt eq of_bits
first_16 = refl

pub first_17 : width_answer 3 0 (all nan) 0 ≡ Err (refusal OutOfRange None)
unfolding width_answer gains_in_range gain_in_range negative channels labels le lt eq of_bits
first_17 = refl

pub first_2 : width_answer 3 0 (all half64) 5 ≡ Err (refusal ShortArea None)
unfolding width_answer gains_in_range gain_in_range negative channels labels le lt eq of_bits
first_2 = refl
