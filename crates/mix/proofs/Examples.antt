-- Document 01's cases 4 to 6 over the definitions, by computation: blocks of one sample, so that buffer i is place i of the area. Assumes nothing.
use Prim.Native.Nat.{ℕ, zero, suc}
use mathlib.Core.Path.{◌≡◌, refl}
use mathlib.Core.Bool.{true, false}
use mathlib.Core.List.{List, [], ◌∷◌}
use lib.IntN.{pos, negsuc}
use lib.Ieee.{Float, nan, inf, fin, add, mul, eq, of_int, of_bits}
use Rattle.node.specs.declared.Gain.{Gain}
use Rattle.node.specs.declared.Gain.TheVariants.{Rest, Moving}
use Rattle.node.specs.Nodes.{f32, gain_at, factor}
use Rattle.mix.specs.Samples.{silence, sampled}
use Rattle.mix.specs.Mix.{added, weighted, sent, gained, columns, rows, weighs, sends}

abbrev pub infinity : Float
infinity = inf false

abbrev pub minus_zero : Float
minus_zero = fin true 0 (pos 0)

-- 2 to the power of -n
abbrev pub half_to_the : ℕ → Float
half_to_the zero = f32 1
half_to_the (suc n) = fin false 1 (negsuc n)

-- the gains of a node at rest
abbrev pub at_rest : List Float → ℕ → Gain
at_rest target = gain_at [] [] target 0

-- "Matrix [1, 0] at rest over 3 and infinity: 3. Gain 0 over infinity: NaN."
pub case_4_matrix : (y : Float) → rows 1 (at_rest (f32 1 ∷ f32 0 ∷ [])) 0 (0 ∷ 1 ∷ []) (2 ∷ []) (f32 3 ∷ infinity ∷ y ∷ []) ≡ f32 3 ∷ infinity ∷ f32 3 ∷ []
unfolding rows columns added sampled factor add mul eq of_int of_bits
case_4_matrix y = refl

pub case_4_gain : (y : Float) → gained 1 (at_rest (f32 0 ∷ [])) 0 (0 ∷ []) (1 ∷ []) (infinity ∷ y ∷ []) ≡ infinity ∷ nan ∷ []
unfolding gained sampled factor add mul eq of_int of_bits
case_4_gain y = refl

-- "Matrix [1] over −0: +0."
pub case_5 : (y : Float) → rows 1 (at_rest (f32 1 ∷ [])) 0 (0 ∷ []) (1 ∷ []) (minus_zero ∷ y ∷ []) ≡ minus_zero ∷ silence ∷ []
unfolding rows columns added sampled factor add mul eq of_int of_bits
case_5 y = refl

-- "Send x = 2^−140, w = 2^−10, target 2^20: adds 2^−130 at rest, 0 while ramping."
abbrev pub target : Float
target = f32 1048576

pub case_6_rest : sends 1 (Rest target) (half_to_the 10 ∷ []) 0 (0 ∷ []) (1 ∷ []) (half_to_the 140 ∷ silence ∷ []) ≡ half_to_the 140 ∷ half_to_the 130 ∷ []
unfolding sends weighs sent weighted sampled factor add mul eq of_int of_bits
case_6_rest = refl

pub case_6_ramping : sends 1 (Moving (f32 0) target target 1) (half_to_the 10 ∷ []) 0 (0 ∷ []) (1 ∷ []) (half_to_the 140 ∷ silence ∷ []) ≡ half_to_the 140 ∷ silence ∷ []
unfolding sends weighs sent weighted sampled factor add mul eq of_int of_bits
case_6_ramping = refl
