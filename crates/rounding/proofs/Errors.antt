-- How far a rounding goes from the value, in either format: at most half of the spacing there; so, of p digits, at most a 2 ^ p th of the value and half of
-- the smallest value. Assumes nothing.
use mathlib.Core.Path.{◌≡◌, sym, ap, ◌∙◌, subst}
use mathlib.Core.Logic.{◌⊎◌, inl, inr}
use Prim.Native.Nat.{ℕ, ◌+◌, ◌-◌, ◌*◌, ◌/◌, ◌^◌, ◌≤◌, ◌<◌}
use native.Mathlib.Nat.{mul-one, mul_comm, mul_assoc, mul-pos, mul-le-mul_left, le-div_iff_mul-le, eq-zero-or-pos}
use native.Mathlib.Omega.{arith}
use lib.Pow.{pow-add, pow_pos}
use lib.Ieee.{Format, prec, low, size}
use lib.Ieee.Digits.{size_reaches}
use lib.Ieee.Fits.{two}
use lib.Ieee.Order.{drop, kept}
use lib.Ieee.Scale.{grid}
use Rattle.rounding.proofs.Closest.{closest_half}

-- `grid` is a / c rounded, in units of the format's smallest value: at most half of 2 ^ k from it, where k digits of its whole part are dropped
pub grid_half : (f : Format) (a c : ℕ) → 0 < c
    → (2 * (grid f a c * c) ≤ 2 * (a * 2 ^ low f) + c * 2 ^ (size (a * 2 ^ low f / c) - prec f))
    × (2 * (a * 2 ^ low f) ≤ 2 * (grid f a c * c) + c * 2 ^ (size (a * 2 ^ low f / c) - prec f))
grid_half f a c C =
    let n = a * 2 ^ low f in
    let k = drop (prec f) n c in
    let q = kept (prec f) n c in
    let e : q * (c * 2 ^ k) ≡ q * 2 ^ k * c =
    ap (λ (x : ℕ). q * x) (mul_comm c (2 ^ k)) ∙ sym (mul_assoc q (2 ^ k) c) in
    subst (λ (x : ℕ). (2 * x ≤ 2 * n + c * 2 ^ k) × (2 * n ≤ 2 * x + c * 2 ^ k)) e (closest_half n (c * 2 ^ k) (mul-pos C (pow_pos k)))

-- ---- the spacing as a part of the value
-- n / c is a value in units of the smallest one; c * 2 ^ k is the spacing there, times c
module _ (p n c : ℕ) (P : 2 ≤ p) (C : 0 < c) where
  in_use : (z : ℕ) → 0 < z - p → p - 1 + (z - p) < z
  in_use z h = omega arith

  one_less : p ≡ p - 1 + 1
  one_less = omega arith

  regroup : (x y z : ℕ) → x * 2 * (z * y) ≡ 2 * (x * y * z)
  regroup x y z = omega arith

  -- it is one unit where no digit is dropped, and else no more than a 2 ^ (p - 1) th of the value
  spacing : 2 ^ p * (c * 2 ^ (size (n / c) - p)) ≤ 2 * n + 2 ^ p * c
  spacing = go (eq-zero-or-pos (size (n / c) - p))
    where
      go : (size (n / c) - p ≡ 0) ⊎ (0 < size (n / c) - p) → 2 ^ p * (c * 2 ^ (size (n / c) - p)) ≤ 2 * n + 2 ^ p * c
      go (inl e) =
          let w : 2 ^ p * (c * 2 ^ (size (n / c) - p)) ≡ 2 ^ p * c = ap (λ (j : ℕ). 2 ^ p * (c * 2 ^ j)) e ∙ ap (λ (x : ℕ). 2 ^ p * x) (mul-one c) in
          omega arith
      go (inr h) =
          let k = size (n / c) - p in
          let l : 2 ^ (p - 1 + k) * c ≤ n = (le-div_iff_mul-le C).0 (size_reaches (n / c) (p - 1 + k) (in_use (size (n / c)) h)) in
          let w : 2 ^ p * (c * 2 ^ k) ≡ 2 * (2 ^ (p - 1 + k) * c) =
          ap (λ (j : ℕ). 2 ^ j * (c * 2 ^ k)) one_less
          ∙ ap (λ (x : ℕ). x * (c * 2 ^ k)) (pow-add 2 (p - 1) 1)
          ∙ regroup (2 ^ (p - 1)) (2 ^ k) c
          ∙ ap (λ (x : ℕ). 2 * (x * c)) (sym (pow-add 2 (p - 1) k)) in
          omega arith

  -- where x is above y by half of the spacing at most
  pub relative : (x y : ℕ) → 2 * x ≤ 2 * y + c * 2 ^ (size (n / c) - p) → 2 * (2 ^ p * x) ≤ 2 * (2 ^ p * y) + (2 * n + 2 ^ p * c)
  relative x y h = over (2 ^ p) (c * 2 ^ (size (n / c) - p)) (2 * n + 2 ^ p * c) h spacing
    where
      over : (q w s : ℕ) → 2 * x ≤ 2 * y + w → q * w ≤ s → 2 * (q * x) ≤ 2 * (q * y) + s
      over q w s h k = let l = mul-le-mul_left q h in omega arith

-- ---- a rounded fraction is not much above the fraction, nor much below it
module _ (f : Format) (a c : ℕ) (C : 0 < c) where
  pub grid_above : 2 * (2 ^ prec f * (grid f a c * c)) ≤ 2 * (2 ^ prec f * (a * 2 ^ low f)) + (2 * (a * 2 ^ low f) + 2 ^ prec f * c)
  grid_above = relative (prec f) (a * 2 ^ low f) c (two f) C (grid f a c * c) (a * 2 ^ low f) (grid_half f a c C).0

  pub grid_below : 2 * (2 ^ prec f * (a * 2 ^ low f)) ≤ 2 * (2 ^ prec f * (grid f a c * c)) + (2 * (a * 2 ^ low f) + 2 ^ prec f * c)
  grid_below = relative (prec f) (a * 2 ^ low f) c (two f) C (a * 2 ^ low f) (grid f a c * c) (grid_half f a c C).1
