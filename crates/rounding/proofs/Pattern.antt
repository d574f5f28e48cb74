-- The four cases of `pattern`; that `narrowed_bits` is 32 bits and no NaN's; and `narrowed` of a value that is no NaN. Assumes nothing.
use borrow.Author.Tests.{lt-ltb, le-ltb}
use mathlib.Core.Path.{◌≡◌, subst, sym, ap, ◌∙◌}
use mathlib.Core.Bool.{true, not}
use mathlib.Core.Logic.{inl, inr}
use Prim.Native.Nat.{ℕ, ◌+◌, ◌-◌, ◌*◌, ◌/◌, ◌%◌, ◌^◌, ◌≤◌, ◌<◌}
use native.Mathlib.Nat.{le_trans, lt_of_lt_of_le}
use native.Mathlib.Omega.{arith}
use lib.Dec.{T, lit≤}
use lib.Arith.{le→nltb}
use lib.Pow.{pow_mono, mod-mod-pow}
use lib.Ieee.{Float, nan, binary32, binary64, fits, is_nan, nan_bits, of_bits, to_bits}
use lib.Ieee.Bits.{nan_bits_above, cond_no, to_bits-lt}
use lib.Ieee.Nearest.{closest}
use Rattle.rounding.specs.Narrow.{pattern, narrowed_bits, narrowed}
use Rattle.rounding.proofs.Closest.{below_or_not, closest_le}

module _ (e g : ℕ) where
  pub pattern_none : e < 873 → pattern e g ≡ 0
  unfolding pattern
  pattern_none h = simp (lt-ltb e 873 h)

  pub pattern_low : 873 ≤ e → e < 897 → pattern e g ≡ closest g (2 ^ (926 - e))
  unfolding pattern
  pattern_low h k = simp (le-ltb e 873 h, lt-ltb e 897 k)

  pub pattern_mid : 897 ≤ e → e < 1151 → pattern e g ≡ (e - 897) * 2 ^ 23 + closest g (2 ^ 29)
  unfolding pattern
  pattern_mid h k = simp (le-ltb e 873 (le_trans (lit≤ tt) h), le-ltb e 897 h, lt-ltb e 1151 k)

  pub pattern_top : 1151 ≤ e → pattern e g ≡ 255 * 2 ^ 23
  unfolding pattern
  pattern_top h = simp (le-ltb e 873 (le_trans (lit≤ tt) h), le-ltb e 897 (le_trans (lit≤ tt) h), le-ltb e 1151 h)

  -- an infinity's at most
  pattern_le : g < 2 ^ 53 → pattern e g ≤ 255 * 2 ^ 23
  pattern_le h = elim (below_or_not e 873) [
    | inl a ↦ subst AtMost (sym (pattern_none a)) (lit≤ tt)
    | inr a ↦ elim (below_or_not e 897) [
      | inl b ↦ subst AtMost (sym (pattern_low a b)) (le_trans (closest_le g 24 (926 - e) (lt_of_lt_of_le h (pow_mono {i = 53} (few a b)))) (lit≤ tt))
      | inr b ↦ elim (below_or_not e 1151) [
        | inl d ↦ subst AtMost (sym (pattern_mid b d)) (sum b d (closest_le g 24 29 h))
        | inr d ↦ subst AtMost (sym (pattern_top d)) (lit≤ tt)
      ]
    ]
  ]
    where
      AtMost : ℕ → Type 0
      AtMost x = x ≤ 255 * 2 ^ 23

      few : 873 ≤ e → e < 897 → 53 ≤ 24 + (926 - e)
      few a b = omega arith

      sum : {q : ℕ} → 897 ≤ e → e < 1151 → q ≤ 2 ^ 24 → (e - 897) * 2 ^ 23 + q ≤ 255 * 2 ^ 23
      sum a b k = omega arith

pub ruleset cases = (pattern_none, pattern_low, pattern_mid, pattern_top)

-- ---- the bits
pub bits_below : (b : ℕ) → b < 2 ^ 64 → narrowed_bits b < 2 ^ 32
unfolding narrowed_bits
bits_below b h = omega (arith, pattern_le (b % 2 ^ 63 / 2 ^ 52) (2 ^ 52 + b % 2 ^ 52) (omega arith))

pub bits_no_nan : (b : ℕ) → T (not (nan_bits binary32 (narrowed_bits b)))
unfolding narrowed_bits
bits_no_nan b =
    rw (nan_bits_above binary32 (narrowed_bits b)) (le→nltb (255 * 2 ^ 23) (narrowed_bits b % 2 ^ 31)
    (omega (arith, pattern_le (b % 2 ^ 63 / 2 ^ 52) (2 ^ 52 + b % 2 ^ 52) (omega arith))))

pub narrowed_number : (x : Float) → T (not (is_nan x)) → narrowed x ≡ of_bits binary32 (narrowed_bits (to_bits binary64 x))
unfolding narrowed
narrowed_number x h = cond_no (is_nan x) nan (of_bits binary32 (narrowed_bits (to_bits binary64 x))) h

-- ---- as `to_f32` makes it: an f64 has 64 bits, and the code drops the sign before it takes the digits
pub bits_64 : (x : Float) → fits binary64 x ≡ true → to_bits binary64 x < 2 ^ 64
bits_64 x e = to_bits-lt binary64 x (subst T (sym e) tt)

pub made_bits : (b m : ℕ) → m ≡ pattern (b % 2 ^ 63 / 2 ^ 52) (2 ^ 52 + b % 2 ^ 63 % 2 ^ 52) → b / 2 ^ 63 * 2 ^ 31 + m ≡ narrowed_bits b
unfolding narrowed_bits
made_bits b m e = ap (λ (p : ℕ). b / 2 ^ 63 * 2 ^ 31 + p) (e ∙ ap (λ (t : ℕ). pattern (b % 2 ^ 63 / 2 ^ 52) (2 ^ 52 + t)) (mod-mod-pow b 11 52))

pub ruleset bits_made = (bits_64, made_bits, bits_below, bits_no_nan, narrowed_number)
