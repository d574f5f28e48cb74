-- The range of a gain, from +0 to 16, by the bits of either format: what is not above 16 is in range where its bits are below the sign's weight.
-- Assumes nothing.
use lib.IntN.{ℤ}
use mathlib.Core.Path.{◌≡◌, sym, ap, ◌∙◌}
use mathlib.Core.Bool.{Bool, true, false, not, ◌&&◌, true≢false}
use Prim.Native.Nat.{ℕ, zero, suc, ◌+◌, ◌<◌, ◌≤◌}
use native.Mathlib.Omega.{arith}
use lib.Dec.{T, ltb}
use lib.Ieee.{Float, nan, inf, fin, Format, top, lt, le, eq, fits, is_nan, to_bits, of_bits}
use lib.Ieee.Bits.{to_bits-lt}
use borrow.Author.Tests.{lt-ltb, le-ltb}
use Rattle.format_fold.specs.Folds.{gain_in_range, negative, sixteen}

pub no_nan : (x : Float) → le x sixteen ≡ true → T (not (is_nan x))
unfolding is_nan le lt eq
no_nan nan h = absurd (true≢false (sym h))
no_nan (inf s) h = tt
no_nan (fin s m e) h = tt

module _ (f : Format) where
  -- a format holds m * 2 ^ e with either sign or with none
  other_sign : (m : ℕ) (e : ℤ) → T (fits f (fin false m e)) → T (fits f (fin true m e))
  unfolding fits
  other_sign zero e h = h
  other_sign (suc m) e h = h

  -- the sign's weight is all that it adds
  signed : (m : ℕ) (e : ℤ) → to_bits f (fin true m e) ≡ top f + to_bits f (fin false m e)
  unfolding to_bits
  signed m e = omega arith

  unsigned : (m : ℕ) (e : ℤ) → T (fits f (fin false m e)) → to_bits f (fin false m e) < top f
  unsigned m e h = omega (arith, signed m e, to_bits-lt f (fin true m e) (other_sign m e h))

  infinite : top f ≤ to_bits f (inf true)
  unfolding to_bits
  infinite = omega arith

  pub by_sign : (x : Float) → T (fits f x) → le x sixteen ≡ true → ltb (to_bits f x) (top f) ≡ gain_in_range x
  unfolding gain_in_range negative le lt eq of_bits
  by_sign nan h l = absurd (true≢false (sym l))
  by_sign (inf true) h l = le-ltb (to_bits f (inf true)) (top f) infinite
  by_sign (inf false) h l = absurd (true≢false (sym l))
  by_sign (fin true m e) h l = le-ltb (to_bits f (fin true m e)) (top f) (omega (arith, signed m e)) ∙ sym (ap (λ (b : Bool). b && false) l)
  by_sign (fin false m e) h l = lt-ltb (to_bits f (fin false m e)) (top f) (unsigned m e h) ∙ sym (ap (λ (b : Bool). b && true) l)
