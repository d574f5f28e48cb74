-- The laws of `narrowed`: by fractions, NaN, sign, order, what it keeps, its error, where it overflows; and what `≡` and the code's `x != x` mean
-- for floats. Assumes nothing.
use mathlib.Core.Path.{◌≡◌, refl, sym, ap, ◌∙◌, subst}
use mathlib.Core.Logic.{inl, inr, ◌↔◌}
use mathlib.Core.Bool.{Bool, true, false, not, ◌&&◌, ◌||◌, true≢false}
use Prim.Native.Nat.{ℕ, ◌+◌, ◌-◌, ◌*◌, ◌/◌, ◌^◌, ◌≤◌, ◌<◌}
use lib.Dec.{T, eqb, eqb→eq, lit≤}
use lib.Ieee.{Float, nan, inf, fin, Format, binary32, binary64, size, round, neg, div, le, ne, fits, is_nan, of_bits, to_bits}
use lib.Ieee.Fits.{and_l, and_r, eq→eqb, cond-fits, nan-fits, neg-fits, fits_widens}
use lib.Ieee.Bits.{of_bits-to_bits, of_bits-fits, nan_bits_is, is_true}
use lib.Ieee.Compare.{nan_differs, differs_from_itself}
use lib.Ieee.Exact.{HasValue}
use lib.Ieee.Scale.{grid, finite}
use Rattle.rounding.specs.Narrow.{narrowed_bits, narrowed, rounded, same_float}
use Rattle.rounding.proofs.Pattern.{bits_no_nan, narrowed_number}
use Rattle.rounding.proofs.Fields.{rounded_value, number_rounded}
use Rattle.rounding.proofs.Signs.{or_split, or_l}
use Rattle.rounding.proofs.Errors.{grid_half, relative}
use Rattle.rounding.proofs.Rounded.{rounded_neg, rounded_keeps, rounded_mono, round_value, round_finite, round_infinite}

-- By bits and by fractions, with `round binary32`, it is the same rounding.
pub narrowed_is : (x : Float) → T (fits binary64 x) → narrowed x ≡ rounded x
narrowed_is nan f = unfold narrowed rounded is_nan in refl
narrowed_is (inf s) f = number_rounded (inf s) f (unfold is_nan in tt)
narrowed_is (fin s m e) f = number_rounded (fin s m e) f (unfold is_nan in tt)

-- The result is an f32.
pub narrowed_fits : (x : Float) → T (fits binary32 (narrowed x))
unfolding narrowed
narrowed_fits x =
    let b = narrowed_bits (to_bits binary64 x) in
    cond-fits binary32 (is_nan x) nan (of_bits binary32 b) (nan-fits binary32) (of_bits-fits binary32 b)

-- A float that equals itself is no NaN.
pub no_nan : (x : Float) → ne x x ≡ false → T (not (is_nan x))
unfolding is_nan
no_nan nan h = absurd (true≢false (sym nan_differs ∙ h))
no_nan (inf s) h = tt
no_nan (fin s m e) h = tt

-- What differs from itself is one, of which the code makes 0 / 0.
pub nan_made : (x : Float) → ne x x ≡ true → narrowed x ≡ div binary32 (of_bits binary32 0) (of_bits binary32 0)
unfolding narrowed div of_bits is_nan
nan_made x e = ap narrowed (differs_from_itself x (subst T (sym e) tt))

-- It is a NaN exactly for a NaN.
pub narrowed_nan : narrowed nan ≡ nan
unfolding narrowed is_nan
narrowed_nan = refl

number_no_nan : (x : Float) → T (not (is_nan x)) → narrowed x ≡ nan → ⊥
unfolding is_nan
number_no_nan x n e =
    let b = to_bits binary64 x in
    subst (λ (v : Float). T (not (is_nan v))) (sym (narrowed_number x n) ∙ e)
    (subst (λ (t : Bool). T (not t)) (nan_bits_is binary32 (narrowed_bits b)) (bits_no_nan b))

pub narrowed_nan_only : (x : Float) → narrowed x ≡ nan → x ≡ nan
unfolding is_nan
narrowed_nan_only nan e = refl
narrowed_nan_only (inf s) e = absurd (number_no_nan (inf s) tt e)
narrowed_nan_only (fin s m e) h = absurd (number_no_nan (fin s m e) tt h)

-- It commutes with negation.
pub narrowed_neg : (x : Float) → T (fits binary64 x) → narrowed (neg x) ≡ neg (narrowed x)
narrowed_neg x f = narrowed_is (neg x) (neg-fits binary64 x f) ∙ rounded_neg x ∙ ap neg (sym (narrowed_is x f))

-- What an f32 holds is unchanged.
pub narrowed_keeps : (x : Float) → T (fits binary32 x) → narrowed x ≡ x
narrowed_keeps x f = narrowed_is x (fits_widens x f) ∙ rounded_keeps x f

-- It keeps the order, for values of either sign, zeros and infinities too.
pub narrowed_mono : (x y : Float) → T (fits binary64 x) → T (fits binary64 y) → T (le x y) → T (le (narrowed x) (narrowed y))
narrowed_mono x y f g h =
    subst (λ (v : Float). T (le v (narrowed y))) (sym (narrowed_is x f))
    (subst (λ (v : Float). T (le (rounded x) v)) (sym (narrowed_is y g)) (rounded_mono x y f g h))

-- r is ± count * 2 ^ -149, and at most half a unit from ± a / c, with the same sign s. The unit is the spacing of the f32 at a / c, 2 ^ k * 2 ^ -149:
-- in units of 2 ^ -149 the whole part of a / c has k binary digits more than the 24 of an f32, or k is 0.
pub record HalfUnit (r : Float) (s : Bool) (a c : ℕ) : Type 0 where
  pub count : ℕ
  pub value : HasValue r s count (2 ^ 149)
  pub no_more : 2 * (count * c) ≤ 2 * (a * 2 ^ 149) + c * 2 ^ (size (a * 2 ^ 149 / c) - 24)
  pub no_less : 2 * (a * 2 ^ 149) ≤ 2 * (count * c) + c * 2 ^ (size (a * 2 ^ 149 / c) - 24)

module _ (x : Float) (s : Bool) (a c : ℕ) (f : T (fits binary64 x)) (C : 0 < c) (h : HasValue x s a c) where
  by_fraction : narrowed x ≡ round binary32 s a c
  by_fraction = narrowed_is x f ∙ rounded_value x s a c C h

  -- A finite result is at most half a unit from the value.
  pub narrowed_half : T (finite (narrowed x)) → HalfUnit (narrowed x) s a c
  narrowed_half t = record {
    count = grid binary32 a c;
    value = subst (λ (v : Float). HasValue v s (grid binary32 a c) (2 ^ 149)) (sym by_fraction)
        (round_value s a c (subst (λ (v : Float). T (finite v)) by_fraction t));
    no_more = (grid_half binary32 a c C).0;
    no_less = (grid_half binary32 a c C).1;
  }

  -- So it is above the value by no more than a 2 ^ 24 th of it and half of 2 ^ -149.
  pub narrowed_above : (h : HalfUnit (narrowed x) s a c) → 2 * (2 ^ 24 * (h.count * c)) ≤ 2 * (2 ^ 24 * (a * 2 ^ 149)) + (2 * (a * 2 ^ 149) + 2 ^ 24 * c)
  narrowed_above h = relative 24 (a * 2 ^ 149) c (lit≤ tt) C (h.count * c) (a * 2 ^ 149) h.no_more

  -- It is finite below 2 ^ 128 - 2 ^ 103, and an infinity from there on.
  pub narrowed_finite : a < (2 ^ 128 - 2 ^ 103) * c → T (finite (narrowed x))
  narrowed_finite l = subst (λ (v : Float). T (finite v)) (sym by_fraction) (round_finite s a c C l)

  pub narrowed_infinite : (2 ^ 128 - 2 ^ 103) * c ≤ a → narrowed x ≡ inf s
  narrowed_infinite l = by_fraction ∙ round_infinite s a c C l

nan_is : (x : Float) → T (is_nan x) → x ≡ nan
unfolding is_nan
nan_is nan t = refl
nan_is (inf s) t = absurd t
nan_is (fin s m e) t = absurd t

-- What `≡` means for samples: two floats that their format holds are `≡` exactly when their bits are equal or both are NaN.
pub same_float_lem : (f : Format) (x y : Float) → T (fits f x) → T (fits f y) → (x ≡ y) ↔ (same_float f x y ≡ true)
unfolding same_float
same_float_lem f x y F G = (same, equal)
  where
    bits : Bool
    bits = eqb (to_bits f x) (to_bits f y)

    nans : Bool
    nans = is_nan x && is_nan y

    same : x ≡ y → same_float f x y ≡ true
    same e = is_true (bits || nans) (or_l bits nans (eq→eqb (ap (to_bits f) e)))

    equal : same_float f x y ≡ true → x ≡ y
    equal e = elim (or_split bits nans (subst T (sym e) tt)) [
      | inl t ↦ sym (of_bits-to_bits f x F) ∙ ap (of_bits f) (eqb→eq (to_bits f x) (to_bits f y) t) ∙ of_bits-to_bits f y G
      | inr t ↦ nan_is x (and_l (is_nan x) (is_nan y) t) ∙ sym (nan_is y (and_r (is_nan x) (is_nan y) t))
    ]
