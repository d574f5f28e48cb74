-- `narrowed` by bits is `rounded` by fractions: case by case of an f64's exponent field, then for every f64. Assumes nothing.
use mathlib.Core.Path.{◌≡◌, refl, sym, ap, ◌∙◌, subst}
use mathlib.Core.Logic.{◌⊎◌, inl, inr}
use mathlib.Core.Bool.{Bool, not, cond}
use Prim.Native.Nat.{ℕ, zero, suc, ◌+◌, ◌-◌, ◌*◌, ◌/◌, ◌%◌, ◌^◌, ◌≤◌, ◌<◌}
use native.Mathlib.Nat.{le_trans, le_of_eq, lt_of_lt_of_le, mul_assoc, mul_comm, mul_left_comm, mul-pos, mul-le-mul_right, mul-lt-mul_of_pos_right, lt_of_mul-lt-mul_right, le_of_mul-le-mul_right, le-div_iff_mul-le, div-lt_iff_lt-mul, zero-add, eq-or-lt_of_le, le_of_suc-le-suc}
use native.Mathlib.Omega.{arith}
use lib.Dec.{T, leb, eqb, lit≤, lit<, eqb→eq, eqb-suc-zero, not_T}
use lib.Pow.{pow-add, pow_pos, pow_mono, shl_lt}
use borrow.Author.Tests.{le-leb, lt-leb}
use lib.Ieee.{Float, nan, inf, fin, binary32, binary64, up, down, size, odd, units, round, of_fields, of_bits, to_bits, fits, is_nan}
use lib.Ieee.Digits.{size-le}
use lib.Ieee.Fits.{core, down_pos, round_is, round-fits}
use lib.Ieee.Exact.{HasValue, odd_sign}
use lib.Ieee.Nearest.{closest, closest_same}
use lib.Ieee.Scale.{round_same}
use lib.Ieee.Bits.{of_bits-to_bits, to_bits-lt, cond_no}
use Rattle.rounding.specs.Narrow.{pattern, narrowed_bits, narrowed, rounded}
use Rattle.rounding.proofs.Closest.{below_or_not, closest_zero, closest_le, closest_ge}
use Rattle.rounding.proofs.Pattern.{pattern_none, pattern_low, pattern_mid, pattern_top, narrowed_number}
use Rattle.rounding.proofs.Units.{sign_bit, size_gt, within, reached, infinity, units_top, pattern_is}

-- ---- a value rounds as any fraction that it equals
pub rounded_value : (v : Float) (s : Bool) (a c : ℕ) → 0 < c → HasValue v s a c → rounded v ≡ round binary32 s a c
unfolding rounded
rounded_value nan s a c C h = absurd h
rounded_value (inf t) s a c C h = absurd h
rounded_value (fin t m e) s a c C h = round_same binary32 t (m * up e) (down e) a c (down_pos e) C h.1 ∙ ap (λ (t : Bool). round binary32 t a c) h.0

-- ---- n / c and m * 2 ^ k / 2 ^ d are one fraction: so n / c has as many digits as m, with d - k fewer
module _ (n m p d k c : ℕ) (C : 0 < c) (e : n * 2 ^ d ≡ m * (c * 2 ^ k)) where
  moved : 2 ^ (p + d) * (c * 2 ^ k) ≡ 2 ^ (p + k) * c * 2 ^ d
  moved = simp (pow-add, mul_assoc, mul_comm, mul_left_comm)

  upper : m < 2 ^ (p + d) → n / c < 2 ^ (p + k)
  upper h =
      (div-lt_iff_lt-mul C).1
      (lt_of_mul-lt-mul_right (2 ^ d)
      (subst (λ (x : ℕ). x < 2 ^ (p + k) * c * 2 ^ d) (sym e) (lt_of_lt_of_le (mul-lt-mul_of_pos_right h (mul-pos C (pow_pos k))) (le_of_eq moved))))

  lower : 2 ^ (p + d) ≤ m → 2 ^ (p + k) ≤ n / c
  lower h =
      (le-div_iff_mul-le C).1
      (le_of_mul-le-mul_right
      (subst (λ (x : ℕ). 2 ^ (p + k) * c * 2 ^ d ≤ x) (sym e) (le_trans (le_of_eq (sym moved)) (mul-le-mul_right (c * 2 ^ k) h)))
      (pow_pos d))

same_fraction : (m x l d c k : ℕ) → x + l + d ≡ c + k → m * 2 ^ x * 2 ^ l * 2 ^ d ≡ m * (2 ^ c * 2 ^ k)
same_fraction m x l d c k e =
    ap (λ (y : ℕ). y * 2 ^ d) (mul_assoc m (2 ^ x) (2 ^ l) ∙ ap (λ (y : ℕ). m * y) (sym (pow-add 2 x l)))
    ∙ mul_assoc m (2 ^ (x + l)) (2 ^ d)
    ∙ ap (λ (y : ℕ). m * y) (sym (pow-add 2 (x + l) d) ∙ ap (λ (y : ℕ). 2 ^ y) e ∙ pow-add 2 c k)

-- ---- m * 2 ^ x / 2 ^ 1074 rounded: d digits of m are dropped, and the unit is 2 ^ k
module _ (s : Bool) (m x d k : ℕ) (e : x + 149 + d ≡ 1074 + k) (h : m < 2 ^ (24 + d)) (o : (k ≡ 0) ⊎ (2 ^ (23 + d) ≤ m)) where
  cross : m * 2 ^ x * 2 ^ 149 * 2 ^ d ≡ m * (2 ^ 1074 * 2 ^ k)
  cross = same_fraction m x 149 d 1074 k e

  reaches : (k ≡ 0) ⊎ (2 ^ (23 + d) ≤ m) → (k ≡ 0) ⊎ (23 + k < size (m * 2 ^ x * 2 ^ 149 / 2 ^ 1074))
  reaches (inl z) = inl z
  reaches (inr l) = inr (size_gt (m * 2 ^ x * 2 ^ 149 / 2 ^ 1074) (23 + k) (lower (m * 2 ^ x * 2 ^ 149) m 23 d k (2 ^ 1074) (pow_pos 1074) cross l))

  dropped : size (m * 2 ^ x * 2 ^ 149 / 2 ^ 1074) - 24 ≡ k
  dropped =
      within (size (m * 2 ^ x * 2 ^ 149 / 2 ^ 1074)) k
      (size-le (m * 2 ^ x * 2 ^ 149 / 2 ^ 1074) (24 + k) (upper (m * 2 ^ x * 2 ^ 149) m 24 d k (2 ^ 1074) (pow_pos 1074) cross h))
      (reaches o)

  rounds : round binary32 s (m * 2 ^ x) (2 ^ 1074) ≡ units binary32 s (closest m (2 ^ d)) k
  rounds =
      round_is binary32 s (m * 2 ^ x) (2 ^ 1074)
      ∙ ap (core binary32 s (m * 2 ^ x * 2 ^ 149) (2 ^ 1074)) dropped
      ∙ ap (λ (q : ℕ). units binary32 s q k)
      (closest_same (m * 2 ^ x * 2 ^ 149) (2 ^ 1074 * 2 ^ k) m (2 ^ d) (mul-pos (pow_pos 1074) (pow_pos k)) (pow_pos d) cross)

  leading : (k ≡ 0) ⊎ (2 ^ (23 + d) ≤ m) → (k ≡ 0) ⊎ (2 ^ 23 ≤ closest m (2 ^ d))
  leading (inl z) = inl z
  leading (inr l) = inr (closest_ge m 23 d l)

  pattern_rounds : k ≤ 253 → of_bits binary32 (sign_bit s + (k * 2 ^ 23 + closest m (2 ^ d))) ≡ round binary32 s (m * 2 ^ x) (2 ^ 1074)
  pattern_rounds b =
      let v = round binary32 s (m * 2 ^ x) (2 ^ 1074) in
      pattern_is v s (closest m (2 ^ d)) k (round-fits binary32 s (m * 2 ^ x) (2 ^ 1074)) rounds (closest_le m 24 d h) (leading o) b

-- ---- what an f64's fields are rounded to
-- an exponent field that is neither 0 nor the highest
differ : (x : ℕ) → suc x < 2047 → suc x ≡ 2047 → ⊥
differ x h e = omega arith

normal : (s : Bool) (x t : ℕ) → suc x < 2047 → of_fields binary64 s (suc x) t ≡ odd 53 s (2 ^ 52 + t) x 1074
unfolding of_fields
normal s x t h =
    cond_no (eqb (suc x) 2047) (cond (eqb t 0) (inf s) nan) (odd 53 s (2 ^ 52 + t) x 1074)
    (not_T (eqb (suc x) 2047) (λ u. differ x h (eqb→eq (suc x) 2047 u)))

normal_rounded : (s : Bool) (x t : ℕ) → suc x < 2047 → rounded (of_fields binary64 s (suc x) t) ≡ round binary32 s ((2 ^ 52 + t) * 2 ^ x) (2 ^ 1074)
normal_rounded s x t h =
    ap rounded (normal s x t h)
    ∙ rounded_value (odd 53 s (2 ^ 52 + t) x 1074) s ((2 ^ 52 + t) * 2 ^ x) (2 ^ 1074) (pow_pos 1074) (odd_sign 53 s (2 ^ 52 + t) x 1074)

-- the field 0
subnormal_rounded : (s : Bool) (t : ℕ) → rounded (of_fields binary64 s 0 t) ≡ round binary32 s (t * 2 ^ 0) (2 ^ 1074)
unfolding of_fields
subnormal_rounded s t = rounded_value (odd 53 s t 0 1074) s (t * 2 ^ 0) (2 ^ 1074) (pow_pos 1074) (odd_sign 53 s t 0 1074)

-- the highest field: an infinity or a NaN
infinite_rounded : (s : Bool) (t : ℕ) → T (not (is_nan (of_fields binary64 s 2047 t))) → rounded (of_fields binary64 s 2047 t) ≡ inf s
unfolding of_fields rounded is_nan
infinite_rounded s zero n = refl
infinite_rounded s (suc t) n = absurd (subst (λ (b : Bool). T (not (is_nan (cond b (inf s) nan)))) (eqb-suc-zero t) n)

-- ---- the pattern, field by field
abbrev Agrees : Bool → ℕ → ℕ → Type 0
Agrees s e t = of_bits binary32 (sign_bit s + pattern e (2 ^ 52 + t)) ≡ rounded (of_fields binary64 s e t)

-- from a case of `pattern`, and what the fields are rounded to
agrees : (s : Bool) (e t p : ℕ) → pattern e (2 ^ 52 + t) ≡ p → of_bits binary32 (sign_bit s + p) ≡ rounded (of_fields binary64 s e t) → Agrees s e t
agrees s e t p h k = ap (λ (q : ℕ). of_bits binary32 (sign_bit s + q)) h ∙ k

-- in units of 2 ^ -149
subnormal_pattern : (s : Bool) (m x d : ℕ) → x + 149 + d ≡ 1074 → m < 2 ^ 53 → 29 ≤ d
    → of_bits binary32 (sign_bit s + closest m (2 ^ d)) ≡ round binary32 s (m * 2 ^ x) (2 ^ 1074)
subnormal_pattern s m x d e h b =
    ap (λ (q : ℕ). of_bits binary32 (sign_bit s + q)) (sym (zero-add (closest m (2 ^ d))))
    ∙ pattern_rounds s m x d 0 e (lt_of_lt_of_le h (pow_mono {i = 53} (omega arith))) (inl refl) (lit≤ tt)

-- nothing is kept of the digits where more are dropped than there are, and one more
zero_pattern : (s : Bool) (m x d : ℕ) → x + 149 + d ≡ 1074 → m < 2 ^ 53 → 54 ≤ d
    → of_bits binary32 (sign_bit s + 0) ≡ round binary32 s (m * 2 ^ x) (2 ^ 1074)
zero_pattern s m x d e h b =
    ap (λ (q : ℕ). of_bits binary32 (sign_bit s + q)) (sym (closest_zero m (2 ^ d) (lt_of_lt_of_le (shl_lt 53 1 h) (pow_mono b))))
    ∙ subnormal_pattern s m x d e h (le_trans (lit≤ tt) b)

module _ (s : Bool) (x t : ℕ) (H : t < 2 ^ 52) where
  digits_lt : 2 ^ 52 + t < 2 ^ 53
  digits_lt = omega arith

  digits_ge : 2 ^ 52 ≤ 2 ^ 52 + t
  digits_ge = omega arith

  none_case : suc x < 873 → Agrees s (suc x) t
  none_case a =
      agrees s (suc x) t 0 (pattern_none (suc x) (2 ^ 52 + t) a)
      (zero_pattern s (2 ^ 52 + t) x (925 - x) (omega arith) digits_lt (omega arith) ∙ sym (normal_rounded s x t (omega arith)))

  low_case : 873 ≤ suc x → suc x < 897 → Agrees s (suc x) t
  low_case a b =
      agrees s (suc x) t (closest (2 ^ 52 + t) (2 ^ (925 - x)))
      (pattern_low (suc x) (2 ^ 52 + t) a b ∙ ap (λ (d : ℕ). closest (2 ^ 52 + t) (2 ^ d)) (same x))
      (subnormal_pattern s (2 ^ 52 + t) x (925 - x) (omega arith) digits_lt (omega arith) ∙ sym (normal_rounded s x t (omega arith)))
    where
      same : (x : ℕ) → 926 - suc x ≡ 925 - x
      same x = omega arith

  mid_case : 897 ≤ suc x → suc x < 1151 → Agrees s (suc x) t
  mid_case a b =
      agrees s (suc x) t ((suc x - 897) * 2 ^ 23 + closest (2 ^ 52 + t) (2 ^ 29))
      (pattern_mid (suc x) (2 ^ 52 + t) a b)
      (pattern_rounds s (2 ^ 52 + t) x 29 (suc x - 897) (omega arith) digits_lt (inr digits_ge) (omega arith) ∙ sym (normal_rounded s x t (omega arith)))

  over_case : 1151 ≤ suc x → suc x < 2047 → Agrees s (suc x) t
  over_case a b =
      agrees s (suc x) t (255 * 2 ^ 23) (pattern_top (suc x) (2 ^ 52 + t) a)
      (infinity s
      ∙ sym (units_top s q k (le_trans (pow_mono {i = 277} (omega arith)) (reached q k (closest_ge (2 ^ 52 + t) 23 29 digits_ge))))
      ∙ sym (rounds s (2 ^ 52 + t) x 29 k (omega arith) digits_lt (inr digits_ge))
      ∙ sym (normal_rounded s x t b))
    where
      k : ℕ
      k = suc x - 897

      q : ℕ
      q = closest (2 ^ 52 + t) (2 ^ 29)

highest_case : (s : Bool) (t : ℕ) → T (not (is_nan (of_fields binary64 s 2047 t))) → Agrees s 2047 t
highest_case s t n = agrees s 2047 t (255 * 2 ^ 23) (pattern_top 2047 (2 ^ 52 + t) (lit≤ tt)) (infinity s ∙ sym (infinite_rounded s t n))

from_fields : (s : Bool) (e t : ℕ) → e < 2048 → t < 2 ^ 52 → T (not (is_nan (of_fields binary64 s e t))) → Agrees s e t
from_fields s zero t E H n =
    agrees s 0 t 0 (pattern_none 0 (2 ^ 52 + t) (lit< tt))
    (zero_pattern s t 0 925 refl (lt_of_lt_of_le H (lit≤ tt)) (lit≤ tt) ∙ sym (subnormal_rounded s t))
from_fields s (suc x) t E H n = elim (below_or_not (suc x) 873) [
  | inl a ↦ none_case s x t H a
  | inr a ↦ elim (below_or_not (suc x) 897) [
    | inl b ↦ low_case s x t H a b
    | inr b ↦ elim (below_or_not (suc x) 1151) [
      | inl c ↦ mid_case s x t H b c
      | inr c ↦ elim (eq-or-lt_of_le (le_of_suc-le-suc E)) [
        | inl d ↦ subst (λ (e : ℕ). T (not (is_nan (of_fields binary64 s e t))) → Agrees s e t) (sym d) (highest_case s t) n
        | inr d ↦ over_case s x t H c d
      ]
    ]
  ]
]

-- ---- from the bits
sign_is : (b : ℕ) → b < 2 ^ 64 → b / 2 ^ 63 * 2 ^ 31 ≡ sign_bit (leb (2 ^ 63) b)
sign_is b h = elim (below_or_not b (2 ^ 63)) [
  | inl l ↦ rw (lt-leb (2 ^ 63) b l) (omega arith)
  | inr g ↦ rw (le-leb (2 ^ 63) b g) (omega arith)
]

from_bits : (b : ℕ) → b < 2 ^ 64 → T (not (is_nan (of_bits binary64 b))) → of_bits binary32 (narrowed_bits b) ≡ rounded (of_bits binary64 b)
unfolding of_bits narrowed_bits
from_bits b h n =
    ap (λ (c : ℕ). of_bits binary32 (c + pattern (b % 2 ^ 63 / 2 ^ 52) (2 ^ 52 + b % 2 ^ 52))) (sign_is b h)
    ∙ from_fields (leb (2 ^ 63) b) (b % 2 ^ 63 / 2 ^ 52) (b % 2 ^ 52) (omega arith) (omega arith) n

pub number_rounded : (x : Float) → T (fits binary64 x) → T (not (is_nan x)) → narrowed x ≡ rounded x
number_rounded x f n =
    let e : of_bits binary64 (to_bits binary64 x) ≡ x = of_bits-to_bits binary64 x f in
    narrowed_number x n
    ∙ from_bits (to_bits binary64 x) (to_bits-lt binary64 x f) (subst (λ (v : Float). T (not (is_nan v))) (sym e) n)
    ∙ ap rounded e
