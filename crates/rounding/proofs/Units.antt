-- Values of an f32 in units of 2 ^ -149, and their bits. q units of 2 ^ k, of which `round` makes its result, are the pattern k * 2 ^ 23 + q:
-- a q of 2 ^ 24 carries into the exponent's field, up to the infinity's. Assumes nothing.
use mathlib.Core.Path.{◌≡◌, refl, sym, ap, ◌∙◌, subst}
use mathlib.Core.Logic.{◌⊎◌, inl, inr}
use mathlib.Core.Bool.{Bool, true, false, cond}
use Prim.Native.Nat.{ℕ, ◌+◌, ◌-◌, ◌*◌, ◌/◌, ◌^◌, ◌≤◌, ◌<◌}
use native.Mathlib.Nat.{le_trans, le_of_eq, lt_of_lt_of_le, lt_of_le_of_lt, lt_of_not-le, not-le_of_lt, eq-or-lt_of_le, mul_comm, mul_assoc, mul-div_cancel, mul-le-mul_right}
use native.Mathlib.Omega.{arith}
use lib.Dec.{T, ltb, lit<}
use lib.Arith.{le→nltb}
use lib.Pow.{pow-add, pow_pos, pow_mono, pow-lt, shl_lt}
use lib.Ieee.{Float, inf, binary32, size, odd, units, of_bits, fits}
use lib.Ieee.Digits.{size-lt, size-le}
use lib.Ieee.Exact.{HasValue, units_val}
use lib.Ieee.Bits.{of_bits-to_bits, cond_no}
use Rattle.rounding.proofs.Closest.{below_or_not}
use Rattle.rounding.proofs.Own.{bits_of}

-- the weight of the sign's bit, where it is set
abbrev pub sign_bit : Bool → ℕ
sign_bit s = cond s (2 ^ 31) 0

-- the bits below it, of n units
abbrev field_and_digits : ℕ → ℕ
field_and_digits n = (size n - 24) * 2 ^ 23 + n / 2 ^ (size n - 24)

-- ---- how many digits a number has
pub size_gt : (n j : ℕ) → 2 ^ j ≤ n → j < size n
size_gt n j h = lt_of_not-le (λ (g : size n ≤ j). not-le_of_lt (lt_of_lt_of_le (size-lt n) (pow_mono g)) h)

-- ---- the field and the digits together are k * 2 ^ 23 + q
pub within : (z k : ℕ) → z ≤ 24 + k → (k ≡ 0) ⊎ (23 + k < z) → z - 24 ≡ k
within z k h (inl e) = omega arith
within z k h (inr l) = omega arith

carried : (z k : ℕ) → z ≤ 25 + k → 24 + k < z → z - 24 ≡ k + 1
carried z k h l = omega arith

pub reached : (q k : ℕ) → 2 ^ 23 ≤ q → 2 ^ (23 + k) ≤ q * 2 ^ k
reached q k h = subst (λ (x : ℕ). x ≤ q * 2 ^ k) (sym (pow-add 2 23 k)) (mul-le-mul_right (2 ^ k) h)

field_and_digits_is : (q k : ℕ) → q ≤ 2 ^ 24 → (k ≡ 0) ⊎ (2 ^ 23 ≤ q) → field_and_digits (q * 2 ^ k) ≡ k * 2 ^ 23 + q
field_and_digits_is q k h o = go (eq-or-lt_of_le h)
  where
    split : (k ≡ 0) ⊎ (2 ^ 23 ≤ q) → (k ≡ 0) ⊎ (23 + k < size (q * 2 ^ k))
    split (inl e) = inl e
    split (inr l) = inr (size_gt (q * 2 ^ k) (23 + k) (reached q k l))

    regroup : (a : ℕ) → (a + 1) * 2 ^ 23 + 2 ^ 23 ≡ a * 2 ^ 23 + 2 ^ 24
    regroup a = omega arith

    go : (q ≡ 2 ^ 24) ⊎ (q < 2 ^ 24) → field_and_digits (q * 2 ^ k) ≡ k * 2 ^ 23 + q
    go (inr l) =
        let z : size (q * 2 ^ k) - 24 ≡ k =
        within (size (q * 2 ^ k)) k (size-le (q * 2 ^ k) (24 + k) (shl_lt 24 k l)) (split o) in
        ap (λ (j : ℕ). j * 2 ^ 23 + q * 2 ^ k / 2 ^ j) z ∙ ap (λ (x : ℕ). k * 2 ^ 23 + x) (mul-div_cancel q (pow_pos k))
    go (inl e) =
        let n = 2 ^ 24 * 2 ^ k in
        let z : size n - 24 ≡ k + 1 =
        carried (size n) k (size-le n (25 + k) (shl_lt 25 k (lit< tt))) (size_gt n (24 + k) (le_of_eq (pow-add 2 24 k))) in
        let w : n ≡ 2 ^ 23 * 2 ^ (k + 1) =
        sym (ap (λ (x : ℕ). 2 ^ 23 * x) (pow-add 2 k 1 ∙ mul_comm (2 ^ k) 2) ∙ sym (mul_assoc (2 ^ 23) 2 (2 ^ k))) in
        subst (λ (x : ℕ). field_and_digits (x * 2 ^ k) ≡ k * 2 ^ 23 + x) (sym e)
        (ap (λ (j : ℕ). j * 2 ^ 23 + n / 2 ^ j) z
        ∙ ap (λ (x : ℕ). (k + 1) * 2 ^ 23 + x / 2 ^ (k + 1)) w
        ∙ ap (λ (x : ℕ). (k + 1) * 2 ^ 23 + x) (mul-div_cancel (2 ^ 23) (pow_pos (k + 1)))
        ∙ regroup k)

-- ---- a finite result
finite_pattern : (v : Float) (s : Bool) (q k : ℕ) → T (fits binary32 v) → HasValue v s (q * 2 ^ k) (2 ^ 149)
    → q ≤ 2 ^ 24 → (k ≡ 0) ⊎ (2 ^ 23 ≤ q) → of_bits binary32 (sign_bit s + (k * 2 ^ 23 + q)) ≡ v
finite_pattern v s q k f h a o =
    ap (of_bits binary32)
    (sym
    (bits_of binary32 v s (q * 2 ^ k) (2 ^ 149) (pow_pos 149) h
    ∙ ap (λ (n : ℕ). sign_bit s + field_and_digits n) (mul-div_cancel (q * 2 ^ k) (pow_pos 149))
    ∙ ap (λ (x : ℕ). sign_bit s + x) (field_and_digits_is q k a o)))
    ∙ of_bits-to_bits binary32 v f

-- ---- the infinity
pub infinity : (s : Bool) → of_bits binary32 (sign_bit s + 255 * 2 ^ 23) ≡ inf s
unfolding of_bits
infinity true = refl
infinity false = refl

pub units_top : (s : Bool) (q k : ℕ) → 2 ^ 277 ≤ q * 2 ^ k → units binary32 s q k ≡ inf s
unfolding units
units_top s q k h = cond_no (ltb (q * 2 ^ k) (2 ^ 277)) (odd 25 s q k 149) (inf s) (le→nltb (q * 2 ^ k) (2 ^ 277) h)

-- up to 2 ^ 24 units of up to 2 ^ 253 reach 2 ^ 277 only at both
at_top : (q k : ℕ) → q ≤ 2 ^ 24 → k ≤ 253 → 2 ^ 277 ≤ q * 2 ^ k → k * 2 ^ 23 + q ≡ 255 * 2 ^ 23
at_top q k a b h = go (eq-or-lt_of_le a) (eq-or-lt_of_le b)
  where
    both : q ≡ 2 ^ 24 → k ≡ 253 → k * 2 ^ 23 + q ≡ 255 * 2 ^ 23
    both e f = omega arith

    room : k < 253 → 24 + k < 277
    room l = omega arith

    under : k ≤ 253 → 24 + k ≤ 277
    under m = omega arith

    go : (q ≡ 2 ^ 24) ⊎ (q < 2 ^ 24) → (k ≡ 253) ⊎ (k < 253) → k * 2 ^ 23 + q ≡ 255 * 2 ^ 23
    go (inl e) (inl f) = both e f
    go (inl e) (inr l) =
        let s : q * 2 ^ k ≤ 2 ^ (24 + k) = le_trans (mul-le-mul_right (2 ^ k) a) (le_of_eq (sym (pow-add 2 24 k))) in
        absurd (not-le_of_lt (lt_of_le_of_lt s (pow-lt (room l))) h)
    go (inr l) f = absurd (not-le_of_lt (lt_of_lt_of_le (shl_lt 24 k l) (pow_mono (under b))) h)

-- ---- any result up to the infinity
pub pattern_is : (v : Float) (s : Bool) (q k : ℕ) → T (fits binary32 v) → v ≡ units binary32 s q k
    → q ≤ 2 ^ 24 → (k ≡ 0) ⊎ (2 ^ 23 ≤ q) → k ≤ 253 → of_bits binary32 (sign_bit s + (k * 2 ^ 23 + q)) ≡ v
pattern_is v s q k f e a o b = elim (below_or_not (q * 2 ^ k) (2 ^ 277)) [
  | inl l ↦ finite_pattern v s q k f (subst (λ (x : Float). HasValue x s (q * 2 ^ k) (2 ^ 149)) (sym e) (units_val binary32 s q k l)) a o
  | inr g ↦ ap (λ (x : ℕ). of_bits binary32 (sign_bit s + x)) (at_top q k a b g) ∙ infinity s ∙ sym (units_top s q k g) ∙ sym e
]
