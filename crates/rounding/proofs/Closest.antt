-- `closest a b`, the whole number nearest to a / b: by what the remainder says, its bounds, and its distance from a / b. Assumes nothing.
use mathlib.Core.Path.{◌≡◌, refl, sym, ap, ◌∙◌, subst}
use Prim.Native.Nat.{ℕ, ◌+◌, ◌*◌, ◌/◌, ◌%◌, ◌^◌, ◌≤◌, ◌<◌, compare, Ordering}
use native.Mathlib.Nat.{le_trans, le_of_lt, lt_irrefl, eq-or-lt_of_le, div-eq_of_lt, mod-eq_of_lt, mod-lt, div-add-mod', le-div_iff_mul-le, add-mul, one-mul, mul-le-mul_right}
use native.Mathlib.Numerals.{add-one}
use native.Mathlib.Omega.{arith}
use mathlib.Core.Bool.{Bool, true, false, not}
use mathlib.Core.Logic.{◌⊎◌, inl, inr}
use lib.Dec.{T, is_le, compare_is_eq, ltb, eqb, le→leb, ltb→lt, nltb→le, eqb→eq, eqb_refl}
use lib.Arith.{lt→nleb}
use lib.Pow.{pow-add, pow_pos, shr_lt}
use lib.Ieee.{nearest}
use lib.Ieee.Fits.{nearest-le}
use lib.Ieee.Nearest.{closest, nearest-ge}

pub below_or_not : (a b : ℕ) → (a < b) ⊎ (b ≤ a)
below_or_not a b = go (ltb a b) (ltb→lt a b) (nltb→le a b)
  where
    go : (t : Bool) → (T t → a < b) → (T (not t) → b ≤ a) → (a < b) ⊎ (b ≤ a)
    go true h k = inl (h tt)
    go false h k = inr (k tt)

-- ---- what `compare` gives
less : (a b : ℕ) → a < b → compare a b ≡ Ordering.lt
less a b h = go (compare a b) (le→leb a b (le_of_lt h)) (λ t. lt_irrefl b (subst (λ (x : ℕ). x < b) (eqb→eq a b t) h))
  where
    go : (o : Ordering) → T (is_le o) → (T (compare_is_eq o) → ⊥) → o ≡ Ordering.lt
    go Ordering.lt t n = refl
    go Ordering.eq t n = absurd (n tt)
    go Ordering.gt t n = absurd t

equal : (a b : ℕ) → a ≡ b → compare a b ≡ Ordering.eq
equal a b e = go (compare a b) (subst (λ (x : ℕ). T (eqb a x)) e (eqb_refl a))
  where
    go : (o : Ordering) → T (compare_is_eq o) → o ≡ Ordering.eq
    go Ordering.lt t = absurd t
    go Ordering.eq t = refl
    go Ordering.gt t = absurd t

greater : (a b : ℕ) → b < a → compare a b ≡ Ordering.gt
greater a b h = go (compare a b) (lt→nleb a b h)
  where
    go : (o : Ordering) → T (not (is_le o)) → o ≡ Ordering.gt
    go Ordering.lt t = absurd t
    go Ordering.eq t = absurd t
    go Ordering.gt t = refl

-- ---- the three cases
pub closest_low : (a b : ℕ) → a % b * 2 < b → closest a b ≡ a / b
closest_low a b h = ap (nearest (a / b)) (less (a % b * 2) b h)

pub closest_tie : (a b : ℕ) → a % b * 2 ≡ b → closest a b ≡ a / b + a / b % 2
closest_tie a b e = ap (nearest (a / b)) (equal (a % b * 2) b e)

pub closest_high : (a b : ℕ) → b < a % b * 2 → closest a b ≡ a / b + 1
closest_high a b h = ap (nearest (a / b)) (greater (a % b * 2) b h) ∙ sym (add-one (a / b))

-- ---- less than a half rounds to 0
below : (a b : ℕ) → a * 2 < b → a < b
below a b h = omega arith

pub closest_zero : (a b : ℕ) → a * 2 < b → closest a b ≡ 0
closest_zero a b h =
    closest_low a b (subst (λ (r : ℕ). r * 2 < b) (sym (mod-eq_of_lt (below a b h))) h) ∙ div-eq_of_lt (below a b h)

-- ---- by 2 ^ d
pub closest_le : (m j d : ℕ) → m < 2 ^ (j + d) → closest m (2 ^ d) ≤ 2 ^ j
closest_le m j d h = le_trans (nearest-le (m / 2 ^ d) (compare (m % 2 ^ d * 2) (2 ^ d))) (shr_lt j d h)

pub closest_ge : (m j d : ℕ) → 2 ^ (j + d) ≤ m → 2 ^ j ≤ closest m (2 ^ d)
closest_ge m j d h =
    le_trans ((le-div_iff_mul-le (pow_pos d)).1 (subst (λ (x : ℕ). x ≤ m) (pow-add 2 j d) h))
    (nearest-ge (m / 2 ^ d) (compare (m % 2 ^ d * 2) (2 ^ d)))

-- ---- q is at most a half from a / b
abbrev Half : ℕ → ℕ → ℕ → Type 0
Half a b q = (2 * (q * b) ≤ 2 * a + b) × (2 * a ≤ 2 * (q * b) + b)

-- the quotient q with t added, where r is the remainder
half_at : (a b q r t : ℕ) → q * b + r ≡ a → 2 * (t * b) ≤ 2 * r + b → 2 * r ≤ 2 * (t * b) + b → Half a b (q + t)
half_at a b q r t e h k =
    let s : (q + t) * b ≡ q * b + t * b = add-mul q t b in
    (omega arith, omega arith)

pub closest_half : (a b : ℕ) → 0 < b → (2 * (closest a b * b) ≤ 2 * a + b) × (2 * a ≤ 2 * (closest a b * b) + b)
closest_half a b B =
    let e : a / b * b + a % b ≡ a = div-add-mod' a b in
    let r : a % b < b = mod-lt a B in
    elim (below_or_not (a % b * 2) b) [
      | inl h ↦ subst (Half a b) (sym (closest_low a b h)) (omega arith, omega arith)
      | inr h ↦ elim (eq-or-lt_of_le h) [
        | inl t ↦
            let o : a / b % 2 * b ≤ 1 * b = mul-le-mul_right b (odd (a / b)) in
            let i : 1 * b ≡ b = one-mul b in
            subst (Half a b) (sym (closest_tie a b (sym t))) (half_at a b (a / b) (a % b) (a / b % 2) e (omega arith) (omega arith))
        | inr g ↦
            let i : 1 * b ≡ b = one-mul b in
            subst (Half a b) (sym (closest_high a b g)) (half_at a b (a / b) (a % b) 1 e (omega arith) (omega arith))
      ]
    ]
  where
    odd : (q : ℕ) → q % 2 ≤ 1
    odd q = omega arith
