-- The laws of `rounded`, the rounding by fractions: sign, order, values that it keeps, the value of a finite result, and where it overflows. Assumes nothing.
use mathlib.Core.Path.{◌≡◌, refl, sym, ap, ◌∙◌, subst}
use mathlib.Core.Bool.{Bool, true, false, cond}
use Prim.Native.Nat.{ℕ, zero, suc, ◌+◌, ◌-◌, ◌*◌, ◌/◌, ◌^◌, ◌≤◌, ◌<◌}
use native.Mathlib.Nat.{le_trans, le_of_eq, lt_of_lt_of_le, lt_irrefl, zero-lt-suc, mul-one, add-mul, mul_assoc, mul_comm, mul_right_comm, mul-pos, mul-le-mul_left, mul-le-mul_right, mul-lt-mul_of_pos_right, lt_of_mul-lt-mul_right, div-lt_iff_lt-mul}
use native.Mathlib.Omega.{arith}
use lib.Dec.{T, ltb, eqb, eqb→eq, lit≤}
use lib.IntN.{ℤ}
use lib.Pow.{pow_pos, pow_mono}
use lib.Ieee.{Float, nan, inf, fin, binary32, binary64, up, down, size, odd, units, round, neg, le, fits}
use lib.Ieee.Digits.{size-le}
use lib.Ieee.Fits.{up_pos, down_pos, and_l, and_r, round_is}
use lib.Ieee.Exact.{HasValue, odd_sign, units_val}
use lib.Ieee.Order.{drop, kept, round_mono}
use lib.Ieee.Scale.{grid, finite}
use Rattle.rounding.specs.Narrow.{rounded}
use Rattle.rounding.proofs.Errors.{grid_half}
use Rattle.rounding.proofs.Own.{round_own}
use Rattle.rounding.proofs.Signs.{round_neg, round_signed, below_or_equal, neg_le, least, greatest, opposite_le}

-- ---- the sign
pub rounded_neg : (x : Float) → rounded (neg x) ≡ neg (rounded x)
unfolding rounded neg
rounded_neg nan = refl
rounded_neg (inf s) = refl
rounded_neg (fin s m e) = round_neg binary32 s (m * up e) (down e)

-- ---- what an f32 holds is unchanged
pub rounded_keeps : (x : Float) → T (fits binary32 x) → rounded x ≡ x
unfolding rounded
rounded_keeps nan f = refl
rounded_keeps (inf s) f = refl
rounded_keeps (fin s m e) f = round_own binary32 s m e f

-- ---- the order
-- a value that is not negative is at most a negative one only where both are zeros
no_zero : (m : ℕ) (e d : ℤ) → suc m * up e * down d ≡ 0 → ⊥
no_zero m e d h = lt_irrefl 0 (subst (λ (x : ℕ). 0 < x) h (mul-pos (mul-pos (zero-lt-suc m) (up_pos e)) (down_pos d)))

zeros : (m : ℕ) (e : ℤ) (n : ℕ) (d : ℤ) → T (fits binary64 (fin false m e)) → T (fits binary64 (fin true n d)) → T (le (fin false m e) (fin true n d))
    → (rounded (fin false m e) ≡ fin false m e) × (rounded (fin true n d) ≡ fin true n d)
unfolding le fits
zeros zero e zero d f g h = (rounded_keeps (fin false zero e) f, rounded_keeps (fin true zero d) g)
zeros zero e (suc n) d f g h =
    let A = zero * up e * down d in
    let B = suc n * up d * down e in
    absurd (no_zero n d e (sym (eqb→eq A B (and_l (eqb A B) (eqb A 0) h)) ∙ eqb→eq A 0 (and_r (eqb A B) (eqb A 0) h)))
zeros (suc m) e n d f g h =
    let A = suc m * up e * down d in
    absurd (no_zero m e d (eqb→eq A 0 (and_r (eqb A (n * up d * down e)) (eqb A 0) h)))

pub rounded_mono : (x y : Float) → T (fits binary64 x) → T (fits binary64 y) → T (le x y) → T (le (rounded x) (rounded y))
unfolding rounded le neg
rounded_mono nan y f g h = absurd h
rounded_mono (inf s) nan f g h = absurd h
rounded_mono (inf s) (inf t) f g h = h
rounded_mono (inf true) (fin t n d) f g h = least t (round binary32 t (n * up d) (down d)) (round_signed binary32 t (n * up d) (down d))
rounded_mono (inf false) (fin t n d) f g h = absurd h
rounded_mono (fin s m e) nan f g h = absurd h
rounded_mono (fin s m e) (inf true) f g h = absurd h
rounded_mono (fin s m e) (inf false) f g h = greatest s (round binary32 s (m * up e) (down e)) (round_signed binary32 s (m * up e) (down e))
rounded_mono (fin false m e) (fin false n d) f g h =
    round_mono binary32 (m * up e) (down e) (n * up d) (down d) (down_pos e) (down_pos d) (below_or_equal (m * up e * down d) (n * up d * down e) h)
rounded_mono (fin true m e) (fin true n d) f g h =
    let p = round binary32 false (m * up e) (down e) in
    let q = round binary32 false (n * up d) (down d) in
    let l : n * up d * down e ≤ m * up e * down d = below_or_equal (n * up d * down e) (m * up e * down d) (neg_le (fin true m e) (fin true n d) h) in
    subst (λ (v : Float). T (le v (round binary32 true (n * up d) (down d)))) (sym (round_neg binary32 false (m * up e) (down e)))
    (subst (λ (v : Float). T (le (neg p) v)) (sym (round_neg binary32 false (n * up d) (down d)))
    (neg_le q p (round_mono binary32 (n * up d) (down d) (m * up e) (down e) (down_pos d) (down_pos e) l)))
rounded_mono (fin true m e) (fin false n d) f g h =
    opposite_le (round binary32 true (m * up e) (down e)) (round binary32 false (n * up d) (down d))
    (round_signed binary32 true (m * up e) (down e)) (round_signed binary32 false (n * up d) (down d))
rounded_mono (fin false m e) (fin true n d) f g h =
    let z = zeros m e n d f g h in
    subst (λ (v : Float). T (le v (rounded (fin true n d)))) (sym z.0) (subst (λ (v : Float). T (le (fin false m e) v)) (sym z.1) h)

-- ---- the value of a finite result
units_value : (s : Bool) (q k : ℕ) → T (finite (units binary32 s q k)) → HasValue (units binary32 s q k) s (q * 2 ^ k) (2 ^ 149)
unfolding units
units_value s q k = go (ltb (q * 2 ^ k) (2 ^ 277))
  where
    go : (b : Bool) → T (finite (cond b (odd 25 s q k 149) (inf s))) → HasValue (cond b (odd 25 s q k 149) (inf s)) s (q * 2 ^ k) (2 ^ 149)
    go true t = odd_sign 25 s q k 149
    go false t = absurd t

pub round_value : (s : Bool) (a c : ℕ) → T (finite (round binary32 s a c)) → HasValue (round binary32 s a c) s (grid binary32 a c) (2 ^ 149)
round_value s a c =
    subst (λ (v : Float). T (finite v) → HasValue v s (grid binary32 a c) (2 ^ 149)) (sym (round_is binary32 s a c))
    (units_value s (kept 24 (a * 2 ^ 149) c) (drop 24 (a * 2 ^ 149) c))

-- ---- where it overflows
value_finite : (x : Float) (s : Bool) (a c : ℕ) → HasValue x s a c → T (finite x)
value_finite nan s a c h = absurd h
value_finite (inf t) s a c h = absurd h
value_finite (fin t m e) s a c h = tt

-- below 2 ^ 128 - 2 ^ 103 no more than 253 digits are dropped, and half of 2 ^ 253 is not enough to reach 2 ^ 277
grid_under : (a c : ℕ) → 0 < c → a < (2 ^ 128 - 2 ^ 103) * c → grid binary32 a c < 2 ^ 277
grid_under a c C h =
    let n = a * 2 ^ 149 in
    let t = (2 ^ 128 - 2 ^ 103) * 2 ^ 149 in
    let l : n < t * c =
    lt_of_lt_of_le (mul-lt-mul_of_pos_right h (pow_pos 149)) (le_of_eq (mul_right_comm (2 ^ 128 - 2 ^ 103) c (2 ^ 149))) in
    let z : size (n / c) ≤ 277 =
    size-le (n / c) 277 ((div-lt_iff_lt-mul C).1 (lt_of_lt_of_le l (mul-le-mul_right c (lit≤ tt)))) in
    let u : c * 2 ^ (size (n / c) - 24) ≤ c * 2 ^ 253 = mul-le-mul_left c (pow_mono {j = 253} (few (size (n / c)) z)) in
    lt_of_mul-lt-mul_right c (short (grid_half binary32 a c C).0 u l (sum t (2 ^ 253) (2 ^ 277) refl))
  where
    few : (z : ℕ) → z ≤ 277 → z - 24 ≤ 253
    few z h = omega arith

    sum : (t u w : ℕ) → 2 * t + u ≡ 2 * w → 2 * (t * c) + c * u ≡ 2 * (w * c)
    sum t u w e =
        ap (λ (x : ℕ). x + c * u) (sym (mul_assoc 2 t c))
        ∙ ap (λ (x : ℕ). 2 * t * c + x) (mul_comm c u)
        ∙ sym (add-mul (2 * t) u c)
        ∙ ap (λ (x : ℕ). x * c) e
        ∙ mul_assoc 2 w c

    short : {g n u v t w : ℕ} → 2 * g ≤ 2 * n + u → u ≤ v → n < t → 2 * t + v ≡ 2 * w → g < w
    short h i j k = omega arith

pub round_finite : (s : Bool) (a c : ℕ) → 0 < c → a < (2 ^ 128 - 2 ^ 103) * c → T (finite (round binary32 s a c))
round_finite s a c C h =
    let q = kept 24 (a * 2 ^ 149) c in
    let k = drop 24 (a * 2 ^ 149) c in
    subst (λ (v : Float). T (finite v)) (sym (round_is binary32 s a c))
    (value_finite (units binary32 s q k) s (q * 2 ^ k) (2 ^ 149) (units_val binary32 s q k (grid_under a c C h)))

-- the least magnitude that gives an infinity, and any above it
threshold : round binary32 false (2 ^ 128 - 2 ^ 103) 1 ≡ inf false
unfolding round
threshold = refl

only_infinity : (x : Float) → T (le (inf false) x) → x ≡ inf false
unfolding le
only_infinity nan h = absurd h
only_infinity (inf true) h = absurd h
only_infinity (inf false) h = refl
only_infinity (fin s m e) h = absurd h

pub round_infinite : (s : Bool) (a c : ℕ) → 0 < c → (2 ^ 128 - 2 ^ 103) * c ≤ a → round binary32 s a c ≡ inf s
unfolding neg
round_infinite s a c C h = go s
  where
    positive : round binary32 false a c ≡ inf false
    positive =
        only_infinity (round binary32 false a c)
        (subst (λ (v : Float). T (le v (round binary32 false a c))) threshold
        (round_mono binary32 (2 ^ 128 - 2 ^ 103) 1 a c (zero-lt-suc 0) C (le_trans h (le_of_eq (sym (mul-one a))))))

    go : (s : Bool) → round binary32 s a c ≡ inf s
    go false = positive
    go true = round_neg binary32 false a c ∙ ap neg positive
