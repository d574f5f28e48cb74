-- In either format: a value is determined by its sign and its size, and what the format holds is its own rounding. So 1 × x is x, and +0 + x is x but for -0,
-- of which it makes +0. Assumes nothing.
use mathlib.Core.Path.{◌≡◌, refl, sym, ap, ◌∙◌, subst}
use mathlib.Core.Bool.{Bool, true, false, ◌&&◌, cond}
use Prim.Native.Nat.{ℕ, zero, suc, ◌+◌, ◌-◌, ◌*◌, ◌/◌, ◌%◌, ◌^◌, ◌≤◌, ◌<◌}
use native.Mathlib.Nat.{le_trans, le_of_eq, le_of_suc-le-suc, lt_of_lt_of_le, lt_of_not-le, not-le_of_lt, zero-lt-suc, zero-add, add_assoc, sub-zero, zero-mul, one-mul, mul-one, mul_assoc, mul_comm, mul_right_comm, mul-pos, mul-lt-mul_of_pos_right, lt_of_mul-lt-mul_right}
use lib.Dec.{T, leb, ltb, eqb, eqb→eq, ltb→lt, leb→le}
use lib.IntN.{ℤ, pos, negsuc}
use lib.Pow.{pow-add, pow_pos, pow-lt}
use borrow.Author.Tests.{lt-ltb}
use lib.Ieee.{Float, nan, inf, fin, Format, prec, emax, low, hid, top, up, down, size, round, sum, add, mul, unlike, of_bits, to_bits, fits}
use lib.Ieee.Digits.{back}
use lib.Ieee.Fits.{up_pos, down_pos, and_l, and_r, round-fits}
use lib.Ieee.Nearest.{div_same}
use lib.Ieee.Exact.{HasValue, round_exact}
use lib.Ieee.Bits.{of_bits-to_bits}

module _ (f : Format) where
  -- ---- a value is determined by its sign and its size
  -- the bits of a finite value, from its size n in units of the format's smallest value
  abbrev bits_for : Bool → ℕ → ℕ
  bits_for s n = cond s (top f) 0 + ((size n - prec f) * hid f + n / 2 ^ (size n - prec f))

  to_bits_is : (s : Bool) (m : ℕ) (e : ℤ) → to_bits f (fin s m e) ≡ bits_for s (m * up e * 2 ^ low f / down e)
  unfolding to_bits
  to_bits_is s m e =
      let n = m * up e * 2 ^ low f / down e in
      add_assoc (cond s (top f) 0) ((size n - prec f) * hid f) (n / 2 ^ (size n - prec f))

  pub bits_of : (v : Float) (s : Bool) (a c : ℕ) → 0 < c → HasValue v s a c → to_bits f v ≡ bits_for s (a * 2 ^ low f / c)
  bits_of nan s a c C h = absurd h
  bits_of (inf t) s a c C h = absurd h
  bits_of (fin t m e) s a c C h =
      let p = m * up e * 2 ^ low f in
      let q = a * 2 ^ low f in
      let cross : p * c ≡ q * down e =
      mul_right_comm (m * up e) (2 ^ low f) c ∙ ap (λ (x : ℕ). x * 2 ^ low f) h.1 ∙ mul_right_comm a (down e) (2 ^ low f) in
      to_bits_is t m e
      ∙ ap (λ (t : Bool). bits_for t (p / down e)) h.0
      ∙ ap (bits_for s) (div_same p (down e) q c (down_pos e) C cross)

  pub value_unique : (x y : Float) (s : Bool) (a c : ℕ) → 0 < c → T (fits f x) → T (fits f y) → HasValue x s a c → HasValue y s a c → x ≡ y
  value_unique x y s a c C g g' h k =
      sym (of_bits-to_bits f x g) ∙ ap (of_bits f) (bits_of x s a c C h ∙ sym (bits_of y s a c C k)) ∙ of_bits-to_bits f y g'

  -- ---- what the format holds is its own rounding
  -- an exponent that is not too low: m * 2 ^ e is m * 2 ^ j units
  in_units : (e : ℤ) → down e ≤ 2 ^ low f → (j : ℕ) × ((m : ℕ) → m * up e * 2 ^ low f ≡ m * 2 ^ j * down e)
  in_units (pos a) h = (
    a + low f,
    λ m. mul_assoc m (2 ^ a) (2 ^ low f) ∙ ap (λ (x : ℕ). m * x) (sym (pow-add 2 a (low f))) ∙ sym (mul-one (m * 2 ^ (a + low f))),
  )
  in_units (negsuc a) h =
      let l : suc a ≤ low f = le_of_suc-le-suc (lt_of_not-le (λ (g : suc (low f) ≤ suc a). not-le_of_lt (pow-lt {i = low f} g) h)) in (
        low f - suc a,
        λ m.
            ap (λ (x : ℕ). x * 2 ^ low f) (mul-one m)
            ∙ ap (λ (x : ℕ). m * x) (ap (λ (x : ℕ). 2 ^ x) (sym (back (low f) (suc a) l)) ∙ pow-add 2 (low f - suc a) (suc a))
            ∙ sym (mul_assoc m (2 ^ (low f - suc a)) (2 ^ suc a)),
      )

  finite_own : (s : Bool) (m : ℕ) (e : ℤ) → T (fits f (fin s m e)) → m < 2 ^ prec f → down e ≤ 2 ^ low f → m * up e < 2 ^ suc (emax f) * down e
      → round f s (m * up e) (down e) ≡ fin s m e
  finite_own s m e g a b c =
      let j = (in_units e b).0 in
      let v = (in_units e b).1 m in
      let w : 2 ^ suc (emax f) * down e * 2 ^ low f ≡ 2 ^ (low f + suc (emax f)) * down e =
      mul_right_comm (2 ^ suc (emax f)) (down e) (2 ^ low f)
      ∙ ap (λ (x : ℕ). x * down e) (mul_comm (2 ^ suc (emax f)) (2 ^ low f) ∙ sym (pow-add 2 (low f) (suc (emax f)))) in
      let l : m * up e * 2 ^ low f < 2 ^ (low f + suc (emax f)) * down e = lt_of_lt_of_le (mul-lt-mul_of_pos_right c (pow_pos (low f))) (le_of_eq w) in
      let t : m * 2 ^ j < 2 ^ (low f + suc (emax f)) = lt_of_mul-lt-mul_right (down e) (subst (λ (x : ℕ). x < 2 ^ (low f + suc (emax f)) * down e) v l) in
      value_unique (round f s (m * up e) (down e)) (fin s m e) s (m * up e) (down e) (down_pos e)
      (round-fits f s (m * up e) (down e)) g
      (round_exact f s (m * up e) (down e) m j (down_pos e) a t v) (refl, refl)

  -- a zero is written with the exponent 0
  zero_exponent : (e : ℤ) → up e * down e ≡ 1 → down e ≤ 2 ^ low f
  zero_exponent (pos a) h = pow_pos (low f)
  zero_exponent (negsuc a) h = le_trans (le_of_eq (sym (one-mul (2 ^ suc a)) ∙ h)) (pow_pos (low f))

  pub round_own : (s : Bool) (m : ℕ) (e : ℤ) → T (fits f (fin s m e)) → round f s (m * up e) (down e) ≡ fin s m e
  unfolding fits
  round_own s zero e g =
      finite_own s zero e g (pow_pos (prec f)) (zero_exponent e (eqb→eq (up e * down e) 1 g))
      (subst (λ (x : ℕ). x < 2 ^ suc (emax f) * down e) (sym (zero-mul (up e))) (mul-pos (pow_pos (suc (emax f))) (down_pos e)))
  round_own s (suc m) e g =
      let A = eqb (suc m % 2) 1 in
      let B = ltb (suc m) (2 ^ prec f) in
      let C = leb (down e) (2 ^ low f) in
      let D = ltb (suc m * up e) (2 ^ suc (emax f) * down e) in
      finite_own s (suc m) e g
      (ltb→lt (suc m) (2 ^ prec f) (and_r A B (and_l (A && B) C (and_l (A && B && C) D g))))
      (leb→le (down e) (2 ^ low f) (and_r (A && B) C (and_l (A && B && C) D g)))
      (ltb→lt (suc m * up e) (2 ^ suc (emax f) * down e) (and_r (A && B && C) D g))

  -- ---- 1 × x
  unlike_false : (t : Bool) → unlike false t ≡ t
  unlike_false true = refl
  unlike_false false = refl

  pub one_times : (x : Float) → T (fits f x) → mul f (fin false 1 (pos 0)) x ≡ x
  unfolding mul
  one_times nan g = refl
  one_times (inf t) g = ap inf (unlike_false t)
  one_times (fin t n d) g = simp (unlike_false t, one-mul (n * up d), one-mul (down d)) (round_own t n d g)

  -- ---- +0 + x
  -- a zero is written in one way
  zero_is : (s : Bool) (e : ℤ) → T (fits f (fin s 0 e)) → fin s 0 e ≡ fin s 0 (pos 0)
  unfolding fits
  zero_is s e g =
      value_unique (fin s 0 e) (fin s 0 (pos 0)) s 0 1 (zero-lt-suc 0) g tt
      (refl, ap (λ (x : ℕ). x * 1) (zero-mul (up e)) ∙ sym (zero-mul (down e))) (refl, refl)

  above_zero : (t : Bool) (n : ℕ) (d : ℤ) → T (fits f (fin t n d)) → (fin t n d ≡ fin true 0 (pos 0) → ⊥) → t ≡ true → 0 < n * up d
  above_zero t zero d g h e = absurd (h (zero_is t d g ∙ ap (λ (s : Bool). fin s 0 (pos 0)) e))
  above_zero t (suc n) d g h e = mul-pos (zero-lt-suc n) (up_pos d)

  -- 0 ± b / c, which is rounded as ± b / c is, but for 0 - 0
  zero_sum : (t : Bool) (b c : ℕ) → (t ≡ true → 0 < b) → sum f false 0 t b c ≡ round f t b c
  unfolding sum
  zero_sum false b c h = ap (λ (k : ℕ). round f false k c) (zero-add b)
  zero_sum true b c h = rw (lt-ltb 0 b (h refl)) (ap (λ (k : ℕ). round f true k c) (sub-zero b))

  zero_left : (t : Bool) (b c : ℕ) → sum f false (0 * c) t (b * 1) (1 * c) ≡ sum f false 0 t b c
  zero_left t b c = simp (zero-mul, mul-one, one-mul)

  pub zero_plus : (x : Float) → T (fits f x) → (x ≡ fin true 0 (pos 0) → ⊥) → add f (fin false 0 (pos 0)) x ≡ x
  unfolding add
  zero_plus nan g h = refl
  zero_plus (inf t) g h = refl
  zero_plus (fin t n d) g h = zero_left t (n * up d) (down d) ∙ zero_sum t (n * up d) (down d) (above_zero t n d g h) ∙ round_own t n d g
