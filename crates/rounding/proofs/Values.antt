-- Sums, products, quotients and the order of values that are finite and not negative, by the fractions that they equal, in either format: a result is
-- `round` of the exact one, as a fraction. Assumes nothing.
use mathlib.Core.Path.{◌≡◌, sym, ap, ◌∙◌, subst}
use mathlib.Core.Bool.{true, false, not, true≢false}
use Prim.Native.Nat.{ℕ, zero, suc, ◌+◌, ◌*◌, ◌≤◌, ◌<◌}
use native.Mathlib.Nat.{le_of_lt, lt_irrefl, zero-lt-suc, zero-mul, mul-pos, mul-mul-mul_comm, le_of_mul-le-mul_right, eq_of_mul-eq-mul_right}
use native.Mathlib.Omega.{arith}
use lib.Dec.{T, eqb-suc-zero, ltb→lt, nltb→le}
use lib.IntN.{ℤ}
use lib.Ieee.{Float, nan, inf, fin, Format, up, down, round, sum, add, mul, div, lt, le}
use lib.Ieee.Fits.{up_pos, down_pos}
use lib.Ieee.Exact.{HasValue}
use lib.Ieee.Order.{transfer}
use lib.Ieee.Scale.{round_same}
use Rattle.rounding.proofs.Signs.{below_or_equal}

-- what holds of all m * 2 ^ e = a / c and n * 2 ^ g = b / d holds of values that are a / c and b / d
of_values : (P : Float → Float → Type 0) (x y : Float) (a c b d : ℕ)
    → ((m : ℕ) (e : ℤ) (n : ℕ) (g : ℤ) → m * up e * c ≡ a * down e → n * up g * d ≡ b * down g → P (fin false m e) (fin false n g))
    → HasValue x false a c → HasValue y false b d → P x y
of_values P nan y a c b d k p q = absurd p
of_values P (inf s) y a c b d k p q = absurd p
of_values P (fin true m e) y a c b d k p q = absurd (true≢false p.0)
of_values P (fin false m e) nan a c b d k p q = absurd q
of_values P (fin false m e) (inf t) a c b d k p q = absurd q
of_values P (fin false m e) (fin true n g) a c b d k p q = absurd (true≢false q.0)
of_values P (fin false m e) (fin false n g) a c b d k p q = k m e n g p.1 q.1

-- ---- a / c + b / c
sum_cross : (x y de dg a b c : ℕ) → x * c ≡ a * de → y * c ≡ b * dg → (x * dg + y * de) * c ≡ (a + b) * (de * dg)
sum_cross x y de dg a b c p q =
    let l : x * c * dg ≡ a * de * dg = ap (λ (z : ℕ). z * dg) p in
    let r : y * c * de ≡ b * dg * de = ap (λ (z : ℕ). z * de) q in
    omega arith

pub add_value : (f : Format) (x y : Float) (a b c : ℕ) → 0 < c → HasValue x false a c → HasValue y false b c → add f x y ≡ round f false (a + b) c
unfolding add sum
add_value f x y a b c C =
    of_values (λ x y. add f x y ≡ round f false (a + b) c) x y a c b c
    (λ m e n g p q. round_same f false (m * up e * down g + n * up g * down e) (down e * down g) (a + b) c (mul-pos (down_pos e) (down_pos g)) C
    (sum_cross (m * up e) (n * up g) (down e) (down g) a b c p q))

-- ---- a / c * b / d
product_cross : (x y de dg a b c d : ℕ) → x * c ≡ a * de → y * d ≡ b * dg → x * y * (c * d) ≡ a * b * (de * dg)
product_cross x y de dg a b c d p q = mul-mul-mul_comm x y c d ∙ ap (λ (z : ℕ). z * (y * d)) p ∙ ap (λ (z : ℕ). a * de * z) q ∙ mul-mul-mul_comm a de b dg

pub mul_value : (f : Format) (x y : Float) (a c b d : ℕ) → 0 < c → 0 < d → HasValue x false a c → HasValue y false b d → mul f x y ≡ round f false (a * b) (c * d)
unfolding mul
mul_value f x y a c b d C D =
    of_values (λ x y. mul f x y ≡ round f false (a * b) (c * d)) x y a c b d
    (λ m e n g p q. round_same f false (m * up e * (n * up g)) (down e * down g) (a * b) (c * d) (mul-pos (down_pos e) (down_pos g)) (mul-pos C D)
    (product_cross (m * up e) (n * up g) (down e) (down g) a b c d p q))

-- ---- a / c by b / c, which is above 0
quotient_cross : (x y de dg a b c : ℕ) → 0 < c → x * c ≡ a * de → y * c ≡ b * dg → x * dg * b ≡ a * (y * de)
quotient_cross x y de dg a b c C p q =
    eq_of_mul-eq-mul_right c C (x * dg * b) (a * (y * de))
    (left x dg b c ∙ ap (λ (z : ℕ). z * (b * dg)) p ∙ ap (λ (z : ℕ). a * de * z) (sym q) ∙ right a de y c)
  where
    left : (x y z c : ℕ) → x * y * z * c ≡ x * c * (z * y)
    left x y z c = omega arith

    right : (a d y c : ℕ) → a * d * (y * c) ≡ a * (y * d) * c
    right a d y c = omega arith

quotient : (f : Format) (a b c : ℕ) → 0 < c → 0 < b → (m : ℕ) (e : ℤ) (n : ℕ) (g : ℤ)
    → m * up e * c ≡ a * down e → n * up g * c ≡ b * down g → div f (fin false m e) (fin false n g) ≡ round f false a b
unfolding div
quotient f a b c C B m e zero g p q = absurd (lt_irrefl 0 (subst (λ (z : ℕ). 0 < z) (sym (simp zero-mul at q)) (mul-pos B (down_pos g))))
quotient f a b c C B m e (suc n) g p q =
    rw (eqb-suc-zero n)
    (round_same f false (m * up e * down g) (suc n * up g * down e) a b (mul-pos (mul-pos (zero-lt-suc n) (up_pos g)) (down_pos e)) B
    (quotient_cross (m * up e) (suc n * up g) (down e) (down g) a b c C p q))

pub div_value : (f : Format) (x y : Float) (a b c : ℕ) → 0 < c → 0 < b → HasValue x false a c → HasValue y false b c → div f x y ≡ round f false a b
div_value f x y a b c C B = of_values (λ x y. div f x y ≡ round f false a b) x y a c b c (quotient f a b c C B)

-- ---- the order of a / c and b / c
order_cross : (x y de dg a b c : ℕ) → 0 < de → 0 < dg → 0 < c → x * c ≡ a * de → y * c ≡ b * dg → x * dg ≤ y * de → a ≤ b
order_cross x y de dg a b c E G C p q h = le_of_mul-le-mul_right (transfer a b c c x y de dg E G (sym p) (sym q) h) C

pub lt_value : (x y : Float) (a b c : ℕ) → 0 < c → HasValue x false a c → HasValue y false b c → (T (lt x y) → a ≤ b) × (T (not (lt x y)) → b ≤ a)
unfolding lt
lt_value x y a b c C =
    of_values (λ x y. (T (lt x y) → a ≤ b) × (T (not (lt x y)) → b ≤ a)) x y a c b c
    (λ m e n g p q. (
      λ t. order_cross (m * up e) (n * up g) (down e) (down g) a b c (down_pos e) (down_pos g) C p q (le_of_lt (ltb→lt (m * up e * down g) (n * up g * down e) t)),
      λ t. order_cross (n * up g) (m * up e) (down g) (down e) b a c (down_pos g) (down_pos e) C q p (nltb→le (m * up e * down g) (n * up g * down e) t),
    ))

pub le_value : (x y : Float) (a b c : ℕ) → 0 < c → HasValue x false a c → HasValue y false b c → T (le x y) → a ≤ b
unfolding le
le_value x y a b c C =
    of_values (λ x y. T (le x y) → a ≤ b) x y a c b c
    (λ m e n g p q t. order_cross (m * up e) (n * up g) (down e) (down g) a b c (down_pos e) (down_pos g) C p q
    (below_or_equal (m * up e * down g) (n * up g * down e) t))
