-- The sign of a result of `round`, and the order of values of either sign. Assumes nothing.
use mathlib.Core.Path.{◌≡◌, refl, sym, ap, ◌∙◌, subst}
use mathlib.Core.Logic.{◌⊎◌, inl, inr}
use mathlib.Core.Bool.{Bool, true, false, not, ◌&&◌, ◌||◌, cond}
use Prim.Native.Nat.{ℕ, zero, suc, ◌+◌, ◌*◌, ◌^◌, ◌≤◌}
use native.Mathlib.Nat.{le_of_eq, le_of_lt}
use native.Mathlib.Omega.{arith}
use lib.Dec.{T, ltb, eqb, ltb→lt, lt→ltb, eqb→eq}
use lib.Ieee.{Float, nan, inf, fin, Format, prec, emax, low, up, down, odd, units, round, neg, below, level, le}
use lib.Ieee.Fits.{round_is, and_i, and_l, and_r, eq→eqb}
use lib.Ieee.Order.{drop, kept}
use Rattle.rounding.proofs.Closest.{below_or_not}

-- ---- the other sign
odd_neg : (d : ℕ) (s : Bool) (q k l : ℕ) → odd d (not s) q k l ≡ neg (odd d s q k l)
unfolding odd neg
odd_neg d s zero k l = refl
odd_neg d s (suc q) k l = refl

units_neg : (f : Format) (s : Bool) (q k : ℕ) → units f (not s) q k ≡ neg (units f s q k)
unfolding units neg
units_neg f s q k = go (ltb (q * 2 ^ k) (2 ^ (low f + suc (emax f))))
  where
    go : (b : Bool) → cond b (odd (suc (prec f)) (not s) q k (low f)) (inf (not s)) ≡ neg (cond b (odd (suc (prec f)) s q k (low f)) (inf s))
    go true = odd_neg (suc (prec f)) s q k (low f)
    go false = refl

pub round_neg : (f : Format) (s : Bool) (a c : ℕ) → round f (not s) a c ≡ neg (round f s a c)
round_neg f s a c = round_is f (not s) a c ∙ units_neg f s (kept (prec f) (a * 2 ^ low f) c) (drop (prec f) (a * 2 ^ low f) c) ∙ ap neg (sym (round_is f s a c))

-- ---- no NaN, and of the sign s
abbrev pub Signed : Bool → Float → Type 0
Signed s nan = ⊥
Signed s (inf t) = t ≡ s
Signed s (fin t m e) = t ≡ s

odd_signed : (d : ℕ) (s : Bool) (q k l : ℕ) → Signed s (odd d s q k l)
unfolding odd
odd_signed d s zero k l = refl
odd_signed d s (suc q) k l = refl

units_signed : (f : Format) (s : Bool) (q k : ℕ) → Signed s (units f s q k)
unfolding units
units_signed f s q k = go (ltb (q * 2 ^ k) (2 ^ (low f + suc (emax f))))
  where
    go : (b : Bool) → Signed s (cond b (odd (suc (prec f)) s q k (low f)) (inf s))
    go true = odd_signed (suc (prec f)) s q k (low f)
    go false = refl

pub round_signed : (f : Format) (s : Bool) (a c : ℕ) → Signed s (round f s a c)
round_signed f s a c = subst (Signed s) (sym (round_is f s a c)) (units_signed f s (kept (prec f) (a * 2 ^ low f) c) (drop (prec f) (a * 2 ^ low f) c))

-- ---- the tests that `le` makes of two finite values, by their signs and their sizes over one denominator
abbrev at_most : Bool → ℕ → Bool → ℕ → Bool
at_most s a t b = below s a t b || level s a t b

pub or_split : (a b : Bool) → T (a || b) → T a ⊎ T b
or_split true b t = inl tt
or_split false b t = inr t

pub or_l : (a b : Bool) → T a → T (a || b)
or_l true b t = tt
or_l false b t = absurd t

or_r : (a b : Bool) → T b → T (a || b)
or_r true b t = tt
or_r false b t = t

pub below_or_equal : (a b : ℕ) → T (ltb a b || (eqb a b && true)) → a ≤ b
below_or_equal a b t = elim (or_split (ltb a b) (eqb a b && true) t) [
  | inl u ↦ le_of_lt (ltb→lt a b u)
  | inr u ↦ le_of_eq (eqb→eq a b (and_l (eqb a b) true u))
]

-- what is negative is at most what is not
none : (a b : ℕ) → a + b ≤ 0 → (a ≡ b) × (a ≡ 0)
none a b h = (omega arith, omega arith)

opposite : (a b : ℕ) → T (at_most true a false b)
opposite a b = elim (below_or_not 0 (a + b)) [
  | inl l ↦ or_l (ltb 0 (a + b)) (level true a false b) (lt→ltb 0 (a + b) l)
  | inr g ↦ or_r (ltb 0 (a + b)) (level true a false b) (and_i (eqb a b) (eqb a 0) (eq→eqb (none a b g).0) (eq→eqb (none a b g).1))
]

-- ---- negation reverses the order
equal_reversed : (a b : ℕ) (g : ℕ → Bool) → T (eqb a b && g a) → T (eqb b a && g b)
equal_reversed a b g t =
    let e : a ≡ b = eqb→eq a b (and_l (eqb a b) (g a) t) in
    and_i (eqb b a) (g b) (eq→eqb (sym e)) (subst (λ (z : ℕ). T (g z)) e (and_r (eqb a b) (g a) t))

reversed : (p : Bool) (a b : ℕ) (g : ℕ → Bool) → T (p || (eqb a b && g a)) → T (p || (eqb b a && g b))
reversed true a b g t = tt
reversed false a b g t = equal_reversed a b g t

finite_reversed : (s : Bool) (a : ℕ) (t : Bool) (b : ℕ) → T (at_most s a t b) → T (at_most (not t) b (not s) a)
finite_reversed false a false b h = reversed (ltb a b) a b (λ z. true) h
finite_reversed true a true b h = reversed (ltb b a) a b (λ z. true) h
finite_reversed false a true b h = reversed false a b (λ z. eqb z 0) h
finite_reversed true a false b h = opposite b a

pub neg_le : (x y : Float) → T (le x y) → T (le (neg y) (neg x))
unfolding le neg
neg_le nan y h = absurd h
neg_le (inf s) nan h = absurd h
neg_le (inf true) (inf true) h = tt
neg_le (inf true) (inf false) h = tt
neg_le (inf false) (inf true) h = absurd h
neg_le (inf false) (inf false) h = tt
neg_le (inf true) (fin t n d) h = tt
neg_le (inf false) (fin t n d) h = absurd h
neg_le (fin s m e) nan h = absurd h
neg_le (fin s m e) (inf true) h = absurd h
neg_le (fin s m e) (inf false) h = tt
neg_le (fin s m e) (fin t n d) h = finite_reversed s (m * up e * down d) t (n * up d * down e) h

-- ---- the ends of the order
pub least : (s : Bool) (x : Float) → Signed s x → T (le (inf true) x)
unfolding le
least s nan h = absurd h
least s (inf true) h = tt
least s (inf false) h = tt
least s (fin t m e) h = tt

pub greatest : (s : Bool) (x : Float) → Signed s x → T (le x (inf false))
unfolding le
greatest s nan h = absurd h
greatest s (inf true) h = tt
greatest s (inf false) h = tt
greatest s (fin t m e) h = tt

pub opposite_le : (x y : Float) → Signed true x → Signed false y → T (le x y)
opposite_le nan y h k = absurd h
opposite_le (inf s) y h k = subst (λ (s : Bool). T (le (inf s) y)) (sym h) (least false y k)
opposite_le (fin s m e) nan h k = absurd k
opposite_le (fin s m e) (inf t) h k = subst (λ (t : Bool). T (le (fin s m e) (inf t))) (sym k) (greatest true (fin s m e) h)
opposite_le (fin s m e) (fin t n d) h k =
    subst (λ (t : Bool). T (le (fin s m e) (fin t n d))) (sym k)
    (subst (λ (s : Bool). T (le (fin s m e) (fin false n d))) (sym h) (unfold le in (opposite (m * up e * down d) (n * up d * down e))))
