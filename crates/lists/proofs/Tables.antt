-- A rule of a whole table, or of every number below a bound, by one test that is computed. Assumes nothing.
use mathlib.Core.Path.{◌≡◌, sym, subst}
use mathlib.Core.Logic.{⊎_elim}
use mathlib.Core.Bool.{Bool, true, false}
use mathlib.Core.List.{List, [], ◌∷◌}
use Prim.Native.Nat.{ℕ, zero, suc, ◌<◌, ◌≤◌}
use native.Mathlib.Nat.{le_of_suc-le-suc, not-suc-le-zero, eq-or-lt_of_le}
use native.Mathlib.Omega.{arith}
use lib.Dec.{T}
use lib.ListN.{length, get_or}

-- `◌&&◌` by cases on its first argument alone, so that a long conjunction is computed from its front
abbrev pub both : Bool → Bool → Bool
both true b = b
both false b = false

pub both_left : (a b : Bool) → T (both a b) → T a
both_left true b t = tt
both_left false b t = t

pub both_right : (a b : Bool) → T (both a b) → T b
both_right true b t = t
both_right false b t = absurd t

-- ---- every number below n
abbrev pub below : (ℕ → Bool) → ℕ → Bool
below p zero = true
below p (suc n) = both (below p n) (p n)

pub below_at : (p : ℕ → Bool) (n : ℕ) → T (below p n) → (k : ℕ) → k < n → T (p k)
below_at p zero t k h = absurd (not-suc-le-zero h)
below_at p (suc n) t k h =
    ⊎_elim (λ e. subst (λ (i : ℕ). T (p i)) (sym e) (both_right (below p n) (p n) t))
    (λ l. below_at p n (both_left (below p n) (p n) t) k l)
    (eq-or-lt_of_le (le_of_suc-le-suc h))

-- ---- a number that is none of those below n, as the last arm of a `match` has it
abbrev pub NoneOf : ℕ → ℕ → Type 0
NoneOf l zero = Unit {0}
NoneOf l (suc n) = NoneOf l n × (l ≡ n → ⊥)

pub none_of : (l n : ℕ) → NoneOf l n → n ≤ l
none_of l zero h = omega arith
none_of l (suc n) h = past n l (none_of l n h.0) h.1
  where
    past : (n l : ℕ) → n ≤ l → (l ≡ n → ⊥) → suc n ≤ l
    past n l h k = omega arith

-- ---- every element of a list
module _ {A : Type 0} (p : A → Bool) where
  abbrev pub every : List A → Bool
  every [] = true
  every (x ∷ xs) = both (p x) (every xs)

  pub every_at : (xs : List A) → T (every xs) → (k : ℕ) (d : A) → k < length xs → T (p (get_or xs k d))
  every_at [] t k d h = absurd (not-suc-le-zero h)
  every_at (x ∷ xs) t zero d h = both_left (p x) (every xs) t
  every_at (x ∷ xs) t (suc k) d h = every_at xs (both_right (p x) (every xs) t) k d (le_of_suc-le-suc h)

  -- also past the end, where the element that is read there passes too
  pub every_or : (xs : List A) → T (every xs) → (k : ℕ) (d : A) → T (p d) → T (p (get_or xs k d))
  every_or [] t k d h = h
  every_or (x ∷ xs) t zero d h = both_left (p x) (every xs) t
  every_or (x ∷ xs) t (suc k) d h = every_or xs (both_right (p x) (every xs) t) k d h
