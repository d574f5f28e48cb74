-- Tests of one entry after another, `t x || ..`: a turn of the loop that works one out, and what it says where it does not hold.
-- Assumes nothing.
use mathlib.Core.Path.{◌≡◌, refl, sym, ap, ◌∙◌}
use mathlib.Core.Bool.{Bool, true, false, ◌||◌, or_comm}
use mathlib.Core.List.{List, [], ◌∷◌}
use mathlib.Core.Logic.{⊎_elim}
use Prim.Native.Nat.{ℕ, zero, suc, ◌+◌, ◌-◌, ◌<◌, ◌≤◌}
use native.Mathlib.Nat.{le_of_suc-le-suc, not-suc-le-zero, eq-or-lt_of_le}
use native.Mathlib.Numerals.{add-one}
use native.Mathlib.Omega.{arith}
use lib.ListN.{length, get_or, take, drop}
use lib.Seq.{drop-cons, drop-length}
use lib.Dec.{leb, eqb}
use Rattle.std.specs.List.{list_any}
use Rattle.std.proofs.lemmas.List.Folds.{list_any_more}
use Rattle.lists.specs.Entries.{some_from, has, meet}
use Rattle.std.proofs.lemmas.Bool.{or_parts}

-- ---- of the entries of a list, first to last
pub record Listed (f : List ℕ → Bool) (t : ℕ → Bool) : Type 0 where
  pub none : f [] ≡ false
  pub more : (x : ℕ) (xs : List ℕ) → f (x ∷ xs) ≡ (t x || f xs)

module _ {f : List ℕ → Bool} {t : ℕ → Bool} (l : Listed f t) where
  module _ (xs : List ℕ) {i : ℕ} (h : i < length xs) where
    pub listed_here : f (drop i xs) ≡ (t (get_or xs i 0) || f (drop (i + 1) xs))
    listed_here = rw (add-one, drop-cons xs i 0 h) (l.more (get_or xs i 0) (drop (suc i) xs))

  pub listed_end : (xs : List ℕ) (i : ℕ) → i ≡ length xs → f (drop i xs) ≡ false
  listed_end xs i e = ap (λ (k : ℕ). f (drop k xs)) e ∙ ap f (drop-length xs) ∙ l.none

  pub listed_at : (xs : List ℕ) → f xs ≡ false → (i : ℕ) → i < length xs → t (get_or xs i 0) ≡ false
  listed_at [] e i h = absurd (not-suc-le-zero h)
  listed_at (x ∷ xs) e zero h = (or_parts (t x) (f xs) (sym (l.more x xs) ∙ e)).0
  listed_at (x ∷ xs) e (suc i) h = listed_at xs (or_parts (t x) (f xs) (sym (l.more x xs) ∙ e)).1 i (le_of_suc-le-suc h)

  pub listed_none : (xs : List ℕ) → ((i : ℕ) → i < length xs → t (get_or xs i 0) ≡ false) → f xs ≡ false
  listed_none [] all = l.none
  listed_none (x ∷ xs) all =
      l.more x xs ∙ rw (all 0 (omega arith)) (listed_none xs (λ (i : ℕ) (h : i < length xs). all (suc i) (omega arith)))

pub some_listed : (n : ℕ) → Listed (some_from n) (leb n)
unfolding some_from
some_listed n = record { none = refl; more = λ x xs. refl }

pub has_listed : (x : ℕ) → Listed (λ ys. has ys x) (λ y. eqb y x)
unfolding has
has_listed x = record { none = refl; more = λ y ys. refl }

pub meet_listed : (ys : List ℕ) → Listed (λ xs. meet xs ys) (has ys)
unfolding meet
meet_listed ys = record { none = refl; more = λ x xs. refl }

-- ---- of the numbers below n, last to first
pub record Counted (f t : ℕ → Bool) : Type 0 where
  pub none : f 0 ≡ false
  pub more : (n : ℕ) → f (suc n) ≡ (t n || f n)

-- an i above 0
pub above : (i : ℕ) → 0 < i → i ≡ suc (i - 1)
above i h = omega arith

module _ {f t : ℕ → Bool} (c : Counted f t) where
  module _ {i j : ℕ} (e : i ≡ suc j) where
    pub counted_yes : t j ≡ true → f i ≡ true
    counted_yes h = ap f e ∙ c.more j ∙ rw h

    pub counted_no : t j ≡ false → f i ≡ f j
    counted_no h = ap f e ∙ c.more j ∙ rw h

  pub counted_end : {i : ℕ} → i ≡ 0 → f i ≡ false
  counted_end e = ap f e ∙ c.none

  pub counted_at : (n : ℕ) → f n ≡ false → (i : ℕ) → i < n → t i ≡ false
  counted_at zero e i h = absurd (not-suc-le-zero h)
  counted_at (suc n) e i h =
      let b = or_parts (t n) (f n) (sym (c.more n) ∙ e) in
      ⊎_elim (λ p. ap t p ∙ b.0) (λ p. counted_at n b.1 i p) (eq-or-lt_of_le (le_of_suc-le-suc h))

  pub counted_none : (n : ℕ) → ((i : ℕ) → i < n → t i ≡ false) → f n ≡ false
  counted_none zero all = c.none
  counted_none (suc n) all = c.more n ∙ rw (all n (omega arith)) (counted_none n (λ (i : ℕ) (h : i < n). all i (omega arith)))

  -- what `any` answers of the first n elements of a list, where its test of element i is t i
  pub counted_any : {A : Type 0} (p : A → Bool) (xs : List A) (d : A) (n : ℕ) → n ≤ length xs → ((i : ℕ) → i < n → p (get_or xs i d) ≡ t i)
      → list_any p (take n xs) ≡ f n
  counted_any p xs d zero h each = sym c.none
  counted_any p xs d (suc n) h each =
      rw (← add-one)
      (list_any_more p xs n d (omega arith)
      ∙ or_comm (list_any p (take n xs)) (p (get_or xs n d))
      ∙ ap (λ (b : Bool). b || list_any p (take n xs)) (each n (omega arith))
      ∙ ap (λ (b : Bool). t n || b) (counted_any p xs d n (omega arith) (λ (i : ℕ) (l : i < n). each i (omega arith)))
      ∙ sym (c.more n)
      ∙ ap f (sym (add-one n)))
