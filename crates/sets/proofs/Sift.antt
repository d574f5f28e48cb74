-- The numbers of a range that pass a test: one range after another, tests that agree, each number of the list and each that is in it.
-- Assumes nothing.
use Prim.Native.Nat.{ℕ, zero, suc, ◌+◌, ◌<◌, ◌≤◌}
use mathlib.Core.Path.{◌≡◌, refl, sym, ap, ◌∙◌}
use mathlib.Core.Logic.{◌⊎◌, inl, inr}
use mathlib.Core.Bool.{Bool, true, false, cond, false≢true}
use mathlib.Core.List.{List, ◌∷◌, ◌++◌}
use native.Mathlib.Nat.{not-suc-le-zero, le_of_suc-le-suc, eq-or-lt_of_le, zero-add, add-zero, add-suc, suc-add}
use native.Mathlib.Omega.{arith}
use lib.ListN.{length, get_or}
use Rattle.sets.specs.Sets.{sift}

-- an entry of the list is in the range, and passes
pub record Entry (p : ℕ → Bool) (i n e : ℕ) : Type 0 where
  pub from : i ≤ e
  pub below : e < i + n
  pub passes : p e ≡ true

-- a number has a place in a list
pub record Listed (l : List ℕ) (j : ℕ) : Type 0 where
  pub place : ℕ
  pub below : place < length l
  pub there : get_or l place 0 ≡ j

-- i in front of a list, where it passes
abbrev keep : Bool → ℕ → List ℕ → List ℕ
keep b i l = cond b (i ∷ l) l

keep_append : (b : Bool) (i : ℕ) (l m : List ℕ) → keep b i (l ++ m) ≡ keep b i l ++ m
keep_append true i l m = refl
keep_append false i l m = refl

pub sift_same : (p q : ℕ → Bool) (i n : ℕ) → ((j : ℕ) → i ≤ j → j < i + n → p j ≡ q j) → sift p i n ≡ sift q i n
unfolding sift
sift_same p q i zero h = refl
sift_same p q i (suc n) h =
    ap (λ (b : Bool). keep b i (sift p (suc i) n)) (h i (omega arith) (omega arith))
    ∙ ap (keep (q i) i) (sift_same p q (suc i) n (λ j g l. h j (omega arith) (omega arith)))

module _ (p : ℕ → Bool) where
  pub sift_append : (i m n : ℕ) → sift p i (m + n) ≡ sift p i m ++ sift p (i + m) n
  unfolding sift
  sift_append i zero n = rw (zero-add, add-zero)
  sift_append i (suc m) n =
      ap (sift p i) (suc-add m n)
      ∙ ap (keep (p i) i) (sift_append (suc i) m n)
      ∙ keep_append (p i) i (sift p (suc i) m) (sift p (suc i + m) n)
      ∙ ap (λ (k : ℕ). sift p i (suc m) ++ sift p k n) (suc-add i m ∙ sym (add-suc i m))

  pub length_sift : (i n : ℕ) → length (sift p i n) ≤ n
  unfolding sift
  length_sift i zero = omega arith
  length_sift i (suc n) = go (p i) (length_sift (suc i) n)
    where
      go : (b : Bool) → length (sift p (suc i) n) ≤ n → length (keep b i (sift p (suc i) n)) ≤ suc n
      go true h = omega arith
      go false h = omega arith

  pub sift_entry : (i n k : ℕ) → k < length (sift p i n) → Entry p i n (get_or (sift p i n) k 0)
  unfolding sift
  sift_entry i zero k h = absurd (not-suc-le-zero h)
  sift_entry i (suc n) k h = go (p i) refl k h (sift_entry (suc i) n)
    where
      wider : (e : ℕ) → Entry p (suc i) n e → Entry p i (suc n) e
      wider e r = record { from = omega (arith, r.from); below = omega (arith, r.below); passes = r.passes }

      go : (b : Bool) → p i ≡ b → (k : ℕ) → k < length (keep b i (sift p (suc i) n))
          → ((m : ℕ) → m < length (sift p (suc i) n) → Entry p (suc i) n (get_or (sift p (suc i) n) m 0))
          → Entry p i (suc n) (get_or (keep b i (sift p (suc i) n)) k 0)
      go true q zero h ih = record { from = omega arith; below = omega arith; passes = q }
      go true q (suc k) h ih = wider (get_or (sift p (suc i) n) k 0) (ih k (le_of_suc-le-suc h))
      go false q k h ih = wider (get_or (sift p (suc i) n) k 0) (ih k h)

  pub sift_ascends : (i n k l : ℕ) → k < l → l < length (sift p i n) → get_or (sift p i n) k 0 < get_or (sift p i n) l 0
  unfolding sift
  sift_ascends i zero k l h g = absurd (not-suc-le-zero g)
  sift_ascends i (suc n) k l h g = go (p i) k l h g (sift_ascends (suc i) n)
    where
      go : (b : Bool) (k l : ℕ) → k < l → l < length (keep b i (sift p (suc i) n))
          → ((k l : ℕ) → k < l → l < length (sift p (suc i) n) → get_or (sift p (suc i) n) k 0 < get_or (sift p (suc i) n) l 0)
          → get_or (keep b i (sift p (suc i) n)) k 0 < get_or (keep b i (sift p (suc i) n)) l 0
      go true k zero h g ih = absurd (not-suc-le-zero h)
      go true zero (suc l) h g ih = (sift_entry (suc i) n l (le_of_suc-le-suc g)).from
      go true (suc k) (suc l) h g ih = ih k l (le_of_suc-le-suc h) (le_of_suc-le-suc g)
      go false k l h g ih = ih k l h g

  pub sift_lists : (i n j : ℕ) → i ≤ j → j < i + n → p j ≡ true → Listed (sift p i n) j
  unfolding sift
  sift_lists i zero j h l e = absurd (omega arith)
  sift_lists i (suc n) j h l e = go (p i) refl (eq-or-lt_of_le h) (λ g. sift_lists (suc i) n j g (omega arith) e)
    where
      later : Listed (sift p (suc i) n) j → Listed (i ∷ sift p (suc i) n) j
      later r = record { place = suc r.place; below = omega (arith, r.below); there = r.there }

      go : (b : Bool) → p i ≡ b → (i ≡ j) ⊎ (i < j) → (suc i ≤ j → Listed (sift p (suc i) n) j) → Listed (keep b i (sift p (suc i) n)) j
      go true q (inl d) ih = record { place = 0; below = omega arith; there = d }
      go true q (inr d) ih = later (ih d)
      go false q (inl d) ih = absurd (false≢true (sym q ∙ ap p d ∙ e))
      go false q (inr d) ih = ih d
