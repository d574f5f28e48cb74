-- Lists made place by place: one place more, the length, what is not reached yet, and all of it. Assumes nothing.
use mathlib.Core.Path.{◌≡◌, refl, ap, sym, ◌∙◌}
use mathlib.Core.List.{List, [], ◌∷◌, ◌++◌, map}
use Prim.Native.Nat.{ℕ, zero, suc, ◌+◌, ◌<◌, ◌≤◌}
use native.Mathlib.Nat.{le_of_suc-le-suc, not-suc-le-zero}
use native.Mathlib.Numerals.{add-one}
use native.Mathlib.Omega.{arith}
use native.Mathlib.Decide.{ℕ_discrete}
use lib.ListN.{length, get_or, take, drop, set, length-set}
use lib.Seq.{take_all, get_or-set_same, get_or-set_other}
use Rattle.lists.specs.Parts.{upto}

-- ---- f of each of a list's elements in front of another

-- l with f of the first n of xs in front: what the loops hold that store one list over another
abbrev pub filled : {A B : Type 0} → (A → B) → List A → ℕ → List B → List B
filled f xs n l = map f (take n xs) ++ drop n l

module _ {A B : Type 0} (f : A → B) where
  more : (xs : List A) (i : ℕ) (l : List B) (d : A) → i < length xs → i < length l → set (filled f xs i l) i (f (get_or xs i d)) ≡ filled f xs (suc i) l
  more [] i l d h k = absurd (not-suc-le-zero h)
  more (x ∷ xs) i [] d h k = absurd (not-suc-le-zero k)
  more (x ∷ xs) zero (y ∷ l) d h k = refl
  more (x ∷ xs) (suc i) (y ∷ l) d h k = ap (λ (r : List B). f x ∷ r) (more xs i l d (le_of_suc-le-suc h) (le_of_suc-le-suc k))

  pub filled_more : (xs : List A) (i : ℕ) (l : List B) (d : A) → i < length xs → i < length l
      → set (filled f xs i l) i (f (get_or xs i d)) ≡ filled f xs (i + 1) l
  filled_more xs i l d h k = more xs i l d h k ∙ ap (λ (n : ℕ). filled f xs n l) (sym (add-one i))

  pub length_filled : (xs : List A) (i : ℕ) (l : List B) → i ≤ length xs → i ≤ length l → length (filled f xs i l) ≡ length l
  length_filled xs zero l h k = refl
  length_filled [] (suc i) l h k = absurd (not-suc-le-zero h)
  length_filled (x ∷ xs) (suc i) [] h k = absurd (not-suc-le-zero k)
  length_filled (x ∷ xs) (suc i) (y ∷ l) h k = ap suc (length_filled xs i l (le_of_suc-le-suc h) (le_of_suc-le-suc k))

  pub filled_all : (xs : List A) (n : ℕ) (l : List B) → length xs ≤ n → filled f xs n l ≡ map f xs ++ drop n l
  filled_all xs n l h = ap (λ (ys : List A). map f ys ++ drop n l) (take_all n xs h)

  -- what is next to be replaced is still there
  pub filled_next : (xs : List A) (i : ℕ) (l : List B) (d : B) → i ≤ length xs → i < length l → get_or (filled f xs i l) i d ≡ get_or l i d
  filled_next xs zero l d h k = refl
  filled_next [] (suc i) l d h k = absurd (not-suc-le-zero h)
  filled_next (x ∷ xs) (suc i) [] d h k = absurd (not-suc-le-zero k)
  filled_next (x ∷ xs) (suc i) (y ∷ l) d h k = filled_next xs i l d (le_of_suc-le-suc h) (le_of_suc-le-suc k)

-- ---- f i at each place i
module _ {A : Type 0} (f : ℕ → A) where
  pub upto_more : (i : ℕ) (xs : List A) → set (upto i f xs) i (f i) ≡ upto (i + 1) f xs
  upto_more i xs = rw add-one

  pub length_upto : (n : ℕ) (xs : List A) → length (upto n f xs) ≡ length xs
  length_upto zero xs = refl
  length_upto (suc n) xs = length-set (upto n f xs) n (f n) ∙ length_upto n xs

  pub upto_past : (n : ℕ) (xs : List A) (i : ℕ) (d : A) → n ≤ i → get_or (upto n f xs) i d ≡ get_or xs i d
  upto_past zero xs i d h = refl
  upto_past (suc n) xs i d h = get_or-set_other (upto n f xs) n i (f n) d (λ (e : i ≡ n). omega arith) ∙ upto_past n xs i d (omega arith)

  pub upto_at : (n : ℕ) (xs : List A) (i : ℕ) (d : A) → i < n → i < length xs → get_or (upto n f xs) i d ≡ f i
  upto_at zero xs i d h k = absurd (not-suc-le-zero h)
  upto_at (suc n) xs i d h k = go (ℕ_discrete i n) (λ (l : i < n). upto_at n xs i d l k)
    where
      go : Dec (i ≡ n) → (i < n → get_or (upto n f xs) i d ≡ f i) → get_or (set (upto n f xs) n (f n)) i d ≡ f i
      go (yes e) ih = rw e (get_or-set_same (upto n f xs) n (f n) d (omega (arith, length_upto n xs)))
      go (no e) ih = get_or-set_other (upto n f xs) n i (f n) d e ∙ ih (omega arith)
