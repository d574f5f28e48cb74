-- A run of stores, `sets`, and a part: what is read inside and outside of the stores. Assumes nothing.
use Prim.Native.Nat.{ℕ, zero, suc, ◌+◌, ◌<◌, ◌≤◌}
use native.Mathlib.Nat.{not-suc-le-zero, le_of_suc-le-suc, add-zero, zero-add, add-suc, suc-add, le_of_lt}
use native.Mathlib.Numerals.{add-one}
use native.Mathlib.Omega.{arith}
use mathlib.Core.Logic.{◌⊎◌, inl, inr, ⊎_elim}
use mathlib.Core.Path.{◌≡◌, refl, sym, ap, ◌∙◌}
use mathlib.Core.List.{List, [], ◌∷◌, ◌++◌, append_assoc}
use lib.ListN.{length, set, get_or, take, drop, length-take, length-drop, length-set, length-append}
use lib.Seq.{get_or-set_same, get_or-set_other, take-nil, take-suc, take-take, length-take-le, take-set-le, drop-set-lt, take_at, take_all, drop_at, set_comm, sets, sets-eq}
use Rattle.lists.specs.Parts.{part}

module _ {A : Type 0} where
  pub length_part : (k n : ℕ) (xs : List A) → k + n ≤ length xs → length (part k n xs) ≡ n
  length_part k n xs h = simp (length-take, length-drop) (omega arith)

  pub part_take : (k n m : ℕ) (xs : List A) → k + n ≤ m → part k n (take m xs) ≡ part k n xs
  part_take zero n m xs h = take-take n m xs (omega arith)
  part_take (suc k) n zero xs h = absurd (omega arith)
  part_take (suc k) n (suc m) [] h = refl
  part_take (suc k) n (suc m) (x ∷ xs) h = part_take k n m xs (omega arith)

  -- a part of lists that have the same first m entries
  pub part_same : (k n m : ℕ) (xs ys : List A) → take m xs ≡ take m ys → k + n ≤ m → part k n xs ≡ part k n ys
  part_same k n m xs ys e h = sym (part_take k n m xs h) ∙ ap (part k n) e ∙ part_take k n m ys h

  -- below the length, what is read does not depend on the default
  pub get_d_any : (xs : List A) (i : ℕ) (d e : A) → i < length xs → get_or xs i d ≡ get_or xs i e
  get_d_any [] i d e h = absurd (not-suc-le-zero h)
  get_d_any (x ∷ xs) zero d e h = refl
  get_d_any (x ∷ xs) (suc i) d e h = get_d_any xs i d e (le_of_suc-le-suc h)

  -- ---- one run after another, and one store more
  pub sets_append : (l : List A) (k : ℕ) (xs ys : List A) → sets l k (xs ++ ys) ≡ sets (sets l k xs) (k + length xs) ys
  sets_append l k [] ys = rw add-zero
  sets_append l k (a ∷ xs) ys = rw (add-suc, ← suc-add) (sets_append (set l k a) (suc k) xs ys)

  pub sets_more : (l : List A) (k i : ℕ) (row : List A) (d : A) → i < length row
      → set (sets l k (take i row)) (k + i) (get_or row i d) ≡ sets l k (take (i + 1) row)
  sets_more l k i row d h = rw (add-one, take-suc row i d h, sets_append, length-take-le i row (le_of_lt h))

  -- a loop that stores `row` from place k on, after i turns: one turn more, the area's length, and all of the row
  pub stores_turn : {area : List A} (l row : List A) (k i : ℕ) (d : A) {v : A} → area ≡ sets l k (take i row) → i < length row → v ≡ get_or row i d
      → set area (k + i) v ≡ sets l k (take (i + 1) row)
  stores_turn l row k i d e h p = rw (e, p) (sets_more l k i row d h)

  pub stores_all : {area : List A} (l row : List A) (k i : ℕ) → area ≡ sets l k (take i row) → length row ≤ i → area ≡ sets l k row
  stores_all l row k i e h = e ∙ ap (sets l k) (take_all i row h)

  -- ---- two runs at places apart, in either order
  set_sets : (l : List A) (i : ℕ) (x : A) (k : ℕ) (vs : List A) → (i < k) ⊎ (k + length vs ≤ i) → set (sets l k vs) i x ≡ sets (set l i x) k vs
  set_sets l i x k [] h = refl
  set_sets l i x k (a ∷ vs) h =
      set_sets (set l k a) i x (suc k) vs (⊎_elim (λ (p : i < k). inl (omega arith)) (λ (p : k + suc (length vs) ≤ i). inr (omega arith)) h)
      ∙ ap (λ (z : List A). sets z (suc k) vs) (set_comm l k i a x (λ (e : k ≡ i). ⊎_elim (λ (p : i < k). omega arith) (λ (p : k + suc (length vs) ≤ i). omega arith) h))

  pub sets_swap : (l : List A) (i : ℕ) (us : List A) (k : ℕ) (vs : List A) → (i + length us ≤ k) ⊎ (k + length vs ≤ i)
      → sets (sets l i us) k vs ≡ sets (sets l k vs) i us
  sets_swap l i [] k vs h = refl
  sets_swap l i (a ∷ us) k vs h =
      sets_swap (set l i a) (suc i) us k vs (⊎_elim (λ (p : i + suc (length us) ≤ k). inl (omega arith)) (λ (p : k + length vs ≤ i). inr (omega arith)) h)
      ∙ ap (λ (z : List A). sets z (suc i) us)
      (sym (set_sets l i a k vs (⊎_elim (λ (p : i + suc (length us) ≤ k). inl (omega arith)) (λ (p : k + length vs ≤ i). inr (omega arith)) h)))

  -- ---- what lies before the stores, and what lies after them
  pub take_sets : (n : ℕ) (l : List A) (k : ℕ) (vs : List A) → n ≤ k → take n (sets l k vs) ≡ take n l
  take_sets n l k [] h = refl
  take_sets n l k (a ∷ vs) h = take_sets n (set l k a) (suc k) vs (omega arith) ∙ take-set-le n l k a h

  pub drop_sets : (n : ℕ) (l : List A) (k : ℕ) (vs : List A) → k + length vs ≤ n → drop n (sets l k vs) ≡ drop n l
  drop_sets n l k [] h = refl
  drop_sets n l k (a ∷ vs) h = drop_sets n (set l k a) (suc k) vs (omega arith) ∙ drop-set-lt n l k a (omega arith)

  pub get_d_sets : (i : ℕ) (l : List A) (k : ℕ) (vs : List A) (d : A) → (i < k) ⊎ (k + length vs ≤ i) → get_or (sets l k vs) i d ≡ get_or l i d
  get_d_sets i l k [] d h = refl
  get_d_sets i l k (a ∷ vs) d h =
      get_d_sets i (set l k a) (suc k) vs d (⊎_elim (λ (p : i < k). inl (omega arith)) (λ (p : k + suc (length vs) ≤ i). inr (omega arith)) h)
      ∙ get_or-set_other l k i a d (λ (e : i ≡ k). ⊎_elim (λ (p : i < k). omega arith) (λ (p : k + suc (length vs) ≤ i). omega arith) h)

  -- ---- what was stored
  pub get_d_sets_at : (l : List A) (k j : ℕ) (vs : List A) (d : A) → j < length vs → k + j < length l → get_or (sets l k vs) (k + j) d ≡ get_or vs j d
  get_d_sets_at l k j [] d h g = absurd (not-suc-le-zero h)
  get_d_sets_at l k zero (a ∷ vs) d h g = rw add-zero (get_d_sets k (set l k a) (suc k) vs d (inl (omega arith)) ∙ get_or-set_same l k a d (omega arith))
  get_d_sets_at l k (suc j) (a ∷ vs) d h g = rw (add-suc, ← suc-add) (get_d_sets_at (set l k a) (suc k) j vs d (omega arith) (rw length-set (omega arith)))

  -- all up to the last of them
  pub take_stored : (l : List A) (k : ℕ) (vs : List A) → k + length vs ≤ length l → take (k + length vs) (sets l k vs) ≡ take k l ++ vs
  take_stored l k vs h =
      rw (sets-eq vs l k h)
      (take_at (take k l ++ vs) (drop (k + length vs) l) (k + length vs) (length-append (take k l) vs ∙ ap (λ (n : ℕ). n + length vs) (length-take-le k l (omega arith))))

  -- stores from the front on
  pub sets_front : (l vs : List A) → length vs ≤ length l → sets l 0 vs ≡ vs ++ drop (length vs) l
  sets_front l vs h = sets-eq vs l 0 (omega arith) ∙ ap (λ (k : ℕ). vs ++ drop k l) (zero-add (length vs))

  -- ---- a part before the stores, after them, and just where they are
  pub part_swap : (k n : ℕ) (l : List A) → take n (drop k l) ≡ drop k (take (k + n) l)
  part_swap zero n l = rw zero-add
  part_swap (suc k) n [] = rw (take-nil n, take-nil (suc k + n))
  part_swap (suc k) n (x ∷ l) = rw suc-add (part_swap k n l)

  pub part_sets_before : (k n : ℕ) (l : List A) (j : ℕ) (vs : List A) → k + n ≤ j → part k n (sets l j vs) ≡ part k n l
  part_sets_before k n l j vs h = part_swap k n (sets l j vs) ∙ ap (drop k) (take_sets (k + n) l j vs h) ∙ sym (part_swap k n l)

  pub part_sets_after : (k n : ℕ) (l : List A) (j : ℕ) (vs : List A) → j + length vs ≤ k → part k n (sets l j vs) ≡ part k n l
  part_sets_after k n l j vs h = ap (take n) (drop_sets k l j vs h)

  pub part_sets_same : (k n : ℕ) (l vs : List A) → length vs ≡ n → k + n ≤ length l → part k n (sets l k vs) ≡ vs
  part_sets_same k n l vs e h =
      let h' : k + length vs ≤ length l = omega arith in
      rw (
        sets-eq vs l k h',
        append_assoc,
        drop_at (take k l) (vs ++ drop (k + length vs) l) k (length-take-le k l (omega arith)),
        take_at vs (drop (k + length vs) l) n e,
      )
