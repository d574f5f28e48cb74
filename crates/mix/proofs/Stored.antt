-- `sampled`: its length, its elements, and two that join; and a run of stores of what is sampled, one store more and one run more.
-- Assumes nothing.
use mathlib.Core.Path.{◌≡◌, refl, sym, ap, ◌∙◌}
use mathlib.Core.Logic.{inl}
use mathlib.Core.List.{List, [], ◌∷◌, ◌++◌, append_assoc, append-nil}
use Prim.Native.Nat.{ℕ, zero, suc, ◌+◌, ◌-◌, ◌≤◌, ◌<◌}
use native.Mathlib.Nat.{add-zero, zero-add, add-suc, not-suc-le-zero}
use native.Mathlib.Numerals.{add-one}
use native.Mathlib.Decide.{ℕ_discrete}
use native.Mathlib.Omega.{arith}
use lib.ListN.{length, get_or, take, drop, set, length-append, length-take, length-drop, drop_of_length-le, get_or-append}
use lib.Seq.{get_or_at, set-get_or, sets, sets-eq, drop-drop}
use lib.Ieee.{Float, nan}
use Rattle.std.proofs.Math.Seq.{take-suc}
use Rattle.std.proofs.Math.ListN.{replicate}
use Rattle.std.proofs.lemmas.List.{replicate-append-replicate}
use borrow.Rule.Slice.PartMut.{put_mid, mid_of}
use Rattle.lists.proofs.Stores.{sets_append, get_d_sets, get_d_sets_at}
use Rattle.mix.specs.Samples.{sampled}

pub length_sampled : (n : ℕ) (f : ℕ → Float) → length (sampled n f) ≡ n
unfolding sampled
length_sampled zero f = refl
length_sampled (suc n) f = omega (arith, length-append (sampled n f) (f n ∷ []), length_sampled n f)

pub sampled_at : (n : ℕ) (f : ℕ → Float) (k : ℕ) → k < n → get_or (sampled n f) k nan ≡ f k
unfolding sampled
sampled_at zero f k h = absurd (not-suc-le-zero h)
sampled_at (suc n) f k h = go (ℕ_discrete k n) (λ (l : k < n). sampled_at n f k l)
  where
    go : Dec (k ≡ n) → (k < n → get_or (sampled n f) k nan ≡ f k) → get_or (sampled n f ++ (f n ∷ [])) k nan ≡ f k
    go (yes e) ih = rw e (get_or_at (sampled n f) (f n) [] nan n (length_sampled n f))
    go (no e) ih =
        let l : k < n = omega arith in
        get_or-append (sampled n f) (f n ∷ []) nan k (omega (arith, length_sampled n f)) ∙ ih l

-- only the samples below n count
pub sampled_same : (n : ℕ) (f g : ℕ → Float) → ((k : ℕ) → k < n → f k ≡ g k) → sampled n f ≡ sampled n g
unfolding sampled
sampled_same zero f g h = refl
sampled_same (suc n) f g h =
    ap (λ (l : List Float). l ++ (f n ∷ [])) (sampled_same n f g (λ k l. h k (omega arith)))
    ∙ ap (λ (v : Float). sampled n g ++ (v ∷ [])) (h n (omega arith))

pub sampled_add : (n m : ℕ) (f : ℕ → Float) → sampled (n + m) f ≡ sampled n f ++ sampled m (λ i. f (n + i))
unfolding sampled
sampled_add n zero f = rw (add-zero, append-nil)
sampled_add n (suc m) f =
    rw add-suc
    (ap (λ (l : List Float). l ++ (f (n + m) ∷ [])) (sampled_add n m f)
    ∙ append_assoc (sampled n f) (sampled m (λ i. f (n + i))) (f (n + m) ∷ []))

-- the start of a list, and one value over and over
pub taken_sampled : (n : ℕ) (x : List Float) → n ≤ length x → take n x ≡ sampled n (λ i. get_or x i nan)
unfolding sampled
taken_sampled zero x h = refl
taken_sampled (suc n) x h =
    take-suc x n nan (omega arith)
    ∙ ap (λ (l : List Float). l ++ (get_or x n nan ∷ [])) (taken_sampled n x (omega arith))

pub repeated_sampled : (n : ℕ) (v : Float) → replicate n v ≡ sampled n (λ i. v)
unfolding sampled
repeated_sampled zero v = refl
repeated_sampled (suc n) v =
    sym (rw add-one at (replicate-append-replicate n 1 v))
    ∙ ap (λ (l : List Float). l ++ (v ∷ [])) (repeated_sampled n v)

-- ---- a run of stores, and the next
module _ (F : ℕ → Float) (a : List Float) (to : ℕ) where
  pub none_stored : a ≡ sets a to (sampled 0 F)
  unfolding sampled
  none_stored = refl

  one_more : (n : ℕ) → set (sets a to (sampled n F)) (to + n) (F n) ≡ sets a to (sampled (n + 1) F)
  unfolding sampled
  one_more n =
      rw add-one
      (sym (sets_append a to (sampled n F) (F n ∷ [])
      ∙ ap (λ (i : ℕ). set (sets a to (sampled n F)) (to + i) (F n)) (length_sampled n F)))

  pub store_more : (n : ℕ) {b : List Float} {v : Float} → b ≡ sets a to (sampled n F) → v ≡ F n → set b (to + n) v ≡ sets a to (sampled (n + 1) F)
  store_more n e p = rw (e, p) (one_more n)

  pub run_more : (G : ℕ → Float) (n m : ℕ) {b c : List Float} → b ≡ sets a to (sampled n F) → c ≡ sets b (to + n) (sampled m G)
      → ((i : ℕ) → i < m → G i ≡ F (n + i)) → c ≡ sets a to (sampled (n + m) F)
  run_more G n m {b} {c} e h same =
      h
      ∙ ap (λ (l : List Float). sets b (to + n) l) (sampled_same m G (λ i. F (n + i)) same)
      ∙ ap (λ (l : List Float). sets l (to + n) (sampled m (λ i. F (n + i)))) e
      ∙ sym (ap (λ (l : List Float). sets a to l) (sampled_add n m F)
      ∙ sets_append a to (sampled n F) (sampled m (λ i. F (n + i)))
      ∙ ap (λ (i : ℕ). sets (sets a to (sampled n F)) (to + i) (sampled m (λ i. F (n + i)))) (length_sampled n F))

  -- what is stored, and what is not
  pub stored_at : (n i : ℕ) → i < n → to + i < length a → get_or (sets a to (sampled n F)) (to + i) nan ≡ F i
  stored_at n i h l = get_d_sets_at a to i (sampled n F) nan (omega (arith, length_sampled n F)) l ∙ sampled_at n F i h

  pub stored_before : (n i : ℕ) → i < to → get_or (sets a to (sampled n F)) i nan ≡ get_or a i nan
  stored_before n i h = get_d_sets i a to (sampled n F) nan (inl h)

-- what holds already is stored with no change
pub unchanged : (l : List Float) (p n : ℕ) → sets l p (sampled n (λ k. get_or l (p + k) nan)) ≡ l
unfolding sampled
unchanged l p zero = refl
unchanged l p (suc n) =
    let f : ℕ → Float = λ k. get_or l (p + k) nan in
    sets_append l p (sampled n f) (f n ∷ [])
    ∙ ap (λ (i : ℕ). set (sets l p (sampled n f)) (p + i) (f n)) (length_sampled n f)
    ∙ ap (λ (z : List Float). set z (p + n) (f n)) (unchanged l p n)
    ∙ set-get_or l (p + n) nan

-- ---- a loop that stores F i at place i of y: a turn, and all turns
pub turn : (F : ℕ → Float) (i : ℕ) (y₀ : List Float) {y : List Float} {v : Float} → y ≡ sets y₀ 0 (sampled i F) → v ≡ F i
    → set y i v ≡ sets y₀ 0 (sampled (i + 1) F)
turn F i y₀ e p = rw zero-add at (store_more F y₀ 0 i e p)

pub all_turns : (F : ℕ → Float) (i : ℕ) (y₀ : List Float) {y : List Float} → y ≡ sets y₀ 0 (sampled i F) → i ≡ length y₀ → y ≡ sampled (length y₀) F
all_turns F i y₀ e h =
    let n : ℕ = length y₀ in
    let w : 0 + length (sampled n F) ≡ n = omega (arith, length_sampled n F) in
    e
    ∙ ap (λ (j : ℕ). sets y₀ 0 (sampled j F)) h
    ∙ sets-eq (sampled n F) y₀ 0 (omega arith)
    ∙ ap (λ (j : ℕ). sampled n F ++ drop j y₀) w
    ∙ ap (λ (l : List Float). sampled n F ++ l) (drop_of_length-le y₀ {i = n} (omega arith))
    ∙ append-nil (sampled n F)

-- a part of a that is filled with what is sampled
pub part_stored : (F : ℕ → Float) (a : List Float) (p m : ℕ) {ys : List Float} → p + m ≤ length a
    → ys ≡ sampled (length (mid_of p (p + m - p) a)) F → put_mid p (p + m - p) a ys ≡ sets a p (sampled m F)
part_stored F a p m {ys} h e =
    let j : p + m - p ≡ m = omega arith in
    let k : length (take m (drop p a)) ≡ m = simp (length-take, length-drop) (omega arith) in
    let w : ys ≡ sampled m F = rw (j, k) at e in
    rw (w, j, drop-drop)
    (sym (sets-eq (sampled m F) a p (omega (arith, length_sampled m F))
    ∙ ap (λ (n : ℕ). take p a ++ sampled m F ++ drop (p + n) a) (length_sampled m F)
    ∙ append_assoc (take p a) (sampled m F) (drop (p + m) a)))
