-- A ramp over a piece; the loops over the samples of a piece, and one piece of a buffer, or of two buffers, through a local: one law for whatever is done to a
-- sample. Assumes nothing.
use mathlib.Core.Path.{◌≡◌, refl, sym, ap, ◌∙◌}
use mathlib.Core.Bool.{true}
use mathlib.Core.List.{List}
use mathlib.Core.Logic.{inl, inr, ⊎_elim}
use Prim.Native.Nat.{ℕ, ◌+◌, ◌-◌, ◌≤◌, ◌<◌}
use native.Mathlib.Nat.{zero-add}
use native.Mathlib.Omega.{arith}
use lib.ListN.{length, get_or, drop, set, length-take, length-drop}
use lib.Seq.{sets, length-sets, get_or-take, get_or-drop}
use lib.Ieee.{Float, nan}
use borrow.Author.Tests.{le-leb, leb-true}
use borrow.Rule.Slice.PartMut.{mid_of}
use Rattle.lists.proofs.Stores.{get_d_sets}
use Rattle.node.specs.declared.Gain.{Gain}
use Rattle.node.specs.declared.Gain.TheVariants.{Rest, Moving}
use Rattle.node.specs.Nodes.{ramping}
use Rattle.mix.specs.Samples.{sampled}
use Rattle.mix.specs.Loops.{mixed_into, mixed_at, two_at, PartsApart}
use Rattle.mix.proofs.Stored.{length_sampled, turn, stored_at, sampled_same}

-- ---- a ramp that lasts to a sample lasts to every one before it
pub ramping_before : (g : Gain) (m n : ℕ) → m ≤ n → ramping g n ≡ true → ramping g m ≡ true
unfolding ramping
ramping_before (Rest t) m n h e = e
ramping_before (Moving cur step t left) m n h e = le-leb m left (omega (arith, leb-true n left e))

-- ---- the samples of a local, from those of a part
module _ (f : ℕ → Float → Float → Float) (k : ℕ) (x y₀ : List Float) where
  length_mixed : (m : ℕ) → length (mixed_into f k m x y₀) ≡ length y₀
  unfolding mixed_into
  length_mixed m = simp length-sets

  pub mixed_turn : (i : ℕ) {y : List Float} → y ≡ mixed_into f k i x y₀
      → set y i (f (k + i) (get_or x i nan) (get_or y i nan)) ≡ mixed_into f k (i + 1) x y₀
  unfolding mixed_into
  mixed_turn i {y} e =
      let F : ℕ → Float = λ i. f (k + i) (get_or x i nan) (get_or y₀ i nan) in
      let h : get_or y i nan ≡ get_or y₀ i nan = ap (λ (l : List Float). get_or l i nan) e ∙ get_d_sets i y₀ 0 (sampled i F) nan (inr (omega (arith, length_sampled i F))) in
      turn F i y₀ e (ap (λ (v : Float). f (k + i) (get_or x i nan) v) h)

  pub mixed_at_lem : (m : ℕ) {y : List Float} → y ≡ mixed_into f k m x y₀ → m ≤ length y₀ → (i : ℕ) → i < m
      → get_or y i nan ≡ f (k + i) (get_or x i nan) (get_or y₀ i nan)
  unfolding mixed_into
  mixed_at_lem m e h i l =
      let F : ℕ → Float = λ i. f (k + i) (get_or x i nan) (get_or y₀ i nan) in
      ap (λ (y : List Float). get_or y i nan) e ∙ (rw zero-add at (stored_at F y₀ 0 m i l (omega arith)))

-- the samples of a part
pub part_at : (a : List Float) (p m i : ℕ) → i < m → get_or (mid_of p (p + m - p) a) i nan ≡ get_or a (p + i) nan
part_at a p m i h =
    let j : p + m - p ≡ m = omega arith in
    rw j (get_or-take m (drop p a) i nan h ∙ get_or-drop p a i nan)

pub part_length : (a : List Float) (p m : ℕ) → p + m ≤ length a → length (mid_of p (p + m - p) a) ≡ m
part_length a p m h = let j : p + m - p ≡ m = omega arith in rw j (simp (length-take, length-drop) (omega arith))

-- a part, mixed into a local by a function that is f from sample k on
pub part_mixed : (f h : ℕ → Float → Float → Float) (k p m : ℕ) (a t₀ : List Float) {t : List Float} → p + m ≤ length a → m ≤ length t₀
    → ((i : ℕ) → k ≤ i → (x y : Float) → h i x y ≡ f i x y)
    → t ≡ mixed_into h k (length (mid_of p (p + m - p) a)) (mid_of p (p + m - p) a) t₀
    → (i : ℕ) → i < m → get_or t i nan ≡ f (k + i) (get_or a (p + i) nan) (get_or t₀ i nan)
part_mixed f h k p m a t₀ {t} hp ht same e i l =
    let n : length (mid_of p (p + m - p) a) ≡ m = part_length a p m hp in
    mixed_at_lem h k (mid_of p (p + m - p) a) t₀ (length (mid_of p (p + m - p) a)) e (omega arith) i (omega arith)
    ∙ same (k + i) (omega arith) (get_or (mid_of p (p + m - p) a) i nan) (get_or t₀ i nan)
    ∙ ap (λ (v : Float). f (k + i) v (get_or t₀ i nan)) (part_at a p m i l)

-- stores of samples H, which are those of F
pub samples_stored : {H : ℕ → Float} (F : ℕ → Float) (a : List Float) (p m : ℕ) {b : List Float} → b ≡ sets a p (sampled m H)
    → ((i : ℕ) → i < m → H i ≡ F i) → b ≡ sets a p (sampled m F)
samples_stored {H} F a p m e same = e ∙ ap (λ (l : List Float). sets a p l) (sampled_same m H F same)

-- the first n of a part stored: a sample of a part that does not overlap it
pub apart_kept : (F : ℕ → Float) (a : List Float) (to m p i n : ℕ) → PartsApart p to m → i < m → n ≤ m → get_or (sets a to (sampled n F)) (p + i) nan ≡ get_or a (p + i) nan
apart_kept F a to m p i n o l h =
    get_d_sets (p + i) a to (sampled n F) nan
    (⊎_elim (λ (u : p + m ≤ to). inl (omega arith)) (λ (u : to + m ≤ p). inr (omega (arith, length_sampled n F))) o)

-- a piece: the destination's samples go to a local, the source's are mixed into it, and it is stored
pub piece_mixed : (f h : ℕ → Float → Float → Float) (from to m k : ℕ) (a t₀ : List Float) {t₁ t₂ b : List Float}
    → from + m ≤ length a → to + m ≤ length a → m ≤ length t₀ → ((i : ℕ) → k ≤ i → (x y : Float) → h i x y ≡ f i x y)
    → t₁ ≡ mixed_into (λ k x y. x) 0 (length (mid_of to (to + m - to) a)) (mid_of to (to + m - to) a) t₀
    → t₂ ≡ mixed_into h k (length (mid_of from (from + m - from) a)) (mid_of from (from + m - from) a) t₁
    → b ≡ sets a to (sampled m (λ i. get_or t₂ i nan)) → b ≡ mixed_at f from to m k a
piece_mixed f h from to m k a t₀ {t₁} {t₂} hf ht h₀ same e₁ e₂ e₃ =
    let n : length t₁ ≡ length t₀ = ap length e₁ ∙ length_mixed (λ k x y. x) 0 (mid_of to (to + m - to) a) t₀ (length (mid_of to (to + m - to) a)) in
    samples_stored (λ i. f (k + i) (get_or a (from + i) nan) (get_or a (to + i) nan)) a to m e₃
    (λ i l. part_mixed f h k from m a t₁ hf (omega arith) same e₂ i l
    ∙ ap (λ (v : Float). f (k + i) (get_or a (from + i) nan) v) (part_mixed (λ k x y. x) (λ k x y. x) 0 to m a t₀ ht h₀ (λ i l x y. refl) e₁ i l))

-- two sources, one mixed into the local after the other, by functions that are f and q from sample k on: the local, and the piece
two_mixed : (f q f' q' : ℕ → Float → Float → Float) (from other to m k : ℕ) (a t₀ : List Float) {t₁ t₂ t₃ : List Float}
    → from + m ≤ length a → other + m ≤ length a → to + m ≤ length a → m ≤ length t₀
    → ((i : ℕ) → k ≤ i → (x y : Float) → f' i x y ≡ f i x y) → ((i : ℕ) → k ≤ i → (x y : Float) → q' i x y ≡ q i x y)
    → t₁ ≡ mixed_into (λ k x y. x) 0 (length (mid_of to (to + m - to) a)) (mid_of to (to + m - to) a) t₀
    → t₂ ≡ mixed_into f' k (length (mid_of from (from + m - from) a)) (mid_of from (from + m - from) a) t₁
    → t₃ ≡ mixed_into q' k (length (mid_of other (other + m - other) a)) (mid_of other (other + m - other) a) t₂
    → (i : ℕ) → i < m → get_or t₃ i nan ≡ q (k + i) (get_or a (other + i) nan) (f (k + i) (get_or a (from + i) nan) (get_or a (to + i) nan))
two_mixed f q f' q' from other to m k a t₀ {t₁} {t₂} {t₃} hf hz ht h₀ same-f same-q e₁ e₂ e₃ i l =
    let n₁ : length t₁ ≡ length t₀ = ap length e₁ ∙ length_mixed (λ k x y. x) 0 (mid_of to (to + m - to) a) t₀ (length (mid_of to (to + m - to) a)) in
    let n₂ : length t₂ ≡ length t₁ = ap length e₂ ∙ length_mixed f' k (mid_of from (from + m - from) a) t₁ (length (mid_of from (from + m - from) a)) in
    part_mixed q q' k other m a t₂ hz (omega arith) same-q e₃ i l
    ∙ ap (λ (v : Float). q (k + i) (get_or a (other + i) nan) v)
    (part_mixed f f' k from m a t₁ hf (omega arith) same-f e₂ i l
    ∙ ap (λ (v : Float). f (k + i) (get_or a (from + i) nan) v) (part_mixed (λ k x y. x) (λ k x y. x) 0 to m a t₀ ht h₀ (λ i l x y. refl) e₁ i l))

pub piece_two : (f q f' q' : ℕ → Float → Float → Float) (from other to m k : ℕ) (a t₀ : List Float) {t₁ t₂ t₃ b : List Float}
    → from + m ≤ length a → other + m ≤ length a → to + m ≤ length a → m ≤ length t₀
    → ((i : ℕ) → k ≤ i → (x y : Float) → f' i x y ≡ f i x y) → ((i : ℕ) → k ≤ i → (x y : Float) → q' i x y ≡ q i x y)
    → t₁ ≡ mixed_into (λ k x y. x) 0 (length (mid_of to (to + m - to) a)) (mid_of to (to + m - to) a) t₀
    → t₂ ≡ mixed_into f' k (length (mid_of from (from + m - from) a)) (mid_of from (from + m - from) a) t₁
    → t₃ ≡ mixed_into q' k (length (mid_of other (other + m - other) a)) (mid_of other (other + m - other) a) t₂
    → b ≡ sets a to (sampled m (λ i. get_or t₃ i nan)) → b ≡ two_at f q from other to m k a
piece_two f q f' q' from other to m k a t₀ hf hz ht h₀ same-f same-q e₁ e₂ e₃ e₄ =
    samples_stored (λ i. q (k + i) (get_or a (other + i) nan) (f (k + i) (get_or a (from + i) nan) (get_or a (to + i) nan))) a to m e₄
    (two_mixed f q f' q' from other to m k a t₀ hf hz ht h₀ same-f same-q e₁ e₂ e₃)

-- the same two sources into a second part, `next`: its local is made before the first part is stored, which changes none of what it is made of
pub piece_four : (f q g h : ℕ → Float → Float → Float) (from other to next m k : ℕ) (a t₀ : List Float) {b u₁ u₂ u₃ c : List Float}
    → from + m ≤ length a → other + m ≤ length a → next + m ≤ length a → m ≤ length t₀
    → PartsApart from to m → PartsApart other to m → PartsApart next to m → b ≡ two_at f q from other to m k a
    → u₁ ≡ mixed_into (λ k x y. x) 0 (length (mid_of next (next + m - next) a)) (mid_of next (next + m - next) a) t₀
    → u₂ ≡ mixed_into g k (length (mid_of from (from + m - from) a)) (mid_of from (from + m - from) a) u₁
    → u₃ ≡ mixed_into h k (length (mid_of other (other + m - other) a)) (mid_of other (other + m - other) a) u₂
    → c ≡ sets b next (sampled m (λ i. get_or u₃ i nan)) → c ≡ two_at g h from other next m k (two_at f q from other to m k a)
piece_four f q g h from other to next m k a t₀ {b} {u₁} {u₂} {u₃} {c} hf hz hn h₀ of oz on e e₁ e₂ e₃ e₄ =
    let F : ℕ → Float = λ i. q (k + i) (get_or a (other + i) nan) (f (k + i) (get_or a (from + i) nan) (get_or a (to + i) nan)) in
    let w : List Float = sets a to (sampled m F) in
    samples_stored (λ i. h (k + i) (get_or w (other + i) nan) (g (k + i) (get_or w (from + i) nan) (get_or w (next + i) nan))) w next m
    (e₄ ∙ ap (λ (l : List Float). sets l next (sampled m (λ i. get_or u₃ i nan))) e)
    (λ i l. two_mixed g h g h from other next m k a t₀ hf hz hn h₀ (λ i l x y. refl) (λ i l x y. refl) e₁ e₂ e₃ i l
    ∙ sym (ap (λ (v : Float). h (k + i) v (g (k + i) (get_or w (from + i) nan) (get_or w (next + i) nan))) (apart_kept F a to m other i m oz l (omega arith))
    ∙ ap (λ (v : Float). h (k + i) (get_or a (other + i) nan) (g (k + i) v (get_or w (next + i) nan))) (apart_kept F a to m from i m of l (omega arith))
    ∙ ap (λ (v : Float). h (k + i) (get_or a (other + i) nan) (g (k + i) (get_or a (from + i) nan) v)) (apart_kept F a to m next i m on l (omega arith))))
