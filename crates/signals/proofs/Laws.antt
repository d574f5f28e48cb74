-- What the loops of the signals go by. Assumes nothing.
use Prim.Native.Nat.{ℕ, zero, suc, ◌+◌, ◌*◌, ◌/◌, ◌^◌, ◌<◌, ◌≤◌}
use mathlib.Core.Path.{◌≡◌, refl, sym, ap, ◌∙◌, subst⁻¹}
use mathlib.Core.List.{List, ◌++◌}
use native.Mathlib.Nat.{mul-le-mul_left, mul-lt-mul_of_pos_right, lt_of_le_of_lt, le_of_lt}
use native.Mathlib.Omega.{arith}
use lib.ListN.{length, get_or, drop, get_or-append, length-append, length-drop, length-set}
use lib.Seq.{get_or-drop, drop-drop, drop_at}
use lib.Pow.{pow_pos, pow-add}
use lib.Ieee.{Float, nan}
use Rattle.signals.specs.Digest.{with_sample, with_frame}
use Rattle.signals.specs.Signals.{pitches, filled, played}

-- ---- the product of two numbers of k bits

pub product_lt : (k a b : ℕ) → a < 2 ^ k → b < 2 ^ k → a * b < 2 ^ (k + k)
product_lt k a b ha hb =
    subst⁻¹ (λ (n : ℕ). a * b < n) (pow-add 2 k k)
    (lt_of_le_of_lt (mul-le-mul_left a (le_of_lt hb)) (mul-lt-mul_of_pos_right ha (pow_pos k)))

-- ---- a block that is stored keeps the length of its area

pub filled_length : (pitch from at n : ℕ) (area : List Float) → length (filled pitch from at n area) ≡ length area
unfolding filled
filled_length pitch from at zero area = refl
filled_length pitch from at (suc k) area = simp length-set (filled_length pitch from at k area)

pub played_length : (block from n : ℕ) (area : List Float) → length (played block from n area) ≡ length area
unfolding played
played_length block from zero area = refl
played_length block from (suc c) area = filled_length (get_or pitches c 0) from (c * block) block (played block from c area) ∙ played_length block from c area

pub filled_kept : (pitch from at n : ℕ) (area l : List Float) → l ≡ filled pitch from at n area → length l ≡ length area
filled_kept pitch from at n area l h = ap length h ∙ filled_length pitch from at n area

pub played_kept : (block from n : ℕ) (area l : List Float) → l ≡ played block from n area → length l ≡ length area
played_kept block from n area l h = ap length h ∙ played_length block from n area

-- ---- the blocks of a slot, one after the other: the first n are in the digest, and `rest` is left

pub record Going (start : ℕ) (blocks : List Float) (k : ℕ) (rest : List Float) (digest : ℕ) : Type 0 where
  pub n : ℕ
  pub inside : n * 256 ≤ length blocks
  pub left : rest ≡ drop (n * 256) blocks
  pub so : digest ≡ with_frame 256 start blocks k n

pub going_starts : (start : ℕ) (blocks : List Float) (k : ℕ) → Going start blocks k blocks start
unfolding with_frame
going_starts start blocks k = record { n = 0; inside = omega arith; left = refl; so = refl }

pub going_on : {start : ℕ} {blocks : List Float} {k : ℕ} {rest : List Float} {digest : ℕ} → Going start blocks k rest digest
    → k < 256 → (block later : List Float) → rest ≡ block ++ later → length block ≡ 256
    → {more : ℕ} → more ≡ with_sample digest (get_or block k nan) → Going start blocks k later more
unfolding with_frame
going_on {start} {blocks} {k} {rest} {digest} g hk block later e whole {more} d =
    let at = g.n * 256 in
    let cut : drop at blocks ≡ block ++ later = sym g.left ∙ e in
    let here : get_or blocks (at + k) nan ≡ get_or block k nan =
    sym (get_or-drop at blocks k nan) ∙ ap (λ (l : List Float). get_or l k nan) cut ∙ get_or-append block later nan k (omega arith) in
    record {
      n = suc g.n;
      inside = omega (arith, ap length cut, length-drop at blocks, length-append block later);
      left = sym (drop_at block later 256 whole) ∙ ap (drop 256) (sym cut) ∙ drop-drop 256 at blocks ∙ ap (λ (m : ℕ). drop m blocks) (omega arith);
      so = d ∙ ap (with_sample digest) (sym here) ∙ ap (λ (m : ℕ). with_sample m (get_or blocks (at + k) nan)) g.so;
    }

pub going_ends : {start : ℕ} {blocks : List Float} {k : ℕ} {rest : List Float} {digest : ℕ} → Going start blocks k rest digest → length rest < 256
    → digest ≡ with_frame 256 start blocks k (length blocks / 256)
going_ends {start} {blocks} {k} g h =
    g.so ∙ ap (with_frame 256 start blocks k) (omega (arith, g.inside, ap length g.left, length-drop (g.n * 256) blocks))
