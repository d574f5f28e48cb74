-- A buffer that is written whole: its samples, those of the other buffers, the area's length, and writes that change nothing.
-- Assumes nothing.
use mathlib.Core.Path.{◌≡◌, sym, ap, ◌∙◌}
use mathlib.Core.List.{List, ◌++◌}
use mathlib.Core.Logic.{◌⊎◌, inl, inr, ⊎_elim}
use Prim.Native.Nat.{ℕ, ◌+◌, ◌*◌, ◌≤◌, ◌<◌}
use native.Mathlib.Nat.{suc-mul, mul-le-mul_right}
use native.Mathlib.Decide.{dec_lt}
use native.Mathlib.Omega.{arith}
use lib.ListN.{length, take, drop}
use lib.Seq.{sets, sets-eq, length-sets}
use lib.Ieee.{Float, nan}
use Rattle.lists.proofs.Stores.{take_sets, drop_sets, get_d_sets}
use Rattle.mix.specs.Samples.{sample, sampled, put}
use Rattle.mix.specs.Mix.{Inside}
use Rattle.mix.proofs.Stored.{length_sampled, sampled_same, stored_at, unchanged}

-- a buffer of a lower number ends before one of a higher number starts
pub ends_before : {i j : ℕ} (block : ℕ) → i < j → i * block + block ≤ j * block
ends_before {i} block h = rw suc-mul at (mul-le-mul_right block h)

pub apart_of : (block s d : ℕ) → (s ≡ d → ⊥) → (s * block + block ≤ d * block) ⊎ (d * block + block ≤ s * block)
apart_of block s d h =
    elim (dec_lt s d) [
      | yes l ↦ inl (ends_before block l)
      | no n ↦ inr (ends_before block (elim (dec_lt d s) [ yes l ↦ l | no m ↦ absurd (h (omega arith)) ]))
    ]

-- n samples of buffer d written from place p on: a sample of another buffer
pub other_kept : (block d p n : ℕ) (f : ℕ → Float) (area : List Float) (s k : ℕ) → d * block ≤ p → p + n ≤ d * block + block → (s ≡ d → ⊥) → k < block
    → sample block (sets area p (sampled n f)) s k ≡ sample block area s k
other_kept block d p n f area s k from to o h =
    get_d_sets (s * block + k) area p (sampled n f) nan
    (⊎_elim (λ (u : s * block + block ≤ d * block). inl (omega arith)) (λ (u : d * block + block ≤ s * block). inr (omega (arith, length_sampled n f))) (apart_of block s d o))

-- the start of buffer d written, n samples of it: a sample of another buffer, and one of d that is not written yet
module _ (block d n : ℕ) (f : ℕ → Float) (area : List Float) where
  pub begun_other : (s k : ℕ) → (s ≡ d → ⊥) → k < block → n ≤ block → sample block (sets area (d * block) (sampled n f)) s k ≡ sample block area s k
  begun_other s k o h l = other_kept block d (d * block) n f area s k (omega arith) (omega arith) o h

  pub begun_same : (k : ℕ) → n ≤ k → sample block (sets area (d * block) (sampled n f)) d k ≡ sample block area d k
  begun_same k h = get_d_sets (d * block + k) area (d * block) (sampled n f) nan (inr (omega (arith, length_sampled n f)))

module _ (block d : ℕ) (f : ℕ → Float) (area : List Float) where
  pub length_put : length (put block d f area) ≡ length area
  length_put = length-sets area (d * block) (sampled block f)

  pub put_sample : (k : ℕ) → k < block → Inside block d area → sample block (put block d f area) d k ≡ f k
  put_sample k h l = stored_at f area (d * block) block k h (omega arith)

  pub put_other : (s k : ℕ) → (s ≡ d → ⊥) → k < block → sample block (put block d f area) s k ≡ sample block area s k
  put_other s k o h = begun_other block d block f area s k o h (omega arith)

  -- only the samples of the block count
  pub put_same : (g : ℕ → Float) → ((k : ℕ) → k < block → f k ≡ g k) → put block d f area ≡ put block d g area
  put_same g h = ap (λ (l : List Float). sets area (d * block) l) (sampled_same block f g h)

  -- the last write stands
  pub put_put : (g : ℕ → Float) → Inside block d area → put block d g (put block d f area) ≡ put block d g area
  put_put g h =
      let p : ℕ = d * block in
      let lf : length (sampled block f) ≡ block = length_sampled block f in
      let lg : length (sampled block g) ≡ block = length_sampled block g in
      let b : List Float = sets area p (sampled block f) in
      sets-eq (sampled block g) b p (omega (arith, lg, length_put))
      ∙ ap (λ (t : List Float). t ++ sampled block g ++ drop (p + length (sampled block g)) b) (take_sets p area p (sampled block f) (omega arith))
      ∙ ap (λ (t : List Float). take p area ++ sampled block g ++ t) (drop_sets (p + length (sampled block g)) area p (sampled block f) (omega (arith, lf, lg)))
      ∙ sym (sets-eq (sampled block g) area p (omega (arith, lg)))

-- a buffer that is written as it is
pub put_nothing : (block d : ℕ) (area : List Float) → put block d (λ k. sample block area d k) area ≡ area
put_nothing block d area = unchanged area (d * block) block

pub put_unchanged : (block d : ℕ) (f : ℕ → Float) (area : List Float) → ((k : ℕ) → k < block → f k ≡ sample block area d k) → put block d f area ≡ area
put_unchanged block d f area h = put_same block d f area (λ k. sample block area d k) h ∙ put_nothing block d area
