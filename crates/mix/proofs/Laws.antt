-- Laws of the definitions, for the crates above: the length that each definition keeps, the buffers that it does not write, and what an Output
-- holds. Assumes nothing.
use mathlib.Core.Path.{◌≡◌, refl, ◌∙◌}
use mathlib.Core.List.{List, [], ◌∷◌}
use mathlib.Core.Logic.{inr}
use Prim.Native.Nat.{ℕ, zero, suc, ◌+◌, ◌*◌, ◌≤◌, ◌<◌}
use native.Mathlib.Nat.{not-suc-le-zero, zero-mul, add-zero, suc-mul}
use native.Mathlib.Omega.{arith}
use lib.ListN.{length, get_or, length-take}
use lib.Seq.{sets, length-sets, get_or-take}
use lib.Ieee.{Float, nan}
use Rattle.lists.proofs.Stores.{get_d_sets}
use Rattle.node.specs.declared.Gain.{Gain}
use Rattle.mix.specs.Samples.{sample, sampled}
use Rattle.mix.specs.Mix.{gained, columns, rows, weighs, sends, cleared, appended, NotIn, used}
use Rattle.mix.proofs.Stored.{length_sampled, stored_at, stored_before}
use Rattle.mix.proofs.Put.{put_other}

-- ---- none of a list: not its first, not of the others, not of those used
pub not_first : {b d : ℕ} (dst : List ℕ) → NotIn b (d ∷ dst) → b ≡ d → ⊥
not_first dst o = o 0 (omega arith)

pub not_later : {b d : ℕ} (dst : List ℕ) → NotIn b (d ∷ dst) → NotIn b dst
not_later dst o i h = o (suc i) (omega arith)

pub not_used : {b : ℕ} (dst src : List ℕ) → NotIn b dst → NotIn b (used dst src)
not_used dst src o i h e =
    let l : i < length dst = omega (arith, length-take (length src) dst) in
    o i l (e ∙ get_or-take (length src) dst i 0 (omega (arith, length-take (length src) dst)))

-- ---- the length of the area
module _ (block : ℕ) where
  pub length_gained : (gain : ℕ → Gain) (c : ℕ) (src dst : List ℕ) (area : List Float) → length (gained block gain c src dst area) ≡ length area
  unfolding gained
  length_gained gain c [] dst area = refl
  length_gained gain c (s ∷ src) [] area = refl
  length_gained gain c (s ∷ src) (d ∷ dst) area = length_gained gain (suc c) src dst _ ∙ simp length-sets

  pub length_columns : (gain : ℕ → Gain) (v : ℕ) (src : List ℕ) (d : ℕ) (area : List Float) → length (columns block gain v src d area) ≡ length area
  unfolding columns
  length_columns gain v [] d area = refl
  length_columns gain v (s ∷ src) d area = length_columns gain (suc v) src d _ ∙ simp length-sets

  pub length_rows : (gain : ℕ → Gain) (v : ℕ) (src dst : List ℕ) (area : List Float) → length (rows block gain v src dst area) ≡ length area
  unfolding rows
  length_rows gain v src [] area = refl
  length_rows gain v src (d ∷ dst) area =
      length_rows gain (v + length src) src dst _ ∙ length_columns gain v src d _ ∙ simp length-sets

  pub length_weighs : (g : Gain) (weights : List Float) (v : ℕ) (src : List ℕ) (d : ℕ) (area : List Float) → length (weighs block g weights v src d area) ≡ length area
  unfolding weighs
  length_weighs g weights v [] d area = refl
  length_weighs g weights v (s ∷ src) d area =
      length_weighs g weights (suc v) src d _ ∙ simp length-sets

  pub length_sends : (g : Gain) (weights : List Float) (v : ℕ) (src dst : List ℕ) (area : List Float) → length (sends block g weights v src dst area) ≡ length area
  unfolding sends
  length_sends g weights v src [] area = refl
  length_sends g weights v src (d ∷ dst) area =
      length_sends g weights (v + length src) src dst _ ∙ length_weighs g weights v src d area

  pub length_cleared : (dst : List ℕ) (area : List Float) → length (cleared block dst area) ≡ length area
  unfolding cleared
  length_cleared [] area = refl
  length_cleared (d ∷ dst) area = length_cleared dst _ ∙ simp length-sets

  pub length_appended : (area : List Float) (src : List ℕ) (from : ℕ) (output : List Float) → length (appended block area src from output) ≡ length output
  unfolding appended
  length_appended area [] from output = refl
  length_appended area (s ∷ src) from output =
      length_appended area src (from + block) _ ∙ simp length-sets

-- ---- sample k of a buffer b that is not written
module _ (block b k : ℕ) (h : k < block) where
  pub gained_other : (gain : ℕ → Gain) (c : ℕ) (src dst : List ℕ) (area : List Float) → NotIn b (used dst src)
      → sample block (gained block gain c src dst area) b k ≡ sample block area b k
  unfolding gained
  gained_other gain c [] dst area o = refl
  gained_other gain c (s ∷ src) [] area o = refl
  gained_other gain c (s ∷ src) (d ∷ dst) area o =
      gained_other gain (suc c) src dst _ (not_later (used dst src) o)
      ∙ put_other block d _ area b k (not_first (used dst src) o) h

  pub columns_other : (gain : ℕ → Gain) (v : ℕ) (src : List ℕ) (d : ℕ) (area : List Float) → (b ≡ d → ⊥)
      → sample block (columns block gain v src d area) b k ≡ sample block area b k
  unfolding columns
  columns_other gain v [] d area o = refl
  columns_other gain v (s ∷ src) d area o =
      columns_other gain (suc v) src d _ o
      ∙ put_other block d _ area b k o h

  pub rows_other : (gain : ℕ → Gain) (v : ℕ) (src dst : List ℕ) (area : List Float) → NotIn b dst
      → sample block (rows block gain v src dst area) b k ≡ sample block area b k
  unfolding rows
  rows_other gain v src [] area o = refl
  rows_other gain v src (d ∷ dst) area o =
      rows_other gain (v + length src) src dst _ (not_later dst o)
      ∙ columns_other gain v src d _ (not_first dst o)
      ∙ put_other block d _ area b k (not_first dst o) h

  pub weighs_other : (g : Gain) (weights : List Float) (v : ℕ) (src : List ℕ) (d : ℕ) (area : List Float) → (b ≡ d → ⊥)
      → sample block (weighs block g weights v src d area) b k ≡ sample block area b k
  unfolding weighs
  weighs_other g weights v [] d area o = refl
  weighs_other g weights v (s ∷ src) d area o =
      weighs_other g weights (suc v) src d _ o
      ∙ put_other block d _ area b k o h

  pub sends_other : (g : Gain) (weights : List Float) (v : ℕ) (src dst : List ℕ) (area : List Float) → NotIn b dst
      → sample block (sends block g weights v src dst area) b k ≡ sample block area b k
  unfolding sends
  sends_other g weights v src [] area o = refl
  sends_other g weights v src (d ∷ dst) area o =
      sends_other g weights (v + length src) src dst _ (not_later dst o)
      ∙ weighs_other g weights v src d area (not_first dst o)

  pub cleared_other : (dst : List ℕ) (area : List Float) → NotIn b dst → sample block (cleared block dst area) b k ≡ sample block area b k
  unfolding cleared
  cleared_other [] area o = refl
  cleared_other (d ∷ dst) area o =
      cleared_other dst _ (not_later dst o) ∙ put_other block d _ area b k (not_first dst o) h

-- ---- the output: what lies before and past the blocks that are appended, and sample k of block j of them
module _ (block : ℕ) (area : List Float) where
  pub appended_before : (src : List ℕ) (from : ℕ) (output : List Float) (i : ℕ) → i < from
      → get_or (appended block area src from output) i nan ≡ get_or output i nan
  unfolding appended
  appended_before [] from output i h = refl
  appended_before (s ∷ src) from output i h =
      appended_before src (from + block) _ i (omega arith) ∙ stored_before _ output from block i h

  pub appended_past : (src : List ℕ) (from : ℕ) (output : List Float) (i : ℕ) → from + length src * block ≤ i
      → get_or (appended block area src from output) i nan ≡ get_or output i nan
  unfolding appended
  appended_past [] from output i h = refl
  appended_past (s ∷ src) from output i h =
      let f : ℕ → Float = λ k. sample block area s k in
      appended_past src (from + block) _ i (omega (arith, suc-mul (length src) block))
      ∙ get_d_sets i output from (sampled block f) nan (inr (omega (arith, suc-mul (length src) block, length_sampled block f)))

  pub appended_at : (src : List ℕ) (from : ℕ) (output : List Float) (j k : ℕ) → j < length src → k < block
      → from + length src * block ≤ length output
      → get_or (appended block area src from output) (from + j * block + k) nan ≡ sample block area (get_or src j 0) k
  unfolding appended
  appended_at [] from output j k h l room = absurd (not-suc-le-zero h)
  appended_at (s ∷ src) from output zero k h l room =
      let w : from + length src * block + block ≤ length output = omega (arith, suc-mul (length src) block) in
      let o : List Float = sets output from (sampled block (λ k. sample block area s k)) in
      rw (zero-mul, add-zero)
      (appended_before src (from + block) o (from + k) (omega arith)
      ∙ stored_at (λ k. sample block area s k) output from block k l (omega arith))
  appended_at (s ∷ src) from output (suc j) k h l room =
      let o : List Float = sets output from (sampled block (λ k. sample block area s k)) in
      let n : length o ≡ length output = length-sets output from (sampled block (λ k. sample block area s k)) in
      let e : from + suc j * block + k ≡ from + block + j * block + k = omega (arith, suc-mul j block) in
      rw e (appended_at src (from + block) o j k (omega arith) l (omega (arith, suc-mul (length src) block)))
