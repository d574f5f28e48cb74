-- What the contracts of the loops over pieces of a buffer cite. Definitions only.
use Rattle.std.specs.Prelude.{ℕ, suc, ◌+◌, ◌≤◌, ◌<◌, ◌≡◌, false, List, [], ◌∷◌, ◌⊎◌, length, get_or, Float}
use Rattle.std.proofs.lemmas.List.Edits.{sets}
use Rattle.std.specs.Float.{nan, binary32}
use Rattle.std.specs.Float.Ieee.{add, mul}
use Rattle.node.specs.declared.Gain.{Gain}
use Rattle.node.specs.Sizes.{max_ramp}
use Rattle.node.specs.Nodes.{factor}
use Rattle.mix.specs.Samples.{sample, sampled, put}
use Rattle.mix.specs.Mix.{is_zero, added}

-- the samples of a whole piece
abbrev pub whole_piece : ℕ
whole_piece = 16

-- ---- one sample, with nothing skipped

-- what is done to a sample, by the factor of a gain there
abbrev pub by_gain : (Float → Float → Float → Float) → Gain → ℕ → Float → Float → Float
by_gain mixed g k x y = mixed x y (factor g k)

abbrev pub plus_scaled : Gain → ℕ → Float → Float → Float
plus_scaled g k x y = add binary32 y (mul binary32 x (factor g k))

abbrev pub plus_weighted : Float → Gain → ℕ → Float → Float → Float
plus_weighted w g k x y = add binary32 y (mul binary32 (mul binary32 x w) (factor g k))

-- sample k of a row of a Matrix: y, with the sample of each source added, by its gain from value v on
unfoldable pub row_sample : ℕ → (ℕ → Gain) → ℕ → List ℕ → List Float → ℕ → Float → Float
row_sample block gain v [] area k y = y
row_sample block gain v (s ∷ src) area k y = row_sample block gain (suc v) src area k (added (gain v) k (sample block area s k) y)

-- ---- a buffer d, each sample from those of two sources, s and z, one after the other, and its own
abbrev pub two_in : (ℕ → Float → Float → Float) → (ℕ → Float → Float → Float) → ℕ → ℕ → ℕ → ℕ → List Float → List Float
two_in f q block s z d area = put block d (λ k. q k (sample block area z k) (f k (sample block area s k) (sample block area d k))) area

-- ---- a piece: m samples, from sample k on

-- the first m samples of y, each from that of x and its own
unfoldable pub mixed_into : (ℕ → Float → Float → Float) → ℕ → ℕ → List Float → List Float → List Float
mixed_into f k m x y = sets y 0 (sampled m (λ i. f (k + i) (get_or x i nan) (get_or y i nan)))

-- those of the area from `to` on, each from that from `from` on and its own
abbrev pub mixed_at : (ℕ → Float → Float → Float) → ℕ → ℕ → ℕ → ℕ → List Float → List Float
mixed_at f from to m k area = sets area to (sampled m (λ i. f (k + i) (get_or area (from + i) nan) (get_or area (to + i) nan)))

-- those of the area from `to` on, each from those of two sources, one after the other, and its own
abbrev pub two_at : (ℕ → Float → Float → Float) → (ℕ → Float → Float → Float) → ℕ → ℕ → ℕ → ℕ → ℕ → List Float → List Float
two_at f q from other to m k area = sets area to (sampled m (λ i. q (k + i) (get_or area (other + i) nan) (f (k + i) (get_or area (from + i) nan) (get_or area (to + i) nan))))

pub record Piece (from to m k : ℕ) (area : List Float) : Type 0 where
  pub source : from + m ≤ length area
  pub target : to + m ≤ length area
  pub short : m ≤ whole_piece
  pub within : k + m ≤ max_ramp

-- two parts of m samples that do not overlap
abbrev pub PartsApart : ℕ → ℕ → ℕ → Type 0
PartsApart from to m = (from + m ≤ to) ⊎ (to + m ≤ from)

-- two columns and two rows of a Send, the rows different, with four weights that are not 0
pub record Four (src dst : List ℕ) (weights : List Float) : Type 0 where
  pub columns : length src ≡ 2
  pub rows : length dst ≡ 2
  pub enough : 4 ≤ length weights
  pub differ : get_or dst 1 0 ≡ get_or dst 0 0 → ⊥
  pub weighted : (i : ℕ) → i < 4 → is_zero (get_or weights i nan) ≡ false
