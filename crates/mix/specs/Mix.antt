-- What Patch, Gain, Matrix, Send, Clear and Output do, as document 01's section "Run" has it: one write after another, each of a whole buffer, sample
-- by sample, from the buffers as they are then. Definitions only.
use Rattle.std.specs.Prelude.{ℕ, suc, ◌+◌, ◌*◌, ◌≤◌, ◌<◌, ◌≡◌, Bool, false, ◌||◌, cond, List, [], ◌∷◌, leb, length, get_or, take, Float}
use Rattle.std.proofs.lemmas.List.Edits.{sets}
use Rattle.std.specs.Float.{nan, binary32}
use Rattle.std.specs.Float.Ieee.{add, mul, eq}
use Rattle.node.specs.declared.Gain.{Gain}
use Rattle.node.specs.declared.Gain.TheVariants.{Rest, Moving}
use Rattle.node.specs.Sizes.{max_ramp}
use Rattle.node.specs.Nodes.{factor}
use Rattle.mix.specs.Samples.{silence, sample, sampled, put}

-- equal to 0, as IEEE has it: -0 is, a NaN is not
abbrev pub is_zero : Float → Bool
is_zero x = eq x silence

-- a gain at rest equal to 0
abbrev pub silent : Gain → Bool
silent (Rest t) = is_zero t
silent (Moving cur step t left) = false

-- ---- one sample: x is the source's, y what the buffer holds, k the sample's number

-- "Gain: d = s × gain"
abbrev pub scaled : Gain → ℕ → Float → Float
scaled g k x = mul binary32 x (factor g k)

-- "Matrix: … add x × gain …; a gain at rest equal to 0 is skipped."
unfoldable pub added : Gain → ℕ → Float → Float → Float
added g k x y = cond (silent g) y (add binary32 y (mul binary32 x (factor g k)))

-- "Send: … At rest it adds x × (w × target); ramping it adds (x × w) × gain."
unfoldable pub weighted : Gain → Float → ℕ → Float → Float
weighted (Rest t) w k x = mul binary32 x (mul binary32 w t)
weighted (Moving cur step t left) w k x = mul binary32 (mul binary32 x w) (factor (Moving cur step t left) k)

-- "skipped whole when at rest with target[0] = 0. A weight of 0 is skipped."
unfoldable pub sent : Gain → Float → ℕ → Float → Float → Float
sent g w k x y = cond (is_zero w || silent g) y (add binary32 y (weighted g w k x))

-- what Patch copies of a part at sample k: "A part shorter than the block counts as absent", and is +0
unfoldable pub patched : ℕ → List Float → ℕ → Float
patched block part k = cond (leb block (length part)) (get_or part k nan) silence

-- ---- one buffer s into another, d

abbrev pub scale : ℕ → Gain → ℕ → ℕ → List Float → List Float
scale block g s d area = put block d (λ k. scaled g k (sample block area s k)) area

abbrev pub mix_in : ℕ → Gain → ℕ → ℕ → List Float → List Float
mix_in block g s d area = put block d (λ k. added g k (sample block area s k) (sample block area d k)) area

abbrev pub send_in : ℕ → Gain → Float → ℕ → ℕ → List Float → List Float
send_in block g w s d area = put block d (λ k. sent g w k (sample block area s k) (sample block area d k)) area

abbrev pub clear_buffer : ℕ → ℕ → List Float → List Float
clear_buffer block d area = put block d (λ k. silence) area

-- ---- the steps, over the buffers that their spans name; gain i is value i of the node

-- the first min(src, dst) channels, from channel c on
unfoldable pub gained : ℕ → (ℕ → Gain) → ℕ → List ℕ → List ℕ → List Float → List Float
gained block gain c [] dst area = area
gained block gain c (s ∷ src) [] area = area
gained block gain c (s ∷ src) (d ∷ dst) area = gained block gain (suc c) src dst (scale block (gain c) s d area)

-- one row of a Matrix, from value v on: "for each s in order add x × gain"
unfoldable pub columns : ℕ → (ℕ → Gain) → ℕ → List ℕ → ℕ → List Float → List Float
columns block gain v [] d area = area
columns block gain v (s ∷ src) d area = columns block gain (suc v) src d (mix_in block (gain v) s d area)

-- its rows, from value v on: "fill +0, then …" just before each row; gain [d × columns + s]
unfoldable pub rows : ℕ → (ℕ → Gain) → ℕ → List ℕ → List ℕ → List Float → List Float
rows block gain v src [] area = area
rows block gain v src (d ∷ dst) area = rows block gain (v + length src) src dst (columns block gain v src d (clear_buffer block d area))

-- one row of a Send, from weight v on
unfoldable pub weighs : ℕ → Gain → List Float → ℕ → List ℕ → ℕ → List Float → List Float
weighs block g weights v [] d area = area
weighs block g weights v (s ∷ src) d area = weighs block g weights (suc v) src d (send_in block g (get_or weights v nan) s d area)

-- its rows, from weight v on: weight [d × columns + s]
unfoldable pub sends : ℕ → Gain → List Float → ℕ → List ℕ → List ℕ → List Float → List Float
sends block g weights v src [] area = area
sends block g weights v src (d ∷ dst) area = sends block g weights (v + length src) src dst (weighs block g weights v src d area)

-- ---- buffers that are cleared, and buffers that go to the output

-- Clear: +0 in every buffer of dst
unfoldable pub cleared : ℕ → List ℕ → List Float → List Float
cleared block [] area = area
cleared block (d ∷ dst) area = cleared block dst (clear_buffer block d area)

-- "Output: one block for each channel, appended to the output area", from place `from` of it on
unfoldable pub appended : ℕ → List Float → List ℕ → ℕ → List Float → List Float
appended block area [] from output = output
appended block area (s ∷ src) from output = appended block area src (from + block) (sets output from (sampled block (λ k. sample block area s k)))

-- ---- what the sample loops take for granted. A block is no longer than the longest ramp, so that an f32 holds the number of each sample.

-- a buffer that lies within the area
abbrev pub Inside : ℕ → ℕ → List Float → Type 0
Inside block i area = i * block + block ≤ length area

-- every buffer of the list
abbrev pub AllInside : ℕ → List ℕ → List Float → Type 0
AllInside block list area = (i : ℕ) → i < length list → Inside block (get_or list i 0) area

-- none of the list
abbrev pub NotIn : ℕ → List ℕ → Type 0
NotIn b list = (i : ℕ) → i < length list → b ≡ get_or list i 0 → ⊥

-- one buffer into another
pub record Pair (block s d : ℕ) (area : List Float) : Type 0 where
  pub small : block ≤ max_ramp
  pub source : Inside block s area
  pub target : Inside block d area
  pub apart : s ≡ d → ⊥

-- the buffers of src into another
pub record Row (block : ℕ) (src : List ℕ) (d : ℕ) (area : List Float) : Type 0 where
  pub small : block ≤ max_ramp
  pub sources : AllInside block src area
  pub target : Inside block d area
  pub apart : NotIn d src

-- the buffers of src into those of dst
pub record Buffers (block : ℕ) (src dst : List ℕ) (area : List Float) : Type 0 where
  pub small : block ≤ max_ramp
  pub sources : AllInside block src area
  pub targets : AllInside block dst area
  pub apart : (i : ℕ) → i < length src → NotIn (get_or src i 0) dst

-- those of a list that Gain uses, given the other list: the first min(src, dst)
abbrev pub used : List ℕ → List ℕ → List ℕ
used list other = take (length other) list
