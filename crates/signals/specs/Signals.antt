-- What the inputs carry. Definitions only.
use Rattle.std.specs.Prelude.{ℕ, zero, suc, ◌+◌, ◌-◌, ◌*◌, ◌%◌, cond, List, [], ◌∷◌, ltb, pos, get_or, set, Float}
use Rattle.std.proofs.lemmas.List.Edits.{sets}
use Rattle.std.specs.Float.{binary32}
use Rattle.std.specs.Float.Ieee.{sub, div, of_int, of_bits}

-- 0 up to 65,534 and back, over a period of 65,536
unfoldable pub triangle : ℕ → ℕ
triangle phase = cond (ltb phase 32768) (phase * 2) (131070 - phase * 2)

-- sample k of a pitch: height / 32,768 - 1, which is exact
unfoldable pub signal : ℕ → ℕ → Float
signal pitch k = sub binary32 (div binary32 (of_int binary32 (pos (triangle (pitch * k % 65536)))) (of_bits binary32 0x4700_0000)) (of_bits binary32 0x3F80_0000)

-- the pitch of each channel, in 65,536ths of a period a sample
abbrev pub pitches : List ℕ
pitches = 300 ∷ 412 ∷ 523 ∷ 524 ∷ 601 ∷ 602 ∷ 603 ∷ 77 ∷ 655 ∷ 656 ∷ 713 ∷ 717 ∷ 1201 ∷ 1046 ∷ 1048 ∷ 309 ∷ []

-- an area with n samples of a channel from sample `from` on, stored from a place on
unfoldable pub filled : (pitch from at : ℕ) → ℕ → List Float → List Float
filled pitch from at zero area = area
filled pitch from at (suc k) area = set (filled pitch from at k area) (at + k) (signal pitch (from + k))

-- an area with a block of each of the first n channels, one after the other
unfoldable pub played : (block from : ℕ) → ℕ → List Float → List Float
played block from zero area = area
played block from (suc c) area = filled (get_or pitches c 0) from (c * block) block (played block from c area)

-- ---- the directory of such a block

-- the input of each channel, and the channel's number there; the last is a stand-in for the first
abbrev pub inputs : List ℕ
inputs = 3 ∷ 4 ∷ 10 ∷ 10 ∷ 20 ∷ 20 ∷ 20 ∷ 20 ∷ 20 ∷ 20 ∷ 31 ∷ 31 ∷ 60 ∷ 70 ∷ 70 ∷ 3 ∷ []

abbrev pub channels : List ℕ
channels = 0 ∷ 0 ∷ 0 ∷ 1 ∷ 0 ∷ 1 ∷ 2 ∷ 3 ∷ 4 ∷ 5 ∷ 0 ∷ 1 ∷ 0 ∷ 0 ∷ 1 ∷ 0 ∷ []

-- input, channel, start and length
abbrev pub entry : (block : ℕ) → ℕ → List ℕ
entry block c = get_or inputs c 0 ∷ get_or channels c 0 ∷ c * block ∷ block ∷ []

-- an area with the entries of the first n channels
unfoldable pub entered : (block : ℕ) → ℕ → List ℕ → List ℕ
entered block zero area = area
entered block (suc c) area = sets (entered block c area) (c * 4) (entry block c)
