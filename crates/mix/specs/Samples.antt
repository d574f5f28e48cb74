-- Buffers of an area, sample by sample. Definitions only.
use Rattle.std.specs.Prelude.{ℕ, zero, suc, ◌+◌, ◌*◌, List, [], ◌∷◌, ◌++◌, get_or, Float}
use Rattle.std.proofs.lemmas.List.Edits.{sets}
use Rattle.std.specs.Float.{nan}
pub use Rattle.node.specs.Nodes.{silence}

-- sample k of buffer i: "Buffer i is the part of the buffer area from i × block to (i + 1) × block"
abbrev pub sample : ℕ → List Float → ℕ → ℕ → Float
sample block area i k = get_or area (i * block + k) nan

-- n samples, f k at place k
unfoldable pub sampled : ℕ → (ℕ → Float) → List Float
sampled zero f = []
sampled (suc n) f = sampled n f ++ (f n ∷ [])

-- the area with buffer d written anew, f k at sample k
abbrev pub put : ℕ → ℕ → (ℕ → Float) → List Float → List Float
put block d f area = sets area (d * block) (sampled block f)
