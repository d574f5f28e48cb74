-- Document 01's source sets: the inputs behind each buffer and behind each slot. A set is a test here, whether input i is in it; a plan's sets
-- are a test of a buffer and an input. Definitions only.
use Rattle.std.specs.Prelude.{ℕ, suc, max, Bool, false, ◌&&◌, ◌||◌, cond, List, [], ◌∷◌, eqb}
use Rattle.lists.specs.Entries.{has}
use Rattle.sets.specs.Sets.{sift}
use Rattle.plan.specs.Limits.{inputs}
use Rattle.plan.specs.Resolved.{Resolved, patch, gain, matrix, clear, send, output, slot_named, src_of}

-- before the first step no buffer has an input
abbrev pub no_sources : ℕ → ℕ → Bool
no_sources b i = false

-- the union of the sets of a list of buffers
unfoldable pub union : (ℕ → ℕ → Bool) → List ℕ → ℕ → Bool
union sources [] i = false
union sources (s ∷ src) i = sources s i || union sources src i

-- "Patch replaces it, Gain and Matrix give every dst the union of src, Clear empties, Send adds": the sets after a step
unfoldable pub spread : (ℕ → ℕ → Bool) → Resolved → ℕ → ℕ → Bool
unfolding union
spread sources (patch input channel dst) b i = cond (eqb b dst) (eqb i input) (sources b i)
spread sources (gain node src dst) b i = cond (has dst b) (union sources src i) (sources b i)
spread sources (matrix node src dst) b i = cond (has dst b) (union sources src i) (sources b i)
spread sources (clear dst) b i = cond (has dst b) false (sources b i)
spread sources (send node src dst weights) b i = cond (has dst b) (sources b i || union sources src i) (sources b i)
spread sources (output src slot) b i = sources b i

-- "Output joins into its slot": what a step adds to slot s
unfoldable pub joins : ℕ → (ℕ → ℕ → Bool) → Resolved → ℕ → Bool
joins s sources x i = has (slot_named x) s && union sources (src_of x) i

-- the inputs behind slot s after a list of steps that starts from given sets
unfoldable pub behind : ℕ → (ℕ → ℕ → Bool) → List Resolved → ℕ → Bool
unfolding spread joins
behind s sources [] i = false
behind s sources (x ∷ xs) i = joins s sources x i || behind s (spread sources x) xs i

-- "A slot's inputs are listed ascending": the list behind slot s
unfoldable pub source_list : ℕ → List Resolved → List ℕ
unfolding behind
source_list s steps = sift (behind s no_sources steps) 0 inputs

-- "Slots run to the highest one named": how many there are up to the highest of a list
abbrev pub slots_to : List ℕ → ℕ
slots_to [] = 0
slots_to (s ∷ ss) = max (suc s) (slots_to ss)

-- and up to the highest that steps name: none where no Output is
unfoldable pub slot_count : List Resolved → ℕ
slot_count [] = 0
slot_count (x ∷ xs) = max (slots_to (slot_named x)) (slot_count xs)
