-- The pairs of formats that a house table covers (request C-14): those for which `applies` of the Rust's src/mix/downmix.rs says yes. Definitions only.
use Rattle.std.specs.Prelude.{ℕ, Bool, false, not, ◌&&◌, ◌||◌, List, [], ◌∷◌, eqb}
use Rattle.format.specs.Formats.{labels, has}

abbrev pub mono : ℕ
mono = 0

abbrev pub stereo : ℕ
stereo = 1

-- the format d lacks a label of the list
unfoldable pub lacks : ℕ → List ℕ → Bool
unfolding has
lacks d [] = false
lacks d (l ∷ ls) = not (has d l) || lacks d ls

-- The Rust's words: not from mono, nor from stereo to mono, and some label of src that dst lacks. It is asked of formats alone: what is none is refused
-- before.
unfoldable pub applies : ℕ → ℕ → Bool
unfolding labels lacks
applies src dst = not (eqb src mono || (eqb src stereo && eqb dst mono)) && lacks dst (labels src)
