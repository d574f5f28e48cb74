-- A whole number up to the longest ramp is cast to an f32 with nothing lost. Assumes nothing.
use Prim.Native.Nat.{ℕ, ◌≤◌}
use lib.Dec.{T, le→leb}
use lib.IntN.{pos}
use lib.Ieee.{binary32, in_float}
use Rattle.node.specs.Sizes.{max_ramp}

pub exact : (n : ℕ) → n ≤ max_ramp → T (in_float binary32 (pos n))
unfolding in_float
exact n h = le→leb n max_ramp h
