-- Laws of the areas. Assumes nothing.
use Rattle.std.proofs.Common.{◌≡◌, ℕ, zero, length, replicate, sym}
use lib.ListN.{length-replicate}

-- an area of n entries that are the same has n
pub filled : {A : Type 0} (n : ℕ) (x : A) → n ≡ length (replicate n x)
filled n x = sym (length-replicate n x)

pub zeros : (n : ℕ) → n ≡ length (replicate n zero)
zeros n = filled n zero
