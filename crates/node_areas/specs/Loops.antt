-- What the contracts of the private functions cite: the row cur on its way. Definitions only.
use Rattle.std.specs.Prelude.{ℕ, ◌+◌, ◌*◌, List, Float}
use Rattle.lists.specs.Parts.{part, upto}
use Rattle.node.specs.Sizes.{max_values}
use Rattle.node.specs.Nodes.{at, on_ramp}

-- the row cur that starts at a place, of which the first `len` values are m samples further on their ramps
abbrev pub cur_row : List Float → ℕ → ℕ → ℕ → List Float
cur_row floats k m len =
    let cur = part k max_values floats in
    upto len (λ i. on_ramp (at cur i) (at (part (k + 2 * max_values) max_values floats) i) m) cur
