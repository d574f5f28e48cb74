-- `node_areas::row` meets its contract. Assumes nothing.
use mathlib.Core.Path.{◌≡◌, ap}
use Prim.Native.Nat.{ℕ, ◌+◌, ◌-◌}
use native.Mathlib.Omega.{arith}
use lib.ListN.{take, drop}
use Rattle.node_areas.proofs.row.Goals as goal

pub returns : goal.returns
returns c =
    let a = c.args in
    let e : a.at + 24 - a.at ≡ 24 = omega arith in
    ap (λ (k : ℕ). take k (drop a.at a.floats.now)) e
