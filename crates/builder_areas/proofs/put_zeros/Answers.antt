-- `builder_areas::put_zeros` meets its contract: the front holds the zeros. Assumes nothing.
use Prim.Native.Nat.{◌≤◌}
use native.Mathlib.Omega.{arith}
use lib.ListN.{length, replicate, length-replicate}
use lib.Seq.{length-take-le}
use Rattle.lists.proofs.Stores.{sets_front}
use Rattle.node.specs.Nodes.{silence}
use Rattle.builder_areas.proofs.put_zeros.Goals as goal

pub returns : goal.returns
returns c =
    let a = c.args in
    let l = length-replicate a.n silence in
    let h : length (replicate a.n silence) ≤ length a.area.now = omega arith in
    rw (c.fill.ensures.after (λ y e. e), length-take-le a.n a.area.now c.requires, sets_front a.area.now (replicate a.n silence) h, l)
