use mathlib.Core.Path.{refl}
use Prim.Native.Nat.{◌*◌}
use lib.ListN.{length-set}
use Rattle.node.specs.Nodes.{silence}
use Rattle.insert_calls.proofs.Parts.{take_alike, square_turn, square_below}
use Rattle.insert_calls.proofs.wiring.identity.Goals as goal

pub loop-k-init : goal.loop-k-init
loop-k-init c = (refl, take_alike silence (c.args.n * c.args.n) 144 (square_below c.args.n c.requires))

pub loop-k-preserved : goal.loop-k-preserved
loop-k-preserved c = (simp length-set c.loop-k.invariant.0, square_turn c.args.n c.loop-k.k c.loop-k.entries c.loop-k-test.true c.loop-k.invariant.1)
