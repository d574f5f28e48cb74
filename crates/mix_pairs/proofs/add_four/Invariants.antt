-- `mix_pairs::add_four` meets its contract: the invariant is that the first i whole pieces of both destinations are done. Assumes nothing.
use Prim.Native.Nat.{◌-◌, ◌≤◌}
use Rattle.node.specs.declared.Gain.TheVariants.{Rest}
use Rattle.mix.specs.Loops.{plus_scaled}
use Rattle.mix.proofs.Pieces.{BothBegun}
use Rattle.mix_pairs.proofs.add_four.Given as goal

abbrev pub invariant-loop-i : goal.invariant-loop-i
invariant-loop-i l = (l.i ≤ l.n) × BothBegun (plus_scaled (Rest l.first.1.0)) (plus_scaled (Rest l.then.1.0)) (plus_scaled (Rest l.first.1.1)) (plus_scaled (Rest l.then.1.1)) l.block l.first.0 l.then.0 l.d l.e l.initial.area l.i l.area

abbrev pub decreases-loop-i : goal.decreases-loop-i
decreases-loop-i l = l.n - l.i
