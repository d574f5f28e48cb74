-- `mix_pairs::two_into` meets its contract: the invariant is that the first i whole pieces are done. Assumes nothing.
use Prim.Native.Nat.{◌-◌, ◌≤◌}
use Rattle.mix.specs.Loops.{by_gain}
use Rattle.mix.proofs.Pieces.{Begun}
use Rattle.mix_pairs.proofs.two_into.Given as goal

abbrev pub invariant-loop-i : goal.invariant-loop-i
invariant-loop-i g l = (l.i ≤ l.e) × Begun (by_gain (g.M.Mixing.mixed l.fn.first.1) (g.M.Mixing.gain l.fn.first.1)) (by_gain (g.N.Mixing.mixed l.fn.then.1) (g.N.Mixing.gain l.fn.then.1)) l.block l.fn.first.0 l.fn.then.0 l.d l.initial.area l.i l.area

abbrev pub decreases-loop-i : goal.decreases-loop-i
decreases-loop-i g l = l.e - l.i
