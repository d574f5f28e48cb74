-- `mix_pairs::two_last` meets its contract: the invariant is that the first i samples are stored. Assumes nothing.
use Prim.Native.Nat.{◌+◌, ◌-◌, ◌≤◌}
use Rattle.mix.specs.Loops.{by_gain}
use Rattle.mix.proofs.Pieces.{LastStored}
use Rattle.mix_pairs.proofs.two_last.Given as goal

abbrev pub invariant-loop-i : goal.invariant-loop-i
invariant-loop-i g l = (l.i ≤ l.m) × LastStored (by_gain (g.M.Mixing.mixed l.first.1) (g.M.Mixing.gain l.first.1)) (by_gain (g.N.Mixing.mixed l.then.1) (g.N.Mixing.gain l.then.1)) (l.first.0 + l.k) (l.then.0 + l.k) (l.to + l.k) l.k l.initial.area l.i l.area

abbrev pub decreases-loop-i : goal.decreases-loop-i
decreases-loop-i g l = l.m - l.i
