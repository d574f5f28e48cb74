-- `mix_pieces::mix_last` meets its contract: the invariant is that the first i samples are stored. Assumes nothing.
use Prim.Native.Nat.{◌-◌, ◌≤◌}
use Rattle.mix.specs.Loops.{by_gain}
use Rattle.mix.proofs.Pieces.{alone, LastStored}
use Rattle.mix_pieces.proofs.mix_last.Given as goal

abbrev pub invariant-loop-i : goal.invariant-loop-i
invariant-loop-i g l =
    let b = g.M.Mixing in
    (l.i ≤ l.m) × LastStored (by_gain (b.mixed l.by) (b.gain l.by)) alone l.from l.from l.to l.k l.initial.area l.i l.area

abbrev pub decreases-loop-i : goal.decreases-loop-i
decreases-loop-i g l = l.m - l.i
