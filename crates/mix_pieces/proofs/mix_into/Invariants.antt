-- `mix_pieces::mix_into` meets its contract: the invariant is that the first i whole pieces are done. Assumes nothing.
use Prim.Native.Nat.{◌-◌, ◌≤◌}
use Rattle.mix.specs.Loops.{by_gain}
use Rattle.mix.proofs.Pieces.{alone, Begun}
use Rattle.mix_pieces.proofs.mix_into.Given as goal

abbrev pub invariant-loop-i : goal.invariant-loop-i
invariant-loop-i g l =
    let b = g.M.Mixing in
    (l.i ≤ l.e) × Begun (by_gain (b.mixed l.by) (b.gain l.by)) alone l.block l.s l.s l.d l.initial.area l.i l.area

abbrev pub decreases-loop-i : goal.decreases-loop-i
decreases-loop-i g l = l.e - l.i
