-- `mix_samples::samples::mix_samples` meets its contract: the invariant is that the first i samples are done. Assumes nothing.
use mathlib.Core.Path.{◌≡◌}
use Prim.Native.Nat.{◌-◌, ◌≤◌}
use lib.ListN.{length}
use Rattle.mix.specs.Loops.{by_gain, mixed_into}
use Rattle.mix_samples.proofs.samples.mix_samples.Given as goal

abbrev pub invariant-loop-i : goal.invariant-loop-i
invariant-loop-i g l =
    let m = g.M.Mixing in
    (l.i ≤ l.i-end) × (length l.y ≡ length l.initial.y) × (l.y ≡ mixed_into (by_gain (m.mixed l.m) (m.gain l.m)) l.k l.i l.x l.initial.y)

abbrev pub decreases-loop-i : goal.decreases-loop-i
decreases-loop-i g l = l.i-end - l.i
