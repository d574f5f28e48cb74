-- `mix_matrix::matrix` meets its contract: the invariant is that the rows that are left make the whole. Assumes nothing.
use mathlib.Core.Path.{◌≡◌}
use Prim.Native.Nat.{◌-◌, ◌*◌, ◌≤◌}
use lib.ListN.{length, drop}
use Rattle.node.specs.Rows.{gain_in}
use Rattle.mix.specs.Mix.{rows}
use Rattle.mix_matrix.proofs.matrix.Given as goal

abbrev pub invariant-loop-r : goal.invariant-loop-r
invariant-loop-r l = (l.r ≤ l.r-end) × (length l.area ≡ length l.initial.area) × (rows l.block (gain_in l.node) (l.r * length l.src) l.src (drop l.r l.dst) l.area ≡ rows l.block (gain_in l.node) 0 l.src l.dst l.initial.area)

abbrev pub decreases-loop-r : goal.decreases-loop-r
decreases-loop-r l = l.r-end - l.r
