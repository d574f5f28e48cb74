-- `mix_matrix::sum_columns` meets its contract: the invariant is that what is left to add makes the whole sum. Assumes nothing.
use mathlib.Core.Path.{◌≡◌}
use Prim.Native.Nat.{◌-◌, ◌≤◌}
use lib.ListN.{length}
use Rattle.node.specs.Rows.{gain_in}
use Rattle.mix.specs.Loops.{whole_piece}
use Rattle.mix.proofs.Rows.{Left}
use Rattle.mix_matrix.proofs.sum_columns.Given as goal

abbrev pub invariant-loop-c : goal.invariant-loop-c
invariant-loop-c l = (l.c ≤ l.c-end) × (length l.t ≡ whole_piece) × Left l.block (gain_in l.row.node) l.row.v l.row.src.now l.area l.j l.m l.initial.t l.c l.t

abbrev pub decreases-loop-c : goal.decreases-loop-c
decreases-loop-c l = l.c-end - l.c
