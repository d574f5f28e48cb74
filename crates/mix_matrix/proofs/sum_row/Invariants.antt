-- `mix_matrix::sum_row` meets its contract: the invariant is that the first i whole pieces are summed. Assumes nothing.
use mathlib.Core.Path.{◌≡◌}
use Prim.Native.Nat.{◌-◌, ◌*◌, ◌≤◌}
use lib.ListN.{length}
use lib.Seq.{sets}
use Rattle.node.specs.Rows.{gain_in}
use Rattle.mix.specs.Samples.{silence, sampled}
use Rattle.mix.specs.Loops.{row_sample, whole_piece}
use Rattle.mix_matrix.proofs.sum_row.Given as goal

abbrev pub invariant-loop-i : goal.invariant-loop-i
invariant-loop-i l = (l.i ≤ l.e) × (length l.area ≡ length l.initial.area) × (l.area ≡ sets l.initial.area (l.d * l.block) (sampled (whole_piece * l.i) (λ k. row_sample l.block (gain_in l.row.node) l.row.v l.row.src.now l.initial.area k silence)))

abbrev pub decreases-loop-i : goal.decreases-loop-i
decreases-loop-i l = l.e - l.i
