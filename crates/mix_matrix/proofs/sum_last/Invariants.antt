-- `mix_matrix::sum_last` meets its contract: the invariant is that the samples from r to j are summed. Assumes nothing.
use mathlib.Core.Path.{◌≡◌}
use Prim.Native.Nat.{◌+◌, ◌-◌, ◌*◌, ◌≤◌}
use lib.ListN.{length}
use lib.Seq.{sets}
use Rattle.node.specs.Rows.{gain_in}
use Rattle.mix.specs.Samples.{silence, sampled}
use Rattle.mix.specs.Loops.{row_sample}
use Rattle.mix_matrix.proofs.sum_last.Given as goal

abbrev pub invariant-loop-j : goal.invariant-loop-j
invariant-loop-j l = (l.r ≤ l.j) × (l.j ≤ l.block) × (length l.area ≡ length l.initial.area) × (l.area ≡ sets l.initial.area (l.d * l.block + l.r) (sampled (l.j - l.r) (λ i. row_sample l.block (gain_in l.row.node) l.row.v l.row.src.now l.initial.area (l.r + i) silence)))

abbrev pub decreases-loop-j : goal.decreases-loop-j
decreases-loop-j l = l.block - l.j
