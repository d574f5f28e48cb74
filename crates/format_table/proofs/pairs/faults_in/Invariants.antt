-- `format_table::pairs::faults_in` meets its contract: the loop's invariant: the faults are those of the first k pairs. Assumes nothing.
use Prim.Native.Nat.{◌-◌, ◌≤◌}
use Rattle.format_table.specs.Tables.{all_pairs}
use Rattle.format_table.specs.Loops.{FaultsIn}
use Rattle.format_table.proofs.pairs.faults_in.Given as goal

abbrev pub invariant-loop-k : goal.invariant-loop-k
invariant-loop-k l = (l.k ≤ all_pairs) × FaultsIn l.pairs l.k l.faults

abbrev pub decreases-loop-k : goal.decreases-loop-k
decreases-loop-k l = all_pairs - l.k
