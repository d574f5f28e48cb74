-- `format_table::table::Table::gains_needed` meets its contract: the loop's invariant: n are the gains of the entries so far, and there is room for them.
-- Assumes nothing.
use mathlib.Core.Path.{◌≡◌}
use Prim.Native.Nat.{◌≤◌}
use lib.ListN.{length}
use Rattle.format_table.specs.Tables.{needed}
use Rattle.format_table.proofs.table.Table.gains_needed.Given as goal

abbrev pub invariant-loop-src : goal.invariant-loop-src
invariant-loop-src l = (l.n ≡ needed l.self.pairs.now l.src-index) × (l.n ≤ length l.self.gains.now)
