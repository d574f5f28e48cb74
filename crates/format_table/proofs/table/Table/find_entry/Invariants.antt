-- `format_table::table::Table::find_entry` meets its contract: the loop's invariant: the gains of the entry start at `at`, and no entry before it is for the
-- pair. Assumes nothing.
use mathlib.Core.Path.{◌≡◌}
use Rattle.format_table.specs.Tables.{needed, times}
use Rattle.format_table.proofs.table.Table.find_entry.Given as goal

abbrev pub invariant-loop-from : goal.invariant-loop-from
invariant-loop-from l = (l.at ≡ needed l.self.pairs.now l.from-index) × (times l.self.pairs.now l.src l.dst l.from-index ≡ 0)
