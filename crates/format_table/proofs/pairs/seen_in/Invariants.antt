-- `format_table::pairs::seen_in` meets its contract: the loop's invariant: the pairs of the entries so far are seen. Assumes nothing.
use Rattle.format_table.specs.Loops.{SeenIn}
use Rattle.format_table.proofs.pairs.seen_in.Given as goal

abbrev pub invariant-loop-src : goal.invariant-loop-src
invariant-loop-src l = SeenIn l.pairs l.src-index l.seen
