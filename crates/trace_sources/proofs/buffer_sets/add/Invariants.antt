-- `trace_sources::buffer_sets::add` meets its contract. Assumes nothing.
use Rattle.trace_sources.specs.Loops.{joined}
use Rattle.trace_sources.proofs.Stored.{Changing, joined_twice}
use Rattle.trace_sources.proofs.buffer_sets.add.Given as goal

abbrev pub invariant-loop-b : goal.invariant-loop-b
invariant-loop-b l = Changing (joined l.set) (joined_twice l.set) l.initial.area l.dst l.area l.b-index
