-- `trace_sources::buffer_sets::give` meets its contract. Assumes nothing.
use Rattle.trace_sources.specs.Loops.{other}
use Rattle.trace_sources.proofs.Stored.{Changing, other_twice}
use Rattle.trace_sources.proofs.buffer_sets.give.Given as goal

abbrev pub invariant-loop-b : goal.invariant-loop-b
invariant-loop-b l = Changing (other l.set) (other_twice l.set) l.initial.area l.dst l.area l.b-index
