-- `trace_calls::slots::write_lists` meets its contract. Assumes nothing.
use Rattle.trace.proofs.Lists.{Writing}
use Rattle.trace_sources.specs.Loops.{list_at}
use Rattle.trace_calls.proofs.slots.write_lists.Given as goal

abbrev pub invariant-loop-s : goal.invariant-loop-s
invariant-loop-s l = Writing (list_at l.area) l.n l.initial.counts l.initial.lists l.counts l.lists l.s
