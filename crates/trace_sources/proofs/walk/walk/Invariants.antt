-- `trace_sources::walk::walk` meets its contract. Assumes nothing.
use Rattle.trace_sources.proofs.Walking.{Walking}
use Rattle.trace_sources.proofs.walk.walk.Given as goal

abbrev pub invariant-loop-i : goal.invariant-loop-i
invariant-loop-i l = Walking l.plan l.indices l.steps l.initial.area l.initial.slots l.area l.slots l.count l.at l.i
