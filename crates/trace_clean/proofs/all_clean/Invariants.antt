-- `trace_clean::all_clean` meets its contract. Assumes nothing.
use Rattle.trace_clean.proofs.Cleaning.{Cleaning}
use Rattle.trace_clean.proofs.all_clean.Given as goal

abbrev pub invariant-loop-i : goal.invariant-loop-i
invariant-loop-i l = Cleaning l.plan l.indices l.steps l.set l.at l.i
