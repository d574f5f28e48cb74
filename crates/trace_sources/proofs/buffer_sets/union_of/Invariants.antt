-- `trace_sources::buffer_sets::union_of` meets its contract. Assumes nothing.
use Prim.Native.Nat.{◌≤◌}
use lib.ListN.{length}
use Rattle.trace_sources.specs.Loops.{sources_of}
use Rattle.trace_sources.proofs.Stored.{Joining}
use Rattle.trace_sources.proofs.buffer_sets.union_of.Given as goal

abbrev pub invariant-loop-b : goal.invariant-loop-b
invariant-loop-b l = (l.b-index ≤ length l.src) × Joining (sources_of l.area) l.src l.set l.b-index
