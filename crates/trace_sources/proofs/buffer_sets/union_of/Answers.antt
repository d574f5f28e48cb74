use native.Mathlib.Omega.{arith}
use Rattle.lists.proofs.Entries.{some_none}
use Rattle.plan.specs.Limits.{unit_limits}
use Rattle.trace_sources.specs.Loops.{sources_of}
use Rattle.trace_sources.proofs.Stored.{joining_on, joining_ends}
use Rattle.trace_sources.proofs.buffer_sets.union_of.Goals as goal

pub bounds-area-b : goal.bounds-area-b
bounds-area-b c =
    omega (arith, (some_none unit_limits.buffers c.args.src.now).0 c.requires.0 c.loop-b.b-index c.loop-b-test.true, c.requires.1)

pub loop-b-preserved : goal.loop-b-preserved
loop-b-preserved c =
    let l = c.loop-b in
    let a = c.args in (
      omega arith,
      joining_on (sources_of a.area.now) a.src.now l.set l.b-index l.invariant.1 c.loop-b-test.true c.union-set.result
          c.union-set.ensures,
    )

pub returns : goal.returns
returns c =
    let l = c.loop-b in
    let a = c.args in
    joining_ends (sources_of a.area.now) a.src.now l.set l.b-index l.invariant.1 (omega arith)
