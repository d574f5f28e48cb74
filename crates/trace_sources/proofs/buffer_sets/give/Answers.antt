use mathlib.Core.Path.{◌∙◌}
use Prim.Native.Nat.{◌<◌}
use native.Mathlib.Omega.{arith}
use lib.ListN.{get_or, length, length-set}
use Rattle.lists.proofs.Entries.{some_none}
use Rattle.plan.specs.Limits.{unit_limits}
use Rattle.trace_sources.specs.Loops.{other}
use Rattle.trace_sources.proofs.Stored.{stored_sources, changing_on, changing_ends, other_twice}
use Rattle.trace_sources.proofs.buffer_sets.give.Goals.{In-loop-b}
use Rattle.trace_sources.proofs.buffer_sets.give.Goals as goal

-- the buffer has a set
room : (c : In-loop-b) → get_or c.args.dst.now c.loop-b.b-index 0 < length c.loop-b.area
room c =
    omega (arith, (some_none unit_limits.buffers c.args.dst.now).0 c.requires.0 c.loop-b.b-index c.loop-b-test.true, c.loop-b.invariant.kept ∙ c.requires.1)

pub bounds-area-b : goal.bounds-area-b
bounds-area-b c = room (goal.at.bounds-area-b c).In-loop-b

pub loop-b-preserved : goal.loop-b-preserved
loop-b-preserved c =
    let a = c.args in
    let area = c.loop-b.area in
    let b = get_or a.dst.now c.loop-b.b-index 0 in
    changing_on (other a.set) (other_twice a.set) c.loop-b.invariant _ c.loop-b-test.true (length-set area b a.set)
    (stored_sources area b a.set (room (goal.at.loop-b-preserved c).In-loop-b))

pub returns : goal.returns
returns c =
    let a = c.args in
    changing_ends (other a.set) (other_twice a.set) c.loop-b.invariant c.loop-b-test.false
