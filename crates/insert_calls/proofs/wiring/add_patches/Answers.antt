use Rattle.builder_calls.specs.Lent.{state_of}
use Rattle.insert_calls.proofs.Parts.{left_made, same_then}
use Rattle.insert_calls.proofs.wiring.add_patches.Goals as goal

pub loop-k-preserved : goal.loop-k-preserved
loop-k-preserved c =
    let a = c.args in
    let s = c.loop-k in (
      left_made a.input a.channel a.dst a.n s.k c.loop-k-test.true (state_of s.areas) c.step.ensures.state s.invariant.0,
      same_then a.areas.now s.areas c.step.new.self s.invariant.1 c.step.ensures.areas,
    )
