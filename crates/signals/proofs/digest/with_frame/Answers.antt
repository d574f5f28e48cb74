use mathlib.Core.Path.{◌∙◌}
use native.Mathlib.Omega.{arith}
use Rattle.signals.proofs.Laws.{going_on, going_ends}
use Rattle.signals.proofs.digest.with_frame.Goals as goal

pub loop-block-preserved : goal.loop-block-preserved
loop-block-preserved c =
    let g = c.loop-block.invariant in
    let s = c.in-Some.ensures.steps in
    (s.0 ∙ g.0, going_on g.1 (omega arith) c.in-Some.block.now _ s.1.0 (s.1.1 ∙ g.0) c.with_sample-digest.ensures)

pub returns : goal.returns
returns c =
    let g = c.loop-block.invariant in
    going_ends g.1 (omega (arith, c.in-None.ensures.steps.1.0, g.0))
