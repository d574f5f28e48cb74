-- `node::Gain::of` meets its contract: by the test on left. Assumes nothing.
use borrow.Author.Tests.{eq-eqb, ne_eqb}
use Rattle.node.proofs.Gain.of.Goals as goal

pub returns-then-left-eq0 : goal.returns-then-left-eq0
returns-then-left-eq0 c = simp (eq-eqb _ _ c.if-left-eq0.true)

pub returns : goal.returns
returns c = simp (ne_eqb _ _ c.if-left-eq0.false)
