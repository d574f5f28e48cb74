-- `signals::inputs::triangle` meets its contract. Assumes nothing.
use native.Mathlib.Omega.{arith}
use borrow.Author.Tests.{lt-ltb, le-ltb}
use Rattle.signals.specs.Signals.{triangle}
use Rattle.signals.proofs.inputs.triangle.Goals as goal

pub returns-then-phase-lt32768 : goal.returns-then-phase-lt32768
unfolding triangle
returns-then-phase-lt32768 c = (rw (lt-ltb _ _ c.if-phase-lt32768.true), omega arith)

pub returns : goal.returns
unfolding triangle
returns c = (rw (le-ltb _ _ c.if-phase-lt32768.false), omega arith)
