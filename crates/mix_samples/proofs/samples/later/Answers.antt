-- `mix_samples::samples::later` meets its contract: a ramp that is over at sample k is at its target from there on. Assumes nothing.
use mathlib.Core.Path.{◌≡◌}
use Prim.Native.Nat.{ℕ, ◌≤◌}
use native.Mathlib.Omega.{arith}
use borrow.Author.Tests.{le-ltb}
use lib.Ieee.{Float}
use Rattle.node.specs.declared.Gain.{Gain}
use Rattle.node.specs.declared.Gain.TheVariants.{Rest, Moving}
use Rattle.node.specs.Nodes.{factor}
use Rattle.mix_samples.proofs.samples.later.Goals as goal

over : {g : Gain} {cur step t : Float} {left : ℕ} → g ≡ Moving cur step t left → (k : ℕ) → left ≤ k → (i : ℕ) → k ≤ i → factor (Rest t) i ≡ factor g i
unfolding factor
over {left = left} e k l i h = rw (e, le-ltb i left (omega arith))

pub returns-in-Rest : goal.returns-in-Rest
returns-in-Rest c = λ i h. rw c.in-Rest.is

pub returns-then-k-left : goal.returns-then-k-left
returns-then-k-left c = λ i h. rw c.in-Moving.is

pub returns-else-k-left : goal.returns-else-k-left
returns-else-k-left c = over c.in-Moving.is _ c.if-k-left.false
