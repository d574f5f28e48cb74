use native.Mathlib.Omega.{arith}
use mathlib.Core.Path.{◌≡◌, refl}
use borrow.Author.Rules.{rules}
use Rattle.node.proofs.Casts.{exact}
use Rattle.node.proofs.Loops.{step_more}
use Rattle.node.proofs.Node.start_ramp.Goals as goal

pub loop-i-init : goal.loop-i-init
loop-i-init c = (search rules, refl)

pub int_to_float-self : goal.int_to_float-self
int_to_float-self c = exact _ (omega arith)

pub loop-i-preserved : goal.loop-i-preserved
loop-i-preserved c = (search rules, step_more _ _ _ _ c.loop-i.invariant.1)

pub returns : goal.returns
returns c =
    let l = c.loop-i in
    let e : l.i ≡ c.args.self.len = omega arith in
    rw (l.invariant.1, e)
