use Prim.Native.Nat.{◌-◌}
use native.Mathlib.Omega.{arith}
use mathlib.Core.Path.{refl, sym, ◌∙◌}
use borrow.Author.Rules.{rules}
use Rattle.node.proofs.Casts.{exact}
use Rattle.node.proofs.Left.{finish_rest}
use Rattle.node.proofs.Loops.{new_left, cur_more, finish_end, finish_on}
use Rattle.node.proofs.Node.finish_block.Goals as goal

pub returns-then-self-eq0 : goal.returns-then-self-eq0
returns-then-self-eq0 c = sym (finish_rest _ _ c.if-self-eq0.true)

pub returns-then-self-eq0-2 : goal.returns-then-self-eq0-2
returns-then-self-eq0-2 c =
    let a = c.args in
    let m = c.min-n in
    c.at_target.ensures ∙ finish_end a.self a.block m.result c.if-self-eq0.false m.ensures c.if-self-eq0-2.true

pub loop-i-init : goal.loop-i-init
loop-i-init c = (search rules, refl)

pub int_to_float-self : goal.int_to_float-self
int_to_float-self c = exact _ (omega arith)

pub loop-i-preserved : goal.loop-i-preserved
loop-i-preserved c =
    let a = c.args in
    let m = c.min-n.result in
    let l = c.loop-i in
    (search rules, cur_more l.self (new_left a.self (a.self.left - m)) m l.i l.invariant.1)

pub returns : goal.returns
returns c =
    let a = c.args in
    let m = c.min-n in
    let l = c.loop-i in
    finish_on l.self a.self a.block m.result l.i
    c.if-self-eq0.false m.ensures c.if-self-eq0-2.false l.invariant.1 (omega arith)
