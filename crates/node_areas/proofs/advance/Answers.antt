use Prim.Native.Nat.{ℕ, ◌+◌}
use native.Mathlib.Omega.{arith}
use mathlib.Core.Path.{◌≡◌, refl, ap, ◌∙◌}
use lib.ListN.{length-set}
use lib.Seq.{sets}
use borrow.Author.Rules.{rules}
use Rattle.node.proofs.Casts.{exact}
use Rattle.node_areas.specs.Loops.{cur_row}
use Rattle.node_areas.proofs.Rest.{row_starts, row_turn}
use Rattle.node_areas.proofs.advance.Goals as goal

pub loop-i-init : goal.loop-i-init
loop-i-init c = (search rules, row_starts c.args.floats.now c.args.at c.args.m c.requires.0, refl)

pub int_to_float-floats : goal.int_to_float-floats
int_to_float-floats c = exact _ c.requires.2

pub loop-i-preserved : goal.loop-i-preserved
loop-i-preserved c =
    let l = c.loop-i in
    let a = c.args in (
      search rules,
      row_turn a.floats.now a.at a.m c.requires.0 l.floats l.i l.invariant.1 (omega (arith, c.requires.1)),
      length-set l.floats (a.at + l.i) _ ∙ l.invariant.2,
    )

pub returns : goal.returns
returns c =
    let l = c.loop-i in
    let a = c.args in
    let e : l.i ≡ a.len = omega arith in
    l.invariant.1 ∙ ap (λ (i : ℕ). sets a.floats.now a.at (cur_row a.floats.now a.at a.m i)) e
