use mathlib.Core.Path.{refl}
use native.Mathlib.Omega.{arith}
use borrow.Author.Rules.{rules}
use Rattle.mix.proofs.Turns.{buffer_cleared, buffers_cleared}
use Rattle.mix_buffers.proofs.buffers.clear.Goals as goal

pub loop-d-init : goal.loop-d-init
loop-d-init c = (search rules, refl, refl)

pub overflow_cast-d : goal.overflow_cast-d
overflow_cast-d c = omega (arith, c.type_inv.dst c.loop-d.d-index)

pub fill_buffer-requires : goal.fill_buffer-requires
fill_buffer-requires c = omega (arith, c.requires c.loop-d.d-index c.loop-d-test.true)

pub loop-d-preserved : goal.loop-d-preserved
loop-d-preserved c =
    let a = c.args in
    let l = c.loop-d in
    (search rules, search rules, buffer_cleared a.block a.dst.now l.d-index l.area (search rules) l.invariant.2 c.fill_buffer.ensures)

pub returns : goal.returns
returns c =
    let a = c.args in
    let l = c.loop-d in buffers_cleared a.block a.dst.now l.d-index l.area (omega arith) l.invariant.2
