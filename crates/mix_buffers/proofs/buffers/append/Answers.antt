use mathlib.Core.Path.{refl}
use Prim.Native.Nat.{◌+◌, ◌*◌}
use native.Mathlib.Omega.{arith}
use lib.ListN.{length, get_or}
use borrow.Author.Rules.{rules}
use Rattle.mix.specs.Samples.{sample}
use Rattle.mix.proofs.Put.{ends_before}
use Rattle.mix.proofs.Stored.{part_stored}
use Rattle.mix.proofs.Mixed.{part_at, samples_stored}
use Rattle.mix.proofs.Turns.{buffer_appended, buffers_appended, no_buffer}
use Rattle.mix_buffers.proofs.buffers.append.Goals as goal

pub loop-c-init : goal.loop-c-init
loop-c-init c = let a = c.args in (search rules, refl, no_buffer a.block a.area.now a.src.now a.at a.output.now)

pub overflow_cast-p : goal.overflow_cast-p
overflow_cast-p c = omega (arith, c.type_inv.src c.loop-c.c)

pub overflow_mul-p : goal.overflow_mul-p
overflow_mul-p c = omega (arith, c.requires.sources c.loop-c.c c.loop-c-test.true)

pub overflow_mul-q : goal.overflow_mul-q
overflow_mul-q c = omega (arith, ends_before {i = c.loop-c.c} {j = length c.args.src.now} c.args.block c.loop-c-test.true)

pub overflow_add-q : goal.overflow_add-q
overflow_add-q c = omega (arith, ends_before {i = c.loop-c.c} {j = length c.args.src.now} c.args.block c.loop-c-test.true)

pub overflow_add-p : goal.overflow_add-p
overflow_add-p c = omega (arith, c.requires.sources c.loop-c.c c.loop-c-test.true)

pub offset_bounds-area-p : goal.offset_bounds-area-p
offset_bounds-area-p c = omega (arith, c.requires.sources c.loop-c.c c.loop-c-test.true)

pub slice_bounds-copy-end : goal.slice_bounds-copy-end
slice_bounds-copy-end c = omega (arith, c.requires.sources c.loop-c.c c.loop-c-test.true)

pub overflow_add-q-in-loop-c : goal.overflow_add-q-in-loop-c
overflow_add-q-in-loop-c c = omega (arith, ends_before {i = c.loop-c.c} {j = length c.args.src.now} c.args.block c.loop-c-test.true)

pub offset_bounds-output-q : goal.offset_bounds-output-q
offset_bounds-output-q c = omega (arith, ends_before {i = c.loop-c.c} {j = length c.args.src.now} c.args.block c.loop-c-test.true)

pub slice_bounds-copy-end-in-loop-c : goal.slice_bounds-copy-end-in-loop-c
slice_bounds-copy-end-in-loop-c c = omega (arith, ends_before {i = c.loop-c.c} {j = length c.args.src.now} c.args.block c.loop-c-test.true)

pub loop-c-preserved : goal.loop-c-preserved
loop-c-preserved c =
    let a = c.args in
    let l = c.loop-c in
    let s = get_or a.src.now l.c 0 in (
      search rules,
      search rules,
      buffer_appended a.block a.area.now a.src.now a.at l.c l.output (search rules) l.invariant.2
          (samples_stored (λ k. sample a.block a.area.now s k) l.output (a.at + l.c * a.block) a.block
          (part_stored _ l.output (a.at + l.c * a.block) a.block (omega (arith, ends_before {i = c.loop-c.c} {j = length c.args.src.now} c.args.block c.loop-c-test.true))
          c.copy.ensures)
          (λ i h. part_at a.area.now (s * a.block) a.block i h)),
    )

pub returns : goal.returns
returns c =
    let a = c.args in
    let l = c.loop-c in buffers_appended a.block a.area.now a.src.now a.at l.c l.output (omega arith) l.invariant.2
