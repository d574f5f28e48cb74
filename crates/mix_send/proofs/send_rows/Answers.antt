use mathlib.Core.Path.{refl, sym, ap, ◌∙◌}
use native.Mathlib.Omega.{arith}
use lib.ListN.{length}
use borrow.Author.Rules.{rules}
use Rattle.node.specs.declared.Gain.{Gain}
use Rattle.mix.specs.Mix.{sends}
use Rattle.mix.proofs.Put.{ends_before}
use Rattle.mix.proofs.Given.{row_of}
use Rattle.mix.proofs.Turns.{no_row_sent, row_sent, rows_sent}
use Rattle.mix_send.proofs.send_rows.Goals as goal

pub send_four-requires : goal.send_four-requires
send_four-requires c =
    record {
      buffers = c.requires;
      four = c.is_four.ensures c.if-is_four.true;
      sounds = rw c.in-Rest.is at c.args.g.sounds;
    }

pub returns-in-Rest : goal.returns-in-Rest
returns-in-Rest c =
    let a = c.args in
    c.send_four.ensures ∙ ap (λ (g : Gain). sends a.block g a.rows.weights.now 0 a.rows.src.now a.rows.dst.now a.area.now) (sym c.in-Rest.is)

pub loop-r-init : goal.loop-r-init
loop-r-init c = let a = c.args in (search rules, refl, no_row_sent a.block a.g.gain a.rows.weights.now a.rows.src.now a.rows.dst.now a.area.now)

pub overflow_mul-from : goal.overflow_mul-from
overflow_mul-from c = omega (arith, ends_before {i = c.loop-r.r} {j = length c.args.rows.dst.now} (length c.args.rows.src.now) c.loop-r-test.true)

pub send_row-requires : goal.send_row-requires
send_row-requires c = let l = c.loop-r in row_of l.invariant.1 c.requires l.r c.loop-r-test.true

pub loop-r-preserved : goal.loop-r-preserved
loop-r-preserved c =
    let a = c.args in
    let l = c.loop-r in (
      search rules,
      search rules,
      row_sent a.block a.g.gain a.rows.weights.now a.rows.src.now a.rows.dst.now l.r l.area (search rules) l.invariant.2 c.send_row.ensures,
    )

pub returns : goal.returns
returns c =
    let a = c.args in
    let l = c.loop-r in rows_sent a.block a.g.gain a.rows.weights.now a.rows.src.now a.rows.dst.now l.r l.area (omega arith) l.invariant.2
