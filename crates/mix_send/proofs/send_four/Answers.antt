-- `mix_send::send_four` meets its contract: by the law of two rows and two columns at rest. Assumes nothing.
use mathlib.Core.Path.{refl}
use native.Mathlib.Omega.{arith}
use lib.ListN.{get_or}
use Rattle.mix.specs.Mix.{Row}
use Rattle.mix.proofs.Given.{pair_of, row_of}
use Rattle.mix.proofs.Turns.{four_sent}
use Rattle.mix_send.proofs.send_four.Goals as goal

pub add_four-requires : goal.add_four-requires
add_four-requires c =
    let a = c.args in
    let p = c.requires in
    let n = p.four.columns in
    let m = p.four.rows in
    let d : Row a.block a.rows.src.now (get_or a.rows.dst.now 0 0) a.area.now = row_of refl p.buffers 0 (omega arith) in
    let e : Row a.block a.rows.src.now (get_or a.rows.dst.now 1 0) a.area.now = row_of refl p.buffers 1 (omega arith) in record {
      d = (pair_of refl d 0 (omega arith), pair_of refl d 1 (omega arith));
      e = (pair_of refl e 0 (omega arith), pair_of refl e 1 (omega arith));
      differ = p.four.differ;
    }

pub returns : goal.returns
returns c =
    let a = c.args in
    let p = c.requires in
    four_sent a.block a.t a.rows.weights.now a.rows.src.now a.rows.dst.now a.area.now p.buffers p.four p.sounds c.add_four.ensures
