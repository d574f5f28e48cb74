-- `mix_send::is_four` meets its contract: by its tests, one after the other. Assumes nothing.
use lib.Ieee.{eq, ne}
use Rattle.mix.proofs.Given.{four_of}
use Rattle.mix_send.proofs.is_four.Goals as goal

pub returns : goal.returns
unfolding eq ne
returns c =
    let a = c.args.rows in
    four_of a.src.now a.dst.now a.weights.now c.if-rows-ne2.false c.if-rows-ne2-2.false a.enough
