-- `adoption::adopt_pair` meets its contract. Assumes nothing.
use native.Mathlib.Omega.{arith}
use Rattle.node.proofs.Bad.{none_bad_at}
use Rattle.adoption.proofs.adopt_pair.Goals as goal

pub set-requires : goal.set-requires
set-requires c =
    let a = c.args in
    (rw c.load-node.ensures (none_bad_at a.node_words.now a.nodes c.requires.good a.node_floats.now a.n (omega arith)).len, c.requires.short)
