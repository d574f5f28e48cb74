-- `adoption::adopt_pairs` meets its contract. Assumes nothing.
use mathlib.Core.Path.{◌≡◌}
use Rattle.std.specs.Slice.Iter.{chunks_exact_rest, chunks_exact_size}
use Rattle.adoption.specs.Adoption.{lent}
use Rattle.adoption.specs.Fits.{lent_by}
use Rattle.adoption.proofs.Turns.{Going}
use Rattle.adoption.proofs.adopt_pairs.Given as goal

abbrev pub invariant-loop-pair : goal.invariant-loop-pair
invariant-loop-pair l =
    (chunks_exact_size l.pair-iterator ≡ 2)
    × Going (lent l.nodes l.initial.node_floats l.initial.node_words) (lent_by l.lender) l.pairs l.ramp (chunks_exact_rest l.pair-iterator) (lent l.nodes l.node_floats l.node_words)
