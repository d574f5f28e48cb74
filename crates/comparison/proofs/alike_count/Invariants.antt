-- `comparison::alike_count` meets its contract. Assumes nothing.
use Rattle.comparison.proofs.Alike.{AlikeTo}
use Rattle.comparison.proofs.alike_count.Given as goal

abbrev pub invariant-loop-i : goal.invariant-loop-i
invariant-loop-i g l = AlikeTo g.T.Entry.word_of l.reference l.here l.i
