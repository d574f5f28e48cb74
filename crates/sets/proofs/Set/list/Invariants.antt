-- `sets::Set::list` meets its contract. Assumes nothing.
use Rattle.sets.proofs.Words.{Listing}
use Rattle.sets.proofs.Set.list.Given as goal

abbrev pub invariant-loop-k : goal.invariant-loop-k
invariant-loop-k l = Listing l.fn.self l.initial.out l.out l.n l.k
