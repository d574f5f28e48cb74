-- `sets::Set::count` meets its contract. Assumes nothing.
use mathlib.Core.Path.{◌≡◌}
use lib.ListN.{length}
use Rattle.sets.proofs.Words.{front}
use Rattle.sets.proofs.Set.count.Given as goal

abbrev pub invariant-loop-word : goal.invariant-loop-word
invariant-loop-word l = l.total ≡ length (front l.fn.self l.word-index)
