-- `insert_answers::ids_taken` meets its contract: at i none of the ids before i is held by a node or stands again behind it. Assumes nothing.
use mathlib.Core.Path.{◌≡◌}
use lib.ListN.{drop}
use Rattle.builder.specs.Sums.{ids_taken}
use Rattle.insert_answers.proofs.ids_taken.Given as goal

abbrev pub invariant-loop-i : goal.invariant-loop-i
invariant-loop-i l = ids_taken l.words l.n l.ids ≡ ids_taken l.words l.n (drop l.i l.ids)
