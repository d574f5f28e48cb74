-- `sets::list_word` meets its contract. The loop's invariant: what is left to write, written where the loop is, makes what is asked for.
-- The measure is the word that is left. Assumes nothing.
use Prim.Native.Nat.{◌+◌, ◌^◌, ◌<◌}
use mathlib.Core.Path.{◌≡◌}
use lib.ListN.{length}
use lib.Seq.{sets}
use Rattle.sets.specs.Sets.{places}
use Rattle.sets.proofs.list_word.Given as goal

abbrev pub invariant-loop-rest : goal.invariant-loop-rest
invariant-loop-rest l =
    (l.rest < 2 ^ 64)
    × (l.n + length (places l.base 64 l.rest) ≡ l.at + length (places l.base 64 l.word))
    × (sets l.out l.n (places l.base 64 l.rest) ≡ sets l.initial.out l.at (places l.base 64 l.word))

abbrev pub decreases-loop-rest : goal.decreases-loop-rest
decreases-loop-rest l = l.rest
