-- `insert_calls::wiring::add_patches` meets its contract: at k the Patches from k on are left to be made. Assumes nothing.
use mathlib.Core.Path.{◌≡◌}
use Rattle.builder_calls.specs.Lent.{state_of, SameAreas}
use Rattle.insert.specs.Wiring.{patches}
use Rattle.insert_calls.specs.Loops.{wired}
use Rattle.insert_calls.proofs.Parts.{left}
use Rattle.insert_calls.proofs.wiring.add_patches.Given as goal

abbrev pub invariant-loop-k : goal.invariant-loop-k
invariant-loop-k l =
    (wired (state_of l.areas) (left l.input l.channel l.dst l.n l.k) ≡ wired (state_of l.initial.areas) (patches l.input l.channel l.dst l.n))
    × SameAreas l.initial.areas l.areas
