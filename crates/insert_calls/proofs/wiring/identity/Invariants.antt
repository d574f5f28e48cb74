-- `insert_calls::wiring::identity` meets its contract: at k the rows before k have their 1. Assumes nothing.
use mathlib.Core.Path.{◌≡◌}
use Prim.Native.Nat.{◌*◌}
use lib.ListN.{length, take}
use Rattle.insert.specs.Wiring.{diagonal}
use Rattle.insert_calls.proofs.wiring.identity.Given as goal

abbrev pub invariant-loop-k : goal.invariant-loop-k
invariant-loop-k l = (length l.entries ≡ 144) × (take (l.n * l.n) l.entries ≡ diagonal l.n l.k)
