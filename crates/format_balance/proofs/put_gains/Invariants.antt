-- `format_balance::put_gains` meets its contract: the loop's invariant: the first c places hold the gains of the first c labels. Assumes nothing.
use mathlib.Core.Path.{◌≡◌}
use Prim.Native.Nat.{ℕ}
use lib.Ieee.{Float}
use Rattle.lists.proofs.Filled.{filled}
use Rattle.format_balance.specs.Balance.{side}
use Rattle.format_balance.specs.Balance.{of_side}
use Rattle.format_balance.proofs.put_gains.Given as goal

-- the gain of a label, as the code works it out
abbrev pub gain : Float → Float → ℕ → Float
gain l r k = of_side l r (side k)

abbrev pub invariant-loop-c : goal.invariant-loop-c
invariant-loop-c l = l.out ≡ filled (gain l.left l.right) l.label-items l.c l.initial.out
