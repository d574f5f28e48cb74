-- `desk_nodes::by_number` meets its contract. After i turns the list has its first i words. Assumes nothing.
use Prim.Native.Nat.{ℕ, ◌/◌}
use mathlib.Core.Path.{◌≡◌}
use Rattle.lists.specs.Parts.{upto}
use Rattle.desk_nodes.proofs.by_number.Given as goal

abbrev pub invariant-loop-i : goal.invariant-loop-i
invariant-loop-i l = l.word-items ≡ upto l.i (λ (j : ℕ). j / 2) l.initial.word-items
