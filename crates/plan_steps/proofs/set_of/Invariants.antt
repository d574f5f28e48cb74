-- `plan_steps::set_of` meets its contract. At an entry a number is in the list where it is in the set or among the entries from here on.
-- Assumes nothing.
use mathlib.Core.Path.{◌≡◌}
use mathlib.Core.Bool.{◌||◌}
use mathlib.Core.List.{List}
use Prim.Native.Nat.{ℕ}
use lib.ListN.{drop}
use Rattle.lists.specs.Entries.{has}
use Rattle.sets.specs.Sets.{member}
use Rattle.sets.specs.declared.Set.{Set}
use Rattle.plan_steps.proofs.set_of.Given as goal

abbrev pub Whole : List ℕ → ℕ → Set → Type 0
Whole list i set = (j : ℕ) → (member set j || has (drop i list) j) ≡ has list j

abbrev pub invariant-loop-entry : goal.invariant-loop-entry
invariant-loop-entry l = Whole l.list l.entry-index l.set
