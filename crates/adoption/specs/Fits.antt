-- What the contracts of the crate's private functions cite: lent nodes as the code holds them, and what the tests of an adoption leave. Definitions only.
use Rattle.std.specs.Prelude.{ℕ, ◌≤◌, ◌≡◌, false}
use Rattle.node.specs.Sizes.{max_ramp}
use Rattle.node.specs.Areas.{Room}
use Rattle.adoption.specs.declared.Nodes.{Nodes}
use Rattle.adoption.specs.Adoption.{Lent, lent, bad_nodes}

-- the nodes that are lent behind references
abbrev pub lent_by : Nodes → Lent
lent_by nodes = lent nodes.count nodes.floats.now nodes.words.now

-- the areas of both plans have their nodes, no new one is bad, and the ramp is not too long
pub record Fit (new old : Lent) (ramp : ℕ) : Type 0 where
  pub new_room : Room new.count new.floats new.words
  pub old_room : Room old.count old.floats old.words
  pub good : bad_nodes new ≡ false
  pub short : ramp ≤ max_ramp
