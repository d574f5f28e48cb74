-- What the contracts of the steps cite: what the steps with a node take for granted, and what they leave. Definitions only.
use Rattle.std.specs.Prelude.{ℕ, ◌*◌, ◌≤◌, ◌<◌, ◌≡◌, false, List, length, Float}
use Rattle.node.specs.Areas.{Room, some_bad}
use Rattle.plan.specs.Limits.{max_block}
use Rattle.plan.specs.Check.{named}
use Rattle.plan.specs.Sound.{Names}
use Rattle.run.specs.declared.Wires.{Wires}
use Rattle.run.specs.Run.{RunGiven}

-- what the tests said of a step that has a node
pub record NodeFit (g : RunGiven) (floats : List Float) (words : List ℕ) (buffers : List Float) (w : Wires) : Type 0 where
  pub block : g.plan.block ≤ max_block
  pub node : w.node < g.plan.nodes
  pub room : Room g.plan.nodes floats words
  pub good : some_bad words g.plan.nodes ≡ false
  pub sources : Names g.plan g.indices w.src
  pub targets : Names g.plan g.indices w.dst
  pub area : g.plan.buffers * g.plan.block ≤ length buffers

-- the buffers that it takes from, and those that it puts to
abbrev pub sources_in : RunGiven → Wires → List ℕ
sources_in g w = named g.indices w.src

abbrev pub targets_in : RunGiven → Wires → List ℕ
targets_in g w = named g.indices w.dst
