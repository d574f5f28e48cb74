-- The rows of a node where they lie, as the sample loops take them. Definitions only.
use Rattle.std.specs.Prelude.{ℕ, ◌≤◌, length}
use Rattle.node.specs.declared.Rows.{Rows}
use Rattle.node.specs.declared.Gain.{Gain}
use Rattle.node.specs.Nodes.{gain_at}

-- at least n values each
pub record Values (n : ℕ) (rows : Rows) : Type 0 where
  pub curs : n ≤ length rows.cur.now
  pub steps : n ≤ length rows.step.now
  pub targets : n ≤ length rows.target.now

-- gain i
abbrev pub gain_in : Rows → ℕ → Gain
gain_in rows = gain_at rows.cur.now rows.step.now rows.target.now rows.left
