-- `setting::node_of` meets its contract. Assumes nothing.
use mathlib.Core.Path.{◌≡◌}
use Rattle.setting.specs.Setting.{node_of}
use Rattle.setting.proofs.node_of.Given as goal

abbrev pub invariant-loop-i : goal.invariant-loop-i
invariant-loop-i l = node_of l.words l.n l.id ≡ node_of l.words l.i l.id
