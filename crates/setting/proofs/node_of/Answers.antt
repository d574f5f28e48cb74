-- `setting::node_of` meets its contract. Assumes nothing.
use mathlib.Core.Path.{sym, ◌∙◌}
use native.Mathlib.Omega.{arith}
use borrow.Author.Tests.{eq-eqb, ne_eqb}
use Rattle.lists.proofs.Scans.{above}
use Rattle.setting.proofs.Setting.{node_here, node_before, node_none}
use Rattle.setting.proofs.node_of.Goals as goal

pub returns-then-id_of-id : goal.returns-then-id_of-id
returns-then-id_of-id c = sym (c.loop-i.invariant ∙ node_here _ _ (above _ c.loop-i-test.true) (eq-eqb _ _ (sym c.id_of.ensures ∙ c.if-id_of-id.true)))

pub loop-i-preserved : goal.loop-i-preserved
loop-i-preserved c = c.loop-i.invariant ∙ node_before _ _ (above _ c.loop-i-test.true) (ne_eqb _ _ (λ e. c.if-id_of-id.false (c.id_of.ensures ∙ e)))

pub returns : goal.returns
returns c = sym (c.loop-i.invariant ∙ node_none _ _ (omega arith))
