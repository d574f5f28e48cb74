use mathlib.Core.Path.{sym, ◌∙◌}
use native.Mathlib.Omega.{arith}
use borrow.Author.Tests.{eq-eqb, ne_eqb}
use Rattle.lists.proofs.Scans.{above, counted_yes, counted_no, counted_end}
use Rattle.plan.proofs.Plans.{among_counted}
use Rattle.plan_areas.proofs.id_among.Goals as goal

pub returns-then-id_of-id : goal.returns-then-id_of-id
returns-then-id_of-id c =
    let l = c.loop-i in
    sym (l.invariant ∙ counted_yes (among_counted _ _) (above l.i (omega arith)) (eq-eqb _ _ (sym c.id_of.ensures ∙ c.if-id_of-id.true)))

pub loop-i-preserved : goal.loop-i-preserved
loop-i-preserved c =
    let l = c.loop-i in
    l.invariant ∙ counted_no (among_counted _ _) (above l.i (omega arith)) (ne_eqb _ _ (λ e. c.if-id_of-id.false (c.id_of.ensures ∙ e)))

pub returns : goal.returns
returns c = sym (c.loop-i.invariant ∙ counted_end (among_counted _ _) (omega arith))
