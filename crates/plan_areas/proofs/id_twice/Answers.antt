use mathlib.Core.Path.{sym, ap, ◌∙◌}
use native.Mathlib.Nat.{ne_of_lt}
use native.Mathlib.Omega.{arith}
use Rattle.lists.proofs.Scans.{above, counted_yes, counted_no, counted_end}
use Rattle.plan.specs.Check.{id_among}
use Rattle.plan.proofs.Plans.{ids_none, twice_counted}
use Rattle.plan_areas.proofs.id_twice.Goals as goal

pub returns-then-ascend : goal.returns-then-ascend
returns-then-ascend c =
    let a = c.args in
    sym ((ids_none a.words.now a.n).1 (λ i j h k. ne_of_lt (c.ascend.ensures c.if-ascend.true i j h k)))

pub returns-then-id_among : goal.returns-then-id_among
returns-then-id_among c =
    let l = c.loop-later in
    sym (l.invariant ∙ counted_yes (twice_counted _) (above l.later (omega arith)) (sym (ap (id_among _ _) c.id_of.ensures) ∙ sym c.id_among.ensures ∙ c.if-id_among.true))

pub loop-later-preserved : goal.loop-later-preserved
loop-later-preserved c =
    let l = c.loop-later in
    l.invariant ∙ counted_no (twice_counted _) (above l.later (omega arith)) (sym (ap (id_among _ _) c.id_of.ensures) ∙ sym c.id_among.ensures ∙ c.if-id_among.false)

pub returns : goal.returns
returns c = sym (c.loop-later.invariant ∙ counted_end (twice_counted _) (omega arith))
