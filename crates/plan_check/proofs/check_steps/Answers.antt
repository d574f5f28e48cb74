-- `plan_check::check_steps` meets its contract: each way out is one of `Answers`, and `Counting` has the channels. Assumes nothing.
use mathlib.Core.Path.{sym, ◌∙◌}
use Prim.Native.Nat.{◌+◌}
use native.Mathlib.Nat.{sub-zero}
use native.Mathlib.Omega.{arith}
use borrow.Author.Rules.{rules}
use Rattle.plan.proofs.Answers.{rest_of, turn_bad, turn_refused, turn_on, turns_done, counted_refused, counted_accepted}
use Rattle.plan.proofs.Counting.{counting_starts, counting_more, counting_ends}
use Rattle.plan_check.proofs.check_steps.Goals as goal

pub loop-i-init : goal.loop-i-init
loop-i-init c = (counting_starts _ _, rw sub-zero)

pub returns-in_default : goal.returns-in_default
returns-in_default c =
    counted_refused _ c.refused.ensures
    (c.loop-i.invariant.1 ∙ turn_bad _ _ _ _ _ (rest_of c.loop-i-test.true) (sym c.read_step.ensures ∙ c.in_default.is))

pub returns-in_err-check_step : goal.returns-in_err-check_step
returns-in_err-check_step c =
    let h =
    c.loop-i.invariant.1
    ∙ turn_refused _ _ _ _ _ (rest_of c.loop-i-test.true) (sym c.read_step.ensures ∙ c.in-Some.is) _
    (sym c.check_step.ensures ∙ c.in_err-check_step.was) in
    search rules

pub loop-i-preserved : goal.loop-i-preserved
loop-i-preserved c =
    let a = c.args in
    let l = c.loop-i in
    let channels = c.step_channels.ensures in
    let read = sym c.read_step.ensures ∙ c.in-Some.is in (
      rw channels.0 (counting_more a.words.now a.indices.plan.steps l.total l.at l.i l.invariant.0 c.loop-i-test.true read (rw channels.0 at channels.1)),
      l.invariant.1 ∙ turn_on _ _ _ _ _ (rest_of c.loop-i-test.true) read (sym c.check_step.ensures ∙ c.in_ok-check_step.was),
    )

pub returns : goal.returns
returns c =
    let l = c.loop-i in
    let a = c.args in
    counted_accepted (counting_ends a.words.now a.indices.plan.steps l.total l.at l.i l.invariant.0 c.loop-i-test.false)
    (l.invariant.1 ∙ turns_done a.indices.plan a.indices.list.now a.words.now l.at (l.i + 1) (omega arith))
