use mathlib.Core.Path.{sym, ◌∙◌}
use Rattle.trace_clean.proofs.Cleaning.{cleaning_starts, cleaning_fits, cleaning_no, cleaning_on, cleaning_bad, cleaning_ends}
use Rattle.trace_clean.proofs.all_clean.Goals as goal

pub loop-i-init : goal.loop-i-init
loop-i-init c =
    let a = c.args in
    cleaning_starts a.plan a.indices.now a.steps.now c.empty-set.result c.empty-set.ensures c.requires

pub returns-in_default : goal.returns-in_default
returns-in_default c =
    let a = c.args in
    cleaning_bad a.plan a.indices.now a.steps.now c.loop-i.invariant c.loop-i-test.true (sym c.read_step.ensures ∙ c.in_default.is)

pub clean_step-requires : goal.clean_step-requires
clean_step-requires c =
    let a = c.args in
    (cleaning_fits a.plan a.indices.now a.steps.now c.loop-i.invariant c.loop-i-test.true (sym c.read_step.ensures ∙ c.in-Some.is)).0

pub returns-then-not-clean_step : goal.returns-then-not-clean_step
returns-then-not-clean_step c =
    let a = c.args in
    let t = c.clean_step in
    cleaning_no a.plan a.indices.now a.steps.now c.loop-i.invariant c.loop-i-test.true (sym c.read_step.ensures ∙ c.in-Some.is) (sym t.ensures ∙ c.if-not-clean_step.true)

pub written-set-requires : goal.written-set-requires
written-set-requires c =
    let a = c.args in
    cleaning_fits a.plan a.indices.now a.steps.now c.loop-i.invariant c.loop-i-test.true (sym c.read_step.ensures ∙ c.in-Some.is)

pub loop-i-preserved : goal.loop-i-preserved
loop-i-preserved c =
    let a = c.args in
    let t = c.clean_step in
    cleaning_on a.plan a.indices.now a.steps.now c.loop-i.invariant c.loop-i-test.true (sym c.read_step.ensures ∙ c.in-Some.is) c.written-set.result (sym t.ensures ∙ c.if-not-clean_step.false) c.written-set.ensures

pub returns : goal.returns
returns c =
    let a = c.args in
    cleaning_ends a.plan a.indices.now a.steps.now c.loop-i.invariant c.loop-i-test.false
