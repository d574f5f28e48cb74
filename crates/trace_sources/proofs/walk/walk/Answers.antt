use mathlib.Core.Path.{sym, ◌∙◌}
use Rattle.trace_sources.proofs.Walking.{walking_starts, walking_on, walking_ends}
use Rattle.trace_sources.proofs.walk.walk.Goals as goal

pub loop-i-init : goal.loop-i-init
loop-i-init c =
    let a = c.args in
    walking_starts a.plan a.indices.now a.steps.now a.area.now a.slots.now c.requires.0 c.requires.1 c.requires.2

pub loop-i-preserved : goal.loop-i-preserved
loop-i-preserved c =
    let a = c.args in
    let j = c.join in
    let n = c.spread in
    walking_on a.plan a.indices.now a.steps.now a.area.now a.slots.now c.loop-i.invariant c.loop-i-test.true (sym c.read_step.ensures ∙ c.in-Some.is)
    n.new.area j.new.slots c.with_slot-count.result j.ensures j.auto.slots n.ensures n.auto.area c.with_slot-count.ensures

pub returns : goal.returns
returns c =
    let a = c.args in
    let w = walking_ends a.plan a.indices.now a.steps.now a.area.now a.slots.now c.loop-i.invariant c.loop-i-test.false in record {
      count = w.all;
      sets = w.sets;
    }
