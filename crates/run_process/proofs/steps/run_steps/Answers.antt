-- `run_process::steps::run_steps` meets its contract. Assumes nothing.
use mathlib.Core.Path.{refl, sym, ◌∙◌}
use Rattle.run.specs.Run.{state}
use Rattle.run_process.proofs.Going.{going_starts, going_fits, going_on, going_bad, going_ends}
use Rattle.run_process.proofs.steps.run_steps.Goals as goal

pub loop-i-init : goal.loop-i-init
loop-i-init c = going_starts _ _ _ _ _ _ c.requires.tested.0 c.requires.tested.1 refl c.requires.output_room

pub returns-in_default : goal.returns-in_default
returns-in_default c = going_bad _ _ _ _ _ _ _ _ _ c.loop-i.invariant c.loop-i-test.true (sym c.read_step.ensures ∙ c.in_default.is)

pub run_step-wrote-requires : goal.run_step-wrote-requires
run_step-wrote-requires c =
    let f = going_fits _ _ _ _ _ _ _ _ _ c.loop-i.invariant c.loop-i-test.true (sym c.read_step.ensures ∙ c.in-Some.is) in
    record {
      tested = f.0;
      output_room = f.1;
      ends = c.requires.ends;
    }

pub loop-i-preserved : goal.loop-i-preserved
loop-i-preserved c =
    let n = c.run_step-wrote.new in
    let k = c.run_step-wrote.auto in
    going_on _ _ _ _ _ _ _ _ _ c.loop-i.invariant c.loop-i-test.true (sym c.read_step.ensures ∙ c.in-Some.is) (state n.floats n.words n.buffers n.output c.run_step-wrote.result) c.run_step-wrote.ensures k.floats k.words k.buffers k.output

pub returns : goal.returns
returns c = going_ends _ _ _ _ _ _ _ _ _ c.loop-i.invariant c.loop-i-test.false
