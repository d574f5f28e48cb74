-- `run_process::steps::run_step` meets its contract, arm by arm. Assumes nothing.
use mathlib.Core.Path.{ap, ◌∙◌}
use mathlib.Core.List.{List}
use native.Mathlib.Omega.{arith}
use lib.Ieee.{Float}
use Rattle.mix.specs.Samples.{put}
use Rattle.mix.specs.Mix.{patched}
use Rattle.mix.proofs.Given.{buffer_inside}
use Rattle.run.specs.Run.{stepped}
use Rattle.run.specs.Lent.{given_by}
use Rattle.run.proofs.Outputs.{output_room}
use Rattle.run_process.proofs.Fits.{step_as, node_fit}
use Rattle.run_process.proofs.steps.run_step.Goals as goal

pub lookup_by_end-part-requires : goal.lookup_by_end-part-requires
lookup_by_end-part-requires c =
    let f = step_as c.in-Patch.is c.requires.tested in
    (f.inside.0, c.requires.ends)

pub patch-requires : goal.patch-requires
patch-requires c =
    let f = step_as c.in-Patch.is c.requires.tested in
    buffer_inside c.args.given.now.plan.buffers c.args.given.now.plan.block _ c.args.buffers.now f.inside.1 f.fit.buffers

pub run_node-requires : goal.run_node-requires
run_node-requires c =
    let f = step_as c.in-Gain.is c.requires.tested in record {
      node_fit = node_fit (given_by c.args.given.now) _ f.fit f.inside.0 f.inside.1 f.inside.2;
      tested = (f.narrow, f.apart);
    }

pub run_node-requires-in-Matrix : goal.run_node-requires-in-Matrix
run_node-requires-in-Matrix c =
    let f = step_as c.in-Matrix.is c.requires.tested in record {
      node_fit = node_fit (given_by c.args.given.now) _ f.fit f.inside.0 f.inside.1 f.inside.2;
      tested = (f.narrow, f.apart);
    }

pub run_clear-requires : goal.run_clear-requires
run_clear-requires c =
    let f = step_as c.in-Clear.is c.requires.tested in
    (f.inside, f.fit.buffers)

pub run_node-requires-in-Send : goal.run_node-requires-in-Send
run_node-requires-in-Send c =
    let f = step_as c.in-Send.is c.requires.tested in record {
      node_fit = node_fit (given_by c.args.given.now) _ f.fit f.inside.0 f.inside.1 f.inside.2;
      tested = (f.apart, omega (arith, f.inside.3, f.fit.weights), f.inside.4);
    }

pub run_output-requires : goal.run_output-requires
run_output-requires c =
    let e = c.in-Output.is in
    let f = step_as e c.requires.tested in record {
      names = (f.inside.0, f.fit.buffers);
      block_in_bounds = output_room _ _ _ _ _ e c.requires.output_room;
    }

pub returns-in-Output : goal.returns-in-Output
unfolding stepped
returns-in-Output c = let e = c.run_output.ensures in rw (c.in-Output.is, e.wrote, e.output)

pub returns-in-Patch : goal.returns-in-Patch
unfolding stepped
returns-in-Patch c =
    let a = c.args in
    let d = c.in-Patch.dst in
    let e = c.patch.ensures ∙ ap (λ (p : List Float). put a.given.now.plan.block d (patched a.given.now.plan.block p) a.buffers.now) c.lookup_by_end-part.ensures in
    rw (c.in-Patch.is, e)

pub returns-in-Gain : goal.returns-in-Gain
unfolding stepped
returns-in-Gain c =
    let e = c.run_node.ensures in
    rw (c.in-Gain.is, e.floats, e.words, e.buffers)

pub returns-in-Matrix : goal.returns-in-Matrix
unfolding stepped
returns-in-Matrix c =
    let e = c.run_node-in-Matrix.ensures in
    rw (c.in-Matrix.is, e.floats, e.words, e.buffers)

pub returns-in-Clear : goal.returns-in-Clear
unfolding stepped
returns-in-Clear c = rw (c.in-Clear.is, c.run_clear.ensures)

pub returns-in-Send : goal.returns-in-Send
unfolding stepped
returns-in-Send c =
    let e = c.run_node-in-Send.ensures in
    rw (c.in-Send.is, e.floats, e.words, e.buffers)
