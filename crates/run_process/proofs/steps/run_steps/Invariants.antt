-- `run_process::steps::run_steps` meets its contract. Assumes nothing.
use Rattle.input.specs.Input.{lookup}
use Rattle.run.specs.Run.{state}
use Rattle.run_process.proofs.Going.{Going}
use Rattle.run_process.proofs.steps.run_steps.Given as goal

abbrev pub invariant-loop-i : goal.invariant-loop-i
invariant-loop-i l =
    let g = l.given in
    Going g.plan g.indices.now g.coefficients.now (lookup g.directory.now g.samples.now) g.steps.now (state l.initial.floats l.initial.words l.initial.buffers l.initial.output 0) l.at l.i (state l.floats l.words l.buffers l.output l.wrote)
