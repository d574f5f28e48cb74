-- `run_process::process` meets its contract. Assumes nothing.
use mathlib.Core.Path.{refl, sym, ap, ◌∙◌}
use lib.Seq.{length-take-le}
use Rattle.input.proofs.Input.{directory_good}
use Rattle.run.specs.Run.{state}
use Rattle.run.proofs.Admitted.{admitted}
use Rattle.run.proofs.Answers.{returned_refused, returned_accepted}
use Rattle.run_process.proofs.process.Goals as goal
use Rattle.std.specs.Prelude.{Err}
use Rattle.std.proofs.lemmas.Result.{err_from_is_err_and}

pub returns-in_err-admission : goal.returns-in_err-admission
returns-in_err-admission c =
    let a = c.args in
    let s = state a.node_floats.now a.node_words.now a.buffers.now a.output.now 0 in
    let p = err_from_is_err_and c.from_residual.result c.from_residual.ensures.1 in
    let r = returned_refused _ s s _ (sym c.admission.ensures ∙ c.in_err-admission.was) refl (p.1 ∙ ap Err p.2) in
    record {
      answer = r.0;
      floats = r.1.0;
      words = r.1.1.0;
      buffers = r.1.1.1.0;
      output = r.1.1.1.1;
    }

pub slice_bounds-counted-end : goal.slice_bounds-counted-end
slice_bounds-counted-end c = sym (length-take-le c.args.given.now.plan.words c.args.given.now.steps.now (admitted _ _ (sym c.admission.ensures ∙ c.in_ok-admission.was)).step_words)

pub run_block-requires : goal.run_block-requires
run_block-requires c =
    let t = admitted _ _ (sym c.admission.ensures ∙ c.in_ok-admission.was) in
    record {
      tested = (t.fit, t.steps);
      output_room = t.output;
      few_entries = (directory_good _ _ t.directory).few;
    }

pub returns : goal.returns
returns c =
    let a = c.args in
    let s = state a.node_floats.now a.node_words.now a.buffers.now a.output.now 0 in
    let n = c.run_block.new in
    let r = returned_accepted _ s (state n.floats n.words n.buffers n.output c.run_block.result) _ (sym c.admission.ensures ∙ c.in_ok-admission.was) c.run_block.ensures refl in
    record {
      answer = r.0;
      floats = r.1.0;
      words = r.1.1.0;
      buffers = r.1.1.1.0;
      output = r.1.1.1.1;
    }
