-- `trace_calls::clean_answer` meets its contract: a law for each way out. Assumes nothing.
use mathlib.Core.Path.{◌≡◌, sym, ap, ◌∙◌}
use Rattle.trace_calls.proofs.Outcomes.{checks, tested, step_words, clean_refused, clean_accepted}
use Rattle.trace_calls.proofs.clean_answer.Goals.{In_ok-check_lists}
use Rattle.trace_calls.proofs.clean_answer.Goals as goal
use Rattle.std.specs.Prelude.{Ok, Err}
use Rattle.std.proofs.lemmas.Result.{err_from_is_err_and}

-- the plan check accepted
accepted : (c : In_ok-check_lists) → checks c.args.plan c.args.indices.now c.args.node_words.now c.args.steps.now ≡ Ok tt
accepted c = sym c.check_lists.ensures ∙ c.in_ok-check_lists.was

pub returns-in_err-check_lists : goal.returns-in_err-check_lists
returns-in_err-check_lists c =
    let a = c.args in
    let p = err_from_is_err_and c.from_residual.result c.from_residual.ensures.1 in
    p.1 ∙ ap Err p.2 ∙ sym (clean_refused a.plan a.indices.now a.node_words.now a.steps.now _ (sym c.check_lists.ensures ∙ c.in_err-check_lists.was))

pub slice_bounds-all_clean-end : goal.slice_bounds-all_clean-end
slice_bounds-all_clean-end c =
    let a = c.args in step_words a.plan a.indices.now a.node_words.now a.steps.now (accepted (goal.at.slice_bounds-all_clean-end c).In_ok-check_lists)

pub all_clean-requires : goal.all_clean-requires
all_clean-requires c = let a = c.args in tested a.plan a.indices.now a.node_words.now a.steps.now (accepted (goal.at.all_clean-requires c).In_ok-check_lists)

pub returns : goal.returns
returns c =
    let a = c.args in
    clean_accepted a.plan a.indices.now a.node_words.now a.steps.now (accepted (goal.at.returns c).In_ok-check_lists) c.all_clean.result c.all_clean.ensures
