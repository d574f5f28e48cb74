-- `trace_calls::all_sources` meets its contract: a law for each way out. Assumes nothing.
use mathlib.Core.Path.{◌≡◌, refl, sym, ◌∙◌}
use native.Mathlib.Omega.{arith}
use Rattle.trace.specs.Sources.{no_sources, behind}
use Rattle.trace.specs.Calls.{traced_steps}
use Rattle.trace_sources.specs.Loops.{slot_sets, list_at}
use Rattle.trace_sources.proofs.Stored.{empties_or}
use Rattle.trace_calls.proofs.Outcomes.{all_by_plan, all_by_2, all_by_none, all_refused, all_listed, room, set_listed, tested, step_words, few, checks}
use Rattle.trace_calls.proofs.all_sources.Goals.{In_ok-check_lists}
use Rattle.trace_calls.proofs.all_sources.Goals as goal
use Rattle.std.specs.Prelude.{Ok}
use Rattle.std.proofs.lemmas.Result.{err_from_is_err_and}

-- the plan check accepted
accepted : (c : In_ok-check_lists) → checks c.args.plan c.args.indices.now c.args.node_words.now c.args.steps.now ≡ Ok tt
accepted c = sym c.check_lists.ensures ∙ c.in_ok-check_lists.was

pub returns-in_err-check_lists : goal.returns-in_err-check_lists
returns-in_err-check_lists c =
    let a = c.args in
    let q = err_from_is_err_and c.from_residual.result c.from_residual.ensures.1 in
    let r = all_refused a.plan a.indices.now a.node_words.now a.steps.now a.counts.now a.lists.now _ _ (all_by_plan a.plan a.indices.now a.node_words.now a.steps.now a.counts.now a.lists.now _ (sym c.check_lists.ensures ∙ c.in_err-check_lists.was)) q.2 in
    record {
      answer = q.1 ∙ r.0;
      counts = r.1.0;
      lists = r.1.1;
    }

pub slice_bounds-behind-end : goal.slice_bounds-behind-end
slice_bounds-behind-end c =
    let a = c.args in step_words a.plan a.indices.now a.node_words.now a.steps.now (accepted (goal.at.slice_bounds-behind-end c).In_ok-check_lists)

pub behind-n-requires : goal.behind-n-requires
behind-n-requires c =
    let a = c.args in (tested a.plan a.indices.now a.node_words.now a.steps.now (accepted (goal.at.behind-n-requires c).In_ok-check_lists), refl)

pub overflow_mul-n : goal.overflow_mul-n
overflow_mul-n c =
    let a = c.args in omega (arith, few a.plan a.indices.now a.node_words.now a.steps.now (accepted (goal.at.overflow_mul-n c).In_ok-check_lists), c.behind-n.ensures.count)

pub returns-then-counts-n : goal.returns-then-counts-n
returns-then-counts-n c =
    let a = c.args in
    let b = c.behind-n in
    let r = all_refused a.plan a.indices.now a.node_words.now a.steps.now a.counts.now a.lists.now _ _ (all_by_2 a.plan a.indices.now a.node_words.now a.steps.now a.counts.now a.lists.now (accepted (goal.at.returns-then-counts-n c).In_ok-check_lists) b.result b.ensures.count c.if-counts-n.true) c.into.ensures in
    record {
      answer = r.0;
      counts = r.1.0;
      lists = r.1.1;
    }

pub write_lists-requires : goal.write_lists-requires
write_lists-requires c =
    let a = c.args in
    let b = c.behind-n in
    let r = room a.plan a.indices.now a.node_words.now a.steps.now a.counts.now a.lists.now b.result c.if-counts-n.false in
    (omega (arith, few a.plan a.indices.now a.node_words.now a.steps.now (accepted (goal.at.write_lists-requires c).In_ok-check_lists), b.ensures.count), b.auto.slots, r.0, r.1)

pub overflow_cast-result : goal.overflow_cast-result
overflow_cast-result c =
    let a = c.args in omega (arith, few a.plan a.indices.now a.node_words.now a.steps.now (accepted (goal.at.overflow_cast-result c).In_ok-check_lists), c.behind-n.ensures.count)

pub returns : goal.returns
returns c =
    let a = c.args in
    let xs = traced_steps a.plan a.indices.now a.steps.now in
    let b = c.behind-n in
    let area = b.new.slots in
    let h = c.write_lists in
    let r = all_listed a.plan a.indices.now a.node_words.now a.steps.now a.counts.now a.lists.now (list_at area) (set_listed area xs (empties_or slot_sets c.empty-sets.result c.empty-sets.ensures area (λ s i. behind s no_sources xs i) b.ensures.sets))
    (all_by_none a.plan a.indices.now a.node_words.now a.steps.now a.counts.now a.lists.now (accepted (goal.at.returns c).In_ok-check_lists) b.result b.ensures.count c.if-counts-n.false) b.result b.ensures.count
    h.new.counts h.new.lists h.ensures.0 h.ensures.1 in
    record {
      answer = r.0;
      counts = r.1.0;
      lists = r.1.1;
    }
