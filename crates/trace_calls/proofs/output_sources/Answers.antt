-- `trace_calls::output_sources` meets its contract: a law for each way out. Assumes nothing.
use mathlib.Core.Path.{◌≡◌, refl, sym, ap, ◌∙◌}
use native.Mathlib.Omega.{arith}
use lib.ListN.{length}
use Rattle.trace.specs.Sources.{no_sources, behind, source_list}
use Rattle.trace.specs.Calls.{traced_steps, trace_answer, sources_answer, sources_area}
use Rattle.trace_sources.specs.Loops.{slot_sets, set_at, list_at}
use Rattle.trace_sources.proofs.Stored.{empties_or}
use Rattle.trace_calls.proofs.Outcomes.{by_plan, by_15, by_2, by_none, refused, listed, set_listed, tested, step_words, few, checks}
use Rattle.trace_calls.proofs.output_sources.Goals.{In_ok-check_lists, After-behind-n}
use Rattle.trace_calls.proofs.output_sources.Goals as goal
use Rattle.refusal.specs.declared.Refusal.{Refusal}
use Rattle.std.specs.Prelude.{Ok, Err}
use Rattle.std.proofs.lemmas.Result.{err_from_is_err_and}

-- the plan check accepted
accepted : (c : In_ok-check_lists) → checks c.args.plan c.args.indices.now c.args.node_words.now c.args.steps.now ≡ Ok tt
accepted c = sym c.check_lists.ensures ∙ c.in_ok-check_lists.was

-- the slot's set has the members that its list has
found : (c : After-behind-n) → list_at c.behind-n.new.slots c.args.slot ≡ source_list c.args.slot (traced_steps c.args.plan c.args.indices.now c.args.steps.now)
found c =
    let a = c.args in
    let xs = traced_steps a.plan a.indices.now a.steps.now in
    let b = c.behind-n in
    set_listed b.new.slots xs (empties_or slot_sets c.empty-slots.result c.empty-slots.ensures b.new.slots (λ s i. behind s no_sources xs i) b.ensures.sets) a.slot

-- a refusal of the call's own, by the answer of its tests
refusing : (c : In_ok-check_lists) (r q : Refusal) → trace_answer c.args.plan c.args.slot c.args.indices.now c.args.node_words.now c.args.steps.now (length c.args.list.now) ≡ Err r
    → q ≡ r
    → (Err q ≡ sources_answer c.args.plan c.args.slot c.args.indices.now c.args.node_words.now c.args.steps.now (length c.args.list.now))
    × (c.args.list.now ≡ sources_area c.args.plan c.args.slot c.args.indices.now c.args.node_words.now c.args.steps.now c.args.list.now)
refusing c = let a = c.args in refused a.plan a.slot a.indices.now a.node_words.now a.steps.now a.list.now

pub returns-in_err-check_lists : goal.returns-in_err-check_lists
returns-in_err-check_lists c =
    let a = c.args in
    let q = err_from_is_err_and c.from_residual.result c.from_residual.ensures.1 in
    let r = refused a.plan a.slot a.indices.now a.node_words.now a.steps.now a.list.now _ _ (by_plan a.plan a.slot a.indices.now a.node_words.now a.steps.now a.list.now _ (sym c.check_lists.ensures ∙ c.in_err-check_lists.was)) q.2 in
    record {
      answer = q.1 ∙ r.0;
      list = r.1;
    }

pub slice_bounds-behind-end : goal.slice_bounds-behind-end
slice_bounds-behind-end c =
    let a = c.args in step_words a.plan a.indices.now a.node_words.now a.steps.now (accepted (goal.at.slice_bounds-behind-end c).In_ok-check_lists)

pub behind-n-requires : goal.behind-n-requires
behind-n-requires c =
    let a = c.args in (tested a.plan a.indices.now a.node_words.now a.steps.now (accepted (goal.at.behind-n-requires c).In_ok-check_lists), refl)

pub returns-then-n-slot : goal.returns-then-n-slot
returns-then-n-slot c =
    let a = c.args in
    let d = (goal.at.returns-then-n-slot c).In_ok-check_lists in
    let r = refusing d _ _ (by_15 a.plan a.slot a.indices.now a.node_words.now a.steps.now a.list.now (accepted d) (omega (arith, c.if-n-slot.true, c.behind-n.ensures.count))) c.into.ensures in
    record {
      answer = r.0;
      list = r.1;
    }

pub bounds-slots-slot : goal.bounds-slots-slot
bounds-slots-slot c =
    let a = c.args in
    let b = c.behind-n in
    omega (arith, few a.plan a.indices.now a.node_words.now a.steps.now (accepted (goal.at.bounds-slots-slot c).In_ok-check_lists), c.if-n-slot.false, b.ensures.count, b.auto.slots)

pub returns-then-list-count : goal.returns-then-list-count
returns-then-list-count c =
    let a = c.args in
    let d = (goal.at.returns-then-list-count c).In_ok-check_lists in
    let r = refusing d _ _ (by_2 a.plan a.slot a.indices.now a.node_words.now a.steps.now a.list.now (accepted d) (omega (arith, c.if-n-slot.false, c.behind-n.ensures.count))
    (omega (arith, c.if-list-count.true, c.count-count.ensures ∙ ap length (found (goal.at.returns-then-list-count c).After-behind-n)))) c.into-then-list-count.ensures in
    record {
      answer = r.0;
      list = r.1;
    }

pub returns : goal.returns
returns c =
    let a = c.args in
    let count = c.count-count in
    let room = c.if-list-count.false in
    let r = listed a.plan a.slot a.indices.now a.node_words.now a.steps.now a.list.now (set_at c.behind-n.new.slots a.slot) (found (goal.at.returns c).After-behind-n) count.result c.list.new.out
    (by_none a.plan a.slot a.indices.now a.node_words.now a.steps.now a.list.now (accepted (goal.at.returns c).In_ok-check_lists) (omega (arith, c.if-n-slot.false, c.behind-n.ensures.count)) (omega (arith, room, count.ensures ∙ ap length (found (goal.at.returns c).After-behind-n))))
    count.ensures (omega (arith, room, count.ensures)) c.list.ensures in
    record {
      answer = r.0;
      list = r.1;
    }
