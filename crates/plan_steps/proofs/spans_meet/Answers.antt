-- `plan_steps::spans_meet` meets its contract: in a list that ascends, spans apart name no buffer both; else the entries of dst are
-- buffers, and so below 256. Assumes nothing.
use mathlib.Core.Path.{sym, ap, ◌∙◌}
use Rattle.lists.specs.Entries.{some_from}
use Rattle.std.proofs.lemmas.Bool.{and_parts}
use Rattle.sets.specs.Sets.{set_size}
use Rattle.plan.proofs.Spans.{names, names_low, apart_none}
use Rattle.plan_steps.proofs.spans_meet.Goals as goal

pub returns-then-indices-spans_apart : goal.returns-then-indices-spans_apart
returns-then-indices-spans_apart c =
    let a = c.args in
    let i = a.indices in
    let t = and_parts _ _ c.if-indices-spans_apart.true in
    sym (apart_none i.list.now i.plan.indices (i.ascends t.0) a.src a.dst c.requires.0 c.requires.1 (sym c.spans_apart.ensures ∙ t.1))

pub lists_meet-requires : goal.lists_meet-requires
lists_meet-requires c =
    let a = c.args in
    let i = a.indices in
    ap (some_from set_size) c.numbers-2.ensures ∙ names_low i.plan i.list.now a.dst (names i.plan i.list.now i.tested a.dst c.requires.1) i.tested.few

pub returns : goal.returns
returns c = rw (c.lists_meet.ensures, c.numbers-2.ensures, c.numbers.ensures)
