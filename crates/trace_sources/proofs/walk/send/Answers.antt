-- `trace_sources::walk::send` meets its contract. Assumes nothing.
use mathlib.Core.Path.{ap, ◌∙◌}
use mathlib.Core.Bool.{Bool, ◌||◌}
use Rattle.lists.specs.Entries.{some_from}
use Rattle.plan.specs.Limits.{unit_limits}
use Rattle.plan.specs.Check.{named}
use Rattle.plan.proofs.Spans.{names_low}
use Rattle.trace.specs.Sources.{union}
use Rattle.trace_sources.specs.Loops.{sources_of, joined}
use Rattle.trace_sources.proofs.Stored.{changed_as}
use Rattle.trace_sources.proofs.walk.send.Goals as goal

pub add-requires : goal.add-requires
add-requires c =
    (ap (some_from unit_limits.buffers) c.numbers.ensures ∙ names_low c.args.plan c.args.indices.now c.args.dst c.requires.targets c.requires.room.buffers, c.requires.room.sets)

pub returns : goal.returns
returns c =
    let a = c.args in
    let e = c.behind_span-more in
    c.add.ensures
    ∙ changed_as (joined e.result) (λ i own. own || union (sources_of a.area.now) (named a.indices.now a.src) i) (sources_of a.area.now)
    (λ i x. ap (λ (y : Bool). x || y) (e.ensures i)) c.numbers.ensures
