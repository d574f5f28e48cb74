-- `trace_sources::walk::behind_span` meets its contract. Assumes nothing.
use mathlib.Core.Path.{ap, ◌∙◌}
use Rattle.lists.specs.Entries.{some_from}
use Rattle.plan.specs.Limits.{unit_limits}
use Rattle.plan.proofs.Spans.{names_low}
use Rattle.trace_sources.proofs.walk.behind_span.Goals as goal

pub union_of-requires : goal.union_of-requires
union_of-requires c =
    (ap (some_from unit_limits.buffers) c.numbers.ensures ∙ names_low c.args.plan c.args.indices.now c.args.src c.requires.0 c.requires.1.buffers, c.requires.1.sets)
