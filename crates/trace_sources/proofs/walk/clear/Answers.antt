-- `trace_sources::walk::clear` meets its contract. Assumes nothing.
use mathlib.Core.Path.{ap, ◌∙◌}
use mathlib.Core.Bool.{false}
use Rattle.lists.specs.Entries.{some_from}
use Rattle.plan.specs.Limits.{unit_limits}
use Rattle.plan.proofs.Spans.{names_low}
use Rattle.trace_sources.specs.Loops.{sources_of, other}
use Rattle.trace_sources.proofs.Stored.{changed_as}
use Rattle.trace_sources.proofs.walk.clear.Goals as goal

pub give-requires : goal.give-requires
give-requires c =
    (ap (some_from unit_limits.buffers) c.numbers.ensures ∙ names_low c.args.plan c.args.indices.now c.args.dst c.requires.0 c.requires.1.buffers, c.requires.1.sets)

pub returns : goal.returns
returns c =
    let e = c.empty in
    c.give.ensures
    ∙ changed_as (other e.result) (λ i own. false) (sources_of c.args.area.now) (λ i x. e.ensures i) c.numbers.ensures
