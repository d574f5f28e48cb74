-- `trace_sources::walk::behind` meets its contract: the area of the buffers holds no input at the start. Assumes nothing.
use mathlib.Core.Path.{ap, ◌∙◌}
use mathlib.Core.Bool.{Bool, ◌||◌}
use mathlib.Core.List.{[], map}
use Prim.Native.Nat.{ℕ}
use Rattle.plan.specs.Limits.{unit_limits}
use Rattle.plan.specs.Words.{decoded}
use Rattle.plan.specs.Resolved.{resolved}
use Rattle.trace.specs.Sources.{behind}
use Rattle.trace_sources.specs.Loops.{sources_of}
use Rattle.trace_sources.proofs.Stored.{empties}
use Rattle.trace_sources.proofs.walk.behind.Goals as goal

pub returns : goal.returns
returns c =
    let a = c.args in
    let w = c.walk.ensures in record {
      count = w.count;
      sets = λ s i. w.sets s i ∙ ap (λ (f : ℕ → ℕ → Bool). sources_of a.slots.now s i || behind s f (map (resolved a.plan a.indices.now []) (decoded a.steps.now a.plan.steps)) i) (empties unit_limits.buffers c.empty-area.result c.empty-area.ensures);
    }
