-- `trace_sources::walk::join` meets its contract. Assumes nothing.
use mathlib.Core.Path.{sym, ap, ◌∙◌}
use mathlib.Core.Bool.{Bool, ◌||◌, or-false}
use Prim.Native.Nat.{◌<◌}
use native.Mathlib.Omega.{arith}
use lib.ListN.{length}
use Rattle.trace_sources.specs.Loops.{sources_of}
use Rattle.trace_sources.proofs.Stored.{joined_stored}
use Rattle.trace_sources.proofs.Walking.{joins_none, joins_stored, fit_as}
use Rattle.trace_sources.proofs.walk.join.Goals as goal

pub returns-in_default : goal.returns-in_default
returns-in_default c s i =
    let a = c.args in
    let own = sources_of a.slots.now s i in
    sym (ap (λ (b : Bool). own || b) (joins_none a.plan a.indices.now s (sources_of a.area.now) a.step c.in_default.not-Output i) ∙ or-false own)

pub returns : goal.returns
returns c s i =
    let a = c.args in
    let more = c.behind_span in
    let slot = c.in-Output.slot in
    let room : slot < length a.slots.now = omega (arith, (fit_as c.in-Output.is c.requires.0).inside.1, c.requires.1) in
    joined_stored a.slots.now slot more.result c.union.result room c.union.ensures s i
    ∙ joins_stored a.plan a.indices.now s (sources_of a.area.now) c.in-Output.src slot c.in-Output.is more.result more.ensures i (sources_of a.slots.now s i)
