-- `insert_calls::wiring::Wiring::add_patched` meets its contract: fresh buffers, their Patches, and the return gain. Assumes nothing.
use mathlib.Core.Path.{ap, ◌∙◌}
use mathlib.Core.List.{List, [], ◌∷◌}
use Prim.Native.Nat.{◌+◌, ◌-◌}
use Rattle.builder.specs.Built.{BuilderCall, buffers, BuilderState}
use Rattle.builder_calls.specs.Lent.{state_of}
use Rattle.insert.specs.Wiring.{patches}
use Rattle.insert_calls.specs.Loops.{wired}
use Rattle.insert_calls.specs.Own.{own_gain}
use Rattle.insert_calls.proofs.Parts.{wired_then}
use Rattle.insert_calls.proofs.Wired.{patched_calls_lem}
use Rattle.insert_calls.proofs.wiring.Wiring.add_patched.Goals as goal

pub returns-clause-state : goal.returns-clause-state
returns-clause-state c =
    let w = c.args.self in
    let p = w.before in
    let back = w.insert.back in
    let n = c.channels-n.result in
    let start : BuilderState = state_of c.args.areas.now in
    let channels : List BuilderCall = patches (back.input - 1) (back.channel - 1) (p.buffers + n) n in
    wired_then start (buffers n ∷ channels) (own_gain c.node.result back.gain)
    (wired_then start (buffers n ∷ []) channels c.buffers.ensures.state c.add_patches.ensures.state)
    c.add_gain.ensures.state
    ∙ ap (wired start) (patched_calls_lem p w.insert c.channels-n.ensures c.fresh-raw.ensures c.fresh-ret.ensures c.node.ensures)
