-- `insert_calls::wiring::Wiring::add_switch` meets its contract: the dry gain and the wet gain. Assumes nothing.
use mathlib.Core.Path.{ap, ◌∙◌}
use Rattle.builder.specs.Built.{BuilderState}
use Rattle.builder_calls.specs.Lent.{state_of}
use Rattle.insert_calls.specs.Loops.{wired}
use Rattle.insert_calls.specs.Own.{own_gain}
use Rattle.insert_calls.proofs.Parts.{wired_then}
use Rattle.insert_calls.proofs.Wired.{wet_at_bypass, switch_calls_lem}
use Rattle.insert_calls.proofs.wiring.Wiring.add_switch.Goals as goal

pub returns-clause-state : goal.returns-clause-state
returns-clause-state c =
    let w = c.args.self in
    let i = w.insert in
    let start : BuilderState = state_of c.args.areas.now in
    wired_then start (own_gain c.node.result c.path_gain.result) (own_gain c.node-2.result c.path_gain-2.result)
    c.add_gain.ensures.state c.add_gain-2.ensures.state
    ∙ ap (wired start)
    (switch_calls_lem w.before i c.path_gain.ensures (c.path_gain-2.ensures ∙ wet_at_bypass i.back.bypass)
    c.fresh-ret.ensures c.fresh-dry.ensures c.fresh-wet.ensures c.node.ensures c.node-2.ensures)
