-- `insert_calls::wiring::Wiring::add_return` meets its contract: its four parts, one after the other. Assumes nothing.
use mathlib.Core.List.{◌++◌}
use Rattle.builder.specs.Built.{BuilderState}
use Rattle.builder_calls.specs.Lent.{state_of}
use Rattle.insert.specs.Wiring.{patched_calls, switch_calls, out_calls, sum_calls}
use Rattle.insert_calls.proofs.Parts.{wired_then}
use Rattle.insert_calls.proofs.wiring.Wiring.add_return.Goals as goal

pub returns-clause-state : goal.returns-clause-state
returns-clause-state c =
    let p = c.args.self.before in
    let i = c.args.self.insert in
    let start : BuilderState = state_of c.args.areas.now in
    wired_then start (patched_calls p i ++ switch_calls p i ++ out_calls p i) (sum_calls p i)
    (wired_then start (patched_calls p i ++ switch_calls p i) (out_calls p i)
    (wired_then start (patched_calls p i) (switch_calls p i) c.add_patched.ensures.state c.add_switch.ensures.state)
    c.add_out.ensures.state)
    c.add_sum.ensures.state
