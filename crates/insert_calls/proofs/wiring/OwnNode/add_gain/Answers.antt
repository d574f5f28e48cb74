-- `insert_calls::wiring::OwnNode::add_gain` meets its contract: its three calls, one after the other. Assumes nothing.
use mathlib.Core.Path.{ap, ◌∙◌}
use mathlib.Core.List.{List, [], ◌∷◌}
use Prim.Native.Nat.{ℕ}
use lib.Ieee.{Float}
use Rattle.plan.specs.Limits.{unit_limits}
use Rattle.plan.specs.Words.{gain_map}
use Rattle.builder.specs.Built.{buffers, node, step, BuilderState, after}
use Rattle.builder_calls.specs.Lent.{state_of}
use Rattle.insert.specs.Wiring.{insert_safe}
use Rattle.insert_calls.proofs.Parts.{take_alike}
use Rattle.insert_calls.proofs.wiring.OwnNode.add_gain.Goals as goal

pub returns-clause-state : goal.returns-clause-state
returns-clause-state c =
    let own = c.args.self in
    let rec : List ℕ = gain_map ∷ own.number ∷ own.src.start ∷ own.src.len ∷ own.dst.start ∷ own.dst.len ∷ [] in
    let start : BuilderState = state_of c.args.areas.now in
    c.step.ensures.state
    ∙ ap (λ (t : BuilderState). after unit_limits t (step rec)) c.buffers.ensures.state
    ∙ ap (λ (t : BuilderState). after unit_limits (after unit_limits t (buffers own.dst.len)) (step rec)) c.node.ensures.state
    ∙ ap (λ (xs : List Float). after unit_limits (after unit_limits (after unit_limits start (node own.id xs own.ramp insert_safe)) (buffers own.dst.len)) (step rec))
    (take_alike c.args.gain own.dst.len 12 c.requires)
