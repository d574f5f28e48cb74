-- `insert_calls::wiring::add_sent` meets its contract: the send gain and the Output. Assumes nothing.
use mathlib.Core.Path.{ap, ◌∙◌}
use mathlib.Core.List.{List, [], ◌∷◌}
use Prim.Native.Nat.{ℕ}
use Rattle.plan.specs.Words.{output_map, span}
use Rattle.builder.specs.Built.{step, BuilderState}
use Rattle.builder_calls.specs.Lent.{state_of}
use Rattle.insert.specs.Wiring.{gain_calls}
use Rattle.insert_calls.specs.Loops.{wired}
use Rattle.insert_calls.proofs.Parts.{wired_then}
use Rattle.insert_calls.proofs.Wired.{sent_calls_lem}
use Rattle.insert_calls.proofs.wiring.add_sent.Goals as goal

pub returns-clause-state : goal.returns-clause-state
returns-clause-state c =
    let i = c.args.insert in
    let start : BuilderState = state_of c.args.areas.now in
    let p = start.plan in
    let n = c.channels.result in
    let rec : List ℕ = output_map ∷ p.indices ∷ n ∷ i.slot ∷ [] in
    wired_then start (gain_calls i.ids.send i.gain i.ramp p.nodes i.src (span p.indices n)) (step rec ∷ []) c.add_gain.ensures.state c.step.ensures.state
    ∙ ap (wired start) (sent_calls_lem p i c.channels.ensures)
