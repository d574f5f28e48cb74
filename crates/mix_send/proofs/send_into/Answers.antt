-- `mix_send::send_into` meets its contract: by the arm that the match took; the check finds the rest. Assumes nothing.
use Rattle.mix.proofs.Turns.{sent_at_rest, sent_ramping}
use Rattle.mix_send.proofs.send_into.Goals as goal

pub returns-in-Rest : goal.returns-in-Rest
returns-in-Rest c =
    let a = c.args in
    sent_at_rest a.block a.g.gain a.source.1 a.source.0 a.d a.area.now c.in-Rest.is c.if-w.false a.g.sounds c.mix_into.ensures

pub returns-in-Moving : goal.returns-in-Moving
returns-in-Moving c =
    let a = c.args in
    sent_ramping a.block a.g.gain a.source.1 a.source.0 a.d a.area.now c.in-Moving.is c.if-w.false c.mix_into-in-Moving.ensures
