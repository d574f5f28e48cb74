-- `mix_send::send_two` meets its contract: by the arm that the match took. Assumes nothing.
use Rattle.mix.proofs.Turns.{two_at_rest, two_ramping}
use Rattle.mix_send.proofs.send_two.Goals as goal

pub returns-in-Rest : goal.returns-in-Rest
returns-in-Rest c =
    let a = c.args in
    let p = c.requires in
    two_at_rest a.block a.g.gain a.first.1 a.then.1 a.first.0 a.then.0 a.d a.area.now c.in-Rest.is p.first.1 p.then.1 a.g.sounds p.first.0.apart p.then.0.apart p.first.0.target c.two_into.ensures

pub returns-in-Moving : goal.returns-in-Moving
returns-in-Moving c =
    let a = c.args in
    let p = c.requires in
    two_ramping a.block a.g.gain a.first.1 a.then.1 a.first.0 a.then.0 a.d a.area.now c.in-Moving.is p.first.1 p.then.1 p.first.0.apart p.then.0.apart p.first.0.target c.two_into-in-Moving.ensures
