use mathlib.Core.Path.{refl}
use native.Mathlib.Omega.{arith}
use lib.ListN.{get_or, length-set}
use lib.Ieee.{nan}
use Rattle.mix.specs.Samples.{sampled}
use Rattle.mix.proofs.Stored.{turn, all_turns}
use Rattle.mix_samples.proofs.samples.copy.Goals as goal

pub loop-i-init : goal.loop-i-init
unfolding sampled
loop-i-init c = (refl, refl)

pub loop-i-preserved : goal.loop-i-preserved
loop-i-preserved c =
    let a = c.args in
    let l = c.loop-i in
    (simp length-set l.invariant.0, turn (λ j. get_or a.x.now j nan) l.i a.y.now l.invariant.1 refl)

pub returns : goal.returns
returns c =
    let a = c.args in
    let l = c.loop-i in
    all_turns (λ j. get_or a.x.now j nan) l.i a.y.now l.invariant.1 (omega arith)
