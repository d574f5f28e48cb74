use mathlib.Core.Path.{refl}
use Prim.Native.Nat.{ℕ}
use native.Mathlib.Omega.{arith}
use lib.ListN.{length-set}
use Rattle.mix.specs.Samples.{silence, sampled}
use Rattle.mix.proofs.Stored.{turn, all_turns}
use Rattle.mix_samples.proofs.samples.fill.Goals as goal

pub loop-sample-init : goal.loop-sample-init
unfolding sampled
loop-sample-init c = (refl, refl)

pub loop-sample-preserved : goal.loop-sample-preserved
loop-sample-preserved c =
    let l = c.loop-sample in
    (simp length-set l.invariant.0, turn (λ (j : ℕ). silence) l.sample-index c.args.y.now l.invariant.1 refl)

pub returns : goal.returns
returns c =
    let l = c.loop-sample in
    all_turns (λ (j : ℕ). silence) l.sample-index c.args.y.now l.invariant.1 (omega arith)
