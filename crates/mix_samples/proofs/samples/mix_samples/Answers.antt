use mathlib.Core.Path.{◌≡◌, refl}
use Prim.Native.Nat.{◌+◌}
use native.Mathlib.Omega.{arith}
use lib.ListN.{length, length-set}
use borrow.Author.Rules.{rules}
use Rattle.mix.specs.Loops.{by_gain, mixed_into}
use Rattle.mix.specs.Samples.{sampled}
use Rattle.mix.proofs.Mixed.{ramping_before, mixed_turn}
use Rattle.mix_samples.proofs.samples.mix_samples.Goals as goal

pub loop-i-init : goal.loop-i-init
unfolding mixed_into sampled
loop-i-init g c = (search rules, refl, refl)

pub factor-requires : goal.factor-requires
factor-requires g c =
    let a = c.args in
    (search rules, λ e. ramping_before c.later-g.result (a.k + c.loop-i.i + 1) (a.k + length a.x.now) (omega arith) (rw c.on_ramp-whole.ensures at e))

pub loop-i-preserved : goal.loop-i-preserved
loop-i-preserved g c =
    let a = c.args in
    let l = c.loop-i in
    let m = g.M.Mixing in (
      search rules,
      simp length-set l.invariant.1,
      rw (c.mix.ensures, c.factor.ensures, c.later-g.ensures (a.k + l.i) (omega arith), c.gain.ensures)
          (mixed_turn (by_gain (m.mixed a.m) (m.gain a.m)) a.k a.x.now a.y.now l.i l.invariant.2),
    )

pub returns : goal.returns
returns g c =
    let e : c.loop-i.i ≡ length c.args.x.now = omega arith in record {
      mixed = rw e at c.loop-i.invariant.2;
    }
