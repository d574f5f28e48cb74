use mathlib.Core.Path.{refl}
use Prim.Native.Nat.{◌+◌}
use native.Mathlib.Omega.{arith}
use borrow.Author.Rules.{rules}
use Rattle.mix.proofs.Mixed.{ramping_before}
use Rattle.mix.specs.Loops.{by_gain}
use Rattle.mix.proofs.Pieces.{none_done, one_done, all_done}
use Rattle.mix_pairs.proofs.two_last.Goals as goal

pub loop-i-init : goal.loop-i-init
loop-i-init g c = let a = c.args in (search rules, none_done (by_gain (g.M.Mixing.mixed a.first.1) (g.M.Mixing.gain a.first.1)) (by_gain (g.N.Mixing.mixed a.then.1) (g.N.Mixing.gain a.then.1)) (a.first.0 + a.k) (a.then.0 + a.k) (a.to + a.k) a.k a.area.now)

pub factor-v-requires : goal.factor-v-requires
factor-v-requires g c =
    let a = c.args in
    (search rules, λ e. ramping_before c.later-g.result (a.k + c.loop-i.i + 1) (a.k + a.m) (omega arith) (rw c.on_ramp-before.ensures at e))

pub factor-w-requires : goal.factor-w-requires
factor-w-requires g c =
    let a = c.args in
    (search rules, λ e. ramping_before c.later-h.result (a.k + c.loop-i.i + 1) (a.k + a.m) (omega arith) (rw c.on_ramp-after.ensures at e))

pub loop-i-preserved : goal.loop-i-preserved
loop-i-preserved g c =
    let a = c.args in
    let p = c.requires in
    let l = c.loop-i in (
      search rules,
      one_done (by_gain (g.M.Mixing.mixed a.first.1) (g.M.Mixing.gain a.first.1)) (by_gain (g.N.Mixing.mixed a.then.1) (g.N.Mixing.gain a.then.1)) (a.first.0 + a.k) (a.then.0 + a.k) (a.to + a.k) a.k a.area.now a.m l.i p.first.1 p.then.1 c.loop-i-test.true l.invariant.1
          (rw (c.mix.ensures, c.mix-y.ensures, c.factor-v.ensures, c.factor-w.ensures, c.later-g.ensures (a.k + l.i) (omega arith), c.later-h.ensures (a.k + l.i) (omega arith), c.gain.ensures, c.gain-2.ensures) refl),
    )

pub returns : goal.returns
returns g c =
    let a = c.args in
    let l = c.loop-i in
    all_done (by_gain (g.M.Mixing.mixed a.first.1) (g.M.Mixing.gain a.first.1)) (by_gain (g.N.Mixing.mixed a.then.1) (g.N.Mixing.gain a.then.1)) (a.first.0 + a.k) (a.then.0 + a.k) (a.to + a.k) a.k a.area.now a.m l.i (omega arith) l.invariant.1
