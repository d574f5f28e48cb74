use Prim.Native.Nat.{ℕ, ◌*◌}
use mathlib.Core.Path.{◌≡◌, refl, ap, ◌∙◌}
use native.Mathlib.Numerals.{add-one}
use native.Mathlib.Omega.{arith}
use lib.ListN.{get_or}
use Rattle.signals.specs.Signals.{pitches, filled, played}
use borrow.Author.Rules.{rules}
use Rattle.signals.proofs.inputs.play.Goals as goal

pub loop-c-init : goal.loop-c-init
unfolding played
loop-c-init c = (search rules, refl)

pub loop-c-preserved : goal.loop-c-preserved
unfolding played
loop-c-preserved c =
    let a = c.args in
    (omega arith, rw (add-one c.loop-c.c) (c.fill.ensures ∙ ap (filled (get_or pitches c.loop-c.c 0) a.from (c.loop-c.c * 256) 256) c.loop-c.invariant.1))

pub returns : goal.returns
returns c =
    let a = c.args in
    let e : c.loop-c.c ≡ 16 = omega arith in
    c.loop-c.invariant.1 ∙ ap (λ (n : ℕ). played 256 a.from n a.samples.now) e
