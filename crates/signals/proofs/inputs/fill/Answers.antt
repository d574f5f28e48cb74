use Prim.Native.Nat.{ℕ, ◌+◌}
use mathlib.Core.Path.{◌≡◌, refl, ap, ◌∙◌}
use native.Mathlib.Numerals.{add-one}
use native.Mathlib.Omega.{arith}
use mathlib.Core.List.{List}
use lib.Ieee.{Float}
use lib.ListN.{set}
use Rattle.signals.specs.Signals.{filled}
use borrow.Author.Rules.{rules}
use Rattle.signals.proofs.inputs.fill.Goals as goal

pub loop-k-init : goal.loop-k-init
unfolding filled
loop-k-init c = (search rules, refl)

pub loop-k-preserved : goal.loop-k-preserved
unfolding filled
loop-k-preserved c =
    let a = c.args in
    (omega arith, rw (add-one c.loop-k.k) (ap (λ (l : List Float). set l (a.at + c.loop-k.k) c.signal.result) c.loop-k.invariant.1 ∙ ap (set (filled a.pitch a.from a.at c.loop-k.k a.samples.now) (a.at + c.loop-k.k)) c.signal.ensures))

pub returns : goal.returns
returns c =
    let a = c.args in
    let e : c.loop-k.k ≡ 256 = omega arith in
    c.loop-k.invariant.1 ∙ ap (λ (n : ℕ). filled a.pitch a.from a.at n a.samples.now) e
