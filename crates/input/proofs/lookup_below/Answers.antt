use mathlib.Core.Path.{◌≡◌, refl, sym, ◌∙◌}
use Prim.Native.Nat.{ℕ, suc, ◌-◌, ◌<◌}
use native.Mathlib.Omega.{arith}
use Rattle.input.proofs.Input.{looked_yes, looked_no, looked_none}
use Rattle.input.proofs.lookup_below.Goals as goal

counted_down : {n : ℕ} → 0 < n → n ≡ suc (n - 1)
counted_down h = omega (arith, h)

pub loop-left-init : goal.loop-left-init
loop-left-init c = (omega arith, refl)

pub returns-then-entry_for : goal.returns-then-entry_for
returns-then-entry_for c =
    c.entry_part.ensures
    ∙ sym (c.loop-left.invariant.1 ∙ looked_yes _ _ _ _ (counted_down c.loop-left-test.true) (sym c.entry_for.ensures ∙ c.if-entry_for.true))

pub loop-left-preserved : goal.loop-left-preserved
loop-left-preserved c =
    (omega arith, c.loop-left.invariant.1 ∙ looked_no _ _ _ _ (counted_down c.loop-left-test.true) (sym c.entry_for.ensures ∙ c.if-entry_for.false))

pub returns : goal.returns
returns c = sym (c.loop-left.invariant.1 ∙ looked_none _ _ _ _ (omega arith))
