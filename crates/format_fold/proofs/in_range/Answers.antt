-- `format_fold::in_range` meets its contract. Assumes nothing.
use mathlib.Core.Path.{◌≡◌, refl, ap, ◌∙◌}
use mathlib.Core.Bool.{not}
use lib.Ieee.{Float, nan, inf, fin}
use Rattle.std.specs.Float.{is_sign_negative}
use Rattle.format_fold.specs.Folds.{negative, gain_in_range}
use Rattle.format_fold.proofs.in_range.Goals as goal

sign_is : (x : Float) → is_sign_negative x ≡ negative x
unfolding is_sign_negative negative
sign_is nan = refl
sign_is (inf s) = refl
sign_is (fin s m e) = refl

pub returns-then-g : goal.returns-then-g
unfolding gain_in_range
returns-then-g c = rw c.if-g.true (ap not (c.is_sign_negative.ensures ∙ sign_is c.args.g))

pub returns-else-g : goal.returns-else-g
unfolding gain_in_range
returns-else-g c = rw c.if-g.false
