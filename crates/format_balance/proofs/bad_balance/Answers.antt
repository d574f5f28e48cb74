-- `format_balance::bad_balance` meets its contract: the library's test of a finite float is the definition's. Assumes nothing.
use mathlib.Core.Path.{◌≡◌, refl, ap, ◌∙◌}
use mathlib.Core.Bool.{not}
use lib.Ieee.{Float, nan, inf, fin}
use Rattle.std.specs.Float.{float_is_finite}
use Rattle.format_balance.specs.Balance.{finite}
use Rattle.format_balance.proofs.bad_balance.Goals as goal

same : (x : Float) → float_is_finite x ≡ finite x
unfolding float_is_finite finite
same nan = refl
same (inf s) = refl
same (fin s m e) = refl

pub returns : goal.returns
returns c = ap not (c.is_finite.ensures.value ∙ same c.args.b)
