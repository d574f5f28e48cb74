-- A float that does not equal itself. Assumes nothing.
use mathlib.Core.Path.{◌≡◌, subst, sym}
use mathlib.Core.Bool.{true}
use lib.Dec.{T}
use lib.Ieee.{Float, nan, ne}
use lib.Ieee.Compare.{differs_from_itself}

-- is a NaN
pub is_nan_lem : (x : Float) → ne x x ≡ true → x ≡ nan
is_nan_lem x h = differs_from_itself x (subst T (sym h) tt)
