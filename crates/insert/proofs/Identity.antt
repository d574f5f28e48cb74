-- The identity fold of an insert is the Rust's: `width_matrix` of a format into itself has its entries, for any gains and either flag. Assumes nothing.
use mathlib.Core.Path.{◌≡◌, refl}
use mathlib.Core.Bool.{Bool, true, false}
use Prim.Native.Nat.{ℕ, zero, suc}
use native.Mathlib.Omega.{arith}
use lib.Ieee.{round, add, mul, div, neg, lt, of_bits, is_nan, to_bits}
use borrow.Author.Tests.{leb-false}
use Rattle.rounding.specs.Narrow.{pattern, narrowed_bits, narrowed}
use Rattle.format.specs.Formats.{unknown_format, labels, channels, index_of, has}
use Rattle.format_fold.specs.declared.FoldGains.{FoldGains}
use Rattle.format_fold.specs.Folds.{folds_to, folded, matrix_of}
use Rattle.format_fold.specs.Width.{absolute, larger, normalised, entries_of}
use Rattle.insert.specs.Wiring.{identity}

-- seven computations, twice: the gains stay variables, since a format has each of its own labels
pub identity_fold : (f : ℕ) → unknown_format f ≡ false → (g : FoldGains) (normalise : Bool) → entries_of f f g normalise ≡ identity (channels f)
unfolding entries_of matrix_of normalised absolute larger folded folds_to has index_of channels labels narrowed narrowed_bits pattern is_nan to_bits round add mul div neg lt of_bits
identity_fold zero e g true = refl
identity_fold zero e g false = refl
identity_fold (suc zero) e g true = refl
identity_fold (suc zero) e g false = refl
identity_fold (suc (suc zero)) e g true = refl
identity_fold (suc (suc zero)) e g false = refl
identity_fold (suc (suc (suc zero))) e g true = refl
identity_fold (suc (suc (suc zero))) e g false = refl
identity_fold (suc (suc (suc (suc zero)))) e g true = refl
identity_fold (suc (suc (suc (suc zero)))) e g false = refl
identity_fold (suc (suc (suc (suc (suc zero))))) e g true = refl
identity_fold (suc (suc (suc (suc (suc zero))))) e g false = refl
identity_fold (suc (suc (suc (suc (suc (suc zero)))))) e g true = refl
identity_fold (suc (suc (suc (suc (suc (suc zero)))))) e g false = refl
identity_fold (suc (suc (suc (suc (suc (suc (suc f))))))) e g b = absurd (omega (arith, leb-false 7 (suc (suc (suc (suc (suc (suc (suc f))))))) e))
