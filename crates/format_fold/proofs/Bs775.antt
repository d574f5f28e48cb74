-- The four folds that document 01 names are, entry by entry, those of the tables of specs/Bs775.antt, and each entry is within 1/10,000 of the
-- coefficient of ITU-R BS.775, by computation alone. Assumes nothing.
use mathlib.Core.Path.{◌≡◌, refl}
use mathlib.Core.Bool.{false}
use mathlib.Core.List.{List, map}
use Prim.Native.Nat.{ℕ}
use lib.Dec.{T}
use lib.Ieee.{round, add, mul, div, neg, lt, of_bits, is_nan, to_bits}
use Rattle.lists.proofs.Tables.{every}
use Rattle.rounding.specs.Narrow.{pattern, narrowed_bits, narrowed}
use Rattle.format.specs.Formats.{labels, channels, index_of, has}
use Rattle.format_fold.specs.Folds.{folds_to, folded, matrix_of}
use Rattle.format_fold.specs.Width.{absolute, larger, normalised, entries_of}
use Rattle.format_fold.specs.Bs775.{standard_gains, Beside, surround_to_lcr, surround_to_stereo, surround_to_mono, lcr_to_stereo, within}

-- the fold from one format to another is the table's column of ours, and each row of the table is within 1/10,000
pub record Agrees (src dst : ℕ) (table : List Beside) : Type 0 where
  pub entries : entries_of src dst standard_gains false ≡ map (λ (b : Beside). b.ours) table
  pub near : T (every within table)

pub surround_to_lcr_lem : Agrees 3 2 surround_to_lcr
unfolding entries_of matrix_of normalised absolute larger folded folds_to has index_of channels labels narrowed narrowed_bits pattern is_nan to_bits round add mul div neg lt of_bits
surround_to_lcr_lem = record { entries = refl; near = tt }

pub surround_to_stereo_lem : Agrees 3 1 surround_to_stereo
unfolding entries_of matrix_of normalised absolute larger folded folds_to has index_of channels labels narrowed narrowed_bits pattern is_nan to_bits round add mul div neg lt of_bits
surround_to_stereo_lem = record { entries = refl; near = tt }

pub surround_to_mono_lem : Agrees 3 0 surround_to_mono
unfolding entries_of matrix_of normalised absolute larger folded folds_to has index_of channels labels narrowed narrowed_bits pattern is_nan to_bits round add mul div neg lt of_bits
surround_to_mono_lem = record { entries = refl; near = tt }

pub lcr_to_stereo_lem : Agrees 2 1 lcr_to_stereo
unfolding entries_of matrix_of normalised absolute larger folded folds_to has index_of channels labels narrowed narrowed_bits pattern is_nan to_bits round add mul div neg lt of_bits
lcr_to_stereo_lem = record { entries = refl; near = tt }
