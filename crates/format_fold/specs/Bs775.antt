-- The four folds of document 01 beside the coefficients of ITU-R BS.775. Definitions only.
use Rattle.std.specs.Prelude.{ℕ, ◌+◌, ◌*◌, Bool, true, false, ◌&&◌, List, [], ◌∷◌, leb, Float}
use Rattle.std.specs.Float.{nan, inf, fin, binary32, binary64}
use Rattle.std.specs.Float.Ieee.{up, down, of_bits}
use Rattle.format_fold.specs.Folds.{half_power}
use Rattle.format_fold.specs.declared.FoldGains.{FoldGains}

-- all gains 1/√2, LFE 0
abbrev pub standard_gains : FoldGains
standard_gains =
    record { pan_left = half_power; pan_right = half_power; mono_sum = half_power; centre = half_power; surround = half_power; lfe = of_bits binary64 0 }

-- an entry of ours, and the standard's coefficient in ten thousandths
pub record Beside : Type 0 where
  pub ours : Float
  pub standard : ℕ

abbrev beside : Float → ℕ → Beside
beside x c = record { ours = x; standard = c }

-- our f32 1, 0, 1/√2 (0.70710677) and 1/2, beside 1, 0, 0.7071 and 0.5
abbrev pub one : Beside
one = beside (of_bits binary32 0x3f80_0000) 10000

abbrev pub none : Beside
none = beside (of_bits binary32 0) 0

abbrev pub root : Beside
root = beside (of_bits binary32 0x3f35_04f3) 7071

abbrev pub half : Beside
half = beside (of_bits binary32 0x3f00_0000) 5000

-- 5.1 to 3.0: the rows L, R, C, from the columns L, R, C, LFE, Ls, Rs
abbrev pub surround_to_lcr : List Beside
surround_to_lcr =
    one ∷ none ∷ none ∷ none ∷ root ∷ none
    ∷ none ∷ one ∷ none ∷ none ∷ none ∷ root
    ∷ none ∷ none ∷ one ∷ none ∷ none ∷ none
    ∷ []

-- 5.1 to stereo: the rows L, R
abbrev pub surround_to_stereo : List Beside
surround_to_stereo =
    one ∷ none ∷ root ∷ none ∷ root ∷ none
    ∷ none ∷ one ∷ root ∷ none ∷ none ∷ root
    ∷ []

-- 5.1 to mono
abbrev pub surround_to_mono : List Beside
surround_to_mono = root ∷ root ∷ one ∷ none ∷ half ∷ half ∷ []

-- 3.0 to stereo: the rows L, R, from the columns L, R, C, by the stereo equations with silent surrounds
abbrev pub lcr_to_stereo : List Beside
lcr_to_stereo =
    one ∷ none ∷ root
    ∷ none ∷ one ∷ root
    ∷ []

-- ours is within 1/10,000 of the standard's
abbrev pub near : Float → ℕ → Bool
near nan c = false
near (inf s) c = false
near (fin true m e) c = false
near (fin false m e) c = leb (10000 * (m * up e)) (c * down e + down e) && leb (c * down e) (10000 * (m * up e) + down e)

abbrev pub within : Beside → Bool
within b = near b.ours b.standard
