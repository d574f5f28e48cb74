-- `width_matrix`: the folded matrix, normalised where asked, rounded to f32; its tests; and the area that it writes. Definitions only.
use Rattle.std.specs.Prelude.{ℕ, zero, suc, ◌*◌, Bool, not, ◌&&◌, cond, List, [], ◌∷◌, ◌++◌, map, ltb, length, take, drop, Float, Ok}
use Rattle.std.specs.Float.{binary64}
use Rattle.std.specs.Float.Ieee.{add, div, neg, lt}
use Rattle.refusal.specs.Tests.{Test, test, first, area_after, Answer}
use Rattle.rounding.specs.Narrow.{narrowed}
use Rattle.format.specs.Formats.{unknown_format, channels}
use Rattle.format.specs.Floats.{zero64, one64}
use Rattle.format_fold.specs.Folds.{gains_in_range, matrix_of}
use Rattle.format_fold.specs.declared.FoldGains.{FoldGains}
use Rattle.refusal.specs.declared.Reason.TheVariants.{NoFormat, OutOfRange, ShortArea}

-- ---- normalising

-- |x|. Of -0 it is -0, where the Rust's `abs` has +0: added to a sum that started at +0 the two are the same.
unfoldable pub absolute : Float → Float
absolute x = cond (lt x zero64) (neg x) x

-- a, and the magnitudes of a row added to it from left to right
abbrev pub row_sum : Float → List Float → Float
row_sum a [] = a
row_sum a (x ∷ xs) = row_sum (add binary64 a (absolute x)) xs

unfoldable pub larger : Float → Float → Float
larger a b = cond (lt a b) b a

-- the largest of a and the sums of n rows of k
abbrev pub largest : Float → ℕ → ℕ → List Float → Float
largest a k zero xs = a
largest a k (suc n) xs = largest (larger a (row_sum zero64 (take k xs))) k n (drop k xs)

abbrev pub divided : Float → List Float → List Float
divided by m = map (λ (x : Float). div binary64 x by) m

-- A mapping from more than two channels into fewer is divided, where asked, by its largest row sum, if that is above 1.
unfoldable pub normalised : Bool → ℕ → ℕ → List Float → List Float
unfolding absolute larger
normalised normalise rows columns m =
    cond (normalise && (ltb 2 columns && (ltb rows columns && lt one64 (largest zero64 columns rows m))))
    (divided (largest zero64 columns rows m) m)
    m

-- ---- the entries, row after row, as f32

unfoldable pub entries_of : ℕ → ℕ → FoldGains → Bool → List Float
unfolding channels matrix_of normalised narrowed
entries_of src dst g normalise =
    map narrowed (take (channels dst * channels src) (normalised normalise (channels dst) (channels src) (matrix_of src dst g)))

-- ---- the tests: 16, 17, 2, with an area of n floats

abbrev pub width_tests : ℕ → ℕ → FoldGains → ℕ → List Test
width_tests src dst g n =
    test NoFormat (unknown_format src)
    ∷ test NoFormat (unknown_format dst)
    ∷ test OutOfRange (not (gains_in_range g))
    ∷ test ShortArea (ltb n (channels dst * channels src))
    ∷ []

unfoldable pub width_answer : ℕ → ℕ → FoldGains → ℕ → Answer
unfolding gains_in_range channels
width_answer src dst g n = first (width_tests src dst g n) (Ok tt)

-- the area after the call: the entries, and the rest as it was
unfoldable pub width_area : ℕ → ℕ → FoldGains → Bool → List Float → List Float
unfolding width_answer channels entries_of
width_area src dst g normalise area =
    area_after (width_answer src dst g (length area)) (entries_of src dst g normalise ++ drop (channels dst * channels src) area) area
