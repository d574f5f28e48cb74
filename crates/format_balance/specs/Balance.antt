-- Balance and width, in f64 in the Rust's order. A constant is given by its bits. Definitions only.
use Rattle.std.specs.Prelude.{ℕ, Bool, true, false, not, ◌&&◌, cond, List, [], ◌∷◌, ◌++◌, map, eqb, ltb, length, drop, get_or, Float, Ok, Err, Result}
use Rattle.std.specs.Float.{nan, inf, fin, binary64}
use Rattle.std.specs.Float.Ieee.{add, sub, mul, div, lt, le}
use Rattle.refusal.specs.Tests.{Test, test, first, outcome, area_after, Answer}
use Rattle.rounding.specs.Narrow.{narrowed}
use Rattle.format.specs.Floats.{one64, two64, minus_one64, minus_two64, one32}
use Rattle.format.specs.Formats.{unknown_format, labels, channels}
use Rattle.refusal.specs.declared.Reason.TheVariants.{NoFormat, OutOfRange, ShortArea}
use Rattle.refusal.specs.declared.Refusal.{Refusal}

unfoldable pub finite : Float → Bool
finite nan = false
finite (inf s) = false
finite (fin s m e) = true

-- ---- `balance_gains`: -1 left only, 0 both, 1 right only

unfoldable pub clamp : Float → Float
clamp b = cond (lt b minus_one64) minus_one64 (cond (lt one64 b) one64 b)

unfoldable pub at_most_one : Float → Float
at_most_one x = cond (lt x one64) x one64

unfoldable pub left_gain : Float → Float
unfolding clamp at_most_one
left_gain b = at_most_one (sub binary64 one64 (clamp b))

unfoldable pub right_gain : Float → Float
unfolding clamp at_most_one
right_gain b = at_most_one (add binary64 one64 (clamp b))

abbrev pub bad_balance : Float → Bool
bad_balance b = not (finite b)

abbrev pub gains_tests : Float → List Test
gains_tests b = test OutOfRange (bad_balance b) ∷ []

unfoldable pub balance_gains : Float → Result (Float × Float) Refusal
unfolding left_gain right_gain finite
balance_gains b = outcome (first (gains_tests b) (Ok tt)) (Ok (left_gain b, right_gain b)) Err

-- ---- `balance_of`: 16, 17, 2

-- 1 for L, Ls, Lss, Lrs, Ltf and Ltr, 2 for the right one of each pair, 0 for M, C and LFE, by label
abbrev pub sides : List ℕ
sides = 0 ∷ 1 ∷ 2 ∷ 0 ∷ 0 ∷ 1 ∷ 2 ∷ 1 ∷ 2 ∷ 1 ∷ 2 ∷ 1 ∷ 2 ∷ 1 ∷ 2 ∷ []

unfoldable pub side : ℕ → ℕ
side l = get_or sides l 0

-- the gain of a channel by its side: of a left one l, of a right one r, of M, C and LFE 1
unfoldable pub of_side : Float → Float → ℕ → Float
of_side l r s = cond (eqb s 1) l (cond (eqb s 2) r one32)

-- the gain of each channel of a format, l for its left and r for its right ones
unfoldable pub gains_of : Float → Float → ℕ → List Float
unfolding labels side of_side
gains_of l r f = map (λ (k : ℕ). of_side l r (side k)) (labels f)

-- the gains of a format at the balance b, rounded to f32
unfoldable pub balance_of : ℕ → Float → List Float
unfolding left_gain right_gain gains_of narrowed
balance_of f b = gains_of (narrowed (left_gain b)) (narrowed (right_gain b)) f

-- with an area of n floats
abbrev pub balance_tests : ℕ → Float → ℕ → List Test
balance_tests f b n = test NoFormat (unknown_format f) ∷ test OutOfRange (bad_balance b) ∷ test ShortArea (ltb n (channels f)) ∷ []

unfoldable pub balance_answer : ℕ → Float → ℕ → Answer
unfolding finite channels
balance_answer f b n = first (balance_tests f b n) (Ok tt)

-- the area after the call: a gain for each channel, and the rest as it was
unfoldable pub balance_area : ℕ → Float → List Float → List Float
unfolding balance_answer balance_of channels
balance_area f b area = area_after (balance_answer f b (length area)) (balance_of f b ++ drop (channels f) area) area

-- ---- `stereo_matrix`: the width w (0 mono, 1 unchanged), then a balance

abbrev pub same : Float → Float
same w = div binary64 (add binary64 one64 w) two64

abbrev pub cross : Float → Float
cross w = div binary64 (sub binary64 one64 w) two64

unfoldable pub width_in : Float → Bool
width_in w = le minus_two64 w && le w two64

abbrev pub stereo_tests : Float → Float → List Test
stereo_tests w b = test OutOfRange (not (width_in w)) ∷ test OutOfRange (bad_balance b) ∷ []

unfoldable pub stereo_matrix : Float → Float → Result (List Float) Refusal
unfolding left_gain right_gain finite width_in
stereo_matrix w b =
    outcome (first (stereo_tests w b) (Ok tt))
    (Ok
    (mul binary64 (left_gain b) (same w)
    ∷ mul binary64 (left_gain b) (cross w)
    ∷ mul binary64 (right_gain b) (cross w)
    ∷ mul binary64 (right_gain b) (same w)
    ∷ []))
    Err
