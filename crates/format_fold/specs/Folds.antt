-- The fold of a label into a format, as document 01's section "Folds" and the Rust's `fold` have it, in f64 in the Rust's order.
-- Definitions only.
use Rattle.std.specs.Prelude.{ℕ, zero, suc, ◌+◌, ◌*◌, Bool, true, false, not, ◌&&◌, cond, List, [], ◌∷◌, eqb, get_or, set, replicate, Float}
use Rattle.std.specs.Float.{nan, inf, fin, binary64}
use Rattle.std.specs.Float.Ieee.{add, mul, lt, le, of_bits}
use Rattle.format.specs.Labels.{M, L, R, C, Ls, Rs, Lss, Rss, Lrs, Rrs}
use Rattle.format.specs.Formats.{labels, channels, index_of, has}
use Rattle.format.specs.Floats.{zero64, one64}
use Rattle.format_fold.specs.declared.FoldGains.{FoldGains}
use Rattle.format_fold.specs.declared.Targets.{Targets}
use Rattle.format_fold.specs.declared.Targets.TheVariants.{Nothing, One, Two}

-- ---- gains: from +0 to 16, so that neither a NaN nor -0 is one

abbrev pub sixteen : Float
sixteen = of_bits binary64 0x4030_0000_0000_0000

unfoldable pub negative : Float → Bool
negative nan = false
negative (inf s) = s
negative (fin s m e) = s

unfoldable pub gain_in_range : Float → Bool
unfolding negative
gain_in_range g = le g sixteen && not (negative g)

unfoldable pub gains_in_range : FoldGains → Bool
unfolding gain_in_range
gains_in_range g =
    gain_in_range g.pan_left
    && gain_in_range g.pan_right
    && gain_in_range g.mono_sum
    && gain_in_range g.centre
    && gain_in_range g.surround
    && gain_in_range g.lfe

-- ---- what a label turns into

-- 1/√2
abbrev pub half_power : Float
half_power = of_bits binary64 0x3fe6_a09e_667f_3bcd

-- the label a at the gain x where the format d has it, else the label b at the gain y
abbrev pub first_had : ℕ → ℕ → Float → ℕ → Float → Targets
first_had d a x b y = cond (has d a) (One a x) (One b y)

-- What each label turns into that the format d lacks: the lines of the Rust's `match`, by label from M to Rtr. `low` says whether the LFE
-- gain is above 0.
abbrev pub targets_of : Bool → FoldGains → ℕ → List Targets
targets_of low g d =
    cond (has d C) (One C one64) (Two L g.pan_left R g.pan_right)
    ∷ One M g.mono_sum
    ∷ One M g.mono_sum
    ∷ Two L g.centre R g.centre
    ∷ cond low (Two L g.lfe R g.lfe) Nothing
    ∷ first_had d Lss one64 L g.surround
    ∷ first_had d Rss one64 R g.surround
    ∷ One Ls half_power
    ∷ One Rs half_power
    ∷ One Ls half_power
    ∷ One Rs half_power
    ∷ One L half_power
    ∷ One R half_power
    ∷ first_had d Lrs half_power Ls half_power
    ∷ first_had d Rrs half_power Rs half_power
    ∷ []

unfoldable pub folds_to : FoldGains → ℕ → ℕ → Targets
unfolding has
folds_to g d l = get_or (targets_of (lt zero64 g.lfe) g d) l Nothing

-- ---- the fold

-- x added to the entry at a place
abbrev pub added : List Float → ℕ → Float → List Float
added m i x = set m i (add binary64 (get_or m i nan) x)

-- each target folded on by `to`, with the gains multiplied along the way
abbrev pub through : (ℕ → Float → List Float → List Float) → Targets → Float → List Float → List Float
through to Nothing x m = m
through to (One l a) x m = to l (mul binary64 x a) m
through to (Two l a r b) x m = to r (mul binary64 x b) (to l (mul binary64 x a) m)

-- The matrix m of k columns with the label l added in column s at the gain x: to its entry where the format d has the label, else through
-- what it turns into. n bounds how often a label is turned; `depth` is enough for every label and format, and with it the equation
-- holds with no bound (`present` and `onward` of proofs/Ranks.antt).
unfoldable pub folded : ℕ → FoldGains → ℕ → ℕ → ℕ → ℕ → Float → List Float → List Float
unfolding has index_of folds_to
folded zero g d k s l x m = m
folded (suc n) g d k s l x m =
    elim (has d l) [ true ↦ added m (index_of d l * k + s) x | false ↦ through (folded n g d k s) (folds_to g d l) x m ]

-- no chain of labels is longer than Ltr, Ls, L, M
abbrev pub depth : ℕ
depth = 4

-- how often each label can be turned before it is L or R, which every format but mono has
abbrev pub turnings : List ℕ
turnings = 1 ∷ 0 ∷ 0 ∷ 1 ∷ 1 ∷ 1 ∷ 1 ∷ 2 ∷ 2 ∷ 2 ∷ 2 ∷ 1 ∷ 1 ∷ 2 ∷ 2 ∷ []

-- The rank of a label: how often it can be turned before the format d has it. It is 0 where d has the label, one more where d is mono, and
-- falls at each turn (`falls` of proofs/Ranks.antt), so it is the measure of the recursion of `format_fold::Column::fold`.
unfoldable pub rank : ℕ → ℕ → ℕ
unfolding has
rank d l = cond (has d l) 0 (get_or turnings l 0 + cond (eqb d 0) 1 0)

-- ---- the matrix: a row for each channel of the destination, row after row, in the first of 144 places

-- the labels from column s on, one after the other, each at the gain 1
abbrev pub folded_each : FoldGains → ℕ → ℕ → ℕ → List ℕ → List Float → List Float
folded_each g d k s [] m = m
folded_each g d k s (l ∷ ls) m = folded_each g d k (suc s) ls (folded depth g d k s l one64 m)

unfoldable pub matrix_of : ℕ → ℕ → FoldGains → List Float
unfolding channels labels folded
matrix_of src dst g = folded_each g dst (channels src) 0 (labels src) (replicate 144 zero64)
