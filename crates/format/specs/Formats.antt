-- The formats by number, and the labels of their channels, as the Rust's `Format::labels` has them. Definitions only.
use Rattle.std.specs.Prelude.{ℕ, suc, Bool, cond, List, [], ◌∷◌, eqb, ltb, leb, length, get_or}
use Rattle.format.specs.Labels.{M, L, R, C, LFE, Ls, Rs, Lss, Rss, Lrs, Rrs, Ltf, Rtf, Ltr, Rtr, no_label}

-- mono, stereo, 3.0, 5.1, 7.1, 5.1.4, 7.1.4: formats 0 to 6
abbrev pub formats : List (List ℕ)
formats =
    (M ∷ [])
    ∷ (L ∷ R ∷ [])
    ∷ (L ∷ R ∷ C ∷ [])
    ∷ (L ∷ R ∷ C ∷ LFE ∷ Ls ∷ Rs ∷ [])
    ∷ (L ∷ R ∷ C ∷ LFE ∷ Lss ∷ Rss ∷ Lrs ∷ Rrs ∷ [])
    ∷ (L ∷ R ∷ C ∷ LFE ∷ Ls ∷ Rs ∷ Ltf ∷ Rtf ∷ Ltr ∷ Rtr ∷ [])
    ∷ (L ∷ R ∷ C ∷ LFE ∷ Lss ∷ Rss ∷ Lrs ∷ Rrs ∷ Ltf ∷ Rtf ∷ Ltr ∷ Rtr ∷ [])
    ∷ []

-- a format above 6: number 16's test
abbrev pub unknown_format : ℕ → Bool
unknown_format f = leb 7 f

-- the labels of a format in channel order, none where there is no such format
unfoldable pub labels : ℕ → List ℕ
labels f = get_or formats f []

unfoldable pub channels : ℕ → ℕ
unfolding labels
channels f = length (labels f)

-- the label of a channel
unfoldable pub label_of : ℕ → ℕ → ℕ
unfolding labels
label_of f c = get_or (labels f) c no_label

-- the first place of a label in a list, the list's length where it is not there
abbrev pub position : ℕ → List ℕ → ℕ
position l [] = 0
position l (x ∷ xs) = cond (eqb x l) 0 (suc (position l xs))

-- the channel of a label
unfoldable pub index_of : ℕ → ℕ → ℕ
unfolding labels
index_of f l = position l (labels f)

-- whether the format has the label
unfoldable pub has : ℕ → ℕ → Bool
unfolding index_of channels
has f l = ltb (index_of f l) (channels f)
