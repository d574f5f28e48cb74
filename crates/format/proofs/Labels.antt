-- What holds of every format and every label, from one computed test over the list of formats. Assumes nothing.
use mathlib.Core.Path.{◌≡◌}
use mathlib.Core.Bool.{Bool}
use mathlib.Core.List.{List, []}
use Prim.Native.Nat.{ℕ, ◌<◌, ◌≤◌}
use lib.Dec.{ltb, leb, ltb→lt, leb→le}
use lib.ListN.{length, get_or, get_or-eq_default}
use Rattle.lists.proofs.Tables.{every, every_at, every_or}
use Rattle.format.specs.Labels.{no_label}
use Rattle.format.specs.Formats.{formats, labels, channels, label_of}

pub no_format_lem : (f : ℕ) → 7 ≤ f → labels f ≡ []
unfolding labels
no_format_lem f h = get_or-eq_default formats [] h

-- at most 12 channels
abbrev short : List ℕ → Bool
short xs = leb (length xs) 12

pub channels_le : (f : ℕ) → channels f ≤ 12
unfolding channels labels
channels_le f = leb→le (length (get_or formats f [])) 12 (every_or short formats tt f [] tt)

-- and at least one
abbrev some : List ℕ → Bool
some xs = leb 1 (length xs)

pub channels_least : (f : ℕ) → f < 7 → 1 ≤ channels f
unfolding channels labels
channels_least f h = leb→le 1 (length (get_or formats f [])) (every_at some formats tt f [] h)

-- each label is below 15
abbrev known : ℕ → Bool
known l = ltb l 15

pub label_lt : (f c : ℕ) → c < channels f → label_of f c < 15
unfolding channels label_of labels
label_lt f c h =
    let xs = get_or formats f [] in
    ltb→lt (get_or xs c no_label) 15 (every_at known xs (every_or (every known) formats tt f [] tt) c no_label h)
