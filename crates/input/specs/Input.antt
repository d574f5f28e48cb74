-- The input block: document 01's directory of entries, four u32 each (input, channel, start, length), over the lent samples.
-- Definitions only.
use Rattle.std.specs.Prelude.{ℕ, zero, suc, ◌+◌, ◌*◌, ◌/◌, ◌%◌, Bool, false, not, ◌&&◌, ◌||◌, cond, List, [], length, get_or, ltb, eqb, Float}
use Rattle.lists.specs.Parts.{part}

-- the words of an entry, and the most entries
abbrev pub entry_words : ℕ
entry_words = 4

abbrev pub max_entries : ℕ
max_entries = 512

abbrev pub entries : List ℕ → ℕ
entries directory = length directory / entry_words

-- word j of entry i
abbrev pub entry_word : List ℕ → ℕ → ℕ → ℕ
entry_word directory i j = get_or directory (i * entry_words + j) 0

abbrev pub entry_for : List ℕ → ℕ → ℕ → ℕ → Bool
entry_for directory input channel i = eqb (entry_word directory i 0) input && eqb (entry_word directory i 1) channel

abbrev pub entry_part : List ℕ → List Float → ℕ → List Float
entry_part directory samples i = part (entry_word directory i 2) (entry_word directory i 3) samples

-- the channel lookup (request C-11; document 01 has the first entry) among the first n entries: the part of the samples that the last matching
-- one names, however short, or an empty part
unfoldable pub lookup_below : List ℕ → List Float → ℕ → ℕ → ℕ → List Float
lookup_below directory samples input channel zero = []
lookup_below directory samples input channel (suc n) =
    cond (entry_for directory input channel n) (entry_part directory samples n) (lookup_below directory samples input channel n)

-- and among all
unfoldable pub lookup : List ℕ → List Float → ℕ → ℕ → List Float
unfolding lookup_below
lookup directory samples input channel = lookup_below directory samples input channel (entries directory)

-- ---- number 12: "directory not in fours, over 512 entries, or a part past the samples"

-- one of the first n entries has a part past m samples
unfoldable pub some_past : List ℕ → ℕ → ℕ → Bool
some_past directory m zero = false
some_past directory m (suc n) = some_past directory m n || ltb m (entry_word directory n 2 + entry_word directory n 3)

unfoldable pub directory_bad : List ℕ → ℕ → Bool
unfolding some_past
directory_bad directory m = not (eqb (length directory % entry_words) 0) || ltb max_entries (entries directory) || some_past directory m (entries directory)
