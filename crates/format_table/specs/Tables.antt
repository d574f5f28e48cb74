-- A house table (request C-14): `pairs`, two numbers an entry, its source and its destination format, and `gains`, entry after entry, row by row.
-- Definitions only.
use Rattle.std.specs.Prelude.{ℕ, zero, suc, ◌+◌, ◌*◌, ◌/◌, ◌%◌, Bool, false, not, ◌&&◌, ◌||◌, cond, List, [], ◌∷◌, eqb, ltb, length, get_or, Float, Ok}
use Rattle.std.specs.Float.{nan}
use Rattle.lists.specs.Parts.{part}
use Rattle.refusal.specs.Tests.{Test, test, first, Answer}
use Rattle.format.specs.Formats.{unknown_format, channels}
use Rattle.format_fold.specs.Folds.{gain_in_range}
use Rattle.format_table.specs.Covered.{applies}
use Rattle.refusal.specs.declared.Reason.TheVariants.{NoEntry, NoFormat, OutOfRange, PairNotCovered, PairTwice, ShortArea}

-- ---- the entries

-- how many there are: a last odd number is ignored
abbrev pub entries : List ℕ → ℕ
entries pairs = length pairs / 2

-- the two formats of entry k
abbrev pub source_at : List ℕ → ℕ → ℕ
source_at pairs k = get_or pairs (k * 2) 0

abbrev pub destination_at : List ℕ → ℕ → ℕ
destination_at pairs k = get_or pairs (k * 2 + 1) 0

-- entry k is for the pair
abbrev pub entry_for : List ℕ → ℕ → ℕ → ℕ → Bool
entry_for pairs src dst k = eqb (source_at pairs k) src && eqb (destination_at pairs k) dst

-- how many of the first n entries are for the pair
unfoldable pub times : List ℕ → ℕ → ℕ → ℕ → ℕ
times pairs src dst zero = 0
times pairs src dst (suc n) = times pairs src dst n + cond (entry_for pairs src dst n) 1 0

-- ---- their gains

-- the gains of entry k: a row for each channel of its destination, a column for each of its source
abbrev pub size_at : List ℕ → ℕ → ℕ
size_at pairs k = channels (destination_at pairs k) * channels (source_at pairs k)

-- the gains that the first n entries need, behind which those of entry n start
unfoldable pub needed : List ℕ → ℕ → ℕ
unfolding channels
needed pairs zero = 0
needed pairs (suc n) = needed pairs n + size_at pairs n

-- the gains of the pair's entry among the first n, none where it has no entry; of an accepted table one entry at most is for a pair
unfoldable pub entry_below : List ℕ → List Float → ℕ → ℕ → ℕ → List Float
unfolding channels needed
entry_below pairs gains src dst zero = []
entry_below pairs gains src dst (suc n) =
    cond (entry_for pairs src dst n) (part (needed pairs n) (size_at pairs n) gains) (entry_below pairs gains src dst n)

unfoldable pub table_entry : List ℕ → List Float → ℕ → ℕ → List Float
unfolding entry_below
table_entry pairs gains src dst = entry_below pairs gains src dst (entries pairs)

-- ---- the tests: 16, 2, 17, 19, 20, 21

-- one of the first n entries has a format above 6
unfoldable pub some_unknown : List ℕ → ℕ → Bool
some_unknown pairs zero = false
some_unknown pairs (suc n) = (unknown_format (source_at pairs n) || unknown_format (destination_at pairs n)) || some_unknown pairs n

-- one of the first n gains is not from +0 to 16
unfoldable pub some_outside : List Float → ℕ → Bool
unfolding gain_in_range
some_outside gains zero = false
some_outside gains (suc n) = not (gain_in_range (get_or gains n nan)) || some_outside gains n

-- The 49 pairs of formats: pair k is from format k / 7 to format k % 7.
abbrev pub all_pairs : ℕ
all_pairs = 49

-- one of the first n pairs passes a test
unfoldable pub some_pair : (ℕ → ℕ → Bool) → ℕ → Bool
some_pair t zero = false
some_pair t (suc k) = t (k / 7) (k % 7) || some_pair t k

-- a pair that is to be covered, without an entry
abbrev pub missing : List ℕ → ℕ → ℕ → Bool
missing pairs src dst = applies src dst && eqb (times pairs src dst (entries pairs)) 0

-- a pair, to be covered or not, with more than one
abbrev pub twice : List ℕ → ℕ → ℕ → Bool
twice pairs src dst = ltb 1 (times pairs src dst (entries pairs))

-- a pair that is not to be covered, with an entry
abbrev pub uncovered : List ℕ → ℕ → ℕ → Bool
uncovered pairs src dst = not (applies src dst) && ltb 0 (times pairs src dst (entries pairs))

abbrev pub table_tests : List ℕ → List Float → List Test
table_tests pairs gains =
    test NoFormat (some_unknown pairs (entries pairs))
    ∷ test ShortArea (ltb (length gains) (needed pairs (entries pairs)))
    ∷ test OutOfRange (some_outside gains (needed pairs (entries pairs)))
    ∷ test NoEntry (some_pair (missing pairs) all_pairs)
    ∷ test PairTwice (some_pair (twice pairs) all_pairs)
    ∷ test PairNotCovered (some_pair (uncovered pairs) all_pairs)
    ∷ []

unfoldable pub table_answer : List ℕ → List Float → Answer
unfolding applies some_unknown some_outside some_pair needed times
table_answer pairs gains = first (table_tests pairs gains) (Ok tt)
