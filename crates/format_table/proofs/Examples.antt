-- Worked examples of a house table, by computation: one that is accepted, an odd last number, where an entry's gains are, and the order of the
-- refusals. Assumes nothing.
use mathlib.Core.Path.{◌≡◌, refl, sym, ap}
use mathlib.Core.Bool.{true, not}
use mathlib.Core.List.{List, [], ◌∷◌, ◌++◌}
use Prim.Native.Nat.{ℕ, ◌<◌, ◌≤◌}
use native.Mathlib.Nat.{le_of_eq}
use native.Mathlib.Omega.{arith}
use lib.ListN.{length, get_or, replicate, length-replicate, get_or-replicate}
use lib.Ieee.{Float, nan, binary32, lt, eq, le, of_bits}
use Rattle.lists.specs.Parts.{part}
use Rattle.lists.proofs.Scans.{counted_none}
use Rattle.refusal.specs.Tests.{refusal}
use Rattle.format.specs.Formats.{labels, channels, index_of, has}
use Rattle.format_fold.specs.Folds.{negative, gain_in_range, gains_in_range}
use Rattle.format_fold.specs.Bs775.{standard_gains}
use Rattle.format_table.specs.Covered.{lacks, applies}
use Rattle.format_table.specs.Tables.{times, needed, entry_below, table_entry, some_unknown, some_outside, some_pair, table_answer}
use Rattle.format_table.specs.With.{with_answer}
use Rattle.format_table.proofs.Tables.{outside_counted}
use Rattle.format_table.proofs.Answers.{table_19, table_20, table_21, table_passes}
use Rattle.refusal.specs.declared.Reason.TheVariants.{NoEntry, NoFormat, OutOfRange, PairNotCovered, PairTwice, ShortArea}
use Rattle.std.specs.Prelude.{Ok, Err, None}

abbrev minus_zero : Float
minus_zero = of_bits binary32 0x8000_0000

abbrev half : Float
half = of_bits binary32 0x3f00_0000

-- ---- the 24 pairs in the order of their numbers, with any 1,021 gains in range

abbrev pub house : List ℕ
house =
    2 ∷ 0 ∷ 2 ∷ 1
    ∷ 3 ∷ 0 ∷ 3 ∷ 1 ∷ 3 ∷ 2 ∷ 3 ∷ 4 ∷ 3 ∷ 6
    ∷ 4 ∷ 0 ∷ 4 ∷ 1 ∷ 4 ∷ 2 ∷ 4 ∷ 3 ∷ 4 ∷ 5
    ∷ 5 ∷ 0 ∷ 5 ∷ 1 ∷ 5 ∷ 2 ∷ 5 ∷ 3 ∷ 5 ∷ 4 ∷ 5 ∷ 6
    ∷ 6 ∷ 0 ∷ 6 ∷ 1 ∷ 6 ∷ 2 ∷ 6 ∷ 3 ∷ 6 ∷ 4 ∷ 6 ∷ 5
    ∷ []

module _ (gains : List Float) where
  pub house_accepted : 1021 ≤ length gains → ((i : ℕ) → i < 1021 → gain_in_range (get_or gains i nan) ≡ true) → table_answer house gains ≡ Ok tt
  unfolding some_unknown needed some_pair times applies lacks has index_of channels labels
  house_accepted h r = table_passes house gains refl h (counted_none (outside_counted gains) 1021 (λ i l. ap not (r i l))) refl refl refl

  -- a last odd number is ignored
  pub odd_ignored : table_answer (house ++ 99 ∷ []) gains ≡ table_answer house gains
  unfolding table_answer some_unknown needed some_pair times applies lacks has index_of channels labels
  odd_ignored = refl

  -- mono to mono besides is not to be covered; twice, it is found as a pair that has two
  pub one_too_many : 1022 ≤ length gains → ((i : ℕ) → i < 1022 → gain_in_range (get_or gains i nan) ≡ true) → table_answer (house ++ 0 ∷ 0 ∷ []) gains ≡ Err (refusal PairNotCovered None)
  unfolding some_unknown needed some_pair times applies lacks has index_of channels labels
  one_too_many h r = table_21 (house ++ 0 ∷ 0 ∷ []) gains refl h (counted_none (outside_counted gains) 1022 (λ i l. ap not (r i l))) refl refl refl

  pub twice_first : 1023 ≤ length gains → ((i : ℕ) → i < 1023 → gain_in_range (get_or gains i nan) ≡ true) → table_answer (house ++ 0 ∷ 0 ∷ 0 ∷ 0 ∷ []) gains ≡ Err (refusal PairTwice None)
  unfolding some_unknown needed some_pair times applies lacks has index_of channels labels
  twice_first h r = table_20 (house ++ 0 ∷ 0 ∷ 0 ∷ 0 ∷ []) gains refl h (counted_none (outside_counted gains) 1023 (λ i l. ap not (r i l))) refl refl

  -- an empty table lacks an entry, and a last odd number makes none
  pub empty_lacks : table_answer (2 ∷ []) gains ≡ Err (refusal NoEntry None)
  unfolding some_unknown some_outside needed some_pair times applies lacks has index_of channels labels
  empty_lacks = table_19 (2 ∷ []) gains refl (omega arith) refl refl

  -- the 6 gains of 3.0 to stereo are behind the 3 of 3.0 to mono
  pub second_entry : table_entry house gains 2 1 ≡ part 3 6 gains
  unfolding table_entry entry_below needed channels labels
  second_entry = refl

-- so there is one
pub house_of_halves : table_answer house (replicate 1021 half) ≡ Ok tt
unfolding gain_in_range negative le lt eq of_bits
house_of_halves =
    house_accepted (replicate 1021 half) (le_of_eq (sym (length-replicate 1021 half)))
    (λ i h. ap gain_in_range (get_or-replicate 1021 i half nan h))

-- row by row: the right channel's share of the left is the fourth gain
pub right_from_left : (a b c d e f : Float) → get_or (table_entry (2 ∷ 1 ∷ []) (a ∷ b ∷ c ∷ d ∷ e ∷ f ∷ []) 2 1) 3 nan ≡ d
unfolding table_entry entry_below needed channels labels
right_from_left a b c d e f = refl

-- ---- the first fault answers: a format above 6, too few gains, a gain out of range, a pair without an entry

pub first_16 : table_answer (2 ∷ 7 ∷ 2 ∷ 0 ∷ []) [] ≡ Err (refusal NoFormat None)
unfolding table_answer some_unknown
first_16 = refl

pub first_2 : table_answer (2 ∷ 0 ∷ []) (minus_zero ∷ nan ∷ []) ≡ Err (refusal ShortArea None)
unfolding table_answer some_unknown needed channels labels
first_2 = refl

pub first_17 : table_answer (2 ∷ 0 ∷ []) (half ∷ half ∷ minus_zero ∷ []) ≡ Err (refusal OutOfRange None)
unfolding table_answer some_unknown some_outside needed channels labels gain_in_range negative le lt eq of_bits
first_17 = refl

-- what lies behind the gains that are needed is not looked at
pub rest_ignored : table_answer (2 ∷ 0 ∷ []) (half ∷ half ∷ half ∷ minus_zero ∷ []) ≡ Err (refusal NoEntry None)
unfolding table_answer some_unknown some_outside needed some_pair times applies lacks has index_of channels labels gain_in_range negative le lt eq of_bits
rest_ignored = refl

-- the fold's own short area is found before a table's format above 6, and its own gains also where the table decides
pub own_2_first : with_answer 2 0 standard_gains 2 (2 ∷ 7 ∷ []) [] ≡ Err (refusal ShortArea None)
unfolding with_answer gains_in_range gain_in_range negative channels labels le lt eq of_bits
own_2_first = refl

pub own_17_first : with_answer 2 0 (record { pan_left = nan; pan_right = half; mono_sum = half; centre = half; surround = half; lfe = half }) 3 house [] ≡ Err (refusal OutOfRange None)
unfolding with_answer gains_in_range gain_in_range negative channels labels le lt eq of_bits
own_17_first = refl
