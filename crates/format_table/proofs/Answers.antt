-- What each test of a table makes of its answer, one law for each way out, in the order of the tests. Assumes nothing.
use mathlib.Core.Path.{◌≡◌}
use mathlib.Core.Bool.{true, false}
use mathlib.Core.List.{List}
use Prim.Native.Nat.{ℕ, ◌<◌, ◌≤◌}
use borrow.Author.Tests.{lt-ltb, le-ltb}
use lib.ListN.{length}
use lib.Ieee.{Float}
use Rattle.refusal.specs.Tests.{refusal}
use Rattle.format_table.specs.Tables.{entries, needed, some_unknown, some_outside, some_pair, missing, twice, uncovered, all_pairs, table_answer}
use Rattle.refusal.specs.declared.Reason.TheVariants.{NoEntry, NoFormat, OutOfRange, PairNotCovered, PairTwice, ShortArea}
use Rattle.std.specs.Prelude.{Ok, Err, None}

module _ (pairs : List ℕ) (gains : List Float) where
  pub table_16 : some_unknown pairs (entries pairs) ≡ true → table_answer pairs gains ≡ Err (refusal NoFormat None)
  unfolding table_answer
  table_16 e = rw e

  module _ (f : some_unknown pairs (entries pairs) ≡ false) where
    pub table_2 : length gains < needed pairs (entries pairs) → table_answer pairs gains ≡ Err (refusal ShortArea None)
    unfolding table_answer
    table_2 h = rw (f, lt-ltb (length gains) (needed pairs (entries pairs)) h)

    module _ (h : needed pairs (entries pairs) ≤ length gains) where
      pub table_17 : some_outside gains (needed pairs (entries pairs)) ≡ true → table_answer pairs gains ≡ Err (refusal OutOfRange None)
      unfolding table_answer
      table_17 e = rw (f, le-ltb (length gains) (needed pairs (entries pairs)) h, e)

      module _ (r : some_outside gains (needed pairs (entries pairs)) ≡ false) where
        pub table_19 : some_pair (missing pairs) all_pairs ≡ true → table_answer pairs gains ≡ Err (refusal NoEntry None)
        unfolding table_answer
        table_19 e = rw (f, le-ltb (length gains) (needed pairs (entries pairs)) h, r, e)

        module _ (m : some_pair (missing pairs) all_pairs ≡ false) where
          pub table_20 : some_pair (twice pairs) all_pairs ≡ true → table_answer pairs gains ≡ Err (refusal PairTwice None)
          unfolding table_answer
          table_20 e = rw (f, le-ltb (length gains) (needed pairs (entries pairs)) h, r, m, e)

          module _ (t : some_pair (twice pairs) all_pairs ≡ false) where
            pub table_21 : some_pair (uncovered pairs) all_pairs ≡ true → table_answer pairs gains ≡ Err (refusal PairNotCovered None)
            unfolding table_answer
            table_21 e = rw (f, le-ltb (length gains) (needed pairs (entries pairs)) h, r, m, t, e)

            pub table_passes : some_pair (uncovered pairs) all_pairs ≡ false → table_answer pairs gains ≡ Ok tt
            unfolding table_answer
            table_passes e = rw (f, le-ltb (length gains) (needed pairs (entries pairs)) h, r, m, t, e)
