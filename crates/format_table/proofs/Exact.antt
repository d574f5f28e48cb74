-- A table is accepted exactly where it is sound, condition by condition. Assumes nothing.
use mathlib.Core.Path.{◌≡◌, refl, sym, ap, ◌∙◌}
use mathlib.Core.Bool.{Bool, true, false, not, ◌&&◌, cond}
use mathlib.Core.List.{List, []}
use Prim.Native.Nat.{ℕ, ◌+◌, ◌*◌, ◌/◌, ◌%◌, ◌<◌, ◌≤◌}
use native.Mathlib.Omega.{arith}
use borrow.Author.Tests.{lt-leb, leb-false, ltb-false, eqb-false, not-false}
use lib.Dec.{eqb, ltb}
use lib.ListN.{length, get_or}
use lib.Ieee.{Float}
use Rattle.std.specs.Simd.{first_chunks}
use Rattle.std.proofs.lemmas.Bool.{or_parts, or_from}
use Rattle.lists.proofs.Scans.{counted_at, counted_none}
use Rattle.refusal.proofs.Laws.{accepted_none}
use Rattle.format.specs.Formats.{unknown_format}
use Rattle.format_table.specs.Covered.{applies}
use Rattle.format_table.specs.Tables.{entries, source_at, destination_at, times, needed, some_unknown, some_outside, some_pair, missing, twice, uncovered, all_pairs, table_tests, table_answer}
use Rattle.format_table.specs.Sound.{TableSound}
use Rattle.format_table.proofs.Covered.{source_of, destination_of}
use Rattle.format_table.proofs.Tables.{unknown_counted, outside_counted, items_long, source_is, destination_is}
use Rattle.format_table.proofs.Faults.{pair_counted}
use Rattle.format_table.proofs.Answers.{table_passes}
use Rattle.std.specs.Prelude.{Ok}

-- no entry is of what is no format
pub known : (pairs : List ℕ) → some_unknown pairs (entries pairs) ≡ false → (k : ℕ) → k < entries pairs → (source_at pairs k < 7) × (destination_at pairs k < 7)
known pairs e k h =
    let b = or_parts (unknown_format (source_at pairs k)) (unknown_format (destination_at pairs k)) (counted_at (unknown_counted pairs) (entries pairs) e k h) in
    (leb-false 7 (source_at pairs k) b.0, leb-false 7 (destination_at pairs k) b.1)

-- nor is one of the numbers that the code has
module _ (pairs : List ℕ) (items : List (List ℕ)) (e : items ≡ first_chunks 2 (entries pairs) pairs) (i : ℕ) (h : i < length items)
    (u : some_unknown pairs (entries pairs) ≡ false) where
  pub source_below : get_or (get_or items i []) 0 0 < 7
  source_below = omega (arith, source_is pairs items e i h, (known pairs u i (omega (arith, items_long pairs items e))).0)

  pub destination_below : get_or (get_or items i []) 1 0 < 7
  destination_below = omega (arith, destination_is pairs items e i h, (known pairs u i (omega (arith, items_long pairs items e))).1)

-- ---- what a test of all pairs says of each

module _ (t : ℕ → ℕ → Bool) where
  pub each_pair : some_pair t all_pairs ≡ false → (s d : ℕ) → s < 7 → d < 7 → t s d ≡ false
  each_pair e s d hs hd =
      ap (λ (i : ℕ). t i d) (sym (source_of s d hs hd)) ∙ ap (t ((s * 7 + d) / 7)) (sym (destination_of s d hs hd))
      ∙ counted_at (pair_counted t) all_pairs e (s * 7 + d) (omega arith)

  pub no_pair : ((s d : ℕ) → s < 7 → d < 7 → t s d ≡ false) → some_pair t all_pairs ≡ false
  no_pair all = counted_none (pair_counted t) all_pairs (λ k h. all (k / 7) (k % 7) (omega arith) (omega arith))

-- ---- one pair: no fault, and one entry or none as it is covered or not

not_missing : (a : Bool) (t : ℕ) → a ≡ true → (a && eqb t 0) ≡ false → 1 ≤ t
not_missing a t e h = let n : eqb t 0 ≡ false = ap (λ (b : Bool). b && eqb t 0) (sym e) ∙ h in go t (eqb-false t 0 n)
  where
    go : (t : ℕ) → (t ≡ 0 → ⊥) → 1 ≤ t
    go t n = omega arith

not_uncovered : (a : Bool) (t : ℕ) → a ≡ false → (not a && ltb 0 t) ≡ false → t ≡ 0
not_uncovered a t e h = let n : ltb 0 t ≡ false = ap (λ (b : Bool). not b && ltb 0 t) (sym e) ∙ h in omega (arith, ltb-false 0 t n)

never_missing : (c : Bool) → (c && eqb (cond c 1 0) 0) ≡ false
never_missing true = refl
never_missing false = refl

never_twice : (c : Bool) → ltb 1 (cond c 1 0) ≡ false
never_twice true = refl
never_twice false = refl

never_uncovered : (c : Bool) → (not c && ltb 0 (cond c 1 0)) ≡ false
never_uncovered true = refl
never_uncovered false = refl

module _ (pairs : List ℕ) (gains : List Float) where
  pub table_sound : table_answer pairs gains ≡ Ok tt → TableSound pairs gains
  unfolding table_answer
  table_sound e =
      let k = (accepted_none (table_tests pairs gains) (Ok tt) e).0 in
      record {
        formats = known pairs k.0;
        covered = λ s d hs hd a.
            let low = not_missing (applies s d) (times pairs s d (entries pairs)) a (each_pair (missing pairs) k.1.1.1.0 s d hs hd) in
            omega (arith, low, ltb-false 1 (times pairs s d (entries pairs)) (each_pair (twice pairs) k.1.1.1.1.0 s d hs hd));
        others = λ s d hs hd a. not_uncovered (applies s d) (times pairs s d (entries pairs)) a (each_pair (uncovered pairs) k.1.1.1.1.1.0 s d hs hd);
        enough = ltb-false (length gains) (needed pairs (entries pairs)) k.1.0;
        in_range = λ i h. not-false _ (counted_at (outside_counted gains) (needed pairs (entries pairs)) k.1.1.0 i h);
      }

  module _ (s : TableSound pairs gains) where
    all_known : some_unknown pairs (entries pairs) ≡ false
    all_known =
        counted_none (unknown_counted pairs) (entries pairs)
        (λ k h.
        or_from (unknown_format (source_at pairs k)) (unknown_format (destination_at pairs k)) (lt-leb 7 (source_at pairs k) (s.formats k h).0) (lt-leb 7 (destination_at pairs k) (s.formats k h).1))

    all_in_range : some_outside gains (needed pairs (entries pairs)) ≡ false
    all_in_range = counted_none (outside_counted gains) (needed pairs (entries pairs)) (λ i h. ap not (s.in_range i h))

    -- one entry where the pair is to be covered, and none where it is not
    pub one_each : (a b : ℕ) → a < 7 → b < 7 → times pairs a b (entries pairs) ≡ cond (applies a b) 1 0
    one_each a b ha hb = go (applies a b) refl
      where
        go : (c : Bool) → applies a b ≡ c → times pairs a b (entries pairs) ≡ cond c 1 0
        go true e = s.covered a b ha hb e
        go false e = s.others a b ha hb e

    by_cover : (t : Bool → ℕ → Bool) → ((c : Bool) → t c (cond c 1 0) ≡ false) → (a b : ℕ) → a < 7 → b < 7 → t (applies a b) (times pairs a b (entries pairs)) ≡ false
    by_cover t n a b ha hb = ap (t (applies a b)) (one_each a b ha hb) ∙ n (applies a b)

    pub sound_accepted : table_answer pairs gains ≡ Ok tt
    sound_accepted =
        table_passes pairs gains all_known s.enough all_in_range
        (no_pair (missing pairs) (by_cover (λ c n. c && eqb n 0) never_missing))
        (no_pair (twice pairs) (by_cover (λ c n. ltb 1 n) never_twice))
        (no_pair (uncovered pairs) (by_cover (λ c n. not c && ltb 0 n) never_uncovered))
