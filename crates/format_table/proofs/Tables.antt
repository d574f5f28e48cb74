-- The entries of a table and their gains: a turn of each loop over them, and where the gains of a pair's only entry are. Assumes nothing.
use mathlib.Core.Path.{◌≡◌, refl, sym, ap, ◌∙◌}
use mathlib.Core.Bool.{Bool, true, false, not, ◌&&◌, ◌||◌, cond, true≢false}
use mathlib.Core.List.{List, []}
use mathlib.Core.Logic.{⊎_elim}
use Prim.Native.Nat.{ℕ, zero, suc, ◌+◌, ◌-◌, ◌*◌, ◌<◌, ◌≤◌}
use native.Mathlib.Nat.{add-zero, not-suc-le-zero, le_of_suc-le-suc, eq-or-lt_of_le}
use native.Mathlib.Numerals.{add-one}
use native.Mathlib.Omega.{arith}
use borrow.Author.Tests.{eqb-true}
use lib.Dec.{eqb}
use lib.ListN.{length, get_or, take, drop}
use lib.Seq.{get_or-take, get_or-drop, drop-drop}
use lib.Ieee.{Float, nan}
use Rattle.std.specs.Simd.{first_chunks}
use Rattle.lists.specs.Parts.{part}
use Rattle.std.proofs.lemmas.Bool.{and_parts}
use Rattle.lists.proofs.Scans.{Counted}
use Rattle.lists.proofs.Stores.{length_part}
use Rattle.format.specs.Formats.{unknown_format, channels}
use Rattle.format_fold.specs.Folds.{gain_in_range}
use Rattle.format_table.specs.Tables.{entries, source_at, destination_at, entry_for, times, size_at, needed, entry_below, table_entry, some_unknown, some_outside}

pub unknown_counted : (pairs : List ℕ) → Counted (some_unknown pairs) (λ k. unknown_format (source_at pairs k) || unknown_format (destination_at pairs k))
unfolding some_unknown
unknown_counted pairs = record { none = refl; more = λ n. refl }

pub outside_counted : (gains : List Float) → Counted (some_outside gains) (λ i. not (gain_in_range (get_or gains i nan)))
unfolding some_outside
outside_counted gains = record { none = refl; more = λ n. refl }

-- ---- the entries as the code has them, two numbers each

chunk_at : (k : ℕ) (xs : List ℕ) (i : ℕ) → i < k → get_or (first_chunks 2 k xs) i [] ≡ take 2 (drop (i * 2) xs)
chunk_at zero xs i h = absurd (not-suc-le-zero h)
chunk_at (suc k) xs zero h = refl
chunk_at (suc k) xs (suc i) h =
    chunk_at k (drop 2 xs) i (le_of_suc-le-suc h)
    ∙ ap (take 2) (drop-drop (i * 2) 2 xs)
    ∙ ap (λ (j : ℕ). take 2 (drop j xs)) (twice_more i)
  where
    twice_more : (i : ℕ) → 2 + i * 2 ≡ suc i * 2
    twice_more i = omega arith

chunks_long : (k : ℕ) (xs : List ℕ) → length (first_chunks 2 k xs) ≡ k
chunks_long zero xs = refl
chunks_long (suc k) xs = ap suc (chunks_long k (drop 2 xs))

module _ (pairs : List ℕ) (items : List (List ℕ)) (e : items ≡ first_chunks 2 (entries pairs) pairs) where
  pub items_long : length items ≡ entries pairs
  items_long = ap length e ∙ chunks_long (entries pairs) pairs

  module _ (i : ℕ) (h : i < length items) where
    item_at : get_or items i [] ≡ take 2 (drop (i * 2) pairs)
    item_at = ap (λ (l : List (List ℕ)). get_or l i []) e ∙ chunk_at (entries pairs) pairs i (omega (arith, items_long))

    number_at : (j : ℕ) → j < 2 → get_or (get_or items i []) j 0 ≡ get_or pairs (i * 2 + j) 0
    number_at j l = ap (λ (r : List ℕ). get_or r j 0) item_at ∙ get_or-take 2 (drop (i * 2) pairs) j 0 l ∙ get_or-drop (i * 2) pairs j 0

    pub source_is : get_or (get_or items i []) 0 0 ≡ source_at pairs i
    source_is = number_at 0 (omega arith) ∙ ap (λ (j : ℕ). get_or pairs j 0) (add-zero (i * 2))

    pub destination_is : get_or (get_or items i []) 1 0 ≡ destination_at pairs i
    destination_is = number_at 1 (omega arith)

    pub size_is : {n : ℕ} → n ≡ channels (get_or (get_or items i []) 1 0) * channels (get_or (get_or items i []) 0 0) → n ≡ size_at pairs i
    size_is p = p ∙ ap (λ (d : ℕ). channels d * channels (get_or (get_or items i []) 0 0)) destination_is ∙ ap (λ (s : ℕ). channels (destination_at pairs i) * channels s) source_is

-- ---- the gains before an entry

module _ (pairs : List ℕ) where
  pub needed_zero : needed pairs 0 ≡ 0
  unfolding needed
  needed_zero = refl

  pub needed_more : (n : ℕ) → needed pairs (n + 1) ≡ needed pairs n + size_at pairs n
  unfolding needed
  needed_more n = ap (needed pairs) (add-one n)

  pub needed_le : (i n : ℕ) → i ≤ n → needed pairs i ≤ needed pairs n
  unfolding needed
  needed_le i zero h = let e : i ≡ 0 = omega arith in omega (arith, ap (needed pairs) e)
  needed_le i (suc n) h =
      ⊎_elim (λ e. omega (arith, ap (needed pairs) e)) (λ l. omega (arith, needed_le i n (le_of_suc-le-suc l))) (eq-or-lt_of_le h)

  -- those of entry i are among all
  pub entry_within : (i n : ℕ) → i < n → needed pairs i + size_at pairs i ≤ needed pairs n
  entry_within i n h = omega (arith, needed_more i, needed_le (i + 1) n (omega arith))

-- and so are those of an entry as the code has it
pub item_within : (pairs : List ℕ) (items : List (List ℕ)) (i : ℕ) → items ≡ first_chunks 2 (entries pairs) pairs → i < length items
    → needed pairs i + channels (get_or (get_or items i []) 1 0) * channels (get_or (get_or items i []) 0 0) ≤ needed pairs (entries pairs)
item_within pairs items i e h =
    omega (arith, entry_within pairs i (entries pairs) (omega (arith, items_long pairs items e)), size_is pairs items e i h refl)

-- ---- the entries for a pair

module _ (pairs : List ℕ) (src dst : ℕ) where
  pub times_zero : times pairs src dst 0 ≡ 0
  unfolding times
  times_zero = refl

  pub times_more : (n : ℕ) → times pairs src dst (n + 1) ≡ times pairs src dst n + cond (entry_for pairs src dst n) 1 0
  unfolding times
  times_more n = ap (times pairs src dst) (add-one n)

  times_yes : (n : ℕ) → entry_for pairs src dst n ≡ true → times pairs src dst (suc n) ≡ times pairs src dst n + 1
  unfolding times
  times_yes n e = rw e

  times_no : (n : ℕ) → entry_for pairs src dst n ≡ false → times pairs src dst (suc n) ≡ times pairs src dst n
  unfolding times
  times_no n e = rw e (omega arith)

  pub times_later : (n : ℕ) → times pairs src dst n ≡ 0 → entry_for pairs src dst n ≡ false → times pairs src dst (n + 1) ≡ 0
  times_later n e f = ap (times pairs src dst) (add-one n) ∙ times_no n f ∙ e

  pub times_some : (n i : ℕ) → i < n → entry_for pairs src dst i ≡ true → 1 ≤ times pairs src dst n
  times_some zero i h e = absurd (not-suc-le-zero h)
  times_some (suc n) i h e = go (entry_for pairs src dst n) refl (times_some n i)
    where
      go : (b : Bool) → entry_for pairs src dst n ≡ b → (i < n → entry_for pairs src dst i ≡ true → 1 ≤ times pairs src dst n) → 1 ≤ times pairs src dst (suc n)
      go true t ih = omega (arith, times_yes n t)
      go false t ih =
          ⊎_elim (λ p. absurd (true≢false (sym e ∙ ap (entry_for pairs src dst) p ∙ t)))
          (λ l. omega (arith, times_no n t, ih l e))
          (eq-or-lt_of_le (le_of_suc-le-suc h))

  -- an entry for the pair
  pub record Entry (n : ℕ) : Type 0 where
    pub place : ℕ
    pub below : place < n
    pub fits : entry_for pairs src dst place ≡ true

  pub times_entry : (n : ℕ) → 1 ≤ times pairs src dst n → Entry n
  unfolding times
  times_entry zero h = absurd (not-suc-le-zero h)
  times_entry (suc n) h = go (entry_for pairs src dst n) refl (times_entry n)
    where
      go : (b : Bool) → entry_for pairs src dst n ≡ b → (1 ≤ times pairs src dst n → Entry n) → Entry (suc n)
      go true t ih = record { place = n; below = omega arith; fits = t }
      go false t ih = let e = ih (omega (arith, times_no n t)) in record { place = e.place; below = omega (arith, e.below); fits = e.fits }

  -- of an entry for the pair the gains are as many as the fold has
  pub entry_size : (i : ℕ) → entry_for pairs src dst i ≡ true → size_at pairs i ≡ channels dst * channels src
  entry_size i e =
      let k : (eqb (source_at pairs i) src ≡ true) × (eqb (destination_at pairs i) dst ≡ true) = and_parts _ _ e in
      cc (eqb-true (source_at pairs i) src k.0, eqb-true (destination_at pairs i) dst k.1)

  module _ (gains : List Float) where
    below_yes : (n : ℕ) → entry_for pairs src dst n ≡ true → entry_below pairs gains src dst (suc n) ≡ part (needed pairs n) (size_at pairs n) gains
    unfolding entry_below
    below_yes n e = rw e

    below_no : (n : ℕ) → entry_for pairs src dst n ≡ false → entry_below pairs gains src dst (suc n) ≡ entry_below pairs gains src dst n
    unfolding entry_below
    below_no n e = rw e

    only : (n i : ℕ) → times pairs src dst n ≡ 1 → i < n → entry_for pairs src dst i ≡ true → entry_below pairs gains src dst n ≡ part (needed pairs i) (size_at pairs i) gains
    only zero i t h e = absurd (not-suc-le-zero h)
    only (suc n) i t h e = go (entry_for pairs src dst n) refl (only n i)
      where
        go : (b : Bool) → entry_for pairs src dst n ≡ b → (times pairs src dst n ≡ 1 → i < n → entry_for pairs src dst i ≡ true → entry_below pairs gains src dst n ≡ part (needed pairs i) (size_at pairs i) gains)
            → entry_below pairs gains src dst (suc n) ≡ part (needed pairs i) (size_at pairs i) gains
        go true y ih =
            ⊎_elim (λ p. below_yes n y ∙ ap (λ (j : ℕ). part (needed pairs j) (size_at pairs j) gains) (sym p))
            (λ l. let z : ◌≡◌ {A = ℕ} 0 1 = omega (arith, times_yes n y, times_some n i l e) in absurd (omega arith))
            (eq-or-lt_of_le (le_of_suc-le-suc h))
        go false y ih =
            ⊎_elim (λ p. absurd (true≢false (sym e ∙ ap (entry_for pairs src dst) p ∙ y)))
            (λ l. below_no n y ∙ ih (sym (times_no n y) ∙ t) l e)
            (eq-or-lt_of_le (le_of_suc-le-suc h))

    -- where the pair has one entry, its gains are behind those of the entries before it
    pub entry_only : times pairs src dst (entries pairs) ≡ 1 → (i : ℕ) → i < entries pairs → entry_for pairs src dst i ≡ true
        → table_entry pairs gains src dst ≡ part (needed pairs i) (size_at pairs i) gains
    unfolding table_entry
    entry_only t i h e = only (entries pairs) i t h e

    -- and they are as many as the fold has
    pub entry_length : times pairs src dst (entries pairs) ≡ 1 → needed pairs (entries pairs) ≤ length gains
        → length (table_entry pairs gains src dst) ≡ channels dst * channels src
    entry_length t h =
        let e = times_entry (entries pairs) (omega arith) in
        ap length (entry_only t e.place e.below e.fits)
        ∙ length_part (needed pairs e.place) (size_at pairs e.place) gains (omega (arith, entry_within pairs e.place (entries pairs) e.below))
        ∙ entry_size e.place e.fits

-- the part of the gains at the code's entry for the pair, by its end
pub entry_part : (pairs : List ℕ) (items : List (List ℕ)) (i at size src dst : ℕ) (gains : List Float) → items ≡ first_chunks 2 (entries pairs) pairs
    → i < length items → times pairs src dst (entries pairs) ≡ 1
    → (eqb (get_or (get_or items i []) 0 0) src && eqb (get_or (get_or items i []) 1 0) dst) ≡ true
    → at ≡ needed pairs i → size ≡ channels (get_or (get_or items i []) 1 0) * channels (get_or (get_or items i []) 0 0)
    → take (at + size - at) (drop at gains) ≡ table_entry pairs gains src dst
entry_part pairs items i at size src dst gains e h one is p q =
    let here : i < entries pairs = omega (arith, items_long pairs items e) in
    let s = source_is pairs items e i h in
    let d = destination_is pairs items e i h in
    let n : at + size - at ≡ size_at pairs i = omega (arith, size_is pairs items e i h q) in
    let own : entry_for pairs src dst i ≡ true = cc (is, s, d) in
    ap (λ (j : ℕ). take j (drop at gains)) n
    ∙ ap (λ (j : ℕ). part j (size_at pairs i) gains) p
    ∙ sym (entry_only pairs src dst gains one i here own)

-- ---- what a loop over the entries goes by

pub ruleset entry_steps = (needed_zero, needed_more, item_within, times_zero, times_later, items_long, source_is, destination_is, size_is)
