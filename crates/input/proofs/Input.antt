-- The channel lookup: it hands back the part of the last entry that matches, or nothing; and a directory that is not bad names no part past
-- the samples. Assumes nothing.
use mathlib.Core.Path.{◌≡◌, refl, sym, ap, ◌∙◌}
use mathlib.Core.Bool.{Bool, true, false, ◌&&◌, ◌||◌, or_comm}
use mathlib.Core.List.{List, [], ◌∷◌}
use mathlib.Core.Logic.{⊎_elim}
use Prim.Native.Nat.{ℕ, zero, suc, ◌+◌, ◌-◌, ◌*◌, ◌%◌, ◌≤◌, ◌<◌}
use native.Mathlib.Omega.{arith}
use native.Mathlib.Nat.{add-zero, le_of_suc-le-suc, eq-or-lt_of_le}
use lib.ListN.{length, get_or, drop, length-drop}
use lib.Dec.{ltb, eqb}
use lib.Ieee.{Float}
use borrow.Author.Tests.{ltb-false, eqb-true, not-false}
use Rattle.lists.specs.Parts.{part}
use Rattle.lists.proofs.Stores.{length_part}
use Rattle.std.proofs.lemmas.Bool.{or_parts}
use Rattle.lists.proofs.Scans.{Counted, counted_at}
use Rattle.input.specs.Input.{entry_words, max_entries, entries, entry_word, entry_for, entry_part, lookup_below, lookup, some_past, directory_bad}

-- ---- a part that is cut at the end of the samples
module _ (xs : List Float) (start len : ℕ) where
  drop_all : length xs ≤ start → drop start xs ≡ []
  drop_all h = go (drop start xs) refl
    where
      go : (ys : List Float) → drop start xs ≡ ys → drop start xs ≡ []
      go [] e = e
      go (y ∷ ys) e = absurd (omega (arith, ap length e, length-drop start xs))

-- the first word of an entry stands at the entry's own place
pub first_word : (directory : List ℕ) (i : ℕ) → entry_word directory i 0 ≡ get_or directory (i * entry_words) 0
first_word directory i = ap (λ (k : ℕ). get_or directory k 0) (add-zero (i * entry_words))

-- an entry's test as the code has it
pub entry_is : (directory : List ℕ) (input channel i : ℕ)
    → (eqb (get_or directory (i * entry_words) 0) input && eqb (entry_word directory i 1) channel) ≡ entry_for directory input channel i
entry_is directory input channel i = ap (λ (w : ℕ). eqb w input && eqb (entry_word directory i 1) channel) (sym (first_word directory i))

module _ (directory : List ℕ) (samples : List Float) (input channel : ℕ) where
  -- ---- the lookup, turn by turn, over n entries of which i is the last
  module _ {n i : ℕ} (e : n ≡ suc i) where
    pub looked_yes : entry_for directory input channel i ≡ true → lookup_below directory samples input channel n ≡ entry_part directory samples i
    unfolding lookup_below
    looked_yes t = ap (lookup_below directory samples input channel) e ∙ rw t

    pub looked_no : entry_for directory input channel i ≡ false → lookup_below directory samples input channel n ≡ lookup_below directory samples input channel i
    unfolding lookup_below
    looked_no t = ap (lookup_below directory samples input channel) e ∙ rw t

  pub looked_none : {n : ℕ} → n ≡ 0 → lookup_below directory samples input channel n ≡ []
  unfolding lookup_below
  looked_none e = ap (lookup_below directory samples input channel) e

  -- ---- the whole lookup

  -- below a place from which on no entry matches
  pub lookup_below_lem : (n : ℕ) → n ≤ entries directory → ((j : ℕ) → n ≤ j → j < entries directory → entry_for directory input channel j ≡ false)
      → lookup directory samples input channel ≡ lookup_below directory samples input channel n
  unfolding lookup
  lookup_below_lem n = go (entries directory)
    where
      go : (m : ℕ) → n ≤ m → ((j : ℕ) → n ≤ j → j < m → entry_for directory input channel j ≡ false)
          → lookup_below directory samples input channel m ≡ lookup_below directory samples input channel n
      go zero h none = let e : 0 ≡ n = omega arith in ap (lookup_below directory samples input channel) e
      go (suc m) h none =
          ⊎_elim (λ e. ap (lookup_below directory samples input channel) (sym e))
          (λ l. let k = le_of_suc-le-suc l in looked_no refl (none m k (omega arith)) ∙ go m k (λ j a b. none j a (omega arith)))
          (eq-or-lt_of_le h)

  -- no entry matches
  pub lookup_absent : ((j : ℕ) → j < entries directory → entry_for directory input channel j ≡ false) → lookup directory samples input channel ≡ []
  lookup_absent all = lookup_below_lem 0 (omega arith) (λ j l h. all j h) ∙ looked_none refl

  -- the last that matches
  pub lookup_last : (k : ℕ) → k < entries directory → ((j : ℕ) → k < j → j < entries directory → entry_for directory input channel j ≡ false)
      → entry_for directory input channel k ≡ true → lookup directory samples input channel ≡ entry_part directory samples k
  lookup_last k h after here = lookup_below_lem (suc k) h after ∙ looked_yes refl here

pub past_counted : (directory : List ℕ) (m : ℕ) → Counted (some_past directory m) (λ n. ltb m (entry_word directory n 2 + entry_word directory n 3))
unfolding some_past
past_counted directory m = record { none = refl; more = λ n. or_comm (some_past directory m n) (ltb m (entry_word directory n 2 + entry_word directory n 3)) }

-- what a directory that is not bad says
pub record Good (directory : List ℕ) (m : ℕ) : Type 0 where
  pub fours : length directory % entry_words ≡ 0
  pub few : entries directory ≤ max_entries
  pub within : (i : ℕ) → i < entries directory → entry_word directory i 2 + entry_word directory i 3 ≤ m

pub directory_good : (directory : List ℕ) (m : ℕ) → directory_bad directory m ≡ false → Good directory m
unfolding directory_bad
directory_good directory m e =
    let b = or_parts _ _ e in
    let a = or_parts _ _ b.0 in
    record {
      fours = eqb-true _ _ (not-false _ a.0);
      few = ltb-false _ _ a.1;
      within = λ i h. ltb-false _ _ (counted_at (past_counted directory m) (entries directory) b.1 i h);
    }

-- and then each entry's part is whole
pub part_whole : (directory : List ℕ) (samples : List Float) → directory_bad directory (length samples) ≡ false → (i : ℕ) → i < entries directory
    → length (entry_part directory samples i) ≡ entry_word directory i 3
part_whole directory samples e i h =
    length_part (entry_word directory i 2) (entry_word directory i 3) samples ((directory_good directory (length samples) e).within i h)
