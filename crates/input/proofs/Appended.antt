-- An entry appended to a directory, as a stand-in's is: it answers for its channel, and for every other channel the directory answers as before.
-- Assumes nothing.
use mathlib.Core.Path.{◌≡◌, refl, ap, subst, ◌∙◌}
use mathlib.Core.Bool.{false, ◌&&◌, cond}
use mathlib.Core.List.{List, [], ◌∷◌, ◌++◌}
use Prim.Native.Nat.{ℕ, zero, suc, ◌+◌, ◌*◌, ◌%◌, ◌≤◌, ◌<◌}
use native.Mathlib.Omega.{arith}
use lib.ListN.{length, get_or, length-append, get_or-append}
use lib.Seq.{get_or-append-add}
use lib.Dec.{eqb}
use lib.Ieee.{Float}
use borrow.Author.Tests.{eq-eqb}
use Rattle.lists.specs.Parts.{part}
use Rattle.input.specs.Input.{entry_words, entries, entry_word, entry_for, lookup_below, lookup}
use Rattle.input.proofs.Input.{lookup_below_lem, lookup_last}

module _ (directory : List ℕ) (fours : length directory % entry_words ≡ 0) (input channel start len : ℕ) where
  abbrev entry : List ℕ
  entry = input ∷ channel ∷ start ∷ len ∷ []

  one_more : entries (directory ++ entry) ≡ suc (entries directory)
  one_more = omega (arith, fours, length-append directory entry)

  new_word : (j : ℕ) → entry_word (directory ++ entry) (entries directory) j ≡ get_or entry j 0
  new_word j =
      let e : entries directory * entry_words + j ≡ length directory + j = omega (arith, fours) in
      ap (λ (k : ℕ). get_or (directory ++ entry) k 0) e ∙ get_or-append-add directory entry j 0

  old_word : (i j : ℕ) → i < entries directory → j < entry_words → entry_word (directory ++ entry) i j ≡ entry_word directory i j
  old_word i j h g = get_or-append directory entry 0 (i * entry_words + j) (omega (arith, h, g))

  old_below : (samples : List Float) (i c n : ℕ) → n ≤ entries directory
      → lookup_below (directory ++ entry) samples i c n ≡ lookup_below directory samples i c n
  unfolding lookup_below
  old_below samples i c zero h = refl
  old_below samples i c (suc n) h =
      λ j. cond (eqb (old_word n 0 h (omega arith) j) i && eqb (old_word n 1 h (omega arith) j) c)
      (part (old_word n 2 h (omega arith) j) (old_word n 3 h (omega arith) j) samples) (old_below samples i c n (omega arith) j)

  -- its own channel
  pub lookup_appended : (samples : List Float) → lookup (directory ++ entry) samples input channel ≡ part start len samples
  lookup_appended samples =
      lookup_last (directory ++ entry) samples input channel (entries directory) (omega (arith, one_more)) (λ j l h. absurd (omega (arith, l, h, one_more)))
      ((λ j. eqb (new_word 0 j) input && eqb (new_word 1 j) channel) ∙ rw (eq-eqb input input refl, eq-eqb channel channel refl) refl)
      ∙ (λ j. part (new_word 2 j) (new_word 3 j) samples)

  -- another
  pub lookup_others : (samples : List Float) (i c : ℕ) → (eqb input i && eqb channel c) ≡ false
      → lookup (directory ++ entry) samples i c ≡ lookup directory samples i c
  unfolding lookup
  lookup_others samples i c other =
      lookup_below_lem (directory ++ entry) samples i c (entries directory) (omega (arith, one_more)) not_last ∙ old_below samples i c (entries directory) (omega arith)
    where
      not_last : (j : ℕ) → entries directory ≤ j → j < entries (directory ++ entry) → entry_for (directory ++ entry) i c j ≡ false
      not_last j l h =
          let e : entries directory ≡ j = omega (arith, l, h, one_more) in
          subst (λ (k : ℕ). entry_for (directory ++ entry) i c k ≡ false) e ((λ k. eqb (new_word 0 k) i && eqb (new_word 1 k) c) ∙ other)
