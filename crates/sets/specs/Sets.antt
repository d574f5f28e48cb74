-- The members of a set of numbers below 256, from its four words. Definitions only.
use Rattle.std.specs.Prelude.{ℕ, zero, suc, ◌/◌, ◌%◌, ◌^◌, Bool, cond, List, [], ◌∷◌, eqb, get_or}
use Rattle.sets.specs.declared.Set.{Set}

-- a set has no number from this on
abbrev pub set_size : ℕ
set_size = 256

-- the words of a set
abbrev pub set_words : ℕ
set_words = 4

-- bit i of a word, the lowest of which is bit 0
abbrev pub bit : ℕ → ℕ → Bool
bit w i = eqb (w / 2 ^ i % 2) 1

-- whether i is in the set: from `set_size` on there is no word, and it is not
unfoldable pub member : Set → ℕ → Bool
member s i = bit (get_or s.words (i / 64) 0) (i % 64)

-- those of the n numbers from i on that pass a test, ascending
unfoldable pub sift : (ℕ → Bool) → ℕ → ℕ → List ℕ
sift p i zero = []
sift p i (suc n) = cond (p i) (i ∷ sift p (suc i) n) (sift p (suc i) n)

-- the members of a set, ascending
abbrev pub members : Set → List ℕ
members s = sift (member s) 0 set_size

-- ---- for the functions on one word

-- base + i for each of the n lowest bits i of w that is 1, ascending
unfoldable pub places : ℕ → ℕ → ℕ → List ℕ
places base zero w = []
places base (suc n) w = cond (eqb (w % 2) 1) (base ∷ places (suc base) n (w / 2)) (places (suc base) n (w / 2))
