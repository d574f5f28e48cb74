-- A list beside the words that it should be, by the word of each of its entries. Definitions only.
use Rattle.std.specs.Prelude.{ℕ, suc, ◌&&◌, cond, List, [], ◌∷◌, eqb, length, Float, Option, None, Some}
use Rattle.std.specs.Float.{binary32}
use Rattle.std.specs.Float.Ieee.{to_bits}

-- the word of a whole number, and of a sample: its bits, those of every NaN 7FC00000 (hexadecimal)
abbrev pub word : ℕ → ℕ
word n = n

abbrev pub sample : Float → ℕ
sample x = to_bits binary32 x

-- how many entries are alike, from the front on
unfoldable pub alike : {A : Type 0} → (A → ℕ) → List ℕ → List A → ℕ
alike f [] ys = 0
alike f (x ∷ xs) [] = 0
alike f (x ∷ xs) (y ∷ ys) = cond (eqb x (f y)) (suc (alike f xs ys)) 0

-- the place where lists of n and m entries differ that have their first i alike, and no more; none where they end there together
abbrev pub ending : ℕ → ℕ → ℕ → Option ℕ
ending i n m = cond (eqb i n && eqb i m) None (Some i)

abbrev pub compared : {A : Type 0} → (A → ℕ) → List ℕ → List A → Option ℕ
compared f xs ys = ending (alike f xs ys) (length xs) (length ys)
