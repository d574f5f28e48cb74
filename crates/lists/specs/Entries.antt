-- What the entries of a list are. Definitions only.
use Rattle.std.specs.Prelude.{ℕ, ◌+◌, ◌<◌, ◌≡◌, Bool, false, ◌||◌, cond, List, [], ◌∷◌, leb, eqb, length, get_or}

-- an entry is n or above
unfoldable pub some_from : ℕ → List ℕ → Bool
some_from n [] = false
some_from n (x ∷ xs) = leb n x || some_from n xs

-- x is in a list
unfoldable pub has : List ℕ → ℕ → Bool
has [] x = false
has (y ∷ ys) x = eqb y x || has ys x

-- how often x is in a list
abbrev pub times : ℕ → List ℕ → ℕ
times x [] = 0
times x (y ∷ ys) = cond (eqb y x) 1 0 + times x ys

-- every entry is below n
abbrev pub AllBelow : ℕ → List ℕ → Type 0
AllBelow n [] = Unit {0}
AllBelow n (x ∷ xs) = (x < n) × AllBelow n xs

-- an entry of one list is in another
unfoldable pub meet : List ℕ → List ℕ → Bool
meet [] ys = false
meet (x ∷ xs) ys = has ys x || meet xs ys

-- no entry of one list is an entry of the other
abbrev pub Disjoint : List ℕ → List ℕ → Type 0
Disjoint xs ys = (i j : ℕ) → i < length xs → j < length ys → get_or xs i 0 ≡ get_or ys j 0 → ⊥
