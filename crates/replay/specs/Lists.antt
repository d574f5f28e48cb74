-- Fronts of lists. Definitions only.
use Rattle.std.specs.Prelude.{◌≡◌, ℕ, ◌≤◌, List, length, take}

-- A list has a front of n entries. The second part follows from the first; both are stated so that the proof that Rattle makes of `&list[..n]` finds them.
abbrev pub Front : {A : Type 0} → ℕ → List A → Type 0
Front n xs = (n ≤ length xs) × (n ≡ length (take n xs))
