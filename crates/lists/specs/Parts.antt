-- Parts of a list, and lists made place by place. A run of stores from a place on is the library's `sets` (lib.Seq). Definitions only.
use Rattle.std.specs.Prelude.{ℕ, zero, suc, List, take, drop, set}

-- n of xs from place k on
abbrev pub part : {A : Type 0} → ℕ → ℕ → List A → List A
part k n xs = take n (drop k xs)

-- xs with f i at each place i below n
abbrev pub upto : {A : Type 0} → ℕ → (ℕ → A) → List A → List A
upto zero f xs = xs
upto (suc n) f xs = set (upto n f xs) n (f n)
