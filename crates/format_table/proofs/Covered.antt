-- The pairs that a table covers: one label after another, and the 24 of them by computation. Assumes nothing.
use mathlib.Core.Path.{◌≡◌, refl, subst}
use mathlib.Core.Bool.{Bool, true, false, not}
use mathlib.Core.List.{List, [], ◌∷◌}
use Prim.Native.Nat.{ℕ, ◌+◌, ◌*◌, ◌/◌, ◌%◌, ◌<◌}
use native.Mathlib.Omega.{arith}
use lib.Dec.{T}
use lib.ListN.{get_or}
use Rattle.lists.proofs.Scans.{Listed}
use Rattle.lists.proofs.Tables.{below, below_at}
use Rattle.format.specs.Formats.{labels, channels, index_of, has}
use Rattle.format_table.specs.Covered.{lacks, applies}

pub lacks_listed : (d : ℕ) → Listed (lacks d) (λ l. not (has d l))
unfolding lacks
lacks_listed d = record { none = refl; more = λ l ls. refl }

-- ---- the pair from s to d has the number s * 7 + d

module _ (s d : ℕ) (hs : s < 7) (hd : d < 7) where
  pub source_of : (s * 7 + d) / 7 ≡ s
  source_of = omega arith

  pub destination_of : (s * 7 + d) % 7 ≡ d
  destination_of = omega arith

-- ---- the 24 pairs

abbrev yes : Bool
yes = true

abbrev no : Bool
no = false

-- a row for each source and a column for each destination: mono, stereo, 3.0, 5.1, 7.1, 5.1.4, 7.1.4
abbrev pub covered_rows : List (List Bool)
covered_rows =
    (no ∷ no ∷ no ∷ no ∷ no ∷ no ∷ no ∷ [])
    ∷ (no ∷ no ∷ no ∷ no ∷ no ∷ no ∷ no ∷ [])
    ∷ (yes ∷ yes ∷ no ∷ no ∷ no ∷ no ∷ no ∷ [])
    ∷ (yes ∷ yes ∷ yes ∷ no ∷ yes ∷ no ∷ yes ∷ [])
    ∷ (yes ∷ yes ∷ yes ∷ yes ∷ no ∷ yes ∷ no ∷ [])
    ∷ (yes ∷ yes ∷ yes ∷ yes ∷ yes ∷ no ∷ yes ∷ [])
    ∷ (yes ∷ yes ∷ yes ∷ yes ∷ yes ∷ yes ∷ no ∷ [])
    ∷ []

abbrev pub in_rows : ℕ → ℕ → Bool
in_rows s d = get_or (get_or covered_rows s []) d no

abbrev same : Bool → Bool → Bool
same true b = b
same false b = not b

same_is : (a b : Bool) → T (same a b) → a ≡ b
same_is true true t = refl
same_is true false t = absurd t
same_is false true t = absurd t
same_is false false t = refl

abbrev agree : ℕ → Bool
agree k = same (applies (k / 7) (k % 7)) (in_rows (k / 7) (k % 7))

all_agree : T (below agree 49)
unfolding applies lacks has index_of channels labels
all_agree = tt

-- the rows are `applies`
pub applies_rows : (s d : ℕ) → s < 7 → d < 7 → applies s d ≡ in_rows s d
applies_rows s d hs hd =
    same_is (applies s d) (in_rows s d)
    (subst (λ (i : ℕ). T (same (applies i d) (in_rows i d))) (source_of s d hs hd)
    (subst (λ (j : ℕ). T (same (applies ((s * 7 + d) / 7) j) (in_rows ((s * 7 + d) / 7) j))) (destination_of s d hs hd) (below_at agree 49 all_agree (s * 7 + d) (omega arith))))
