-- The test of a list of ids: an entry that equals an id, as std's contracts say it, and a turn. Assumes nothing.
use mathlib.Core.Path.{◌≡◌, refl}
use mathlib.Core.Bool.{◌||◌}
use mathlib.Core.List.{List, [], ◌∷◌}
use Prim.Native.Nat.{ℕ, ◌+◌, ◌-◌, ◌<◌}
use native.Mathlib.Numerals.{add-one}
use native.Mathlib.Omega.{arith}
use lib.ListN.{length, get_or, take, drop, length-drop}
use lib.Seq.{drop-cons, take_all}
use Rattle.std.specs.Prelude.{nat_eq}
use Rattle.std.specs.List.{list_any}
use Rattle.lists.specs.Entries.{has}
use Rattle.plan.specs.Check.{id_among}
use Rattle.builder.specs.Sums.{ids_taken}

has_any : (xs : List ℕ) (x : ℕ) → list_any (λ y. nat_eq y x) xs ≡ has xs x
unfolding has
has_any [] x = refl
has_any (y ∷ ys) x = rw (has_any ys x)

-- behind a place
pub has_rest : (xs : List ℕ) (k x : ℕ) → list_any (λ y. nat_eq y x) (take (length xs - k) (drop k xs)) ≡ has (drop k xs) x
has_rest xs k x = rw (take_all (length xs - k) (drop k xs) (omega (arith, length-drop k xs))) (has_any (drop k xs) x)

pub taken_turn : (words : List ℕ) (n : ℕ) (ids : List ℕ) (i : ℕ) → i < length ids
    → ids_taken words n (drop i ids) ≡ (id_among words n (get_or ids i 0) || (has (drop (i + 1) ids) (get_or ids i 0) || ids_taken words n (drop (i + 1) ids)))
taken_turn words n ids i h = rw (add-one, drop-cons ids i 0 h) refl
