-- Numbers in order. Assumes nothing.
use Prim.Native.Nat.{ℕ, zero, suc, ◌+◌, ◌<◌}
use native.Mathlib.Nat.{not-suc-le-zero, le_of_suc-le-suc, add-zero, add-suc, suc-add}
use mathlib.Core.Path.{◌≡◌, refl, sym, ap, ◌∙◌}
use lib.ListN.{length, get_or}
use Rattle.builder.specs.Calls.{numbers_from}

pub length_numbers : (k n : ℕ) → length (numbers_from k n) ≡ n
length_numbers k zero = refl
length_numbers k (suc n) = ap suc (length_numbers (suc k) n)

pub get_d_numbers : (k n i d : ℕ) → i < n → get_or (numbers_from k n) i d ≡ k + i
get_d_numbers k zero i d h = absurd (not-suc-le-zero h)
get_d_numbers k (suc n) zero d h = sym (add-zero k)
get_d_numbers k (suc n) (suc i) d h = get_d_numbers (suc k) n i d (le_of_suc-le-suc h) ∙ suc-add k i ∙ sym (add-suc k i)
