-- What `any` answers over the entries of a list, where it is what a test of `Scans` in crate `lists` says. Assumes nothing.
use mathlib.Core.Path.{◌≡◌, sym, ap, ◌∙◌}
use mathlib.Core.Bool.{Bool, ◌||◌}
use mathlib.Core.List.{List, [], ◌∷◌}
use Prim.Native.Nat.{ℕ}
use Rattle.std.specs.List.{list_any}
use Rattle.lists.proofs.Scans.{Listed}

module _ {f : List ℕ → Bool} {t : ℕ → Bool} (l : Listed f t) where
  pub any_listed : (xs : List ℕ) → list_any t xs ≡ f xs
  any_listed [] = sym l.none
  any_listed (x ∷ xs) = ap (λ (b : Bool). t x || b) (any_listed xs) ∙ sym (l.more x xs)
