-- A part of an area, and the area after the part is written whole: it then holds the run of stores. Assumes nothing.
use mathlib.Core.Path.{◌≡◌, ap, ◌∙◌}
use mathlib.Core.List.{List, ◌++◌, append_assoc, append-nil}
use Prim.Native.Nat.{ℕ, ◌+◌, ◌-◌, ◌≤◌}
use native.Mathlib.Omega.{arith}
use lib.ListN.{length, take, drop, length-take, length-drop, drop_of_length-le}
use lib.Seq.{sets, sets-eq, drop-drop}
use Rattle.lists.proofs.Stores.{sets_front}

module _ {A : Type 0} where
  pub length_mid : (area : List A) (at n : ℕ) → at + n ≤ length area → length (take ((at + n) - at) (drop at area)) ≡ n
  length_mid area at n h = simp (length-take, length-drop) (omega arith)

  -- stores over all of a list
  pub all_stored : (old row : List A) → length row ≡ length old → sets old 0 row ≡ row
  all_stored old row e =
      let all : length old ≤ length row = omega arith in
      sets_front old row (omega arith) ∙ ap (λ (rest : List A). row ++ rest) (drop_of_length-le old all) ∙ append-nil row

  pub part_written : (area row : List A) (at n : ℕ) → length row ≡ n → at + n ≤ length area
      → take at area ++ (row ++ drop ((at + n) - at) (drop at area)) ≡ sets area at row
  part_written area row at n e h =
      let k : (at + n) - at ≡ n = omega arith in
      let f : at + length row ≤ length area = omega arith in
      rw (k, drop-drop, sets-eq row area at f, e, append_assoc)
