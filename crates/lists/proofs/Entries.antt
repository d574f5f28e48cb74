-- The tests of the entries of a list in plain terms. Assumes nothing.
use mathlib.Core.Path.{◌≡◌, sym}
use mathlib.Core.Bool.{true, false, ◌||◌, false≢true}
use mathlib.Core.List.{List, [], ◌∷◌}
use mathlib.Core.Logic.{◌↔◌, ◌⊎◌, inl, inr}
use Prim.Native.Nat.{ℕ, zero, suc, ◌≤◌, ◌<◌, min}
use native.Mathlib.Nat.{lt_of_lt_of_le}
use native.Mathlib.Omega.{arith}
use lib.Dec.{eqb}
use lib.ListN.{length, get_or, take, length-take}
use lib.Seq.{get_or-take}
use borrow.Author.Tests.{leb-false, eqb-false, lt-leb, ne_eqb}
use Rattle.lists.specs.Entries.{some_from, has, meet, Disjoint}
use Rattle.std.proofs.lemmas.Bool.{or_cases, or_left, or_right}
use Rattle.lists.proofs.Scans.{some_listed, has_listed, meet_listed, listed_at, listed_none}

-- ---- an entry that is n or above
pub some_none : (n : ℕ) (xs : List ℕ) → (some_from n xs ≡ false) ↔ ((i : ℕ) → i < length xs → get_or xs i 0 < n)
some_none n xs = (
  λ e i h. leb-false n (get_or xs i 0) (listed_at (some_listed n) xs e i h),
  λ all. listed_none (some_listed n) xs (λ i h. lt-leb n (get_or xs i 0) (all i h)),
)

-- and so of any bound above
pub some_more : (n m : ℕ) (xs : List ℕ) → n ≤ m → some_from n xs ≡ false → some_from m xs ≡ false
some_more n m xs h e = (some_none m xs).1 (λ i l. lt_of_lt_of_le ((some_none n xs).0 e i l) h)

pub entries_none : (n count : ℕ) (xs : List ℕ) → (some_from n (take count xs) ≡ false) ↔ ((i : ℕ) → i < count → i < length xs → get_or xs i 0 < n)
entries_none n count xs = (
  λ e i h k. rw (get_or-take count xs i 0 h) at ((some_none n (take count xs)).0 e i (rw length-take (omega arith))),
  λ all.
      (some_none n (take count xs)).1
      (λ i h. let k : i < min count (length xs) = rw length-take at h in rw (get_or-take count xs i 0 (omega arith)) (all i (omega arith) (omega arith))),
)

-- ---- an entry of another list
pub has_none : (ys : List ℕ) (x : ℕ) → (has ys x ≡ false) ↔ ((j : ℕ) → j < length ys → x ≡ get_or ys j 0 → ⊥)
has_none ys x = (
  λ e j h q. eqb-false (get_or ys j 0) x (listed_at (has_listed x) ys e j h) (sym q),
  λ all. listed_none (has_listed x) ys (λ j h. ne_eqb (get_or ys j 0) x (λ q. all j h (sym q))),
)

pub meet_none : (xs ys : List ℕ) → (meet xs ys ≡ false) ↔ Disjoint xs ys
meet_none xs ys = (
  λ e i j h k q. (has_none ys (get_or xs i 0)).0 (listed_at (meet_listed ys) xs e i h) j k q,
  λ d. listed_none (meet_listed ys) xs (λ i h. (has_none ys (get_or xs i 0)).1 (λ j k q. d i j h k q)),
)

-- ---- what is in the front of a list is in the list
pub has_front : (n : ℕ) (xs : List ℕ) (x : ℕ) → has (take n xs) x ≡ true → has xs x ≡ true
unfolding has
has_front zero xs x e = absurd (false≢true e)
has_front (suc n) [] x e = e
has_front (suc n) (y ∷ ys) x e = go (has_front n ys x) (or_cases (eqb y x) (has (take n ys) x) e)
  where
    go : (has (take n ys) x ≡ true → has ys x ≡ true) → (eqb y x ≡ true) ⊎ (has (take n ys) x ≡ true) → (eqb y x || has ys x) ≡ true
    go more (inl p) = or_left (eqb y x) (has ys x) p
    go more (inr p) = or_right (eqb y x) (has ys x) (more p)
