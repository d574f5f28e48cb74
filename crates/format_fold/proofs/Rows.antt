-- One turn of each loop over the matrix, as the definitions have it. Assumes nothing.
use mathlib.Core.Path.{◌≡◌, refl, sym, ap, ◌∙◌}
use mathlib.Core.List.{List, [], ◌∷◌, ◌++◌}
use Prim.Native.Nat.{ℕ, zero, suc, ◌+◌, ◌*◌, ◌<◌, ◌≤◌}
use native.Mathlib.Nat.{suc-mul, zero-mul, mul-le-mul}
use native.Mathlib.Omega.{arith}
use lib.ListN.{length, take, drop, length-append}
use lib.Seq.{length-take-le, take-take, take_at, drop_at}
use lib.Ieee.{Float}
use Rattle.format.specs.Formats.{channels}
use Rattle.lists.proofs.Stores.{part_swap}
use Rattle.format.specs.Floats.{zero64}
use Rattle.format.proofs.Labels.{channels_le}
use Rattle.format_fold.specs.Width.{row_sum, larger, largest}

-- ---- 12 by 12 places

pub places : (n k : ℕ) → n ≤ 12 → k ≤ 12 → n * k ≤ 144
places n k hn hk = mul-le-mul hn hk

-- the channels of two formats
pub few : {n : ℕ} (f : ℕ) → n ≡ channels f → n ≤ 12
few f e = omega (arith, channels_le f)

pub size : {n k : ℕ} (f h : ℕ) → n ≡ channels f → k ≡ channels h → n * k ≤ 144
size {n} {k} f h e d = places n k (few f e) (few h d)

-- row i, with k places, and its place s
pub row_fits : (i n k : ℕ) → i < n → n ≤ 12 → k ≤ 12 → i * k + k ≤ 144
row_fits i n k hi hn hk = let h : suc i ≤ 12 = omega arith in omega (arith, places (suc i) k h hk, suc-mul i k)

pub cell : (i n s k : ℕ) → i < n → n ≤ 12 → s < k → k ≤ 12 → i * k + s < 144
cell i n s k hi hn hs hk = omega (arith, row_fits i n k hi hn hk)

-- a front is no longer than it was asked to be
pub front_length : (n : ℕ) (xs : List Float) → length (take n xs) ≤ n
front_length zero xs = omega arith
front_length (suc n) [] = omega arith
front_length (suc n) (x ∷ xs) = omega (arith, front_length n xs)

-- ---- the rows

-- What is left of the entries is whole rows of k, which lead from a to the largest sum.
pub record RowsLeft (k : ℕ) (a : Float) (left : List Float) (most : Float) : Type 0 where
  pub count : ℕ
  pub size : length left ≡ count * k
  pub leads : largest a k count left ≡ most

-- the first n rows alone have the same largest sum
first_rows : (a : Float) (k n : ℕ) (xs : List Float) → largest a k n (take (n * k) xs) ≡ largest a k n xs
first_rows a k zero xs = refl
first_rows a k (suc n) xs =
    ap (λ (j : ℕ). largest a k (suc n) (take j xs)) more
    ∙ ap (λ (ys : List Float). largest (larger a (row_sum zero64 ys)) k n (drop k (take (k + n * k) xs))) (take-take k (k + n * k) xs (omega arith))
    ∙ ap (largest (larger a (row_sum zero64 (take k xs))) k n) (sym (part_swap k (n * k) xs))
    ∙ first_rows (larger a (row_sum zero64 (take k xs))) k n (drop k xs)
  where
    more : suc n * k ≡ k + n * k
    more = omega (arith, suc-mul n k)

pub rows_start : (k n : ℕ) (xs left : List Float) → left ≡ take (n * k) xs → n * k ≤ length xs → RowsLeft k zero64 left (largest zero64 k n xs)
rows_start k n xs left e h =
    record {
      count = n;
      size = ap length e ∙ length-take-le (n * k) xs h;
      leads = ap (largest zero64 k n) e ∙ first_rows zero64 k n xs;
    }

pub rows_turn : (k : ℕ) (a sum b : Float) (left x rest : List Float) (most : Float) → 0 < k → left ≡ x ++ rest → length x ≡ k → sum ≡ row_sum zero64 x
    → b ≡ larger a sum → RowsLeft k a left most → RowsLeft k b rest most
rows_turn k a sum b left x rest most h e l p q r = go r.count r.size r.leads
  where
    long : length left ≡ k + length rest
    long = omega (arith, ap length e, length-append x rest)

    go : (n : ℕ) → length left ≡ n * k → largest a k n left ≡ most → RowsLeft k b rest most
    go zero s m = absurd (omega (arith, long, zero-mul k))
    go (suc n) s m =
        record {
          count = n;
          size = omega (arith, long, suc-mul n k);
          leads = ap (λ (y : Float). largest y k n rest) (q ∙ ap (larger a) p)
              ∙ ap (λ (xs : List Float). largest (larger a (row_sum zero64 xs)) k n rest) (sym (ap (take k) e ∙ take_at x rest k l))
              ∙ ap (largest (larger a (row_sum zero64 (take k left))) k n) (sym (ap (drop k) e ∙ drop_at x rest k l))
              ∙ m;
        }

pub rows_end : (k : ℕ) (a : Float) (left : List Float) (most : Float) → length left < k → RowsLeft k a left most → a ≡ most
rows_end k a left most h r = go r.count r.size r.leads
  where
    go : (n : ℕ) → length left ≡ n * k → largest a k n left ≡ most → a ≡ most
    go zero s m = m
    go (suc n) s m = absurd (omega (arith, suc-mul n k))

pub ruleset row_steps = (places, rows_start, rows_turn, rows_end)
