-- What is taken for granted of lists of buffers, handed on to one row and to one pair of them; it goes by the area's length alone.
-- Assumes nothing.
use mathlib.Core.Path.{◌≡◌, sym, ap, ◌∙◌}
use mathlib.Core.Bool.{Bool, true, false, not, ◌&&◌, false≢true}
use mathlib.Core.List.{List}
use Prim.Native.Nat.{ℕ, zero, suc, ◌+◌, ◌*◌, ◌<◌, ◌≤◌, min}
use native.Mathlib.Nat.{mul-le-mul_right, suc-mul}
use native.Mathlib.Omega.{arith}
use lib.ListN.{length, get_or, take, length-take}
use lib.Seq.{get_or-take}
use lib.Dec.{eqb}
use lib.Ieee.{Float, nan}
use borrow.Author.Tests.{eq-eqb}
use Rattle.std.proofs.lemmas.Bool.{and_parts}
use Rattle.lists.proofs.Bools.{first_not, second_not}
use Rattle.mix.specs.Mix.{is_zero, Inside, Pair, Row, Buffers, used}
use Rattle.mix.specs.Loops.{Four}

-- buffer b of n is within the area
pub buffer_inside : (n block b : ℕ) (area : List Float) → b < n → n * block ≤ length area → Inside block b area
buffer_inside n block b area h k =
    let e : suc b * block ≤ n * block = mul-le-mul_right block h in
    let f : suc b * block ≡ b * block + block = suc-mul b block in
    omega arith

module _ {block : ℕ} {src : List ℕ} {a b : List Float} (e : length b ≡ length a) where
  pub pair_of : {d : ℕ} → Row block src d a → (i : ℕ) → i < length src → Pair block (get_or src i 0) d b
  pair_of r i h =
      record {
        small = r.small;
        source = omega (arith, r.sources i h);
        target = omega (arith, r.target);
        apart = λ w. r.apart i h (sym w);
      }

  pub row_kept : {d : ℕ} → Row block src d a → Row block src d b
  row_kept r =
      record {
        small = r.small;
        sources = λ i l. omega (arith, r.sources i l);
        target = omega (arith, r.target);
        apart = r.apart;
      }

  pub row_of : {dst : List ℕ} → Buffers block src dst a → (j : ℕ) → j < length dst → Row block src (get_or dst j 0) b
  row_of r j h =
      record {
        small = r.small;
        sources = λ i l. omega (arith, r.sources i l);
        target = omega (arith, r.targets j h);
        apart = λ i l w. r.apart i l j h (sym w);
      }

-- a channel of a Gain
pub channel_of : {block : ℕ} {a b : List Float} (src dst : List ℕ) → length b ≡ length a → Buffers block (used src dst) (used dst src) a
    → (c : ℕ) → c < min (length src) (length dst) → Pair block (get_or src c 0) (get_or dst c 0) b
channel_of src dst e r c h =
    let hs : c < length (take (length dst) src) = simp length-take (omega arith) in
    let hd : c < length (take (length src) dst) = simp length-take (omega arith) in
    let es : get_or (take (length dst) src) c 0 ≡ get_or src c 0 = get_or-take (length dst) src c 0 (omega arith) in
    let ed : get_or (take (length src) dst) c 0 ≡ get_or dst c 0 = get_or-take (length src) dst c 0 (omega arith) in
    record {
      small = r.small;
      source = let q = (rw es at (r.sources c hs)) in omega arith;
      target = let q = (rw ed at (r.targets c hd)) in omega arith;
      apart = λ w. r.apart c hs c hd (es ∙ w ∙ sym ed);
    }

-- two columns and two rows, by the tests of the lengths, of the weights and of the rows
pub four_enough : (src dst : List ℕ) (weights : List Float) → length src ≡ 2 → length dst ≡ 2 → length dst * length src ≤ length weights → 4 ≤ length weights
four_enough src dst weights s d h = rw (d, s) at h

pub four_of : (src dst : List ℕ) (weights : List Float) → length src ≡ 2 → length dst ≡ 2 → length dst * length src ≤ length weights
    → not (is_zero (get_or weights 0 nan)) && not (is_zero (get_or weights 1 nan)) && (not (is_zero (get_or weights 2 nan)) && not (is_zero (get_or weights 3 nan))) && not (eqb (get_or dst 1 0) (get_or dst 0 0)) ≡ true
    → Four src dst weights
four_of src dst weights s d h e =
    record {
      columns = s;
      rows = d;
      enough = four_enough src dst weights s d h;
      differ = λ w. false≢true (sym (ap not (eq-eqb (get_or dst 1 0) (get_or dst 0 0) w)) ∙ all.1);
      weighted = each;
    }
  where
    z : ℕ → Bool
    z i = is_zero (get_or weights i nan)

    all : (not (z 0) && not (z 1) && (not (z 2) && not (z 3)) ≡ true) × (not (eqb (get_or dst 1 0) (get_or dst 0 0)) ≡ true)
    all = and_parts (not (z 0) && not (z 1) && (not (z 2) && not (z 3))) (not (eqb (get_or dst 1 0) (get_or dst 0 0))) e

    pairs : (not (z 0) && not (z 1) ≡ true) × (not (z 2) && not (z 3) ≡ true)
    pairs = and_parts (not (z 0) && not (z 1)) (not (z 2) && not (z 3)) all.0

    each : (i : ℕ) → i < 4 → z i ≡ false
    each zero l = first_not (z 0) (z 1) pairs.0
    each (suc zero) l = second_not (z 0) (z 1) pairs.0
    each (suc (suc zero)) l = first_not (z 2) (z 3) pairs.1
    each (suc (suc (suc zero))) l = second_not (z 2) (z 3) pairs.1
    each (suc (suc (suc (suc i)))) l = absurd (omega arith)
