-- The pairs of formats by their numbers: those that one entry is for, and those that two are for, with one entry more; and the faults of one pair
-- more. Assumes nothing.
use mathlib.Core.Path.{◌≡◌, refl, sym, ap, ◌∙◌}
use mathlib.Core.Bool.{Bool, true, false, not, ◌&&◌, ◌||◌, cond}
use mathlib.Core.List.{List}
use Prim.Native.Nat.{ℕ, zero, suc, ◌+◌, ◌*◌, ◌/◌, ◌%◌, ◌<◌}
use native.Mathlib.Numerals.{add-one}
use native.Mathlib.Omega.{arith}
use borrow.Author.Tests.{eq-eqb, ne_eqb, eqb-true, eqb-false, lt-ltb}
use lib.Dec.{eqb, ltb}
use Rattle.std.proofs.lemmas.Bool.{and_parts, and_from}
use Rattle.lists.proofs.Scans.{Counted}
use Rattle.sets.specs.Sets.{member}
use Rattle.format_table.specs.Covered.{applies}
use Rattle.format_table.specs.Tables.{entries, source_at, destination_at, times, some_pair, missing, twice, uncovered, all_pairs}
use Rattle.format_table.specs.Loops.{SeenIn, FaultsIn}
use Rattle.format_table.specs.declared.pairs.Seen.{Seen}
use Rattle.format_table.specs.declared.pairs.Faults.{Faults}
use Rattle.format_table.proofs.Tables.{times_zero, times_more}

pub pair_counted : (t : ℕ → ℕ → Bool) → Counted (some_pair t) (λ k. t (k / 7) (k % 7))
unfolding some_pair
pair_counted t = record { none = refl; more = λ n. refl }

-- pair k is that of the formats s and d where k is s * 7 + d
pub pair_number : (s d k : ℕ) → s < 7 → d < 7 → (eqb s (k / 7) && eqb d (k % 7)) ≡ eqb k (s * 7 + d)
pair_number s d k hs hd = go (eqb k (s * 7 + d)) refl
  where
    apart : (b : Bool) → (eqb s (k / 7) && eqb d (k % 7)) ≡ b → (k ≡ s * 7 + d → ⊥) → (eqb s (k / 7) && eqb d (k % 7)) ≡ false
    apart true e n =
        let b = and_parts (eqb s (k / 7)) (eqb d (k % 7)) e in
        absurd (n (omega (arith, eqb-true s (k / 7) b.0, eqb-true d (k % 7) b.1)))
    apart false e n = e

    go : (b : Bool) → eqb k (s * 7 + d) ≡ b → (eqb s (k / 7) && eqb d (k % 7)) ≡ b
    go true e =
        let p = eqb-true k (s * 7 + d) e in
        and_from (eqb s (k / 7)) (eqb d (k % 7)) (eq-eqb s (k / 7) (omega arith)) (eq-eqb d (k % 7) (omega arith))
    go false e = apart (eqb s (k / 7) && eqb d (k % 7)) refl (eqb-false k (s * 7 + d) e)

-- ---- no entry, and one entry more

pub seen_none : (pairs : List ℕ) (seen : Seen) → ((j : ℕ) → member seen.once j ≡ false) → ((j : ℕ) → member seen.twice j ≡ false) → SeenIn pairs 0 seen
seen_none pairs seen once twice =
    record {
      once = λ k h. once k ∙ ap (ltb 0) (sym (times_zero pairs (k / 7) (k % 7)));
      twice = λ k h. twice k ∙ ap (ltb 1) (sym (times_zero pairs (k / 7) (k % 7)));
    }

once_more : (t : ℕ) (b : Bool) → (ltb 0 t || b) ≡ ltb 0 (t + cond b 1 0)
once_more zero true = refl
once_more zero false = refl
once_more (suc t) b = rw (lt-ltb 0 (suc t) (omega arith)) (sym (lt-ltb 0 (suc t + cond b 1 0) (omega arith)))

twice_more : (t : ℕ) (b : Bool) → (ltb 1 t || (b && ltb 0 t)) ≡ ltb 1 (t + cond b 1 0)
twice_more zero true = refl
twice_more zero false = refl
twice_more (suc zero) true = refl
twice_more (suc zero) false = refl
twice_more (suc (suc t)) b = rw (lt-ltb 1 (suc (suc t)) (omega arith)) (sym (lt-ltb 1 (suc (suc t) + cond b 1 0) (omega arith)))

module _ (pairs : List ℕ) (i : ℕ) (old new : Seen) (hs : source_at pairs i < 7) (hd : destination_at pairs i < 7)
    (once : (j : ℕ) → member new.once j ≡ (member old.once j || eqb j (source_at pairs i * 7 + destination_at pairs i)))
    (twice : (j : ℕ) → member new.twice j ≡ (member old.twice j || (eqb j (source_at pairs i * 7 + destination_at pairs i) && member old.once j))) where
  one_more : (k : ℕ) → times pairs (k / 7) (k % 7) (i + 1) ≡ times pairs (k / 7) (k % 7) i + cond (eqb k (source_at pairs i * 7 + destination_at pairs i)) 1 0
  one_more k =
      times_more pairs (k / 7) (k % 7) i
      ∙ ap (λ (b : Bool). times pairs (k / 7) (k % 7) i + cond b 1 0) (pair_number (source_at pairs i) (destination_at pairs i) k hs hd)

  pub seen_more : SeenIn pairs i old → SeenIn pairs (i + 1) new
  seen_more seen =
      record {
        once = λ k h.
            once k
            ∙ ap (λ (b : Bool). b || eqb k (source_at pairs i * 7 + destination_at pairs i)) (seen.once k h)
            ∙ once_more (times pairs (k / 7) (k % 7) i) (eqb k (source_at pairs i * 7 + destination_at pairs i))
            ∙ ap (ltb 0) (sym (one_more k));
        twice = λ k h.
            twice k
            ∙ ap (λ (b : Bool). b || (eqb k (source_at pairs i * 7 + destination_at pairs i) && member old.once k)) (seen.twice k h)
            ∙ ap (λ (b : Bool). ltb 1 (times pairs (k / 7) (k % 7) i) || (eqb k (source_at pairs i * 7 + destination_at pairs i) && b)) (seen.once k h)
            ∙ twice_more (times pairs (k / 7) (k % 7) i) (eqb k (source_at pairs i * 7 + destination_at pairs i))
            ∙ ap (ltb 1) (sym (one_more k));
      }

-- ---- the faults of no pair, and of one more

pub faults_none : (pairs : List ℕ) (f : Faults) → f.missing ≡ false → f.twice ≡ false → f.uncovered ≡ false → FaultsIn pairs 0 f
unfolding some_pair
faults_none pairs f m t u = record { missing = m; twice = t; uncovered = u }

none_seen : (t : ℕ) → not (ltb 0 t) ≡ eqb t 0
none_seen zero = refl
none_seen (suc t) = rw (lt-ltb 0 (suc t) (omega arith)) (sym (ne_eqb (suc t) 0 (λ e. omega arith)))

some_more : (t : ℕ → ℕ → Bool) (k : ℕ) → some_pair t (k + 1) ≡ (t (k / 7) (k % 7) || some_pair t k)
some_more t k = ap (some_pair t) (add-one k) ∙ (pair_counted t).more k

module _ (pairs : List ℕ) (seen : Seen) (all : SeenIn pairs (entries pairs) seen) (k : ℕ) (h : k < all_pairs) (old new : Faults)
    (m : new.missing ≡ ((applies (k / 7) (k % 7) && not (member seen.once k)) || old.missing))
    (t : new.twice ≡ (member seen.twice k || old.twice))
    (u : new.uncovered ≡ ((not (applies (k / 7) (k % 7)) && member seen.once k) || old.uncovered)) where
  pub faults_more : FaultsIn pairs k old → FaultsIn pairs (k + 1) new
  faults_more f =
      record {
        missing =
            m
            ∙ ap (λ (b : Bool). (applies (k / 7) (k % 7) && b) || old.missing) (ap not (all.once k h) ∙ none_seen (times pairs (k / 7) (k % 7) (entries pairs)))
            ∙ ap (λ (b : Bool). missing pairs (k / 7) (k % 7) || b) f.missing
            ∙ sym (some_more (missing pairs) k);
        twice =
            t
            ∙ ap (λ (b : Bool). b || old.twice) (all.twice k h)
            ∙ ap (λ (b : Bool). twice pairs (k / 7) (k % 7) || b) f.twice
            ∙ sym (some_more (twice pairs) k);
        uncovered =
            u
            ∙ ap (λ (b : Bool). (not (applies (k / 7) (k % 7)) && b) || old.uncovered) (all.once k h)
            ∙ ap (λ (b : Bool). uncovered pairs (k / 7) (k % 7) || b) f.uncovered
            ∙ sym (some_more (uncovered pairs) k);
      }
