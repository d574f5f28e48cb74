-- One pair of an adoption, skipped or not, after which its tests still pass, and a list that holds no pair. Assumes nothing.
use mathlib.Core.Path.{◌≡◌, refl}
use mathlib.Core.Bool.{Bool, true, false, not, ◌||◌}
use mathlib.Core.List.{List, [], ◌∷◌}
use Prim.Native.Nat.{ℕ, ◌+◌, ◌<◌, ◌≤◌}
use native.Mathlib.Nat.{not-suc-le-zero, le_of_suc-le-suc}
use native.Mathlib.Omega.{arith}
use lib.ListN.{length}
use lib.Ieee.{Float}
use lib.Dec.{leb, eqb}
use borrow.Author.Tests.{lt-leb, leb-false, eqb-true, eq-eqb, not-false}
use Rattle.std.proofs.lemmas.Bool.{or_parts}
use Rattle.node.specs.Nodes.{Full}
use Rattle.node.specs.Areas.{Room, len_at, safe_at, InRange}
use Rattle.node.proofs.Kept.{full_load}
use Rattle.node.proofs.Areas.{length_stored_floats, length_stored_words}
use Rattle.node.proofs.Bad.{none_bad_at, none_bad_stored}
use Rattle.adoption.specs.Adoption.{Lent, lent, node_in, unmatched, safe_in, skipped, adopted_at, stored, pair_adopted, pairs_adopted, pair_by, pairs_by}
use Rattle.adoption.specs.Fits.{Fit}
use Rattle.adoption.proofs.Adopted.{adopted_full, adopted_good}

pub lent_same : (l : Lent) {count : ℕ} {floats : List Float} {words : List ℕ} → count ≡ l.count → floats ≡ l.floats → words ≡ l.words
    → lent count floats words ≡ l
lent_same l p q r = λ i. record { count = p i; floats = q i; words = r i }

-- ---- one pair

-- not skipped
pub record Taken (new old : Lent) (n o : ℕ) : Type 0 where
  pub here : n < new.count
  pub there : o < old.count
  pub lens : len_at new.words n ≡ len_at old.words o
  pub not_safe : safe_at new.words n ≡ 0

module _ (new old : Lent) (n o : ℕ) where
  pub taken_not : Taken new old n o → skipped new old n o ≡ false
  taken_not t =
      rw (
        lt-leb new.count n t.here,
        lt-leb old.count o t.there,
        eq-eqb (len_at new.words n) (len_at old.words o) t.lens,
        eq-eqb (safe_at new.words n) 0 t.not_safe,
      )

  pub not_taken : skipped new old n o ≡ false → Taken new old n o
  not_taken e =
      let s = or_parts (unmatched new old n o) (safe_in new n) e in
      let a = or_parts (leb new.count n || leb old.count o) (not (eqb (len_at new.words n) (len_at old.words o))) s.0 in
      let b = or_parts (leb new.count n) (leb old.count o) a.0 in
      record {
        here = leb-false new.count n b.0;
        there = leb-false old.count o b.1;
        lens = eqb-true _ _ (not-false (eqb (len_at new.words n) (len_at old.words o)) a.1);
        not_safe = eqb-true _ _ (not-false (eqb (safe_at new.words n) 0) s.1);
      }

  module _ (ramp : ℕ) where
    pub pair_skipped : skipped new old n o ≡ true → pair_adopted old ramp n o new ≡ new
    unfolding pair_by
    pair_skipped e = rw e

    pub pair_taken : Taken new old n o → pair_adopted old ramp n o new ≡ stored new n (adopted_at new old ramp n o)
    unfolding pair_by
    pair_taken t = rw (taken_not t)

    -- what holds of the new plan's nodes, and of them with the pair's node stored, holds after the pair
    pub of_pair : (P : Lent → Type 0) → P new → (Taken new old n o → P (stored new n (adopted_at new old ramp n o))) → P (pair_adopted old ramp n o new)
    of_pair P p q = go (skipped new old n o) refl
      where
        go : (b : Bool) → skipped new old n o ≡ b → P (pair_adopted old ramp n o new)
        go true e = rw (pair_skipped e) p
        go false e = rw (pair_taken (not_taken e)) (q (not_taken e))

-- ---- the node of a pair that is not skipped
module _ {new old : Lent} {ramp n o : ℕ} (f : Fit new old ramp) (t : Taken new old n o) where
  pub new_room : Room (n + 1) new.floats new.words
  new_room = let h = t.here in let r = f.new_room in (omega (arith, r.0), omega (arith, r.1))

  pub old_room : Room (o + 1) old.floats old.words
  old_room = let h = t.there in let r = f.old_room in (omega (arith, r.0), omega (arith, r.1))

  pub new_good : InRange (node_in new n)
  new_good = none_bad_at new.words new.count f.good new.floats n t.here

  pub adopted_full_at : Full (adopted_at new old ramp n o)
  adopted_full_at =
      adopted_full (node_in new n) (node_in old o) ramp
      (full_load new.floats new.words n new_room.0) (full_load old.floats old.words o old_room.0)

  stored_fit : Fit (stored new n (adopted_at new old ramp n o)) old ramp
  stored_fit =
      let node = adopted_at new old ramp n o in
      let r = f.new_room in
      record {
        new_room = (omega (arith, r.0, length_stored_floats new.floats n node), omega (arith, r.1, length_stored_words new.words n node));
        old_room = f.old_room;
        good = none_bad_stored new.words n node new.count new_room.1 (adopted_good (node_in new n) (node_in old o) ramp new_good f.short) f.good;
        short = f.short;
      }

pub pair_fit : {new old : Lent} {ramp : ℕ} (n o : ℕ) → Fit new old ramp → Fit (pair_adopted old ramp n o new) old ramp
pair_fit {new} {old} {ramp} n o f = of_pair new old n o ramp (λ (l : Lent). Fit l old ramp) f (λ t. stored_fit f t)

-- ---- the list of pairs
module _ (old : Lent) (ramp : ℕ) where
  pub pairs_none : (pairs : List ℕ) (new : Lent) → length pairs ≤ 1 → pairs_adopted old ramp pairs new ≡ new
  unfolding pairs_by
  pairs_none [] new h = refl
  pairs_none (n ∷ []) new h = refl
  pairs_none (n ∷ o ∷ pairs) new h = absurd (not-suc-le-zero (le_of_suc-le-suc h))
