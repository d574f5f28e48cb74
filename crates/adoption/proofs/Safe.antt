-- Safe nodes: no adoption touches one, and an adoption is the Rust's of the list without their pairs, so of the whole list where no node is safe.
-- Assumes nothing.
use mathlib.Core.Path.{◌≡◌, refl, ap, ◌∙◌}
use mathlib.Core.Bool.{Bool, true, false, not, ◌&&◌, cond, or-false}
use mathlib.Core.List.{List, [], ◌∷◌}
use Prim.Native.Nat.{ℕ, ◌<◌}
use native.Mathlib.Decide.{dec_lt}
use native.Mathlib.Omega.{arith}
use lib.Dec.{eqb}
use borrow.Author.Tests.{le-leb, eqb-true}
use Rattle.std.proofs.lemmas.Bool.{or_from, or_right}
use Rattle.adoption.specs.Adoption.{Lent, node_in, unmatched, safe_in, skipped, pair_by, pairs_by, pair_adopted, pairs_adopted, without_safe, adoption_answer}
use Rattle.adoption.specs.Fits.{Fit}
use Rattle.adoption.proofs.Answers.{accepted_fit}
use Rattle.adoption.proofs.Pairs.{pair_skipped, pair_fit}
use Rattle.adoption.proofs.Kept.{Kept, kept_self, kept_trans, pair_kept}
use Rattle.adoption.proofs.Named.{names, named}
use Rattle.adoption.proofs.Adoption.{after, after_accepted, adoption_unnamed}
use Rattle.std.specs.Prelude.{Ok}

-- ---- a safe node

module _ (new old : Lent) (i : ℕ) (safe : safe_in new i ≡ true) where
  not_names : (n o : ℕ) → names new old i n o ≡ false
  not_names n o = go (eqb n i) refl
    where
      go : (b : Bool) → eqb n i ≡ b → (b && not (skipped new old n o)) ≡ false
      go true e =
          let s : safe_in new n ≡ true = ap (safe_in new) (eqb-true n i e) ∙ safe in
          rw (or_right (unmatched new old n o) (safe_in new n) s)
      go false e = refl

  not_named : (pairs : List ℕ) → named new old i pairs ≡ false
  not_named [] = refl
  not_named (n ∷ []) = refl
  not_named (n ∷ o ∷ pairs) = or_from (names new old i n o) _ (not_names n o) (not_named pairs)

  -- is the same after any adoption, whatever the list
  pub safe_untouched : (pairs : List ℕ) (ramp : ℕ) → node_in (after new old pairs ramp) i ≡ node_in new i
  safe_untouched pairs ramp = adoption_unnamed new old pairs ramp i (not_named pairs)

-- ---- the Rust's adoption, of the list without the pairs of safe nodes

safe_same : {start new : Lent} → Kept start new → (n : ℕ) → safe_in new n ≡ safe_in start n
safe_same k n = rw (k.safes n)

-- a pair whose new node is not safe is one of the Rust's
pair_not_safe : (new old : Lent) (ramp n o : ℕ) → safe_in new n ≡ false → pair_adopted old ramp n o new ≡ pair_by unmatched old ramp n o new
unfolding pair_by
pair_not_safe new old ramp n o e = rw (e, or-false (unmatched new old n o))

module _ (start old : Lent) (ramp : ℕ) where
  pairs_rust : (pairs : List ℕ) {new : Lent} → Fit new old ramp → Kept start new
      → pairs_adopted old ramp pairs new ≡ pairs_by unmatched old ramp (without_safe start pairs) new
  unfolding pairs_by
  pairs_rust [] f k = refl
  pairs_rust (n ∷ []) f k = refl
  pairs_rust (n ∷ o ∷ pairs) {new} f k = go (safe_in start n) refl (pairs_rust pairs (pair_fit n o f) (kept_trans k (pair_kept n o f)))
    where
      next : Lent
      next = pair_adopted old ramp n o new

      go : (b : Bool) → safe_in start n ≡ b
          → pairs_adopted old ramp pairs next ≡ pairs_by unmatched old ramp (without_safe start pairs) next
          → pairs_adopted old ramp pairs next ≡ pairs_by unmatched old ramp (cond b (without_safe start pairs) (n ∷ o ∷ without_safe start pairs)) new
      go true e ih =
          let s : skipped new old n o ≡ true = or_right (unmatched new old n o) (safe_in new n) (safe_same k n ∙ e) in
          ih ∙ ap (pairs_by unmatched old ramp (without_safe start pairs)) (pair_skipped new old n o ramp s)
      go false e ih = ih ∙ ap (pairs_by unmatched old ramp (without_safe start pairs)) (pair_not_safe new old ramp n o (safe_same k n ∙ e))

  -- a pair past the new plan's nodes is skipped by both rules
  pair_same : (n o : ℕ) (new : Lent) → Kept start new → ((i : ℕ) → i < start.count → safe_in start i ≡ false)
      → pair_adopted old ramp n o new ≡ pair_by unmatched old ramp n o new
  unfolding pair_by
  pair_same n o new k none = go (dec_lt n new.count)
    where
      go : Dec (n < new.count) → pair_adopted old ramp n o new ≡ pair_by unmatched old ramp n o new
      go (yes h) = pair_not_safe new old ramp n o (safe_same k n ∙ none n (omega (arith, k.count)))
      go (no h) = rw (le-leb new.count n (omega arith))

  pairs_same : (pairs : List ℕ) {new : Lent} → Fit new old ramp → Kept start new → ((i : ℕ) → i < start.count → safe_in start i ≡ false)
      → pairs_adopted old ramp pairs new ≡ pairs_by unmatched old ramp pairs new
  unfolding pairs_by
  pairs_same [] f k none = refl
  pairs_same (n ∷ []) f k none = refl
  pairs_same (n ∷ o ∷ pairs) f k none =
      pairs_same pairs (pair_fit n o f) (kept_trans k (pair_kept n o f)) none ∙ ap (pairs_by unmatched old ramp pairs) (pair_same n o _ k none)

module _ (new old : Lent) (pairs : List ℕ) (ramp : ℕ) (e : adoption_answer new old pairs ramp ≡ Ok tt) where
  -- an accepted adoption is the Rust's, of the list without the pairs of safe nodes
  pub without_safe_lem : after new old pairs ramp ≡ pairs_by unmatched old ramp (without_safe new pairs) new
  without_safe_lem = after_accepted new old pairs ramp e ∙ pairs_rust new old ramp pairs (accepted_fit new old pairs ramp e) (kept_self new)

  -- "With safe 0 all nodes behave as the Rust's", of an adoption that is accepted
  pub none_safe : ((i : ℕ) → i < new.count → safe_in new i ≡ false) → after new old pairs ramp ≡ pairs_by unmatched old ramp pairs new
  none_safe none = after_accepted new old pairs ramp e ∙ pairs_same new old ramp pairs (accepted_fit new old pairs ramp e) (kept_self new) none
