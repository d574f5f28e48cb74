-- The nodes that pairs name: one that none does stays as it is, and any other is what the last of them made of it. Assumes nothing.
use mathlib.Core.Path.{◌≡◌, refl, sym, ap, ◌∙◌}
use mathlib.Core.Bool.{Bool, true, false, not, ◌&&◌, ◌||◌, cond, true≢false, false≢true}
use mathlib.Core.List.{List, [], ◌∷◌}
use Prim.Native.Nat.{ℕ}
use lib.Dec.{eqb}
use borrow.Author.Tests.{eqb-true, eq-eqb}
use Rattle.std.proofs.lemmas.Bool.{or_parts}
use Rattle.node.specs.declared.Node.{Node}
use Rattle.adoption.specs.Adoption.{Lent, node_in, skipped, adopted, adopted_at, stored, pair_adopted, pairs_adopted, pairs_by}
use Rattle.adoption.specs.Fits.{Fit}
use Rattle.adoption.proofs.Adopted.{adopted_again}
use Rattle.adoption.proofs.Pairs.{Taken, taken_not, not_taken, pair_taken, of_pair, pair_fit}
use Rattle.adoption.proofs.Kept.{Kept, kept_trans, pair_kept, stored_here, stored_apart}

-- a pair names new node i, and is not skipped
abbrev pub names : Lent → Lent → ℕ → ℕ → ℕ → Bool
names new old i n o = eqb n i && not (skipped new old n o)

abbrev pub named : Lent → Lent → ℕ → List ℕ → Bool
named new old i [] = false
named new old i (n ∷ []) = false
named new old i (n ∷ o ∷ pairs) = names new old i n o || named new old i pairs

-- the old node of the last pair that names i, or d where none does
abbrev pub last_old : Lent → Lent → ℕ → List ℕ → ℕ → ℕ
last_old new old i [] d = d
last_old new old i (n ∷ []) d = d
last_old new old i (n ∷ o ∷ pairs) d = last_old new old i pairs (cond (names new old i n o) o d)

-- pairs skip by counts, lens and safes alone, which stay
skips_same : {start new : Lent} (old : Lent) → Kept start new → (n o : ℕ) → skipped new old n o ≡ skipped start old n o
skips_same old k n o = rw (k.count, k.lens n, k.safes n)

-- ---- one pair
module _ {start old new : Lent} {ramp : ℕ} (i n o : ℕ) (f : Fit new old ramp) (k : Kept start new) where
  pair_unnamed : names start old i n o ≡ false → node_in (pair_adopted old ramp n o new) i ≡ node_in new i
  pair_unnamed e = of_pair new old n o ramp (λ (l : Lent). node_in l i ≡ node_in new i) refl (λ t. stored_apart f t i (apart t))
    where
      apart : Taken new old n o → i ≡ n → ⊥
      apart t p =
          let q : names start old i n o ≡ true = rw (eq-eqb n i (sym p), sym (skips_same old k n o), taken_not new old n o t) in
          true≢false (sym q ∙ e)

  pair_named : names start old i n o ≡ true → node_in (pair_adopted old ramp n o new) i ≡ adopted (node_in new i) (node_in old o) ramp
  pair_named e = go (eqb n i) (skipped start old n o) refl refl
    where
      go : (a b : Bool) → eqb n i ≡ a → skipped start old n o ≡ b → node_in (pair_adopted old ramp n o new) i ≡ adopted (node_in new i) (node_in old o) ramp
      go true false p q =
          let t = not_taken new old n o (skips_same old k n o ∙ q) in
          ap (λ (l : Lent). node_in l i) (pair_taken new old n o ramp t)
          ∙ ap (λ (j : ℕ). node_in (stored new n (adopted_at new old ramp n o)) j) (sym (eqb-true n i p))
          ∙ stored_here f t
          ∙ ap (λ (j : ℕ). adopted (node_in new j) (node_in old o) ramp) (eqb-true n i p)
      go true true p q = absurd (false≢true (sym (rw (p, q)) ∙ e))
      go false b p q = absurd (false≢true (sym (rw p) ∙ e))

-- ---- all pairs
module _ {start old : Lent} {ramp : ℕ} (i : ℕ) where
  pub pairs_unnamed : (pairs : List ℕ) {new : Lent} → Fit new old ramp → Kept start new → named start old i pairs ≡ false
      → node_in (pairs_adopted old ramp pairs new) i ≡ node_in new i
  unfolding pairs_by
  pairs_unnamed [] f k e = refl
  pairs_unnamed (n ∷ []) f k e = refl
  pairs_unnamed (n ∷ o ∷ pairs) f k e =
      let a = or_parts (names start old i n o) (named start old i pairs) e in
      pairs_unnamed pairs (pair_fit n o f) (kept_trans k (pair_kept n o f)) a.1 ∙ pair_unnamed i n o f k a.0

  -- a node that the pair of old node d made of `first`
  pairs_again : (first : Node) (pairs : List ℕ) {new : Lent} → Fit new old ramp → Kept start new → (d : ℕ)
      → node_in new i ≡ adopted first (node_in old d) ramp
      → node_in (pairs_adopted old ramp pairs new) i ≡ adopted first (node_in old (last_old start old i pairs d)) ramp
  unfolding pairs_by
  pairs_again first [] f k d e = e
  pairs_again first (n ∷ []) f k d e = e
  pairs_again first (n ∷ o ∷ pairs) {new} f k d e =
      pairs_again first pairs (pair_fit n o f) (kept_trans k (pair_kept n o f)) (cond (names start old i n o) o d) (go (names start old i n o) refl)
    where
      go : (b : Bool) → names start old i n o ≡ b → node_in (pair_adopted old ramp n o new) i ≡ adopted first (node_in old (cond b o d)) ramp
      go true p =
          pair_named i n o f k p ∙ ap (λ (m : Node). adopted m (node_in old o) ramp) e ∙ adopted_again first (node_in old d) (node_in old o) ramp
      go false p = pair_unnamed i n o f k p ∙ e

  pub pairs_named : (pairs : List ℕ) {new : Lent} → Fit new old ramp → Kept start new → (d : ℕ) → named start old i pairs ≡ true
      → node_in (pairs_adopted old ramp pairs new) i ≡ adopted (node_in new i) (node_in old (last_old start old i pairs d)) ramp
  unfolding pairs_by
  pairs_named [] f k d e = absurd (false≢true e)
  pairs_named (n ∷ []) f k d e = absurd (false≢true e)
  pairs_named (n ∷ o ∷ pairs) {new} f k d e =
      go (names start old i n o) refl e (pairs_named pairs (pair_fit n o f) (kept_trans k (pair_kept n o f)) d)
    where
      next : Lent
      next = pair_adopted old ramp n o new

      go : (b : Bool) → names start old i n o ≡ b → (b || named start old i pairs) ≡ true
          → (named start old i pairs ≡ true → node_in (pairs_adopted old ramp pairs next) i ≡ adopted (node_in next i) (node_in old (last_old start old i pairs d)) ramp)
          → node_in (pairs_adopted old ramp pairs next) i ≡ adopted (node_in new i) (node_in old (last_old start old i pairs (cond b o d))) ramp
      go true p q ih = pairs_again (node_in new i) pairs (pair_fit n o f) (kept_trans k (pair_kept n o f)) o (pair_named i n o f k p)
      go false p q ih = ih q ∙ ap (λ (m : Node). adopted m (node_in old (last_old start old i pairs d)) ramp) (pair_unnamed i n o f k p)
