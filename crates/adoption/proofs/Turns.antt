-- The loop over the pairs, turn by turn. Assumes nothing.
use mathlib.Core.Path.{◌≡◌, refl, sym, ap, ◌∙◌}
use mathlib.Core.List.{List, [], ◌∷◌, ◌++◌}
use Prim.Native.Nat.{ℕ, ◌<◌}
use native.Mathlib.Omega.{arith}
use lib.ListN.{length, get_or}
use lib.Ieee.{Float}
use Rattle.adoption.specs.Adoption.{Lent, lent, pair_adopted, pairs_adopted, pairs_by}
use Rattle.adoption.specs.Fits.{Fit}
use Rattle.adoption.proofs.Pairs.{lent_same, pair_fit, pairs_none}
use Rattle.adoption.proofs.Kept.{Kept, kept_self, kept_trans, pair_kept}

-- what holds between two pairs: `new` is what the pairs before `rest` made of `start`
pub record Going (start old : Lent) (pairs : List ℕ) (ramp : ℕ) (rest : List ℕ) (new : Lent) : Type 0 where
  pub fit : Fit new old ramp
  pub kept : Kept start new
  pub so : pairs_adopted old ramp rest new ≡ pairs_adopted old ramp pairs start

pub going_starts : {start old : Lent} (pairs : List ℕ) {ramp : ℕ} → Fit start old ramp → Going start old pairs ramp pairs start
going_starts pairs f = record { fit = f; kept = kept_self _; so = refl }

-- a list that begins with one pair
pairs_first : (old : Lent) (ramp : ℕ) (pair rest : List ℕ) (new : Lent) → length pair ≡ 2
    → pairs_adopted old ramp (pair ++ rest) new ≡ pairs_adopted old ramp rest (pair_adopted old ramp (get_or pair 0 0) (get_or pair 1 0) new)
unfolding pairs_by
pairs_first old ramp [] rest new e = absurd (omega arith)
pairs_first old ramp (n ∷ []) rest new e = absurd (omega arith)
pairs_first old ramp (n ∷ o ∷ []) rest new e = refl
pairs_first old ramp (n ∷ o ∷ p ∷ ps) rest new e = absurd (omega arith)

-- one more pair, whose areas the code made
pub going_on : (start old : Lent) (pairs : List ℕ) (ramp : ℕ) {rest : List ℕ} {new : Lent} → Going start old pairs ramp rest new
    → (pair left : List ℕ) → rest ≡ pair ++ left → length pair ≡ 2
    → {floats : List Float} {words : List ℕ}
    → (let after = pair_adopted old ramp (get_or pair 0 0) (get_or pair 1 0) new in floats ≡ after.floats → words ≡ after.words
    → Going start old pairs ramp left (lent new.count floats words))
going_on start old pairs ramp {rest} {new} g pair left e two p q =
    let n = get_or pair 0 0 in
    let o = get_or pair 1 0 in
    rw (lent_same (pair_adopted old ramp n o new) (sym (pair_kept n o g.fit).count) p q)
    (record {
      fit = pair_fit n o g.fit;
      kept = kept_trans g.kept (pair_kept n o g.fit);
      so = sym (pairs_first old ramp pair left new two) ∙ ap (λ (l : List ℕ). pairs_adopted old ramp l new) (sym e) ∙ g.so;
    })

pub going_ends : {start old : Lent} {pairs : List ℕ} {ramp : ℕ} {rest : List ℕ} {new : Lent} → Going start old pairs ramp rest new → length rest < 2
    → new ≡ pairs_adopted old ramp pairs start
going_ends {start} {old} {pairs} {ramp} {rest} {new} g h = sym (pairs_none old ramp rest new (omega arith)) ∙ g.so
