-- Two tests that code joins by and, and a test of equality the other way round. Assumes nothing.
use mathlib.Core.Path.{◌≡◌, refl, sym}
use mathlib.Core.Bool.{Bool, true, false, not, ◌&&◌, false≢true}
use Prim.Native.Nat.{ℕ}
use lib.Dec.{eqb}
use borrow.Author.Tests.{eqb-true, eqb-false, eq-eqb, ne_eqb}

-- two tests, neither of which is met
pub first_not : (a b : Bool) → not a && not b ≡ true → a ≡ false
first_not true b e = absurd (false≢true e)
first_not false b e = refl

pub second_not : (a b : Bool) → not a && not b ≡ true → b ≡ false
second_not true b e = absurd (false≢true e)
second_not false true e = absurd (false≢true e)
second_not false false e = refl

pub eqb_swap : (a b : ℕ) → eqb a b ≡ eqb b a
eqb_swap a b = go (eqb a b) refl
  where
    go : (t : Bool) → eqb a b ≡ t → t ≡ eqb b a
    go true e = sym (eq-eqb b a (sym (eqb-true a b e)))
    go false e = sym (ne_eqb b a (λ q. eqb-false a b e (sym q)))
