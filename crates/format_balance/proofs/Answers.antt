-- What each test of a call makes of its answer, one law for each way out, in the order of the tests. Assumes nothing.
use mathlib.Core.Path.{◌≡◌}
use mathlib.Core.Bool.{true, false}
use mathlib.Core.List.{[], ◌∷◌}
use Prim.Native.Nat.{ℕ, ◌<◌, ◌≤◌}
use borrow.Author.Tests.{lt-ltb, le-ltb, le-leb, lt-leb}
use lib.Ieee.{Float, binary64, mul}
use Rattle.refusal.specs.Tests.{refusal}
use Rattle.format.specs.Formats.{channels}
use Rattle.format_balance.specs.Balance.{bad_balance, left_gain, right_gain, balance_gains, balance_answer, same, cross, width_in, stereo_matrix}
use Rattle.refusal.specs.declared.Reason.TheVariants.{NoFormat, OutOfRange, ShortArea}
use Rattle.std.specs.Prelude.{Ok, Err, None}

-- ---- `balance_gains`
module _ (b : Float) where
  pub gains_17 : bad_balance b ≡ true → balance_gains b ≡ Err (refusal OutOfRange None)
  unfolding balance_gains
  gains_17 e = rw e

  pub gains_pair : bad_balance b ≡ false → balance_gains b ≡ Ok (left_gain b, right_gain b)
  unfolding balance_gains
  gains_pair e = rw e

-- ---- `balance_of`
module _ (f : ℕ) (b : Float) (n : ℕ) where
  pub balance_16 : 7 ≤ f → balance_answer f b n ≡ Err (refusal NoFormat None)
  unfolding balance_answer
  balance_16 h = rw (le-leb 7 f h)

  module _ (h : f < 7) where
    pub balance_17 : bad_balance b ≡ true → balance_answer f b n ≡ Err (refusal OutOfRange None)
    unfolding balance_answer
    balance_17 e = rw (lt-leb 7 f h, e)

    module _ (e : bad_balance b ≡ false) where
      pub balance_2 : n < channels f → balance_answer f b n ≡ Err (refusal ShortArea None)
      unfolding balance_answer
      balance_2 l = rw (lt-leb 7 f h, e, lt-ltb n (channels f) l)

      pub balance_accepted : channels f ≤ n → balance_answer f b n ≡ Ok tt
      unfolding balance_answer
      balance_accepted l = rw (lt-leb 7 f h, e, le-ltb n (channels f) l)

-- ---- `stereo_matrix`
module _ (w b : Float) where
  pub stereo_width : width_in w ≡ false → stereo_matrix w b ≡ Err (refusal OutOfRange None)
  unfolding stereo_matrix
  stereo_width e = rw e

  module _ (h : width_in w ≡ true) where
    pub stereo_balance : bad_balance b ≡ true → stereo_matrix w b ≡ Err (refusal OutOfRange None)
    unfolding stereo_matrix
    stereo_balance e = rw (h, e)

    pub stereo_accepted : bad_balance b ≡ false
        → stereo_matrix w b ≡ Ok (
        mul binary64 (left_gain b) (same w)
        ∷ mul binary64 (left_gain b) (cross w)
        ∷ mul binary64 (right_gain b) (cross w)
        ∷ mul binary64 (right_gain b) (same w)
        ∷ []
        )
    unfolding stereo_matrix
    stereo_accepted e = rw (h, e)
