-- What each test of `width_matrix` makes of its answer, one law for each way out, in the order of the tests; and what an accepted call says.
-- Assumes nothing.
use mathlib.Core.Path.{◌≡◌}
use mathlib.Core.Bool.{true, false}
use Prim.Native.Nat.{ℕ, ◌*◌, ◌<◌, ◌≤◌}
use borrow.Author.Tests.{lt-ltb, le-ltb, le-leb, lt-leb, leb-false, ltb-false}
use Rattle.refusal.specs.Tests.{refusal}
use Rattle.refusal.proofs.Laws.{accepted_none}
use Rattle.format.specs.Formats.{channels}
use Rattle.format_fold.specs.Folds.{gains_in_range}
use Rattle.format_fold.specs.Width.{width_tests, width_answer}
use Rattle.format_fold.specs.declared.FoldGains.{FoldGains}
use Rattle.refusal.specs.declared.Reason.TheVariants.{NoFormat, OutOfRange, ShortArea}
use Rattle.std.specs.Prelude.{Ok, Err, None}

module _ (src dst : ℕ) (g : FoldGains) (n : ℕ) where
  pub width_src : 7 ≤ src → width_answer src dst g n ≡ Err (refusal NoFormat None)
  unfolding width_answer
  width_src h = rw (le-leb 7 src h)

  module _ (hs : src < 7) where
    pub width_dst : 7 ≤ dst → width_answer src dst g n ≡ Err (refusal NoFormat None)
    unfolding width_answer
    width_dst h = rw (lt-leb 7 src hs, le-leb 7 dst h)

    module _ (hd : dst < 7) where
      pub width_17 : gains_in_range g ≡ false → width_answer src dst g n ≡ Err (refusal OutOfRange None)
      unfolding width_answer
      width_17 e = rw (lt-leb 7 src hs, lt-leb 7 dst hd, e)

      module _ (e : gains_in_range g ≡ true) where
        pub width_2 : n < channels dst * channels src → width_answer src dst g n ≡ Err (refusal ShortArea None)
        unfolding width_answer
        width_2 l = rw (lt-leb 7 src hs, lt-leb 7 dst hd, e, lt-ltb n (channels dst * channels src) l)

        pub width_accepted : channels dst * channels src ≤ n → width_answer src dst g n ≡ Ok tt
        unfolding width_answer
        width_accepted l = rw (lt-leb 7 src hs, lt-leb 7 dst hd, e, le-ltb n (channels dst * channels src) l)

-- an accepted call is of two formats, with room for the matrix
pub record Fitting (src dst n : ℕ) : Type 0 where
  pub source : src < 7
  pub destination : dst < 7
  pub room : channels dst * channels src ≤ n

pub fitting : (src dst : ℕ) (g : FoldGains) (n : ℕ) → width_answer src dst g n ≡ Ok tt → Fitting src dst n
unfolding width_answer
fitting src dst g n e =
    let k = (accepted_none (width_tests src dst g n) (Ok tt) e).0 in
    record { source = leb-false 7 src k.0; destination = leb-false 7 dst k.1.0; room = ltb-false n (channels dst * channels src) k.1.1.1.0 }
