-- The channels that the steps append to the output, counted step by step. Assumes nothing.
use mathlib.Core.Path.{◌≡◌, sym, ap, ◌∙◌}
use mathlib.Core.List.{List}
use Prim.Native.Nat.{ℕ, ◌+◌, ◌-◌, ◌*◌, ◌≤◌, ◌<◌}
use native.Mathlib.Nat.{sub-zero}
use native.Mathlib.Omega.{arith}
use Rattle.plan.specs.declared.Step.{Step}
use Rattle.plan.specs.Words.{read_at, decoded_from, decoded}
use Rattle.plan.proofs.Answers.{rest_of}
use Rattle.plan.proofs.Words.{decoded_on, decoded_none}
use Rattle.plan.specs.Loops.{channels, channels_of}
use Rattle.std.specs.Prelude.{Some}

-- i of n steps are behind, and have `total` channels
pub record Counting (w : List ℕ) (n total at i : ℕ) : Type 0 where
  pub turns : i ≤ n
  pub small : total ≤ i * 4294967296
  pub so : channels_of (decoded w n) ≡ total + channels_of (decoded_from w (n - i) at)

module _ (w : List ℕ) (n : ℕ) where
  pub counting_starts : Counting w n 0 0 0
  unfolding decoded
  counting_starts = record { turns = omega arith; small = omega arith; so = rw sub-zero (omega arith) }

  module _ (total at i : ℕ) (c : Counting w n total at i) where
    pub counting_more : i < n → {s : Step} {next : ℕ} → read_at w at ≡ Some (s, next) → channels s < 4294967296
        → Counting w n (total + channels s) next (i + 1)
    unfolding channels_of
    counting_more h {s} {next} r b =
        record {
          turns = omega arith;
          small = omega (arith, c.small);
          so = c.so ∙ ap (λ (l : List Step). total + channels_of l) (decoded_on w at (rest_of h) r) ∙ omega arith;
        }

    pub counting_ends : n ≤ i → total ≡ channels_of (decoded w n)
    unfolding channels_of
    counting_ends h = sym (c.so ∙ ap (λ (l : List Step). total + channels_of l) (decoded_none w at {left = n - i} (omega arith)) ∙ omega arith)
