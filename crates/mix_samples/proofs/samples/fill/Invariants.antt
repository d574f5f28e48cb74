-- `mix_samples::samples::fill` meets its contract: the invariant is that the first samples are +0. Assumes nothing.
use mathlib.Core.Path.{◌≡◌}
use Prim.Native.Nat.{ℕ}
use lib.ListN.{length}
use lib.Seq.{sets}
use Rattle.mix.specs.Samples.{silence, sampled}
use Rattle.mix_samples.proofs.samples.fill.Given as goal

abbrev pub invariant-loop-sample : goal.invariant-loop-sample
invariant-loop-sample l = (length l.y ≡ length l.initial.y) × (l.y ≡ sets l.initial.y 0 (sampled l.sample-index (λ (j : ℕ). silence)))
