-- `mix_samples::samples::copy` meets its contract: the invariant is that the first i samples are there. Assumes nothing.
use mathlib.Core.Path.{◌≡◌}
use lib.ListN.{length, get_or}
use lib.Seq.{sets}
use lib.Ieee.{nan}
use Rattle.mix.specs.Samples.{sampled}
use Rattle.mix_samples.proofs.samples.copy.Given as goal

abbrev pub invariant-loop-i : goal.invariant-loop-i
invariant-loop-i l = (length l.y ≡ length l.initial.y) × (l.y ≡ sets l.initial.y 0 (sampled l.i (λ j. get_or l.x j nan)))
