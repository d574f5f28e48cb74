-- `signals::digest::with_frames` meets its contract. The loop's invariant: the first k samples of each channel are in. Assumes nothing.
use Prim.Native.Nat.{◌-◌, ◌/◌, ◌≤◌}
use mathlib.Core.Path.{◌≡◌}
use lib.ListN.{length}
use Rattle.signals.specs.Digest.{with_frames}
use Rattle.signals.proofs.digest.with_frames.Given as goal

abbrev pub invariant-loop-k : goal.invariant-loop-k
invariant-loop-k l = (l.k ≤ 256) × (l.digest ≡ with_frames 256 (length l.blocks / 256) l.digest-2 l.blocks l.k)

abbrev pub decreases-loop-k : goal.decreases-loop-k
decreases-loop-k l = 256 - l.k
