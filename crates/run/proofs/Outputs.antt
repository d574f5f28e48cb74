-- How many samples a step writes, and how many channels steps append. Assumes nothing.
use mathlib.Core.Path.{◌≡◌, ◌∙◌, ap, refl}
use mathlib.Core.List.{List, ◌∷◌}
use Prim.Native.Nat.{ℕ, ◌+◌, ◌*◌, ◌≤◌}
use native.Mathlib.Nat.{zero-mul}
use native.Mathlib.Omega.{arith}
use lib.Ieee.{Float}
use Rattle.plan.specs.declared.Plan.{Plan}
use Rattle.plan.specs.declared.Span.{Span}
use Rattle.plan.specs.declared.Step.{Step}
use Rattle.plan.specs.declared.Step.TheVariants.{Output}
use Rattle.plan.specs.Resolved.{resolved, Resolved, patch, gain, matrix, clear, send, output, channels_out}
use Rattle.plan.specs.Sound.{Placed}
use Rattle.plan.specs.Loops.{channels}
use Rattle.plan.proofs.Named.{channels_named}
use Rattle.run.specs.Run.{State, stepped, output_channels}

pub output_room : {x : Step} (s : Span) (o block w n : ℕ) → x ≡ Output s o → w + channels x * block ≤ n → w + s.len * block ≤ n
output_room s o block w n e h = rw e at h

-- the channels of a list of steps, step by step
pub channels_more : (x : Resolved) (xs : List Resolved) → output_channels (x ∷ xs) ≡ channels_out x + output_channels xs
unfolding output_channels
channels_more x xs = refl

-- what a step adds to the samples written
pub wrote_out : (block : ℕ) (input : ℕ → ℕ → List Float) (x : Resolved) (s : State) → (stepped block input x s).wrote ≡ s.wrote + channels_out x * block
unfolding stepped
wrote_out block input (patch i c d) s = rw zero-mul (omega arith)
wrote_out block input (gain n src dst) s = rw zero-mul (omega arith)
wrote_out block input (matrix n src dst) s = rw zero-mul (omega arith)
wrote_out block input (clear dst) s = rw zero-mul (omega arith)
wrote_out block input (send n src dst weights) s = rw zero-mul (omega arith)
wrote_out block input (output src slot) s = refl

pub wrote_more : (p : Plan) (indices : List ℕ) (coefficients : List Float) (block : ℕ) (input : ℕ → ℕ → List Float) (x : Step) (s : State)
    → Placed p indices x → (stepped block input (resolved p indices coefficients x) s).wrote ≡ s.wrote + channels x * block
wrote_more p indices coefficients block input x s h =
    wrote_out block input (resolved p indices coefficients x) s
    ∙ ap (λ (c : ℕ). s.wrote + c * block) (channels_named p indices coefficients x h)
