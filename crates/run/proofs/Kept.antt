-- What a run leaves as it was: the length of every area, buffers that no step writes, and the output past the samples written. A buffer's number
-- may be any, so that this holds of the buffer area past the plan's buffers too. Assumes nothing.
use mathlib.Core.Path.{◌≡◌, refl, ◌∙◌}
use mathlib.Core.List.{List, [], ◌∷◌}
use Prim.Native.Nat.{ℕ, ◌<◌, ◌≤◌}
use native.Mathlib.Omega.{arith}
use lib.ListN.{get_or}
use lib.Ieee.{Float, nan}
use Rattle.mix.specs.Samples.{sample}
use Rattle.mix.specs.Mix.{NotIn, used}
use Rattle.mix.proofs.Put.{put_other}
use Rattle.mix.proofs.Laws.{not_first, gained_other, rows_other, sends_other, cleared_other, appended_past}
use Rattle.plan.specs.Resolved.{Resolved, patch, gain, matrix, clear, send, output}
use Rattle.input.specs.Input.{lookup}
use Rattle.run.specs.Run.{RunGiven, State, stepped, run_steps, steps_of_run, admission, processed}
use Rattle.run.proofs.Answers.{accepted_runs, refused_keeps}
use Rattle.run.proofs.States.{SameLengths, run_lengths}
use Rattle.run.proofs.Outputs.{wrote_out}
use Rattle.refusal.specs.Tests.{Answer}
use Rattle.std.specs.Prelude.{Ok, Err}

-- the buffers that a step writes
abbrev pub dst_used : Resolved → List ℕ
dst_used (patch i c d) = d ∷ []
dst_used (gain n src dst) = used dst src
dst_used (matrix n src dst) = dst
dst_used (clear dst) = dst
dst_used (send n src dst weights) = dst
dst_used (output src slot) = []

-- none of the steps writes buffer b
abbrev pub Unwritten : ℕ → List Resolved → Type 0
Unwritten b [] = Unit {0}
Unwritten b (x ∷ xs) = NotIn b (dst_used x) × Unwritten b xs

module _ (block : ℕ) (input : ℕ → ℕ → List Float) where
  -- ---- sample k of a buffer b that no step writes
  module _ (b k : ℕ) (h : k < block) where
    step_other : (x : Resolved) (s : State) → NotIn b (dst_used x) → sample block (stepped block input x s).buffers b k ≡ sample block s.buffers b k
    unfolding stepped
    step_other (patch i c d) s o = put_other block d _ s.buffers b k (not_first [] o) h
    step_other (gain n src dst) s o = gained_other block b k h _ 0 src dst s.buffers o
    step_other (matrix n src dst) s o = rows_other block b k h _ 0 src dst s.buffers o
    step_other (clear dst) s o = cleared_other block b k h dst s.buffers o
    step_other (send n src dst weights) s o = sends_other block b k h _ weights 0 src dst s.buffers o
    step_other (output src slot) s o = refl

    steps_other : (xs : List Resolved) (s : State) → Unwritten b xs → sample block (run_steps block input xs s).buffers b k ≡ sample block s.buffers b k
    unfolding run_steps
    steps_other [] s o = refl
    steps_other (x ∷ xs) s o = steps_other xs (stepped block input x s) o.1 ∙ step_other x s o.0

  -- ---- place i of the output, past what is written
  step_grows : (x : Resolved) (s : State) → s.wrote ≤ (stepped block input x s).wrote
  step_grows x s = omega (arith, wrote_out block input x s)

  steps_grow : (xs : List Resolved) (s : State) → s.wrote ≤ (run_steps block input xs s).wrote
  unfolding run_steps
  steps_grow [] s = omega arith
  steps_grow (x ∷ xs) s = omega (arith, step_grows x s, steps_grow xs (stepped block input x s))

  step_past : (x : Resolved) (s : State) (i : ℕ) → (stepped block input x s).wrote ≤ i → get_or (stepped block input x s).output i nan ≡ get_or s.output i nan
  unfolding stepped
  step_past (patch j c d) s i h = refl
  step_past (gain n src dst) s i h = refl
  step_past (matrix n src dst) s i h = refl
  step_past (clear dst) s i h = refl
  step_past (send n src dst weights) s i h = refl
  step_past (output src slot) s i h = appended_past block s.buffers src s.wrote s.output i h

  steps_past : (xs : List Resolved) (s : State) (i : ℕ) → (run_steps block input xs s).wrote ≤ i → get_or (run_steps block input xs s).output i nan ≡ get_or s.output i nan
  unfolding run_steps
  steps_past [] s i h = refl
  steps_past (x ∷ xs) s i h =
      steps_past xs (stepped block input x s) i h
      ∙ step_past x s i (omega (arith, h, steps_grow xs (stepped block input x s)))

-- ---- the call, refused or not
module _ (g : RunGiven) (s : State) where
  abbrev block : ℕ
  block = g.plan.block

  abbrev input : ℕ → ℕ → List Float
  input = lookup g.directory g.samples

  pub process_lengths : SameLengths block s (processed g s)
  process_lengths = go (admission g s) refl
    where
      go : (a : Answer) → admission g s ≡ a → SameLengths block s (processed g s)
      go (Ok _) e = rw (accepted_runs g s e) (run_lengths block input (steps_of_run g) s)
      go (Err r) e = rw (refused_keeps g s e) (record { floats = refl; words = refl; buffers = refl; output = refl })

  pub process_other : (b k : ℕ) → k < block → Unwritten b (steps_of_run g) → sample block (processed g s).buffers b k ≡ sample block s.buffers b k
  process_other b k h o = go (admission g s) refl
    where
      go : (a : Answer) → admission g s ≡ a → sample block (processed g s).buffers b k ≡ sample block s.buffers b k
      go (Ok _) e = rw (accepted_runs g s e) (steps_other block input b k h (steps_of_run g) s o)
      go (Err r) e = rw (refused_keeps g s e) refl

  pub process_past : (i : ℕ) → (processed g s).wrote ≤ i → get_or (processed g s).output i nan ≡ get_or s.output i nan
  process_past i = go (admission g s) refl
    where
      go : (a : Answer) → admission g s ≡ a → (processed g s).wrote ≤ i → get_or (processed g s).output i nan ≡ get_or s.output i nan
      go (Ok _) e = rw (accepted_runs g s e) (steps_past block input (steps_of_run g) s i)
      go (Err r) e = rw (refused_keeps g s e) (λ h. refl)
