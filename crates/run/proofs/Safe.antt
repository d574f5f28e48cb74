-- No setting and no run, accepted or refused, changes the safe of a node, whatever the areas hold. Assumes nothing.
use mathlib.Core.Path.{◌≡◌, refl, ap, ◌∙◌}
use mathlib.Core.List.{List, [], ◌∷◌}
use Prim.Native.Nat.{ℕ}
use native.Mathlib.Omega.{arith}
use lib.ListN.{length}
use lib.Ieee.{Float}
use Rattle.node.specs.declared.Node.{Node}
use Rattle.node.specs.Nodes.{set_node, finish_block}
use Rattle.node.specs.Areas.{safe_at, node_at, words_of, stored_words}
use Rattle.node.proofs.Kept.{safe_set, safe_finish}
use Rattle.node.proofs.Areas.{word_stays}
use Rattle.plan.specs.Resolved.{Resolved, node_named}
use Rattle.setting.specs.Setting.{node_of, setting_answer, setting_words}
use Rattle.setting.proofs.Setting.{words_accepted, words_refused}
use Rattle.input.specs.Input.{lookup}
use Rattle.run.specs.Run.{RunGiven, State, stepped, run_steps, finished, admission, processed}
use Rattle.run.specs.Calls.{Fixed, Changing, Call, set, run, given_to, start, after, after_all, steps_of_plan}
use Rattle.run.proofs.Answers.{accepted_runs, refused_keeps}
use Rattle.run.proofs.States.{ends, step_nodes}
use Rattle.refusal.specs.Tests.{Answer}
use Rattle.std.specs.Prelude.{Ok, Err}

-- a node that is stored with the safe that it had
stored_safe : (words : List ℕ) (n : ℕ) (node : Node) (i : ℕ) → node.safe ≡ safe_at words n → safe_at (stored_words words n node) i ≡ safe_at words i
unfolding words_of
stored_safe words n node i e = word_stays words n node i 3 (omega arith) e

module _ (block i : ℕ) where
  finished_safe : (n : ℕ) (s : State) → safe_at (finished block n s).words i ≡ safe_at s.words i
  unfolding node_at
  finished_safe n s =
      let node = node_at s.floats s.words n in
      stored_safe s.words n (finish_block node block) i (safe_finish node block)

  ends_safe : (ns : List ℕ) (s : State) → safe_at (ends block ns s).words i ≡ safe_at s.words i
  ends_safe [] s = refl
  ends_safe (n ∷ ns) s = ends_safe ns (finished block n s) ∙ finished_safe n s

  steps_safe : (input : ℕ → ℕ → List Float) (xs : List Resolved) (s : State) → safe_at (run_steps block input xs s).words i ≡ safe_at s.words i
  unfolding run_steps
  steps_safe input [] s = refl
  steps_safe input (x ∷ xs) s =
      steps_safe input xs (stepped block input x s)
      ∙ ap (λ (words : List ℕ). safe_at words i) (step_nodes block input x s).words
      ∙ ends_safe (node_named x) s

module _ (f : Fixed) (i : ℕ) where
  set_safe : (h : Changing) (id : ℕ) (values : List Float) (ramp : ℕ) → safe_at (after f h (set id values ramp)).words i ≡ safe_at h.words i
  unfolding node_at
  set_safe h id values ramp = go (setting_answer count id ramp (length h.floats) h.words) refl
    where
      count : ℕ
      count = f.plan.nodes

      node : Node
      node = node_at h.floats h.words (node_of h.words count id)

      go : (a : Answer) → setting_answer count id ramp (length h.floats) h.words ≡ a
          → safe_at (setting_words count id values ramp h.floats h.words) i ≡ safe_at h.words i
      go (Ok _) e =
          rw (words_accepted count id values ramp h.floats h.words e)
          (stored_safe h.words (node_of h.words count id) (set_node node values ramp) i (safe_set node values ramp))
      go (Err r) e = rw (words_refused count id values ramp h.floats h.words e)

  run_safe : (h : Changing) (directory : List ℕ) (samples out : List Float) → safe_at (after f h (run directory samples out)).words i ≡ safe_at h.words i
  run_safe h directory samples out = go (admission g s) refl
    where
      g : RunGiven
      g = given_to f directory samples

      s : State
      s = start f h out

      go : (a : Answer) → admission g s ≡ a → safe_at (processed g s).words i ≡ safe_at h.words i
      go (Ok _) e = rw (accepted_runs g s e) (steps_safe f.plan.block i (lookup directory samples) (steps_of_plan f) s)
      go (Err q) e = rw (refused_keeps g s e)

  -- after any settings and runs every safe is what it was
  pub safe_stays : (cs : List Call) (h : Changing) → safe_at (after_all f h cs).words i ≡ safe_at h.words i
  safe_stays [] h = refl
  safe_stays (set id values ramp ∷ cs) h = safe_stays cs (after f h (set id values ramp)) ∙ set_safe h id values ramp
  safe_stays (run directory samples out ∷ cs) h = safe_stays cs (after f h (run directory samples out)) ∙ run_safe h directory samples out
