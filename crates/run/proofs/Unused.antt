-- A node that no step uses, and so any past the plan's count, is after a run what it was. Assumes nothing.
use mathlib.Core.Path.{◌≡◌, refl, sym, ◌∙◌, subst}
use mathlib.Core.Bool.{Bool, true, false}
use mathlib.Core.List.{List, [], ◌∷◌}
use Prim.Native.Nat.{ℕ, ◌+◌, ◌*◌, ◌<◌, ◌≤◌}
use native.Mathlib.Omega.{arith}
use borrow.Author.Tests.{eqb-false, ne_eqb}
use lib.Dec.{eqb}
use lib.ListN.{length}
use lib.Ieee.{Float}
use Rattle.lists.specs.Entries.{times, AllBelow}
use Rattle.node.specs.declared.Node.{Node}
use Rattle.node.specs.Sizes.{node_float_count}
use Rattle.node.specs.Nodes.{finish_block}
use Rattle.node.specs.Areas.{node_at}
use Rattle.node.proofs.Kept.{full_load, full_finish}
use Rattle.node.proofs.Areas.{stored_other, length_stored_floats}
use Rattle.plan.specs.Areas.{short_areas}
use Rattle.plan.specs.Sound.{steps_of}
use Rattle.plan.specs.Resolved.{Resolved, node_named}
use Rattle.plan.proofs.Exact.{accepted_sound}
use Rattle.plan.proofs.Accepted.{accepted_room}
use Rattle.input.specs.Input.{lookup}
use Rattle.run.specs.Run.{RunGiven, State, stepped, run_steps, finished, steps_of_run, admission, processed}
use Rattle.run.specs.Calls.{uses}
use Rattle.run.proofs.Answers.{accepted_runs, refused_keeps}
use Rattle.run.proofs.States.{ends, step_nodes, NodesBelow}
use Rattle.run.proofs.Admitted.{areas_of_lem, admitted}
use Rattle.run.proofs.Ready.{below}
use Rattle.refusal.specs.Tests.{Answer}
use Rattle.std.specs.Prelude.{Ok, Err}

module _ (count m : ℕ) where
  abbrev node_of : State → Node
  node_of s = node_at s.floats s.words m

  -- the floats of the plan's nodes
  abbrev Floats : State → Type 0
  Floats s = count * node_float_count ≤ length s.floats

  no_use : (n : ℕ) (ns : List ℕ) → times m (n ∷ ns) ≡ 0 → (eqb n m ≡ false) × (times m ns ≡ 0)
  no_use n ns e = go (eqb n m) refl
    where
      go : (b : Bool) → eqb n m ≡ b → (eqb n m ≡ false) × (times m ns ≡ 0)
      go true q = absurd (omega (arith, rw q at e))
      go false q = (q, omega (arith, rw q at e))

  module _ (block : ℕ) where
    -- the end of a block of another node
    finish_other : (n : ℕ) (s : State) → n < count → Floats s → eqb n m ≡ false → node_of (finished block n s) ≡ node_of s
    finish_other n s h r e =
        let node = node_at s.floats s.words n in
        let room : (n + 1) * node_float_count ≤ length s.floats = omega (arith, h, r) in
        stored_other s.floats s.words n (finish_block node block) (full_finish node block (full_load s.floats s.words n room)) m (λ p. eqb-false n m e (sym p))

    finish_floats : (n : ℕ) (s : State) → Floats s → Floats (finished block n s)
    finish_floats n s r = omega (arith, r, length_stored_floats s.floats n (finish_block (node_at s.floats s.words n) block))

    ends_unused : (ns : List ℕ) (s : State) → AllBelow count ns → Floats s → times m ns ≡ 0
        → (node_of (ends block ns s) ≡ node_of s) × Floats (ends block ns s)
    ends_unused [] s b r e = (refl, r)
    ends_unused (n ∷ ns) s b r e =
        let u = no_use n ns e in
        let k = ends_unused ns (finished block n s) b.1 (finish_floats n s r) u.1 in
        (k.0 ∙ finish_other n s b.0 r u.0, k.1)

    steps_unused : (input : ℕ → ℕ → List Float) (xs : List Resolved) (s : State) → NodesBelow count xs → Floats s → uses m xs ≡ 0
        → node_of (run_steps block input xs s) ≡ node_of s
    unfolding run_steps uses
    steps_unused input [] s b r e = refl
    steps_unused input (x ∷ xs) s b r e =
        let k = ends_unused (node_named x) s b.0 r (omega (arith, e)) in
        let n = step_nodes block input x s in
        let same : node_of (stepped block input x s) ≡ node_of (ends block (node_named x) s) = cc (n.floats, n.words) in
        steps_unused input xs (stepped block input x s) b.1 (subst (λ (l : List Float). count * node_float_count ≤ length l) (sym n.floats) k.1) (omega (arith, e))
        ∙ same ∙ k.0

  -- steps whose nodes are all among the first count use none past them
  none_past : count ≤ m → (ns : List ℕ) → AllBelow count ns → times m ns ≡ 0
  none_past h [] b = refl
  none_past h (n ∷ ns) b = rw (ne_eqb n m (λ p. omega (arith, h, b.0, p)), none_past h ns b.1)

  past_unused : count ≤ m → (xs : List Resolved) → NodesBelow count xs → uses m xs ≡ 0
  unfolding uses
  past_unused h [] b = refl
  past_unused h (x ∷ xs) b = rw (none_past h (node_named x) b.0, past_unused h xs b.1)

-- ---- the call, refused or not
module _ (g : RunGiven) (s : State) (m : ℕ) where
  accepted_below : admission g s ≡ Ok tt → NodesBelow g.plan.nodes (steps_of_run g)
  accepted_below e =
      let a = areas_of_lem g s in
      below g.plan g.indices g.coefficients (steps_of g.plan g.steps)
      (accepted_sound g.plan (short_areas g.plan a) g.indices s.words g.steps (admitted g s e).plan).inside

  pub process_unused : uses m (steps_of_run g) ≡ 0 → node_at (processed g s).floats (processed g s).words m ≡ node_at s.floats s.words m
  process_unused u = go (admission g s) refl
    where
      go : (a : Answer) → admission g s ≡ a → node_at (processed g s).floats (processed g s).words m ≡ node_at s.floats s.words m
      go (Ok _) e =
          rw (accepted_runs g s e)
          (steps_unused g.plan.nodes m g.plan.block (lookup g.directory g.samples) (steps_of_run g) s (accepted_below e)
          (accepted_room g.plan (areas_of_lem g s) (admitted g s e).plan).floats u)
      go (Err r) e = rw (refused_keeps g s e) refl

  pub process_past_nodes : g.plan.nodes ≤ m → node_at (processed g s).floats (processed g s).words m ≡ node_at s.floats s.words m
  process_past_nodes h = go (admission g s) refl
    where
      go : (a : Answer) → admission g s ≡ a → node_at (processed g s).floats (processed g s).words m ≡ node_at s.floats s.words m
      go (Ok _) e = process_unused (past_unused g.plan.nodes m h (steps_of_run g) (accepted_below e))
      go (Err r) e = rw (refused_keeps g s e) refl
