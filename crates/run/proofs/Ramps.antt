-- A node that one step uses has max(0, r - n x block) samples of its ramp left n accepted runs after it had r, or was set with the ramp r, whatever other
-- nodes are set to and whichever calls are refused in between. Assumes nothing.
use mathlib.Core.Path.{◌≡◌, refl, sym, ap, ◌∙◌, subst}
use mathlib.Core.Bool.{cond}
use mathlib.Core.List.{List, [], ◌∷◌}
use Prim.Native.Nat.{ℕ, ◌+◌, ◌-◌, ◌*◌, ◌<◌, ◌≤◌}
use native.Mathlib.Nat.{zero-mul, sub-zero, add-zero, add-mul, one-mul}
use native.Mathlib.Decide.{ℕ_discrete}
use native.Mathlib.Omega.{arith}
use borrow.Author.Tests.{eq-eqb, ne_eqb}
use lib.Dec.{eqb}
use lib.ListN.{length}
use lib.Ieee.{Float}
use Rattle.refusal.specs.Tests.{outcome, Answer}
use Rattle.refusal.specs.declared.Refusal.{Refusal}
use Rattle.lists.specs.Entries.{times}
use Rattle.node.specs.declared.Node.{Node}
use Rattle.node.specs.Sizes.{node_word_count}
use Rattle.node.specs.Nodes.{set_node, finish_block}
use Rattle.node.specs.Areas.{id_at, left_at, node_at, stored_words}
use Rattle.node.proofs.Kept.{id_set, id_finish}
use Rattle.node.proofs.Left.{left_set, left_finish}
use Rattle.node.proofs.Areas.{id_stored, left_stored, word_other, length_stored_words}
use Rattle.plan.proofs.Accepted.{accepted_room}
use Rattle.plan.specs.Resolved.{Resolved, node_named}
use Rattle.input.specs.Input.{lookup}
use Rattle.setting.specs.Setting.{node_of, setting_words}
use Rattle.setting.proofs.Setting.{node_named_lem, node_only, settable, words_accepted, words_refused}
use Rattle.run.specs.Run.{RunGiven, State, stepped, run_steps, finished, admission, processed}
use Rattle.run.specs.Calls.{Fixed, Changing, Call, set, run, given_to, start, answer, after, after_all, runs, NotSet, steps_of_plan, uses}
use Rattle.run.proofs.Answers.{accepted_runs, refused_keeps}
use Rattle.run.proofs.States.{ends, step_nodes}
use Rattle.run.proofs.Admitted.{areas_of_lem, admitted}
use Rattle.std.specs.Prelude.{Ok, Err}

-- node n of the words: its id is i, and r samples are left
pub record Left (n i r : ℕ) (words : List ℕ) : Type 0 where
  pub room : (n + 1) * node_word_count ≤ length words
  pub id : id_at words n ≡ i
  pub left : left_at words n ≡ r

-- ---- one node stored

module _ (n i r m : ℕ) (words : List ℕ) (new : Node) (h : Left n i r words) where
  size : length (stored_words words m new) ≡ length words
  size = length_stored_words words m new

  -- another node
  stored_apart : (m ≡ n → ⊥) → Left n i r (stored_words words m new)
  stored_apart e =
      record {
        room = omega (arith, h.room, size);
        id = rw add-zero at (word_other words m new n 0 (λ p. e (sym p)) (omega arith)) ∙ h.id;
        left = word_other words m new n 2 (λ p. e (sym p)) (omega arith) ∙ h.left;
      }

-- the node itself, with the same id
stored_here : (n i r : ℕ) (words : List ℕ) (new : Node) → Left n i r words → new.id ≡ i → Left n i new.left (stored_words words n new)
stored_here n i r words new h e =
    record {
      room = omega (arith, h.room, length_stored_words words n new);
      id = id_stored words n new h.room ∙ e;
      left = left_stored words n new h.room;
    }

-- ---- a run

less : (r u v block : ℕ) → r - u * block - v * block ≡ r - (u + v) * block
less r u v block = rw add-mul (omega arith)

module _ (block n : ℕ) where
  own_left : (i r : ℕ) (s : State) → Left n i r s.words → Left n i (r - block) (finished block n s).words
  unfolding node_at
  own_left i r s h =
      let node = node_at s.floats s.words n in
      subst (λ (k : ℕ). Left n i k (stored_words s.words n (finish_block node block))) (left_finish node block ∙ ap (λ (k : ℕ). k - block) h.left)
      (stored_here n i r s.words (finish_block node block) h (id_finish node block ∙ h.id))

  -- the end of a block of node m
  finish_left : (m i r : ℕ) (s : State) → Left n i r s.words → Left n i (r - cond (eqb m n) 1 0 * block) (finished block m s).words
  finish_left m i r s h = go (ℕ_discrete m n)
    where
      go : Dec (m ≡ n) → Left n i (r - cond (eqb m n) 1 0 * block) (finished block m s).words
      go (yes e) =
          rw (eq-eqb m n e, one-mul) (subst (λ (k : ℕ). Left n i (r - block) (finished block k s).words) (sym e) (own_left i r s h))
      go (no e) = rw (ne_eqb m n e, zero-mul, sub-zero) (stored_apart n i r m s.words (finish_block (node_at s.floats s.words m) block) h e)

  ends_left : (ns : List ℕ) (i r : ℕ) (s : State) → Left n i r s.words → Left n i (r - times n ns * block) (ends block ns s).words
  ends_left [] i r s h = rw (zero-mul, sub-zero) h
  ends_left (m ∷ ns) i r s h =
      subst (λ (k : ℕ). Left n i k (ends block ns (finished block m s)).words) (less r (cond (eqb m n) 1 0) (times n ns) block)
      (ends_left ns i (r - cond (eqb m n) 1 0 * block) (finished block m s) (finish_left m i r s h))

  pub steps_left : (input : ℕ → ℕ → List Float) (xs : List Resolved) (i r : ℕ) (s : State) → Left n i r s.words
      → Left n i (r - uses n xs * block) (run_steps block input xs s).words
  unfolding run_steps uses
  steps_left input [] i r s h = rw (zero-mul, sub-zero) h
  steps_left input (x ∷ xs) i r s h =
      let t = stepped block input x s in
      let e = ends_left (node_named x) i r s h in
      subst (λ (k : ℕ). Left n i k (run_steps block input xs t).words) (less r (times n (node_named x)) (uses n xs) block)
      (steps_left input xs i (r - times n (node_named x) * block) t (subst (λ (w : List ℕ). Left n i (r - times n (node_named x) * block) w) (sym (step_nodes block input x s).words) e))

-- ---- a list of calls

-- node n of the words has the id i and r samples left
abbrev Has : ℕ → ℕ → ℕ → List ℕ → Type 0
Has n i r words = (id_at words n ≡ i) × (left_at words n ≡ r)

module _ (f : Fixed) (n i : ℕ) (inside : n < f.plan.nodes) (once : uses n (steps_of_plan f) ≡ 1) where
  -- a run takes a block off where it is accepted
  module _ (h : Changing) (r : ℕ) (directory : List ℕ) (samples out : List Float) (p : Has n i r h.words) where
    abbrev g : RunGiven
    g = given_to f directory samples

    abbrev s : State
    s = start f h out

    done : admission g s ≡ Ok tt → Has n i (r - 1 * f.plan.block) (processed g s).words
    done e =
        let room : f.plan.nodes * node_word_count ≤ length h.words = (accepted_room f.plan (areas_of_lem g s) (admitted g s e).plan).words in
        let l : Left n i r h.words = record { room = omega (arith, inside); id = p.0; left = p.1 } in
        let t = steps_left f.plan.block n (lookup directory samples) (steps_of_plan f) i r s l in
        rw (accepted_runs g s e, ← once) (t.id, t.left)

    kept : (q : Refusal) → admission g s ≡ Err q → Has n i r (processed g s).words
    kept q e = rw (refused_keeps g s e) p

    run_left : Has n i (r - outcome (admission g s) 1 (λ _. 0) * f.plan.block) (processed g s).words
    run_left = go (admission g s) refl
      where
        go : (a : Answer) → admission g s ≡ a → Has n i (r - outcome a 1 (λ _. 0) * f.plan.block) (processed g s).words
        go (Ok _) e = done e
        go (Err q) e = rw (zero-mul, sub-zero) (kept q e)

  -- a setting of another id takes nothing
  set_left : (h : Changing) (r id : ℕ) (values : List Float) (ramp : ℕ) → Has n i r h.words → (answer f h (set id values ramp) ≡ Ok tt → i ≡ id → ⊥)
      → Has n i r (after f h (set id values ramp)).words
  set_left h r id values ramp p other = go (answer f h (set id values ramp)) refl
    where
      count : ℕ
      count = f.plan.nodes

      m : ℕ
      m = node_of h.words count id

      go : (a : Answer) → answer f h (set id values ramp) ≡ a → Has n i r (setting_words count id values ramp h.floats h.words)
      go (Ok _) e =
          let t = settable count id ramp (length h.floats) h.words e in
          let k = node_named_lem h.words count id t.id_known in
          let room : count * node_word_count ≤ length h.words = t.words_room in
          let l : Left n i r h.words = record { room = omega (arith, inside); id = p.0; left = p.1 } in
          let apart : m ≡ n → ⊥ = λ q. other e (sym p.0 ∙ ap (id_at h.words) (sym q) ∙ k.1) in
          let x = stored_apart n i r m h.words (set_node (node_at h.floats h.words m) values ramp) l apart in
          rw (words_accepted count id values ramp h.floats h.words e) (x.id, x.left)
      go (Err q) e = rw (words_refused count id values ramp h.floats h.words e) p

  -- The theorem: node n, which one step uses, has the id i and r samples left. No accepted setting of the list is of its id.
  pub ramp_left : (cs : List Call) (h : Changing) (r : ℕ) → id_at h.words n ≡ i → left_at h.words n ≡ r → NotSet f i h cs
      → left_at (after_all f h cs).words n ≡ r - runs f h cs * f.plan.block
  ramp_left [] h r p q o = q ∙ sym (ap (λ (k : ℕ). r - k) (zero-mul f.plan.block) ∙ sub-zero r)
  ramp_left (set id values ramp ∷ cs) h r p q o =
      let t = set_left h r id values ramp (p, q) o.0 in
      ramp_left cs (after f h (set id values ramp)) r t.0 t.1 o.1
  ramp_left (run directory samples out ∷ cs) h r p q o =
      let t = run_left h r directory samples out (p, q) in
      ramp_left cs (after f h (run directory samples out)) _ t.0 t.1 o
      ∙ less r (outcome (answer f h (run directory samples out)) 1 (λ _. 0)) (runs f (after f h (run directory samples out)) cs) f.plan.block

  -- an accepted setting of its id leaves r
  own_set : (h : Changing) (values : List Float) (r : ℕ) → id_at h.words n ≡ i → answer f h (set i values r) ≡ Ok tt
      → Has n i r (after f h (set i values r)).words
  unfolding node_at
  own_set h values r p e =
      let t = settable f.plan.nodes i r (length h.floats) h.words e in
      let m : node_of h.words f.plan.nodes i ≡ n = node_only h.words f.plan.nodes i n t.ids t.id_known inside p in
      let room : (n + 1) * node_word_count ≤ length h.words = omega (arith, inside, t.words_room) in
      let new = set_node (node_at h.floats h.words n) values r in
      rw (words_accepted f.plan.nodes i values r h.floats h.words e, m) (
        id_stored h.words n new room ∙ id_set (node_at h.floats h.words n) values r ∙ p,
        left_stored h.words n new room ∙ left_set (node_at h.floats h.words n) values r,
      )

  -- The theorem from a setting on: node n, which one step uses, has the id i, and an accepted setting gives it the ramp r. No accepted setting behind it is
  -- of its id.
  pub set_ramp : (h : Changing) (values : List Float) (r : ℕ) → id_at h.words n ≡ i → answer f h (set i values r) ≡ Ok tt → (cs : List Call)
      → NotSet f i (after f h (set i values r)) cs
      → left_at (after_all f h (set i values r ∷ cs)).words n ≡ r - runs f h (set i values r ∷ cs) * f.plan.block
  set_ramp h values r p e cs o = let t = own_set h values r p e in ramp_left cs (after f h (set i values r)) r t.0 t.1 o
