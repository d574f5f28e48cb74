-- What a run does to the nodes: it keeps their number, ids and lens, leaves none bad that was not, keeps the length of every area, and does not
-- depend on any sample. Assumes nothing.
use mathlib.Core.Path.{◌≡◌, refl, sym, ◌∙◌, subst}
use mathlib.Core.Bool.{false}
use mathlib.Core.List.{List, [], ◌∷◌}
use Prim.Native.Nat.{ℕ, ◌+◌, ◌*◌, ◌<◌, ◌≤◌}
use native.Mathlib.Nat.{add-zero}
use native.Mathlib.Decide.{ℕ_discrete}
use native.Mathlib.Omega.{arith}
use lib.ListN.{length}
use lib.Ieee.{Float}
use Rattle.lists.specs.Entries.{AllBelow}
use Rattle.node.specs.declared.Node.{Node}
use Rattle.node.specs.Sizes.{node_word_count}
use Rattle.node.specs.Nodes.{finish_block}
use Rattle.node.specs.Areas.{id_at, node_at, stored_words, InRange, some_bad}
use Rattle.node.proofs.Kept.{id_finish}
use Rattle.node.proofs.Areas.{id_stored, word_other, length_stored_floats, length_stored_words}
use Rattle.node.proofs.Bad.{in_range_finish, none_bad_at, none_bad_stored}
use Rattle.mix.proofs.Put.{length_put}
use Rattle.mix.proofs.Laws.{length_gained, length_rows, length_sends, length_cleared, length_appended}
use Rattle.plan.specs.Resolved.{Resolved, patch, gain, matrix, clear, send, output, node_named}
use Rattle.run.specs.Run.{State, stepped, run_steps, finished}

-- ---- the nodes do not depend on the samples, the buffers or the output

-- two states with the same nodes
pub record SameNodes (s t : State) : Type 0 where
  pub floats : s.floats ≡ t.floats
  pub words : s.words ≡ t.words

module _ (block : ℕ) where
  -- the end of the block of each node of a list
  abbrev pub ends : List ℕ → State → State
  ends [] s = s
  ends (n ∷ ns) s = ends ns (finished block n s)

  -- a step changes the nodes by the end of the block of the node that it names, if any
  pub step_nodes : (input : ℕ → ℕ → List Float) (x : Resolved) (s : State) → SameNodes (stepped block input x s) (ends (node_named x) s)
  unfolding stepped
  step_nodes input (patch i c d) s = record { floats = refl; words = refl }
  step_nodes input (gain n src dst) s = record { floats = refl; words = refl }
  step_nodes input (matrix n src dst) s = record { floats = refl; words = refl }
  step_nodes input (clear dst) s = record { floats = refl; words = refl }
  step_nodes input (send n src dst weights) s = record { floats = refl; words = refl }
  step_nodes input (output src slot) s = record { floats = refl; words = refl }

  finished_same : (n : ℕ) (s t : State) → SameNodes s t → SameNodes (finished block n s) (finished block n t)
  finished_same n s t e =
      let same : node_at s.floats s.words n ≡ node_at t.floats t.words n = cc (e.floats, e.words) in
      record { floats = cc (e.floats, same); words = cc (e.words, same) }

  ends_same : (ns : List ℕ) (s t : State) → SameNodes s t → SameNodes (ends ns s) (ends ns t)
  ends_same [] s t e = e
  ends_same (n ∷ ns) s t e = ends_same ns (finished block n s) (finished block n t) (finished_same n s t e)

  pub nodes_same_run : (input input' : ℕ → ℕ → List Float) (xs : List Resolved) (s t : State) → SameNodes s t
      → SameNodes (run_steps block input xs s) (run_steps block input' xs t)
  unfolding run_steps
  nodes_same_run input input' [] s t e = e
  nodes_same_run input input' (x ∷ xs) s t e =
      let a = step_nodes input x s in
      let b = ends_same (node_named x) s t e in
      let c = step_nodes input' x t in
      nodes_same_run input input' xs (stepped block input x s) (stepped block input' x t)
      (record { floats = a.floats ∙ b.floats ∙ sym c.floats; words = a.words ∙ b.words ∙ sym c.words })

-- ---- lengths

module _ (block : ℕ) where
  pub record SameLengths (s t : State) : Type 0 where
    pub floats : length t.floats ≡ length s.floats
    pub words : length t.words ≡ length s.words
    pub buffers : length t.buffers ≡ length s.buffers
    pub output : length t.output ≡ length s.output

  pub step_lengths : (input : ℕ → ℕ → List Float) (x : Resolved) (s : State) → SameLengths s (stepped block input x s)
  unfolding stepped
  step_lengths input (patch i c d) s = record { floats = refl; words = refl; buffers = length_put _ d _ s.buffers; output = refl }
  step_lengths input (gain n src dst) s =
      record { floats = length_stored_floats _ n _; words = length_stored_words _ n _; buffers = length_gained block _ 0 src dst s.buffers; output = refl }
  step_lengths input (matrix n src dst) s =
      record { floats = length_stored_floats _ n _; words = length_stored_words _ n _; buffers = length_rows block _ 0 src dst s.buffers; output = refl }
  step_lengths input (clear dst) s = record { floats = refl; words = refl; buffers = length_cleared block dst s.buffers; output = refl }
  step_lengths input (send n src dst weights) s =
      record { floats = length_stored_floats _ n _; words = length_stored_words _ n _; buffers = length_sends block _ weights 0 src dst s.buffers; output = refl }
  step_lengths input (output src slot) s =
      record { floats = refl; words = refl; buffers = refl; output = length_appended block s.buffers src s.wrote s.output }

  pub run_lengths : (input : ℕ → ℕ → List Float) (xs : List Resolved) (s : State) → SameLengths s (run_steps block input xs s)
  unfolding run_steps
  run_lengths input [] s = record { floats = refl; words = refl; buffers = refl; output = refl }
  run_lengths input (x ∷ xs) s =
      let a = step_lengths input x s in
      let b = run_lengths input xs (stepped block input x s) in
      record { floats = b.floats ∙ a.floats; words = b.words ∙ a.words; buffers = b.buffers ∙ a.buffers; output = b.output ∙ a.output }

-- ---- ids, and no bad node

-- the nodes that the steps use are among the first count
abbrev pub NodesBelow : ℕ → List Resolved → Type 0
NodesBelow count [] = Unit {0}
NodesBelow count (x ∷ xs) = AllBelow count (node_named x) × NodesBelow count xs

-- the words of the first count nodes have these ids, and none of them is bad
pub record Good (count : ℕ) (ids : ℕ → ℕ) (words : List ℕ) : Type 0 where
  pub room : count * node_word_count ≤ length words
  pub ids_are : (i : ℕ) → i < count → id_at words i ≡ ids i
  pub none_bad : some_bad words count ≡ false

module _ (count : ℕ) (ids : ℕ → ℕ) where
  -- a node of them stored, in range and with its id
  pub good_stored : (n : ℕ) (words : List ℕ) (new : Node) → Good count ids words → n < count → InRange new → new.id ≡ ids n → Good count ids (stored_words words n new)
  good_stored n words new g h r e =
      let room = g.room in
      let here : (n + 1) * node_word_count ≤ length words = omega arith in
      record {
        room = omega (arith, length_stored_words words n new);
        ids_are = each;
        none_bad = none_bad_stored words n new count here r g.none_bad;
      }
    where
      each : (i : ℕ) → i < count → id_at (stored_words words n new) i ≡ ids i
      each i l = go (ℕ_discrete i n)
        where
          go : Dec (i ≡ n) → id_at (stored_words words n new) i ≡ ids i
          go (yes p) =
              let room = g.room in
              let here : (n + 1) * node_word_count ≤ length words = omega arith in
              rw p (id_stored words n new here ∙ e)
          go (no p) = rw add-zero at (word_other words n new i 0 p (omega arith)) ∙ g.ids_are i l

  module _ (block : ℕ) where
    good_finished : (n : ℕ) (s : State) → Good count ids s.words → n < count → Good count ids (finished block n s).words
    unfolding node_at
    good_finished n s g h =
        let node = node_at s.floats s.words n in
        good_stored n s.words (finish_block node block) g h (in_range_finish node block (none_bad_at s.words count g.none_bad s.floats n h))
        (id_finish node block ∙ g.ids_are n h)

    pub good_ends : (ns : List ℕ) (s : State) → Good count ids s.words → AllBelow count ns → Good count ids (ends block ns s).words
    good_ends [] s g o = g
    good_ends (n ∷ ns) s g o = good_ends ns (finished block n s) (good_finished n s g o.0) o.1

    pub good_run : (input : ℕ → ℕ → List Float) (xs : List Resolved) (s : State) → Good count ids s.words → NodesBelow count xs
        → Good count ids (run_steps block input xs s).words
    unfolding run_steps
    good_run input [] s g o = g
    good_run input (x ∷ xs) s g o =
        good_run input xs (stepped block input x s)
        (subst (λ (w : List ℕ). Good count ids w) (sym (step_nodes block input x s).words) (good_ends (node_named x) s g o.0)) o.1
