-- The nodes of a plan as a list: what an accepted setting and an accepted run make of them, whatever the areas hold besides. Assumes nothing.
use mathlib.Core.Path.{◌≡◌, refl, sym, ap, ◌∙◌}
use mathlib.Core.Bool.{cond}
use mathlib.Core.List.{List, [], ◌∷◌}
use Prim.Native.Nat.{ℕ, zero, suc, ◌≤◌, ◌<◌}
use native.Mathlib.Decide.{ℕ_discrete, dec_lt}
use native.Mathlib.Omega.{arith}
use lib.Dec.{eqb}
use lib.ListN.{length, get_or, set}
use lib.Seq.{set-get_or, get_or-set_same, get_or-set_other, set_out}
use lib.Ieee.{Float}
use Rattle.lists.specs.Entries.{AllBelow}
use Rattle.node.specs.declared.Node.{Node}
use Rattle.node.specs.Nodes.{zero_node, set_node, finish_block}
use Rattle.node.specs.Areas.{Room, node_at, nodes}
use Rattle.node.proofs.Kept.{full_load, full_set, full_finish}
use Rattle.node.proofs.Left.{finish_rest, left_set}
use Rattle.node.proofs.Areas.{length_nodes, get_d_nodes, nodes_stored, length_stored_floats, length_stored_words}
use Rattle.plan.specs.Resolved.{Resolved, node_named}
use Rattle.setting.specs.Setting.{node_of, setting_answer, setting_floats, setting_words}
use Rattle.setting.proofs.Setting.{node_named_lem, settable, floats_accepted, words_accepted}
use Rattle.run.specs.Run.{State, finished, stepped, run_steps}
use Rattle.run.proofs.States.{step_lengths, ends, step_nodes}
use Rattle.theorem.proofs.Steps.{InPlan}
use Rattle.theorem.proofs.Block.{Every}
use Rattle.std.specs.Prelude.{Ok}

-- what stands past the end of a list
abbrev pub nobody : Node
nobody = zero_node 0 0 0

abbrev pub nth : List Node → ℕ → Node
nth ns n = get_or ns n nobody

-- no node ramps
abbrev pub AtRest : List Node → Type 0
AtRest ns = (n : ℕ) → (nth ns n).left ≡ 0

-- a node replaced by one that is at rest
replaced_rest : (ns : List Node) (m : ℕ) (new : Node) → AtRest ns → new.left ≡ 0 → AtRest (set ns m new)
replaced_rest ns m new r e n = go (ℕ_discrete n m)
  where
    go : Dec (n ≡ m) → (nth (set ns m new) n).left ≡ 0
    go (yes p) = rw p (at (dec_lt m (length ns)))
      where
        at : Dec (m < length ns) → (nth (set ns m new) m).left ≡ 0
        at (yes l) = ap (λ (x : Node). x.left) (get_or-set_same ns m new nobody l) ∙ e
        at (no l) = ap (λ (xs : List Node). (nth xs m).left) (set_out ns m new (omega arith)) ∙ r m
    go (no p) = ap (λ (x : Node). x.left) (get_or-set_other ns m n new nobody p) ∙ r n

-- ---- a run

abbrev pub ended : ℕ → ℕ → List Node → List Node
ended block n ns = set ns n (finish_block (nth ns n) block)

abbrev ended_all : ℕ → List ℕ → List Node → List Node
ended_all block [] ns = ns
ended_all block (n ∷ us) ns = ended_all block us (ended block n ns)

unfoldable pub nodes_after : ℕ → List Resolved → List Node → List Node
nodes_after block [] ns = ns
nodes_after block (x ∷ xs) ns = nodes_after block xs (ended_all block (node_named x) ns)

ended_rest : (block n : ℕ) (ns : List Node) → AtRest ns → ended block n ns ≡ ns
ended_rest block n ns r = ap (set ns n) (finish_rest (nth ns n) block (r n)) ∙ set-get_or ns n nobody

all_rest : (block : ℕ) (us : List ℕ) (ns : List Node) → AtRest ns → ended_all block us ns ≡ ns
all_rest block [] ns r = refl
all_rest block (n ∷ us) ns r = ap (ended_all block us) (ended_rest block n ns r) ∙ all_rest block us ns r

pub nodes_rest : (block : ℕ) (xs : List Resolved) (ns : List Node) → AtRest ns → nodes_after block xs ns ≡ ns
unfolding nodes_after
nodes_rest block [] ns r = refl
nodes_rest block (x ∷ xs) ns r = ap (nodes_after block xs) (all_rest block (node_named x) ns r) ∙ nodes_rest block xs ns r

module _ (count m block : ℕ) (input : ℕ → ℕ → List Float) where
  -- the list that a state holds
  abbrev list_of : State → List Node
  list_of s = nodes count s.floats s.words

  end_node : (n : ℕ) (s : State) → Room count s.floats s.words → n < count → list_of (finished block n s) ≡ ended block n (list_of s)
  end_node n s room h =
      let node = node_at s.floats s.words n in
      nodes_stored count s.floats s.words n (finish_block node block) (full_finish node block (full_load s.floats s.words n (omega (arith, room.0)))) h room
      ∙ ap (λ (x : Node). set (list_of s) n (finish_block x block)) (sym (get_d_nodes count s.floats s.words n nobody h))

  ends_nodes : (us : List ℕ) (s : State) → AllBelow count us → Room count s.floats s.words → list_of (ends block us s) ≡ ended_all block us (list_of s)
  ends_nodes [] s o room = refl
  ends_nodes (n ∷ us) s o room =
      let node = finish_block (node_at s.floats s.words n) block in
      ends_nodes us (finished block n s) o.1
      (rw (length_stored_floats s.floats n node) room.0, rw (length_stored_words s.words n node) room.1)
      ∙ ap (ended_all block us) (end_node n s room o.0)

  pub run_nodes : (xs : List Resolved) (s : State) → Every (InPlan count m) xs → Room count s.floats s.words
      → list_of (run_steps block input xs s) ≡ nodes_after block xs (list_of s)
  unfolding run_steps nodes_after
  run_nodes [] s o room = refl
  run_nodes (x ∷ xs) s o room =
      let l = step_lengths block input x s in
      let e = step_nodes block input x s in
      let same : list_of (stepped block input x s) ≡ list_of (ends block (node_named x) s) = cc (e.floats, e.words) in
      run_nodes xs (stepped block input x s) o.1 (rw l.floats room.0, rw l.words room.1)
      ∙ ap (nodes_after block xs) (same ∙ ends_nodes (node_named x) s o.0.0 room)

-- ---- a setting

-- the node of an id among the first n
unfoldable pub node_with : List Node → ℕ → ℕ → ℕ
node_with ns zero id = 0
node_with ns (suc n) id = cond (eqb (nth ns n).id id) n (node_with ns n id)

unfoldable pub nodes_set : ℕ → ℕ → List Float → List Node → List Node
unfolding node_with
nodes_set id ramp values ns =
    let n : ℕ = node_with ns (length ns) id in
    set ns n (set_node (nth ns n) values ramp)

pub set_rest : (id ramp : ℕ) (values : List Float) (ns : List Node) → ramp ≡ 0 → AtRest ns → AtRest (nodes_set id ramp values ns)
unfolding nodes_set
set_rest id ramp values ns e r =
    let n : ℕ = node_with ns (length ns) id in
    replaced_rest ns n (set_node (nth ns n) values ramp) r (left_set (nth ns n) values ramp ∙ e)

module _ (count : ℕ) (floats : List Float) (words : List ℕ) where
  node_with_lem : (n id : ℕ) → n ≤ count → node_of words n id ≡ node_with (nodes count floats words) n id
  unfolding node_of node_with node_at
  node_with_lem zero id h = refl
  node_with_lem (suc n) id h =
      let e : nth (nodes count floats words) n ≡ node_at floats words n = get_d_nodes count floats words n nobody (omega arith) in
      rw (e, node_with_lem n id (omega arith))

  pub set_nodes : (id ramp : ℕ) (values : List Float) → setting_answer count id ramp (length floats) words ≡ Ok tt
      → nodes count (setting_floats count id values ramp floats words) (setting_words count id values ramp floats words) ≡ nodes_set id ramp values (nodes count floats words)
  unfolding nodes_set
  set_nodes id ramp values e =
      let s = settable count id ramp (length floats) words e in
      let n : ℕ = node_of words count id in
      let h : n < count = (node_named_lem words count id s.id_known).0 in
      let ns : List Node = nodes count floats words in
      let new : Node = set_node (node_at floats words n) values ramp in
      let w : n ≡ node_with ns (length ns) id = node_with_lem count id (omega arith) ∙ ap (λ (k : ℕ). node_with ns k id) (sym (length_nodes count floats words)) in
      rw (floats_accepted count id values ramp floats words e, words_accepted count id values ramp floats words e)
      (nodes_stored count floats words n new (full_set (node_at floats words n) values ramp (full_load floats words n (omega (arith, s.floats_room)))) h (s.floats_room, s.words_room)
      ∙ ap (λ (x : Node). set ns n (set_node x values ramp)) (sym (get_d_nodes count floats words n nobody h))
      ∙ ap (λ (k : ℕ). set ns k (set_node (nth ns k) values ramp)) w)
