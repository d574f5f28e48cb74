-- A node has three full rows after each call, and set and a block's end keep its id, its len and its safe. Assumes nothing.
use Prim.Native.Nat.{ℕ, ◌+◌, ◌-◌, ◌*◌, ◌≤◌, min}
use native.Mathlib.Omega.{arith}
use mathlib.Core.Path.{◌≡◌, refl, ◌∙◌}
use mathlib.Core.Bool.{Bool, true, false, cond}
use mathlib.Core.List.{List}
use lib.Dec.{eqb}
use lib.ListN.{length}
use lib.Ieee.{Float}
use Rattle.lists.proofs.Filled.{length_upto}
use Rattle.lists.proofs.Stores.{length_part}
use Rattle.node.specs.Sizes.{max_values, node_float_count}
use Rattle.node.specs.Nodes.{Full, at, step_over, with_target, at_target, start_ramp, set_node}
use Rattle.node.specs.Nodes.{zero_node, new_node, cur_after, advanced, finish_block}
use Rattle.node.specs.Areas.{node_at}
use Rattle.node.specs.declared.Node.{Node}

-- ---- what both nodes of a choice have
module _ (P : Node → Type 0) where
  of_either : (t : Bool) (a b : Node) → P a → P b → P (cond t a b)
  of_either true a b p q = p
  of_either false a b p q = q

  of_set : (n : Node) (values : List Float) (r : ℕ) → P (at_target (with_target n values)) → P (start_ramp (with_target n values) r)
      → P (set_node n values r)
  unfolding set_node
  of_set n values r = of_either (eqb r 0) (at_target (with_target n values)) (start_ramp (with_target n values) r)

  of_finish : (n : Node) (block : ℕ) → P n → P (at_target n) → ((m : ℕ) → P (advanced n m)) → P (finish_block n block)
  unfolding finish_block
  of_finish n block rest end on =
      let m : ℕ = min block n.left in
      of_either (eqb n.left 0) n (cond (eqb (n.left - m) 0) (at_target n) (advanced n m)) rest
      (of_either (eqb (n.left - m) 0) (at_target n) (advanced n m) end (on m))

-- ---- three full rows
pub full_set : (n : Node) (values : List Float) (r : ℕ) → Full n → Full (set_node n values r)
full_set n values r f =
    let m : Node = with_target n values in
    let t : length m.target ≡ max_values = length_upto (at values) (min n.len (length values)) n.target ∙ f.target in
    of_set Full n values r
    (record { cur = t; target = t; step = f.step })
    (record { cur = f.cur; target = t; step = length_upto (step_over m r) n.len n.step ∙ f.step })

pub full_new : (id : ℕ) (values : List Float) (r safe : ℕ) → Full (new_node id values r safe)
unfolding new_node
full_new id values r safe = full_set (zero_node id (min (length values) max_values) safe) values r (record { cur = refl; target = refl; step = refl })

pub full_finish : (n : Node) (block : ℕ) → Full n → Full (finish_block n block)
full_finish n block f =
    of_finish Full n block f
    (record { cur = f.target; target = f.target; step = f.step })
    (λ (m : ℕ). record { cur = length_upto (cur_after n m) n.len n.cur ∙ f.cur; target = f.target; step = f.step })

pub full_load : (floats : List Float) (words : List ℕ) (n : ℕ) → (n + 1) * node_float_count ≤ length floats → Full (node_at floats words n)
unfolding node_at
full_load floats words n h =
    record {
      cur = length_part (n * node_float_count) max_values floats (omega arith);
      target = length_part (n * node_float_count + max_values) max_values floats (omega arith);
      step = length_part (n * node_float_count + 2 * max_values) max_values floats (omega arith);
    }

-- ---- the len, the id and the safe
pub len_set : (n : Node) (values : List Float) (r : ℕ) → (set_node n values r).len ≡ n.len
len_set n values r = of_set (λ (x : Node). x.len ≡ n.len) n values r refl refl

pub len_new : (id : ℕ) (values : List Float) (r safe : ℕ) → (new_node id values r safe).len ≡ min (length values) max_values
unfolding new_node
len_new id values r safe = len_set (zero_node id (min (length values) max_values) safe) values r

pub len_finish : (n : Node) (block : ℕ) → (finish_block n block).len ≡ n.len
len_finish n block = of_finish (λ (x : Node). x.len ≡ n.len) n block refl refl (λ (m : ℕ). refl)

pub id_set : (n : Node) (values : List Float) (r : ℕ) → (set_node n values r).id ≡ n.id
id_set n values r = of_set (λ (x : Node). x.id ≡ n.id) n values r refl refl

pub id_new : (id : ℕ) (values : List Float) (r safe : ℕ) → (new_node id values r safe).id ≡ id
unfolding new_node
id_new id values r safe = id_set (zero_node id (min (length values) max_values) safe) values r

pub id_finish : (n : Node) (block : ℕ) → (finish_block n block).id ≡ n.id
id_finish n block = of_finish (λ (x : Node). x.id ≡ n.id) n block refl refl (λ (m : ℕ). refl)

pub safe_set : (n : Node) (values : List Float) (r : ℕ) → (set_node n values r).safe ≡ n.safe
safe_set n values r = of_set (λ (x : Node). x.safe ≡ n.safe) n values r refl refl

pub safe_new_lem : (id : ℕ) (values : List Float) (r safe : ℕ) → (new_node id values r safe).safe ≡ safe
unfolding new_node
safe_new_lem id values r safe = safe_set (zero_node id (min (length values) max_values) safe) values r

pub safe_finish : (n : Node) (block : ℕ) → (finish_block n block).safe ≡ n.safe
safe_finish n block = of_finish (λ (x : Node). x.safe ≡ n.safe) n block refl refl (λ (m : ℕ). refl)
