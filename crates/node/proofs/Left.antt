-- How many samples of a ramp are left after each call, down to 0; and a node at rest, which a block's end leaves as it is. Assumes nothing.
use Prim.Native.Nat.{ℕ, zero, suc, ◌-◌, ◌*◌, ◌≤◌, min}
use native.Mathlib.Nat.{suc-mul, zero-mul, sub-zero}
use native.Mathlib.Omega.{arith}
use mathlib.Core.Path.{◌≡◌, refl, ap, ◌∙◌}
use mathlib.Core.Bool.{Bool, true, false}
use mathlib.Core.List.{List}
use lib.Dec.{eqb}
use lib.Ieee.{Float}
use borrow.Author.Tests.{eqb-true, eq-eqb}
use Rattle.node.specs.Sizes.{max_ramp}
use Rattle.node.specs.Nodes.{at, new_node, set_node, finish_block, gain_of, factor, blocks}
use Rattle.node.specs.declared.Node.{Node}
use Rattle.node.specs.declared.Gain.TheVariants.{Rest}

-- ---- at rest
pub finish_rest : (n : Node) (block : ℕ) → n.left ≡ 0 → finish_block n block ≡ n
unfolding finish_block
finish_rest n block e = rw (eq-eqb n.left 0 e)

pub gain_rest : (n : Node) (i : ℕ) → n.left ≡ 0 → gain_of n i ≡ Rest (at n.target i)
unfolding gain_of
gain_rest n i e = rw (eq-eqb n.left 0 e)

-- the same at every sample
pub factor_rest : (n : Node) (i k : ℕ) → n.left ≡ 0 → factor (gain_of n i) k ≡ at n.target i
unfolding factor
factor_rest n i k e = rw (gain_rest n i e)

-- ---- after each call
pub left_set : (n : Node) (values : List Float) (r : ℕ) → (set_node n values r).left ≡ r
unfolding set_node
left_set n values r = go (eqb r 0) refl
  where
    go : (t : Bool) → eqb r 0 ≡ t → (set_node n values r).left ≡ r
    go true e = rw e (omega (arith, eqb-true r 0 e))
    go false e = rw e

pub left_new : (id : ℕ) (values : List Float) (r safe : ℕ) → (new_node id values r safe).left ≡ r
unfolding new_node
left_new id values r safe = left_set _ values r

pub left_finish : (n : Node) (block : ℕ) → (finish_block n block).left ≡ n.left - block
unfolding finish_block
left_finish n block = go (eqb n.left 0) (eqb (n.left - min block n.left) 0) refl refl
  where
    go : (s t : Bool) → eqb n.left 0 ≡ s → eqb (n.left - min block n.left) 0 ≡ t → (finish_block n block).left ≡ n.left - block
    go true t e f = rw e (omega (arith, eqb-true n.left 0 e))
    go false true e f = rw (e, f) (omega (arith, eqb-true (n.left - min block n.left) 0 f))
    go false false e f = rw (e, f) (omega arith)

pub left_blocks : (k block : ℕ) (n : Node) → (blocks k block n).left ≡ n.left - k * block
unfolding blocks
left_blocks zero block n = rw (zero-mul, sub-zero)
left_blocks (suc k) block n = left_finish (blocks k block n) block ∙ rw (left_blocks k block n, suc-mul) (omega arith)

-- k blocks after a set with ramp r: max(0, r − k × block)
pub left_after : (k block : ℕ) (n : Node) (values : List Float) (r : ℕ) → (blocks k block (set_node n values r)).left ≡ r - k * block
left_after k block n values r = left_blocks k block (set_node n values r) ∙ ap (λ (l : ℕ). l - k * block) (left_set n values r)

-- every ramp finishes
pub ramp_finishes : (k block : ℕ) (n : Node) → n.left ≤ k * block → (blocks k block n).left ≡ 0
ramp_finishes k block n h = left_blocks k block n ∙ omega arith

-- ---- never above the longest ramp
pub left_bound_set : (n : Node) (values : List Float) (r : ℕ) → r ≤ max_ramp → (set_node n values r).left ≤ max_ramp
left_bound_set n values r h = rw left_set h

pub left_bound_finish : (n : Node) (block : ℕ) → n.left ≤ max_ramp → (finish_block n block).left ≤ max_ramp
left_bound_finish n block h = rw left_finish (omega arith)
