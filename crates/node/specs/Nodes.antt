-- What a node is after each call, and what one of its gains is at a sample, by document 01's section "Node". Definitions only.
use Rattle.std.specs.Prelude.{ℕ, zero, suc, ◌+◌, ◌-◌, min, ◌≡◌, Bool, false, cond, List, leb, eqb, ltb, pos, length, get_or, replicate, Float}
use Rattle.std.specs.Float.{nan, binary32}
use Rattle.std.specs.Float.Ieee.{add, sub, mul, div, of_int, of_bits}
use Rattle.lists.specs.Parts.{upto}
use Rattle.node.specs.Sizes.{max_values}
use Rattle.node.specs.declared.Node.{Node}
use Rattle.node.specs.declared.Gain.{Gain}
use Rattle.node.specs.declared.Gain.TheVariants.{Rest, Moving}

-- a whole number as an f32
abbrev pub f32 : ℕ → Float
f32 n = of_int binary32 (pos n)

-- +0: every sample of silence
abbrev pub silence : Float
silence = of_bits binary32 0

-- place i of a row
abbrev pub at : List Float → ℕ → Float
at row i = get_or row i nan

-- Each row has its 24 places, as the code's arrays have. A record of these definitions need not, so laws speak of it.
pub record Full (n : Node) : Type 0 where
  pub cur : length n.cur ≡ max_values
  pub target : length n.target ≡ max_values
  pub step : length n.step ≡ max_values

-- n with other rows and another left; its id, its len and its safe stay
abbrev pub changed : Node → List Float → List Float → List Float → ℕ → Node
changed n cur target step left =
    record { id = n.id; len = n.len; cur = cur; target = target; step = step; left = left; safe = n.safe }

-- ---- set

-- "Set copies the first min(len, given) values to target."
abbrev pub with_target : Node → List Float → Node
with_target n values = changed n n.cur (upto (min n.len (length values)) (at values) n.target) n.step n.left

-- "Ramp 0: cur becomes target, left 0, step stays." All 24 values of cur, also past len. So too where a ramp ends.
abbrev pub at_target : Node → Node
at_target n = changed n n.target n.target n.step 0

-- value i of step for a ramp of r samples
abbrev pub step_over : Node → ℕ → ℕ → Float
step_over n r i = div binary32 (sub binary32 (at n.target i) (at n.cur i)) (f32 r)

-- "Ramp r: step = (target − cur) / r for each i below len, left = r." Past len step stays.
abbrev pub start_ramp : Node → ℕ → Node
start_ramp n r = changed n n.cur n.target (upto n.len (step_over n r) n.step) r

unfoldable pub set_node : Node → List Float → ℕ → Node
set_node n values r = cond (eqb r 0) (at_target (with_target n values)) (start_ramp (with_target n values) r)

-- ---- new

abbrev pub zeros : List Float
zeros = replicate max_values (f32 0)

abbrev pub zero_node : ℕ → ℕ → ℕ → Node
zero_node id len safe = record { id = id; len = len; cur = zeros; target = zeros; step = zeros; left = 0; safe = safe }

-- "New: all zero, then set." Of more than 24 values the first 24 count.
unfoldable pub new_node : ℕ → List Float → ℕ → ℕ → Node
new_node id values r safe = set_node (zero_node id (min (length values) max_values) safe) values r

-- ---- one gain

-- m samples on from cur
abbrev pub on_ramp : Float → Float → ℕ → Float
on_ramp cur step m = add binary32 cur (mul binary32 step (f32 m))

-- "One gain of a node is either at rest, with its target, or ramping, with cur, step, target and left."
abbrev pub gain_from : Float → Float → Float → ℕ → Gain
gain_from cur step target left = cond (eqb left 0) (Rest target) (Moving cur step target left)

-- gain i of a node with these rows and this left
abbrev pub gain_at : List Float → List Float → List Float → ℕ → ℕ → Gain
gain_at cur step target left i = gain_from (at cur i) (at step i) (at target i) left

unfoldable pub gain_of : Node → ℕ → Gain
gain_of n i = gain_at n.cur n.step n.target n.left i

-- "Ramping, sample k (from 0) below left has cur + step × (k + 1); later samples have target."
unfoldable pub factor : Gain → ℕ → Float
factor (Rest target) k = target
factor (Moving cur step target left) k = cond (ltb k left) (on_ramp cur step (k + 1)) target

-- the samples before n are all on the ramp of a gain that moves
unfoldable pub ramping : Gain → ℕ → Bool
ramping (Rest target) n = false
ramping (Moving cur step target left) n = leb n left

-- ---- the end of a step's block

-- value i of cur when m samples of the ramp have passed
abbrev pub cur_after : Node → ℕ → ℕ → Float
cur_after n m i = on_ramp (at n.cur i) (at n.step i) m

-- a ramp that goes on, m samples later; past len cur stays
abbrev pub advanced : Node → ℕ → Node
advanced n m = changed n (upto n.len (cur_after n m) n.cur) n.target n.step (n.left - m)

-- "With left 0 nothing changes; else n = min(block, left); left falls by n; at 0 cur becomes target, else cur += step × n for i
-- below len."
unfoldable pub finish_block : Node → ℕ → Node
finish_block n block =
    let m : ℕ = min block n.left in
    cond (eqb n.left 0) n (cond (eqb (n.left - m) 0) (at_target n) (advanced n m))

-- n after k blocks
unfoldable pub blocks : ℕ → ℕ → Node → Node
blocks zero block n = n
blocks (suc k) block n = finish_block (blocks k block n) block
