-- Document 01's cases 1 to 3 over the definitions, by computation. Assumes nothing.
use Prim.Native.Nat.{ℕ, zero, suc}
use mathlib.Core.Path.{◌≡◌, refl}
use mathlib.Core.Bool.{false}
use mathlib.Core.List.{List, [], ◌∷◌}
use lib.IntN.{negsuc}
use lib.ListN.{take}
use lib.Ieee.{Float, fin, add, sub, mul, div, of_int}
use Rattle.node.specs.Nodes.{f32, new_node, set_node, finish_block, gain_of, factor, blocks}
use Rattle.node.specs.declared.Node.{Node}
use Rattle.node.specs.declared.Gain.TheVariants.{Rest}

-- gain 0 at count samples from sample k on
pub gains : Node → ℕ → ℕ → List Float
gains n k zero = []
gains n k (suc count) = factor (gain_of n 0) k ∷ gains n (suc k) count

abbrev pub quarter : Float
quarter = fin false 1 (negsuc 1)

abbrev pub half : Float
half = fin false 1 (negsuc 0)

abbrev pub three_quarters : Float
three_quarters = fin false 3 (negsuc 1)

-- "New [1], ramp 4, block 2: gains 0.25, 0.5, then 0.75, 1; at rest."
pub case_1 : (id : ℕ) → let n = new_node id (f32 1 ∷ []) 4 0 in
    (gains n 0 2 ≡ quarter ∷ half ∷ []) × (gains (blocks 1 2 n) 0 2 ≡ three_quarters ∷ f32 1 ∷ []) × (gain_of (blocks 2 2 n) 0 ≡ Rest (f32 1))
unfolding gains new_node set_node finish_block blocks gain_of factor add sub mul div of_int
case_1 id = (refl, refl, refl)

-- "Block 3: 0.25, 0.5, 0.75, then 1, 1, 1."
pub case_2 : (id : ℕ) → let n = new_node id (f32 1 ∷ []) 4 0 in
    (gains n 0 3 ≡ quarter ∷ half ∷ three_quarters ∷ []) × (gains (blocks 1 3 n) 0 3 ≡ f32 1 ∷ f32 1 ∷ f32 1 ∷ [])
unfolding gains new_node set_node finish_block blocks gain_of factor add sub mul div of_int
case_2 id = (refl, refl)

-- "Node [1, 2], set [5], ramp 0: [5, 2]."
pub case_3 : (id : ℕ) → let n = set_node (new_node id (f32 1 ∷ f32 2 ∷ []) 0 0) (f32 5 ∷ []) 0 in
    (take 2 n.cur ≡ f32 5 ∷ f32 2 ∷ []) × (take 2 n.target ≡ f32 5 ∷ f32 2 ∷ []) × (n.left ≡ 0)
unfolding new_node set_node
case_3 id = (refl, refl, refl)
