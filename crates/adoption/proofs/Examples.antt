-- Adoptions over the definitions, by computation: a pair taken, at once and over a ramp, the later of two pairs, pairs skipped, a refused list, and
-- safe nodes. Assumes nothing.
use Prim.Native.Nat.{ℕ}
use mathlib.Core.Path.{◌≡◌, refl}
use mathlib.Core.Bool.{true}
use mathlib.Core.List.{List, [], ◌∷◌, ◌++◌}
use lib.IntN.{negsuc}
use lib.ListN.{take}
use lib.Ieee.{Float, fin, sub, div, of_int}
use Rattle.refusal.specs.Tests.{refusal}
use Rattle.node.specs.declared.Node.{Node}
use Rattle.node.specs.Nodes.{f32, new_node, set_node}
use Rattle.node.specs.Areas.{node_at, floats_of, words_of, is_bad, some_bad}
use Rattle.adoption.specs.Adoption.{Lent, lent, adoption_answer, adoption_floats, adoption_words, pair_by, pairs_by}
use Rattle.refusal.specs.declared.Reason.TheVariants.{BadNode, OddList}
use Rattle.std.specs.Prelude.{Ok, Err, None}

-- a new plan with one node, 1, that is fading in, and an old one with three: 3; 5 beside 6; 2
abbrev new : Lent
new = let n = new_node 7 (f32 1 ∷ []) 8 0 in lent 1 (floats_of n) (words_of n)

abbrev old : Lent
old =
    let a = new_node 8 (f32 3 ∷ []) 0 0 in
    let b = new_node 9 (f32 5 ∷ f32 6 ∷ []) 0 0 in
    let c = new_node 10 (f32 2 ∷ []) 0 0 in
    lent 3 (floats_of a ++ floats_of b ++ floats_of c) (words_of a ++ words_of b ++ words_of c)

-- the new node after an adoption
abbrev after : List ℕ → ℕ → Node
after pairs ramp = node_at (adoption_floats new old pairs ramp) (adoption_words new old pairs ramp) 0

-- -1/2
abbrev minus_half : Float
minus_half = fin true 1 (negsuc 0)

-- over 4 samples: from 3 to 1 in steps of -1/2
pub over_ramp : (adoption_answer new old (0 ∷ 0 ∷ []) 4 ≡ Ok tt)
    × (take 1 (after (0 ∷ 0 ∷ []) 4).cur ≡ f32 3 ∷ [])
    × (take 1 (after (0 ∷ 0 ∷ []) 4).target ≡ f32 1 ∷ [])
    × (take 1 (after (0 ∷ 0 ∷ []) 4).step ≡ minus_half ∷ [])
    × ((after (0 ∷ 0 ∷ []) 4).id ≡ 7)
    × ((after (0 ∷ 0 ∷ []) 4).len ≡ 1)
    × ((after (0 ∷ 0 ∷ []) 4).left ≡ 4)
unfolding adoption_answer adoption_floats adoption_words pairs_by pair_by new_node set_node node_at floats_of words_of is_bad some_bad sub div of_int
over_ramp = (refl, refl, refl, refl, refl, refl, refl)

-- at once: at its own target
pub at_once : (take 1 (after (0 ∷ 0 ∷ []) 0).cur ≡ f32 1 ∷ [])
    × (take 1 (after (0 ∷ 0 ∷ []) 0).target ≡ f32 1 ∷ [])
    × ((after (0 ∷ 0 ∷ []) 0).id ≡ 7)
    × ((after (0 ∷ 0 ∷ []) 0).len ≡ 1)
    × ((after (0 ∷ 0 ∷ []) 0).left ≡ 0)
unfolding adoption_answer adoption_floats adoption_words pairs_by pair_by new_node set_node node_at floats_of words_of is_bad some_bad sub div of_int
at_once = (refl, refl, refl, refl, refl)

-- the later of two pairs of one new node stands
pub in_order : take 1 (after (0 ∷ 0 ∷ 0 ∷ 2 ∷ []) 4).cur ≡ f32 2 ∷ []
unfolding adoption_answer adoption_floats adoption_words pairs_by pair_by new_node set_node node_at floats_of words_of is_bad some_bad sub div of_int
in_order = refl

-- skipped, and accepted: a node of another len; no such new node; no such old node
pub skips : (adoption_answer new old (0 ∷ 1 ∷ 1 ∷ 0 ∷ 0 ∷ 3 ∷ []) 4 ≡ Ok tt)
    × (adoption_floats new old (0 ∷ 1 ∷ []) 4 ≡ new.floats) × (adoption_words new old (0 ∷ 1 ∷ []) 4 ≡ new.words)
    × (adoption_floats new old (1 ∷ 0 ∷ []) 4 ≡ new.floats) × (adoption_words new old (1 ∷ 0 ∷ []) 4 ≡ new.words)
    × (adoption_floats new old (0 ∷ 3 ∷ []) 4 ≡ new.floats) × (adoption_words new old (0 ∷ 3 ∷ []) 4 ≡ new.words)
unfolding adoption_answer adoption_floats adoption_words pairs_by pair_by new_node set_node node_at floats_of words_of is_bad some_bad sub div of_int
skips = (refl, refl, refl, refl, refl, refl, refl)

-- a list of odd length is refused, whatever pairs it starts with
pub odd : (adoption_answer new old (0 ∷ 0 ∷ 0 ∷ []) 4 ≡ Err (refusal OddList None))
    × (adoption_floats new old (0 ∷ 0 ∷ 0 ∷ []) 4 ≡ new.floats) × (adoption_words new old (0 ∷ 0 ∷ 0 ∷ []) 4 ≡ new.words)
unfolding adoption_answer adoption_floats adoption_words pairs_by pair_by new_node set_node node_at floats_of words_of is_bad some_bad sub div of_int
odd = (refl, refl, refl)

-- ---- safe nodes: a new plan with two nodes, of which the first is safe, and an old one whose only node is

abbrev safe_new : Lent
safe_new =
    let a = new_node 1 (f32 1 ∷ []) 0 1 in
    let b = new_node 2 (f32 1 ∷ []) 0 0 in
    lent 2 (floats_of a ++ floats_of b) (words_of a ++ words_of b)

abbrev safe_old : ℕ → Lent
safe_old safe = let a = new_node 8 (f32 3 ∷ []) 0 safe in lent 1 (floats_of a) (words_of a)

abbrev after_safe : ℕ → Node
after_safe = node_at (adoption_floats safe_new (safe_old 1) (0 ∷ 0 ∷ 1 ∷ 0 ∷ []) 4) (adoption_words safe_new (safe_old 1) (0 ∷ 0 ∷ 1 ∷ 0 ∷ []) 4)

-- the first pair is skipped, the second goes on, and the old node's safe does not count
pub safe_skipped : (adoption_answer safe_new (safe_old 1) (0 ∷ 0 ∷ 1 ∷ 0 ∷ []) 4 ≡ Ok tt)
    × (after_safe 0 ≡ new_node 1 (f32 1 ∷ []) 0 1)
    × (take 1 (after_safe 1).cur ≡ f32 3 ∷ [])
    × ((after_safe 1).left ≡ 4)
    × ((after_safe 1).safe ≡ 0)
unfolding adoption_answer adoption_floats adoption_words pairs_by pair_by new_node set_node node_at floats_of words_of is_bad some_bad sub div of_int
safe_skipped = (refl, refl, refl, refl, refl)

-- a safe of 2 is refused, of an old node too
pub safe_refused : adoption_answer safe_new (safe_old 2) (0 ∷ 0 ∷ 1 ∷ 0 ∷ []) 4 ≡ Err (refusal BadNode None)
unfolding adoption_answer new_node set_node node_at floats_of words_of is_bad some_bad
safe_refused = refl
