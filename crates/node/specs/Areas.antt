-- The nodes in the lent areas of document 01's section "Node", and the test of number 14. Definitions only.
use Rattle.std.specs.Prelude.{ℕ, zero, suc, ◌+◌, ◌*◌, ◌≤◌, Bool, false, ◌||◌, List, [], ◌∷◌, ◌++◌, ltb, length, get_or, Float}
use Rattle.std.proofs.lemmas.List.Edits.{sets}
use Rattle.lists.specs.Parts.{part}
use Rattle.node.specs.Sizes.{max_values, node_float_count, node_word_count, max_ramp, max_safe, safe_too_high}
use Rattle.node.specs.declared.Node.{Node}
use Rattle.node.specs.Nodes.{finish_block}

-- the areas have the floats and the words of the first count nodes
abbrev pub Room : ℕ → List Float → List ℕ → Type 0
Room count floats words = (count * node_float_count ≤ length floats) × (count * node_word_count ≤ length words)

-- ---- reading: "72 floats (cur, target, step) and three u32 (id, len, left)", and by request C-13 "a fourth u32, safe"

abbrev pub id_at : List ℕ → ℕ → ℕ
id_at words n = get_or words (n * node_word_count) 0

abbrev pub len_at : List ℕ → ℕ → ℕ
len_at words n = get_or words (n * node_word_count + 1) 0

abbrev pub left_at : List ℕ → ℕ → ℕ
left_at words n = get_or words (n * node_word_count + 2) 0

abbrev pub safe_at : List ℕ → ℕ → ℕ
safe_at words n = get_or words (n * node_word_count + 3) 0

abbrev pub cur_at : List Float → ℕ → List Float
cur_at floats n = part (n * node_float_count) max_values floats

abbrev pub target_at : List Float → ℕ → List Float
target_at floats n = part (n * node_float_count + max_values) max_values floats

abbrev pub step_at : List Float → ℕ → List Float
step_at floats n = part (n * node_float_count + 2 * max_values) max_values floats

-- node n, from 0
unfoldable pub node_at : List Float → List ℕ → ℕ → Node
node_at floats words n =
    record {
      id = id_at words n;
      len = len_at words n;
      cur = cur_at floats n;
      target = target_at floats n;
      step = step_at floats n;
      left = left_at words n;
      safe = safe_at words n;
    }

-- the first count nodes
unfoldable pub nodes : ℕ → List Float → List ℕ → List Node
nodes zero floats words = []
nodes (suc n) floats words = nodes n floats words ++ (node_at floats words n ∷ [])

-- ---- storing

unfoldable pub floats_of : Node → List Float
floats_of node = node.cur ++ node.target ++ node.step

unfoldable pub words_of : Node → List ℕ
words_of node = node.id ∷ node.len ∷ node.left ∷ node.safe ∷ []

-- the areas with node n replaced
abbrev pub stored_floats : List Float → ℕ → Node → List Float
stored_floats floats n node = sets floats (n * node_float_count) (floats_of node)

abbrev pub stored_words : List ℕ → ℕ → Node → List ℕ
stored_words words n node = sets words (n * node_word_count) (words_of node)

-- node n at the end of a step's block
abbrev pub ended : ℕ → List Float → List ℕ → ℕ → Node
ended block floats words n = finish_block (node_at floats words n) block

-- ---- number 14: "any lent node, used or not, new or old, with len above 24 or left above 16,777,216", and by request C-13 with a safe above 1

-- a node with this len, this left and this safe is bad
unfoldable pub is_bad : ℕ → ℕ → ℕ → Bool
is_bad len left safe = ltb max_values len || ltb max_ramp left || safe_too_high safe

-- what the test lets pass
pub record InRange (node : Node) : Type 0 where
  pub len : node.len ≤ max_values
  pub left : node.left ≤ max_ramp
  pub safe : node.safe ≤ max_safe

-- one of the first count nodes, by its words
unfoldable pub some_bad : List ℕ → ℕ → Bool
some_bad words zero = false
some_bad words (suc n) = some_bad words n || is_bad (len_at words n) (left_at words n) (safe_at words n)
