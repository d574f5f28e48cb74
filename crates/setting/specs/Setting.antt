-- `set_param`: its tests, 5 (nodes), 2, 14, 8, 10, 9, its answer, and what it writes. Definitions only.
use Rattle.std.specs.Prelude.{ℕ, zero, suc, not, ◌||◌, cond, List, [], ◌∷◌, ltb, eqb, length, Float, Ok}
use Rattle.refusal.specs.Tests.{Test, test, first, area_after, Answer}
use Rattle.node.specs.Sizes.{node_float_count, node_word_count, ramp_too_long}
use Rattle.node.specs.Nodes.{set_node}
use Rattle.node.specs.Areas.{id_at, node_at, stored_floats, stored_words, some_bad}
use Rattle.plan.specs.Limits.{unit_limits}
use Rattle.plan.specs.Areas.{shorter}
use Rattle.plan.specs.Check.{id_among, id_twice}
use Rattle.refusal.specs.declared.Reason.TheVariants.{BadNode, IdTaken, LongRamp, OverLimit, ShortArea, UnknownId}

-- the node of an id among the first n, which is the only one where no id is held twice
unfoldable pub node_of : List ℕ → ℕ → ℕ → ℕ
node_of words zero id = 0
node_of words (suc n) id = cond (eqb (id_at words n) id) n (node_of words n id)

-- `count` nodes in the lent areas
abbrev pub setting_tests : ℕ → ℕ → ℕ → ℕ → List ℕ → List Test
setting_tests count id ramp floats words =
    test OverLimit (ltb unit_limits.nodes count)
    ∷ test ShortArea (shorter floats count node_float_count || shorter (length words) count node_word_count)
    ∷ test BadNode (some_bad words count)
    ∷ test IdTaken (id_twice words count)
    ∷ test LongRamp (ramp_too_long ramp)
    ∷ test UnknownId (not (id_among words count id))
    ∷ []

unfoldable pub setting_answer : ℕ → ℕ → ℕ → ℕ → List ℕ → Answer
setting_answer count id ramp floats words = first (setting_tests count id ramp floats words) (Ok tt)

-- the areas after the call: the node of the id is set
unfoldable pub setting_floats : ℕ → ℕ → List Float → ℕ → List Float → List ℕ → List Float
unfolding setting_answer
setting_floats count id values ramp floats words =
    let n : ℕ = node_of words count id in
    area_after (setting_answer count id ramp (length floats) words) (stored_floats floats n (set_node (node_at floats words n) values ramp)) floats

unfoldable pub setting_words : ℕ → ℕ → List Float → ℕ → List Float → List ℕ → List ℕ
unfolding setting_answer
setting_words count id values ramp floats words =
    let n : ℕ = node_of words count id in
    area_after (setting_answer count id ramp (length floats) words) (stored_words words n (set_node (node_at floats words n) values ramp)) words
