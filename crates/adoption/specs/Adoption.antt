-- `adopt`, by document 01's section "Adoption" and request C-13: its tests, 5 (nodes, new or old), 2, 11, 14, 10, its answer, and what it writes.
-- Definitions only.
use Rattle.std.specs.Prelude.{ℕ, ◌%◌, Bool, not, ◌||◌, cond, List, [], ◌∷◌, ltb, leb, eqb, length, Float, Ok}
use Rattle.refusal.specs.Tests.{Test, test, first, area_after, Answer}
use Rattle.node.specs.Sizes.{node_float_count, node_word_count, ramp_too_long}
use Rattle.node.specs.declared.Node.{Node}
use Rattle.node.specs.Nodes.{changed, set_node}
use Rattle.node.specs.Areas.{len_at, safe_at, node_at, stored_floats, stored_words, some_bad}
use Rattle.plan.specs.Limits.{unit_limits}
use Rattle.plan.specs.Areas.{shorter}
use Rattle.refusal.specs.declared.Reason.TheVariants.{BadNode, LongRamp, OddList, OverLimit, ShortArea}

-- the lent nodes of one plan, the new or the old: their count and their areas
pub record Lent : Type 0 where
  pub count : ℕ
  pub floats : List Float
  pub words : List ℕ

abbrev pub lent : ℕ → List Float → List ℕ → Lent
lent count floats words = record { count = count; floats = floats; words = words }

-- node n of them, from 0
abbrev pub node_in : Lent → ℕ → Node
node_in l n = node_at l.floats l.words n

-- ---- the tests

abbrev pub over_nodes : Lent → Bool
over_nodes l = ltb unit_limits.nodes l.count

abbrev pub short_nodes : Lent → Bool
short_nodes l = shorter (length l.floats) l.count node_float_count || shorter (length l.words) l.count node_word_count

abbrev pub bad_nodes : Lent → Bool
bad_nodes l = some_bad l.words l.count

abbrev pub adoption_tests : Lent → Lent → List ℕ → ℕ → List Test
adoption_tests new old pairs ramp =
    test OverLimit (over_nodes new || over_nodes old)
    ∷ test ShortArea (short_nodes new || short_nodes old)
    ∷ test OddList (not (eqb (length pairs % 2) 0))
    ∷ test BadNode (bad_nodes new || bad_nodes old)
    ∷ test LongRamp (ramp_too_long ramp)
    ∷ []

unfoldable pub adoption_answer : Lent → Lent → List ℕ → ℕ → Answer
adoption_answer new old pairs ramp = first (adoption_tests new old pairs ramp) (Ok tt)

-- ---- the pairs (new, old) of node indices, in order

-- "The new cur takes the old cur (all 24) and the new target is set again with the ramp."
abbrev pub adopted : Node → Node → ℕ → Node
adopted new old ramp = set_node (changed new old.cur new.target new.step new.left) new.target ramp

-- "A pair out of range or of different len is skipped.", as in the Rust
abbrev pub unmatched : Lent → Lent → ℕ → ℕ → Bool
unmatched new old n o = leb new.count n || leb old.count o || not (eqb (len_at new.words n) (len_at old.words o))

-- node n is safe, a term of request C-13: its word safe is not 0
abbrev pub safe_in : Lent → ℕ → Bool
safe_in l n = not (eqb (safe_at l.words n) 0)

-- and by request C-13: "Adoption skips a pair whose new node is safe."
abbrev pub skipped : Lent → Lent → ℕ → ℕ → Bool
skipped new old n o = unmatched new old n o || safe_in new n

-- node n of the new plan after it took old node o
abbrev pub adopted_at : Lent → Lent → ℕ → ℕ → ℕ → Node
adopted_at new old ramp n o = adopted (node_in new n) (node_in old o) ramp

abbrev pub stored : Lent → ℕ → Node → Lent
stored l n node = lent l.count (stored_floats l.floats n node) (stored_words l.words n node)

-- the new plan's nodes after one pair, by a rule that says which pairs are skipped
unfoldable pub pair_by : (Lent → Lent → ℕ → ℕ → Bool) → Lent → ℕ → ℕ → ℕ → Lent → Lent
pair_by skips old ramp n o new = cond (skips new old n o) new (stored new n (adopted_at new old ramp n o))

-- and after all; a number that is left over, as in a list of odd length, names no pair
unfoldable pub pairs_by : (Lent → Lent → ℕ → ℕ → Bool) → Lent → ℕ → List ℕ → Lent → Lent
unfolding pair_by
pairs_by skips old ramp [] new = new
pairs_by skips old ramp (n ∷ []) new = new
pairs_by skips old ramp (n ∷ o ∷ pairs) new = pairs_by skips old ramp pairs (pair_by skips old ramp n o new)

abbrev pub pair_adopted : Lent → ℕ → ℕ → ℕ → Lent → Lent
pair_adopted = pair_by skipped

abbrev pub pairs_adopted : Lent → ℕ → List ℕ → Lent → Lent
pairs_adopted = pairs_by skipped

-- ---- the new plan's areas after the call

unfoldable pub adoption_floats : Lent → Lent → List ℕ → ℕ → List Float
unfolding adoption_answer pairs_by
adoption_floats new old pairs ramp = area_after (adoption_answer new old pairs ramp) (pairs_adopted old ramp pairs new).floats new.floats

unfoldable pub adoption_words : Lent → Lent → List ℕ → ℕ → List ℕ
unfolding adoption_answer pairs_by
adoption_words new old pairs ramp = area_after (adoption_answer new old pairs ramp) (pairs_adopted old ramp pairs new).words new.words

-- ---- for the laws alone

-- a list without the pairs whose new node is safe: of it the Rust's adoption, which knows no safe nodes, does what this one does of the whole
abbrev pub without_safe : Lent → List ℕ → List ℕ
without_safe new [] = []
without_safe new (n ∷ []) = n ∷ []
without_safe new (n ∷ o ∷ pairs) = cond (safe_in new n) (without_safe new pairs) (n ∷ o ∷ without_safe new pairs)
