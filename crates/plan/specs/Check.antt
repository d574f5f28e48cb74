-- The plan check: one ordered list of tests, in document 01's order, of which the first that holds answers. Definitions only.
use Rattle.std.specs.Prelude.{Ok, ℕ, zero, suc, ◌+◌, ◌*◌, min, Bool, true, false, ◌||◌, List, [], ◌∷◌, take, ltb, leb, eqb, Some, None, Option}
use Rattle.lists.specs.Parts.{part}
use Rattle.lists.specs.Entries.{some_from, meet}
use Rattle.refusal.specs.Tests.{Test, test, test_at, first, Answer}
use Rattle.node.specs.Sizes.{max_values}
use Rattle.node.specs.Areas.{id_at}
use Rattle.plan.specs.declared.Plan.{Plan}
use Rattle.plan.specs.declared.Span.{Span}
use Rattle.plan.specs.declared.Step.{Step}
use Rattle.plan.specs.declared.Step.TheVariants.{Patch, Gain, Matrix, Clear, Send, Output}
use Rattle.plan.specs.Limits.{inputs, slots, unit_limits, bad_block, over_limits}
use Rattle.plan.specs.Words.{read_at}
use Rattle.plan.specs.Areas.{Areas, short_areas}
use Rattle.refusal.specs.declared.Reason.TheVariants.{BlockLength, IdTaken, OutsideTable, OverLimit, SharedBuffer, ShortArea, TooManyValues, UnreadableStep}

-- ---- the tests of the plan as a whole

-- one of the first n nodes has the id; two of them have the same
unfoldable pub id_among : List ℕ → ℕ → ℕ → Bool
id_among words zero id = false
id_among words (suc n) id = eqb (id_at words n) id || id_among words n id

unfoldable pub id_twice : List ℕ → ℕ → Bool
id_twice words zero = false
id_twice words (suc n) = id_among words n (id_at words n) || id_twice words n

-- ---- the tests of a step

-- a span past the end of a table of n entries, at length 0 too
abbrev pub past : ℕ → Span → Bool
past n s = ltb n (s.start + s.len)

-- the buffers that a span names
abbrev pub named : List ℕ → Span → List ℕ
named indices s = part s.start s.len indices

-- a span, buffer, node, input or slot outside its table, or a Send with more weights than its coefficient span; `index` and `weights` say which spans
-- of the two lists are
unfoldable pub outside_by : (Span → Bool) → (Span → Bool) → Plan → Step → Bool
outside_by index weights p (Patch i c d) = leb inputs i || leb p.buffers d
outside_by index weights p (Gain n s d) = leb p.nodes n || index s || index d
outside_by index weights p (Matrix n s d) = leb p.nodes n || index s || index d
outside_by index weights p (Clear d) = index d
outside_by index weights p (Send n s d c) = leb p.nodes n || index s || index d || weights c || ltb c.len (s.len * d.len)
outside_by index weights p (Output s o) = index s || leb slots o

abbrev pub outside : Plan → Step → Bool
outside p = outside_by (past p.indices) (past p.coefficients) p

-- the channels that a Gain uses: the first of each span
abbrev pub used : Span → Span → ℕ
used s d = min s.len d.len

abbrev pub first_of : ℕ → Span → Span
first_of n s = record { start = s.start; len = n }

-- a Gain using over 24 channels, a Matrix of rows × columns over 24
unfoldable pub too_wide : Step → Bool
too_wide (Patch i c d) = false
too_wide (Gain n s d) = ltb max_values (used s d)
too_wide (Matrix n s d) = ltb max_values (s.len * d.len)
too_wide (Clear d) = false
too_wide (Send n s d c) = false
too_wide (Output s o) = false

-- one buffer in both src and dst; of a Gain, among the channels that it uses
unfoldable pub shares : List ℕ → Step → Bool
shares indices (Patch i c d) = false
shares indices (Gain n s d) = meet (named indices (first_of (used s d) s)) (named indices (first_of (used s d) d))
shares indices (Matrix n s d) = meet (named indices s) (named indices d)
shares indices (Clear d) = false
shares indices (Send n s d c) = meet (named indices s) (named indices d)
shares indices (Output s o) = false

-- ---- the check: 1, 5, 2, index entries (4), a node id held twice (8), then each step in turn 3, 4, 7, 6

-- the tests of step `place` as it was read, and then those that `rest` gives from the next place of the words on
abbrev pub step_tests : Plan → List ℕ → ℕ → Option (Step × ℕ) → (ℕ → List Test) → List Test
step_tests p indices place (Some (s, next)) rest =
    test_at place UnreadableStep false
    ∷ test_at place OutsideTable (outside p s)
    ∷ test_at place TooManyValues (too_wide s)
    ∷ test_at place SharedBuffer (shares indices s)
    ∷ rest next
step_tests p indices place None rest = test_at place UnreadableStep true ∷ []

-- those of n steps from a place of the words on, of which the first is step `place`
unfoldable pub steps_tests : Plan → List ℕ → List ℕ → ℕ → ℕ → ℕ → List Test
steps_tests p indices w zero at place = []
steps_tests p indices w (suc n) at place = step_tests p indices place (read_at w at) (λ next. steps_tests p indices w n next (place + 1))

-- `short` says whether an area that the call was lent is too short
abbrev pub plan_tests : Plan → Bool → List ℕ → List ℕ → List ℕ → List Test
plan_tests p short indices words steps =
    test BlockLength (bad_block p.block)
    ∷ test OverLimit (over_limits unit_limits p)
    ∷ test ShortArea short
    ∷ test OutsideTable (some_from p.buffers (take p.indices indices))
    ∷ test IdTaken (id_twice words p.nodes)
    ∷ steps_tests p indices (take p.words steps) p.steps 0 1

unfoldable pub checked : Plan → Bool → List ℕ → List ℕ → List ℕ → Answer
checked p short indices words steps = first (plan_tests p short indices words steps) (Ok tt)

-- the plan check as a call of its own, which is lent all six areas
abbrev pub check_plan : Plan → Areas → Answer
check_plan p a = checked p (short_areas p a) a.indices a.node_words a.step_words
