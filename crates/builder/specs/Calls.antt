-- The builder calls, by the Rust's names: the tests of each in the order of docs/DECISIONS.md, point 2, its answer, and what it writes.
-- The limits are a parameter of the tests. Definitions only.
use Rattle.std.specs.Prelude.{ℕ, zero, suc, ◌+◌, ◌*◌, min, Bool, true, false, List, [], ◌∷◌, ◌++◌, ltb, leb, length, get_or, take, replicate, Float, Ok, Err, Some, None, Result, Option}
use Rattle.std.proofs.lemmas.List.Edits.{sets}
use Rattle.refusal.specs.Tests.{Test, test, first, outcome, area_after, Answer}
use Rattle.node.specs.Sizes.{max_values, ramp_too_long, safe_too_high}
use Rattle.node.specs.Nodes.{silence, new_node}
use Rattle.node.specs.Areas.{stored_floats, stored_words}
use Rattle.plan.specs.declared.Plan.{Plan}
use Rattle.plan.specs.PlanRecord.{plan_with}
use Rattle.plan.specs.declared.Span.{Span}
use Rattle.plan.specs.declared.Limits.{Limits}
use Rattle.plan.specs.Limits.{bad_block}
use Rattle.plan.specs.Words.{fields, span, read_at}
use Rattle.plan.specs.Areas.{shorter}
use Rattle.plan.specs.Check.{id_among, too_wide}
use Rattle.builder.specs.declared.Lengths.{Lengths}
use Rattle.builder.specs.Growth.{grown, limit_tests, growth_tests, buffers_growth, coefficients_growth, node_growth, step_growth, finish_growth}
use Rattle.builder.specs.declared.Growth.{Growth}
use Rattle.refusal.specs.declared.Reason.TheVariants.{BadNode, BlockLength, IdTaken, LongRamp, ShortArea, TooManyValues, UnreadableStep}
use Rattle.refusal.specs.declared.Refusal.{Refusal}
use Rattle.plan.specs.declared.Step.{Step}

-- the record after a call: grown where it is accepted, else as it was
abbrev pub plan_after : Answer → Plan → Growth → Plan
plan_after answer p g = outcome answer (grown p g) (λ _. p)

-- ---- `new`: 1

abbrev pub new_tests : ℕ → List Test
new_tests block = test BlockLength (bad_block block) ∷ []

unfoldable pub new_answer : ℕ → Answer
new_answer block = first (new_tests block) (Ok tt)

-- a plan with nothing in it yet, also where the block is refused
abbrev pub empty_plan : ℕ → Plan
empty_plan block = plan_with block 0 0 0 0 0 0

-- ---- `buffers`: 5, 2

abbrev pub lent_indices : ℕ → Lengths
lent_indices n = record { indices = n; coefficients = 0; node_floats = 0; node_words = 0; step_words = 0 }

abbrev pub buffers_tests : Limits → Plan → ℕ → ℕ → List Test
buffers_tests l p n len = growth_tests l p (buffers_growth n) (lent_indices len) []

unfoldable pub buffers_answer : Limits → Plan → ℕ → ℕ → Answer
buffers_answer l p n len = first (buffers_tests l p n len) (Ok tt)

-- n numbers from k on
abbrev pub numbers_from : ℕ → ℕ → List ℕ
numbers_from k zero = []
numbers_from k (suc n) = k ∷ numbers_from (suc k) n

-- fresh buffer numbers, the index entries that name them, and their span
unfoldable pub buffers_indices : Limits → Plan → ℕ → List ℕ → List ℕ
unfolding buffers_answer
buffers_indices l p n indices = area_after (buffers_answer l p n (length indices)) (sets indices p.indices (numbers_from p.buffers n)) indices

unfoldable pub buffers_span : Limits → Plan → ℕ → ℕ → Result Span Refusal
unfolding buffers_answer
buffers_span l p n len = outcome (buffers_answer l p n len) (Ok (span p.indices n)) Err

-- ---- `first` and `buffer`

-- the first n buffers of a span
abbrev pub first_buffers : Span → ℕ → Span
first_buffers s n = span s.start (min n s.len)

-- buffer i of a span: 2 where the index list, as counted, has no such entry
abbrev pub buffer_tests : Plan → Span → ℕ → ℕ → List Test
buffer_tests p s i len = test ShortArea (leb (min p.indices len) (s.start + i)) ∷ []

unfoldable pub buffer_number : Plan → Span → ℕ → List ℕ → Result ℕ Refusal
buffer_number p s i indices =
    outcome (first (buffer_tests p s i (length indices)) (Ok tt)) (Ok (get_or indices (s.start + i) 0)) Err

-- ---- `coefficients`: 5, 2

abbrev pub lent_coefficients : ℕ → Lengths
lent_coefficients n = record { indices = 0; coefficients = n; node_floats = 0; node_words = 0; step_words = 0 }

abbrev pub coefficients_tests : Limits → Plan → ℕ → ℕ → List Test
coefficients_tests l p n len = growth_tests l p (coefficients_growth n) (lent_coefficients len) []

unfoldable pub coefficients_answer : Limits → Plan → ℕ → ℕ → Answer
coefficients_answer l p n len = first (coefficients_tests l p n len) (Ok tt)

unfoldable pub coefficients_area : Limits → Plan → List Float → List Float → List Float
unfolding coefficients_answer
coefficients_area l p values area = area_after (coefficients_answer l p (length values) (length area)) (sets area p.coefficients values) area

unfoldable pub coefficients_span : Limits → Plan → ℕ → ℕ → Result Span Refusal
unfolding coefficients_answer
coefficients_span l p n len = outcome (coefficients_answer l p n len) (Ok (span p.coefficients n)) Err

-- ---- `node`: 5, 2, 7, 8, 10, and by request C-13 "14, at the builder last"

abbrev pub lent_nodes : ℕ → ℕ → Lengths
lent_nodes floats words = record { indices = 0; coefficients = 0; node_floats = floats; node_words = words; step_words = 0 }

-- "a node of over 24 values"
abbrev pub too_many : ℕ → Bool
too_many n = ltb max_values n

-- its own, of n values
abbrev pub node_own : Plan → ℕ → ℕ → ℕ → ℕ → List ℕ → List Test
node_own p id n ramp safe words =
    test TooManyValues (too_many n)
    ∷ test IdTaken (id_among words p.nodes id)
    ∷ test LongRamp (ramp_too_long ramp)
    ∷ test BadNode (safe_too_high safe)
    ∷ []

abbrev pub node_tests : Limits → Plan → ℕ → ℕ → ℕ → ℕ → ℕ → List ℕ → List Test
node_tests l p id n ramp safe floats words = growth_tests l p node_growth (lent_nodes floats (length words)) (node_own p id n ramp safe words)

unfoldable pub node_answer : Limits → Plan → ℕ → ℕ → ℕ → ℕ → ℕ → List ℕ → Answer
node_answer l p id n ramp safe floats words = first (node_tests l p id n ramp safe floats words) (Ok tt)

-- the new node follows the others, and its number is its place among them
unfoldable pub node_floats_area : Limits → Plan → ℕ → List Float → ℕ → ℕ → List Float → List ℕ → List Float
unfolding node_answer
node_floats_area l p id values ramp safe floats words =
    area_after (node_answer l p id (length values) ramp safe (length floats) words) (stored_floats floats p.nodes (new_node id values ramp safe)) floats

unfoldable pub node_words_area : Limits → Plan → ℕ → List Float → ℕ → ℕ → List Float → List ℕ → List ℕ
unfolding node_answer
node_words_area l p id values ramp safe floats words =
    area_after (node_answer l p id (length values) ramp safe (length floats) words) (stored_words words p.nodes (new_node id values ramp safe)) words

unfoldable pub node_number : Limits → Plan → ℕ → ℕ → ℕ → ℕ → ℕ → List ℕ → Result ℕ Refusal
unfolding node_answer
node_number l p id n ramp safe floats words = outcome (node_answer l p id n ramp safe floats words) (Ok p.nodes) Err

-- ---- `step`: 5, 2, 3, 7. A record is a map and its fields; words past it are ignored.

-- the words of a record: none where there is no map
abbrev pub record_length : List ℕ → ℕ
record_length [] = 0
record_length (map ∷ ws) = 1 + fields map

abbrev pub lent_steps : ℕ → Lengths
lent_steps n = record { indices = 0; coefficients = 0; node_floats = 0; node_words = 0; step_words = n }

abbrev pub unreadable : Option (Step × ℕ) → Bool
unreadable (Some (s, next)) = false
unreadable None = true

abbrev pub wide : Option (Step × ℕ) → Bool
wide (Some (s, next)) = too_wide s
wide None = false

-- its own
abbrev pub step_own : List ℕ → List Test
step_own w = test UnreadableStep (unreadable (read_at w 0)) ∷ test TooManyValues (wide (read_at w 0)) ∷ []

abbrev pub step_call_tests : Limits → Plan → List ℕ → ℕ → List Test
step_call_tests l p w len = growth_tests l p (step_growth (record_length w)) (lent_steps len) (step_own w)

unfoldable pub step_answer : Limits → Plan → List ℕ → ℕ → Answer
unfolding read_at too_wide
step_answer l p w len = first (step_call_tests l p w len) (Ok tt)

unfoldable pub step_area : Limits → Plan → List ℕ → List ℕ → List ℕ
unfolding step_answer
step_area l p w steps = area_after (step_answer l p w (length steps)) (sets steps p.words (take (record_length w) w)) steps

-- ---- `finish`: 1, 5 (buffers), 2

abbrev pub finish_tests : Limits → Plan → ℕ → List Test
finish_tests l p len =
    test BlockLength (bad_block p.block) ∷ limit_tests l p finish_growth ++ test ShortArea (shorter len p.buffers p.block) ∷ []

unfoldable pub finish_answer : Limits → Plan → ℕ → Answer
finish_answer l p len = first (finish_tests l p len) (Ok tt)

-- the buffers are zero, and what lies past them stays
unfoldable pub finish_area : Limits → Plan → List Float → List Float
unfolding finish_answer
finish_area l p buffers = area_after (finish_answer l p (length buffers)) (sets buffers 0 (replicate (p.buffers * p.block) silence)) buffers
