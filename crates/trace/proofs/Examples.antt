-- Document 01's case 8, and a plan with a fault of its own, over the step words; what a Patch and a Clear do to a set. All by computation. Assumes nothing.
use mathlib.Core.Path.{◌≡◌, refl, ◌∙◌}
use mathlib.Core.List.{List, [], ◌∷◌, ◌++◌}
use Prim.Native.Nat.{ℕ}
use lib.Count.{ones, ones_in}
use lib.ListN.{replicate}
use lib.Ieee.{Float}
use Rattle.lists.specs.Entries.{some_from, has, meet}
use Rattle.refusal.specs.Tests.{refusal}
use Rattle.sets.specs.Sets.{sift}
use Rattle.node.specs.Nodes.{zero_node}
use Rattle.node.specs.Areas.{words_of}
use Rattle.plan.specs.declared.Plan.{Plan}
use Rattle.plan.specs.PlanRecord.{plan_with}
use Rattle.plan.specs.Words.{patch_map, clear_map, send_map, output_map, step_of, read_at, decoded_from, decoded}
use Rattle.plan.specs.Check.{id_among, id_twice, outside_by, too_wide, shares, steps_tests, checked}
use Rattle.plan.specs.Resolved.{patch, clear, output, resolved_steps}
use Rattle.trace.specs.Sources.{union, spread, joins, behind, source_list, slot_count}
use Rattle.trace.specs.Clean.{written_after, all, clean_step, clean_from, clean}
use Rattle.trace.specs.Calls.{traced_steps, trace_answer, sources_answer, sources_area, all_traced, all_answer, all_counts, all_lists, clean_answer}
use Rattle.trace.proofs.Behind.{traced_coefficients}
use Rattle.refusal.specs.declared.Reason.TheVariants.{NoSlot, OutsideTable, ShortArea}
use Rattle.std.specs.Prelude.{true, false, Ok, Err, Some, None, Result}
use Rattle.refusal.specs.declared.Refusal.{Refusal}

-- Patch of an input to buffer 0, Clear 1, Send 0 to 1, Output 1 to slot 2. The index list is the two buffers, and the Send has one weight.
abbrev plan : Plan
plan = plan_with 1 2 2 1 1 4 19

abbrev unclear : Plan
unclear = plan_with 1 2 2 1 1 3 16

abbrev indices : List ℕ
indices = 0 ∷ 1 ∷ []

-- a node of one value
abbrev node_word_count : List ℕ
node_word_count = words_of (zero_node 7 1 0)

abbrev steps : ℕ → List ℕ
steps input =
    patch_map ∷ input ∷ 0 ∷ 0
    ∷ clear_map ∷ 1 ∷ 1
    ∷ send_map ∷ 0 ∷ 0 ∷ 1 ∷ 1 ∷ 1 ∷ 0 ∷ 1
    ∷ output_map ∷ 1 ∷ 1 ∷ 2
    ∷ []

-- with a list's area of one place, which holds 9
abbrev answered : ℕ → ℕ → Result ℕ Refusal
answered input slot = sources_answer plan slot indices node_word_count (steps input) 1

abbrev left : ℕ → ℕ → List ℕ
left input slot = sources_area plan slot indices node_word_count (steps input) (9 ∷ [])

-- the lists: empty, empty, [3]
pub case_8_slot_0 : (answered 3 0 ≡ Ok 0) × (left 3 0 ≡ 9 ∷ [])
unfolding sources_answer sources_area trace_answer some_from id_among id_twice words_of steps_tests read_at step_of ones ones_in outside_by too_wide has meet shares decoded decoded_from sift union spread joins behind source_list slot_count
case_8_slot_0 = (refl, refl)

pub case_8_slot_1 : (answered 3 1 ≡ Ok 0) × (left 3 1 ≡ 9 ∷ [])
unfolding sources_answer sources_area trace_answer some_from id_among id_twice words_of steps_tests read_at step_of ones ones_in outside_by too_wide has meet shares decoded decoded_from sift union spread joins behind source_list slot_count
case_8_slot_1 = (refl, refl)

pub case_8_slot_2 : (answered 3 2 ≡ Ok 1) × (left 3 2 ≡ 3 ∷ [])
unfolding sources_answer sources_area trace_answer some_from id_among id_twice words_of steps_tests read_at step_of ones ones_in outside_by too_wide has meet shares decoded decoded_from sift union spread joins behind source_list slot_count
case_8_slot_2 = (refl, refl)

-- slot 3 is refused 15
pub case_8_slot_3 : (answered 3 3 ≡ Err (refusal NoSlot None)) × (left 3 3 ≡ 9 ∷ [])
unfolding sources_answer sources_area trace_answer some_from id_among id_twice words_of steps_tests read_at step_of ones ones_in outside_by too_wide has meet shares decoded decoded_from sift union spread joins behind source_list slot_count
case_8_slot_3 = (refl, refl)

-- the three at once: how many inputs each slot has, and the inputs of slot 2 from its 256 places on; all else stays 9
abbrev all_at_once : ℕ → ℕ → Result ℕ Refusal
all_at_once m n = all_answer plan indices node_word_count (steps 3) m n

pub case_8_all : (all_at_once 4 768 ≡ Ok 3)
    × (all_counts plan indices node_word_count (steps 3) (9 ∷ 9 ∷ 9 ∷ 9 ∷ []) 768 ≡ 0 ∷ 0 ∷ 1 ∷ 9 ∷ [])
    × (all_lists plan indices node_word_count (steps 3) 4 (replicate 768 9) ≡ replicate 512 9 ++ 3 ∷ replicate 255 9)
unfolding all_answer all_counts all_lists all_traced some_from id_among id_twice words_of steps_tests read_at step_of ones ones_in outside_by too_wide has meet shares decoded decoded_from sift union spread joins behind source_list slot_count
case_8_all = (refl, refl, refl)

-- one place less, for the counts or for the lists, is refused 2
pub case_8_short : (all_at_once 2 768 ≡ Err (refusal ShortArea None)) × (all_at_once 3 767 ≡ Err (refusal ShortArea None))
unfolding all_answer all_traced some_from id_among id_twice words_of steps_tests read_at step_of ones ones_in outside_by too_wide has meet shares decoded decoded_from sift union spread joins behind source_list slot_count
case_8_short = (refl, refl)

-- the input is listed whatever the weight is, and so where it is 0
list_2 : source_list 2 (traced_steps plan indices (steps 3)) ≡ 3 ∷ []
unfolding read_at step_of ones ones_in has decoded decoded_from sift union spread joins behind source_list
list_2 = refl

pub case_8_weight : (weight : Float) → source_list 2 (resolved_steps plan indices (weight ∷ []) (steps 3)) ≡ 3 ∷ []
case_8_weight weight = traced_coefficients plan indices (weight ∷ []) (steps 3) 2 ∙ list_2

-- a plan with a fault of its own, an input of 256 in its first step, answers that, and not 15
pub fault_before_15 : answered 256 3 ≡ Err (refusal OutsideTable (Some 1))
unfolding sources_answer trace_answer some_from id_among id_twice words_of steps_tests read_at step_of ones ones_in outside_by slot_count
fault_before_15 = refl

-- the plan is clean, and without its Clear, of which no step writes buffer 1, it is not
pub case_8_clean : clean_answer plan indices node_word_count (steps 3) ≡ (Ok true)
unfolding clean_answer checked some_from id_among id_twice words_of steps_tests read_at step_of ones ones_in outside_by too_wide has meet shares decoded decoded_from written_after all clean_step clean_from clean
case_8_clean = refl

pub send_to_unwritten : clean_answer unclear indices node_word_count (patch_map ∷ 3 ∷ 0 ∷ 0 ∷ send_map ∷ 0 ∷ 0 ∷ 1 ∷ 1 ∷ 1 ∷ 0 ∷ 1 ∷ output_map ∷ 1 ∷ 1 ∷ 2 ∷ []) ≡ (Ok false)
unfolding clean_answer checked some_from id_among id_twice words_of steps_tests read_at step_of ones ones_in outside_by too_wide has meet shares decoded decoded_from written_after all clean_step clean_from clean
send_to_unwritten = refl

-- ---- a Patch replaces what a buffer had, and a Clear empties it
pub patch_replaces : source_list 0 (patch 3 0 0 ∷ patch 5 0 0 ∷ output (0 ∷ []) 0 ∷ []) ≡ 5 ∷ []
unfolding has sift union spread joins behind source_list
patch_replaces = refl

pub clear_empties : source_list 0 (patch 3 0 0 ∷ clear (0 ∷ []) ∷ output (0 ∷ []) 0 ∷ []) ≡ []
unfolding has sift union spread joins behind source_list
clear_empties = refl
