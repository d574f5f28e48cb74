-- Computed examples of the theorem on the plan check: the input for which the insert's dry Send differs from the Rust's, and one that shows that the theorem
-- without its premise, no words after the last step, is false. Assumes nothing.
use mathlib.Core.Path.{◌≡◌, refl, sym, ◌∙◌}
use mathlib.Core.Bool.{Bool, true, false, true≢false}
use mathlib.Core.List.{List, [], ◌∷◌, ◌++◌, map}
use Prim.Native.Nat.{◌*◌, ◌+◌}
use lib.Count.{ones, ones_in}
use lib.ListN.{length, replicate}
use lib.Ieee.{Float}
use Rattle.lists.specs.Entries.{some_from, has, meet}
use Rattle.refusal.specs.Tests.{Answer, refusal, first}
use Rattle.refusal.specs.declared.Refusal.{Refusal}
use Rattle.node.specs.Sizes.{node_float_count, node_word_count}
use Rattle.node.specs.Nodes.{silence, new_node, set_node}
use Rattle.node.specs.Areas.{floats_of, words_of}
use Rattle.format.specs.Floats.{one32}
use Rattle.format.specs.Formats.{labels, channels}
use Rattle.plan.specs.declared.Plan.{Plan}
use Rattle.plan.specs.declared.Span.{Span}
use Rattle.plan.specs.Limits.{unit_limits}
use Rattle.plan.specs.PlanRecord.{plan_with}
use Rattle.plan.specs.Words.{patch_map, clear_map, span, step_of, read_at}
use Rattle.plan.specs.Check.{id_among, id_twice, outside_by, too_wide, shares, steps_tests, checked, check_plan}
use Rattle.builder.specs.Calls.{empty_plan, buffers_indices, coefficients_area, node_floats_area, node_words_area, step_area}
use Rattle.builder.specs.Built.{BuilderCall, buffers, step, asked, BuilderState, builder_state, areas_with, built, accepted}
use Rattle.insert.specs.declared.InsertPoint.{InsertPoint}
use Rattle.insert.specs.Wiring.{send_calls, dry, wet, out, weights, patched_calls, switch_calls, out_calls, sent_calls}
use Rattle.insert.specs.Insert.{insert_answer, answer_to, inserted}
use Rattle.insert.specs.Found.{found_tests}
use Rattle.refusal.specs.declared.Reason.TheVariants.{OutsideTable, UnreadableStep}
use Rattle.std.specs.Prelude.{Ok, Err, Some}

-- what a computation of builds and checks goes through
unfoldable definitions : Unit {0}
unfolding ones ones_in some_from has meet new_node set_node floats_of words_of channels labels step_of read_at id_among id_twice outside_by too_wide shares steps_tests checked buffers_indices coefficients_area node_floats_area node_words_area step_area insert_answer
definitions = tt

-- ---- a source span longer than the format's channels

-- a mono insert
abbrev mono : Span → Bool → InsertPoint
mono src returns =
    record {
      format = 0;
      src = src;
      gain = one32;
      slot = 0;
      ramp = 0;
      ids = record { send = 10; ret = 11; dry = 12; wet = 13; dryin = 14; wetin = 15 };
      returns = returns;
      back = record { input = 1; channel = 1; gain = one32; bypass = false };
    }

-- two patched channels, in areas that have room for the insert
abbrev stereo_source : BuilderState
stereo_source =
    built
    (builder_state (empty_plan 1) (replicate 8 0) (replicate 1 silence) (replicate (6 * node_float_count) silence) (replicate (6 * node_word_count) 0) (replicate 59 0))
    (map (asked unit_limits) (buffers 2 ∷ step (patch_map ∷ 0 ∷ 0 ∷ 0 ∷ []) ∷ step (patch_map ∷ 0 ∷ 1 ∷ 1 ∷ []) ∷ []))

-- the calls of an insert with a return as the Rust has them: both Sends read all weights
abbrev rust_calls : Plan → InsertPoint → List BuilderCall
rust_calls p i =
    sent_calls p i
    ++ (patched_calls p i ++ switch_calls p i ++ out_calls p i)
    ++ send_calls i.ids.dryin i.ramp (p.nodes + 4) (dry p i) (out p i) (weights p i)
    ++ send_calls i.ids.wetin i.ramp (p.nodes + 5) (wet p i) (out p i) (weights p i)

abbrev wide : InsertPoint
wide = mono (span 0 2) true

abbrev rust_built : BuilderState
rust_built = built stereo_source (map (asked unit_limits) (rust_calls stereo_source.plan wide))

-- with the Rust's own calls, all accepted, the check finds nothing
pub rust_passes : (accepted stereo_source (map (asked unit_limits) (rust_calls stereo_source.plan wide)) ≡ rust_calls stereo_source.plan wide)
    × (check_plan rust_built.plan (areas_with rust_built (replicate 8 silence)) ≡ Ok tt)
unfolding definitions
rust_passes = (refl, refl)

abbrev insert_built : BuilderState
insert_built = inserted unit_limits stereo_source wide

-- with ours, 4 at the dry Send
pub source_span_found : (answer_to unit_limits stereo_source wide ≡ Ok tt)
    × (check_plan insert_built.plan (areas_with insert_built (replicate 8 silence)) ≡ Err (refusal OutsideTable (Some 10)))
unfolding definitions
source_span_found = (refl, refl)

-- ---- words after the last step

-- one Clear of no buffers, and one word more that counts
abbrev word_behind : BuilderState
word_behind =
    builder_state (plan_with 1 0 0 0 0 1 4) (replicate 1 0) [] (replicate node_float_count silence) (replicate node_word_count 0) (clear_map ∷ 0 ∷ 0 ∷ 0 ∷ replicate 10 0)

abbrev send_only : InsertPoint
send_only = mono (span 0 0) false

abbrev word_read : BuilderState
word_read = inserted unit_limits word_behind send_only

-- the check ignores the word, and reads it as a step once there are more steps
pub word_behind_passes : check_plan word_behind.plan (areas_with word_behind []) ≡ Ok tt
unfolding definitions
word_behind_passes = refl

pub word_behind_read : (answer_to unit_limits word_behind send_only ≡ Ok tt)
    × (check_plan word_read.plan (areas_with word_read (replicate 1 silence)) ≡ Err (refusal UnreadableStep (Some 2)))
unfolding definitions
word_behind_read = (refl, refl)

-- none of what may be found of an insert
nothing_found : first (found_tests word_read.plan word_behind.plan.steps send_only 1) (Ok tt) ≡ Ok tt
unfolding definitions
nothing_found = refl

never : (r : Refusal) → ◌≡◌ {A = Answer} (Err r) (Ok tt) → ⊥
never r e = let z : ◌≡◌ {A = Bool} true false = cc in true≢false z

-- so `insert_checked` without its premise is false
pub no_words_after_needed : (
    (s : BuilderState) (area : List Float) → check_plan s.plan (areas_with s area) ≡ Ok tt
    → (i : InsertPoint) → answer_to unit_limits s i ≡ Ok tt
    → (buffers : List Float) → check_plan (inserted unit_limits s i).plan (areas_with (inserted unit_limits s i) buffers)
    ≡ first (found_tests (inserted unit_limits s i).plan s.plan.steps i (length buffers)) (Ok tt)
    )
    → ⊥
no_words_after_needed claim =
    never (refusal UnreadableStep (Some 2))
    (sym word_behind_read.1 ∙ claim word_behind [] word_behind_passes send_only word_behind_read.0 (replicate 1 silence) ∙ nothing_found)
