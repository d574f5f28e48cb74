-- The plans of document 01's table of cases, each by the builder calls that lay it out, and what is asked of them. Definitions only.
use Rattle.std.specs.Prelude.{◌≡◌, ℕ, zero, suc, ◌*◌, List, [], ◌∷◌, ◌++◌, map, length, replicate, Float, Ok, Result}
use Rattle.std.specs.Int.Count.{ones, ones_in}
use Rattle.std.specs.Float.Ieee.{add, sub, mul, div, eq, of_int, of_bits}
use Rattle.lists.specs.Entries.{some_from, has, meet}
use Rattle.node.specs.declared.Node.{Node}
use Rattle.node.specs.Sizes.{node_float_count, node_word_count}
use Rattle.node.specs.Nodes.{new_node, set_node, finish_block, gain_of, factor, zero_node}
use Rattle.node.specs.Areas.{node_at, floats_of, words_of, some_bad, is_bad}
use Rattle.mix.specs.Samples.{sampled}
use Rattle.mix.specs.Mix.{added, weighted, sent, columns, weighs}
use Rattle.plan.specs.Limits.{unit_limits}
use Rattle.plan.specs.Areas.{Areas, areas}
use Rattle.plan.specs.Words.{patch_map, clear_map, send_map, output_map, step_of, decoded_from, decoded}
use Rattle.plan.specs.Check.{id_among, id_twice, outside_by, shares, steps_tests, check_plan}
use Rattle.plan.specs.PlanRecord.{plan_with}
use Rattle.builder.specs.Calls.{numbers_from, new_answer, buffers_indices, coefficients_area, node_floats_area, node_words_area, step_area, finish_answer, finish_area}
use Rattle.builder.specs.Built.{BuilderCall, buffers, coefficients, node, step}
use Rattle.insert.specs.Layout.{single}
use Rattle.trace.specs.Calls.{sources_answer, sources_area}
use Rattle.run.specs.Run.{processed}
use Rattle.run.specs.Calls.{after_all, run}
use Rattle.run.specs.Calls.{Call as RunCall}
use Rattle.theorem.specs.Builds.{Build, after_calls, accepted_calls, fixed, changing}
use Rattle.theorem.specs.Journal.{Entry, setting, ran, journal}
use Rattle.cases.specs.Numbers.{plus_zero}
use Rattle.refusal.specs.Tests.{Answer}
use Rattle.refusal.specs.declared.Refusal.{Refusal}

-- ---- builds

-- lent areas of zeros, with room for each plan of the table
abbrev pub lent : Areas
lent = areas (replicate 4 0) (replicate 1 plus_zero) (replicate node_float_count plus_zero) (replicate node_word_count 0) (replicate 19 0) (replicate 6 plus_zero)

abbrev pub build : ℕ → List BuilderCall → Build
build block calls = record { block = block; lent = lent; calls = map single calls }

-- One input through a Gain or a Matrix of one value, by its map, to slot 0. The index list names buffer i at place i.
abbrev pub mono : (block map : ℕ) (value : Float) (ramp : ℕ) → Build
mono block map value ramp =
    build block
    (buffers 2
    ∷ node 7 (value ∷ []) ramp 0
    ∷ step (patch_map ∷ 0 ∷ 0 ∷ 0 ∷ [])
    ∷ step (map ∷ 0 ∷ 0 ∷ 1 ∷ 1 ∷ 1 ∷ [])
    ∷ step (output_map ∷ 1 ∷ 1 ∷ 0 ∷ [])
    ∷ [])

-- two inputs through a Gain or a Matrix of two values at rest, by its map, to so many channels of slot 0, in blocks of one sample
abbrev pub stereo : (map : ℕ) (values : List Float) (channels : ℕ) → Build
stereo map values channels =
    build 1
    (buffers 4
    ∷ node 7 values 0 0
    ∷ step (patch_map ∷ 0 ∷ 0 ∷ 0 ∷ [])
    ∷ step (patch_map ∷ 1 ∷ 0 ∷ 1 ∷ [])
    ∷ step (map ∷ 0 ∷ 0 ∷ 2 ∷ 2 ∷ channels ∷ [])
    ∷ step (output_map ∷ 2 ∷ channels ∷ 0 ∷ [])
    ∷ [])

-- an input sent with a weight to a cleared buffer, and that to a slot, in blocks of one sample
abbrev pub sending : (input : ℕ) (weight target : Float) (ramp slot : ℕ) → Build
sending input weight target ramp slot =
    build 1
    (buffers 2
    ∷ node 7 (target ∷ []) ramp 0
    ∷ coefficients (weight ∷ [])
    ∷ step (patch_map ∷ input ∷ 0 ∷ 0 ∷ [])
    ∷ step (clear_map ∷ 1 ∷ 1 ∷ [])
    ∷ step (send_map ∷ 0 ∷ 0 ∷ 1 ∷ 1 ∷ 1 ∷ 0 ∷ 1 ∷ [])
    ∷ step (output_map ∷ 1 ∷ 1 ∷ slot ∷ [])
    ∷ [])

-- ---- runs

-- the directory of inputs 0 to n - 1, one channel each, a block after another
abbrev pub directory : ℕ → ℕ → List ℕ
directory block zero = []
directory block (suc n) = directory block n ++ (n ∷ 0 ∷ n * block ∷ block ∷ [])

-- a run over these samples of n inputs, with an output area of m samples
abbrev pub run_over : (block n : ℕ) → List Float → ℕ → RunCall
run_over block n samples m = run (directory block n) samples (replicate m plus_zero)

-- the output areas that accepted runs leave
abbrev pub outputs : List Entry → List (List Float)
outputs [] = []
outputs (setting id ramp values ∷ es) = outputs es
outputs (ran directory samples out ∷ es) = out ∷ outputs es

-- Every call of the build is accepted, and the calls after it write these blocks, one for each accepted run. Unfolding it opens all that
-- they compute with.
unfoldable pub Writes : Build → List RunCall → List (List Float) → Type 0
unfolding ones ones_in add sub mul div eq of_int of_bits new_node set_node finish_block gain_of factor node_at floats_of words_of some_bad is_bad step_of decoded_from decoded some_from id_among id_twice outside_by has meet shares steps_tests new_answer buffers_indices coefficients_area node_floats_area node_words_area step_area finish_area sampled added weighted sent columns weighs processed
Writes b calls blocks =
    (accepted_calls b ≡ b.calls)
    × (new_answer b.block ≡ Ok tt)
    × (finish_answer unit_limits (after_calls b).plan (length b.lent.buffers) ≡ Ok tt)
    × (outputs (journal (fixed b) (changing b) calls) ≡ blocks)

-- the node after the calls
abbrev pub node_after : Build → List RunCall → Node
node_after b calls = node_at (after_all (fixed b) (changing b) calls).floats (after_all (fixed b) (changing b) calls).words 0

-- ---- the trace, with an area for the list

abbrev pub sources_of : Build → ℕ → List ℕ → Result ℕ Refusal
sources_of b slot area = sources_answer (fixed b).plan slot (fixed b).indices (changing b).words (fixed b).steps (length area)

abbrev pub list_of : Build → ℕ → List ℕ → List ℕ
list_of b slot area = sources_area (fixed b).plan slot (fixed b).indices (changing b).words (fixed b).steps area

-- ---- the plan check of one step, with 14 buffers and a node of 24 values, in areas that no builder laid out

abbrev pub step_checked : List ℕ → Answer
step_checked words =
    check_plan (plan_with 1 14 14 0 1 1 (length words))
    (areas (numbers_from 0 14) [] (floats_of (zero_node 7 24 0)) (words_of (zero_node 7 24 0)) words (replicate 14 plus_zero))
