-- Document 01's case 11, by computation alone. Assumes nothing.
use mathlib.Core.Path.{◌≡◌, refl}
use mathlib.Core.List.{[], ◌∷◌}
use Prim.Native.Nat.{ℕ}
use lib.Count.{ones, ones_in}
use lib.Ieee.{nan}
use lib.ListN.{replicate}
use Rattle.lists.specs.Entries.{some_from, has, meet}
use Rattle.refusal.specs.Tests.{refusal, Answer}
use Rattle.node.specs.Nodes.{zero_node}
use Rattle.node.specs.Areas.{floats_of, words_of}
use Rattle.plan.specs.Areas.{areas}
use Rattle.plan.specs.Words.{patch_map, matrix_map, step_of, read_at}
use Rattle.plan.specs.Check.{id_among, id_twice, outside_by, too_wide, shares, steps_tests, checked, check_plan}
use Rattle.plan.specs.PlanRecord.{plan_with}
use Rattle.refusal.specs.declared.Reason.TheVariants.{BlockLength, OutsideTable, TooManyValues}
use Rattle.std.specs.Prelude.{Ok, Err, Some, None}

-- a block and nothing else
abbrev block_of : ℕ → Answer
block_of block =
    check_plan (plan_with block 0 0 0 0 0 0) (areas [] [] [] [] [] [])

pub case_11_block_taken : block_of 1024 ≡ Ok tt
unfolding checked some_from id_twice steps_tests
case_11_block_taken = refl

pub case_11_block_refused : block_of 1025 ≡ Err (refusal BlockLength None)
unfolding checked
case_11_block_refused = refl

-- a Matrix with a node of 24 values, over the first of 14 buffers, with so many columns (src) and rows (dst)
abbrev matrix_of : ℕ → ℕ → Answer
matrix_of columns rows =
    check_plan (plan_with 1 14 14 0 1 1 6)
    (areas (0 ∷ 1 ∷ 2 ∷ 3 ∷ 4 ∷ 5 ∷ 6 ∷ 7 ∷ 8 ∷ 9 ∷ 10 ∷ 11 ∷ 12 ∷ 13 ∷ []) [] (floats_of (zero_node 5 24 0)) (words_of (zero_node 5 24 0))
    (matrix_map ∷ 0 ∷ 0 ∷ columns ∷ columns ∷ rows ∷ []) (replicate 14 nan))

pub case_11_matrix_taken : matrix_of 12 2 ≡ Ok tt
unfolding checked some_from id_among id_twice floats_of words_of steps_tests read_at step_of ones ones_in outside_by too_wide has meet shares
case_11_matrix_taken = refl

pub case_11_matrix_refused : matrix_of 5 5 ≡ Err (refusal TooManyValues (Some 1))
unfolding checked some_from id_among id_twice floats_of words_of steps_tests read_at step_of ones ones_in outside_by too_wide
case_11_matrix_refused = refl

-- a Patch of an input to the only buffer
abbrev patch_of : ℕ → Answer
patch_of input =
    check_plan (plan_with 1 1 0 0 0 1 4)
    (areas [] [] [] [] (patch_map ∷ input ∷ 0 ∷ 0 ∷ []) (nan ∷ []))

pub case_11_input_taken : patch_of 255 ≡ Ok tt
unfolding checked some_from id_twice steps_tests read_at step_of ones ones_in outside_by too_wide shares
case_11_input_taken = refl

pub case_11_input_refused : patch_of 256 ≡ Err (refusal OutsideTable (Some 1))
unfolding checked some_from id_twice steps_tests read_at step_of ones ones_in outside_by
case_11_input_refused = refl
