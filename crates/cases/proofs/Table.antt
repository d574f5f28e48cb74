-- Document 01's table of cases, a theorem a row, in its order. A run over ones writes the gains. Assumes nothing.
use Rattle.std.proofs.Common.{◌≡◌, true, false, [], ◌∷◌, take, refl}
use lib.Ieee.{Float, nan, of_bits}
use Rattle.refusal.specs.Tests.{refusal}
use Rattle.rounding.specs.Narrow.{narrowed}
use Rattle.rounding.proofs.Examples as rounding
use Rattle.node.specs.Nodes.{gain_of}
use Rattle.node.specs.declared.Gain.TheVariants.{Rest}
use Rattle.sets.specs.Sets.{sift}
use Rattle.format_balance.specs.Balance.{balance_answer, balance_area}
use Rattle.format_balance.proofs.Examples as format
use Rattle.format_fold.specs.declared.FoldGains.{FoldGains}
use Rattle.format_fold.specs.Width.{width_answer, width_area}
use Rattle.format_fold.proofs.Examples as fold
use Rattle.plan.specs.Words.{patch_map, gain_map, matrix_map}
use Rattle.plan.specs.Check.{checked}
use Rattle.builder.specs.Calls.{new_answer}
use Rattle.trace.specs.Calls.{sources_answer, sources_area}
use Rattle.setting.specs.Setting.{node_of, setting_floats, setting_words}
use Rattle.run.specs.Calls.{set}
use Rattle.cases.specs.Numbers.{over, two_to, half_to, plus_zero, minus_zero, infinity, eighth, quarter, half, three_quarters, one, two, three, five}
use Rattle.cases.specs.Plans.{mono, stereo, sending, run_over, Writes, node_after, sources_of, list_of, step_checked}
use Rattle.refusal.specs.declared.Reason.TheVariants.{BlockLength, NoSlot, OutsideTable, TooManyValues}
use Rattle.std.specs.Prelude.{Ok, Err, Some, None}

-- "1. P New [1], ramp 4, block 2: gains 0.25, 0.5, then 0.75, 1; at rest."
pub case_1 :
    let plan = mono 2 gain_map one 4 in
    let runs = run_over 2 1 (one ∷ one ∷ []) 2 ∷ run_over 2 1 (one ∷ one ∷ []) 2 ∷ [] in
    Writes plan runs ((quarter ∷ half ∷ []) ∷ (three_quarters ∷ one ∷ []) ∷ []) × (gain_of (node_after plan runs) 0 ≡ Rest one)
unfolding Writes
case_1 = ((refl, refl, refl, refl), refl)

-- "2. P Block 3: 0.25, 0.5, 0.75, then 1, 1, 1."
pub case_2 :
    let runs = run_over 3 1 (one ∷ one ∷ one ∷ []) 3 ∷ run_over 3 1 (one ∷ one ∷ one ∷ []) 3 ∷ [] in
    Writes (mono 3 gain_map one 4) runs ((quarter ∷ half ∷ three_quarters ∷ []) ∷ (one ∷ one ∷ one ∷ []) ∷ [])
unfolding Writes
case_2 = (refl, refl, refl, refl)

-- "3. P Node [1, 2], set [5], ramp 0: [5, 2]."
pub case_3 :
    let plan = stereo gain_map (one ∷ two ∷ []) 2 in
    let calls = set 7 (five ∷ []) 0 ∷ run_over 1 2 (one ∷ one ∷ []) 2 ∷ [] in
    Writes plan calls ((five ∷ two ∷ []) ∷ []) × (take 2 (node_after plan calls).target ≡ five ∷ two ∷ [])
unfolding Writes setting_floats setting_words node_of
case_3 = ((refl, refl, refl, refl), refl)

-- "4. P Matrix [1, 0] at rest over 3 and infinity: 3. Gain 0 over infinity: NaN."
pub case_4 :
    Writes (stereo matrix_map (one ∷ plus_zero ∷ []) 1) (run_over 1 2 (three ∷ infinity ∷ []) 1 ∷ []) ((three ∷ []) ∷ [])
    × Writes (mono 1 gain_map plus_zero 0) (run_over 1 1 (infinity ∷ []) 1 ∷ []) ((nan ∷ []) ∷ [])
unfolding Writes
case_4 = ((refl, refl, refl, refl), (refl, refl, refl, refl))

-- "5. P Matrix [1] over −0: +0."
pub case_5 : Writes (mono 1 matrix_map one 0) (run_over 1 1 (minus_zero ∷ []) 1 ∷ []) ((plus_zero ∷ []) ∷ [])
unfolding Writes
case_5 = (refl, refl, refl, refl)

-- "6. P Send x = 2^−140, w = 2^−10, target 2^20: adds 2^−130 at rest, 0 while ramping."
pub case_6 :
    let runs = run_over 1 1 (half_to 140 ∷ []) 1 ∷ [] in
    Writes (sending 0 (half_to 10) (two_to 20) 0 0) runs ((half_to 130 ∷ []) ∷ []) × Writes (sending 0 (half_to 10) (two_to 20) 1 0) runs ((plus_zero ∷ []) ∷ [])
unfolding Writes
case_6 = ((refl, refl, refl, refl), (refl, refl, refl, refl))

-- "7. P Round 1 + 2^−24 to 1; 1 + 3 × 2^−24 to 1 + 2^−22; 2^−150 to 0."
pub case_7 : (narrowed (over 16777217 24) ≡ one) × (narrowed (over 16777219 24) ≡ over 4194305 22) × (narrowed (half_to 150) ≡ plus_zero)
case_7 = (rounding.case_7_tie_down, rounding.case_7_tie_up, rounding.case_7_to_zero)

-- "8. P Patch 3 to buffer 0, Clear 1, Send 0 to 1 with weight 0, Output 1 to slot 2: lists empty, empty, [3]; slot 3 is refused 15."
pub case_8 :
    let plan = sending 3 plus_zero plus_zero 0 2 in
    (sources_of plan 0 [] ≡ Ok 0)
    × (sources_of plan 1 [] ≡ Ok 0)
    × (sources_of plan 2 (0 ∷ []) ≡ Ok 1)
    × (list_of plan 2 (0 ∷ []) ≡ 3 ∷ [])
    × (sources_of plan 3 (0 ∷ []) ≡ Err (refusal NoSlot None))
unfolding Writes sources_answer sources_area sift
case_8 = (refl, refl, refl, refl, refl)

-- "9. P 5.1 to mono, all gains 0.5, LFE 0: 0.5 0.5 0.5 0 0.25 0.25; normalised 0.25 0.25 0.25 0 0.125 0.125."
pub case_9 : (a b c d e f : Float) →
    let gains : FoldGains = record { pan_left = half; pan_right = half; mono_sum = half; centre = half; surround = half; lfe = plus_zero } in
    (width_answer 3 0 gains 6 ≡ Ok tt)
    × (width_area 3 0 gains false (a ∷ b ∷ c ∷ d ∷ e ∷ f ∷ []) ≡ half ∷ half ∷ half ∷ plus_zero ∷ quarter ∷ quarter ∷ [])
    × (width_area 3 0 gains true (a ∷ b ∷ c ∷ d ∷ e ∷ f ∷ []) ≡ quarter ∷ quarter ∷ quarter ∷ plus_zero ∷ eighth ∷ eighth ∷ [])
unfolding of_bits
case_9 a b c d e f = (fold.case_9_answer, fold.case_9 a b c d e f, fold.case_9_normalised a b c d e f)

-- "10. P Balance 0.5 of 5.1: 0.5 1 1 1 0.5 1."
pub case_10 : (a b c d e f : Float) →
    (balance_answer 3 half 6 ≡ Ok tt)
    × (balance_area 3 half (a ∷ b ∷ c ∷ d ∷ e ∷ f ∷ []) ≡ half ∷ one ∷ one ∷ one ∷ half ∷ one ∷ [])
unfolding of_bits
case_10 a b c d e f = (format.case_10_answer, format.case_10 a b c d e f)

-- "11. Block 1,024 taken, 1,025 refused 1; Matrix 12 by 2 taken, 5 by 5 refused 7; input 255 taken, 256 refused 4."
pub case_11 :
    (new_answer 1024 ≡ Ok tt)
    × (new_answer 1025 ≡ Err (refusal BlockLength None))
    × (step_checked (matrix_map ∷ 0 ∷ 0 ∷ 12 ∷ 12 ∷ 2 ∷ []) ≡ Ok tt)
    × (step_checked (matrix_map ∷ 0 ∷ 0 ∷ 5 ∷ 5 ∷ 5 ∷ []) ≡ Err (refusal TooManyValues (Some 1)))
    × (step_checked (patch_map ∷ 255 ∷ 0 ∷ 0 ∷ []) ≡ Ok tt)
    × (step_checked (patch_map ∷ 256 ∷ 0 ∷ 0 ∷ []) ≡ Err (refusal OutsideTable (Some 1)))
unfolding Writes checked
case_11 = (refl, refl, refl, refl, refl, refl)
