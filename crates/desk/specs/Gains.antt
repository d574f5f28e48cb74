-- The gains of a width, with the answer and the area of the call that works them out. Definitions only.
use Rattle.std.specs.Prelude.{ℕ, cond, List, [], ◌∷◌, map, ltb, length, Float, Ok, Err, Result}
use Rattle.std.proofs.lemmas.List.Edits.{sets}
use Rattle.std.specs.Float.{binary64}
use Rattle.std.specs.Float.Ieee.{of_bits}
use Rattle.refusal.specs.Tests.{test, first, Answer}
use Rattle.rounding.specs.Narrow.{narrowed}
use Rattle.format_balance.specs.Balance.{stereo_matrix}
use Rattle.refusal.specs.declared.Reason.TheVariants.{ShortArea}
use Rattle.refusal.specs.declared.Refusal.{Refusal}

abbrev pub stereo : ℕ
stereo = 1

abbrev pub answer_of : {A : Type 0} → Result A Refusal → Answer
answer_of (Ok _) = Ok tt
answer_of (Err r) = Err r

-- two rows of two columns, rounded, at the front of an area
abbrev pub stored : Result (List Float) Refusal → List Float → List Float
stored (Ok m) area = sets area 0 (map narrowed m)
stored (Err r) area = area

-- the width w at the balance 0: 2, then what `stereo_matrix` answers
unfoldable pub width_answer : Float → ℕ → Answer
width_answer w n = first (test ShortArea (ltb n 4) ∷ []) (answer_of (stereo_matrix w (of_bits binary64 0)))

unfoldable pub width_area : Float → List Float → List Float
width_area w area = cond (ltb (length area) 4) area (stored (stereo_matrix w (of_bits binary64 0)) area)
