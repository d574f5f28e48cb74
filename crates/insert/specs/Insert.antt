-- The builder call for an insert: what it adds, its tests in their order, its answer, and the plan and areas that it leaves. Definitions only.
use Rattle.std.specs.Prelude.{ℕ, ◌+◌, ◌-◌, ◌*◌, Bool, ◌||◌, ◌&&◌, cond, List, [], ◌∷◌, ◌++◌, map, eqb, ltb, Ok, Err, Some, None, Result}
use Rattle.refusal.specs.Tests.{Test, test, first, outcome, Answer}
use Rattle.node.specs.Sizes.{ramp_too_long}
use Rattle.format.specs.Formats.{unknown_format, channels}
use Rattle.plan.specs.declared.Plan.{Plan}
use Rattle.plan.specs.declared.Limits.{Limits}
use Rattle.plan.specs.declared.Span.{Span}
use Rattle.plan.specs.Check.{past}
use Rattle.builder.specs.declared.Growth.{Growth}
use Rattle.builder.specs.declared.Lengths.{Lengths}
use Rattle.builder.specs.Growth.{growth_tests}
use Rattle.builder.specs.Built.{asked, BuilderState, built}
use Rattle.builder.specs.Sums.{ids_taken, lengths}
use Rattle.insert.specs.declared.InsertIds.{InsertIds}
use Rattle.insert.specs.declared.InsertReturn.{InsertReturn}
use Rattle.insert.specs.declared.InsertPoint.{InsertPoint}
use Rattle.insert.specs.Wiring.{insert_calls, handed_on}
use Rattle.refusal.specs.declared.Reason.TheVariants.{BadReturn, IdTaken, LongRamp, NoFormat, OutsideTable}
use Rattle.refusal.specs.declared.Refusal.{Refusal}

-- ---- what it adds: n channels, with or without a return

abbrev pub send_growth : ℕ → Growth
send_growth n = record { buffers = Some n; indices = Some n; coefficients = None; nodes = Some 1; steps = Some 2; words = Some 10 }

abbrev pub return_growth : ℕ → Growth
return_growth n =
    record { buffers = Some (6 * n); indices = Some (6 * n); coefficients = Some (n * n); nodes = Some 6; steps = Some (n + 8); words = Some (4 * n + 47) }

abbrev pub insert_growth : Bool → ℕ → Growth
insert_growth returns n = cond returns (return_growth n) (send_growth n)

abbrev pub insert_ids : Bool → InsertIds → List ℕ
insert_ids returns ids = ids.send ∷ cond returns (ids.ret ∷ ids.dry ∷ ids.wet ∷ ids.dryin ∷ ids.wetin ∷ []) []

-- ---- the tests: 16; with a return 18; 4; and then, once for the whole insert, 5, 2, 8, 10

-- the largest number of a channel that four bytes hold
abbrev pub max_channel : ℕ
max_channel = 4294967295

-- "a return input or channel of 0 or a last channel above 4,294,967,295"
abbrev pub return_bad : ℕ → InsertReturn → Bool
return_bad n b = eqb b.input 0 || eqb b.channel 0 || ltb max_channel (b.channel + n - 1)

abbrev pub insert_own : Plan → InsertPoint → List ℕ → List Test
insert_own p i words = test IdTaken (ids_taken words p.nodes (insert_ids i.returns i.ids)) ∷ test LongRamp (ramp_too_long i.ramp) ∷ []

-- those that no single call asks
abbrev pub insert_first : Plan → InsertPoint → List Test
insert_first p i =
    test NoFormat (unknown_format i.format)
    ∷ test BadReturn (i.returns && return_bad (channels i.format) i.back)
    ∷ test OutsideTable (past p.indices i.src)
    ∷ []

abbrev pub insert_tests : Limits → Plan → InsertPoint → Lengths → List ℕ → List Test
insert_tests l p i lent words = insert_first p i ++ growth_tests l p (insert_growth i.returns (channels i.format)) lent (insert_own p i words)

unfoldable pub insert_answer : Limits → Plan → InsertPoint → Lengths → List ℕ → Answer
insert_answer l p i lent words = first (insert_tests l p i lent words) (Ok tt)

-- ---- what it hands back and leaves

module _ (l : Limits) (s : BuilderState) (i : InsertPoint) where
  abbrev pub answer_to : Answer
  answer_to = insert_answer l s.plan i (lengths s) s.words

  abbrev pub insert_span : Result Span Refusal
  insert_span = outcome answer_to (Ok (handed_on s.plan i)) Err

  -- all of its calls, or nothing
  abbrev pub inserted : BuilderState
  inserted = outcome answer_to (built s (map (asked l) (insert_calls s.plan i))) (λ _. s)
