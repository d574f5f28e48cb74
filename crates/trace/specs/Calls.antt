-- `output_sources`, `all_sources` and the clean answer as calls. Each is lent the index list, the node words and the step words, and no
-- coefficients, which none reads. Definitions only.
use Rattle.std.specs.Prelude.{ℕ, zero, suc, ◌*◌, ◌||◌, true, false, cond, List, [], ◌∷◌, ◌++◌, ltb, leb, length, Ok, Err, Result, Bool}
use Rattle.std.proofs.lemmas.List.Edits.{sets}
use Rattle.lists.specs.Parts.{upto}
use Rattle.refusal.specs.Tests.{Test, test, first, outcome, area_after, Answer}
use Rattle.plan.specs.declared.Plan.{Plan}
use Rattle.plan.specs.Limits.{inputs}
use Rattle.plan.specs.Areas.{short_lists}
use Rattle.plan.specs.Check.{plan_tests, checked}
use Rattle.plan.specs.Resolved.{Resolved, resolved_steps}
use Rattle.trace.specs.Sources.{source_list, slot_count}
use Rattle.trace.specs.Clean.{clean}
use Rattle.refusal.specs.declared.Reason.TheVariants.{NoSlot, ShortArea}
use Rattle.refusal.specs.declared.Refusal.{Refusal}

-- the steps that a trace goes over
abbrev pub traced_steps : Plan → List ℕ → List ℕ → List Resolved
traced_steps p indices steps = resolved_steps p indices [] steps

-- ---- `output_sources`: the plan's tests, then 15, then 2 for the list's area of n places

abbrev pub trace_tests : Plan → ℕ → List ℕ → List ℕ → List ℕ → ℕ → List Test
trace_tests p slot indices words steps n =
    plan_tests p (short_lists p indices words steps) indices words steps
    ++ test NoSlot (leb (slot_count (traced_steps p indices steps)) slot)
    ∷ test ShortArea (ltb n (length (source_list slot (traced_steps p indices steps))))
    ∷ []

unfoldable pub trace_answer : Plan → ℕ → List ℕ → List ℕ → List ℕ → ℕ → Answer
unfolding slot_count source_list
trace_answer p slot indices words steps n = first (trace_tests p slot indices words steps n) (Ok tt)

-- what it answers: the count of the inputs behind the slot, "the count is the list's length", or the refusal
unfoldable pub sources_answer : Plan → ℕ → List ℕ → List ℕ → List ℕ → ℕ → Result ℕ Refusal
unfolding trace_answer
sources_answer p slot indices words steps n =
    outcome (trace_answer p slot indices words steps n) (Ok (length (source_list slot (traced_steps p indices steps)))) Err

-- the list's area after it: the inputs at its front
unfoldable pub sources_area : Plan → ℕ → List ℕ → List ℕ → List ℕ → List ℕ → List ℕ
unfolding trace_answer
sources_area p slot indices words steps area =
    area_after (trace_answer p slot indices words steps (length area)) (sets area 0 (source_list slot (traced_steps p indices steps))) area

-- ---- `all_sources`: the plan's tests, then 2 where the counts' area, of m places, has fewer than there are slots, or the lists' area, of n places,
-- fewer than 256 a slot

abbrev pub all_tests : Plan → List ℕ → List ℕ → List ℕ → ℕ → ℕ → List Test
all_tests p indices words steps m n =
    plan_tests p (short_lists p indices words steps) indices words steps
    ++ test ShortArea (ltb m (slot_count (traced_steps p indices steps)) || ltb n (slot_count (traced_steps p indices steps) * inputs))
    ∷ []

unfoldable pub all_traced : Plan → List ℕ → List ℕ → List ℕ → ℕ → ℕ → Answer
unfolding slot_count
all_traced p indices words steps m n = first (all_tests p indices words steps m n) (Ok tt)

-- what it answers: the count of the slots, or the refusal
unfoldable pub all_answer : Plan → List ℕ → List ℕ → List ℕ → ℕ → ℕ → Result ℕ Refusal
unfolding all_traced
all_answer p indices words steps m n =
    outcome (all_traced p indices words steps m n) (Ok (slot_count (traced_steps p indices steps))) Err

-- both areas once the first n slots are done, where slot s has the inputs `list s`: how many these are at place s, and the inputs from s * 256 on
abbrev pub counts_of : (ℕ → List ℕ) → ℕ → List ℕ → List ℕ
counts_of list n counts = upto n (λ s. length (list s)) counts

abbrev pub lists_of : (ℕ → List ℕ) → ℕ → List ℕ → List ℕ
lists_of list zero lists = lists
lists_of list (suc s) lists = sets (lists_of list s lists) (s * inputs) (list s)

-- the areas after the call: every slot is done, with its own list
unfoldable pub all_counts : Plan → List ℕ → List ℕ → List ℕ → List ℕ → ℕ → List ℕ
unfolding all_traced
all_counts p indices words steps counts n =
    area_after (all_traced p indices words steps (length counts) n)
    (counts_of (λ s. source_list s (traced_steps p indices steps)) (slot_count (traced_steps p indices steps)) counts) counts

unfoldable pub all_lists : Plan → List ℕ → List ℕ → List ℕ → ℕ → List ℕ → List ℕ
unfolding all_traced
all_lists p indices words steps m lists =
    area_after (all_traced p indices words steps m (length lists))
    (lists_of (λ s. source_list s (traced_steps p indices steps)) (slot_count (traced_steps p indices steps)) lists) lists

-- ---- the clean answer: the plan's tests

unfoldable pub clean_answer : Plan → List ℕ → List ℕ → List ℕ → Result Bool Refusal
unfolding clean
clean_answer p indices words steps =
    outcome (checked p (short_lists p indices words steps) indices words steps)
    (cond (clean (traced_steps p indices steps)) (Ok true) (Ok false)) Err
