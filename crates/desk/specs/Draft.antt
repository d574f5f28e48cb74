-- A plan while it is laid out by builder calls: once a call is refused no other is made. And the buffers of each of its lines. Definitions only.
use Rattle.std.specs.Prelude.{ℕ, Bool, true, false, cond, List, ltb, get_or, replicate, set, Result, Ok, Err}
use Rattle.refusal.specs.Tests.{Answer, outcome}
use Rattle.refusal.specs.declared.Refusal.{Refusal}
use Rattle.plan.specs.declared.Span.{Span}
use Rattle.plan.specs.Words.{span}
use Rattle.builder.specs.Calls.{new_answer}
use Rattle.desk.specs.declared.draft.Draft.{Draft}
use Rattle.desk.specs.declared.draft.Lines.{Lines}
use Rattle.desk.specs.Gains.{answer_of}

abbrev pub max_lines : ℕ
max_lines = 16

-- a draft with nothing in it yet: where the block is refused, it is refused from the start
abbrev pub begun : ℕ → Draft
begun block = record { answer = new_answer block; lines = record { spans = replicate max_lines (span 0 0) } }

abbrev pub refused : Draft → Bool
refused d = outcome d.answer false (λ _. true)

-- what a call leaves: `new` where it is made, and what there was where the draft has had a refusal
abbrev pub made : {A : Type 0} → Draft → A → A → A
made d new old = outcome d.answer new (λ _. old)

-- what a call answers: its own answer where it is made, and else the refusal that the draft has had
abbrev pub asked : {A : Type 0} → Draft → Result A Refusal → Result A Refusal
asked d answer = outcome d.answer answer Err

-- the draft after a call that answers so
abbrev pub answered : {A : Type 0} → Draft → Result A Refusal → Draft
answered d answer = record { answer = answer_of answer; lines = d.lines }

-- ---- the buffers of each line, and none of a line that there is not

abbrev pub line_of : List Span → ℕ → Span
line_of lines line = cond (ltb line max_lines) (get_or lines line (span 0 0)) (span 0 0)

abbrev pub with_line : List Span → ℕ → Span → List Span
with_line lines line s = cond (ltb line max_lines) (set lines line s) lines
