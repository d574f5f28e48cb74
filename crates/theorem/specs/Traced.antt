-- What the clean answer and the trace say of a plan on which settings and runs are called. Definitions only.
use Rattle.std.specs.Prelude.{true, ℕ, ◌≡◌, List, Ok}
use Rattle.trace.specs.Sources.{source_list}
use Rattle.trace.specs.Calls.{traced_steps, clean_answer}
use Rattle.run.specs.Calls.{Fixed, Changing}

-- the plan is clean, by the clean answer
abbrev pub IsClean : Fixed → Changing → Type 0
IsClean f h = clean_answer f.plan f.indices h.words f.steps ≡ Ok true

-- the list that the trace gives for slot s
abbrev pub list_for : Fixed → ℕ → List ℕ
list_for f s = source_list s (traced_steps f.plan f.indices f.steps)
