-- Lists of settings and runs of a plan: each call gets the plan's record as it is and the plan's areas as the call before left them.
-- Definitions only.
use Rattle.std.specs.Prelude.{ℕ, ◌+◌, ◌≡◌, List, [], ◌∷◌, length, Float, Ok}
use Rattle.refusal.specs.Tests.{outcome, Answer}
use Rattle.lists.specs.Entries.{times}
use Rattle.plan.specs.declared.Plan.{Plan}
use Rattle.plan.specs.Resolved.{Resolved, resolved_steps, node_named}
use Rattle.setting.specs.Setting.{setting_answer, setting_floats, setting_words}
use Rattle.run.specs.Run.{RunGiven, given, State, state, admission, processed}

-- the plan's record, and its areas that no call writes
pub record Fixed : Type 0 where
  pub plan : Plan
  pub indices : List ℕ
  pub coefficients : List Float
  pub steps : List ℕ

-- its areas that calls write
pub record Changing : Type 0 where
  pub floats : List Float
  pub words : List ℕ
  pub buffers : List Float

-- what a run leaves of them, from its state
abbrev pub left_by : State → Changing
left_by s = record { floats = s.floats; words = s.words; buffers = s.buffers }

pub data Call : Type 0 where
  set : (id : ℕ) (values : List Float) (ramp : ℕ) → Call
  run : (directory : List ℕ) (samples out : List Float) → Call

module _ (f : Fixed) where
  abbrev pub given_to : List ℕ → List Float → RunGiven
  given_to directory samples = given f.plan f.indices f.coefficients f.steps directory samples

  abbrev pub start : Changing → List Float → State
  start h out = state h.floats h.words h.buffers out 0

  abbrev pub answer : Changing → Call → Answer
  answer h (set id values ramp) = setting_answer f.plan.nodes id ramp (length h.floats) h.words
  answer h (run directory samples out) = admission (given_to directory samples) (start h out)

  -- what a call leaves, refused or not
  abbrev pub after : Changing → Call → Changing
  after h (set id values ramp) =
      record {
        floats = setting_floats f.plan.nodes id values ramp h.floats h.words;
        words = setting_words f.plan.nodes id values ramp h.floats h.words;
        buffers = h.buffers;
      }
  after h (run directory samples out) = left_by (processed (given_to directory samples) (start h out))

  abbrev pub after_all : Changing → List Call → Changing
  after_all h [] = h
  after_all h (c ∷ cs) = after_all (after h c) cs

  -- how many runs of a list are accepted
  abbrev pub runs : Changing → List Call → ℕ
  runs h [] = 0
  runs h (set id values ramp ∷ cs) = runs (after h (set id values ramp)) cs
  runs h (run directory samples out ∷ cs) =
      outcome (answer h (run directory samples out)) 1 (λ _. 0) + runs (after h (run directory samples out)) cs

  -- no setting of the list that is accepted is of this id
  abbrev pub NotSet : ℕ → Changing → List Call → Type 0
  NotSet i h [] = Unit {0}
  NotSet i h (set id values ramp ∷ cs) = (answer h (set id values ramp) ≡ Ok tt → i ≡ id → ⊥) × NotSet i (after h (set id values ramp)) cs
  NotSet i h (run directory samples out ∷ cs) = NotSet i (after h (run directory samples out)) cs

  abbrev pub steps_of_plan : List Resolved
  steps_of_plan = resolved_steps f.plan f.indices f.coefficients f.steps

-- how many steps of a list use a node
unfoldable pub uses : ℕ → List Resolved → ℕ
uses n [] = 0
uses n (x ∷ xs) = times n (node_named x) + uses n xs
