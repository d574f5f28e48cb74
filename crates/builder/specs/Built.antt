-- Lists of builder calls: what each leaves of a plan and its areas, and the draft, the list of what the accepted calls gave. Definitions only.
use Rattle.std.specs.Prelude.{ℕ, ◌+◌, ◌*◌, ◌≡◌, List, [], ◌∷◌, ◌++◌, length, take, drop, Float, Some, None, Option}
use Rattle.refusal.specs.Tests.{outcome, Answer}
use Rattle.node.specs.declared.Node.{Node}
use Rattle.node.specs.Sizes.{node_float_count, node_word_count}
use Rattle.node.specs.Nodes.{new_node}
use Rattle.node.specs.Areas.{nodes}
use Rattle.plan.specs.declared.Plan.{Plan}
use Rattle.plan.specs.declared.Step.{Step}
use Rattle.plan.specs.declared.Limits.{Limits}
use Rattle.plan.specs.Words.{read_at}
use Rattle.plan.specs.Areas.{Areas, areas}
use Rattle.plan.specs.Sound.{steps_of}
use Rattle.builder.specs.Growth.{buffers_growth, coefficients_growth, node_growth, step_growth}
use Rattle.builder.specs.Calls.{plan_after, buffers_answer, numbers_from, buffers_indices, coefficients_answer, coefficients_area, node_answer, node_floats_area, node_words_area, record_length, step_answer, step_area}

-- a call between `new` and `finish`
pub data BuilderCall : Type 0 where
  buffers : ℕ → BuilderCall
  coefficients : List Float → BuilderCall
  node : (id : ℕ) (values : List Float) (ramp safe : ℕ) → BuilderCall
  step : List ℕ → BuilderCall

-- a call, and the limits that it is tested by
pub record Asked (Call : Type 0) : Type 0 where
  pub call : Call
  pub limits : Limits

abbrev pub asked : {Call : Type 0} → Limits → Call → Asked Call
asked l c = record { call = c; limits = l }

-- the plan, and the areas that these calls are lent
pub record BuilderState : Type 0 where
  pub plan : Plan
  pub indices : List ℕ
  pub coefficients : List Float
  pub floats : List Float
  pub words : List ℕ
  pub steps : List ℕ

abbrev pub builder_state : Plan → List ℕ → List Float → List Float → List ℕ → List ℕ → BuilderState
builder_state plan indices weights floats words steps =
    record { plan = plan; indices = indices; coefficients = weights; floats = floats; words = words; steps = steps }

-- with an area for the buffers, which `finish` is lent: the six areas of the plan
abbrev pub areas_with : BuilderState → List Float → Areas
areas_with s area = areas s.indices s.coefficients s.floats s.words s.steps area

module _ (l : Limits) where
  abbrev pub answer : BuilderState → BuilderCall → Answer
  answer s (buffers n) = buffers_answer l s.plan n (length s.indices)
  answer s (coefficients xs) = coefficients_answer l s.plan (length xs) (length s.coefficients)
  answer s (node id xs ramp safe) = node_answer l s.plan id (length xs) ramp safe (length s.floats) s.words
  answer s (step w) = step_answer l s.plan w (length s.steps)

  -- what a call leaves, refused or not
  abbrev pub after : BuilderState → BuilderCall → BuilderState
  after s (buffers n) =
      record {
        plan = plan_after (answer s (buffers n)) s.plan (buffers_growth n);
        indices = buffers_indices l s.plan n s.indices;
        coefficients = s.coefficients;
        floats = s.floats;
        words = s.words;
        steps = s.steps;
      }
  after s (coefficients xs) =
      record {
        plan = plan_after (answer s (coefficients xs)) s.plan (coefficients_growth (length xs));
        indices = s.indices;
        coefficients = coefficients_area l s.plan xs s.coefficients;
        floats = s.floats;
        words = s.words;
        steps = s.steps;
      }
  after s (node id xs ramp safe) =
      record {
        plan = plan_after (answer s (node id xs ramp safe)) s.plan node_growth;
        indices = s.indices;
        coefficients = s.coefficients;
        floats = node_floats_area l s.plan id xs ramp safe s.floats s.words;
        words = node_words_area l s.plan id xs ramp safe s.floats s.words;
        steps = s.steps;
      }
  after s (step w) =
      record {
        plan = plan_after (answer s (step w)) s.plan (step_growth (record_length w));
        indices = s.indices;
        coefficients = s.coefficients;
        floats = s.floats;
        words = s.words;
        steps = step_area l s.plan w s.steps;
      }

-- what a list of calls leaves, and those of them that are accepted, without their limits
abbrev pub built : BuilderState → List (Asked BuilderCall) → BuilderState
built s [] = s
built s (c ∷ cs) = built (after c.limits s c.call) cs

abbrev pub accepted : BuilderState → List (Asked BuilderCall) → List BuilderCall
accepted s [] = []
accepted s (c ∷ cs) =
    let rest = accepted (after c.limits s c.call) cs in
    outcome (answer c.limits s c.call) (c.call ∷ rest) (λ _. rest)

-- ---- what a call leaves alone

-- An area of t that is what it was in s before the count `from` and from the count `to` on, and as long.
pub record KeptPart {A : Type 0} (from to : ℕ) (old new : List A) : Type 0 where
  pub front : take from new ≡ take from old
  pub rest : drop to new ≡ drop to old
  pub length : length new ≡ length old

-- From s to t, the block stays, and of each area all but the entries that were added.
pub record Kept (s t : BuilderState) : Type 0 where
  pub block : t.plan.block ≡ s.plan.block
  pub indices : KeptPart s.plan.indices t.plan.indices s.indices t.indices
  pub coefficients : KeptPart s.plan.coefficients t.plan.coefficients s.coefficients t.coefficients
  pub floats : KeptPart (s.plan.nodes * node_float_count) (t.plan.nodes * node_float_count) s.floats t.floats
  pub words : KeptPart (s.plan.nodes * node_word_count) (t.plan.nodes * node_word_count) s.words t.words
  pub steps : KeptPart s.plan.words t.plan.words s.steps t.steps

-- ---- the draft: what accepted calls gave, in lists

pub record Draft : Type 0 where
  pub buffers : ℕ
  pub indices : List ℕ
  pub coefficients : List Float
  pub nodes : List Node
  pub steps : List Step
  pub words : List ℕ

abbrev pub no_draft : Draft
no_draft = record { buffers = 0; indices = []; coefficients = []; nodes = []; steps = []; words = [] }

-- the step that a record of words is
abbrev pub step_read : Option (Step × ℕ) → List Step
step_read (Some (s, next)) = s ∷ []
step_read None = []

abbrev pub given : Draft → BuilderCall → Draft
given d (buffers n) =
    record {
      buffers = d.buffers + n;
      indices = d.indices ++ numbers_from d.buffers n;
      coefficients = d.coefficients;
      nodes = d.nodes;
      steps = d.steps;
      words = d.words;
    }
given d (coefficients xs) =
    record { buffers = d.buffers; indices = d.indices; coefficients = d.coefficients ++ xs; nodes = d.nodes; steps = d.steps; words = d.words }
given d (node id xs ramp safe) =
    record {
      buffers = d.buffers;
      indices = d.indices;
      coefficients = d.coefficients;
      nodes = d.nodes ++ (new_node id xs ramp safe ∷ []);
      steps = d.steps;
      words = d.words;
    }
given d (step w) =
    record {
      buffers = d.buffers;
      indices = d.indices;
      coefficients = d.coefficients;
      nodes = d.nodes;
      steps = d.steps ++ step_read (read_at w 0);
      words = d.words ++ take (record_length w) w;
    }

abbrev pub drafted : Draft → List BuilderCall → Draft
drafted d [] = d
drafted d (c ∷ cs) = drafted (given d c) cs

-- the steps are read one after the other, from one place of the words to another
pub data Reads (w : List ℕ) : ℕ → List Step → ℕ → Type 0 where
  none : {at : ℕ} → Reads w at [] at
  then : {at next end : ℕ} {s : Step} {ss : List Step} → read_at w at ≡ Some (s, next) → Reads w next ss end → Reads w at (s ∷ ss) end

-- no word that counts lies after the last step: the steps are read one after the other, and end where the words that count do
abbrev pub NoWordsAfter : BuilderState → Type 0
NoWordsAfter s = Reads (take s.plan.words s.steps) 0 (steps_of s.plan s.steps) s.plan.words

-- A plan and its areas hold a draft: the counts are those of its lists, and what the areas have up to the counts, read back, is the lists.
pub record Drafted (s : BuilderState) (d : Draft) : Type 0 where
  pub buffers : s.plan.buffers ≡ d.buffers
  pub index_count : s.plan.indices ≡ length d.indices
  pub coefficient_count : s.plan.coefficients ≡ length d.coefficients
  pub node_count : s.plan.nodes ≡ length d.nodes
  pub step_count : s.plan.steps ≡ length d.steps
  pub word_count : s.plan.words ≡ length d.words
  pub indices : take s.plan.indices s.indices ≡ d.indices
  pub coefficients : take s.plan.coefficients s.coefficients ≡ d.coefficients
  pub nodes : nodes s.plan.nodes s.floats s.words ≡ d.nodes
  pub words : take s.plan.words s.steps ≡ d.words
  pub steps : Reads d.words 0 d.steps (length d.words)
