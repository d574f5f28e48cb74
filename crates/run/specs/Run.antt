-- A run of a plan over one block: the state that its steps change, each step, the admission, and the whole call. Definitions only.
use Rattle.std.specs.Prelude.{ℕ, ◌+◌, ◌*◌, List, [], ◌∷◌, ◌++◌, ltb, length, Float, Ok, Err, Result}
use Rattle.refusal.specs.Tests.{Test, test, first, outcome, Answer}
use Rattle.node.specs.declared.Gain.{Gain}
use Rattle.node.specs.Nodes.{gain_of}
use Rattle.node.specs.Areas.{node_at, stored_floats, stored_words, ended, some_bad}
use Rattle.mix.specs.Samples.{put}
use Rattle.mix.specs.Mix.{gained, rows, sends, cleared, appended, patched}
use Rattle.plan.specs.declared.Plan.{Plan}
use Rattle.plan.specs.Areas.{areas, short_areas}
use Rattle.plan.specs.Check.{plan_tests}
use Rattle.plan.specs.Resolved.{Resolved, patch, gain, matrix, clear, send, output, resolved_steps, channels_out}
use Rattle.input.specs.Input.{lookup, directory_bad}
use Rattle.refusal.specs.declared.Reason.TheVariants.{BadDirectory, BadNode, ShortOutput}
use Rattle.refusal.specs.declared.Refusal.{Refusal}

-- what a run only reads
pub record RunGiven : Type 0 where
  pub plan : Plan
  pub indices : List ℕ
  pub coefficients : List Float
  pub steps : List ℕ
  pub directory : List ℕ
  pub samples : List Float

abbrev pub given : Plan → List ℕ → List Float → List ℕ → List ℕ → List Float → RunGiven
given p indices coefficients steps directory samples =
    record { plan = p; indices = indices; coefficients = coefficients; steps = steps; directory = directory; samples = samples }

-- what it changes: the node areas, the buffers, the output area, and how many samples of that are written
pub record State : Type 0 where
  pub floats : List Float
  pub words : List ℕ
  pub buffers : List Float
  pub output : List Float
  pub wrote : ℕ

abbrev pub state : List Float → List ℕ → List Float → List Float → ℕ → State
state floats words buffers out wrote = record { floats = floats; words = words; buffers = buffers; output = out; wrote = wrote }

-- ---- a step

-- value i of node n, as a gain
abbrev pub gains : State → ℕ → ℕ → Gain
gains s n i = gain_of (node_at s.floats s.words n) i

abbrev pub with_buffers : State → List Float → State
with_buffers s buffers = state s.floats s.words buffers s.output s.wrote

-- "End of a step's block" of node n
abbrev pub finished : ℕ → ℕ → State → State
finished block n s =
    let node = ended block s.floats s.words n in
    state (stored_floats s.floats n node) (stored_words s.words n node) s.buffers s.output s.wrote

-- the lines of document 01's section "Run"
unfoldable pub stepped : ℕ → (ℕ → ℕ → List Float) → Resolved → State → State
unfolding patched gained rows sends cleared appended
stepped block input (patch i c d) s = with_buffers s (put block d (patched block (input i c)) s.buffers)
stepped block input (gain n src dst) s = finished block n (with_buffers s (gained block (gains s n) 0 src dst s.buffers))
stepped block input (matrix n src dst) s = finished block n (with_buffers s (rows block (gains s n) 0 src dst s.buffers))
stepped block input (clear dst) s = with_buffers s (cleared block dst s.buffers)
stepped block input (send n src dst weights) s = finished block n (with_buffers s (sends block (gains s n 0) weights 0 src dst s.buffers))
stepped block input (output src slot) s =
    state s.floats s.words s.buffers (appended block s.buffers src s.wrote s.output) (s.wrote + length src * block)

unfoldable pub run_steps : ℕ → (ℕ → ℕ → List Float) → List Resolved → State → State
unfolding stepped
run_steps block input [] s = s
run_steps block input (x ∷ xs) s = run_steps block input xs (stepped block input x s)

-- ---- the admission: the plan's tests, then 14, 12, 13

-- the channels that the Outputs of a list of steps have
unfoldable pub output_channels : List Resolved → ℕ
output_channels [] = 0
output_channels (x ∷ xs) = channels_out x + output_channels xs

abbrev pub steps_of_run : RunGiven → List Resolved
steps_of_run g = resolved_steps g.plan g.indices g.coefficients g.steps

abbrev pub run_tests : RunGiven → State → List Test
run_tests g s =
    plan_tests g.plan (short_areas g.plan (areas g.indices g.coefficients s.floats s.words g.steps s.buffers)) g.indices s.words g.steps
    ++ test BadNode (some_bad s.words g.plan.nodes)
    ∷ test BadDirectory (directory_bad g.directory (length g.samples))
    ∷ test ShortOutput (ltb (length s.output) (output_channels (steps_of_run g) * g.plan.block))
    ∷ []

unfoldable pub admission : RunGiven → State → Answer
unfolding directory_bad output_channels
admission g s = first (run_tests g s) (Ok tt)

-- ---- the call

-- the state after it, refused or not; `wrote` is 0 at its start
unfoldable pub processed : RunGiven → State → State
unfolding admission run_steps lookup
processed g s = outcome (admission g s) (run_steps g.plan.block (lookup g.directory g.samples) (steps_of_run g) s) (λ _. s)

-- what it answers: the samples written, or the refusal
unfoldable pub process_answer : RunGiven → State → Result ℕ Refusal
unfolding admission processed
process_answer g s = outcome (admission g s) (Ok (processed g s).wrote) Err
