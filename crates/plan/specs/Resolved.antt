-- A step with its spans resolved to the buffers and the weights that they name: what a run, a trace and the clean answer go over.
-- Definitions only.
use Rattle.std.specs.Prelude.{ℕ, List, [], ◌∷◌, map, length, Float}
use Rattle.lists.specs.Parts.{part}
use Rattle.plan.specs.declared.Plan.{Plan}
use Rattle.plan.specs.declared.Step.{Step}
use Rattle.plan.specs.declared.Step.TheVariants.{Patch, Gain, Matrix, Clear, Send, Output}
use Rattle.plan.specs.Check.{named}
use Rattle.plan.specs.Sound.{steps_of}

pub data Resolved : Type 0 where
  patch : (input channel dst : ℕ) → Resolved
  gain : (node : ℕ) (src dst : List ℕ) → Resolved
  matrix : (node : ℕ) (src dst : List ℕ) → Resolved
  clear : (dst : List ℕ) → Resolved
  send : (node : ℕ) (src dst : List ℕ) (weights : List Float) → Resolved
  output : (src : List ℕ) (slot : ℕ) → Resolved

-- the plan's record is given too, though no kind asks for it yet: what a step names may come to lie where the record says
module _ (p : Plan) (indices : List ℕ) (coefficients : List Float) where
  abbrev pub resolved : Step → Resolved
  resolved (Patch i c d) = patch i c d
  resolved (Gain n s d) = gain n (named indices s) (named indices d)
  resolved (Matrix n s d) = matrix n (named indices s) (named indices d)
  resolved (Clear d) = clear (named indices d)
  resolved (Send n s d c) = send n (named indices s) (named indices d) (part c.start c.len coefficients)
  resolved (Output s o) = output (named indices s) o

-- the steps of a plan, in order
abbrev pub resolved_steps : Plan → List ℕ → List Float → List ℕ → List Resolved
resolved_steps p indices coefficients steps = map (resolved p indices coefficients) (steps_of p steps)

-- ---- what a step has, one clause for each kind: a definition over lists of steps that asks for one of these goes through it

-- the input that it names, if any
abbrev pub input_named : Resolved → List ℕ
input_named (patch i c d) = i ∷ []
input_named (gain n src dst) = []
input_named (matrix n src dst) = []
input_named (clear dst) = []
input_named (send n src dst weights) = []
input_named (output src slot) = []

-- the node that it names, if any
abbrev pub node_named : Resolved → List ℕ
node_named (patch i c d) = []
node_named (gain n src dst) = n ∷ []
node_named (matrix n src dst) = n ∷ []
node_named (clear dst) = []
node_named (send n src dst weights) = n ∷ []
node_named (output src slot) = []

-- the channels that it appends to the output
abbrev pub channels_out : Resolved → ℕ
channels_out (patch i c d) = 0
channels_out (gain n src dst) = 0
channels_out (matrix n src dst) = 0
channels_out (clear dst) = 0
channels_out (send n src dst weights) = 0
channels_out (output src slot) = length src

-- the slot that it names, if any
abbrev pub slot_named : Resolved → List ℕ
slot_named (patch i c d) = []
slot_named (gain n src dst) = []
slot_named (matrix n src dst) = []
slot_named (clear dst) = []
slot_named (send n src dst weights) = []
slot_named (output src slot) = slot ∷ []

-- the buffers of its src
abbrev pub src_of : Resolved → List ℕ
src_of (patch i c d) = []
src_of (gain n src dst) = src
src_of (matrix n src dst) = src
src_of (clear dst) = []
src_of (send n src dst weights) = src
src_of (output src slot) = src

-- the buffers of its dst
abbrev pub dst_of : Resolved → List ℕ
dst_of (patch i c d) = d ∷ []
dst_of (gain n src dst) = dst
dst_of (matrix n src dst) = dst
dst_of (clear dst) = dst
dst_of (send n src dst weights) = dst
dst_of (output src slot) = []
