-- What a plan is that the check accepts, condition by condition, each beside the number that is answered where it fails. The check accepts
-- exactly the sound plans (proofs/Exact.antt). Definitions only.
use Rattle.std.specs.Prelude.{ℕ, zero, suc, ◌+◌, ◌*◌, ◌≤◌, ◌<◌, ◌≡◌, Bool, false, List, [], ◌∷◌, length, get_or, take, Some}
use Rattle.lists.specs.Entries.{some_from, Disjoint}
use Rattle.node.specs.Sizes.{max_values}
use Rattle.node.specs.Areas.{id_at}
use Rattle.plan.specs.declared.Plan.{Plan}
use Rattle.plan.specs.declared.Span.{Span}
use Rattle.plan.specs.declared.Step.{Step}
use Rattle.plan.specs.declared.Step.TheVariants.{Patch, Gain, Matrix, Clear, Send, Output}
use Rattle.plan.specs.Limits.{max_block, inputs, slots, unit_limits}
use Rattle.plan.specs.Words.{read_at, decoded}
use Rattle.plan.specs.Check.{named, used, first_of}

-- ---- a step

-- a span within a table of n entries
abbrev pub Within : ℕ → Span → Type 0
Within n s = s.start + s.len ≤ n

-- each span, buffer, node, input and slot is inside its table, and a Send has no more weights than its coefficient span; `Index` and `Weights` say which
-- spans of the two lists are
abbrev pub InsideBy : (Span → Type 0) → (Span → Type 0) → Plan → Step → Type 0
InsideBy Index Weights p (Patch i c d) = (i < inputs) × (d < p.buffers)
InsideBy Index Weights p (Gain n s d) = (n < p.nodes) × Index s × Index d
InsideBy Index Weights p (Matrix n s d) = (n < p.nodes) × Index s × Index d
InsideBy Index Weights p (Clear d) = Index d
InsideBy Index Weights p (Send n s d c) = (n < p.nodes) × Index s × Index d × Weights c × (s.len * d.len ≤ c.len)
InsideBy Index Weights p (Output s o) = Index s × (o < slots)

abbrev pub Inside : Plan → Step → Type 0
Inside p = InsideBy (Within p.indices) (Within p.coefficients) p

-- a Gain uses at most 24 channels, and a Matrix has at most 24 rows × columns
abbrev pub Narrow : Step → Type 0
Narrow (Patch i c d) = Unit {0}
Narrow (Gain n s d) = used s d ≤ max_values
Narrow (Matrix n s d) = s.len * d.len ≤ max_values
Narrow (Clear d) = Unit {0}
Narrow (Send n s d c) = Unit {0}
Narrow (Output s o) = Unit {0}

-- no buffer is in both src and dst; of a Gain, among the channels that it uses
abbrev pub Apart : List ℕ → Step → Type 0
Apart indices (Patch i c d) = Unit {0}
Apart indices (Gain n s d) = Disjoint (named indices (first_of (used s d) s)) (named indices (first_of (used s d) d))
Apart indices (Matrix n s d) = Disjoint (named indices s) (named indices d)
Apart indices (Clear d) = Unit {0}
Apart indices (Send n s d c) = Disjoint (named indices s) (named indices d)
Apart indices (Output s o) = Unit {0}

-- ---- what a run and a trace take for granted of the index list

-- a span that is within the list, and names buffers
pub record Names (p : Plan) (indices : List ℕ) (s : Span) : Type 0 where
  pub within : Within (length indices) s
  pub numbers : some_from p.buffers (named indices s) ≡ false

-- a step inside its tables, whose spans of the index list name buffers
abbrev pub Placed : Plan → List ℕ → Step → Type 0
Placed p indices = InsideBy (Names p indices) (Within p.coefficients) p

-- and what the check knows of the whole list before it tests a step: it has its entries, and each is the number of one of at most 256 buffers
pub record IndexList (p : Plan) (indices : List ℕ) : Type 0 where
  pub room : p.indices ≤ length indices
  pub few : p.buffers ≤ unit_limits.buffers
  pub entries : some_from p.buffers (take p.indices indices) ≡ false

-- ---- the plan

abbrev pub Each : (Step → Type 0) → List Step → Type 0
Each P [] = Unit {0}
Each P (s ∷ ss) = P s × Each P ss

-- the steps of the step words that count
abbrev pub steps_of : Plan → List ℕ → List Step
steps_of p steps = decoded (take p.words steps) p.steps

pub record Sound (p : Plan) (short : Bool) (indices words steps : List ℕ) : Type 0 where
  -- 1: block 1 to 1,024
  pub block_least : 1 ≤ p.block
  pub block_most : p.block ≤ max_block
  -- 5: each count within its limit
  pub buffer_count : p.buffers ≤ unit_limits.buffers
  pub index_count : p.indices ≤ unit_limits.indices
  pub coefficient_count : p.coefficients ≤ unit_limits.coefficients
  pub node_count : p.nodes ≤ unit_limits.nodes
  pub step_count : p.steps ≤ unit_limits.steps
  -- 2: no area that the call was lent is too short
  pub areas : short ≡ false
  -- 4: each index entry that counts is a buffer number
  pub entries : (i : ℕ) → i < p.indices → i < length indices → get_or indices i 0 < p.buffers
  -- 8: no node id is held twice
  pub ids : (i j : ℕ) → i < j → j < p.nodes → id_at words i ≡ id_at words j → ⊥
  -- 3: every step can be read
  pub readable : length (steps_of p steps) ≡ p.steps
  -- 4: every step is inside its tables
  pub inside : Each (Inside p) (steps_of p steps)
  -- 7: no step is too wide
  pub narrow : Each Narrow (steps_of p steps)
  -- 6: no step shares a buffer between src and dst
  pub apart : Each (Apart indices) (steps_of p steps)

-- ---- the steps of an accepted plan one by one, as a walk of them goes

-- the step that stands at a place of the words; `Rest` is said of the place after it
pub record Pass (p : Plan) (indices w : List ℕ) (at : ℕ) (Rest : ℕ → Type 0) : Type 0 where
  pub step : Step
  pub next : ℕ
  pub read : read_at w at ≡ Some (step, next)
  pub placed : Placed p indices step
  pub narrow : Narrow step
  pub apart : Apart indices step
  pub rest : Rest next

-- each of n steps from a place of the words on
abbrev pub Passes : Plan → List ℕ → List ℕ → ℕ → ℕ → Type 0
Passes p indices w zero at = Unit {0}
Passes p indices w (suc n) at = Pass p indices w at (λ next. Passes p indices w n next)

-- what the tests said of an accepted plan and its steps, as a walk of them asks for it
pub record Tested (p : Plan) (indices w : List ℕ) : Type 0 where
  pub buffers : p.buffers ≤ unit_limits.buffers
  pub steps : p.steps ≤ unit_limits.steps
  pub pass : Passes p indices w p.steps 0
