-- A list of settings and runs after a build, and its journal: the accepted calls, in order. "A refused call adds no setting and no sample."
-- Definitions only.
use Rattle.std.specs.Prelude.{ℕ, ◌+◌, ◌*◌, ◌≤◌, ◌<◌, ◌≡◌, List, [], ◌∷◌, ◌++◌, length, take, Float}
use Rattle.lists.specs.Parts.{part}
use Rattle.refusal.specs.Tests.{outcome}
use Rattle.input.specs.Input.{lookup}
use Rattle.run.specs.Run.{processed}
use Rattle.run.specs.Calls.{Fixed, Changing, Call, set, run, given_to, start, answer, after}

-- an accepted setting; an accepted run, with the output area as it left it
pub data Entry : Type 0 where
  setting : (id ramp : ℕ) (values : List Float) → Entry
  ran : (directory : List ℕ) (samples output : List Float) → Entry

-- "each gets the plan's block and counts as `finish` left them and the plan's areas as the call before left them"
module _ (f : Fixed) where
  abbrev pub entry : Changing → Call → Entry
  entry h (set id values ramp) = setting id ramp values
  entry h (run directory samples out) = ran directory samples (processed (given_to f directory samples) (start f h out)).output

  abbrev pub journal : Changing → List Call → List Entry
  journal h [] = []
  journal h (c ∷ cs) = outcome (answer f h c) (entry h c ∷ journal (after f h c) cs) (λ _. journal (after f h c) cs)

-- every accepted ramp is 0
abbrev pub NoRampSet : List Entry → Type 0
NoRampSet [] = Unit {0}
NoRampSet (setting id ramp values ∷ es) = (ramp ≡ 0) × NoRampSet es
NoRampSet (ran directory samples output ∷ es) = NoRampSet es

-- an accepted setting with its sample: "the block times the accepted runs before it"
pub record Setting : Type 0 where
  pub sample : ℕ
  pub id : ℕ
  pub ramp : ℕ
  pub values : List Float

-- ---- what is read off a journal, for blocks of n samples
module _ (n : ℕ) where
  -- T, the samples of the accepted runs
  abbrev pub total : List Entry → ℕ
  total [] = 0
  total (setting id ramp values ∷ es) = total es
  total (ran directory samples output ∷ es) = n + total es

  -- the accepted settings, where the journal starts at a sample
  abbrev pub settings_from : ℕ → List Entry → List Setting
  settings_from sample [] = []
  settings_from sample (setting id ramp values ∷ es) = record { sample = sample; id = id; ramp = ramp; values = values } ∷ settings_from sample es
  settings_from sample (ran directory samples output ∷ es) = settings_from (sample + n) es

  -- the blocks at place q of the output area, joined in list order
  abbrev pub written : ℕ → List Entry → List Float
  written q [] = []
  written q (setting id ramp values ∷ es) = written q es
  written q (ran directory samples output ∷ es) = part (q * n) n output ++ written q es

  -- the lookup's part for channel c of input i counts as absent in every accepted run, or in none; and its first n samples, joined in list order
  abbrev pub Absent : ℕ → ℕ → List Entry → Type 0
  Absent i c [] = Unit {0}
  Absent i c (setting id ramp values ∷ es) = Absent i c es
  Absent i c (ran directory samples output ∷ es) = (length (lookup directory samples i c) < n) × Absent i c es

  abbrev pub Whole : ℕ → ℕ → List Entry → Type 0
  Whole i c [] = Unit {0}
  Whole i c (setting id ramp values ∷ es) = Whole i c es
  Whole i c (ran directory samples output ∷ es) = (n ≤ length (lookup directory samples i c)) × Whole i c es

  abbrev pub carried : ℕ → ℕ → List Entry → List Float
  carried i c [] = []
  carried i c (setting id ramp values ∷ es) = carried i c es
  carried i c (ran directory samples output ∷ es) = take n (lookup directory samples i c) ++ carried i c es
