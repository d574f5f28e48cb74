-- What follows for the recorder, of any plan and areas: two accepted runs from the same state, whose inputs differ in one input alone.
-- Definitions only.
use Rattle.std.specs.Prelude.{ℕ, ◌*◌, ◌≤◌, ◌<◌, ◌≡◌, ◌⊎◌, List, length, take, Float, Ok}
use Rattle.lists.specs.Parts.{part}
use Rattle.input.specs.Input.{lookup}
use Rattle.run.specs.Run.{processed}
use Rattle.run.specs.Calls.{Fixed, Changing, run, given_to, start, answer}

-- the inputs of a run: a directory and its samples
pub record Inputs : Type 0 where
  pub directory : List ℕ
  pub samples : List Float

module _ (f : Fixed) (h : Changing) (output : List Float) where
  abbrev pub block : ℕ
  block = f.plan.block

  -- channel c of input i is absent in both, or whole in both with the same samples
  abbrev pub SameInput : Inputs → Inputs → ℕ → ℕ → Type 0
  SameInput x y i c =
      let u : List Float = lookup x.directory x.samples i c in
      let v : List Float = lookup y.directory y.samples i c in
      ((length u < block) × (length v < block)) ⊎ ((block ≤ length u) × (block ≤ length v) × (take block u ≡ take block v))

  -- the block that a run with these inputs leaves at place q of the output area
  abbrev pub block_at : Inputs → ℕ → List Float
  block_at x q = part (q * block) block (processed (given_to f x.directory x.samples) (start f h output)).output

  -- Input i can change channel q: two accepted runs that differ in input i alone leave another block there.
  pub record Changes (i q : ℕ) : Type 0 where
    pub one : Inputs
    pub other : Inputs
    pub one_accepted : answer f h (run one.directory one.samples output) ≡ Ok tt
    pub other_accepted : answer f h (run other.directory other.samples output) ≡ Ok tt
    pub same_but : (j c : ℕ) → (j ≡ i → ⊥) → SameInput one other j c
    pub differ : block_at one q ≡ block_at other q → ⊥
