-- What the contracts of the walk, and of the calls above it, cite: the source sets of all buffers in an area, what a loop over a list of buffers makes
-- of them, and what the walk takes for granted. Definitions only.
use Rattle.std.specs.Prelude.{ℕ, ◌≤◌, max, ◌≡◌, Bool, ◌||◌, cond, List, [], length, get_or}
use Rattle.lists.specs.Entries.{has}
use Rattle.sets.specs.declared.Set.{Set}
use Rattle.sets.specs.Sets.{member, members}
use Rattle.plan.specs.declared.Plan.{Plan}
use Rattle.plan.specs.declared.Span.{Span}
use Rattle.plan.specs.declared.Step.{Step}
use Rattle.plan.specs.Limits.{slots, unit_limits}
use Rattle.plan.specs.Sound.{Names, Placed}
use Rattle.plan.specs.Loops.{slot_of}
use Rattle.trace.specs.Sources.{slots_to}

-- ---- the areas: a set for each buffer that a plan can have, and one for each slot

abbrev pub slot_sets : ℕ
slot_sets = slots

-- past the area there is no set, and so no number is in it
abbrev pub set_at : List Set → ℕ → Set
set_at area b = get_or area b (record { words = [] })

-- its sets, as the definition of the trace has them: whether input i is in the set of buffer b
abbrev pub sources_of : List Set → ℕ → ℕ → Bool
sources_of area b i = member (set_at area b) i

-- and the members of one, ascending
abbrev pub list_at : List Set → ℕ → List ℕ
list_at area b = members (set_at area b)

-- ---- loops over a list of buffers: the set of each becomes what f makes of it, input by input
abbrev pub changed : (ℕ → Bool → Bool) → (ℕ → ℕ → Bool) → List ℕ → ℕ → ℕ → Bool
changed f sources dst b i = cond (has dst b) (f i (sources b i)) (sources b i)

-- another set, and its own with another
abbrev pub other : Set → ℕ → Bool → Bool
other set i own = member set i

abbrev pub joined : Set → ℕ → Bool → Bool
joined set i own = own || member set i

-- ---- what the tests said of an accepted plan, and the area of its sets

-- the plan has no more buffers than a plan can have, and the area has a set for each of these
pub record SetRoom (p : Plan) (area : List Set) : Type 0 where
  pub buffers : p.buffers ≤ unit_limits.buffers
  pub sets : length area ≡ unit_limits.buffers

-- of a step, and of two spans
pub record Fit (p : Plan) (indices : List ℕ) (area : List Set) (x : Step) : Type 0 where
  pub inside : Placed p indices x
  pub room : SetRoom p area

pub record Spans (p : Plan) (indices : List ℕ) (area : List Set) (src dst : Span) : Type 0 where
  pub sources : Names p indices src
  pub targets : Names p indices dst
  pub room : SetRoom p area

-- ---- the count of slots where step x comes to those before it
abbrev pub with_slot : ℕ → Step → ℕ
with_slot n x = max (slots_to (slot_of x)) n
