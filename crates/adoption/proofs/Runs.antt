-- Runs after an adoption, accepted or refused: it changes no answer of their admission, and the ramp of an adopted node ends as that of a set one.
-- Assumes nothing.
use mathlib.Core.Path.{◌≡◌, refl, ◌∙◌}
use mathlib.Core.Bool.{true}
use mathlib.Core.List.{List}
use Prim.Native.Nat.{ℕ, ◌-◌, ◌*◌, ◌<◌}
use lib.Ieee.{Float}
use Rattle.node.specs.Areas.{id_at, left_at}
use Rattle.run.specs.Run.{admission}
use Rattle.run.specs.Calls.{Fixed, Changing, Call, given_to, start, after_all, runs, NotSet, steps_of_plan, uses}
use Rattle.run.proofs.Ready.{Alike, Ready, alike_checked, alike_admitted}
use Rattle.run.proofs.Ramps.{ramp_left}
use Rattle.adoption.specs.Adoption.{Lent, lent, adoption_answer}
use Rattle.adoption.proofs.Named.{named}
use Rattle.adoption.proofs.Adoption.{after, adoption_kept, adoption_good, adoption_left}
use Rattle.std.specs.Prelude.{Ok}

module _ (f : Fixed) (h : Changing) (old : Lent) (pairs : List ℕ) (ramp : ℕ) where
  -- the plan's nodes, and its areas after it adopted
  abbrev new : Lent
  new = lent f.plan.nodes h.floats h.words

  abbrev pub adopted_areas : Changing
  adopted_areas = let l = after new old pairs ramp in record { floats = l.floats; words = l.words; buffers = h.buffers }

  pub adopted_alike : Alike f h adopted_areas
  adopted_alike = let k = adoption_kept new old pairs ramp in record { floats = k.floats; words = k.words; buffers = refl; ids = λ i _. k.ids i }

  -- an adoption changes no answer of the admission
  pub adoption_same : (directory : List ℕ) (samples out : List Float)
      → admission (given_to f directory samples) (start f adopted_areas out) ≡ admission (given_to f directory samples) (start f h out)
  adoption_same = alike_admitted f h adopted_areas adopted_alike (adoption_good new old pairs ramp)

  -- a plan whose own tests and 14 pass stays so
  pub adopted_ready : Ready f h → Ready f adopted_areas
  adopted_ready r = record { plan = alike_checked f h adopted_areas adopted_alike ∙ r.plan; nodes = adoption_good new old pairs ramp ∙ r.nodes }

  -- An adopted node that one step uses: no accepted setting of the list is of its id.
  pub adopted_ramp : (n : ℕ) → n < f.plan.nodes → uses n (steps_of_plan f) ≡ 1 → adoption_answer new old pairs ramp ≡ Ok tt
      → named new old n pairs ≡ true → (cs : List Call) → NotSet f (id_at h.words n) adopted_areas cs
      → left_at (after_all f adopted_areas cs).words n ≡ ramp - runs f adopted_areas cs * f.plan.block
  adopted_ramp n inside once e named cs others =
      ramp_left f n (id_at h.words n) inside once cs adopted_areas ramp (adopted_alike.ids n inside) (adoption_left new old pairs ramp n e named) others
