-- What a run, a trace and an adoption go by: of a plan that was accepted its room and its limits, and of each of its steps
-- that it is inside its tables, narrow and apart, with the buffers that its spans name. Assumes nothing.
use mathlib.Core.Path.{◌≡◌, sym, ◌∙◌, subst}
use mathlib.Core.Bool.{Bool}
use mathlib.Core.List.{List}
use Prim.Native.Nat.{ℕ, suc, ◌≤◌}
use lib.ListN.{length, take}
use Rattle.lists.proofs.Entries.{entries_none}
use Rattle.plan.specs.declared.Plan.{Plan}
use Rattle.plan.specs.declared.Step.{Step}
use Rattle.plan.specs.Limits.{unit_limits}
use Rattle.plan.specs.Areas.{Areas, short_areas, short_lists}
use Rattle.plan.specs.Words.{read_at, decoded}
use Rattle.plan.specs.Check.{checked, check_plan}
use Rattle.plan.specs.Sound.{Narrow, Apart, Placed, Each, steps_of, Pass, Passes}
use Rattle.plan.proofs.Words.{same_read}
use Rattle.plan.proofs.Plans.{WithinLimits, Room, ListRoom, areas_none, lists_none}
use Rattle.plan.proofs.Passes.{all_passes, passes_placed}
use Rattle.plan.proofs.Exact.{accepted_all, accepted_sound}
use Rattle.std.specs.Prelude.{Ok, Some}

-- ---- the plan
module _ (p : Plan) (short : Bool) (indices words steps : List ℕ) (e : checked p short indices words steps ≡ Ok tt) where
  pub accepted_limits : WithinLimits unit_limits p
  accepted_limits =
      let s = accepted_sound p short indices words steps e in
      record {
        buffers = s.buffer_count;
        indices = s.index_count;
        coefficients = s.coefficient_count;
        nodes = s.node_count;
        steps = s.step_count;
      }

  pub accepted_passes : p.indices ≤ length indices → Passes p indices (take p.words steps) p.steps 0
  unfolding decoded
  accepted_passes h =
      let s = accepted_sound p short indices words steps e in
      all_passes p indices (take p.words steps)
      (record { room = h; few = s.buffer_count; entries = (entries_none p.buffers p.indices indices).1 s.entries })
      p.steps 0 (accepted_all p short indices words steps e)

  pub accepted_placed : p.indices ≤ length indices → Each (Placed p indices) (steps_of p steps)
  unfolding decoded
  accepted_placed h = passes_placed p indices (take p.words steps) p.steps 0 (accepted_passes h)

-- the room of all six areas, where the call tested them, and of three
pub accepted_room : (p : Plan) (a : Areas) → check_plan p a ≡ Ok tt → Room p a
accepted_room p a e = (areas_none p a).0 (accepted_sound p (short_areas p a) a.indices a.node_words a.step_words e).areas

pub accepted_lists : (p : Plan) (indices words steps : List ℕ) → checked p (short_lists p indices words steps) indices words steps ≡ Ok tt
    → ListRoom p indices words steps
accepted_lists p indices words steps e =
    (lists_none p indices words steps).0 (accepted_sound p (short_lists p indices words steps) indices words steps e).areas

-- ---- a step that was read, where `left` of them pass, and `more` after it
module _ (p : Plan) (indices w : List ℕ) (at : ℕ) {left more : ℕ} (e : left ≡ suc more) (f : Passes p indices w left at) where
  pass : Pass p indices w at (λ next. Passes p indices w more next)
  pass = subst (λ (k : ℕ). Passes p indices w k at) e f

  module _ {s : Step} {next : ℕ} (r : read_at w at ≡ Some (s, next)) where
    the_step : s ≡ pass.step
    the_step = (same_read (sym r ∙ pass.read)).0

    pub pass_placed : Placed p indices s
    pass_placed = rw the_step pass.placed

    pub pass_narrow : Narrow s
    pass_narrow = rw the_step pass.narrow

    pub pass_apart : Apart indices s
    pass_apart = rw the_step pass.apart

    pub pass_rest : Passes p indices w more next
    pass_rest =
        let q = (same_read (sym r ∙ pass.read)).1 in
        rw q pass.rest
