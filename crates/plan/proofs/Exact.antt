-- The check is exact: it accepts the sound plans and no other, and refuses by the first test that holds. Assumes nothing.
use mathlib.Core.Path.{◌≡◌}
use mathlib.Core.Bool.{Bool}
use mathlib.Core.List.{List}
use mathlib.Core.Logic.{◌↔◌}
use Prim.Native.Nat.{ℕ}
use lib.ListN.{take}
use Rattle.lists.proofs.Entries.{entries_none}
use Rattle.refusal.specs.Tests.{FirstHolds}
use Rattle.refusal.specs.declared.Refusal.{Refusal}
use Rattle.refusal.proofs.Laws.{accepted_none, none_accepted, refused_first, first_refused}
use Rattle.plan.specs.declared.Plan.{Plan}
use Rattle.plan.specs.Limits.{unit_limits}
use Rattle.plan.specs.Words.{decoded}
use Rattle.plan.specs.Check.{plan_tests, checked}
use Rattle.plan.specs.Sound.{steps_of, Sound}
use Rattle.plan.proofs.Plans.{WithinLimits, block_none, limits_none, ids_none}
use Rattle.plan.proofs.Passes.{All, none_all, all_none}
use Rattle.std.specs.Prelude.{Ok, Err}

module _ (p : Plan) (short : Bool) (indices words steps : List ℕ) where
  abbrev w : List ℕ
  w = take p.words steps

  -- the steps of an (Ok tt) plan
  pub accepted_all : checked p short indices words steps ≡ Ok tt → All p indices p.steps (steps_of p steps)
  unfolding checked decoded
  accepted_all e = none_all p indices w p.steps 0 1 (accepted_none (plan_tests p short indices words steps) (Ok tt) e).0.1.1.1.1.1

  pub accepted_sound : checked p short indices words steps ≡ Ok tt → Sound p short indices words steps
  unfolding checked
  accepted_sound e =
      let h = (accepted_none (plan_tests p short indices words steps) (Ok tt) e).0 in
      let block = (block_none p.block).0 h.0 in
      let limits = (limits_none unit_limits p).0 h.1.0 in
      let all = accepted_all e in
      record {
        block_least = block.0;
        block_most = block.1;
        buffer_count = limits.buffers;
        index_count = limits.indices;
        coefficient_count = limits.coefficients;
        node_count = limits.nodes;
        step_count = limits.steps;
        areas = h.1.1.0;
        entries = (entries_none p.buffers p.indices indices).0 h.1.1.1.0;
        ids = (ids_none words p.nodes).0 h.1.1.1.1.0;
        readable = all.readable;
        inside = all.inside;
        narrow = all.narrow;
        apart = all.apart;
      }

  pub sound_accepted : Sound p short indices words steps → checked p short indices words steps ≡ Ok tt
  unfolding checked decoded
  sound_accepted s =
      let limits : WithinLimits unit_limits p = record {
        buffers = s.buffer_count;
        indices = s.index_count;
        coefficients = s.coefficient_count;
        nodes = s.node_count;
        steps = s.step_count;
      } in
      let all : All p indices p.steps (steps_of p steps) = record { readable = s.readable; inside = s.inside; narrow = s.narrow; apart = s.apart } in
      let tests = all_none p indices w p.steps 0 1 all in
      let entries = (entries_none p.buffers p.indices indices).1 s.entries in
      let ids = (ids_none words p.nodes).1 s.ids in
      none_accepted (plan_tests p short indices words steps)
      ((block_none p.block).1 (s.block_least, s.block_most), ((limits_none unit_limits p).1 limits, (s.areas, (entries, (ids, tests)))))

  pub accepted_exactly : (checked p short indices words steps ≡ Ok tt) ↔ Sound p short indices words steps
  accepted_exactly = (accepted_sound, sound_accepted)

  pub refused_exactly : (r : Refusal) → (checked p short indices words steps ≡ Err r) ↔ FirstHolds (plan_tests p short indices words steps) r
  unfolding checked
  refused_exactly r =
      (refused_first (plan_tests p short indices words steps) r, first_refused (plan_tests p short indices words steps) (Ok tt) r)
