-- The admission of a run: how it answers, test by test, and what an accepted one says. Assumes nothing.
use mathlib.Core.Path.{◌≡◌, refl, sym, ◌∙◌}
use mathlib.Core.Bool.{true, false}
use mathlib.Core.List.{List, [], ◌∷◌, map}
use Prim.Native.Nat.{ℕ, ◌*◌, ◌≤◌, ◌<◌}
use lib.ListN.{length, take}
use lib.Dec.{ltb}
use borrow.Author.Tests.{ltb-false, lt-ltb, le-ltb}
use lib.Ieee.{Float}
use Rattle.refusal.specs.Tests.{refusal, Test, test, first}
use Rattle.refusal.specs.declared.Refusal.{Refusal}
use Rattle.refusal.proofs.Laws.{first_append, none_rest, accepted_none, refused_rest}
use Rattle.node.specs.Areas.{some_bad}
use Rattle.plan.specs.declared.Plan.{Plan}
use Rattle.plan.specs.declared.Step.{Step}
use Rattle.plan.specs.Limits.{max_block, unit_limits}
use Rattle.plan.specs.Areas.{Areas, areas, short_areas}
use Rattle.plan.specs.Check.{id_twice, plan_tests, checked, check_plan}
use Rattle.plan.specs.Resolved.{resolved}
use Rattle.plan.specs.Sound.{steps_of, Passes, Each, Placed}
use Rattle.plan.proofs.Plans.{block_none, WithinLimits, limits_none, Room, areas_none}
use Rattle.plan.proofs.Named.{channels_named}
use Rattle.plan.proofs.Accepted.{accepted_passes, accepted_placed}
use Rattle.plan.specs.Loops.{channels_of}
use Rattle.input.specs.Input.{directory_bad}
use Rattle.run.specs.Run.{RunGiven, State, output_channels, steps_of_run, admission}
use Rattle.run.specs.Loops.{Fit}
use Rattle.refusal.specs.declared.Reason.TheVariants.{BadDirectory, BadNode, ShortOutput}
use Rattle.std.specs.Prelude.{Ok, Err, None}

-- ---- what the plan check's acceptance says
pub record Checked (p : Plan) (a : Areas) : Type 0 where
  pub block : p.block ≤ max_block
  pub limits : WithinLimits unit_limits p
  pub room : Room p a
  pub ids : id_twice a.node_words p.nodes ≡ false
  pub steps : Passes p a.indices (take p.words a.step_words) p.steps 0
  pub placed : Each (Placed p a.indices) (steps_of p a.step_words)

pub tested : (p : Plan) (a : Areas) → check_plan p a ≡ Ok tt → Checked p a
unfolding checked
tested p a e =
    let t = (accepted_none (plan_tests p (short_areas p a) a.indices a.node_words a.step_words) (Ok tt) e).0 in
    let l = (limits_none unit_limits p).0 t.1.0 in
    let r = (areas_none p a).0 t.1.1.0 in
    record {
      block = ((block_none p.block).0 t.0).1;
      limits = l;
      room = r;
      ids = t.1.1.1.1.0;
      steps = accepted_passes p (short_areas p a) a.indices a.node_words a.step_words e r.indices;
      placed = accepted_placed p (short_areas p a) a.indices a.node_words a.step_words e r.indices;
    }

-- ---- the channels of the steps, by their spans and by the buffers that those name
channels_same : (p : Plan) (indices : List ℕ) (coefficients : List Float) (ss : List Step) → Each (Placed p indices) ss
    → output_channels (map (resolved p indices coefficients) ss) ≡ channels_of ss
unfolding output_channels channels_of
channels_same p indices coefficients [] i = refl
channels_same p indices coefficients (x ∷ ss) i = rw (channels_named p indices coefficients x i.0, channels_same p indices coefficients ss i.1)

-- ---- the answers
module _ (g : RunGiven) (s : State) where
  abbrev pub areas_of_lem : Areas
  areas_of_lem = areas g.indices g.coefficients s.floats s.words g.steps s.buffers

  abbrev plan_tests_lem : List Test
  plan_tests_lem = plan_tests g.plan (short_areas g.plan areas_of_lem) g.indices s.words g.steps

  -- 14, 12, 13
  abbrev own_tests : List Test
  own_tests =
      test BadNode (some_bad s.words g.plan.nodes)
      ∷ test BadDirectory (directory_bad g.directory (length g.samples))
      ∷ test ShortOutput (ltb (length s.output) (output_channels (steps_of_run g) * g.plan.block))
      ∷ []

  pub by_plan : (r : Refusal) → check_plan g.plan areas_of_lem ≡ Err r → admission g s ≡ Err r
  unfolding admission checked
  by_plan r e = first_append plan_tests_lem own_tests (Ok tt) ∙ refused_rest plan_tests_lem (first own_tests (Ok tt)) r e

  module _ (e : check_plan g.plan areas_of_lem ≡ Ok tt) where
    pub past_plan : admission g s ≡ first own_tests (Ok tt)
    unfolding admission checked
    past_plan = first_append plan_tests_lem own_tests (Ok tt) ∙ none_rest plan_tests_lem (first own_tests (Ok tt)) (accepted_none plan_tests_lem (Ok tt) e).0

    -- what the output needs, as it is worked out
    pub output_needs : output_channels (steps_of_run g) ≡ channels_of (steps_of g.plan g.steps)
    output_needs = channels_same g.plan g.indices g.coefficients (steps_of g.plan g.steps) (tested g.plan areas_of_lem e).placed

    pub by_14 : some_bad s.words g.plan.nodes ≡ true → admission g s ≡ Err (refusal BadNode None)
    by_14 b = past_plan ∙ rw b

    module _ (no14 : some_bad s.words g.plan.nodes ≡ false) where
      pub by_12 : directory_bad g.directory (length g.samples) ≡ true → admission g s ≡ Err (refusal BadDirectory None)
      by_12 b = past_plan ∙ rw (no14, b)

      module _ (no12 : directory_bad g.directory (length g.samples) ≡ false) where
        pub by_13 : length s.output < channels_of (steps_of g.plan g.steps) * g.plan.block → admission g s ≡ Err (refusal ShortOutput None)
        by_13 h = past_plan ∙ rw (no14, no12, output_needs, lt-ltb (length s.output) (channels_of (steps_of g.plan g.steps) * g.plan.block) h)

        pub by_none : channels_of (steps_of g.plan g.steps) * g.plan.block ≤ length s.output → admission g s ≡ Ok tt
        by_none h = past_plan ∙ rw (no14, no12, output_needs, le-ltb (length s.output) (channels_of (steps_of g.plan g.steps) * g.plan.block) h)

-- ---- what an accepted run says
pub record Admitted (g : RunGiven) (s : State) : Type 0 where
  pub plan : check_plan g.plan (areas_of_lem g s) ≡ Ok tt
  pub fit : Fit g.plan g.coefficients s
  pub step_words : g.plan.words ≤ length g.steps
  pub steps : Passes g.plan g.indices (take g.plan.words g.steps) g.plan.steps 0
  pub placed : Each (Placed g.plan g.indices) (steps_of g.plan g.steps)
  pub directory : directory_bad g.directory (length g.samples) ≡ false
  pub output : channels_of (steps_of g.plan g.steps) * g.plan.block ≤ length s.output

pub admitted : (g : RunGiven) (s : State) → admission g s ≡ Ok tt → Admitted g s
unfolding admission checked
admitted g s e =
    let t = accepted_none (plan_tests_lem g s) (first (own_tests g s) (Ok tt)) (sym (first_append (plan_tests_lem g s) (own_tests g s) (Ok tt)) ∙ e) in
    let c : check_plan g.plan (areas_of_lem g s) ≡ Ok tt = none_rest (plan_tests_lem g s) (Ok tt) t.0 in
    let p = tested g.plan (areas_of_lem g s) c in
    let o = (accepted_none (own_tests g s) (Ok tt) t.1).0 in
    record {
      plan = c;
      fit = record {
        block = p.block;
        steps = p.limits.steps;
        weights = p.room.coefficients;
        room = (p.room.floats, p.room.words);
        good = o.0;
        buffers = p.room.buffers;
      };
      step_words = p.room.steps;
      steps = p.steps;
      placed = p.placed;
      directory = o.1.0;
      output = rw (output_needs g s c) at (ltb-false (length s.output) (output_channels (steps_of_run g) * g.plan.block) o.1.1.0);
    }
