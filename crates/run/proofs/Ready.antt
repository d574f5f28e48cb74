-- A plan whose run was accepted stays accepted: whatever settings and runs follow, only the input block and the output area can be refused later.
-- An accepted setting changes no answer of the admission. Assumes nothing.
use mathlib.Core.Path.{◌≡◌, refl, sym, ap, ◌∙◌}
use mathlib.Core.Bool.{Bool, false, true, not, cond}
use mathlib.Core.List.{List, [], ◌∷◌, map}
use Prim.Native.Nat.{ℕ, ◌*◌, ◌<◌}
use lib.Dec.{ltb}
use lib.ListN.{length}
use lib.Ieee.{Float}
use borrow.Author.Tests.{le-ltb}
use Rattle.refusal.specs.Tests.{Test, test, first, refusal, Answer}
use Rattle.refusal.specs.declared.Refusal.{Refusal}
use Rattle.refusal.proofs.Laws.{first_append, first_same, accepted_none, none_rest, none_accepted}
use Rattle.node.specs.declared.Node.{Node}
use Rattle.node.specs.Sizes.{node_float_count, node_word_count, ramp_too_long}
use Rattle.node.specs.Nodes.{set_node}
use Rattle.node.specs.Areas.{id_at, node_at, some_bad}
use Rattle.node.proofs.Kept.{id_set}
use Rattle.node.proofs.Areas.{length_stored_floats, length_stored_words}
use Rattle.node.proofs.Bad.{in_range_set}
use Rattle.plan.specs.declared.Plan.{Plan}
use Rattle.plan.specs.declared.Step.{Step}
use Rattle.plan.specs.Limits.{unit_limits}
use Rattle.plan.specs.Sound.{Within, Inside, Each, steps_of}
use Rattle.plan.specs.Resolved.{resolved}
use Rattle.plan.proofs.Exact.{accepted_sound}
use Rattle.plan.specs.Areas.{Areas, areas, short_areas, shorter}
use Rattle.plan.specs.Check.{plan_tests, checked, check_plan, id_among}
use Rattle.plan.proofs.Accepted.{accepted_room}
use Rattle.plan.proofs.Front.{check_front}
use Rattle.plan.proofs.Named.{node_inside}
use Rattle.input.specs.Input.{lookup, directory_bad}
use Rattle.setting.specs.Setting.{node_of, setting_answer}
use Rattle.setting.proofs.Setting.{Settable, settable, node_named_lem, floats_accepted, floats_refused, words_accepted, words_refused, node_good}
use Rattle.run.specs.Run.{RunGiven, State, output_channels, admission, processed, run_steps}
use Rattle.run.specs.Calls.{Fixed, Changing, left_by, Call, set, run, given_to, start, answer, after, after_all, steps_of_plan}
use Rattle.run.proofs.Answers.{accepted_runs, refused_keeps}
use Rattle.run.proofs.States.{Good, good_stored, good_run, run_lengths, NodesBelow}
use Rattle.run.proofs.Admitted.{tested}
use Rattle.refusal.specs.declared.Reason.TheVariants.{BadDirectory, BadNode, ShortOutput, UnknownId}
use Rattle.std.specs.Prelude.{Ok, Err, None}

-- ---- the areas of a plan

abbrev pub areas_of : Fixed → Changing → Areas
areas_of f h = areas f.indices f.coefficients h.floats h.words f.steps h.buffers

-- the tests of a run: the plan's, then 14, then 12 and 13, which are about the input block and the output area alone
abbrev pub input_tests : Fixed → List ℕ → List Float → List Float → List Test
input_tests f directory samples out =
    test BadDirectory (directory_bad directory (length samples)) ∷ test ShortOutput (ltb (length out) (output_channels (steps_of_plan f) * f.plan.block)) ∷ []

abbrev plan_tests_of : Fixed → Changing → List Test
plan_tests_of f h = plan_tests f.plan (short_areas f.plan (areas_of f h)) f.indices h.words f.steps

abbrev node_test : Fixed → Changing → Test
node_test f h = test BadNode (some_bad h.words f.plan.nodes)

in_turn : (f : Fixed) (h : Changing) (directory : List ℕ) (samples out : List Float)
    → admission (given_to f directory samples) (start f h out) ≡ first (plan_tests_of f h) (first (node_test f h ∷ input_tests f directory samples out) (Ok tt))
unfolding admission
in_turn f h directory samples out = first_append (plan_tests_of f h) (node_test f h ∷ input_tests f directory samples out) (Ok tt)

-- areas as long as they were, and the same ids
pub record Alike (f : Fixed) (h t : Changing) : Type 0 where
  pub floats : length t.floats ≡ length h.floats
  pub words : length t.words ≡ length h.words
  pub buffers : length t.buffers ≡ length h.buffers
  pub ids : (i : ℕ) → i < f.plan.nodes → id_at t.words i ≡ id_at h.words i

-- the plan check answers the same
pub alike_checked : (f : Fixed) (h t : Changing) → Alike f h t → check_plan f.plan (areas_of f t) ≡ check_plan f.plan (areas_of f h)
alike_checked f h t a =
    rw (a.floats, a.words, a.buffers)
    (check_front f.plan (short_areas f.plan (areas_of f h)) f.indices f.indices t.words h.words f.steps f.steps refl a.ids refl)

-- and the admission, where number 14 does
pub alike_admitted : (f : Fixed) (h t : Changing) → Alike f h t → some_bad t.words f.plan.nodes ≡ some_bad h.words f.plan.nodes
    → (directory : List ℕ) (samples out : List Float)
    → admission (given_to f directory samples) (start f t out) ≡ admission (given_to f directory samples) (start f h out)
unfolding checked
alike_admitted f h t a b directory samples out =
    let others = input_tests f directory samples out in
    in_turn f t directory samples out
    ∙ first_same (plan_tests_of f t) (plan_tests_of f h) (first (node_test f t ∷ others) (Ok tt)) (alike_checked f h t a)
    ∙ ap (first (plan_tests_of f h)) (ap (λ (n : Bool). first (test BadNode n ∷ others) (Ok tt)) b)
    ∙ sym (in_turn f h directory samples out)

-- ---- a setting

module _ (f : Fixed) (h : Changing) (id : ℕ) (values : List Float) (ramp : ℕ) (e : answer f h (set id values ramp) ≡ Ok tt) where
  abbrev count : ℕ
  count = f.plan.nodes

  abbrev tests : Settable count id ramp (length h.floats) h.words
  tests = settable count id ramp (length h.floats) h.words e

  abbrev n : ℕ
  n = node_of h.words count id

  abbrev new : Node
  new = set_node (node_at h.floats h.words n) values ramp

  set_good : Good count (id_at h.words) (after f h (set id values ramp)).words
  unfolding node_at
  set_good =
      rw (words_accepted count id values ramp h.floats h.words e)
      (good_stored count (id_at h.words) n h.words new
      (record { room = tests.words_room; ids_are = λ i l. refl; none_bad = tests.bad })
      (node_named_lem h.words count id tests.id_known).0
      (in_range_set (node_at h.floats h.words n) values ramp (node_good h.floats tests) tests.ramp_short)
      (id_set (node_at h.floats h.words n) values ramp))

  pub set_alike : Alike f h (after f h (set id values ramp))
  set_alike =
      record {
        floats = ap length (floats_accepted count id values ramp h.floats h.words e) ∙ length_stored_floats h.floats n new;
        words = ap length (words_accepted count id values ramp h.floats h.words e) ∙ length_stored_words h.words n new;
        buffers = refl;
        ids = set_good.ids_are;
      }

  -- an accepted setting changes no answer of the admission
  pub setting_same : (directory : List ℕ) (samples out : List Float)
      → admission (given_to f directory samples) (start f (after f h (set id values ramp)) out) ≡ admission (given_to f directory samples) (start f h out)
  setting_same = alike_admitted f h (after f h (set id values ramp)) set_alike (set_good.none_bad ∙ sym tests.bad)

-- ---- a plan that stays accepted

-- the plan's own tests and 14 pass
pub record Ready (f : Fixed) (h : Changing) : Type 0 where
  pub plan : check_plan f.plan (areas_of f h) ≡ Ok tt
  pub nodes : some_bad h.words f.plan.nodes ≡ false

-- so it is once a run was accepted
pub accepted_ready : (f : Fixed) (h : Changing) (directory : List ℕ) (samples out : List Float) → answer f h (run directory samples out) ≡ Ok tt → Ready f h
unfolding checked
accepted_ready f h directory samples out e =
    let own = node_test f h ∷ input_tests f directory samples out in
    let t = accepted_none (plan_tests_of f h) (first own (Ok tt)) (sym (in_turn f h directory samples out) ∙ e) in
    record { plan = none_accepted (plan_tests_of f h) t.0; nodes = (accepted_none own (Ok tt) t.1).0.0 }

-- and then only 12 and 13 are left to the admission
pub ready_only : (f : Fixed) (h : Changing) → Ready f h → (directory : List ℕ) (samples out : List Float)
    → admission (given_to f directory samples) (start f h out) ≡ first (input_tests f directory samples out) (Ok tt)
unfolding checked
ready_only f h r directory samples out =
    let others = input_tests f directory samples out in
    in_turn f h directory samples out
    ∙ none_rest (plan_tests_of f h) (first (node_test f h ∷ others) (Ok tt)) (accepted_none (plan_tests_of f h) (Ok tt) r.plan).0
    ∙ ap (λ (b : Bool). first (test BadNode b ∷ others) (Ok tt)) r.nodes

-- the nodes that an accepted plan's steps use are among its nodes
pub below : (p : Plan) (indices : List ℕ) (coefficients : List Float) (ss : List Step) → Each (Inside p) ss → NodesBelow p.nodes (map (resolved p indices coefficients) ss)
below p indices coefficients [] o = tt
below p indices coefficients (x ∷ ss) o = (node_inside p indices coefficients (Within p.indices) (Within p.coefficients) x o.0, below p indices coefficients ss o.1)

module _ (f : Fixed) where
  alike_ready : (h t : Changing) → Ready f h → Alike f h t → some_bad t.words f.plan.nodes ≡ false → Ready f t
  alike_ready h t r a b = record { plan = alike_checked f h t a ∙ r.plan; nodes = b }

  module _ (h : Changing) (directory : List ℕ) (samples out : List Float) (r : Ready f h) where
    abbrev g : RunGiven
    g = given_to f directory samples

    abbrev s : State
    s = start f h out

    abbrev t : State
    t = run_steps f.plan.block (lookup directory samples) (steps_of_plan f) s

    ran_ready : Ready f (left_by t)
    ran_ready =
        let l = run_lengths f.plan.block (lookup directory samples) (steps_of_plan f) s in
        let inside = (accepted_sound f.plan (short_areas f.plan (areas_of f h)) f.indices h.words f.steps r.plan).inside in
        let good = good_run f.plan.nodes (id_at h.words) f.plan.block (lookup directory samples) (steps_of_plan f) s
        (record { room = (accepted_room f.plan (areas_of f h) r.plan).words; ids_are = λ i l. refl; none_bad = r.nodes })
        (below f.plan f.indices f.coefficients (steps_of f.plan f.steps) inside) in
        alike_ready h (left_by t) r (record { floats = l.floats; words = l.words; buffers = l.buffers; ids = good.ids_are }) good.none_bad

    run_ready : Ready f (after f h (run directory samples out))
    run_ready = go (admission g s) refl
      where
        go : (a : Answer) → admission g s ≡ a → Ready f (left_by (processed g s))
        go (Ok _) e = rw (accepted_runs g s e) ran_ready
        go (Err q) e = rw (refused_keeps g s e) r

  set_ready : (h : Changing) (id : ℕ) (values : List Float) (ramp : ℕ) → Ready f h → Ready f (after f h (set id values ramp))
  set_ready h id values ramp r = go (answer f h (set id values ramp)) refl
    where
      go : (a : Answer) → answer f h (set id values ramp) ≡ a → Ready f (after f h (set id values ramp))
      go (Ok _) e = alike_ready h (after f h (set id values ramp)) r (set_alike f h id values ramp e) (set_good f h id values ramp e).none_bad
      go (Err q) e =
          rw (floats_refused f.plan.nodes id values ramp h.floats h.words e, words_refused f.plan.nodes id values ramp h.floats h.words e) r

  -- The theorem: whatever settings and runs follow, refused or not, the plan's own tests and 14 pass.
  pub stays_ready : (cs : List Call) (h : Changing) → Ready f h → Ready f (after_all f h cs)
  stays_ready [] h r = r
  stays_ready (set id values ramp ∷ cs) h r = stays_ready cs (after f h (set id values ramp)) (set_ready h id values ramp r)
  stays_ready (run directory samples out ∷ cs) h r = stays_ready cs (after f h (run directory samples out)) (run_ready h directory samples out r)

  -- so a run that is accepted is accepted after any of them too
  pub still_admitted : (h : Changing) (cs : List Call) (directory : List ℕ) (samples out : List Float)
      → admission (given_to f directory samples) (start f h out) ≡ Ok tt
      → admission (given_to f directory samples) (start f (after_all f h cs) out) ≡ Ok tt
  still_admitted h cs directory samples out e =
      let r : Ready f h = accepted_ready f h directory samples out e in
      ready_only f (after_all f h cs) (stays_ready cs h r) directory samples out ∙ sym (ready_only f h r directory samples out) ∙ e

  -- and of a setting whose ramp is not too long only the id can be refused
  pub only_unknown : (h : Changing) → Ready f h → (id : ℕ) (values : List Float) (ramp : ℕ) → ramp_too_long ramp ≡ false
      → answer f h (set id values ramp) ≡ cond (id_among h.words f.plan.nodes id) (Ok tt) (Err (refusal UnknownId None))
  unfolding setting_answer
  only_unknown h r id values ramp ok =
      let t = tested f.plan (areas_of f h) r.plan in
      let nodes : ltb unit_limits.nodes f.plan.nodes ≡ false = le-ltb _ _ t.limits.nodes in
      let floats : shorter (length h.floats) f.plan.nodes node_float_count ≡ false = le-ltb _ _ t.room.floats in
      let words : shorter (length h.words) f.plan.nodes node_word_count ≡ false = le-ltb _ _ t.room.words in
      rw (nodes, floats, words, r.nodes, t.ids, ok) (go (id_among h.words f.plan.nodes id))
    where
      go : (b : Bool) → ◌≡◌ {A = Answer} (cond (not b) (Err (refusal UnknownId None)) (Ok tt)) (cond b (Ok tt) (Err (refusal UnknownId None)))
      go true = refl
      go false = refl

  -- a refused run changes nothing
  pub refused_run : (h : Changing) (directory : List ℕ) (samples out : List Float) (q : Refusal) → answer f h (run directory samples out) ≡ Err q
      → processed (given_to f directory samples) (start f h out) ≡ start f h out
  refused_run h directory samples out q e = refused_keeps (given_to f directory samples) (start f h out) e

  -- nor does a refused setting
  pub refused_set : (h : Changing) (id : ℕ) (values : List Float) (ramp : ℕ) (q : Refusal) → answer f h (set id values ramp) ≡ Err q
      → after f h (set id values ramp) ≡ h
  refused_set h id values ramp q e =
      rw (floats_refused f.plan.nodes id values ramp h.floats h.words e, words_refused f.plan.nodes id values ramp h.floats h.words e)
