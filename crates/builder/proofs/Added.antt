-- What the plan check says after calls that were all accepted, of a plan that it accepted before, if no words that count lay after its last step: the buffers'
-- area and the steps that were added decide. The index list has its old entries, and then the fresh buffers in order. Assumes nothing.
use mathlib.Core.Path.{◌≡◌, refl, sym, ap, subst, ◌∙◌}
use mathlib.Core.Bool.{Bool}
use mathlib.Core.List.{List, ◌∷◌, ◌++◌, map}
use Prim.Native.Nat.{ℕ, ◌+◌, ◌≤◌, ◌<◌}
use native.Mathlib.Omega.{arith}
use lib.ListN.{length, get_or, take, length-append}
use lib.Seq.{get_or-take, get_or-append-add, take-take, take_at, length-take-le}
use lib.Ieee.{Float}
use Rattle.refusal.specs.Tests.{Test, test, first, NoneHolds}
use Rattle.refusal.proofs.Laws.{first_append, none_rest}
use Rattle.plan.specs.declared.Plan.{Plan}
use Rattle.plan.specs.declared.Step.{Step}
use Rattle.plan.specs.Limits.{unit_limits}
use Rattle.plan.specs.Areas.{shorter, short_areas}
use Rattle.plan.specs.Words.{decoded_from, decoded}
use Rattle.plan.specs.Check.{steps_tests, check_plan}
use Rattle.plan.specs.Sound.{steps_of}
use Rattle.plan.proofs.Words.{decoded_start}
use Rattle.plan.proofs.Parts.{tests_of, tests_listed, tests_append}
use Rattle.plan.proofs.Exact.{accepted_all, accepted_sound}
use Rattle.plan.proofs.Accepted.{accepted_room}
use Rattle.plan.proofs.Grown.{Grew, grown_none}
use Rattle.builder.specs.declared.Growth.{Growth}
use Rattle.builder.specs.Growth.{count_after, grown}
use Rattle.builder.specs.Calls.{numbers_from}
use Rattle.builder.specs.Built.{BuilderCall, asked, BuilderState, areas_with, built, accepted, Draft, drafted, NoWordsAfter, Drafted}
use Rattle.builder.specs.Sums.{growth_of_all}
use Rattle.builder.proofs.Numbers.{length_numbers, get_d_numbers}
use Rattle.builder.proofs.ReadBack.{built_drafted, drafted_steps}
use Rattle.builder.proofs.Accepted.{really_grown}
use Rattle.builder.proofs.Given.{steps_given, buffers_given, draft_steps, draft_buffers, draft_indices}
use Rattle.builder.proofs.Tables.{all_tables_kept, accepted_tables, tables_decide}
use Rattle.builder.proofs.Held.{held, accepted_held}
use Rattle.refusal.specs.declared.Reason.TheVariants.{ShortArea}
use Rattle.std.specs.Prelude.{Ok, Some, None, Option}

count_grew : (count : ℕ) (c : Option ℕ) → count ≤ count_after count c
count_grew count None = omega arith
count_grew count (Some n) = omega arith

grew : (p : Plan) (g : Growth) → Grew p (grown p g)
grew p g =
    record {
      buffers = count_grew p.buffers g.buffers;
      indices = count_grew p.indices g.indices;
      coefficients = count_grew p.coefficients g.coefficients;
      nodes = count_grew p.nodes g.nodes;
    }

module _ (s : BuilderState) (area : List Float) (e : check_plan s.plan (areas_with s area) ≡ Ok tt) (ended : NoWordsAfter s)
    (cs : List BuilderCall) (all : accepted s (map (asked unit_limits) cs) ≡ cs) where
  abbrev t : BuilderState
  t = built s (map (asked unit_limits) cs)

  abbrev p : Plan
  p = s.plan

  abbrev q : Plan
  q = t.plan

  -- what was there before, and the number of fresh buffers
  abbrev short : Bool
  short = short_areas p (areas_with s area)

  abbrev m : ℕ
  m = buffers_given cs

  abbrev d : Draft
  d = drafted (held s) cs

  pub added_drafted : Drafted t d
  added_drafted =
      subst (λ (ds : List BuilderCall). Drafted t (drafted (held s) ds)) all (built_drafted (map (asked unit_limits) cs) s (held s) (accepted_held s area e ended))

  -- ---- the index list
  pub more_buffers : q.buffers ≡ p.buffers + m
  more_buffers = added_drafted.buffers ∙ draft_buffers cs (held s)

  old_length : length (take p.indices s.indices) ≡ p.indices
  old_length = length-take-le p.indices s.indices (accepted_room p (areas_with s area) e).indices

  listed : take q.indices t.indices ≡ take p.indices s.indices ++ numbers_from p.buffers m
  listed = added_drafted.indices ∙ draft_indices cs (held s)

  pub more_indices : q.indices ≡ p.indices + m
  more_indices =
      added_drafted.index_count ∙ ap length (draft_indices cs (held s))
      ∙ length-append (take p.indices s.indices) (numbers_from p.buffers m)
      ∙ omega (arith, old_length, length_numbers p.buffers m)

  front : take p.indices t.indices ≡ take p.indices s.indices
  front =
      sym (take-take p.indices q.indices t.indices (omega (arith, more_indices)))
      ∙ ap (take p.indices) listed
      ∙ take_at (take p.indices s.indices) (numbers_from p.buffers m) p.indices old_length

  pub stale_entry : (j : ℕ) → j < p.indices → get_or t.indices j 0 < p.buffers
  stale_entry j h =
      let room = (accepted_room p (areas_with s area) e).indices in
      let same : get_or t.indices j 0 ≡ get_or s.indices j 0 =
      sym (get_or-take p.indices t.indices j 0 h) ∙ ap (λ (l : List ℕ). get_or l j 0) front ∙ get_or-take p.indices s.indices j 0 h in
      rw same ((accepted_sound p short s.indices s.words s.steps e).entries j h (omega arith))

  pub fresh_entry : (j : ℕ) → j < m → get_or t.indices (p.indices + j) 0 ≡ p.buffers + j
  fresh_entry j h =
      let old = take p.indices s.indices in
      let fresh = numbers_from p.buffers m in
      sym (get_or-take q.indices t.indices (p.indices + j) 0 (omega (arith, more_indices)))
      ∙ ap (λ (l : List ℕ). get_or l (p.indices + j) 0) listed
      ∙ ap (λ (k : ℕ). get_or (old ++ fresh) (k + j) 0) (sym old_length)
      ∙ get_or-append-add old fresh j 0
      ∙ get_d_numbers p.buffers m j 0 h

  -- ---- the steps
  old_none : NoneHolds (tests_of q t.indices 1 (length (steps_of p s.steps)) (steps_of p s.steps))
  unfolding decoded
  old_none =
      let w = take p.words s.steps in
      let g : Grew p q = rw (really_grown (map (asked unit_limits) cs) s) (grew p (growth_of_all (accepted s (map (asked unit_limits) cs)))) in
      let a = accepted_all p short s.indices s.words s.steps e in
      let none = grown_none g s.indices t.indices front w w p.steps 0 1 refl a in
      rw a.readable (subst NoneHolds (tests_listed q t.indices w p.steps 0 1) none)

  abbrev new : List Step
  new = steps_given cs

  steps_decide : first (steps_tests q t.indices (take q.words t.steps) q.steps 0 1) (Ok tt)
      ≡ first (tests_of q t.indices (1 + p.steps) (length new) new) (Ok tt)
  steps_decide =
      let old = steps_of p s.steps in
      let both : decoded_from (take q.words t.steps) q.steps 0 ≡ old ++ new =
      sym (decoded_start (take q.words t.steps) q.steps) ∙ drafted_steps t d added_drafted ∙ draft_steps cs (held s) in
      let count : q.steps ≡ length old + length new = added_drafted.step_count ∙ ap length (draft_steps cs (held s)) ∙ length-append old new in
      let k : length old ≡ p.steps = (accepted_all p short s.indices s.words s.steps e).readable in
      let split : steps_tests q t.indices (take q.words t.steps) q.steps 0 1
      ≡ tests_of q t.indices 1 (length old) old ++ tests_of q t.indices (1 + length old) (length new) new =
      tests_listed q t.indices (take q.words t.steps) q.steps 0 1 ∙ rw (both, count) (tests_append q t.indices old new (length new) 1) in
      ap (λ (ts : List Test). first ts (Ok tt)) split
      ∙ first_append (tests_of q t.indices 1 (length old) old) (tests_of q t.indices (1 + length old) (length new) new) (Ok tt)
      ∙ none_rest (tests_of q t.indices 1 (length old) old) (first (tests_of q t.indices (1 + length old) (length new) new) (Ok tt)) old_none
      ∙ ap (λ (j : ℕ). first (tests_of q t.indices (1 + j) (length new) new) (Ok tt)) k

  pub added_decide : (buffers : List Float)
      → check_plan q (areas_with t buffers)
      ≡ first (test ShortArea (shorter (length buffers) q.buffers q.block) ∷ tests_of q t.indices (1 + p.steps) (length new) new) (Ok tt)
  added_decide buffers =
      tables_decide t buffers (all_tables_kept unit_limits cs s (accepted_tables s area e))
      ∙ rw steps_decide
