-- The theorem on the ordinary plan check: of a plan that it accepted, with no words that count after the last step, and an accepted insert, it says exactly what
-- `found_tests` has, with the places. Assumes nothing.
use mathlib.Core.Path.{◌≡◌, refl, sym, ap, ◌∙◌}
use mathlib.Core.Bool.{Bool, true, false, ◌&&◌, cond}
use mathlib.Core.List.{List, [], ◌∷◌, map}
use Prim.Native.Nat.{ℕ, ◌+◌, ◌*◌, ◌≤◌, ◌<◌}
use native.Mathlib.Omega.{arith}
use lib.Dec.{leb, ltb}
use lib.ListN.{length}
use lib.Ieee.{Float}
use borrow.Author.Tests.{ltb-false, leb-false, lt-leb, le-ltb}
use Rattle.refusal.specs.Tests.{test, test_at, first, Answer}
use Rattle.refusal.proofs.Laws.{accepted_none, none_accepted}
use Rattle.format.specs.Formats.{unknown_format, channels}
use Rattle.format.proofs.Labels.{channels_le, channels_least}
use Rattle.plan.specs.declared.Plan.{Plan}
use Rattle.plan.specs.declared.Step.TheVariants.{Gain, Output}
use Rattle.plan.specs.Limits.{inputs, slots, unit_limits}
use Rattle.plan.specs.Areas.{shorter}
use Rattle.plan.specs.Check.{check_plan}
use Rattle.builder.specs.Growth.{grown}
use Rattle.builder.specs.Built.{BuilderCall, asked, BuilderState, areas_with, built, accepted, drafted, NoWordsAfter}
use Rattle.builder.specs.Sums.{lengths}
use Rattle.builder.proofs.Given.{buffers_given}
use Rattle.builder.proofs.Held.{held, drafted_no_words_after}
use Rattle.builder.proofs.Added.{more_buffers, more_indices, stale_entry, fresh_entry, added_drafted, added_decide}
use Rattle.insert.specs.declared.InsertPoint.{InsertPoint}
use Rattle.insert.specs.Wiring.{send, insert_calls}
use Rattle.insert.specs.Insert.{insert_growth, insert_tests, insert_answer, answer_to, inserted}
use Rattle.insert.specs.Found.{found_tests}
use Rattle.insert.proofs.Wired.{insert_accepted, inserted_all, insert_plan}
use Rattle.insert.proofs.Steps.{return_steps, insert_steps, insert_steps_lem, Fresh, decided, sent_decides, return_decides}
use Rattle.refusal.specs.declared.Reason.TheVariants.{OutsideTable, ShortArea}
use Rattle.std.specs.Prelude.{Ok}

module _ (s : BuilderState) (area : List Float) (e : check_plan s.plan (areas_with s area) ≡ Ok tt) (ended : NoWordsAfter s)
    (i : InsertPoint) (a : answer_to unit_limits s i ≡ Ok tt) where
  abbrev calls : List BuilderCall
  calls = insert_calls s.plan i

  abbrev t : BuilderState
  t = built s (map (asked unit_limits) calls)

  abbrev p : Plan
  p = s.plan

  abbrev q : Plan
  q = t.plan

  abbrev n : ℕ
  n = channels i.format

  abbrev slot : Bool
  slot = leb slots i.slot

  all : accepted s (map (asked unit_limits) calls) ≡ calls
  all = insert_accepted unit_limits s i a

  fresh : Fresh p q t.indices (buffers_given calls)
  fresh =
      record {
        stale = stale_entry s area e ended calls all;
        fresh = fresh_entry s area e ended calls all;
        indices = omega (arith, more_indices s area e ended calls all);
        buffers = omega (arith, more_buffers s area e ended calls all);
      }

  known : unknown_format i.format ≡ false
  unfolding insert_answer
  known = (accepted_none (insert_tests unit_limits p i (lengths s) s.words) (Ok tt) a).0.0

  source : i.src.start + i.src.len ≤ p.indices
  unfolding insert_answer
  source = ltb-false p.indices (i.src.start + i.src.len) (accepted_none (insert_tests unit_limits p i (lengths s) s.words) (Ok tt) a).0.1.1.0

  -- with or without a return
  own_by : (returns : Bool) → q ≡ grown p (insert_growth returns n)
      → decided p q t.indices (1 + p.steps) (Gain p.nodes i.src (send p i) ∷ Output (send p i) i.slot ∷ cond returns (return_steps p i) [])
      ≡ first (test_at (p.steps + 2) OutsideTable slot
      ∷ test_at (p.steps + 3) OutsideTable (returns && ltb inputs i.back.input)
      ∷ test_at (p.steps + n + 7) OutsideTable (returns && ltb n i.src.len)
      ∷ []) (Ok tt)
  own_by false g =
      let buffers : q.buffers ≡ p.buffers + n = ap (λ (r : Plan). r.buffers) g in
      let nodes : q.nodes ≡ p.nodes + 1 = ap (λ (r : Plan). r.nodes) g in
      let output : 1 + p.steps + 1 ≡ p.steps + 2 = omega arith in
      sent_decides p q t.indices fresh i (channels_le i.format) source (1 + p.steps) []
      (omega (arith, buffers, more_buffers s area e ended calls all)) (omega arith)
      ∙ ap (λ (k : ℕ). first (test_at k OutsideTable slot ∷ []) (Ok tt)) output
  own_by true g =
      let buffers : q.buffers ≡ p.buffers + 6 * n = ap (λ (r : Plan). r.buffers) g in
      let nodes : q.nodes ≡ p.nodes + 6 = ap (λ (r : Plan). r.nodes) g in
      let table : q.coefficients ≡ p.coefficients + n * n = ap (λ (r : Plan). r.coefficients) g in
      let room : 6 * n ≤ buffers_given calls = omega (arith, buffers, more_buffers s area e ended calls all) in
      let output : 1 + p.steps + 1 ≡ p.steps + 2 = omega arith in
      let patch : 1 + p.steps + 1 + 1 ≡ p.steps + 3 = omega arith in
      let sum : p.steps + 3 + n + 4 ≡ p.steps + n + 7 = omega arith in
      let few = channels_le i.format in
      let input = ltb inputs i.back.input in
      let output-test = test_at (p.steps + 2) OutsideTable slot in
      sent_decides p q t.indices fresh i few source (1 + p.steps) (return_steps p i) (omega arith) (omega arith)
      ∙ ap (λ (k : ℕ). first (test_at k OutsideTable slot ∷ []) (decided p q t.indices (1 + p.steps + 1 + 1) (return_steps p i))) output
      ∙ ap (λ (k : ℕ). first (output-test ∷ []) (decided p q t.indices k (return_steps p i))) patch
      ∙ ap (first (output-test ∷ []))
      (return_decides p q t.indices fresh i few source (channels_least i.format (leb-false 7 i.format known)) room (omega arith) (omega (arith, table)) (p.steps + 3))
      ∙ ap (λ (k : ℕ). first (output-test ∷ test_at (p.steps + 3) OutsideTable input ∷ test_at k OutsideTable (ltb n i.src.len) ∷ []) (Ok tt)) sum

  own : decided p q t.indices (1 + p.steps) (insert_steps p i)
      ≡ first (test_at (p.steps + 2) OutsideTable slot
      ∷ test_at (p.steps + 3) OutsideTable (i.returns && ltb inputs i.back.input)
      ∷ test_at (p.steps + n + 7) OutsideTable (i.returns && ltb n i.src.len)
      ∷ []) (Ok tt)
  own = own_by i.returns (ap (λ (u : BuilderState). u.plan) (sym (inserted_all unit_limits s i a)) ∙ insert_plan unit_limits s i a)

  -- The theorem, for a buffers' area of any length.
  pub insert_checked : (buffers : List Float)
      → check_plan (inserted unit_limits s i).plan (areas_with (inserted unit_limits s i) buffers)
      ≡ first (found_tests (inserted unit_limits s i).plan s.plan.steps i (length buffers)) (Ok tt)
  insert_checked buffers =
      rw (inserted_all unit_limits s i a)
      (added_decide s area e ended calls all buffers
      ∙ ap (λ (r : Answer). first (test ShortArea (shorter (length buffers) q.buffers q.block) ∷ []) r)
      (ap (decided p q t.indices (1 + p.steps)) (insert_steps_lem p i) ∙ own))

  -- so a plan that passed still does in areas long enough, but for the three exceptions
  pub insert_passes : (buffers : List Float) → i.slot < slots → (i.returns ≡ true → (i.back.input ≤ inputs) × (i.src.len ≤ n))
      → (inserted unit_limits s i).plan.buffers * (inserted unit_limits s i).plan.block ≤ length buffers
      → check_plan (inserted unit_limits s i).plan (areas_with (inserted unit_limits s i) buffers) ≡ Ok tt
  insert_passes buffers small back long =
      let r = (inserted unit_limits s i).plan in
      insert_checked buffers
      ∙ none_accepted (found_tests r p.steps i (length buffers))
      (le-ltb (length buffers) (r.buffers * r.block) long, (lt-leb slots i.slot small, ((go i.returns back).0, ((go i.returns back).1, tt))))
    where
      go : (returns : Bool) → (returns ≡ true → (i.back.input ≤ inputs) × (i.src.len ≤ n))
          → ((returns && ltb inputs i.back.input) ≡ false) × ((returns && ltb n i.src.len) ≡ false)
      go true h = (le-ltb inputs i.back.input (h refl).0, le-ltb n i.src.len (h refl).1)
      go false h = (refl, refl)

  -- and the premise holds again, for the next insert
  pub insert_no_words_after : NoWordsAfter (inserted unit_limits s i)
  insert_no_words_after = rw (inserted_all unit_limits s i a) (drafted_no_words_after t (drafted (held s) calls) (added_drafted s area e ended calls all))
