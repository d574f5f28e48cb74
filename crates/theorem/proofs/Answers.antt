-- Two states that hold one and the same draft, for any two blocks: the plan check, the clean answer and the trace say the same of both.
-- Assumes nothing.
use mathlib.Core.Path.{◌≡◌, refl, sym, ap, ◌∙◌, subst}
use mathlib.Core.Bool.{Bool, false, cond}
use mathlib.Core.List.{List, [], ◌∷◌}
use Prim.Native.Nat.{ℕ, zero, suc, ◌+◌, ◌*◌, ◌≤◌, ◌<◌}
use native.Mathlib.Nat.{min-le_right}
use native.Mathlib.Omega.{arith}
use lib.Dec.{ltb, leb}
use lib.ListN.{length, get_or, take, length-take}
use lib.Seq.{sets}
use Rattle.refusal.specs.Tests.{Test, test, first, outcome, Answer}
use Rattle.refusal.specs.declared.Refusal.{Refusal}
use Rattle.refusal.proofs.Laws.{accepted_none, first_append, none_rest, refused_rest}
use Rattle.node.specs.declared.Node.{Node}
use Rattle.node.specs.Sizes.{node_word_count}
use Rattle.node.specs.Areas.{id_at, node_at}
use Rattle.node.proofs.Areas.{get_d_nodes}
use Rattle.plan.specs.declared.Plan.{Plan}
use Rattle.plan.specs.PlanRecord.{plan_with, with_block}
use Rattle.plan.specs.declared.Step.{Step}
use Rattle.plan.specs.declared.Step.TheVariants.{Patch, Gain, Matrix, Clear, Send, Output}
use Rattle.plan.specs.Limits.{bad_block}
use Rattle.plan.specs.Areas.{short_lists}
use Rattle.plan.specs.Words.{read_at}
use Rattle.plan.specs.Resolved.{Resolved}
use Rattle.plan.specs.Check.{outside_by, outside, step_tests, steps_tests, plan_tests, checked}
use Rattle.plan.proofs.Plans.{lists_none}
use Rattle.plan.proofs.Exact.{accepted_sound}
use Rattle.plan.proofs.Front.{check_front}
use Rattle.builder.specs.Built.{BuilderState, Draft, Drafted}
use Rattle.trace.specs.Sources.{source_list, slot_count}
use Rattle.trace.specs.Clean.{clean}
use Rattle.trace.specs.Calls.{traced_steps, trace_answer, sources_answer, sources_area, clean_answer}
use Rattle.theorem.proofs.Nodes.{nobody}
use Rattle.theorem.proofs.Drafts.{same_nodes, same_traced}
use Rattle.refusal.specs.declared.Reason.TheVariants.{NoSlot, ShortArea}
use Rattle.std.specs.Prelude.{true, Ok, Err, Some, None, Option}

-- ---- a plan with another block

module _ (p : Plan) (n : ℕ) where
  outside_block : (s : Step) → outside (with_block p n) s ≡ outside p s
  unfolding outside_by
  outside_block (Patch i c d) = refl
  outside_block (Gain m s d) = refl
  outside_block (Matrix m s d) = refl
  outside_block (Clear d) = refl
  outside_block (Send m s d c) = refl
  outside_block (Output s o) = refl

  steps_block : (indices w : List ℕ) (k at place : ℕ) → steps_tests (with_block p n) indices w k at place ≡ steps_tests p indices w k at place
  unfolding steps_tests
  steps_block indices w zero at place = refl
  steps_block indices w (suc k) at place = go (read_at w at) (λ next. steps_block indices w k next (place + 1))
    where
      go : (r : Option (Step × ℕ)) → ((next : ℕ) → steps_tests (with_block p n) indices w k next (place + 1) ≡ steps_tests p indices w k next (place + 1))
          → step_tests (with_block p n) indices place r (λ next. steps_tests (with_block p n) indices w k next (place + 1))
          ≡ step_tests p indices place r (λ next. steps_tests p indices w k next (place + 1))
      go (Some (s, next)) ih = rw (outside_block s, ih next)
      go None ih = refl

  tests_block : bad_block n ≡ bad_block p.block → (short : Bool) (indices words steps : List ℕ)
      → plan_tests (with_block p n) short indices words steps ≡ plan_tests p short indices words steps
  tests_block e short indices words steps = rw (e, steps_block indices (take p.words steps) p.steps 0 1)

  checked_block : bad_block n ≡ bad_block p.block → (short : Bool) (indices words steps : List ℕ)
      → checked (with_block p n) short indices words steps ≡ checked p short indices words steps
  unfolding checked
  checked_block e short indices words steps = ap (λ (ts : List Test). first ts (Ok tt)) (tests_block e short indices words steps)

-- ---- a draft in its place

-- A state that holds a draft, with areas that have the words of its nodes, for a block within the limits. That they have the draft's other lists follows.
pub record LaidOut (s : BuilderState) (d : Draft) : Type 0 where
  pub drafted : Drafted s d
  pub nodes : s.plan.nodes * node_word_count ≤ length s.words
  pub block : bad_block s.plan.block ≡ false

-- a list that has the front of a count has as many entries
front_room : (n : ℕ) (xs ys : List ℕ) → take n xs ≡ ys → n ≡ length ys → n ≤ length xs
front_room n xs ys e c = subst (λ (k : ℕ). k ≤ length xs) (sym (length-take n xs) ∙ ap length e ∙ sym c) (min-le_right n (length xs))

long_enough : (s : BuilderState) (d : Draft) → LaidOut s d → short_lists s.plan s.indices s.words s.steps ≡ false
long_enough s d t =
    let h = t.drafted in
    (lists_none s.plan s.indices s.words s.steps).1
    (record {
      entries = front_room s.plan.indices s.indices d.indices h.indices h.index_count;
      nodes = t.nodes;
      step_words = front_room s.plan.words s.steps d.words h.words h.word_count;
    })

-- ---- the calls that are lent the index list, the node words and the step words
abbrev checked_lists : BuilderState → Answer
checked_lists s = checked s.plan (short_lists s.plan s.indices s.words s.steps) s.indices s.words s.steps

abbrev traced : BuilderState → List Resolved
traced s = traced_steps s.plan s.indices s.steps

-- 15 and 2
abbrev slot_tests : ℕ → ℕ → List Resolved → List Test
slot_tests slot n xs = test NoSlot (leb (slot_count xs) slot) ∷ test ShortArea (ltb n (length (source_list slot xs))) ∷ []

-- the trace's tests come after the plan's
in_turn : (s : BuilderState) (slot n : ℕ)
    → trace_answer s.plan slot s.indices s.words s.steps n ≡ outcome (checked_lists s) (first (slot_tests slot n (traced s)) (Ok tt)) Err
unfolding trace_answer checked
in_turn s slot n = first_append tests own (Ok tt) ∙ go (first tests (Ok tt)) refl
  where
    tests : List Test
    tests = plan_tests s.plan (short_lists s.plan s.indices s.words s.steps) s.indices s.words s.steps

    own : List Test
    own = slot_tests slot n (traced s)

    go : (t : Answer) → first tests (Ok tt) ≡ t → first tests (first own (Ok tt)) ≡ outcome (first tests (Ok tt)) (first own (Ok tt)) Err
    go (Ok _) e = none_rest tests (first own (Ok tt)) (accepted_none tests (Ok tt) e).0 ∙ rw e refl
    go (Err r) e = refused_rest tests (first own (Ok tt)) r e ∙ rw e refl

-- so what is handed back by the trace's answer is handed back by the check's
turned : {A : Type 0} (t : Answer) (own : Answer) (done : A) (refused : Refusal → A)
    → outcome (outcome t own Err) done refused ≡ outcome t (outcome own done refused) refused
turned (Ok _) own done refused = refl
turned (Err r) own done refused = refl

-- ---- two states of one draft

-- the plan check, the clean answer, the trace's answer and the list's area after it say the same of both
pub record SameAnswers (s₁ s₂ : BuilderState) : Type 0 where
  pub same_check : checked_lists s₂ ≡ checked_lists s₁
  pub same_clean : clean_answer s₂.plan s₂.indices s₂.words s₂.steps ≡ clean_answer s₁.plan s₁.indices s₁.words s₁.steps
  pub same_sources : (slot n : ℕ)
      → sources_answer s₂.plan slot s₂.indices s₂.words s₂.steps n ≡ sources_answer s₁.plan slot s₁.indices s₁.words s₁.steps n
  pub same_list : (slot : ℕ) (area : List ℕ)
      → sources_area s₂.plan slot s₂.indices s₂.words s₂.steps area ≡ sources_area s₁.plan slot s₁.indices s₁.words s₁.steps area

module _ (s₁ s₂ : BuilderState) (d : Draft) (t₁ : LaidOut s₁ d) (t₂ : LaidOut s₂ d) where
  abbrev h₁ : Drafted s₁ d
  h₁ = t₁.drafted

  abbrev h₂ : Drafted s₂ d
  h₂ = t₂.drafted

  abbrev p₁ : Plan
  p₁ = s₁.plan

  abbrev p₂ : Plan
  p₂ = s₂.plan

  same_record : s₂.plan ≡ with_block s₁.plan s₂.plan.block
  same_record =
      λ i. plan_with s₂.plan.block
      ((h₂.buffers ∙ sym h₁.buffers) i)
      ((h₂.index_count ∙ sym h₁.index_count) i)
      ((h₂.coefficient_count ∙ sym h₁.coefficient_count) i)
      ((h₂.node_count ∙ sym h₁.node_count) i)
      ((h₂.step_count ∙ sym h₁.step_count) i)
      ((h₂.word_count ∙ sym h₁.word_count) i)

  same_ids : (i : ℕ) → i < s₁.plan.nodes → id_at s₂.words i ≡ id_at s₁.words i
  unfolding node_at
  same_ids i l =
      let g₁ = get_d_nodes p₁.nodes s₁.floats s₁.words i nobody l in
      let g₂ = get_d_nodes p₂.nodes s₂.floats s₂.words i nobody (omega (arith, h₂.node_count, h₁.node_count)) in
      ap (λ (x : Node). x.id) (sym g₂ ∙ ap (λ (ns : List Node). get_or ns i nobody) (sym (same_nodes s₁ s₂ d h₁ h₂)) ∙ g₁)

  check_same : checked_lists s₂ ≡ checked_lists s₁
  check_same =
      let indices : take p₁.indices s₂.indices ≡ take p₁.indices s₁.indices = rw (h₁.index_count, ← h₂.index_count) h₂.indices ∙ sym h₁.indices in
      let words : take p₁.words s₂.steps ≡ take p₁.words s₁.steps = rw (h₁.word_count, ← h₂.word_count) h₂.words ∙ sym h₁.words in
      ap (λ (t : Bool). checked p₂ t s₂.indices s₂.words s₂.steps) (long_enough s₂ d t₂)
      ∙ ap (λ (p : Plan). checked p false s₂.indices s₂.words s₂.steps) same_record
      ∙ checked_block p₁ p₂.block (t₂.block ∙ sym t₁.block) false s₂.indices s₂.words s₂.steps
      ∙ check_front p₁ false s₂.indices s₁.indices s₂.words s₁.words s₂.steps s₁.steps indices same_ids words
      ∙ ap (λ (t : Bool). checked p₁ t s₁.indices s₁.words s₁.steps) (sym (long_enough s₁ d t₁))

  -- what is made of an accepted plan's steps is the same of both, and so is a refusal
  by_steps : {A : Type 0} (made : List Resolved → A) (refused : Refusal → A)
      → outcome (checked_lists s₂) (made (traced s₂)) refused ≡ outcome (checked_lists s₁) (made (traced s₁)) refused
  by_steps {A} made refused = go (checked_lists s₁) refl
    where
      go : (t : Answer) → checked_lists s₁ ≡ t → outcome (checked_lists s₂) (made (traced s₂)) refused ≡ outcome (checked_lists s₁) (made (traced s₁)) refused
      go (Ok _) q =
          let inside = (accepted_sound p₁ (short_lists p₁ s₁.indices s₁.words s₁.steps) s₁.indices s₁.words s₁.steps q).inside in
          ap (λ (t : Answer). outcome t (made (traced s₂)) refused) check_same
          ∙ ap (λ (xs : List Resolved). outcome (checked_lists s₁) (made xs) refused) (same_traced s₁ s₂ d h₁ h₂ inside)
      go (Err r) q = rw (check_same, q) refl

  by_trace : {A : Type 0} (slot n : ℕ) (made : List Resolved → A) (refused : Refusal → A)
      → outcome (trace_answer s₂.plan slot s₂.indices s₂.words s₂.steps n) (made (traced s₂)) refused
      ≡ outcome (trace_answer s₁.plan slot s₁.indices s₁.words s₁.steps n) (made (traced s₁)) refused
  by_trace {A} slot n made refused = each s₂ ∙ by_steps (λ xs. outcome (first (slot_tests slot n xs) (Ok tt)) (made xs) refused) refused ∙ sym (each s₁)
    where
      each : (s : BuilderState) → outcome (trace_answer s.plan slot s.indices s.words s.steps n) (made (traced s)) refused
          ≡ outcome (checked_lists s) (outcome (first (slot_tests slot n (traced s)) (Ok tt)) (made (traced s)) refused) refused
      each s =
          ap (λ (t : Answer). outcome t (made (traced s)) refused) (in_turn s slot n)
          ∙ turned (checked_lists s) (first (slot_tests slot n (traced s)) (Ok tt)) (made (traced s)) refused

  pub same_answers : SameAnswers s₁ s₂
  unfolding clean_answer sources_answer sources_area
  same_answers =
      record {
        same_check = check_same;
        same_clean = by_steps (λ xs. cond (clean xs) (Ok true) (Ok false)) Err;
        same_sources = λ slot n. by_trace slot n (λ xs. Ok (length (source_list slot xs))) Err;
        same_list = λ slot area. by_trace slot (length area) (λ xs. sets area 0 (source_list slot xs)) (λ _. area);
      }
