-- What each test makes of the answers of `output_sources`, `all_sources` and `clean_answer`, and of the areas of the first two: one law for
-- each way out. Assumes nothing.
use mathlib.Core.Path.{◌≡◌, refl, sym, ap, ◌∙◌}
use mathlib.Core.Bool.{Bool, true, false, ◌||◌, cond}
use mathlib.Core.List.{List, [], ◌++◌}
use Prim.Native.Nat.{ℕ, ◌*◌, ◌≤◌, ◌<◌}
use lib.Dec.{ltb}
use lib.ListN.{length, drop, take}
use lib.Seq.{sets, length-take-le}
use borrow.Author.Tests.{ltb-false, lt-ltb, le-ltb, le-leb, lt-leb}
use Rattle.std.proofs.lemmas.Bool.{or_parts}
use Rattle.lists.proofs.Stores.{sets_front}
use Rattle.refusal.specs.Tests.{refusal, Test, first, Answer}
use Rattle.refusal.specs.declared.Refusal.{Refusal}
use Rattle.refusal.proofs.Laws.{first_append, accepted_none, none_rest, refused_rest, outcome_accepted, outcome_refused, refused_keeps}
use Rattle.sets.specs.declared.Set.{Set}
use Rattle.sets.specs.Sets.{members}
use Rattle.sets.proofs.Laws.{members_sift}
use Rattle.plan.specs.declared.Plan.{Plan}
use Rattle.plan.specs.Limits.{inputs, slots}
use Rattle.plan.specs.Areas.{short_lists}
use Rattle.plan.specs.Check.{plan_tests, checked}
use Rattle.plan.specs.Sound.{steps_of, Tested}
use Rattle.plan.specs.Resolved.{Resolved}
use Rattle.plan.proofs.Exact.{accepted_sound}
use Rattle.plan.proofs.Accepted.{accepted_limits, accepted_lists, accepted_passes}
use Rattle.trace.specs.Sources.{no_sources, behind, source_list, slot_count}
use Rattle.trace.specs.Clean.{clean}
use Rattle.trace.specs.Calls.{traced_steps, trace_answer, sources_answer, sources_area, all_traced, all_answer, counts_of, lists_of, all_counts, all_lists, clean_answer}
use Rattle.trace.proofs.Behind.{inside_slots}
use Rattle.trace_sources.specs.Loops.{set_at, sources_of, list_at}
use Rattle.refusal.specs.declared.Reason.TheVariants.{NoSlot, ShortArea}
use Rattle.std.specs.Prelude.{Result, Ok, Err, None}

-- ---- the plan's tests, before those of a call
module _ (p : Plan) (indices words steps : List ℕ) where
  abbrev plan_tests_lem : List Test
  plan_tests_lem = plan_tests p (short_lists p indices words steps) indices words steps

  by_check : (rest : List Test) (r : Refusal) → checked p (short_lists p indices words steps) indices words steps ≡ Err r
      → first (plan_tests_lem ++ rest) (Ok tt) ≡ Err r
  unfolding checked
  by_check rest r e = first_append plan_tests_lem rest (Ok tt) ∙ refused_rest plan_tests_lem _ r e

  after_check : (rest : List Test) → checked p (short_lists p indices words steps) indices words steps ≡ Ok tt
      → first (plan_tests_lem ++ rest) (Ok tt) ≡ first rest (Ok tt)
  unfolding checked
  after_check rest e = first_append plan_tests_lem rest (Ok tt) ∙ none_rest plan_tests_lem (first rest (Ok tt)) (accepted_none plan_tests_lem (Ok tt) e).0

-- ---- `output_sources`
module _ (p : Plan) (slot : ℕ) (indices words steps area : List ℕ) where
  abbrev xs : List Resolved
  xs = traced_steps p indices steps

  abbrev answer : Answer
  answer = trace_answer p slot indices words steps (length area)

  -- the ways out
  pub by_plan : (r : Refusal) → checked p (short_lists p indices words steps) indices words steps ≡ Err r → answer ≡ Err r
  unfolding trace_answer
  by_plan r e = by_check p indices words steps _ r e

  module _ (e : checked p (short_lists p indices words steps) indices words steps ≡ Ok tt) where
    pub by_15 : slot_count xs ≤ slot → answer ≡ Err (refusal NoSlot None)
    unfolding trace_answer
    by_15 h = after_check p indices words steps _ e ∙ rw (le-leb (slot_count xs) slot h)

    module _ (h : slot < slot_count xs) where
      pub by_2 : length area < length (source_list slot xs) → answer ≡ Err (refusal ShortArea None)
      unfolding trace_answer
      by_2 k = after_check p indices words steps _ e ∙ rw (lt-leb (slot_count xs) slot h, lt-ltb (length area) (length (source_list slot xs)) k)

      pub by_none : length (source_list slot xs) ≤ length area → answer ≡ Ok tt
      unfolding trace_answer
      by_none k = after_check p indices words steps _ e ∙ rw (lt-leb (slot_count xs) slot h, le-ltb (length area) (length (source_list slot xs)) k)

  -- what the call hands back, and the list's area
  pub refused : (r q : Refusal) → answer ≡ Err r → q ≡ r
      → (Err q ≡ sources_answer p slot indices words steps (length area)) × (area ≡ sources_area p slot indices words steps area)
  unfolding sources_answer sources_area
  refused r q e g = (ap Err g ∙ sym (outcome_refused answer _ Err r e), sym (refused_keeps answer _ area r e))

  module _ (set : Set) (m : members set ≡ source_list slot xs) where
    pub listed : (count : ℕ) (last : List ℕ) → answer ≡ Ok tt → count ≡ length (members set) → length (members set) ≤ length area
        → last ≡ members set ++ drop (length (members set)) area
        → (Ok count ≡ sources_answer p slot indices words steps (length area)) × (last ≡ sources_area p slot indices words steps area)
    unfolding sources_answer sources_area
    listed count last e k h l = (
      ap Ok (k ∙ ap length m) ∙ sym (outcome_accepted answer _ Err e),
      l ∙ sym (sets_front area (members set) h) ∙ ap (sets area 0) m ∙ sym (outcome_accepted answer _ (λ _. area) e),
    )

-- ---- `all_sources`
module _ (p : Plan) (indices words steps counts lists : List ℕ) where
  abbrev named : ℕ
  named = slot_count (traced_steps p indices steps)

  abbrev all : Answer
  all = all_traced p indices words steps (length counts) (length lists)

  abbrev short : ℕ → Bool
  short n = ltb (length counts) n || ltb (length lists) (n * inputs)

  pub all_by_plan : (r : Refusal) → checked p (short_lists p indices words steps) indices words steps ≡ Err r → all ≡ Err r
  unfolding all_traced
  all_by_plan r e = by_check p indices words steps _ r e

  module _ (e : checked p (short_lists p indices words steps) indices words steps ≡ Ok tt) (n : ℕ) (k : n ≡ named) where
    pub all_by_2 : short n ≡ true → all ≡ Err (refusal ShortArea None)
    unfolding all_traced
    all_by_2 h = after_check p indices words steps _ e ∙ rw (ap short (sym k) ∙ h)

    pub all_by_none : short n ≡ false → all ≡ Ok tt
    unfolding all_traced
    all_by_none h = after_check p indices words steps _ e ∙ rw (ap short (sym k) ∙ h)

  pub room : (n : ℕ) → short n ≡ false → (n ≤ length counts) × (n * inputs ≤ length lists)
  room n e =
      let t = or_parts (ltb (length counts) n) (ltb (length lists) (n * inputs)) e in
      (ltb-false (length counts) n t.0, ltb-false (length lists) (n * inputs) t.1)

  pub all_refused : (r q : Refusal) → all ≡ Err r → q ≡ r
      → (Err q ≡ all_answer p indices words steps (length counts) (length lists))
      × ((counts ≡ all_counts p indices words steps counts (length lists)) × (lists ≡ all_lists p indices words steps (length counts) lists))
  unfolding all_answer all_counts all_lists
  all_refused r q e g =
      (ap Err g ∙ sym (outcome_refused all _ Err r e), (sym (refused_keeps all _ counts r e), sym (refused_keeps all _ lists r e)))

  pub all_listed : (list : ℕ → List ℕ) → ((s : ℕ) → list s ≡ source_list s (traced_steps p indices steps)) → all ≡ Ok tt
      → (n : ℕ) → n ≡ named → (counts' lists' : List ℕ) → counts' ≡ counts_of list n counts → lists' ≡ lists_of list n lists
      → (Ok n ≡ all_answer p indices words steps (length counts) (length lists))
      × ((counts' ≡ all_counts p indices words steps counts (length lists)) × (lists' ≡ all_lists p indices words steps (length counts) lists))
  unfolding all_answer all_counts all_lists
  all_listed list m e n k counts' lists' c l = (
    ap Ok k ∙ sym (outcome_accepted all _ Err e),
    (
      c ∙ (λ t. counts_of (λ s. m s t) (k t) counts) ∙ sym (outcome_accepted all _ (λ _. counts) e),
      l ∙ (λ t. lists_of (λ s. m s t) (k t) lists) ∙ sym (outcome_accepted all _ (λ _. lists) e),
    ),
  )

-- ---- the sets that the walk leaves
pub set_listed : (area : List Set) (xs : List Resolved) → ((s i : ℕ) → sources_of area s i ≡ behind s no_sources xs i) → (s : ℕ) → list_at area s ≡ source_list s xs
unfolding source_list
set_listed area xs m s = sym (members_sift (set_at area s) (behind s no_sources xs) (λ i h. m s i))

-- ---- what the plan check leaves to the walks, and the ways out of `clean_answer`
module _ (p : Plan) (indices words steps : List ℕ) where
  abbrev pub checks : Answer
  checks = checked p (short_lists p indices words steps) indices words steps

  abbrev clean_is : Bool
  clean_is = clean (traced_steps p indices steps)

  pub clean_refused : (r : Refusal) → checks ≡ Err r → clean_answer p indices words steps ≡ Err r
  unfolding clean_answer
  clean_refused r e = outcome_refused checks (cond clean_is (Ok true) (Ok false)) Err r e

  module _ (e : checks ≡ Ok tt) where
    pub tested : Tested p indices (take p.words steps)
    tested =
        let short = short_lists p indices words steps in
        let limits = accepted_limits p short indices words steps e in
        record {
          buffers = limits.buffers;
          steps = limits.steps;
          pass = accepted_passes p short indices words steps e (accepted_lists p indices words steps e).entries;
        }

    pub step_words : p.words ≡ length (take p.words steps)
    step_words = sym (length-take-le p.words steps (accepted_lists p indices words steps e).step_words)

    pub few : slot_count (traced_steps p indices steps) ≤ slots
    few = inside_slots p indices [] (steps_of p steps) (accepted_sound p (short_lists p indices words steps) indices words steps e).inside

    pub clean_accepted : (t : Bool) → t ≡ clean_is → Ok t ≡ clean_answer p indices words steps
    unfolding clean_answer
    clean_accepted t h = ap Ok h ∙ same clean_is ∙ sym (outcome_accepted checks (cond clean_is (Ok true) (Ok false)) Err e)
      where
        same : (b : Bool) → ◌≡◌ {A = Result Bool Refusal} (Ok b) (cond b (Ok true) (Ok false))
        same true = refl
        same false = refl
