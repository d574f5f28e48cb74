-- What the answers say: a list is that of an accepted plan, for a slot that it names, and stands at the front of the area; the lists of all slots
-- are those that each slot's own call hands out; a refusal leaves the areas as they were; and a clean plan is an accepted one. Assumes nothing.
use mathlib.Core.Path.{◌≡◌, refl, sym, ap, ◌∙◌}
use mathlib.Core.Bool.{Bool, true, false, ◌||◌, cond}
use mathlib.Core.List.{List, [], ◌∷◌}
use mathlib.Core.Logic.{◌⊎◌}
use Prim.Native.Nat.{ℕ, ◌+◌, ◌*◌, ◌≤◌, ◌<◌}
use native.Mathlib.Nat.{zero-add}
use native.Mathlib.Omega.{arith}
use lib.Dec.{ltb, leb}
use lib.ListN.{length, get_or, take}
use lib.Seq.{sets}
use borrow.Author.Tests.{ltb-false, leb-false}
use Rattle.lists.specs.Parts.{part}
use Rattle.lists.proofs.Stores.{take_stored}
use Rattle.lists.proofs.Filled.{upto_at, upto_past}
use Rattle.std.proofs.lemmas.Bool.{or_parts}
use Rattle.refusal.specs.Tests.{Test, test, first, outcome, NoneHolds, Answer}
use Rattle.refusal.specs.declared.Refusal.{Refusal}
use Rattle.refusal.proofs.Laws.{first_append, accepted_none, none_accepted, outcome_accepted, refused_keeps}
use Rattle.sets.proofs.Sift.{length_sift}
use Rattle.plan.specs.declared.Plan.{Plan}
use Rattle.plan.specs.Limits.{inputs}
use Rattle.plan.specs.Areas.{short_lists}
use Rattle.plan.specs.Check.{plan_tests, checked}
use Rattle.trace.specs.Sources.{no_sources, behind, source_list, slot_count}
use Rattle.trace.specs.Clean.{clean}
use Rattle.trace.specs.Calls.{traced_steps, trace_answer, sources_answer, sources_area, all_traced, all_answer, counts_of, lists_of, all_counts, all_lists, clean_answer}
use Rattle.trace.proofs.Lists.{lists_at, lists_kept}
use Rattle.refusal.specs.declared.Reason.TheVariants.{NoSlot, ShortArea}
use Rattle.std.specs.Prelude.{Ok, Err}

-- ---- `output_sources`
pub record Listed (p : Plan) (slot : ℕ) (indices words steps area : List ℕ) (n : ℕ) : Type 0 where
  pub accepted : checked p (short_lists p indices words steps) indices words steps ≡ Ok tt
  pub named : slot < slot_count (traced_steps p indices steps)
  pub count : n ≡ length (source_list slot (traced_steps p indices steps))
  pub front : take n (sources_area p slot indices words steps area) ≡ source_list slot (traced_steps p indices steps)

module _ (p : Plan) (slot : ℕ) (indices words steps area : List ℕ) where
  abbrev list : List ℕ
  list = source_list slot (traced_steps p indices steps)

  abbrev answer : Answer
  answer = trace_answer p slot indices words steps (length area)

  -- the plan's tests, and the trace's own
  abbrev plan : List Test
  plan = plan_tests p (short_lists p indices words steps) indices words steps

  abbrev own : List Test
  own = test NoSlot (leb (slot_count (traced_steps p indices steps)) slot) ∷ test ShortArea (ltb (length area) (length list)) ∷ []

  none : answer ≡ Ok tt → NoneHolds plan × NoneHolds own
  unfolding trace_answer
  none a =
      let t = accepted_none plan (first own (Ok tt)) (sym (first_append plan own (Ok tt)) ∙ a) in
      (t.0, (accepted_none own (Ok tt) t.1).0)

  front : answer ≡ Ok tt → length list ≤ length area → take (length list) (sources_area p slot indices words steps area) ≡ list
  unfolding sources_area
  front a h =
      ap (take (length list)) (outcome_accepted answer (sets area 0 list) (λ _. area) a)
      ∙ ap (λ (k : ℕ). take k (sets area 0 list)) (sym (zero-add (length list)))
      ∙ take_stored area 0 list (omega arith)

  pub listed_says : (n : ℕ) → sources_answer p slot indices words steps (length area) ≡ Ok n → Listed p slot indices words steps area n
  unfolding sources_answer checked
  listed_says n e = go answer refl e
    where
      says : answer ≡ Ok tt → n ≡ length list → Listed p slot indices words steps area n
      says a q =
          let t = none a in
          record {
            accepted = none_accepted plan t.0;
            named = leb-false (slot_count (traced_steps p indices steps)) slot t.1.0;
            count = q;
            front = ap (λ (k : ℕ). take k (sources_area p slot indices words steps area)) q ∙ front a (ltb-false (length area) (length list) t.1.1.0);
          }

      go : (a : Answer) → answer ≡ a → outcome a (Ok (length list)) Err ≡ Ok n → Listed p slot indices words steps area n
      go (Ok _) a q = says a (cc)
      go (Err r) a q = let z : ◌≡◌ {A = ℕ} 0 1 = cc in absurd (omega arith)

  pub refused_keeps_list : (r : Refusal) → sources_answer p slot indices words steps (length area) ≡ Err r
      → sources_area p slot indices words steps area ≡ area
  unfolding sources_answer sources_area
  refused_keeps_list r e = go answer refl e
    where
      go : (a : Answer) → answer ≡ a → outcome a (Ok (length list)) Err ≡ Err r
          → outcome answer (sets area 0 list) (λ _. area) ≡ area
      go (Ok _) a q = let z : ◌≡◌ {A = ℕ} 0 1 = cc in absurd (omega arith)
      go (Err s) a q = refused_keeps answer (sets area 0 list) area s a

-- ---- `all_sources`
pub record AllListed (p : Plan) (indices words steps counts lists : List ℕ) (n : ℕ) : Type 0 where
  pub accepted : checked p (short_lists p indices words steps) indices words steps ≡ Ok tt
  pub count : n ≡ slot_count (traced_steps p indices steps)
  pub numbers : (s : ℕ) → s < n
      → get_or (all_counts p indices words steps counts (length lists)) s 0 ≡ length (source_list s (traced_steps p indices steps))
  pub parts : (s : ℕ) → s < n
      → part (s * inputs) (length (source_list s (traced_steps p indices steps))) (all_lists p indices words steps (length counts) lists)
      ≡ source_list s (traced_steps p indices steps)
  -- all else is as it was
  pub other_counts : (i : ℕ) → n ≤ i → get_or (all_counts p indices words steps counts (length lists)) i 0 ≡ get_or counts i 0
  pub other_places : (i : ℕ) → ((s : ℕ) → s < n → (i < s * inputs) ⊎ (s * inputs + length (source_list s (traced_steps p indices steps)) ≤ i))
      → get_or (all_lists p indices words steps (length counts) lists) i 0 ≡ get_or lists i 0

module _ (p : Plan) (indices words steps counts lists : List ℕ) where
  abbrev lists_of_lem : ℕ → List ℕ
  lists_of_lem s = source_list s (traced_steps p indices steps)

  abbrev slots : ℕ
  slots = slot_count (traced_steps p indices steps)

  abbrev all : Answer
  all = all_traced p indices words steps (length counts) (length lists)

  abbrev all_plan : List Test
  all_plan = plan_tests p (short_lists p indices words steps) indices words steps

  abbrev all_own : List Test
  all_own = test ShortArea (ltb (length counts) slots || ltb (length lists) (slots * inputs)) ∷ []

  all_none : all ≡ Ok tt → NoneHolds all_plan × NoneHolds all_own
  unfolding all_traced
  all_none a =
      let t = accepted_none all_plan (first all_own (Ok tt)) (sym (first_append all_plan all_own (Ok tt)) ∙ a) in
      (t.0, (accepted_none all_own (Ok tt) t.1).0)

  -- a slot has at most as many inputs as there are
  pub list_fits : (s : ℕ) → length (lists_of_lem s) ≤ inputs
  unfolding source_list
  list_fits s = length_sift (behind s no_sources (traced_steps p indices steps)) 0 inputs

  pub all_says : (n : ℕ) → all_answer p indices words steps (length counts) (length lists) ≡ Ok n → AllListed p indices words steps counts lists n
  unfolding all_answer all_counts all_lists checked
  all_says n e = go all refl e
    where
      says : all ≡ Ok tt → n ≡ slots → AllListed p indices words steps counts lists n
      says a q =
          let t = all_none a in
          let o = or_parts (ltb (length counts) slots) (ltb (length lists) (slots * inputs)) t.1.0 in
          let c = outcome_accepted all (counts_of lists_of_lem slots counts) (λ _. counts) a in
          let l = outcome_accepted all (lists_of lists_of_lem slots lists) (λ _. lists) a in
          let counts_room = ltb-false (length counts) slots o.0 in
          let lists_room = ltb-false (length lists) (slots * inputs) o.1 in
          record {
            accepted = none_accepted all_plan t.0;
            count = q;
            numbers = λ s h. ap (λ (m : List ℕ). get_or m s 0) c ∙ upto_at (λ s. length (lists_of_lem s)) slots counts s 0 (omega (arith, h, q)) (omega (arith, h, q, counts_room));
            parts = λ s h. ap (part (s * inputs) (length (lists_of_lem s))) l ∙ lists_at lists_of_lem list_fits slots lists s (omega (arith, h, q)) lists_room;
            other_counts = λ i h. ap (λ (m : List ℕ). get_or m i 0) c ∙ upto_past (λ s. length (lists_of_lem s)) slots counts i 0 (omega (arith, h, q));
            other_places = λ i h. ap (λ (m : List ℕ). get_or m i 0) l ∙ lists_kept lists_of_lem slots lists i (λ s k. h s (omega (arith, k, q)));
          }

      go : (a : Answer) → all ≡ a → outcome a (Ok slots) Err ≡ Ok n → AllListed p indices words steps counts lists n
      go (Ok _) a q = says a (cc)
      go (Err r) a q = let z : ◌≡◌ {A = ℕ} 0 1 = cc in absurd (omega arith)

  pub refused_keeps_both : (r : Refusal) → all_answer p indices words steps (length counts) (length lists) ≡ Err r
      → (all_counts p indices words steps counts (length lists) ≡ counts) × (all_lists p indices words steps (length counts) lists ≡ lists)
  unfolding all_answer all_counts all_lists
  refused_keeps_both r e = go all refl e
    where
      go : (a : Answer) → all ≡ a → outcome a (Ok slots) Err ≡ Err r
          → (outcome all (counts_of lists_of_lem slots counts) (λ _. counts) ≡ counts) × (outcome all (lists_of lists_of_lem slots lists) (λ _. lists) ≡ lists)
      go (Ok _) a q = let z : ◌≡◌ {A = ℕ} 0 1 = cc in absurd (omega arith)
      go (Err s) a q = (refused_keeps all (counts_of lists_of_lem slots counts) counts s a, refused_keeps all (lists_of lists_of_lem slots lists) lists s a)

  -- what `output_sources` hands out for a slot is what `all_sources` has at its places
  pub all_agrees : (slot : ℕ) (area : List ℕ) (k n : ℕ) → sources_answer p slot indices words steps (length area) ≡ Ok k
      → all_answer p indices words steps (length counts) (length lists) ≡ Ok n
      → (get_or (all_counts p indices words steps counts (length lists)) slot 0 ≡ k)
      × (part (slot * inputs) k (all_lists p indices words steps (length counts) lists) ≡ take k (sources_area p slot indices words steps area))
  all_agrees slot area k n e f =
      let one = listed_says p slot indices words steps area k e in
      let each = all_says n f in
      let h : slot < n = omega (arith, one.named, each.count) in (
        each.numbers slot h ∙ sym one.count,
        ap (λ (m : ℕ). part (slot * inputs) m (all_lists p indices words steps (length counts) lists)) one.count ∙ each.parts slot h ∙ sym one.front,
      )

-- ---- `clean_answer`
pub clean_says : (p : Plan) (indices words steps : List ℕ) → clean_answer p indices words steps ≡ (Ok true)
    → (checked p (short_lists p indices words steps) indices words steps ≡ Ok tt) × (clean (traced_steps p indices steps) ≡ true)
unfolding clean_answer
clean_says p indices words steps e = go (checked p (short_lists p indices words steps) indices words steps) refl (clean (traced_steps p indices steps)) refl e
  where
    go : (a : Answer) → checked p (short_lists p indices words steps) indices words steps ≡ a → (t : Bool) → clean (traced_steps p indices steps) ≡ t
        → outcome a (cond t (Ok true) (Ok false)) Err ≡ (Ok true)
        → (checked p (short_lists p indices words steps) indices words steps ≡ Ok tt) × (clean (traced_steps p indices steps) ≡ true)
    go (Ok _) a true c q = (a, c)
    go (Ok _) a false c q = let z : ◌≡◌ {A = ℕ} 0 1 = cc in absurd (omega arith)
    go (Err r) a t c q = let z : ◌≡◌ {A = ℕ} 0 1 = cc in absurd (omega arith)
