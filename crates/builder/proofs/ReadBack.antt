-- What accepted calls leave, read back, is the list of what was given, whatever the areas held before and however long they are.
-- Assumes nothing.
use mathlib.Core.Path.{◌≡◌, refl, sym, ap, ◌∙◌, subst}
use mathlib.Core.Bool.{true≢false}
use mathlib.Core.List.{List, [], ◌∷◌, ◌++◌}
use Prim.Native.Nat.{ℕ, ◌+◌, ◌*◌, ◌<◌, ◌≤◌}
use native.Mathlib.Nat.{zero-add}
use native.Mathlib.Numerals.{add-one}
use native.Mathlib.Omega.{arith}
use lib.ListN.{length, take, length-append}
use lib.Seq.{sets, length-take-le, take-take}
use lib.Ieee.{Float}
use Rattle.lists.proofs.Stores.{take_stored}
use Rattle.refusal.specs.Tests.{outcome, Answer}
use Rattle.node.specs.Sizes.{node_float_count, node_word_count}
use Rattle.node.specs.Nodes.{new_node}
use Rattle.node.specs.Areas.{node_at, nodes, stored_floats, stored_words}
use Rattle.node.proofs.Kept.{full_new}
use Rattle.node.proofs.Areas.{stored_same, stored_other, nodes_same}
use Rattle.plan.specs.declared.Plan.{Plan}
use Rattle.plan.specs.declared.Step.{Step}
use Rattle.plan.specs.declared.Limits.{Limits}
use Rattle.plan.specs.Words.{fields, read_at, decoded_from, decoded}
use Rattle.plan.proofs.Words.{read_past, decoded_on, decoded_none, decoded_start}
use Rattle.plan.proofs.Parts.{end_from}
use Rattle.plan.proofs.Places.{read_next, read_agree, read_append, read_seam}
use Rattle.builder.specs.Growth.{buffers_growth, coefficients_growth, node_growth, step_growth}
use Rattle.builder.specs.Calls.{empty_plan, numbers_from, record_length, unreadable}
use Rattle.builder.specs.Built.{BuilderCall, buffers, coefficients, node, step, Asked, BuilderState, answer, after, built, accepted, Draft, no_draft, step_read, given, drafted, Reads, none, then, Drafted}
use Rattle.builder.proofs.Numbers.{length_numbers}
use Rattle.builder.proofs.Fits.{buffers_fit, coefficients_fit, node_fits, step_fits}
use Rattle.builder.proofs.Outcomes.{plan_accepted, buffers_accepted, coefficients_accepted, floats_accepted, words_accepted, step_accepted}
use Rattle.builder.proofs.Refusals.{refused_nothing}
use Rattle.std.specs.Prelude.{Ok, Err, Some, None, Option}

-- entries that are stored after the first k of a list, read back
appended : {A : Type 0} (l vs xs : List A) (k n : ℕ) → k + n ≤ length l → length vs ≡ n → take k l ≡ xs → take (k + n) (sets l k vs) ≡ xs ++ vs
appended l vs xs k n h e p =
    let h' : k + length vs ≤ length l = omega arith in
    ap (λ (m : ℕ). take (k + m) (sets l k vs)) (sym e) ∙ take_stored l k vs h' ∙ ap (λ (ys : List _). ys ++ vs) p

counted : {A : Type 0} (xs vs : List A) {k n : ℕ} → k ≡ length xs → length vs ≡ n → k + n ≡ length (xs ++ vs)
counted xs vs p e = omega (arith, length-append xs vs)

-- the nodes with one more
node_appended : (n id : ℕ) (values : List Float) (ramp safe : ℕ) (floats : List Float) (words : List ℕ) → (n + 1) * node_float_count ≤ length floats → (n + 1) * node_word_count ≤ length words
    → nodes (n + 1) (stored_floats floats n (new_node id values ramp safe)) (stored_words words n (new_node id values ramp safe)) ≡ nodes n floats words ++ (new_node id values ramp safe ∷ [])
unfolding nodes
node_appended n id values ramp safe floats words hf hw =
    let new = new_node id values ramp safe in
    let full = full_new id values ramp safe in
    let fs = stored_floats floats n new in
    let ws = stored_words words n new in
    let before : nodes n fs ws ≡ nodes n floats words =
    nodes_same n fs floats ws words (λ (i : ℕ) (h : i < n). stored_other floats words n new full i (λ e. omega arith)) in
    let last : node_at fs ws n ≡ new = stored_same floats words n new full (hf, hw) in
    ap (λ (k : ℕ). nodes k fs ws) (add-one n) ∙ rw (before, last)

module _ (l : Limits) (s : BuilderState) (d : Draft) (h : Drafted s d) where
  buffers_drafted : (n : ℕ) → answer l s (buffers n) ≡ Ok tt → Drafted (after l s (buffers n)) (given d (buffers n))
  buffers_drafted n e =
      let p = s.plan in
      let f = buffers_fit l p n (length s.indices) e in
      let ns = length_numbers p.buffers n in
      rw (plan_accepted p (buffers_growth n) e, buffers_accepted l p n s.indices e)
      (record {
        buffers = ap (λ (k : ℕ). k + n) h.buffers;
        index_count = counted d.indices (numbers_from d.buffers n) h.index_count (length_numbers d.buffers n);
        coefficient_count = h.coefficient_count;
        node_count = h.node_count;
        step_count = h.step_count;
        word_count = h.word_count;
        indices = appended s.indices (numbers_from p.buffers n) d.indices p.indices n f.area ns h.indices
            ∙ ap (λ (k : ℕ). d.indices ++ numbers_from k n) h.buffers;
        coefficients = h.coefficients;
        nodes = h.nodes;
        words = h.words;
        steps = h.steps;
      })

  coefficients_drafted : (xs : List Float) → answer l s (coefficients xs) ≡ Ok tt → Drafted (after l s (coefficients xs)) (given d (coefficients xs))
  coefficients_drafted xs e =
      let p = s.plan in
      let f = coefficients_fit l p (length xs) (length s.coefficients) e in
      rw (plan_accepted p (coefficients_growth (length xs)) e, coefficients_accepted l p xs s.coefficients e)
      (record {
        buffers = h.buffers;
        index_count = h.index_count;
        coefficient_count = counted d.coefficients xs h.coefficient_count refl;
        node_count = h.node_count;
        step_count = h.step_count;
        word_count = h.word_count;
        indices = h.indices;
        coefficients = appended s.coefficients xs d.coefficients p.coefficients (length xs) f.area refl h.coefficients;
        nodes = h.nodes;
        words = h.words;
        steps = h.steps;
      })

  node_drafted : (id : ℕ) (xs : List Float) (ramp safe : ℕ) → answer l s (node id xs ramp safe) ≡ Ok tt → Drafted (after l s (node id xs ramp safe)) (given d (node id xs ramp safe))
  node_drafted id xs ramp safe e =
      let p = s.plan in
      let f = node_fits l p id (length xs) ramp safe (length s.floats) s.words e in
      rw (plan_accepted p node_growth e, floats_accepted l p id xs ramp safe s.floats s.words e, words_accepted l p id xs ramp safe s.floats s.words e)
      (record {
        buffers = h.buffers;
        index_count = h.index_count;
        coefficient_count = h.coefficient_count;
        node_count = counted d.nodes (new_node id xs ramp safe ∷ []) h.node_count refl;
        step_count = h.step_count;
        word_count = h.word_count;
        indices = h.indices;
        coefficients = h.coefficients;
        nodes = node_appended p.nodes id xs ramp safe s.floats s.words f.floats f.words ∙ ap (λ ns. ns ++ (new_node id xs ramp safe ∷ [])) h.nodes;
        words = h.words;
        steps = h.steps;
      })

-- ---- the steps

record_next : (w : List ℕ) {s : Step} {next : ℕ} → read_at w 0 ≡ Some (s, next) → next ≡ record_length w
record_next [] r = let z : ◌≡◌ {A = ℕ} 0 1 = cc (sym (read_past [] 0 (omega arith)) ∙ r) in absurd (omega arith)
record_next (map ∷ ws) r = read_next (map ∷ ws) 0 r ∙ zero-add (1 + fields map)

module _ (more : List ℕ) where
  reads_append : {w : List ℕ} {at end : ℕ} {ss : List Step} → Reads w at ss end → Reads (w ++ more) at ss end
  reads_append none = none
  reads_append {w} {at} (then r rs) = then (read_append w more at r) (reads_append rs)

reads_one : {w : List ℕ} {at end next : ℕ} {ss : List Step} {s : Step} → Reads w at ss end → read_at w end ≡ Some (s, next) → Reads w at (ss ++ (s ∷ [])) next
reads_one none q = then q none
reads_one (then r rs) q = then r (reads_one rs q)

-- steps that are read in turn are the decoded list
pub reads_decoded : {w : List ℕ} {at end : ℕ} {ss : List Step} → Reads w at ss end → decoded_from w (length ss) at ≡ ss
reads_decoded {w} {at} none = decoded_none w at refl
reads_decoded {w} {at} (then {s = s} r rs) = decoded_on w at refl r ∙ ap (λ (l : List Step). s ∷ l) (reads_decoded rs)

-- … and end where its steps do, as the laws of steps in two parts ask for it
pub reads_end : {w : List ℕ} {at end : ℕ} {ss : List Step} → Reads w at ss end → end_from w (length ss) at ≡ end
reads_end none = refl
reads_end (then r rs) = rw r (reads_end rs)

module _ (l : Limits) (s : BuilderState) (d : Draft) (h : Drafted s d) (w : List ℕ) (e : answer l s (step w) ≡ Ok tt) where
  -- the record that was given is a step, and lies after the words before it
  step_read_lem : (t : Step) (next : ℕ) → read_at w 0 ≡ Some (t, next) → Drafted (after l s (step w)) (given d (step w))
  step_read_lem t next r =
      let p = s.plan in
      let n = record_length w in
      let f = step_fits l p w (length s.steps) e in
      let rec = take n w in
      let k : length rec ≡ n = length-take-le n w f.whole in
      let m : next ≡ n = record_next w r in
      let one : read_at rec 0 ≡ (Some (t, next)) = read_agree w rec n (sym (take-take n n w (omega arith))) 0 r (omega arith) in
      let here : read_at (d.words ++ rec) (length d.words) ≡ (Some (t, length (d.words ++ rec))) =
      read_seam d.words rec one ∙ ap (λ (k : ℕ). Some (t, k)) (ap (λ (j : ℕ). length d.words + j) (m ∙ sym k) ∙ sym (length-append d.words rec)) in
      let given_step : step_read (read_at w 0) ≡ t ∷ [] = ap step_read r in
      rw (plan_accepted p (step_growth n) e, step_accepted l p w s.steps e)
      (record {
        buffers = h.buffers;
        index_count = h.index_count;
        coefficient_count = h.coefficient_count;
        node_count = h.node_count;
        step_count = counted d.steps (step_read (read_at w 0)) h.step_count (ap length given_step);
        word_count = counted d.words rec h.word_count k;
        indices = h.indices;
        coefficients = h.coefficients;
        nodes = h.nodes;
        words = appended s.steps rec d.words p.words n f.area k h.words;
        steps = subst (λ (ss : List Step). Reads (d.words ++ rec) 0 (d.steps ++ ss) (length (d.words ++ rec))) (sym given_step) (reads_one (reads_append rec h.steps) here);
      })

  step_drafted : Drafted (after l s (step w)) (given d (step w))
  step_drafted = go (read_at w 0) refl
    where
      go : (r : Option (Step × ℕ)) → read_at w 0 ≡ r → Drafted (after l s (step w)) (given d (step w))
      go (Some (t, next)) r = step_read_lem t next r
      go None r = absurd (true≢false (sym (ap unreadable r) ∙ (step_fits l s.plan w (length s.steps) e).readable))

-- ---- lists of calls

pub call_drafted : (l : Limits) (s : BuilderState) (d : Draft) (c : BuilderCall) → Drafted s d → answer l s c ≡ Ok tt → Drafted (after l s c) (given d c)
call_drafted l s d (buffers n) h e = buffers_drafted l s d h n e
call_drafted l s d (coefficients xs) h e = coefficients_drafted l s d h xs e
call_drafted l s d (node id xs ramp safe) h e = node_drafted l s d h id xs ramp safe e
call_drafted l s d (step w) h e = step_drafted l s d h w e

pub built_drafted : (cs : List (Asked BuilderCall)) (s : BuilderState) (d : Draft) → Drafted s d → Drafted (built s cs) (drafted d (accepted s cs))
built_drafted [] s d h = h
built_drafted (x ∷ cs) s d h = go (answer l s c) refl (built_drafted cs t (given d c)) (built_drafted cs t d)
  where
    l : Limits
    l = x.limits

    c : BuilderCall
    c = x.call

    t : BuilderState
    t = after l s c

    go : (a : Answer) → answer l s c ≡ a → (Drafted t (given d c) → Drafted (built t cs) (drafted (given d c) (accepted t cs)))
        → (Drafted t d → Drafted (built t cs) (drafted d (accepted t cs))) → Drafted (built t cs) (drafted d (outcome a (c ∷ accepted t cs) (λ _. accepted t cs)))
    go (Ok _) e taken left = taken (call_drafted l s d c h e)
    go (Err r) e taken left = left (subst (λ (u : BuilderState). Drafted u d) (sym (refused_nothing l s c r e)) h)

-- what `new` leaves holds nothing, in areas of any content and length
pub empty_drafted : (s : BuilderState) (block : ℕ) → s.plan ≡ empty_plan block → Drafted s no_draft
unfolding nodes
empty_drafted s block e =
    record {
      buffers = ap (λ (p : Plan). p.buffers) e;
      index_count = ap (λ (p : Plan). p.indices) e;
      coefficient_count = ap (λ (p : Plan). p.coefficients) e;
      node_count = ap (λ (p : Plan). p.nodes) e;
      step_count = ap (λ (p : Plan). p.steps) e;
      word_count = ap (λ (p : Plan). p.words) e;
      indices = ap (λ (p : Plan). take p.indices s.indices) e;
      coefficients = ap (λ (p : Plan). take p.coefficients s.coefficients) e;
      nodes = ap (λ (p : Plan). nodes p.nodes s.floats s.words) e;
      words = ap (λ (p : Plan). take p.words s.steps) e;
      steps = none;
    }

-- The theorem: after `new` and any list of calls, each by its own limits and refused ones among them, in areas of any content and length, the plan
-- holds the draft of the accepted calls.
pub read_back : (block : ℕ) (s : BuilderState) → s.plan ≡ empty_plan block → (cs : List (Asked BuilderCall)) → Drafted (built s cs) (drafted no_draft (accepted s cs))
read_back block s e cs = built_drafted cs s no_draft (empty_drafted s block e)

-- so the step words, as a run decodes them, are the steps that were given
pub drafted_steps : (s : BuilderState) (d : Draft) → Drafted s d → decoded (take s.plan.words s.steps) s.plan.steps ≡ d.steps
drafted_steps s d h = rw (h.words, h.step_count) (decoded_start d.words (length d.steps) ∙ reads_decoded h.steps)
