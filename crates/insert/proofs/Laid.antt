-- Lists of calls with inserts: a refused one changes nothing, what each accepted single call keeps the list keeps, and what the accepted ones leave, read back, is
-- what they gave. Assumes nothing.
use Prim.Native.Nat.{ℕ}
use mathlib.Core.Path.{◌≡◌, refl, sym, ap, ◌∙◌, subst}
use mathlib.Core.List.{List, [], ◌∷◌, map}
use Rattle.refusal.specs.Tests.{outcome, Answer}
use Rattle.refusal.specs.declared.Refusal.{Refusal}
use Rattle.plan.specs.declared.Plan.{Plan}
use Rattle.plan.specs.declared.Limits.{Limits}
use Rattle.plan.specs.PlanRecord.{plan_with}
use Rattle.builder.specs.Growth.{grown}
use Rattle.builder.specs.Calls.{empty_plan}
use Rattle.builder.specs.Built.{BuilderCall, Asked, asked, BuilderState, answer, after, built, Draft, no_draft, drafted, NoWordsAfter, Drafted}
use Rattle.builder.proofs.Refusals.{refused_nothing}
use Rattle.builder.proofs.Lists.{one_keeps, all_keep}
use Rattle.builder.proofs.ReadBack.{call_drafted, built_drafted, empty_drafted}
use Rattle.builder.proofs.Sums.{grown_sum}
use Rattle.builder.proofs.Held.{drafted_no_words_after}
use Rattle.builder.proofs.Accepted.{plan_after_lem}
use Rattle.insert.specs.declared.InsertPoint.{InsertPoint}
use Rattle.insert.specs.Wiring.{insert_calls}
use Rattle.insert.specs.Insert.{answer_to, inserted}
use Rattle.insert.specs.Layout.{LayoutCall, single, insert, layout_growth, layout_growth_of_all, layout_answer, layout_after, laid, accepted_layout, counts, layout_given, layout_drafted}
use Rattle.insert.proofs.Wired.{insert_accepted, inserted_all, insert_refused, insert_plan}
use Rattle.std.specs.Prelude.{Ok, Err}

-- ---- one call

pub layout_refused : (l : Limits) (s : BuilderState) (c : LayoutCall) (r : Refusal) → layout_answer l s c ≡ Err r → layout_after l s c ≡ s
layout_refused l s (single c) r e = refused_nothing l s c r e
layout_refused l s (insert i) r e = insert_refused l s i r e

plan_laid : (l : Limits) (s : BuilderState) (c : LayoutCall) → layout_answer l s c ≡ Ok tt → (layout_after l s c).plan ≡ grown s.plan (layout_growth c)
plan_laid l s (single c) e = plan_after_lem l s c e
plan_laid l s (insert i) e = insert_plan l s i e

-- an insert's calls are those of the draft that the plan holds: they depend on its counts alone
same_calls : (s : BuilderState) (d : Draft) (i : InsertPoint) → Drafted s d → insert_calls s.plan i ≡ insert_calls (counts d) i
same_calls s d i h =
    λ j. insert_calls
    (plan_with 0 (h.buffers j) (h.index_count j) (h.coefficient_count j) (h.node_count j) (h.step_count j) (h.word_count j)) i

insert_drafted : (l : Limits) (s : BuilderState) (d : Draft) (i : InsertPoint) → Drafted s d → answer_to l s i ≡ Ok tt → Drafted (inserted l s i) (layout_given d (insert i))
insert_drafted l s d i h e =
    let calls = insert_calls s.plan i in
    subst (λ (t : BuilderState). Drafted t (layout_given d (insert i))) (sym (inserted_all l s i e))
    (subst (λ (cs : List BuilderCall). Drafted (built s (map (asked l) calls)) (drafted d cs)) (insert_accepted l s i e ∙ same_calls s d i h)
    (built_drafted (map (asked l) calls) s d h))

one_drafted : (l : Limits) (s : BuilderState) (d : Draft) (c : LayoutCall) → Drafted s d → layout_answer l s c ≡ Ok tt → Drafted (layout_after l s c) (layout_given d c)
one_drafted l s d (single c) h e = call_drafted l s d c h e
one_drafted l s d (insert i) h e = insert_drafted l s d i h e

-- ---- lists of calls, each by its own limits

-- what each accepted single call keeps, a list of calls with inserts keeps
module _ (P : BuilderState → Type 0) (keeps : (l : Limits) (s : BuilderState) (c : BuilderCall) → answer l s c ≡ Ok tt → P s → P (after l s c)) where
  insert_keeps : (l : Limits) (s : BuilderState) (i : InsertPoint) → P s → P (inserted l s i)
  insert_keeps l s i p = go (answer_to l s i)
    where
      go : (a : Answer) → P (outcome a (built s (map (asked l) (insert_calls s.plan i))) (λ _. s))
      go (Ok _) = all_keep P keeps (map (asked l) (insert_calls s.plan i)) s p
      go (Err r) = p

  call_keeps : (l : Limits) (s : BuilderState) (c : LayoutCall) → P s → P (layout_after l s c)
  call_keeps l s (single c) p = one_keeps P keeps l s c p
  call_keeps l s (insert i) p = insert_keeps l s i p

  pub layout_keeps : (cs : List (Asked LayoutCall)) (s : BuilderState) → P s → P (laid s cs)
  layout_keeps [] s p = p
  layout_keeps (c ∷ cs) s p = layout_keeps cs (layout_after c.limits s c.call) (call_keeps c.limits s c.call p)

-- the plan has grown by what the accepted calls add, and by no more
pub layout_grown : (cs : List (Asked LayoutCall)) (s : BuilderState) → (laid s cs).plan ≡ grown s.plan (layout_growth_of_all (accepted_layout s cs))
layout_grown [] s = refl
layout_grown (x ∷ cs) s = go (layout_answer l s c) refl (layout_grown cs t)
  where
    l : Limits
    l = x.limits

    c : LayoutCall
    c = x.call

    t : BuilderState
    t = layout_after l s c

    more : List LayoutCall
    more = accepted_layout t cs

    go : (a : Answer) → layout_answer l s c ≡ a → (laid t cs).plan ≡ grown t.plan (layout_growth_of_all more)
        → (laid t cs).plan ≡ grown s.plan (layout_growth_of_all (outcome a (c ∷ more) (λ _. more)))
    go (Ok _) e ih = ih ∙ ap (λ (p : Plan). grown p (layout_growth_of_all more)) (plan_laid l s c e) ∙ grown_sum s.plan (layout_growth c) (layout_growth_of_all more)
    go (Err r) e ih = ih ∙ ap (λ (u : BuilderState). grown u.plan (layout_growth_of_all more)) (layout_refused l s c r e)

-- what they leave, read back, is the draft of the accepted ones
pub laid_drafted : (cs : List (Asked LayoutCall)) (s : BuilderState) (d : Draft) → Drafted s d → Drafted (laid s cs) (layout_drafted d (accepted_layout s cs))
laid_drafted [] s d h = h
laid_drafted (x ∷ cs) s d h = go (layout_answer l s c) refl (laid_drafted cs t (layout_given d c)) (laid_drafted cs t d)
  where
    l : Limits
    l = x.limits

    c : LayoutCall
    c = x.call

    t : BuilderState
    t = layout_after l s c

    more : List LayoutCall
    more = accepted_layout t cs

    go : (a : Answer) → layout_answer l s c ≡ a → (Drafted t (layout_given d c) → Drafted (laid t cs) (layout_drafted (layout_given d c) more))
        → (Drafted t d → Drafted (laid t cs) (layout_drafted d more)) → Drafted (laid t cs) (layout_drafted d (outcome a (c ∷ more) (λ _. more)))
    go (Ok _) e taken left = taken (one_drafted l s d c h e)
    go (Err r) e taken left = left (subst (λ (u : BuilderState). Drafted u d) (sym (layout_refused l s c r e)) h)

-- after `new`, in areas of any content and length
pub laid_read_back : (block : ℕ) (s : BuilderState) → s.plan ≡ empty_plan block → (cs : List (Asked LayoutCall))
    → Drafted (laid s cs) (layout_drafted no_draft (accepted_layout s cs))
laid_read_back block s e cs = laid_drafted cs s no_draft (empty_drafted s block e)

-- so in no plan from the builder a word that counts lies after the last step
pub laid_no_words_after : (block : ℕ) (s : BuilderState) → s.plan ≡ empty_plan block → (cs : List (Asked LayoutCall)) → NoWordsAfter (laid s cs)
laid_no_words_after block s e cs = drafted_no_words_after (laid s cs) (layout_drafted no_draft (accepted_layout s cs)) (laid_read_back block s e cs)
