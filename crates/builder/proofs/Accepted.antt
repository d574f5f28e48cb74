-- A plan grows by the sum of the growths of its accepted calls; and a list of calls is accepted whole exactly where that sum meets neither 5 nor 2, its ids are
-- new and different, and each call is good in itself, where all are tested by the same limits. Assumes nothing.
use mathlib.Core.Path.{◌≡◌, refl, sym, ap, ◌∙◌, subst}
use mathlib.Core.Logic.{◌↔◌}
use mathlib.Core.Bool.{false, ◌||◌}
use mathlib.Core.List.{List, [], ◌∷◌, ◌++◌, map}
use Prim.Native.Nat.{ℕ, ◌≤◌}
use native.Mathlib.Omega.{arith}
use lib.ListN.{length}
use Rattle.lists.specs.Entries.{has}
use Rattle.std.proofs.lemmas.Bool.{or_parts, or_from}
use Rattle.refusal.specs.Tests.{Test, first, outcome, NoneHolds, Answer}
use Rattle.refusal.proofs.Laws.{outcome_accepted, outcome_refused}
use Rattle.node.specs.Nodes.{new_node}
use Rattle.node.proofs.Kept.{id_new}
use Rattle.plan.specs.declared.Plan.{Plan}
use Rattle.plan.specs.declared.Limits.{Limits}
use Rattle.plan.specs.Check.{id_among}
use Rattle.builder.specs.declared.Growth.{Growth}
use Rattle.builder.specs.declared.Lengths.{Lengths}
use Rattle.builder.specs.Growth.{grown, limit_tests, grows_past, growth_tests, buffers_growth, coefficients_growth, node_growth, step_growth}
use Rattle.builder.specs.Calls.{lent_indices, buffers_answer, lent_coefficients, coefficients_answer, lent_nodes, node_own, node_answer, record_length, lent_steps, step_own, step_answer}
use Rattle.builder.specs.Built.{BuilderCall, buffers, coefficients, node, step, Asked, asked, BuilderState, answer, after, built, accepted}
use Rattle.builder.specs.Sums.{sum, no_growth, growth_of, growth_of_all, id_of, ids_of, ids_taken, lengths, FitsAsOne, Good, AllGood}
use Rattle.builder.proofs.Fits.{node_fits}
use Rattle.builder.proofs.Limits.{growth_exactly}
use Rattle.builder.proofs.Outcomes.{plan_accepted, words_accepted}
use Rattle.builder.proofs.Refusals.{refused_nothing}
use Rattle.builder.proofs.Kept.{accepted_kept}
use Rattle.builder.proofs.Sums.{Splits, limits_sum, past_sum, grown_sum, ids_stored}
use Rattle.std.specs.Prelude.{Ok, Err}

-- ---- one call

module _ (l : Limits) (s : BuilderState) where
  one_taken : (id : ℕ) → (ids_taken s.words s.plan.nodes (id ∷ []) ≡ false) ↔ (id_among s.words s.plan.nodes id ≡ false)
  unfolding has
  one_taken id = (λ e. (or_parts (id_among s.words s.plan.nodes id) (false || false) e).0, λ e. or_from (id_among s.words s.plan.nodes id) _ e refl)

  -- a call that gives no id, and is lent the areas that its growth asks for
  without_id : (g : Growth) (lent : Lengths) (own : List Test) → grows_past s.plan g lent ≡ grows_past s.plan g (lengths s)
      → (first (growth_tests l s.plan g lent own) (Ok tt) ≡ Ok tt) ↔ (FitsAsOne l s g [] × NoneHolds own)
  without_id g lent own same =
      let x = growth_exactly l s.plan g lent own in (
        λ e. let h = x.0 e in (record { limits = h.0; areas = sym same ∙ h.1.0; new = refl }, h.1.1),
        λ f. x.1 (f.0.limits, (same ∙ f.0.areas, f.1)),
      )

  -- accepted exactly where its growth and its id fit, and it is good in itself
  pub call_exactly : (c : BuilderCall) → (answer l s c ≡ Ok tt) ↔ (FitsAsOne l s (growth_of c) (id_of c) × Good c)
  unfolding buffers_answer coefficients_answer node_answer step_answer
  call_exactly (buffers n) = without_id (buffers_growth n) (lent_indices (length s.indices)) [] refl
  call_exactly (coefficients xs) = without_id (coefficients_growth (length xs)) (lent_coefficients (length s.coefficients)) [] refl
  call_exactly (node id xs ramp safe) =
      let x = growth_exactly l s.plan node_growth (lent_nodes (length s.floats) (length s.words)) (node_own s.plan id (length xs) ramp safe s.words) in (
        λ e.
            let h = x.0 e in
            let own = h.1.1 in
            (record { limits = h.0; areas = h.1.0; new = (one_taken id).1 own.1.0 }, (own.0, own.1.1.0, own.1.1.1.0)),
        λ f. x.1 (f.0.limits, (f.0.areas, (f.1.0, ((one_taken id).0 f.0.new, (f.1.1, (f.1.2, tt)))))),
      )
  call_exactly (step w) = without_id (step_growth (record_length w)) (lent_steps (length s.steps)) (step_own w) refl

  pub plan_after_lem : (c : BuilderCall) → answer l s c ≡ Ok tt → (after l s c).plan ≡ grown s.plan (growth_of c)
  plan_after_lem (buffers n) e = plan_accepted s.plan (buffers_growth n) e
  plan_after_lem (coefficients xs) e = plan_accepted s.plan (coefficients_growth (length xs)) e
  plan_after_lem (node id xs ramp safe) e = plan_accepted s.plan node_growth e
  plan_after_lem (step w) e = plan_accepted s.plan (step_growth (record_length w)) e

  lengths_after : (c : BuilderCall) → answer l s c ≡ Ok tt → lengths (after l s c) ≡ lengths s
  lengths_after c e =
      let k = accepted_kept l s c e in
      λ i. record {
        indices = k.indices.length i;
        coefficients = k.coefficients.length i;
        node_floats = k.floats.length i;
        node_words = k.words.length i;
        step_words = k.steps.length i;
      }

  -- more ids are new, and differ from its own, exactly where they are new after it
  ids_after : (c : BuilderCall) (ids : List ℕ) → answer l s c ≡ Ok tt
      → Splits (ids_taken s.words s.plan.nodes (id_of c ++ ids)) (ids_taken s.words s.plan.nodes (id_of c)) (ids_taken (after l s c).words (after l s c).plan.nodes ids)
  unfolding has
  ids_after (buffers n) ids e = rw (plan_accepted s.plan (buffers_growth n) e) (λ h. (refl, h), λ h. h.1)
  ids_after (coefficients xs) ids e = rw (plan_accepted s.plan (coefficients_growth (length xs)) e) (λ h. (refl, h), λ h. h.1)
  ids_after (node id xs ramp safe) ids e =
      let words = s.words in
      let n = s.plan.nodes in
      let x = new_node id xs ramp safe in
      let f = node_fits l s.plan id (length xs) ramp safe (length s.floats) words e in
      let own : has ids x.id ≡ has ids id = ap (has ids) (id_new id xs ramp safe) in
      let after-it = ids_stored words n x f.words ids in
      rw (plan_accepted s.plan node_growth e, words_accepted l s.plan id xs ramp safe s.floats words e) (
        λ h.
            let u = or_parts (id_among words n id) (has ids id || ids_taken words n ids) h in
            let v = or_parts (has ids id) (ids_taken words n ids) u.1 in
            ((one_taken id).1 u.0, after-it.1 (own ∙ v.0, v.1)),
        λ h.
            let v = after-it.0 h.1 in
            or_from (id_among words n id) _ ((one_taken id).0 h.0) (or_from (has ids id) _ (sym own ∙ v.0) v.1),
      )
  ids_after (step w) ids e = rw (plan_accepted s.plan (step_growth (record_length w)) e) (λ h. (refl, h), λ h. h.1)

  -- so of an accepted call: what fits with it fits after it
  fit_after : (c : BuilderCall) (g : Growth) (ids : List ℕ) → answer l s c ≡ Ok tt → FitsAsOne l s (sum (growth_of c) g) (id_of c ++ ids) ↔ FitsAsOne l (after l s c) g ids
  fit_after c g ids e =
      let own = ((call_exactly c).0 e).0 in
      let p = plan_after_lem c e in
      let areas : grows_past (after l s c).plan g (lengths (after l s c)) ≡ grows_past (grown s.plan (growth_of c)) g (lengths s) =
      ap (λ (q : Plan). grows_past q g (lengths (after l s c))) p ∙ ap (grows_past (grown s.plan (growth_of c)) g) (lengths_after c e) in (
        λ f.
            record {
              limits = subst (λ (q : Plan). NoneHolds (limit_tests l q g)) (sym p) ((limits_sum s.plan (growth_of c) g l).0 f.limits).1;
              areas = areas ∙ ((past_sum s.plan (growth_of c) g (lengths s)).0 f.areas).1;
              new = ((ids_after c ids e).0 f.new).1;
            },
        λ f.
            record {
              limits = (limits_sum s.plan (growth_of c) g l).1 (own.limits, subst (λ (q : Plan). NoneHolds (limit_tests l q g)) p f.limits);
              areas = (past_sum s.plan (growth_of c) g (lengths s)).1 (own.areas, sym areas ∙ f.areas);
              new = (ids_after c ids e).1 (own.new, f.new);
            },
      )

-- ---- a list of calls, each by its own limits

-- after any calls, refused ones among them, the plan has grown by what the accepted ones add, and by no more
pub really_grown : (cs : List (Asked BuilderCall)) (s : BuilderState) → (built s cs).plan ≡ grown s.plan (growth_of_all (accepted s cs))
really_grown [] s = refl
really_grown (x ∷ cs) s = go (answer l s c) refl (really_grown cs t)
  where
    l : Limits
    l = x.limits

    c : BuilderCall
    c = x.call

    t : BuilderState
    t = after l s c

    more : Growth
    more = growth_of_all (accepted t cs)

    go : (a : Answer) → answer l s c ≡ a → (built t cs).plan ≡ grown t.plan more
        → (built t cs).plan ≡ grown s.plan (growth_of_all (outcome a (c ∷ accepted t cs) (λ _. accepted t cs)))
    go (Ok _) e ih = ih ∙ ap (λ (p : Plan). grown p more) (plan_after_lem l s c e) ∙ grown_sum s.plan (growth_of c) more
    go (Err r) e ih = ih ∙ ap (λ (u : BuilderState). grown u.plan more) (refused_nothing l s c r e)

-- ---- a list of calls by the same limits

tail_same : {A : Type 0} (x : A) (xs ys : List A) → x ∷ xs ≡ x ∷ ys → xs ≡ ys
tail_same x xs ys e = cc

own_new : (words : List ℕ) (n : ℕ) (c : BuilderCall) (ids : List ℕ) → ids_taken words n (id_of c ++ ids) ≡ false → ids_taken words n (id_of c) ≡ false
unfolding has
own_new words n (buffers m) ids e = refl
own_new words n (coefficients xs) ids e = refl
own_new words n (node id xs ramp safe) ids e = or_from (id_among words n id) _ (or_parts (id_among words n id) (has ids id || ids_taken words n ids) e).0 refl
own_new words n (step w) ids e = refl

module _ (l : Limits) where
  abbrev accepted_by : BuilderState → List BuilderCall → List BuilderCall
  accepted_by s cs = accepted s (map (asked l) cs)

  taken : (s : BuilderState) (c : BuilderCall) (cs : List BuilderCall) → answer l s c ≡ Ok tt → accepted_by s (c ∷ cs) ≡ c ∷ accepted_by (after l s c) cs
  taken s c cs e = outcome_accepted (answer l s c) (c ∷ accepted_by (after l s c) cs) (λ _. accepted_by (after l s c) cs) e

  -- all accepted: where the calls fit as one, and each is good in itself
  pub all_accepted : (cs : List BuilderCall) (s : BuilderState) → FitsAsOne l s (growth_of_all cs) (ids_of cs) → AllGood cs → accepted s (map (asked l) cs) ≡ cs
  all_accepted [] s f g = refl
  all_accepted (c ∷ cs) s f g =
      let own : FitsAsOne l s (growth_of c) (id_of c) = record {
        limits = ((limits_sum s.plan (growth_of c) (growth_of_all cs) l).0 f.limits).0;
        areas = ((past_sum s.plan (growth_of c) (growth_of_all cs) (lengths s)).0 f.areas).0;
        new = own_new s.words s.plan.nodes c (ids_of cs) f.new;
      } in
      let e = (call_exactly l s c).1 (own, g.0) in
      taken s c cs e ∙ ap (λ (ds : List BuilderCall). c ∷ ds) (all_accepted cs (after l s c) ((fit_after l s c (growth_of_all cs) (ids_of cs) e).0 f) g.1)

  -- … and only there
  fewer : (cs : List BuilderCall) (s : BuilderState) → length (accepted_by s cs) ≤ length cs
  fewer [] s = omega arith
  fewer (c ∷ cs) s = go (answer l s c) (fewer cs (after l s c))
    where
      go : (a : Answer) → length (accepted_by (after l s c) cs) ≤ length cs
          → length (outcome a (c ∷ accepted_by (after l s c) cs) (λ _. accepted_by (after l s c) cs)) ≤ length (c ∷ cs)
      go (Ok _) h = omega arith
      go (Err r) h = omega arith

  pub accepted_fit : (cs : List BuilderCall) (s : BuilderState) → accepted s (map (asked l) cs) ≡ cs → FitsAsOne l s (growth_of_all cs) (ids_of cs) × AllGood cs
  accepted_fit [] s q = (record { limits = limits_none; areas = refl; new = refl }, tt)
    where
      limits_none : NoneHolds (limit_tests l s.plan no_growth)
      limits_none = (refl, tt)
  accepted_fit (c ∷ cs) s q = go (answer l s c) refl (accepted_fit cs (after l s c))
    where
      t : BuilderState
      t = after l s c

      go : (a : Answer) → answer l s c ≡ a → (accepted_by t cs ≡ cs → FitsAsOne l t (growth_of_all cs) (ids_of cs) × AllGood cs)
          → FitsAsOne l s (growth_of_all (c ∷ cs)) (ids_of (c ∷ cs)) × AllGood (c ∷ cs)
      go (Ok _) e ih =
          let rest = ih (tail_same c (accepted_by t cs) cs (sym (taken s c cs e) ∙ q)) in
          ((fit_after l s c (growth_of_all cs) (ids_of cs) e).1 rest.0, (((call_exactly l s c).0 e).1, rest.1))
      go (Err r) e ih =
          let k : accepted_by t cs ≡ c ∷ cs = sym (outcome_refused (answer l s c) (c ∷ accepted_by t cs) (λ _. accepted_by t cs) r e) ∙ q in
          let h : length (accepted_by t cs) ≡ length (c ∷ cs) = ap length k in
          absurd (omega (arith, fewer cs t, h))
