-- An insert as a list of builder calls: what it adds, its ids and its ramp are theirs, and where none of its first three tests holds, it is accepted exactly where
-- each of them is. Assumes nothing.
use Prim.Native.Nat.{ℕ, zero, suc, ◌+◌, ◌-◌, ◌*◌, ◌≤◌, min}
use native.Mathlib.Omega.{arith}
use mathlib.Core.Path.{◌≡◌, refl, sym, ap, ◌∙◌, subst, transport}
use mathlib.Core.Logic.{◌↔◌}
use mathlib.Core.Bool.{Bool, true, false, cond}
use mathlib.Core.List.{List, [], ◌∷◌, ◌++◌, map, append_assoc}
use lib.Count.{ones, ones_in}
use lib.Dec.{ltb}
use lib.ListN.{length, replicate, length-set, length-replicate}
use lib.Ieee.{Float}
use borrow.Author.Tests.{le-ltb}
use Rattle.refusal.specs.Tests.{NoneHolds}
use Rattle.refusal.specs.declared.Refusal.{Refusal}
use Rattle.refusal.proofs.Laws.{outcome_accepted, outcome_refused, accepted_none, none_accepted}
use Rattle.node.specs.Sizes.{max_values, ramp_too_long}
use Rattle.node.specs.Nodes.{silence}
use Rattle.format.specs.Floats.{one32}
use Rattle.format.specs.Formats.{channels}
use Rattle.format.proofs.Labels.{channels_le}
use Rattle.plan.specs.declared.Plan.{Plan}
use Rattle.plan.specs.declared.Limits.{Limits}
use Rattle.plan.specs.declared.Span.{Span}
use Rattle.plan.specs.Words.{clear_map, output_map, span, step_of, read_at}
use Rattle.plan.specs.Check.{too_wide}
use Rattle.builder.specs.declared.Growth.{Growth}
use Rattle.builder.specs.Growth.{grown, buffers_growth, node_growth, step_growth}
use Rattle.builder.specs.Calls.{too_many}
use Rattle.builder.specs.Built.{BuilderCall, buffers, coefficients, node, step, asked, BuilderState, built, accepted}
use Rattle.builder.specs.Sums.{sum, growth_of_all, ids_of, lengths, FitsAsOne, Good, AllGood}
use Rattle.builder.proofs.Accepted.{really_grown, all_accepted, accepted_fit}
use Rattle.insert.specs.declared.InsertPoint.{InsertPoint}
use Rattle.insert.specs.Wiring.{gain_calls, patches, send_calls, diagonal, identity, dry_gain, wet_gain, raw, ret, dry, wet, out, weights, dry_weights, switch_calls, out_calls, sum_calls, sent_calls, return_calls, insert_calls}
use Rattle.insert.specs.Insert.{insert_growth, insert_ids, insert_first, insert_tests, insert_answer, answer_to, inserted}
use Rattle.std.specs.Prelude.{Ok, Err, Some}

-- each node of a list of calls has this ramp
abbrev pub RampIs : ℕ → List BuilderCall → Type 0
RampIs r [] = Unit {0}
RampIs r (buffers n ∷ cs) = RampIs r cs
RampIs r (coefficients xs ∷ cs) = RampIs r cs
RampIs r (node id xs ramp safe ∷ cs) = (ramp ≡ r) × RampIs r cs
RampIs r (step w ∷ cs) = RampIs r cs

-- ---- the identity fold

length_diagonal : (n k : ℕ) → length (diagonal n k) ≡ n * n
length_diagonal n zero = length-replicate (n * n) silence
length_diagonal n (suc k) = length-set (diagonal n k) (k * n + k) one32 ∙ length_diagonal n k

length_identity : (n : ℕ) → length (identity n) ≡ n * n
length_identity n = length_diagonal n n

-- ---- the patches, in front of other calls

-- a growth, with other steps and words
abbrev with_steps : Growth → ℕ → ℕ → Growth
with_steps g steps words =
    record { buffers = g.buffers; indices = g.indices; coefficients = g.coefficients; nodes = g.nodes; steps = Some steps; words = Some words }

module _ (input : ℕ) (cs : List BuilderCall) where
  abbrev patched : ℕ → ℕ → ℕ → List BuilderCall
  patched channel dst n = patches input channel dst n ++ cs

  patches_grow : (g : Growth) (k m channel dst n : ℕ) → growth_of_all cs ≡ with_steps g k m → growth_of_all (patched channel dst n) ≡ with_steps g (n + k) (4 * n + m)
  unfolding ones ones_in
  patches_grow g k m channel dst zero e = e ∙ λ i. with_steps g (steps i) (words i)
    where
      steps : k ≡ 0 + k
      steps = omega arith

      words : m ≡ 4 * 0 + m
      words = omega arith
  patches_grow g k m channel dst (suc n) e = ap (sum (step_growth 4)) (patches_grow g k m (suc channel) (suc dst) n e) ∙ λ i. with_steps g (steps i) (words i)
    where
      steps : 1 + (n + k) ≡ suc n + k
      steps = omega arith

      words : 4 + (4 * n + m) ≡ 4 * suc n + m
      words = omega arith

  patches_ids : (channel dst n : ℕ) → ids_of (patched channel dst n) ≡ ids_of cs
  patches_ids channel dst zero = refl
  patches_ids channel dst (suc n) = patches_ids (suc channel) (suc dst) n

  patches_ramp : (r channel dst n : ℕ) → RampIs r cs → RampIs r (patched channel dst n)
  patches_ramp r channel dst zero f = f
  patches_ramp r channel dst (suc n) f = patches_ramp r (suc channel) (suc dst) n f

-- ---- lists of calls that are good in themselves

record GoodCalls : Type 0 where
  calls : List BuilderCall
  good : AllGood calls

good_join : (cs ds : List BuilderCall) → AllGood cs → AllGood ds → AllGood (cs ++ ds)
good_join [] ds g h = h
good_join (c ∷ cs) ds g h = (g.0, good_join cs ds g.1 h)

infixl 5 ◌then◌
abbrev ◌then◌ : GoodCalls → GoodCalls → GoodCalls
◌then◌ x y = record { calls = x.calls ++ y.calls; good = good_join x.calls y.calls x.good y.good }

few : (n : ℕ) (gain : Float) → n ≤ 12 → too_many (length (replicate n gain)) ≡ false
few n gain h = le-ltb max_values (length (replicate n gain)) (omega (arith, length-replicate n gain))

narrow : (n len : ℕ) → n ≤ 12 → ltb max_values (min len n) ≡ false
narrow n len h = le-ltb max_values (min len n) (omega arith)

module _ (ramp : ℕ) (r : ramp_too_long ramp ≡ false) where
  gain_good_lem : (id : ℕ) (gain : Float) (number : ℕ) (src dst : Span) → dst.len ≤ 12 → AllGood (gain_calls id gain ramp number src dst)
  unfolding read_at step_of ones ones_in too_wide
  gain_good_lem id gain number src dst h = ((few dst.len gain h, r, refl), (tt, ((refl, (narrow dst.len src.len h, tt)), tt)))

  send_good_lem : (id number : ℕ) (src dst weights : Span) → AllGood (send_calls id ramp number src dst weights)
  unfolding read_at step_of ones ones_in too_wide
  send_good_lem id number src dst weights = ((refl, r, refl), ((refl, (refl, tt)), tt))

patches_good : (input channel dst n : ℕ) → AllGood (patches input channel dst n)
unfolding read_at step_of ones ones_in too_wide
patches_good input channel dst zero = tt
patches_good input channel dst (suc n) = ((refl, (refl, tt)), patches_good input (suc channel) (suc dst) n)

output_good : (start len slot : ℕ) → Good (step (output_map ∷ start ∷ len ∷ slot ∷ []))
unfolding read_at step_of ones ones_in too_wide
output_good start len slot = (refl, (refl, tt))

clear_good : (start len : ℕ) → Good (step (clear_map ∷ start ∷ len ∷ []))
unfolding read_at step_of ones ones_in too_wide
clear_good start len = (refl, (refl, tt))

-- ---- an insert

module _ (p : Plan) (i : InsertPoint) where
  abbrev n : ℕ
  n = channels i.format

  -- what follows the patches
  abbrev summed : List BuilderCall
  summed = out_calls p i ++ sum_calls p i

  abbrev switched : List BuilderCall
  switched = switch_calls p i ++ summed

  abbrev pub returned : List BuilderCall
  returned = gain_calls i.ids.ret i.back.gain i.ramp (p.nodes + 1) (raw p i) (ret p i) ++ switched

  abbrev channels_in : List BuilderCall
  channels_in = patches (i.back.input - 1) (i.back.channel - 1) (p.buffers + n) n

  abbrev calls_by : Bool → List BuilderCall
  calls_by returns = sent_calls p i ++ cond returns (return_calls p i) []

  return_wired : return_calls p i ≡ buffers n ∷ (channels_in ++ returned)
  return_wired =
      let back = gain_calls i.ids.ret i.back.gain i.ramp (p.nodes + 1) (raw p i) (ret p i) in
      append_assoc (buffers n ∷ channels_in ++ back ++ switch_calls p i) (out_calls p i) (sum_calls p i)
      ∙ append_assoc (buffers n ∷ channels_in ++ back) (switch_calls p i) summed
      ∙ append_assoc (buffers n ∷ channels_in) back switched

  -- a law of its calls: without a return, and with one
  pub by_return : (P : Bool → List BuilderCall → Type 0) → P false (sent_calls p i) → P true (sent_calls p i ++ buffers n ∷ (channels_in ++ returned))
      → P i.returns (insert_calls p i)
  by_return P without with = go i.returns
    where
      go : (returns : Bool) → P returns (calls_by returns)
      go false = without
      go true = subst (λ (cs : List BuilderCall). P true (sent_calls p i ++ cs)) (sym return_wired) with

  -- n buffers and index entries, 1 node, 2 steps and 10 words; with a return 6n, 6n, n² coefficients, 6, n + 8 and 4n + 47
  pub insert_grows : growth_of_all (insert_calls p i) ≡ insert_growth i.returns n
  unfolding ones ones_in
  insert_grows =
      by_return (λ returns cs. growth_of_all cs ≡ insert_growth returns n) refl
      (ap (λ (g : Growth). sum node_growth (sum (buffers_growth n) (sum (step_growth 6) (sum (step_growth 4) (sum (buffers_growth n) g)))))
      (patches_grow (i.back.input - 1) returned (growth_of_all returned) 6 37 (i.back.channel - 1) (p.buffers + n) n refl)
      ∙ λ j. record { buffers = Some (runs j); indices = Some (runs j); coefficients = Some (length_identity n j); nodes = Some 6; steps = Some (steps j); words = Some (words j) })
    where
      runs : n + (n + (n + (n + (n + n)))) ≡ 6 * n
      runs = omega arith

      steps : 1 + (1 + (n + 6)) ≡ n + 8
      steps = omega arith

      words : 6 + (4 + (4 * n + 37)) ≡ 4 * n + 47
      words = omega arith

  pub insert_ids_lem : ids_of (insert_calls p i) ≡ insert_ids i.returns i.ids
  insert_ids_lem =
      by_return (λ returns cs. ids_of cs ≡ insert_ids returns i.ids) refl
      (ap (λ (l : List ℕ). i.ids.send ∷ l) (patches_ids (i.back.input - 1) returned (i.back.channel - 1) (p.buffers + n) n))

  pub insert_ramps : RampIs i.ramp (insert_calls p i)
  insert_ramps =
      by_return (λ _ cs. RampIs i.ramp cs) (refl, tt)
      (refl, patches_ramp (i.back.input - 1) returned i.ramp (i.back.channel - 1) (p.buffers + n) n (refl, (refl, (refl, (refl, (refl, tt))))))

  -- each call is good in itself exactly where the ramp is not too long
  module _ (r : ramp_too_long i.ramp ≡ false) where
    abbrev gain_good : (id : ℕ) (value : Float) (number : ℕ) (src : Span) (start : ℕ) → GoodCalls
    gain_good id value number src start =
        record {
          calls = gain_calls id value i.ramp number src (span start n);
          good = gain_good_lem i.ramp r id value number src (span start n) (channels_le i.format);
        }

    abbrev send_good : (id number : ℕ) (src dst weights : Span) → GoodCalls
    send_good id number src dst weights =
        record { calls = send_calls id i.ramp number src dst weights; good = send_good_lem i.ramp r id number src dst weights }

    abbrev patched_good : GoodCalls
    patched_good =
        record { calls = buffers n ∷ channels_in; good = (tt, patches_good (i.back.input - 1) (i.back.channel - 1) (p.buffers + n) n) }
        then gain_good i.ids.ret i.back.gain (p.nodes + 1) (raw p i) (ret p i).start

    abbrev switch_good : GoodCalls
    switch_good =
        gain_good i.ids.dry (dry_gain i.back.bypass) (p.nodes + 2) i.src (dry p i).start
        then gain_good i.ids.wet (wet_gain i.back.bypass) (p.nodes + 3) (ret p i) (wet p i).start

    abbrev out_good : GoodCalls
    out_good = record { calls = out_calls p i; good = (tt, (clear_good (out p i).start n, (tt, tt))) }

    abbrev sum_good : GoodCalls
    sum_good = send_good i.ids.dryin (p.nodes + 4) (dry p i) (out p i) (dry_weights p i) then send_good i.ids.wetin (p.nodes + 5) (wet p i) (out p i) (weights p i)

    abbrev sent_good : GoodCalls
    sent_good =
        gain_good i.ids.send i.gain p.nodes i.src p.indices
        then record { calls = step (output_map ∷ p.indices ∷ n ∷ i.slot ∷ []) ∷ []; good = (output_good p.indices n i.slot, tt) }

    return_good : (returns : Bool) → AllGood (cond returns (return_calls p i) [])
    return_good false = tt
    return_good true = (patched_good then switch_good then out_good then sum_good).good

    insert_good : AllGood (insert_calls p i)
    insert_good = (sent_good then record { calls = cond i.returns (return_calls p i) []; good = return_good i.returns }).good

  good_ramp : AllGood (insert_calls p i) → ramp_too_long i.ramp ≡ false
  good_ramp g = g.0.1

-- ---- its answer

module _ (l : Limits) (s : BuilderState) (i : InsertPoint) where
  abbrev calls : List BuilderCall
  calls = insert_calls s.plan i

  abbrev growth : Growth
  growth = insert_growth i.returns (channels i.format)

  -- the calls fit as one where the insert's growth and ids do
  fits : FitsAsOne l s growth (insert_ids i.returns i.ids) ≡ FitsAsOne l s (growth_of_all calls) (ids_of calls)
  fits = λ j. FitsAsOne l s (sym (insert_grows s.plan i) j) (sym (insert_ids_lem s.plan i) j)

  -- Given that none of 16, 18 and 4 holds, an insert is accepted exactly where every single call is.
  pub insert_exactly : NoneHolds (insert_first s.plan i) → (answer_to l s i ≡ Ok tt) ↔ (accepted s (map (asked l) calls) ≡ calls)
  unfolding insert_answer
  insert_exactly own = (
    λ e.
        let none = (accepted_none (insert_tests l s.plan i (lengths s) s.words) (Ok tt) e).0.1.1.1 in
        all_accepted l calls s
        (transport fits (record { limits = (none.0, tt); areas = none.1.0; new = none.1.1.0 }))
        (insert_good s.plan i none.1.1.1.0),
    λ q.
        let h = accepted_fit l calls s q in
        let f = transport (sym fits) h.0 in
        none_accepted (insert_tests l s.plan i (lengths s) s.words)
        (own.0, (own.1.0, (own.1.1.0, (f.limits.0, (f.areas, (f.new, (good_ramp s.plan i h.1, tt))))))),
  )

  pub insert_accepted : answer_to l s i ≡ Ok tt → accepted s (map (asked l) calls) ≡ calls
  unfolding insert_answer
  insert_accepted e =
      let none = (accepted_none (insert_tests l s.plan i (lengths s) s.words) (Ok tt) e).0 in
      (insert_exactly (none.0, (none.1.0, (none.1.1.0, tt)))).0 e

  -- all of its calls, or nothing
  pub inserted_all : answer_to l s i ≡ Ok tt → inserted l s i ≡ built s (map (asked l) calls)
  inserted_all e = outcome_accepted (answer_to l s i) (built s (map (asked l) calls)) _ e

  pub insert_refused : (r : Refusal) → answer_to l s i ≡ Err r → inserted l s i ≡ s
  insert_refused r e = outcome_refused (answer_to l s i) (built s (map (asked l) calls)) (λ _. s) r e

  pub insert_plan : answer_to l s i ≡ Ok tt → (inserted l s i).plan ≡ grown s.plan growth
  insert_plan e =
      ap (λ (t : BuilderState). t.plan) (inserted_all e)
      ∙ really_grown (map (asked l) calls) s
      ∙ ap (λ (cs : List BuilderCall). grown s.plan (growth_of_all cs)) (insert_accepted e)
      ∙ ap (grown s.plan) (insert_grows s.plan i)
