-- The two ways out of the call, from its answer: what it hands back and leaves; and that an accepted insert has room for its numbers. Assumes nothing.
use mathlib.Core.Path.{◌≡◌, refl, sym, ap, subst, ◌∙◌}
use mathlib.Core.Bool.{Bool, true, false, ◌||◌, ◌&&◌, cond}
use mathlib.Core.List.{List, [], ◌++◌, map}
use Prim.Native.Nat.{ℕ, zero, suc, ◌+◌, ◌-◌, ◌*◌, ◌≤◌}
use native.Mathlib.Omega.{arith}
use lib.Dec.{eqb, ltb}
use borrow.Author.Tests.{ltb-false, eqb-false}
use Rattle.std.proofs.lemmas.Bool.{or_parts}
use Rattle.refusal.specs.declared.Refusal.{Refusal}
use Rattle.refusal.proofs.Laws.{accepted_none, outcome_accepted}
use Rattle.format.specs.Formats.{channels}
use Rattle.plan.specs.declared.Plan.{Plan}
use Rattle.plan.specs.declared.Span.{Span}
use Rattle.plan.specs.Limits.{unit_limits}
use Rattle.builder.specs.declared.Growth.{Growth}
use Rattle.builder.specs.declared.Lengths.{Lengths}
use Rattle.builder.specs.Growth.{over, grows_over}
use Rattle.builder.specs.Built.{asked, BuilderState, built}
use Rattle.insert.specs.declared.InsertPoint.{InsertPoint}
use Rattle.insert.specs.Wiring.{out, sent_calls, return_calls, insert_calls, handed_on}
use Rattle.insert.specs.Insert.{return_growth, insert_growth, max_channel, return_bad, insert_tests, insert_answer, answer_to, insert_span, inserted}
use Rattle.insert_calls.specs.Loops.{wired, SendFits, ReturnFits}
use Rattle.insert_calls.proofs.Parts.{wired_then}
use Rattle.std.specs.Prelude.{Ok, Err}

-- ---- number 5, count by count

record Fit (p : Plan) (g : Growth) : Type 0 where
  buffers : over unit_limits.buffers p.buffers g.buffers ≡ false
  indices : over unit_limits.indices p.indices g.indices ≡ false
  coefficients : over unit_limits.coefficients p.coefficients g.coefficients ≡ false
  nodes : over unit_limits.nodes p.nodes g.nodes ≡ false

fit : (p : Plan) (g : Growth) → grows_over unit_limits p g ≡ false → Fit p g
fit p g e =
    let buffers = over unit_limits.buffers p.buffers g.buffers in
    let indices = over unit_limits.indices p.indices g.indices in
    let weights = over unit_limits.coefficients p.coefficients g.coefficients in
    let nodes = over unit_limits.nodes p.nodes g.nodes in
    let d = or_parts (buffers || indices || weights || nodes) (over unit_limits.steps p.steps g.steps) e in
    let c = or_parts (buffers || indices || weights) nodes d.0 in
    let b = or_parts (buffers || indices) weights c.0 in
    let a = or_parts buffers indices b.0 in
    record { buffers = a.0; indices = a.1; coefficients = b.1; nodes = c.1 }

module _ (s : BuilderState) (i : InsertPoint) where
  abbrev n : ℕ
  n = channels i.format

  module _ (e : answer_to unit_limits s i ≡ Ok tt) where
    -- by the flag
    made : {back : Bool} {span : Span} {t : BuilderState} → i.returns ≡ back → span ≡ cond back (out s.plan i) i.src
        → t ≡ wired s (sent_calls s.plan i ++ cond back (return_calls s.plan i) []) → (Ok span ≡ insert_span unit_limits s i) × (t ≡ inserted unit_limits s i)
    made f h g = (
      ap Ok (h ∙ ap (λ (b : Bool). cond b (out s.plan i) i.src) (sym f))
          ∙ sym (outcome_accepted (answer_to unit_limits s i) (Ok (handed_on s.plan i)) Err e),
      g
          ∙ ap (λ (b : Bool). wired s (sent_calls s.plan i ++ cond b (return_calls s.plan i) [])) (sym f)
          ∙ sym (outcome_accepted (answer_to unit_limits s i) (built s (map (asked unit_limits) (insert_calls s.plan i))) (λ _. s) e),
    )

    pub sent_out : i.returns ≡ false → {t : BuilderState} → t ≡ wired s (sent_calls s.plan i)
        → (Ok i.src ≡ insert_span unit_limits s i) × (t ≡ inserted unit_limits s i)
    sent_out f g = made f refl (wired_then s (sent_calls s.plan i) [] g refl)

    pub returned_out : i.returns ≡ true → {span : Span} {t u : BuilderState} → span ≡ out s.plan i → t ≡ wired s (sent_calls s.plan i)
        → u ≡ wired t (return_calls s.plan i) → (Ok span ≡ insert_span unit_limits s i) × (u ≡ inserted unit_limits s i)
    returned_out f h g k = made f h (wired_then s (sent_calls s.plan i) (return_calls s.plan i) g k)

-- ---- room: what an accepted insert says of the plan, whatever it was lent
module _ (p : Plan) (i : InsertPoint) (lent : Lengths) (words : List ℕ) (e : insert_answer unit_limits p i lent words ≡ Ok tt) where
  abbrev width : ℕ
  width = channels i.format

  five : grows_over unit_limits p (insert_growth i.returns width) ≡ false
  unfolding insert_answer
  five = (accepted_none (insert_tests unit_limits p i lent words) (Ok tt) e).0.1.1.1.0

  eighteen : (i.returns && return_bad width i.back) ≡ false
  unfolding insert_answer
  eighteen = (accepted_none (insert_tests unit_limits p i lent words) (Ok tt) e).0.1.0

  fits : Fit p (insert_growth i.returns width)
  fits = fit p (insert_growth i.returns width) five

  pub send_fits : SendFits p width
  send_fits = go i.returns fits
    where
      go : (b : Bool) → Fit p (insert_growth b width) → SendFits p width
      go true f =
          let indices = ltb-false unit_limits.indices (p.indices + 6 * width) f.indices in
          let nodes = ltb-false unit_limits.nodes (p.nodes + 6) f.nodes in
          record { indices = omega arith; nodes = omega arith }
      go false f =
          record {
            indices = ltb-false unit_limits.indices (p.indices + width) f.indices;
            nodes = ltb-false unit_limits.nodes (p.nodes + 1) f.nodes;
          }

  pub return_fits : i.returns ≡ true → ReturnFits p i
  return_fits h =
      let f : Fit p (return_growth width) = subst (λ (b : Bool). Fit p (insert_growth b width)) h fits in
      let none = eqb i.back.input 0 || eqb i.back.channel 0 in
      let r = or_parts none (ltb max_channel (i.back.channel + width - 1)) (ap (λ (b : Bool). b && return_bad width i.back) (sym h) ∙ eighteen) in
      let z = or_parts (eqb i.back.input 0) (eqb i.back.channel 0) r.0 in
      record {
        buffers = ltb-false unit_limits.buffers (p.buffers + 6 * width) f.buffers;
        indices = ltb-false unit_limits.indices (p.indices + 6 * width) f.indices;
        coefficients = ltb-false unit_limits.coefficients (p.coefficients + width * width) f.coefficients;
        nodes = ltb-false unit_limits.nodes (p.nodes + 6) f.nodes;
        input = above i.back.input (eqb-false i.back.input 0 z.0);
        first = above i.back.channel (eqb-false i.back.channel 0 z.1);
        last = ltb-false max_channel (i.back.channel + width - 1) r.1;
      }
    where
      above : (k : ℕ) → (k ≡ 0 → ⊥) → 1 ≤ k
      above zero h = absurd (h refl)
      above (suc k) h = omega arith
