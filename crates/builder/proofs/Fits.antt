-- What an accepted call says of the counts and the areas. Assumes nothing.
use mathlib.Core.Path.{◌≡◌, sym, ap, ◌∙◌}
use mathlib.Core.Bool.{false, true≢false}
use mathlib.Core.List.{List, [], ◌∷◌}
use Prim.Native.Nat.{ℕ, ◌+◌, ◌*◌, ◌<◌, ◌≤◌}
use native.Mathlib.Decide.{dec_lt}
use native.Mathlib.Omega.{arith}
use borrow.Author.Tests.{ltb-false}
use Rattle.std.proofs.lemmas.Bool.{or_parts}
use Rattle.refusal.specs.Tests.{test}
use Rattle.refusal.proofs.Laws.{accepted_none}
use lib.ListN.{length}
use Rattle.node.specs.Sizes.{max_values, node_float_count, node_word_count, max_ramp, max_safe}
use Rattle.plan.proofs.Words.{read_cut}
use Rattle.plan.specs.declared.Plan.{Plan}
use Rattle.plan.specs.declared.Limits.{Limits}
use Rattle.plan.specs.Limits.{max_block}
use Rattle.plan.specs.Words.{fields, read_at}
use Rattle.plan.specs.Areas.{shorter}
use Rattle.plan.specs.Check.{id_among}
use Rattle.builder.specs.Growth.{buffers_growth, coefficients_growth, node_growth, step_growth, finish_growth}
use Rattle.builder.specs.Calls.{lent_indices, buffers_tests, buffers_answer, lent_coefficients, coefficients_tests, coefficients_answer, lent_nodes, node_own, node_tests, node_answer, record_length, lent_steps, unreadable, step_own, step_call_tests, step_answer, finish_tests, finish_answer}
use Rattle.builder.proofs.Uses.{buffers_over, buffers_past, coefficients_over, coefficients_past, node_over, node_past, step_over_lem, step_past, finish_over}
use Rattle.builder.proofs.Limits.{limits_passed, growth_passed}
use Rattle.refusal.specs.declared.Reason.TheVariants.{ShortArea}
use Rattle.std.specs.Prelude.{Ok}

pub record BuffersFit (l : Limits) (p : Plan) (n len : ℕ) : Type 0 where
  pub buffers : p.buffers + n ≤ l.buffers
  pub indices : p.indices + n ≤ l.indices
  pub area : p.indices + n ≤ len

pub buffers_fit : (l : Limits) (p : Plan) (n len : ℕ) → buffers_answer l p n len ≡ Ok tt → BuffersFit l p n len
unfolding buffers_answer
buffers_fit l p n len e =
    let t = growth_passed l p (buffers_growth n) (lent_indices len) [] (accepted_none (buffers_tests l p n len) (Ok tt) e).0 in
    let o = or_parts _ _ (sym (buffers_over l p n len) ∙ t.0) in
    record { buffers = ltb-false _ _ o.0; indices = ltb-false _ _ o.1; area = ltb-false _ _ (sym (buffers_past l p n len) ∙ t.1.0) }

pub record CoefficientsFit (l : Limits) (p : Plan) (n len : ℕ) : Type 0 where
  pub coefficients : p.coefficients + n ≤ l.coefficients
  pub area : p.coefficients + n ≤ len

pub coefficients_fit : (l : Limits) (p : Plan) (n len : ℕ) → coefficients_answer l p n len ≡ Ok tt → CoefficientsFit l p n len
unfolding coefficients_answer
coefficients_fit l p n len e =
    let t = growth_passed l p (coefficients_growth n) (lent_coefficients len) [] (accepted_none (coefficients_tests l p n len) (Ok tt) e).0 in
    record {
      coefficients = ltb-false _ _ (sym (coefficients_over l p n len) ∙ t.0);
      area = ltb-false _ _ (sym (coefficients_past l p n len) ∙ t.1.0);
    }

pub record NodeFits (l : Limits) (p : Plan) (i n r s f : ℕ) (w : List ℕ) : Type 0 where
  pub nodes : p.nodes + 1 ≤ l.nodes
  pub floats : (p.nodes + 1) * node_float_count ≤ f
  pub words : (p.nodes + 1) * node_word_count ≤ length w
  pub values : n ≤ max_values
  pub id : id_among w p.nodes i ≡ false
  pub ramp : r ≤ max_ramp
  pub safe : s ≤ max_safe

pub node_fits : (l : Limits) (p : Plan) (id n ramp safe floats : ℕ) (words : List ℕ) → node_answer l p id n ramp safe floats words ≡ Ok tt
    → NodeFits l p id n ramp safe floats words
unfolding node_answer
node_fits l p id n ramp safe floats words e =
    let t = growth_passed l p node_growth (lent_nodes floats (length words)) (node_own p id n ramp safe words) (accepted_none (node_tests l p id n ramp safe floats words) (Ok tt) e).0 in
    let s = or_parts _ _ (sym (node_past l p n floats (length words)) ∙ t.1.0) in
    record {
      nodes = ltb-false _ _ (sym (node_over l p n floats) ∙ t.0);
      floats = ltb-false _ _ s.0;
      words = ltb-false _ _ s.1;
      values = ltb-false _ _ t.1.1.0;
      id = t.1.1.1.0;
      ramp = ltb-false _ _ t.1.1.1.1.0;
      safe = ltb-false _ _ t.1.1.1.1.1.0;
    }

pub record FinishFits (l : Limits) (p : Plan) (len : ℕ) : Type 0 where
  pub low : 1 ≤ p.block
  pub high : p.block ≤ max_block
  pub buffers : p.buffers ≤ l.buffers
  pub area : p.buffers * p.block ≤ len

pub finish_fits : (l : Limits) (p : Plan) (len : ℕ) → finish_answer l p len ≡ Ok tt → FinishFits l p len
unfolding finish_answer
finish_fits l p len e =
    let n = (accepted_none (finish_tests l p len) (Ok tt) e).0 in
    let t = limits_passed l p finish_growth (test ShortArea (shorter len p.buffers p.block) ∷ []) n.1 in
    let b = or_parts _ _ n.0 in
    let o : p.buffers + 0 ≤ l.buffers = ltb-false _ _ (sym (finish_over l p 0 len) ∙ t.0) in
    record { low = ltb-false _ _ b.0; high = ltb-false _ _ b.1; buffers = omega arith; area = ltb-false _ _ t.1.0 }

-- a record that can be read has all of its words
pub record_whole : (w : List ℕ) → unreadable (read_at w 0) ≡ false → record_length w ≤ length w
record_whole [] e = omega arith
record_whole (map ∷ ws) e = go (dec_lt (length (map ∷ ws)) (0 + (1 + fields map)))
  where
    go : Dec (length (map ∷ ws) < 0 + (1 + fields map)) → 1 + fields map ≤ length (map ∷ ws)
    go (yes h) = absurd (true≢false (sym (ap unreadable (read_cut (map ∷ ws) 0 (omega arith) h)) ∙ e))
    go (no h) = omega arith

pub record StepFits (l : Limits) (p : Plan) (w : List ℕ) (len : ℕ) : Type 0 where
  pub steps : p.steps + 1 ≤ l.steps
  pub area : p.words + record_length w ≤ len
  pub readable : unreadable (read_at w 0) ≡ false
  pub whole : record_length w ≤ length w

pub step_fits : (l : Limits) (p : Plan) (w : List ℕ) (len : ℕ) → step_answer l p w len ≡ Ok tt → StepFits l p w len
unfolding step_answer
step_fits l p w len e =
    let t = growth_passed l p (step_growth (record_length w)) (lent_steps len) (step_own w) (accepted_none (step_call_tests l p w len) (Ok tt) e).0 in
    record {
      steps = ltb-false _ _ (sym (step_over_lem l p (record_length w) len) ∙ t.0);
      area = ltb-false _ _ (sym (step_past l p (record_length w) len) ∙ t.1.0);
      readable = t.1.1.0;
      whole = record_whole w t.1.1.0;
    }
