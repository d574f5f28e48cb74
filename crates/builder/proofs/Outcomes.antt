-- What a call leaves, by its answer: the grown record and its writes where it is accepted, all as it was where it is refused.
-- Assumes nothing.
use mathlib.Core.Path.{◌≡◌, ap}
use mathlib.Core.List.{List}
use Prim.Native.Nat.{ℕ, ◌*◌}
use lib.ListN.{length, take, replicate}
use lib.Seq.{sets}
use lib.Ieee.{Float}
use Rattle.refusal.specs.declared.Refusal.{Refusal}
use Rattle.refusal.proofs.Laws.{outcome_accepted, refused_keeps}
use Rattle.node.specs.Nodes.{silence, new_node}
use Rattle.node.specs.Areas.{stored_floats, stored_words}
use Rattle.plan.specs.declared.Plan.{Plan}
use Rattle.plan.specs.declared.Limits.{Limits}
use Rattle.builder.specs.Growth.{grown}
use Rattle.builder.specs.declared.Growth.{Growth}
use Rattle.builder.specs.Calls.{plan_after, numbers_from, buffers_answer, buffers_indices, coefficients_answer, coefficients_area, node_answer, node_floats_area, node_words_area, record_length, step_answer, step_area, finish_answer, finish_area}
use Rattle.refusal.specs.Tests.{Answer}
use Rattle.std.specs.Prelude.{Ok, Err}

module _ {answer : Answer} (p : Plan) (g : Growth) where
  pub plan_refused : {r : Refusal} → answer ≡ Err r → plan_after answer p g ≡ p
  plan_refused e = ap (λ (a : Answer). plan_after a p g) e

  pub plan_accepted : answer ≡ Ok tt → plan_after answer p g ≡ grown p g
  plan_accepted e = ap (λ (a : Answer). plan_after a p g) e

module _ (l : Limits) (p : Plan) where
  module _ (n : ℕ) (area : List ℕ) where
    pub buffers_refused : {r : Refusal} → buffers_answer l p n (length area) ≡ Err r → buffers_indices l p n area ≡ area
    unfolding buffers_indices
    buffers_refused {r} e = refused_keeps (buffers_answer l p n (length area)) (sets area p.indices (numbers_from p.buffers n)) area r e

    pub buffers_accepted : buffers_answer l p n (length area) ≡ Ok tt → buffers_indices l p n area ≡ sets area p.indices (numbers_from p.buffers n)
    unfolding buffers_indices
    buffers_accepted e = outcome_accepted (buffers_answer l p n (length area)) (sets area p.indices (numbers_from p.buffers n)) (λ _. area) e

  module _ (values area : List Float) where
    pub coefficients_refused : {r : Refusal} → coefficients_answer l p (length values) (length area) ≡ Err r → coefficients_area l p values area ≡ area
    unfolding coefficients_area
    coefficients_refused {r} e = refused_keeps (coefficients_answer l p (length values) (length area)) (sets area p.coefficients values) area r e

    pub coefficients_accepted : coefficients_answer l p (length values) (length area) ≡ Ok tt → coefficients_area l p values area ≡ sets area p.coefficients values
    unfolding coefficients_area
    coefficients_accepted e = outcome_accepted (coefficients_answer l p (length values) (length area)) (sets area p.coefficients values) (λ _. area) e

  module _ (id : ℕ) (values : List Float) (ramp safe : ℕ) (floats : List Float) (words : List ℕ) where
    abbrev answered : Answer
    answered = node_answer l p id (length values) ramp safe (length floats) words

    pub floats_refused : {r : Refusal} → answered ≡ Err r → node_floats_area l p id values ramp safe floats words ≡ floats
    unfolding node_floats_area
    floats_refused {r} e = refused_keeps answered (stored_floats floats p.nodes (new_node id values ramp safe)) floats r e

    pub floats_accepted : answered ≡ Ok tt → node_floats_area l p id values ramp safe floats words ≡ stored_floats floats p.nodes (new_node id values ramp safe)
    unfolding node_floats_area
    floats_accepted e = outcome_accepted answered (stored_floats floats p.nodes (new_node id values ramp safe)) (λ _. floats) e

    pub words_refused : {r : Refusal} → answered ≡ Err r → node_words_area l p id values ramp safe floats words ≡ words
    unfolding node_words_area
    words_refused {r} e = refused_keeps answered (stored_words words p.nodes (new_node id values ramp safe)) words r e

    pub words_accepted : answered ≡ Ok tt → node_words_area l p id values ramp safe floats words ≡ stored_words words p.nodes (new_node id values ramp safe)
    unfolding node_words_area
    words_accepted e = outcome_accepted answered (stored_words words p.nodes (new_node id values ramp safe)) (λ _. words) e

  module _ (w area : List ℕ) where
    pub step_refused : {r : Refusal} → step_answer l p w (length area) ≡ Err r → step_area l p w area ≡ area
    unfolding step_area
    step_refused {r} e = refused_keeps (step_answer l p w (length area)) (sets area p.words (take (record_length w) w)) area r e

    pub step_accepted : step_answer l p w (length area) ≡ Ok tt → step_area l p w area ≡ sets area p.words (take (record_length w) w)
    unfolding step_area
    step_accepted e = outcome_accepted (step_answer l p w (length area)) (sets area p.words (take (record_length w) w)) (λ _. area) e

  module _ (area : List Float) where
    pub finish_refused : {r : Refusal} → finish_answer l p (length area) ≡ Err r → finish_area l p area ≡ area
    unfolding finish_area
    finish_refused {r} e = refused_keeps (finish_answer l p (length area)) (sets area 0 (replicate (p.buffers * p.block) silence)) area r e

    pub finish_accepted : finish_answer l p (length area) ≡ Ok tt → finish_area l p area ≡ sets area 0 (replicate (p.buffers * p.block) silence)
    unfolding finish_area
    finish_accepted e = outcome_accepted (finish_answer l p (length area)) (sets area 0 (replicate (p.buffers * p.block) silence)) (λ _. area) e
