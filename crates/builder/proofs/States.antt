-- What a call leaves that an insert makes, from what its function promises of the plan and of each area, as one state. Assumes nothing.
use mathlib.Core.Path.{◌≡◌}
use mathlib.Core.List.{List}
use Prim.Native.Nat.{ℕ}
use lib.ListN.{length}
use lib.Ieee.{Float}
use Rattle.plan.specs.declared.Plan.{Plan}
use Rattle.plan.specs.declared.Limits.{Limits}
use Rattle.builder.specs.Growth.{buffers_growth, node_growth, step_growth}
use Rattle.builder.specs.Calls.{plan_after, buffers_answer, buffers_indices, node_answer, node_floats_area, node_words_area, record_length, step_answer, step_area}
use Rattle.builder.specs.Built.{buffers, node, step, builder_state, after}

module _ (l : Limits) (p : Plan) (ix : List ℕ) (co fl : List Float) (wo st : List ℕ) {q : Plan} where
  pub buffers_state : (n : ℕ) {ix' : List ℕ}
      → q ≡ plan_after (buffers_answer l p n (length ix)) p (buffers_growth n)
      → ix' ≡ buffers_indices l p n ix
      → builder_state q ix' co fl wo st ≡ after l (builder_state p ix co fl wo st) (buffers n)
  buffers_state n a b = λ i. builder_state (a i) (b i) co fl wo st

  pub node_state : (id : ℕ) (xs : List Float) (ramp safe : ℕ) {fl' : List Float} {wo' : List ℕ}
      → q ≡ plan_after (node_answer l p id (length xs) ramp safe (length fl) wo) p node_growth
      → fl' ≡ node_floats_area l p id xs ramp safe fl wo
      → wo' ≡ node_words_area l p id xs ramp safe fl wo
      → builder_state q ix co fl' wo' st ≡ after l (builder_state p ix co fl wo st) (node id xs ramp safe)
  node_state id xs ramp safe a b c = λ i. builder_state (a i) ix co (b i) (c i) st

  pub step_state : (w : List ℕ) {st' : List ℕ}
      → q ≡ plan_after (step_answer l p w (length st)) p (step_growth (record_length w))
      → st' ≡ step_area l p w st
      → builder_state q ix co fl wo st' ≡ after l (builder_state p ix co fl wo st) (step w)
  step_state w a b = λ i. builder_state (a i) ix co fl wo (b i)
