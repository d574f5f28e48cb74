-- The tests 5 and 2 of each call, without the counts that it does not use. Assumes nothing.
use mathlib.Core.Path.{◌≡◌, refl, ap, ◌∙◌}
use mathlib.Core.Bool.{◌||◌, or-false}
use Prim.Native.Nat.{ℕ, ◌+◌}
use native.Mathlib.Nat.{mul-one}
use lib.Dec.{ltb}
use Rattle.node.specs.Sizes.{node_float_count, node_word_count}
use Rattle.plan.specs.declared.Plan.{Plan}
use Rattle.plan.specs.declared.Limits.{Limits}
use Rattle.plan.specs.Areas.{shorter}
use Rattle.builder.specs.Growth.{over, grows_over, grows_past, buffers_growth, coefficients_growth, node_growth, step_growth, finish_growth}
use Rattle.builder.specs.Calls.{lent_indices, lent_coefficients, lent_nodes, lent_steps}
use Rattle.std.specs.Prelude.{Some}

-- an area of `length` places that n more than `count` reach past
past : (length count n : ℕ) → shorter length (count + n) 1 ≡ over length count (Some n)
past length count n = ap (ltb length) (mul-one (count + n))

module _ (l : Limits) (p : Plan) (n len : ℕ) where
  pub buffers_over : grows_over l p (buffers_growth n) ≡ (over l.buffers p.buffers (Some n) || over l.indices p.indices (Some n))
  buffers_over = or-false _ ∙ or-false _ ∙ or-false _

  pub buffers_past : grows_past p (buffers_growth n) (lent_indices len) ≡ over len p.indices (Some n)
  buffers_past = or-false _ ∙ or-false _ ∙ or-false _ ∙ or-false _ ∙ past len p.indices n

  pub coefficients_over : grows_over l p (coefficients_growth n) ≡ over l.coefficients p.coefficients (Some n)
  coefficients_over = or-false _ ∙ or-false _

  pub coefficients_past : grows_past p (coefficients_growth n) (lent_coefficients len) ≡ over len p.coefficients (Some n)
  coefficients_past = or-false _ ∙ or-false _ ∙ or-false _ ∙ past len p.coefficients n

  pub node_over : grows_over l p node_growth ≡ over l.nodes p.nodes (Some 1)
  node_over = or-false _

  pub node_past : (words : ℕ) → grows_past p node_growth (lent_nodes len words) ≡ (shorter len (p.nodes + 1) node_float_count || shorter words (p.nodes + 1) node_word_count)
  node_past words = or-false _

  pub step_over_lem : grows_over l p (step_growth n) ≡ over l.steps p.steps (Some 1)
  step_over_lem = refl

  pub step_past : grows_past p (step_growth n) (lent_steps len) ≡ over len p.words (Some n)
  step_past = past len p.words n

  pub finish_over : grows_over l p finish_growth ≡ over l.buffers p.buffers (Some 0)
  finish_over = or-false _ ∙ or-false _ ∙ or-false _ ∙ or-false _
