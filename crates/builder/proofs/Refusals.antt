-- A refused call changes nothing: neither the record nor an area. Assumes nothing.
use mathlib.Core.Path.{◌≡◌}
use Rattle.refusal.specs.declared.Refusal.{Refusal}
use lib.ListN.{length}
use Rattle.plan.specs.declared.Limits.{Limits}
use Rattle.builder.specs.Growth.{buffers_growth, coefficients_growth, node_growth, step_growth}
use Rattle.builder.specs.Calls.{record_length}
use Rattle.builder.specs.Built.{BuilderCall, buffers, coefficients, node, step, BuilderState, answer, after}
use Rattle.builder.proofs.Outcomes.{plan_refused, buffers_refused, coefficients_refused, floats_refused, words_refused, step_refused}
use Rattle.std.specs.Prelude.{Err}

pub refused_nothing : (l : Limits) (s : BuilderState) (c : BuilderCall) (r : Refusal) → answer l s c ≡ Err r → after l s c ≡ s
refused_nothing l s (buffers n) r e =
    rw (plan_refused s.plan (buffers_growth n) e, buffers_refused l s.plan n s.indices e)
refused_nothing l s (coefficients xs) r e =
    rw (plan_refused s.plan (coefficients_growth (length xs)) e, coefficients_refused l s.plan xs s.coefficients e)
refused_nothing l s (node id xs ramp safe) r e =
    rw (plan_refused s.plan node_growth e, floats_refused l s.plan id xs ramp safe s.floats s.words e, words_refused l s.plan id xs ramp safe s.floats s.words e)
refused_nothing l s (step w) r e =
    rw (plan_refused s.plan (step_growth (record_length w)) e, step_refused l s.plan w s.steps e)
