-- The calls that the functions make, from the numbers that they work out, are those of the insert. Assumes nothing.
use mathlib.Core.Path.{◌≡◌, refl}
use mathlib.Core.Bool.{Bool, true, false, not}
use mathlib.Core.List.{List, [], ◌∷◌, ◌++◌}
use Prim.Native.Nat.{ℕ, ◌+◌, ◌*◌, ◌-◌, ◌≤◌}
use native.Mathlib.Omega.{arith}
use lib.Ieee.{Float}
use Rattle.format.specs.Formats.{channels}
use Rattle.format.proofs.Labels.{channels_le}
use Rattle.plan.specs.declared.Plan.{Plan}
use Rattle.plan.specs.declared.Span.{Span}
use Rattle.plan.specs.Words.{output_map, clear_map, span}
use Rattle.builder.specs.Built.{buffers, coefficients, step}
use Rattle.insert.specs.declared.InsertPoint.{InsertPoint}
use Rattle.insert.specs.Wiring.{gain_calls, send_calls, patches, identity, fresh, dry_gain, wet_gain, dry_weights, sent_calls, patched_calls, switch_calls, out_calls, sum_calls}
use Rattle.insert_calls.specs.declared.wiring.OwnNode.{OwnNode}
use Rattle.insert_calls.specs.Own.{own_node, own_gain}

-- the wet path is heard where the dry one is not
pub wet_at_bypass : (bypass : Bool) → dry_gain (not bypass) ≡ wet_gain bypass
wet_at_bypass true = refl
wet_at_bypass false = refl

module _ (p : Plan) (i : InsertPoint) {n : ℕ} (en : n ≡ channels i.format) where
  pub few : n ≤ 12
  few = omega (arith, en, channels_le i.format)

  pub sent_calls_lem : gain_calls i.ids.send i.gain i.ramp p.nodes i.src (span p.indices n) ++ step (output_map ∷ p.indices ∷ n ∷ i.slot ∷ []) ∷ []
      ≡ sent_calls p i
  sent_calls_lem = rw en refl

  pub patched_calls_lem : {raw ret : Span} {own : OwnNode} → raw ≡ fresh p i 1 → ret ≡ fresh p i 2 → own ≡ own_node p i i.ids.ret 1 raw ret
      → buffers n ∷ patches (i.back.input - 1) (i.back.channel - 1) (p.buffers + n) n ++ own_gain own i.back.gain ≡ patched_calls p i
  patched_calls_lem er et eo = rw (eo, er, et, en) refl

  pub out_calls_lem : {out : Span} {xs : List Float} → out ≡ span (p.indices + 5 * n) n → xs ≡ identity n
      → buffers n ∷ step (clear_map ∷ out.start ∷ out.len ∷ []) ∷ coefficients xs ∷ [] ≡ out_calls p i
  out_calls_lem eo ex = rw (eo, ex, en) refl

  pub sum_calls_lem : {dry wet out weights : Span} → dry ≡ span (p.indices + 3 * n) n → wet ≡ span (p.indices + 4 * n) n → out ≡ span (p.indices + 5 * n) n
      → weights ≡ dry_weights p i
      → send_calls i.ids.dryin i.ramp (p.nodes + 4) dry out weights ++ send_calls i.ids.wetin i.ramp (p.nodes + 5) wet out (span p.coefficients (n * n))
      ≡ sum_calls p i
  sum_calls_lem ed ew eo es = rw (ed, ew, eo, es, en) refl

module _ (p : Plan) (i : InsertPoint) where
  pub switch_calls_lem : {g h : Float} {ret dry wet : Span} {first second : OwnNode} → g ≡ dry_gain i.back.bypass → h ≡ wet_gain i.back.bypass
      → ret ≡ fresh p i 2 → dry ≡ fresh p i 3 → wet ≡ fresh p i 4
      → first ≡ own_node p i i.ids.dry 2 i.src dry → second ≡ own_node p i i.ids.wet 3 ret wet
      → own_gain first g ++ own_gain second h ≡ switch_calls p i
  switch_calls_lem eg eh er ed ew ef ec = rw (ef, ec, eg, eh, er, ed, ew) refl
