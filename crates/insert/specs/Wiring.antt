-- The wiring of an insert, `insert` and `gain` of src/mix/compile.rs, as a list of builder calls in the Rust's order, with the Rust's names for its parts.
-- Definitions only.
use Rattle.std.specs.Prelude.{ℕ, zero, suc, ◌+◌, ◌-◌, ◌*◌, Bool, cond, List, [], ◌∷◌, ◌++◌, ltb, set, replicate, Float}
use Rattle.node.specs.Nodes.{silence}
use Rattle.format.specs.Floats.{one32}
use Rattle.format.specs.Formats.{channels}
use Rattle.plan.specs.declared.Plan.{Plan}
use Rattle.plan.specs.declared.Span.{Span}
use Rattle.plan.specs.Words.{patch_map, gain_map, clear_map, send_map, output_map, span}
use Rattle.builder.specs.Built.{BuilderCall, buffers, coefficients, node, step}
use Rattle.insert.specs.declared.InsertPoint.{InsertPoint}

-- ---- parts

-- the word safe of its nodes, by request C-13: "An insert's nodes have 0."
abbrev pub insert_safe : ℕ
insert_safe = 0

-- a Gain with its own node, into fresh buffers: the Rust's `gain`
abbrev pub gain_calls : (id : ℕ) (gain : Float) (ramp number : ℕ) (src dst : Span) → List BuilderCall
gain_calls id gain ramp number src dst =
    node id (replicate dst.len gain) ramp insert_safe
    ∷ buffers dst.len
    ∷ step (gain_map ∷ number ∷ src.start ∷ src.len ∷ dst.start ∷ dst.len ∷ [])
    ∷ []

-- n channels of an input, from one on, each to a buffer
abbrev pub patches : (input channel dst n : ℕ) → List BuilderCall
patches input channel dst zero = []
patches input channel dst (suc n) = step (patch_map ∷ input ∷ channel ∷ dst ∷ []) ∷ patches input (suc channel) (suc dst) n

-- a Send with its own node, of the one value 1
abbrev pub send_calls : (id ramp number : ℕ) (src dst weights : Span) → List BuilderCall
send_calls id ramp number src dst weights =
    node id (one32 ∷ []) ramp insert_safe
    ∷ step (send_map ∷ number ∷ src.start ∷ src.len ∷ dst.start ∷ dst.len ∷ weights.start ∷ weights.len ∷ [])
    ∷ []

-- n rows of n zeros, with a 1 in column i of each row i below k; and the identity fold of n channels. That it is `width_matrix` of a format into itself
-- is the law `identity_fold` (proofs/Identity.antt).
abbrev pub diagonal : ℕ → ℕ → List Float
diagonal n zero = replicate (n * n) silence
diagonal n (suc k) = set (diagonal n k) (k * n + k) one32

abbrev pub identity : ℕ → List Float
identity n = diagonal n n

-- bypass makes dry 1 and wet 0, else dry is 0 and wet 1
abbrev pub dry_gain : Bool → Float
dry_gain bypass = cond bypass one32 silence

abbrev pub wet_gain : Bool → Float
wet_gain bypass = cond bypass silence one32

-- ---- the insert, on a plan as it was before

module _ (p : Plan) (i : InsertPoint) where
  abbrev pub n : ℕ
  n = channels i.format

  -- the k-th run of fresh buffers
  abbrev pub fresh : ℕ → Span
  fresh k = span (p.indices + k * n) n

  abbrev pub send : Span
  send = span p.indices n

  abbrev pub raw : Span
  raw = fresh 1

  abbrev pub ret : Span
  ret = fresh 2

  abbrev pub dry : Span
  dry = fresh 3

  abbrev pub wet : Span
  wet = fresh 4

  abbrev pub out : Span
  out = fresh 5

  abbrev pub weights : Span
  weights = span p.coefficients (n * n)

  -- No weights where the source span is longer than the format's channels: the plan check then finds the dry Send, where the Rust's own steps would pass
  -- (docs/DECISIONS.md, point 65).
  abbrev pub dry_weights : Span
  dry_weights = span p.coefficients (cond (ltb n i.src.len) 0 (n * n))

  -- the patched channels, counted from 1, and the return gain
  abbrev pub patched_calls : List BuilderCall
  patched_calls =
      buffers n
      ∷ patches (i.back.input - 1) (i.back.channel - 1) (p.buffers + n) n
      ++ gain_calls i.ids.ret i.back.gain i.ramp (p.nodes + 1) raw ret

  -- the switch between the dry signal and the return
  abbrev pub switch_calls : List BuilderCall
  switch_calls =
      gain_calls i.ids.dry (dry_gain i.back.bypass) i.ramp (p.nodes + 2) i.src dry
      ++ gain_calls i.ids.wet (wet_gain i.back.bypass) i.ramp (p.nodes + 3) ret wet

  -- the insert's output, from silence, and the identity fold
  abbrev pub out_calls : List BuilderCall
  out_calls = buffers n ∷ step (clear_map ∷ out.start ∷ out.len ∷ []) ∷ coefficients (identity n) ∷ []

  -- the dry and the wet path, added into it
  abbrev pub sum_calls : List BuilderCall
  sum_calls =
      send_calls i.ids.dryin i.ramp (p.nodes + 4) dry out dry_weights
      ++ send_calls i.ids.wetin i.ramp (p.nodes + 5) wet out weights

  -- the send gain, and the Output in place of the meter and the endpoint
  abbrev pub sent_calls : List BuilderCall
  sent_calls =
      gain_calls i.ids.send i.gain i.ramp p.nodes i.src send
      ++ step (output_map ∷ send.start ∷ send.len ∷ i.slot ∷ [])
      ∷ []

  abbrev pub return_calls : List BuilderCall
  return_calls = patched_calls ++ switch_calls ++ out_calls ++ sum_calls

  abbrev pub insert_calls : List BuilderCall
  insert_calls = sent_calls ++ cond i.returns return_calls []

  -- "Without a return the source span is handed on."
  abbrev pub handed_on : Span
  handed_on = cond i.returns out i.src
