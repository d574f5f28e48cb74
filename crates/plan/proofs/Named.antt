-- What a step names: its input, its node and its slot are inside their tables where the check says so, and its slot and its channels are those that its fields
-- have, whatever the record and the coefficients. What goes by no weight is the same whatever the coefficients. Assumes nothing.
use mathlib.Core.Path.{◌≡◌, refl}
use mathlib.Core.List.{List}
use Prim.Native.Nat.{ℕ}
use lib.Ieee.{Float}
use Rattle.lists.specs.Entries.{AllBelow}
use Rattle.plan.specs.declared.Plan.{Plan}
use Rattle.plan.specs.declared.Span.{Span}
use Rattle.plan.specs.declared.Step.{Step}
use Rattle.plan.specs.declared.Step.TheVariants.{Patch, Gain, Matrix, Clear, Send, Output}
use Rattle.plan.specs.Limits.{inputs, slots}
use Rattle.plan.specs.Sound.{InsideBy, Inside, Placed}
use Rattle.plan.specs.Loops.{slot_of, channels}
use Rattle.plan.specs.Resolved.{Resolved, send, resolved, input_named, node_named, channels_out, slot_named}
use Rattle.plan.proofs.Spans.{length_named}

module _ (p : Plan) (indices : List ℕ) (coefficients : List Float) where
  pub input_inside : (x : Step) → Inside p x → AllBelow inputs (input_named (resolved p indices coefficients x))
  input_inside (Patch i c d) h = (h.0, tt)
  input_inside (Gain n s d) h = tt
  input_inside (Matrix n s d) h = tt
  input_inside (Clear d) h = tt
  input_inside (Send n s d c) h = tt
  input_inside (Output s o) h = tt

  -- whatever is asked of its spans
  pub node_inside : (Index Weights : Span → Type 0) (x : Step) → InsideBy Index Weights p x → AllBelow p.nodes (node_named (resolved p indices coefficients x))
  node_inside Index Weights (Patch i c d) h = tt
  node_inside Index Weights (Gain n s d) h = (h.0, tt)
  node_inside Index Weights (Matrix n s d) h = (h.0, tt)
  node_inside Index Weights (Clear d) h = tt
  node_inside Index Weights (Send n s d c) h = (h.0, tt)
  node_inside Index Weights (Output s o) h = tt

  pub slot_inside : (x : Step) → Inside p x → AllBelow slots (slot_named (resolved p indices coefficients x))
  slot_inside (Patch i c d) h = tt
  slot_inside (Gain n s d) h = tt
  slot_inside (Matrix n s d) h = tt
  slot_inside (Clear d) h = tt
  slot_inside (Send n s d c) h = tt
  slot_inside (Output s o) h = (h.1, tt)

  pub slot_named_lem : (x : Step) → slot_named (resolved p indices coefficients x) ≡ slot_of x
  slot_named_lem (Patch i c d) = refl
  slot_named_lem (Gain n s d) = refl
  slot_named_lem (Matrix n s d) = refl
  slot_named_lem (Clear d) = refl
  slot_named_lem (Send n s d c) = refl
  slot_named_lem (Output s o) = refl

  pub channels_named : (x : Step) → Placed p indices x → channels_out (resolved p indices coefficients x) ≡ channels x
  channels_named (Patch i c d) h = refl
  channels_named (Gain n s d) h = refl
  channels_named (Matrix n s d) h = refl
  channels_named (Clear d) h = refl
  channels_named (Send n s d c) h = refl
  channels_named (Output s o) h = length_named indices s h.0.within

-- what is said of a step and goes by no weight is the same whatever the coefficients
pub weights_idle : (p : Plan) (indices : List ℕ) (us vs : List Float) {A : Type 0} (f : Resolved → A)
    → ((n : ℕ) (src dst : List ℕ) (a b : List Float) → f (send n src dst a) ≡ f (send n src dst b)) → (x : Step) → f (resolved p indices us x) ≡ f (resolved p indices vs x)
weights_idle p indices us vs f e (Patch i c d) = refl
weights_idle p indices us vs f e (Gain n s d) = refl
weights_idle p indices us vs f e (Matrix n s d) = refl
weights_idle p indices us vs f e (Clear d) = refl
weights_idle p indices us vs f e (Send n s d c) = e n _ _ _ _
weights_idle p indices us vs f e (Output s o) = refl
