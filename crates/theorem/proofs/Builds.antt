-- Builds are one way to a draft: a build holds the draft of its accepted calls, for the block that it was given, with no ramp where none was given. So
-- two builds of the same accepted calls hold one draft, and every answer about the one is the answer about the other. Assumes nothing.
use mathlib.Core.Path.{◌≡◌, refl, sym, ◌∙◌, subst}
use mathlib.Core.List.{List, [], ◌∷◌, ◌++◌}
use Prim.Native.Nat.{ℕ, zero, suc, ◌*◌, ◌≤◌}
use native.Mathlib.Omega.{arith}
use lib.ListN.{length}
use Rattle.refusal.proofs.Laws.{accepted_none}
use Rattle.node.specs.declared.Node.{Node}
use Rattle.node.specs.Sizes.{node_word_count}
use Rattle.node.specs.Nodes.{new_node}
use Rattle.node.specs.Areas.{nodes}
use Rattle.node.proofs.Left.{left_new}
use Rattle.plan.specs.declared.Limits.{Limits}
use Rattle.builder.specs.Growth.{buffers_growth, coefficients_growth, node_growth, step_growth}
use Rattle.builder.specs.Calls.{new_answer, new_tests, record_length}
use Rattle.builder.specs.Built.{BuilderCall, buffers, coefficients, node, step, BuilderState, answer, after, Draft, no_draft, given, drafted, Drafted}
use Rattle.builder.proofs.Kept.{accepted_kept}
use Rattle.builder.proofs.Outcomes.{plan_accepted}
use Rattle.builder.proofs.Fits.{node_fits}
use Rattle.insert.specs.Wiring.{insert_calls}
use Rattle.insert.specs.Layout.{LayoutCall, single, insert, counts, layout_drafted}
use Rattle.insert.proofs.Wired.{RampIs, insert_ramps}
use Rattle.insert.proofs.Laid.{layout_keeps, laid_read_back}
use Rattle.theorem.specs.Builds.{Build, unit_calls, begun, after_calls, accepted_calls, NoRampBuilt}
use Rattle.theorem.proofs.Nodes.{AtRest}
use Rattle.theorem.proofs.Answers.{LaidOut, SameAnswers, same_answers}
use Rattle.std.specs.Prelude.{Ok}

pub block_kept : (b : Build) → (after_calls b).plan.block ≡ b.block
block_kept b = layout_keeps (λ (s : BuilderState). s.plan.block ≡ b.block) (λ l s c e p. (accepted_kept l s c e).block ∙ p) (unit_calls b.calls) (begun b) refl

abbrev NodeRoom : BuilderState → Type 0
NodeRoom s = s.plan.nodes * node_word_count ≤ length s.words

room_kept : (l : Limits) (s : BuilderState) (c : BuilderCall) → answer l s c ≡ Ok tt → NodeRoom s → NodeRoom (after l s c)
room_kept l s (buffers n) e r = rw (plan_accepted s.plan (buffers_growth n) e) r
room_kept l s (coefficients xs) e r = rw (plan_accepted s.plan (coefficients_growth (length xs)) e) r
room_kept l s (node id xs ramp safe) e r =
    rw (plan_accepted s.plan node_growth e, (accepted_kept l s (node id xs ramp safe) e).words.length)
    (node_fits l s.plan id (length xs) ramp safe (length s.floats) s.words e).words
room_kept l s (step w) e r = rw (plan_accepted s.plan (step_growth (record_length w)) e) r

-- ---- the draft of a build
abbrev pub draft : Build → Draft
draft b = layout_drafted no_draft (accepted_calls b)

pub is_drafted : (b : Build) → Drafted (after_calls b) (draft b)
is_drafted b = laid_read_back b.block (begun b) refl (unit_calls b.calls)

placed : (b : Build) → new_answer b.block ≡ Ok tt → LaidOut (after_calls b) (draft b)
unfolding new_answer
placed b e =
    record {
      drafted = is_drafted b;
      nodes = layout_keeps NodeRoom room_kept (unit_calls b.calls) (begun b) (omega arith);
      block = rw (block_kept b) (accepted_none (new_tests b.block) (Ok tt) e).0.0;
    }

-- ---- its nodes: at rest where no ramp was given

snoc_rest : (ns : List Node) (new : Node) → AtRest ns → new.left ≡ 0 → AtRest (ns ++ (new ∷ []))
snoc_rest [] new r e zero = e
snoc_rest [] new r e (suc n) = refl
snoc_rest (x ∷ ns) new r e zero = r zero
snoc_rest (x ∷ ns) new r e (suc n) = snoc_rest ns new (λ i. r (suc i)) e n

drafted_rest : (cs : List BuilderCall) (d : Draft) → AtRest d.nodes → RampIs 0 cs → AtRest (drafted d cs).nodes
drafted_rest [] d r f = r
drafted_rest (buffers n ∷ cs) d r f = drafted_rest cs (given d (buffers n)) r f
drafted_rest (coefficients xs ∷ cs) d r f = drafted_rest cs (given d (coefficients xs)) r f
drafted_rest (node id values ramp safe ∷ cs) d r f =
    drafted_rest cs (given d (node id values ramp safe)) (snoc_rest d.nodes (new_node id values ramp safe) r (left_new id values ramp safe ∙ f.0)) f.1
drafted_rest (step w ∷ cs) d r f = drafted_rest cs (given d (step w)) r f

layout_rest : (cs : List LayoutCall) (d : Draft) → AtRest d.nodes → NoRampBuilt cs → AtRest (layout_drafted d cs).nodes
layout_rest [] d r f = r
layout_rest (single (buffers n) ∷ cs) d r f = layout_rest cs (given d (buffers n)) r f
layout_rest (single (coefficients xs) ∷ cs) d r f = layout_rest cs (given d (coefficients xs)) r f
layout_rest (single (node id values ramp safe) ∷ cs) d r f = layout_rest cs (given d (node id values ramp safe)) (drafted_rest (node id values ramp safe ∷ []) d r (f.0, tt)) f.1
layout_rest (single (step w) ∷ cs) d r f = layout_rest cs (given d (step w)) r f
layout_rest (insert i ∷ cs) d r f =
    let calls = insert_calls (counts d) i in
    layout_rest cs (drafted d calls) (drafted_rest calls d r (subst (λ (ramp : ℕ). RampIs ramp calls) f.0 (insert_ramps (counts d) i))) f.1

pub built_rest : (b : Build) → NoRampBuilt (accepted_calls b) → AtRest (nodes (after_calls b).plan.nodes (after_calls b).floats (after_calls b).words)
built_rest b f = rw (is_drafted b).nodes (layout_rest (accepted_calls b) no_draft (λ n. refl) f)

-- ---- two builds of the same accepted calls
module _ (b₁ b₂ : Build) (e : accepted_calls b₁ ≡ accepted_calls b₂) where
  -- the draft of the first is that of the second too
  pub drafted_too : Drafted (after_calls b₂) (draft b₁)
  drafted_too = subst (λ (cs : List LayoutCall). Drafted (after_calls b₂) (layout_drafted no_draft cs)) (sym e) (is_drafted b₂)

  pub builds_answer : new_answer b₁.block ≡ Ok tt → new_answer b₂.block ≡ Ok tt → SameAnswers (after_calls b₁) (after_calls b₂)
  builds_answer new₁ new₂ =
      same_answers (after_calls b₁) (after_calls b₂) (draft b₁) (placed b₁ new₁)
      (subst (λ (cs : List LayoutCall). LaidOut (after_calls b₂) (layout_drafted no_draft cs)) (sym e) (placed b₂ new₂))
