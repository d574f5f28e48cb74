-- Two states of the builder that hold one and the same draft, however they came to it: as later calls get them, they have the same steps, nodes and
-- counts, whatever the areas hold besides. Assumes nothing.
use mathlib.Core.Path.{◌≡◌, refl, sym, ap, ◌∙◌}
use mathlib.Core.List.{List, [], map}
use Prim.Native.Nat.{ℕ}
use lib.ListN.{take}
use lib.Ieee.{Float}
use Rattle.node.specs.Areas.{nodes}
use Rattle.plan.specs.Resolved.{resolved, resolved_steps}
use Rattle.plan.specs.Sound.{Inside, Each, steps_of}
use Rattle.plan.proofs.Grown.{all_resolved_same}
use Rattle.builder.specs.Built.{BuilderState, Draft, Drafted}
use Rattle.builder.proofs.ReadBack.{drafted_steps}
use Rattle.trace.specs.Calls.{traced_steps}
use Rattle.run.specs.Calls.{Fixed, Changing, steps_of_plan}
use Rattle.theorem.proofs.OneDraft.{OneDraft}

-- ---- a state of the builder, as later calls get it
abbrev pub plan_of : BuilderState → Fixed
plan_of s = record { plan = s.plan; indices = s.indices; coefficients = s.coefficients; steps = s.steps }

abbrev pub areas_of : BuilderState → List Float → Changing
areas_of s buffers = record { floats = s.floats; words = s.words; buffers = buffers }

-- ---- two states of one draft
module _ (s₁ s₂ : BuilderState) (d : Draft) (h₁ : Drafted s₁ d) (h₂ : Drafted s₂ d) where
  pub same_nodes : nodes s₁.plan.nodes s₁.floats s₁.words ≡ nodes s₂.plan.nodes s₂.floats s₂.words
  same_nodes = h₁.nodes ∙ sym h₂.nodes

  module _ (inside : Each (Inside s₁.plan) (steps_of s₁.plan s₁.steps)) where
    -- the draft's steps, with the lists of each state: its spans are within the draft's lists, which both have at the front
    both_steps : (xs₁ xs₂ : List Float) → take s₁.plan.coefficients xs₂ ≡ take s₁.plan.coefficients xs₁
        → resolved_steps s₂.plan s₂.indices xs₂ s₂.steps ≡ resolved_steps s₁.plan s₁.indices xs₁ s₁.steps
    both_steps xs₁ xs₂ e =
        ap (map (resolved s₂.plan s₂.indices xs₂)) (drafted_steps s₂ d h₂ ∙ sym (drafted_steps s₁ d h₁))
        ∙ all_resolved_same s₁.plan s₂.indices s₁.indices same_indices xs₂ xs₁ e s₂.plan s₁.plan (steps_of s₁.plan s₁.steps) inside
      where
        same_indices : take s₁.plan.indices s₂.indices ≡ take s₁.plan.indices s₁.indices
        same_indices = ap (λ (n : ℕ). take n s₂.indices) (h₁.index_count ∙ sym h₂.index_count) ∙ h₂.indices ∙ sym h₁.indices

    same_steps : steps_of_plan (plan_of s₂) ≡ steps_of_plan (plan_of s₁)
    same_steps =
        both_steps s₁.coefficients s₂.coefficients
        (ap (λ (n : ℕ). take n s₂.coefficients) (h₁.coefficient_count ∙ sym h₂.coefficient_count) ∙ h₂.coefficients ∙ sym h₁.coefficients)

    pub same_traced : traced_steps s₂.plan s₂.indices s₂.steps ≡ traced_steps s₁.plan s₁.indices s₁.steps
    same_traced = both_steps [] [] refl

    -- whatever stands in the buffers
    pub one_draft : (buffers₁ buffers₂ : List Float) → OneDraft (plan_of s₁) (plan_of s₂) (areas_of s₁ buffers₁) (areas_of s₂ buffers₂)
    one_draft buffers₁ buffers₂ = record { plan = record { steps = same_steps; buffers = h₂.buffers ∙ sym h₁.buffers }; nodes = same_nodes }
