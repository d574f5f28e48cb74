-- Two plans that hold one and the same draft, however they were made, and a list of calls after each: where the lists are alike and the listed inputs
-- carry equal samples, both write the same. Assumes nothing.
use mathlib.Core.Path.{◌≡◌, refl, subst}
use mathlib.Core.Bool.{Bool, true}
use mathlib.Core.List.{List}
use Prim.Native.Nat.{ℕ}
use native.Mathlib.Decide.{ℕ_discrete}
use lib.ListN.{length}
use Rattle.lists.specs.Entries.{has}
use Rattle.trace.specs.Sources.{no_sources, behind}
use Rattle.trace.specs.Clean.{none_written, clean_from}
use Rattle.run.specs.Calls.{Fixed, Changing, Call, steps_of_plan}
use Rattle.theorem.specs.Journal.{Entry, journal, total, settings_from, written, NoRampSet}
use Rattle.theorem.specs.Traced.{IsClean, list_for}
use Rattle.theorem.specs.Statement.{Channel}
use Rattle.theorem.proofs.Block.{Within}
use Rattle.theorem.proofs.Nodes.{AtRest}
use Rattle.theorem.proofs.Moments.{CarryEqual}
use Rattle.theorem.proofs.Runs.{Went, went, nodes_of, length_written}
use Rattle.theorem.proofs.Pairs.{SamePlan, channel_below, rest_same}
use Rattle.theorem.proofs.Lockstep.{Same, in_step}
use Rattle.theorem.proofs.CleanPlans.{clean_sound, clean_steps, all_listed}

-- Two plans, each with its areas, hold one and the same draft: of what no later call changes, the steps, by what their spans name, and the count of
-- buffers; of what later calls change, the nodes. Their blocks, where their spans start and what their areas hold besides may differ.
pub record OneDraft (f₁ f₂ : Fixed) (h₁ h₂ : Changing) : Type 0 where
  pub plan : SamePlan f₁ f₂
  pub nodes : nodes_of f₁ h₁ ≡ nodes_of f₂ h₂

-- so what lasts is the same before the first run, whatever inputs carry equal samples
starts_same : (f₁ f₂ : Fixed) (h₁ h₂ : Changing) → OneDraft f₁ f₂ h₁ h₂ → (L : ℕ → Bool) → Same f₁ f₂ L h₁ h₂
starts_same f₁ f₂ h₁ h₂ d L = record { nodes = d.nodes }

module _ (f₁ f₂ : Fixed) (h₁ h₂ : Changing) (cs₁ cs₂ : List Call) where
  abbrev es₁ : List Entry
  es₁ = journal f₁ h₁ cs₁

  abbrev es₂ : List Entry
  es₂ = journal f₂ h₂ cs₂

  -- what is given of them, for blocks of a and of b
  pub record Premises (a b : ℕ) : Type 0 where
    pub first_block : f₁.plan.block ≡ a
    pub second_block : f₂.plan.block ≡ b
    pub one_draft : OneDraft f₁ f₂ h₁ h₂
    pub clean : IsClean f₁ h₁
    pub same_total : total a es₁ ≡ total b es₂
    pub alike : settings_from a 0 es₁ ≡ settings_from b 0 es₂
    pub no_ramps : (a ≡ b → ⊥) → AtRest (nodes_of f₁ h₁) × NoRampSet es₁ × NoRampSet es₂

  -- and what is claimed: where the inputs that the trace of the first lists behind s carry equal samples, both write the same to every channel of s
  abbrev pub SameWritten : ℕ → ℕ → Type 0
  SameWritten a b =
      (s : ℕ) → ((i c : ℕ) → has (list_for f₁ s) i ≡ true → CarryEqual a b i c es₁ es₂) → (q : ℕ) → Channel (steps_of_plan f₁) s q
      → (length (written a q es₁) ≡ total a es₁) × (written a q es₁ ≡ written b q es₂)

  -- for the blocks that the records have: run by run where they are as long; where they are not, no node ramps
  by_blocks : Premises f₁.plan.block f₂.plan.block → SameWritten f₁.plan.block f₂.plan.block
  by_blocks given s carry q ch = (length_written f₁ q (channel_below (steps_of_plan f₁) s q ch) w₁, go (ℕ_discrete f₁.plan.block f₂.plan.block))
    where
      w₁ : Went f₁ h₁ es₁
      w₁ = went f₁ cs₁ h₁

      w₂ : Went f₂ h₂ es₂
      w₂ = went f₂ cs₂ h₂

      same : SamePlan f₁ f₂
      same = given.one_draft.plan

      lasting : Same f₁ f₂ (has (list_for f₁ s)) h₁ h₂
      lasting = starts_same f₁ f₂ h₁ h₂ given.one_draft (has (list_for f₁ s))

      clean : clean_from none_written (steps_of_plan f₁) ≡ true
      clean = clean_steps f₁ h₁.words given.clean

      listed : Within (behind s no_sources (steps_of_plan f₁)) (has (list_for f₁ s))
      listed = all_listed f₁ h₁.words given.clean s

      go : Dec (f₁.plan.block ≡ f₂.plan.block) → written f₁.plan.block q es₁ ≡ written f₂.plan.block q es₂
      go (yes p) =
          let least = (clean_sound f₁ h₁.words given.clean).block_least in
          in_step f₁ f₂ same clean s q ch (has (list_for f₁ s)) listed p least w₁ w₂ lasting 0 0 refl given.same_total given.alike carry
      go (no p) = rest_same f₁ f₂ same clean s q ch (has (list_for f₁ s)) listed w₁ w₂ lasting.nodes given.same_total given.alike (given.no_ramps p) carry

  pub drafts_agree : (a b : ℕ) → Premises a b → SameWritten a b
  drafts_agree a b given =
      subst (λ (n : ℕ). Premises n b → SameWritten n b) given.first_block
      (subst (λ (n : ℕ). Premises f₁.plan.block n → SameWritten f₁.plan.block n) given.second_block by_blocks) given
