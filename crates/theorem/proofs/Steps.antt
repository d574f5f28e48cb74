-- One step of a run, in two runs of the same plan side by side: sample k₁ of a block of b₁, and sample k₂ of a block of b₂. The nodes stay the
-- same, and every buffer that is written and whose inputs are all listed has the same sample in both. Assumes nothing.
use mathlib.Core.Path.{◌≡◌, refl, sym, ap, ◌∙◌}
use mathlib.Core.Logic.{◌⊎◌, inl, inr}
use mathlib.Core.Bool.{Bool, true, false, ◌||◌, true≢false}
use mathlib.Core.List.{List, [], ◌∷◌}
use Prim.Native.Nat.{ℕ, zero, suc, ◌<◌}
use native.Mathlib.Nat.{not-suc-le-zero, le_of_suc-le-suc}
use native.Mathlib.Decide.{ℕ_discrete}
use native.Mathlib.Omega.{arith}
use lib.Dec.{eqb}
use lib.Ieee.{Float}
use borrow.Author.Tests.{eqb-false}
use Rattle.lists.specs.Entries.{has, AllBelow}
use Rattle.node.specs.declared.Node.{Node}
use Rattle.node.specs.Nodes.{gain_of, factor, finish_block, Full}
use Rattle.node.specs.Areas.{Room, node_at, stored_floats, stored_words}
use Rattle.node.proofs.Kept.{full_load, full_finish}
use Rattle.node.proofs.Left.{finish_rest, factor_rest}
use Rattle.node.proofs.Areas.{stored_same, stored_other, length_stored_floats, length_stored_words}
use Rattle.mix.specs.Mix.{NotIn}
use Rattle.plan.specs.Resolved.{Resolved, node_named, dst_of}
use Rattle.run.specs.Run.{State, stepped, finished}
use Rattle.run.proofs.States as states
use Rattle.run.proofs.States.{ends, step_nodes, step_lengths}
use Rattle.theorem.proofs.Agree.{All, BufferRoom}

-- a step's node is one of `count`, and the buffers that it writes are among m
abbrev pub InPlan : ℕ → ℕ → Resolved → Type 0
InPlan count m x = AllBelow count (node_named x) × All (λ d. d < m) (dst_of x)

-- a buffer that is not in a list
pub none_of : (dst : List ℕ) (b : ℕ) → has dst b ≡ false → NotIn b dst
unfolding has
none_of [] b e = λ i h p. absurd (not-suc-le-zero h)
none_of (d ∷ dst) b e = go (eqb d b) refl e (none_of dst b)
  where
    go : (t : Bool) → eqb d b ≡ t → (t || has dst b) ≡ false → (has dst b ≡ false → NotIn b dst) → NotIn b (d ∷ dst)
    go true q e ih i h p = absurd (true≢false e)
    go false q e ih zero h p = eqb-false d b q (sym p)
    go false q e ih (suc i) h p = ih e i (le_of_suc-le-suc h) p

module _ (count m b₁ k₁ b₂ k₂ : ℕ) (h₁ : k₁ < b₁) (h₂ : k₂ < b₂) where
  -- ---- the nodes

  -- the two samples hear the same gains: they are the same sample of blocks as long, or no node ramps
  abbrev pub Steady : List Float → List ℕ → Type 0
  Steady floats words = ((b₁ ≡ b₂) × (k₁ ≡ k₂)) ⊎ ((n : ℕ) → n < count → (node_at floats words n).left ≡ 0)

  pub record SameNodes (s₁ s₂ : State) : Type 0 where
    pub room₁ : Room count s₁.floats s₁.words
    pub room₂ : Room count s₂.floats s₂.words
    pub same : (n : ℕ) → n < count → node_at s₁.floats s₁.words n ≡ node_at s₂.floats s₂.words n
    pub steady : Steady s₁.floats s₁.words

  pub even : (floats : List Float) (words : List ℕ) → Steady floats words → (n : ℕ) → n < count → (i : ℕ)
      → factor (gain_of (node_at floats words n) i) k₁ ≡ factor (gain_of (node_at floats words n) i) k₂
  even floats words (inl e) n h i = ap (factor (gain_of (node_at floats words n) i)) e.1
  even floats words (inr r) n h i =
      let node = node_at floats words n in
      factor_rest node i k₁ (r n h) ∙ sym (factor_rest node i k₂ (r n h))

  module _ (s₁ s₂ : State) (t : SameNodes s₁ s₂) (n : ℕ) (h : n < count) where
    full₁ : Full (finish_block (node_at s₁.floats s₁.words n) b₁)
    full₁ = full_finish _ b₁ (full_load s₁.floats s₁.words n (omega (arith, t.room₁.0)))

    full₂ : Full (finish_block (node_at s₂.floats s₂.words n) b₂)
    full₂ = full_finish _ b₂ (full_load s₂.floats s₂.words n (omega (arith, t.room₂.0)))

    both_end : finish_block (node_at s₁.floats s₁.words n) b₁ ≡ finish_block (node_at s₂.floats s₂.words n) b₂
    both_end = go t.steady
      where
        go : Steady s₁.floats s₁.words → finish_block (node_at s₁.floats s₁.words n) b₁ ≡ finish_block (node_at s₂.floats s₂.words n) b₂
        go (inl e) = ap (finish_block (node_at s₁.floats s₁.words n)) e.0 ∙ ap (λ (x : Node). finish_block x b₂) (t.same n h)
        go (inr r) =
            let e = t.same n h in
            finish_rest (node_at s₁.floats s₁.words n) b₁ (r n h) ∙ e
            ∙ sym (finish_rest (node_at s₂.floats s₂.words n) b₂ (ap (λ (x : Node). x.left) (sym e) ∙ r n h))

    -- node i, once the block of node n has ended
    ended₁ : ℕ → Node
    ended₁ i = node_at (stored_floats s₁.floats n (finish_block (node_at s₁.floats s₁.words n) b₁)) (stored_words s₁.words n (finish_block (node_at s₁.floats s₁.words n) b₁)) i

    ended₂ : ℕ → Node
    ended₂ i = node_at (stored_floats s₂.floats n (finish_block (node_at s₂.floats s₂.words n) b₂)) (stored_words s₂.words n (finish_block (node_at s₂.floats s₂.words n) b₂)) i

    end_same : (i : ℕ) → i < count → ended₁ i ≡ ended₂ i
    unfolding ended₁ ended₂
    end_same i l = go (ℕ_discrete i n)
      where
        go : Dec (i ≡ n) → ended₁ i ≡ ended₂ i
        go (yes e) =
            rw e
            (stored_same s₁.floats s₁.words n _ full₁ (omega (arith, t.room₁.0), omega (arith, t.room₁.1))
            ∙ both_end ∙ sym (stored_same s₂.floats s₂.words n _ full₂ (omega (arith, t.room₂.0), omega (arith, t.room₂.1))))
        go (no e) =
            stored_other s₁.floats s₁.words n _ full₁ i e ∙ t.same i l ∙ sym (stored_other s₂.floats s₂.words n _ full₂ i e)

    end_steady : ((b₁ ≡ b₂) × (k₁ ≡ k₂)) ⊎ ((i : ℕ) → i < count → (ended₁ i).left ≡ 0)
    unfolding ended₁
    end_steady = go t.steady
      where
        go : Steady s₁.floats s₁.words → ((b₁ ≡ b₂) × (k₁ ≡ k₂)) ⊎ ((i : ℕ) → i < count → (ended₁ i).left ≡ 0)
        go (inl e) = inl e
        go (inr r) = inr (λ i l. each i l (ℕ_discrete i n))
          where
            each : (i : ℕ) → i < count → Dec (i ≡ n) → (ended₁ i).left ≡ 0
            each i l (yes e) =
                rw e
                (ap (λ (x : Node). x.left)
                (stored_same s₁.floats s₁.words n _ full₁ (omega (arith, t.room₁.0), omega (arith, t.room₁.1)) ∙ finish_rest _ b₁ (r n h))
                ∙ r n h)
            each i l (no e) = ap (λ (x : Node). x.left) (stored_other s₁.floats s₁.words n _ full₁ i e) ∙ r i l

    end_both : SameNodes (finished b₁ n s₁) (finished b₂ n s₂)
    unfolding ended₁ ended₂
    end_both =
        record {
          room₁ = (rw (length_stored_floats s₁.floats n _) t.room₁.0, rw (length_stored_words s₁.words n _) t.room₁.1);
          room₂ = (rw (length_stored_floats s₂.floats n _) t.room₂.0, rw (length_stored_words s₂.words n _) t.room₂.1);
          same = end_same;
          steady = end_steady;
        }

  ends_both : (ns : List ℕ) → AllBelow count ns → (s₁ s₂ : State) → SameNodes s₁ s₂ → SameNodes (ends b₁ ns s₁) (ends b₂ ns s₂)
  ends_both [] o s₁ s₂ t = t
  ends_both (n ∷ ns) o s₁ s₂ t = ends_both ns o.1 (finished b₁ n s₁) (finished b₂ n s₂) (end_both s₁ s₂ t n o.0)

  -- what a step leaves of the nodes is what the ends of their blocks do
  as_ended : {s₁ t₁ s₂ t₂ : State} → states.SameNodes t₁ s₁ → states.SameNodes t₂ s₂ → SameNodes s₁ s₂ → SameNodes t₁ t₂
  as_ended e₁ e₂ t =
      record {
        room₁ = rw (e₁.floats, e₁.words) t.room₁;
        room₂ = rw (e₂.floats, e₂.words) t.room₂;
        same = rw (e₁.floats, e₁.words, e₂.floats, e₂.words) t.same;
        steady = rw (e₁.floats, e₁.words) t.steady;
      }

  module _ (input₁ input₂ : ℕ → ℕ → List Float) (s₁ s₂ : State) (t : SameNodes s₁ s₂) where
    pub nodes_step : (x : Resolved) → InPlan count m x → SameNodes (stepped b₁ input₁ x s₁) (stepped b₂ input₂ x s₂)
    nodes_step x i = as_ended (step_nodes b₁ input₁ x s₁) (step_nodes b₂ input₂ x s₂) (ends_both (node_named x) i.0 s₁ s₂ t)

    pub room_step : (x : Resolved) → BufferRoom b₁ k₁ b₂ k₂ h₁ h₂ m s₁.buffers s₂.buffers
        → BufferRoom b₁ k₁ b₂ k₂ h₁ h₂ m (stepped b₁ input₁ x s₁).buffers (stepped b₂ input₂ x s₂).buffers
    room_step x h =
        record { first = rw (step_lengths b₁ input₁ x s₁).buffers h.first; second = rw (step_lengths b₂ input₂ x s₂).buffers h.second }
