-- Two lists of calls for blocks as long go run by run: what lasts from one run to the next is the same in both, and so is the block that a channel of
-- slot s gets in each, where the listed inputs carry equal samples. Assumes nothing.
use mathlib.Core.Path.{◌≡◌, refl, sym, ap, ◌∙◌, subst}
use mathlib.Core.Logic.{inl, inr}
use mathlib.Core.Bool.{Bool, true}
use mathlib.Core.List.{List, [], ◌∷◌, ◌++◌}
use Prim.Native.Nat.{ℕ, ◌+◌, ◌*◌, ◌≤◌, ◌<◌}
use native.Mathlib.Omega.{arith}
use lib.ListN.{length, get_or, take, drop}
use lib.Seq.{ext_get_or, length-take-le, drop_at}
use lib.Ieee.{Float, nan}
use borrow.Author.Tests.{lt-ltb}
use Rattle.lists.specs.Parts.{part}
use Rattle.mix.specs.Mix.{patched}
use Rattle.plan.specs.Resolved.{Resolved}
use Rattle.trace.specs.Sources.{no_sources, behind}
use Rattle.trace.specs.Clean.{none_written, clean_from}
use Rattle.input.specs.Input.{lookup}
use Rattle.run.specs.Run.{output_channels, processed}
use Rattle.run.specs.Calls.{Fixed, Changing, set, run, given_to, start, answer, after, steps_of_plan}
use Rattle.theorem.specs.Journal.{Entry, ran, entry, Setting, total, settings_from, written, carried}
use Rattle.theorem.specs.Statement.{Channel}
use Rattle.theorem.proofs.Block.{Within}
use Rattle.theorem.proofs.Nodes.{nodes_after, nodes_set, set_nodes}
use Rattle.theorem.proofs.Moments.{moment, CarryEqual, carried_heard}
use Rattle.theorem.proofs.Settings.{by, heads, tails, not_empty, none_earlier}
use Rattle.theorem.proofs.Runs.{Went, none, then, nodes_of, nodes_then, part_length, run_sample}
use Rattle.theorem.proofs.Pairs.{SamePlan, below₁, below₂, one_sample}
use Rattle.std.specs.Prelude.{Ok}

-- what lasts from run to run, where the inputs of L carry equal samples
pub record Same (f₁ f₂ : Fixed) (L : ℕ → Bool) (h₁ h₂ : Changing) : Type 0 where
  pub nodes : nodes_of f₁ h₁ ≡ nodes_of f₂ h₂

-- ---- an input that carries equal samples: in a run, and in the runs after it
module _ (n₁ n₂ : ℕ) (equal : n₁ ≡ n₂) (d₁ d₂ : List ℕ) (x₁ x₂ o₁ o₂ : List Float) (es₁ es₂ : List Entry) (i c : ℕ) where
  now_heard : CarryEqual n₁ n₂ i c (ran d₁ x₁ o₁ ∷ es₁) (ran d₂ x₂ o₂ ∷ es₂) → (k : ℕ) → k < n₁
      → patched n₁ (lookup d₁ x₁ i c) k ≡ patched n₂ (lookup d₂ x₂ i c) k
  now_heard carry k l =
      let l₂ : k < n₂ = omega arith in
      rw (lt-ltb k n₁ l, lt-ltb k n₂ l₂) at (carried_heard n₁ n₂ [] [] i c (ran d₁ x₁ o₁ ∷ es₁) (ran d₂ x₂ o₂ ∷ es₂) [] [] carry k (omega arith) (omega arith))

  later_carried : CarryEqual n₁ n₂ i c (ran d₁ x₁ o₁ ∷ es₁) (ran d₂ x₂ o₂ ∷ es₂) → CarryEqual n₁ n₂ i c es₁ es₂
  later_carried (inl h) = inl (h.0.1, h.1.1)
  later_carried (inr h) = inr (h.0.1, h.1.1, rest h.0.0 h.1.0 h.2)
    where
      u : List Float
      u = lookup d₁ x₁ i c

      v : List Float
      v = lookup d₂ x₂ i c

      rest : n₁ ≤ length u → n₂ ≤ length v → take n₁ u ++ carried n₁ i c es₁ ≡ take n₂ v ++ carried n₂ i c es₂ → carried n₁ i c es₁ ≡ carried n₂ i c es₂
      rest w₁ w₂ e =
          sym (drop_at (take n₁ u) (carried n₁ i c es₁) n₁ (length-take-le n₁ u w₁))
          ∙ ap (drop n₁) e
          ∙ drop_at (take n₂ v) (carried n₂ i c es₂) n₁ (length-take-le n₂ v w₂ ∙ sym equal)

-- ---- one accepted setting of each
module _ (f₁ f₂ : Fixed) (L : ℕ → Bool) (h₁ h₂ : Changing) (lasting : Same f₁ f₂ L h₁ h₂) where
  set_lasts : (id₁ id₂ ramp₁ ramp₂ : ℕ) (values₁ values₂ : List Float)
      → answer f₁ h₁ (set id₁ values₁ ramp₁) ≡ Ok tt → answer f₂ h₂ (set id₂ values₂ ramp₂) ≡ Ok tt
      → nodes_set id₁ ramp₁ values₁ (nodes_of f₂ h₂) ≡ nodes_set id₂ ramp₂ values₂ (nodes_of f₂ h₂)
      → Same f₁ f₂ L (after f₁ h₁ (set id₁ values₁ ramp₁)) (after f₂ h₂ (set id₂ values₂ ramp₂))
  set_lasts id₁ id₂ ramp₁ ramp₂ values₁ values₂ e₁ e₂ alike =
      record {
        nodes =
            set_nodes f₁.plan.nodes h₁.floats h₁.words id₁ ramp₁ values₁ e₁
            ∙ ap (nodes_set id₁ ramp₁ values₁) lasting.nodes
            ∙ alike
            ∙ sym (set_nodes f₂.plan.nodes h₂.floats h₂.words id₂ ramp₂ values₂ e₂);
      }

-- ---- channel q of slot s; L has every input behind s
module _ (f₁ f₂ : Fixed) (same : SamePlan f₁ f₂) (clean : clean_from none_written (steps_of_plan f₁) ≡ true) (s q : ℕ) (ch : Channel (steps_of_plan f₁) s q)
    (L : ℕ → Bool) (within : Within (behind s no_sources (steps_of_plan f₁)) L) (equal : f₁.plan.block ≡ f₂.plan.block) where
  abbrev n₁ : ℕ
  n₁ = f₁.plan.block

  abbrev n₂ : ℕ
  n₂ = f₂.plan.block

  abbrev at₁ : q < output_channels (steps_of_plan f₁)
  at₁ = below₁ f₁ f₂ same clean s q ch L within

  abbrev at₂ : q < output_channels (steps_of_plan f₂)
  at₂ = below₂ f₁ f₂ same clean s q ch L within

  -- ---- one accepted run of each
  module _ (h₁ h₂ : Changing) (lasting : Same f₁ f₂ L h₁ h₂) (d₁ d₂ : List ℕ) (x₁ x₂ out₁ out₂ : List Float)
      (e₁ : answer f₁ h₁ (run d₁ x₁ out₁) ≡ Ok tt) (e₂ : answer f₂ h₂ (run d₂ x₂ out₂) ≡ Ok tt) (es₁ es₂ : List Entry)
      (carry : (i c : ℕ) → L i ≡ true → CarryEqual f₁.plan.block f₂.plan.block i c (entry f₁ h₁ (run d₁ x₁ out₁) ∷ es₁) (entry f₂ h₂ (run d₂ x₂ out₂) ∷ es₂)) where
    abbrev o₁ : List Float
    o₁ = (processed (given_to f₁ d₁ x₁) (start f₁ h₁ out₁)).output

    abbrev o₂ : List Float
    o₂ = (processed (given_to f₂ d₂ x₂) (start f₂ h₂ out₂)).output

    block_same : part (q * n₁) n₁ o₁ ≡ part (q * n₂) n₂ o₂
    block_same = ext_get_or nan (part (q * n₁) n₁ o₁) (part (q * n₂) n₂ o₂) (l₁ ∙ equal ∙ sym l₂) (λ k h. each k (subst (λ (m : ℕ). k < m) l₁ h))
      where
        l₁ : length (part (q * n₁) n₁ o₁) ≡ n₁
        l₁ = part_length f₁ q at₁ h₁ d₁ x₁ out₁ e₁

        l₂ : length (part (q * n₂) n₂ o₂) ≡ n₂
        l₂ = part_length f₂ q at₂ h₂ d₂ x₂ out₂ e₂

        each : (k : ℕ) → k < n₁ → get_or (part (q * n₁) n₁ o₁) k nan ≡ get_or (part (q * n₂) n₂ o₂) k nan
        each k l =
            one_sample f₁ f₂ same clean s q ch L within (moment (nodes_of f₁ h₁) k (lookup d₁ x₁)) (moment (nodes_of f₂ h₂) k (lookup d₂ x₂))
            lasting.nodes (inl (equal, refl)) (λ i c p. now_heard n₁ n₂ equal d₁ d₂ x₁ x₂ o₁ o₂ es₁ es₂ i c (carry i c p) k l) _ _
            (run_sample f₁ q at₁ h₁ d₁ x₁ out₁ e₁ k l) (run_sample f₂ q at₂ h₂ d₂ x₂ out₂ e₂ k (omega arith))

    run_lasts : Same f₁ f₂ L (after f₁ h₁ (run d₁ x₁ out₁)) (after f₂ h₂ (run d₂ x₂ out₂))
    run_lasts =
        record {
          nodes =
              nodes_then f₁ h₁ d₁ x₁ out₁ e₁
              ∙ ap (nodes_after n₁ (steps_of_plan f₁)) lasting.nodes
              ∙ ap (λ (m : ℕ). nodes_after m (steps_of_plan f₁) (nodes_of f₂ h₂)) equal
              ∙ ap (λ (xs : List Resolved). nodes_after n₂ xs (nodes_of f₂ h₂)) (sym same.steps)
              ∙ sym (nodes_then f₂ h₂ d₂ x₂ out₂ e₂);
        }

    carried_on : (i c : ℕ) → L i ≡ true → CarryEqual n₁ n₂ i c es₁ es₂
    carried_on i c p = later_carried n₁ n₂ equal d₁ d₂ x₁ x₂ o₁ o₂ es₁ es₂ i c (carry i c p)

  -- ---- the whole lists, which start at the same sample; no run is empty
  module _ (least : 0 < f₁.plan.block) where
    pub in_step : {h₁ h₂ : Changing} {es₁ es₂ : List Entry} → Went f₁ h₁ es₁ → Went f₂ h₂ es₂ → Same f₁ f₂ L h₁ h₂ → (at₁ at₂ : ℕ) → at₁ ≡ at₂
        → total n₁ es₁ ≡ total n₂ es₂ → settings_from n₁ at₁ es₁ ≡ settings_from n₂ at₂ es₂ → ((i c : ℕ) → L i ≡ true → CarryEqual n₁ n₂ i c es₁ es₂)
        → written n₁ q es₁ ≡ written n₂ q es₂
    in_step none none t at₁ at₂ z sum e carry = refl
    in_step none (then (set id values ramp) a w) t at₁ at₂ z sum e carry = absurd (not_empty _ _ (sym e))
    in_step none (then (run d x out) a w) t at₁ at₂ z sum e carry = absurd (omega arith)
    in_step (then (set id values ramp) a w) none t at₁ at₂ z sum e carry = absurd (not_empty _ _ e)
    in_step (then (run d x out) a w) none t at₁ at₂ z sum e carry = absurd (omega arith)
    in_step (then (set id values ramp) a w) (then {es = es₂} (run d x out) a₂ w₂) t at₁ at₂ z sum e carry =
        absurd (none_earlier n₂ es₂ (at₂ + n₂) _ _ (omega arith) e)
    in_step (then {es = es₁} (run d x out) a w) (then (set id values ramp) a₂ w₂) t at₁ at₂ z sum e carry =
        absurd (none_earlier n₁ es₁ (at₁ + n₁) _ _ (omega arith) (sym e))
    in_step {h₁} {h₂} (then (set id values ramp) a w) (then (set id₂ values₂ ramp₂) a₂ w₂) t at₁ at₂ z sum e carry =
        in_step w w₂ (set_lasts f₁ f₂ L h₁ h₂ t id id₂ ramp ramp₂ values values₂ a a₂ (ap (λ (y : Setting). by y (nodes_of f₂ h₂)) (heads _ _ _ _ e)))
        at₁ at₂ z sum (tails _ _ _ _ e) carry
    in_step {h₁} {h₂} (then {es = es₁} (run d x out) a w) (then {es = es₂} (run d₂ x₂ out₂) a₂ w₂) t at₁ at₂ z sum e carry =
        let rest = in_step w w₂ (run_lasts h₁ h₂ t d d₂ x x₂ out out₂ a a₂ es₁ es₂ carry) (at₁ + n₁) (at₂ + n₂) (omega arith) (omega arith) e
        (carried_on h₁ h₂ t d d₂ x x₂ out out₂ a a₂ es₁ es₂ carry) in
        rw (block_same h₁ h₂ t d d₂ x x₂ out out₂ a a₂ es₁ es₂ carry, rest) refl
