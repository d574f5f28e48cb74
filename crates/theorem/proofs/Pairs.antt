-- Two plans with the same steps, and two lists of calls for any two blocks: at each sample of the journals at which the nodes are the same, a channel
-- of slot s gets the same in both where the listed inputs carry equal samples; and so the whole lists, where no node ramps. Assumes nothing.
use mathlib.Core.Path.{◌≡◌, sym, ap, ◌∙◌, subst}
use mathlib.Core.Logic.{◌⊎◌, inl, inr}
use mathlib.Core.Bool.{Bool, true, false≢true}
use mathlib.Core.List.{List, [], ◌∷◌, ◌++◌}
use Prim.Native.Nat.{ℕ, ◌+◌, ◌*◌, ◌≤◌, ◌<◌}
use native.Mathlib.Nat.{zero-add, zero-mul}
use native.Mathlib.Omega.{arith}
use lib.ListN.{length, get_or}
use lib.Seq.{ext_get_or}
use lib.Ieee.{Float, nan}
use Rattle.node.specs.declared.Node.{Node}
use Rattle.node.specs.Areas.{Room, node_at}
use Rattle.node.proofs.Areas.{length_nodes, get_d_nodes}
use Rattle.mix.specs.Samples.{sample}
use Rattle.mix.specs.Mix.{patched}
use Rattle.plan.specs.Resolved.{Resolved, output}
use Rattle.trace.specs.Sources.{no_sources, behind}
use Rattle.trace.specs.Clean.{none_written, clean_from}
use Rattle.run.specs.Run.{State, run_steps, output_channels}
use Rattle.run.specs.Calls.{Fixed, Changing, steps_of_plan}
use Rattle.run.proofs.Outputs.{channels_more}
use Rattle.theorem.specs.Journal.{Entry, total, settings_from, written, NoRampSet}
use Rattle.theorem.specs.Statement.{Channel}
use Rattle.theorem.proofs.Steps.{InPlan}
use Rattle.theorem.proofs.Block.{Every, Within, Going, same_sample}
use Rattle.theorem.proofs.Nodes.{nobody, AtRest}
use Rattle.theorem.proofs.Moments.{Moment, moment_at, CarryEqual, carried_heard}
use Rattle.theorem.proofs.Settings.{same_moment}
use Rattle.theorem.proofs.Runs.{Went, nodes_of, RunAt, length_written, run_at}

-- two plans that differ in the block and in what their areas hold besides
pub record SamePlan (f₁ f₂ : Fixed) : Type 0 where
  pub steps : steps_of_plan f₂ ≡ steps_of_plan f₁
  pub buffers : f₂.plan.buffers ≡ f₁.plan.buffers

-- the channels of a list of steps are more than those before a channel of an Output in it
channel_inside : (before : List Resolved) (src : List ℕ) (s : ℕ) (after : List Resolved) (c : ℕ) → c < length src
    → output_channels before + c < output_channels (before ++ output src s ∷ after)
unfolding output_channels
channel_inside [] src s after c h = omega arith
channel_inside (x ∷ before) src s after c h =
    let ih = channel_inside before src s after c h in
    omega (arith, channels_more x before, channels_more x (before ++ output src s ∷ after))

module _ (steps : List Resolved) (s q : ℕ) (ch : Channel steps s q) where
  in_span : ch.c < length ch.src
  in_span = omega (arith, ch.inside)

  pub channel_below : q < output_channels steps
  channel_below = rw (ch.place, ch.split) (channel_inside ch.before ch.src s ch.after ch.c in_span)

-- ---- channel q of slot s; L has every input behind s
module _ (f₁ f₂ : Fixed) (same : SamePlan f₁ f₂) (clean : clean_from none_written (steps_of_plan f₁) ≡ true) (s q : ℕ) (ch : Channel (steps_of_plan f₁) s q)
    (L : ℕ → Bool) (within : Within (behind s no_sources (steps_of_plan f₁)) L) where
  abbrev a : ℕ
  a = f₁.plan.block

  abbrev b : ℕ
  b = f₂.plan.block

  abbrev inside : ch.c < length ch.src
  inside = in_span (steps_of_plan f₁) s q ch

  pub below₁ : q < output_channels (steps_of_plan f₁)
  below₁ = channel_below (steps_of_plan f₁) s q ch

  pub below₂ : q < output_channels (steps_of_plan f₂)
  below₂ = rw same.steps below₁

  -- ---- one sample, of two runs whose moments are alike
  module _ (m₁ m₂ : Moment) (nodes_same : m₁.nodes ≡ m₂.nodes) (steady : ((f₁.plan.block ≡ f₂.plan.block) × (m₁.offset ≡ m₂.offset)) ⊎ AtRest m₁.nodes)
      (inputs-same : (i c : ℕ) → L i ≡ true → patched f₁.plan.block (m₁.input i c) m₁.offset ≡ patched f₂.plan.block (m₂.input i c) m₂.offset)
      (y₁ y₂ : Float) (r₁ : RunAt f₁ q below₁ m₁ y₁) (r₂ : RunAt f₂ q below₂ m₂ y₂) where
    abbrev count : ℕ
    count = f₁.plan.nodes

    abbrev s₁ : State
    s₁ = r₁.state

    abbrev s₂ : State
    s₂ = r₂.state

    -- the steps, as the channel's Output splits them
    abbrev steps : List Resolved
    steps = ch.before ++ output ch.src s ∷ ch.after

    split₂ : steps_of_plan f₂ ≡ ch.before ++ output ch.src s ∷ ch.after
    split₂ = same.steps ∙ ch.split

    same_count : f₂.plan.nodes ≡ f₁.plan.nodes
    same_count =
        sym (length_nodes f₂.plan.nodes s₂.floats s₂.words)
        ∙ ap length (r₂.nodes_are ∙ sym nodes_same ∙ sym r₁.nodes_are)
        ∙ length_nodes count s₁.floats s₁.words

    node₁ : (n : ℕ) → n < f₁.plan.nodes → node_at r₁.state.floats r₁.state.words n ≡ get_or m₁.nodes n nobody
    node₁ n h = sym (get_d_nodes count s₁.floats s₁.words n nobody h) ∙ ap (λ (ns : List Node). get_or ns n nobody) r₁.nodes_are

    node₂ : (n : ℕ) → n < f₁.plan.nodes → node_at r₂.state.floats r₂.state.words n ≡ get_or m₂.nodes n nobody
    node₂ n h =
        sym (get_d_nodes f₂.plan.nodes s₂.floats s₂.words n nobody (omega (arith, same_count))) ∙ ap (λ (ns : List Node). get_or ns n nobody) r₂.nodes_are

    start : Going count f₁.plan.buffers a m₁.offset b m₂.offset r₁.offset r₂.offset m₁.input m₂.input L inputs-same s ch.src ch.after ch.c inside no_sources none_written steps 0 s₁ s₂
    start =
        record {
          nodes = record {
            room₁ = r₁.fits.room;
            room₂ = subst (λ (k : ℕ). Room k s₂.floats s₂.words) same_count r₂.fits.room;
            same = λ n h. node₁ n h ∙ ap (λ (ns : List Node). get_or ns n nobody) nodes_same ∙ sym (node₂ n h);
            steady = calm steady;
          };
          room = record { first = r₁.fits.buffers; second = subst (λ (m : ℕ). m * b ≤ length s₂.buffers) same.buffers r₂.fits.buffers };
          listed = λ d w u. absurd (false≢true w);
          clean = rw (← ch.split) clean;
          within = rw (← ch.split) within;
          in_plan = subst (λ (xs : List Resolved). Every (InPlan count f₁.plan.buffers) xs) ch.split r₁.fits.in_plan;
          wrote₁ = r₁.fits.wrote ∙ sym (zero-mul a);
          wrote₂ = r₂.fits.wrote ∙ sym (zero-mul b);
          room₁ = subst (λ (xs : List Resolved). (0 + output_channels xs) * a ≤ length s₁.output) ch.split (rw zero-add r₁.fits.output);
          room₂ = subst (λ (xs : List Resolved). (0 + output_channels xs) * b ≤ length s₂.output) split₂ (rw zero-add r₂.fits.output);
        }
      where
        calm : (((f₁.plan.block ≡ f₂.plan.block) × (m₁.offset ≡ m₂.offset)) ⊎ AtRest m₁.nodes)
            → ((f₁.plan.block ≡ f₂.plan.block) × (m₁.offset ≡ m₂.offset)) ⊎ ((n : ℕ) → n < f₁.plan.nodes → (node_at r₁.state.floats r₁.state.words n).left ≡ 0)
        calm (inl e) = inl e
        calm (inr r) = inr (λ n h. ap (λ (x : Node). x.left) (node₁ n h) ∙ r n)

    pub one_sample : y₁ ≡ y₂
    one_sample =
        let place : 0 + (output_channels ch.before + ch.c) ≡ q = zero-add (output_channels ch.before + ch.c) ∙ sym ch.place in
        let equal = same_sample count f₁.plan.buffers a m₁.offset b m₂.offset r₁.offset r₂.offset m₁.input m₂.input L inputs-same s ch.src ch.after ch.c inside
        ch.before no_sources none_written 0 s₁ s₂ start in
        r₁.sample_is
        ∙ ap (λ (xs : List Resolved). sample a (run_steps a m₁.input xs s₁).output q m₁.offset) ch.split
        ∙ subst (λ (p : ℕ). sample a (run_steps a m₁.input steps s₁).output p m₁.offset ≡ sample b (run_steps b m₂.input steps s₂).output p m₂.offset) place equal
        ∙ sym (ap (λ (xs : List Resolved). sample b (run_steps b m₂.input xs s₂).output q m₂.offset) split₂)
        ∙ sym r₂.sample_is

  -- ---- the whole lists, where no node ramps
  pub rest_same : {h₁ h₂ : Changing} {es₁ es₂ : List Entry} → Went f₁ h₁ es₁ → Went f₂ h₂ es₂ → nodes_of f₁ h₁ ≡ nodes_of f₂ h₂ → total a es₁ ≡ total b es₂
      → settings_from a 0 es₁ ≡ settings_from b 0 es₂ → AtRest (nodes_of f₁ h₁) × NoRampSet es₁ × NoRampSet es₂
      → ((i c : ℕ) → L i ≡ true → CarryEqual a b i c es₁ es₂) → written a q es₁ ≡ written b q es₂
  rest_same {h₁} {h₂} {es₁} {es₂} w₁ w₂ nodes_same sum alike rest carry = ext_get_or nan (written a q es₁) (written b q es₂) (l₁ ∙ sum ∙ sym l₂) (λ t h. each t (rw l₁ at h))
    where
      l₁ : length (written a q es₁) ≡ total a es₁
      l₁ = length_written f₁ q below₁ w₁

      l₂ : length (written b q es₂) ≡ total b es₂
      l₂ = length_written f₂ q below₂ w₂

      each : (t : ℕ) → t < total a es₁ → get_or (written a q es₁) t nan ≡ get_or (written b q es₂) t nan
      each t k₁ =
          let k₂ : t < total b es₂ = rw (← sum) k₁ in
          let z = same_moment a b (steps_of_plan f₁) (steps_of_plan f₂) es₁ es₂ (nodes_of f₁ h₁) (nodes_of f₂ h₂) t nodes_same alike rest in
          one_sample (moment_at a (steps_of_plan f₁) (nodes_of f₁ h₁) es₁ t) (moment_at b (steps_of_plan f₂) (nodes_of f₂ h₂) es₂ t) z.0 (inr z.1)
          (λ i c e. carried_heard a b (steps_of_plan f₁) (steps_of_plan f₂) i c es₁ es₂ (nodes_of f₁ h₁) (nodes_of f₂ h₂) (carry i c e) t k₁ k₂)
          (get_or (written a q es₁) t nan) (get_or (written b q es₂) t nan) (run_at f₁ q below₁ w₁ t k₁) (run_at f₂ q below₂ w₂ t k₂)
