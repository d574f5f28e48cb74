-- One block of a clean plan, in two runs side by side: a channel of slot s has the same sample in both where the listed inputs have.
-- Assumes nothing.
use mathlib.Core.Path.{◌≡◌, refl, sym, ap, ◌∙◌, subst}
use mathlib.Core.Bool.{Bool, true, false, ◌&&◌, ◌||◌, cond}
use mathlib.Core.List.{List, [], ◌∷◌, ◌++◌}
use Prim.Native.Nat.{ℕ, suc, ◌+◌, ◌*◌, ◌≤◌, ◌<◌}
use native.Mathlib.Nat.{zero-add, add-mul, mul-le-mul_right, suc-mul}
use native.Mathlib.Omega.{arith}
use lib.Dec.{eqb, leb}
use lib.ListN.{length, get_or}
use lib.Ieee.{Float, nan}
use borrow.Author.Tests.{eqb-true, eqb-false, eq-eqb, leb-true}
use Rattle.lists.specs.Entries.{has}
use Rattle.std.proofs.lemmas.Bool.{and_parts, or_left, or_right, and_from}
use Rattle.node.specs.declared.Node.{Node}
use Rattle.node.specs.declared.Gain.{Gain}
use Rattle.node.specs.Nodes.{gain_of}
use Rattle.node.specs.Areas.{node_at}
use Rattle.mix.specs.Samples.{sample, put}
use Rattle.mix.specs.Mix.{gained, rows, sends, cleared, patched}
use Rattle.mix.proofs.Laws.{not_used, gained_other, rows_other, sends_other, cleared_other, appended_at, appended_before}
use Rattle.mix.proofs.Put.{put_other}
use Rattle.plan.specs.Resolved.{Resolved, patch, gain, matrix, clear, send, output, channels_out}
use Rattle.trace.specs.Sources.{union, spread, joins, behind}
use Rattle.trace.specs.Clean.{written_after, all, clean_step, clean_from}
use Rattle.run.specs.Run.{State, stepped, run_steps, output_channels}
use Rattle.run.proofs.States.{step_lengths}
use Rattle.run.proofs.Outputs.{channels_more, wrote_out}
use Rattle.theorem.proofs.Agree.{All, all_at, Agree, BufferRoom, Paired, gained_paired, rows_paired, sends_paired, cleared_paired, patch_paired}
use Rattle.theorem.proofs.Steps.{InPlan, none_of, SameNodes, even, nodes_step, room_step}

-- of each step
abbrev pub Every : (Resolved → Type 0) → List Resolved → Type 0
Every P [] = Unit {0}
Every P (x ∷ xs) = P x × Every P xs

-- ---- what is written to the output stays
module _ (block : ℕ) (input : ℕ → ℕ → List Float) where
  step_before : (x : Resolved) (s : State) (i : ℕ) → i < s.wrote → get_or (stepped block input x s).output i nan ≡ get_or s.output i nan
  unfolding stepped
  step_before (patch j c d) s i h = refl
  step_before (gain n src dst) s i h = refl
  step_before (matrix n src dst) s i h = refl
  step_before (clear dst) s i h = refl
  step_before (send n src dst weights) s i h = refl
  step_before (output src slot) s i h = appended_before block s.buffers src s.wrote s.output i h

  steps_before_lem : (xs : List Resolved) (s : State) (i : ℕ) → i < s.wrote → get_or (run_steps block input xs s).output i nan ≡ get_or s.output i nan
  unfolding run_steps
  steps_before_lem [] s i h = refl
  steps_before_lem (x ∷ xs) s i h =
      steps_before_lem xs (stepped block input x s) i (omega (arith, wrote_out block input x s)) ∙ step_before x s i h

  -- sample k of channel c of an Output, in the output area after the run; q blocks were written before it
  pub output_sample : (src : List ℕ) (slot : ℕ) (after : List Resolved) (s : State) (q c k : ℕ) → s.wrote ≡ q * block → c < length src → k < block
      → (q + length src) * block ≤ length s.output
      → sample block (run_steps block input (output src slot ∷ after) s).output (q + c) k ≡ sample block s.buffers (get_or src c 0) k
  unfolding run_steps stepped
  output_sample src slot after s q c k w h l room =
      let t : State = stepped block input (output src slot) s in
      let place : (q + c) * block + k ≡ s.wrote + c * block + k = rw (add-mul q c block, w) refl in
      let fits : suc c * block ≤ length src * block = mul-le-mul_right block h in
      let inside : (q + c) * block + k < s.wrote + length src * block = omega (arith, place, suc-mul c block) in
      steps_before_lem after t ((q + c) * block + k) inside
      ∙ ap (λ (i : ℕ). get_or t.output i nan) place
      ∙ appended_at block s.buffers src s.wrote s.output c k h l (omega (arith, add-mul q (length src) block))

fewer : (q u v block len : ℕ) → (q + (u + v)) * block ≤ len → (q + u) * block ≤ len
fewer q u v block len h = omega (arith, add-mul q u block, add-mul q (u + v) block, add-mul u v block)

-- one list of inputs is within another
abbrev pub Within : (ℕ → Bool) → (ℕ → Bool) → Type 0
Within A L = (i : ℕ) → A i ≡ true → L i ≡ true

module _ (count m b₁ k₁ b₂ k₂ : ℕ) (h₁ : k₁ < b₁) (h₂ : k₂ < b₂) (input₁ input₂ : ℕ → ℕ → List Float) (L : ℕ → Bool)
    (heard : (i c : ℕ) → L i ≡ true → patched b₁ (input₁ i c) k₁ ≡ patched b₂ (input₂ i c) k₂) where
  -- every buffer that is written and whose inputs are all listed has the same sample in both
  abbrev Listed : (ℕ → ℕ → Bool) → (ℕ → Bool) → List Float → List Float → Type 0
  Listed sources w area₁ area₂ = (b : ℕ) → w b ≡ true → Within (sources b) L → Agree b₁ k₁ b₂ k₂ h₁ h₂ area₁ area₂ b

  abbrev Same : List Float → List Float → ℕ → Type 0
  Same = Agree b₁ k₁ b₂ k₂ h₁ h₂

  module _ (sources : ℕ → ℕ → Bool) (w : ℕ → Bool) (area₁ area₂ : List Float) (inv : Listed sources w area₁ area₂) where
    -- sources that are written and whose inputs are all listed
    all_same : (src : List ℕ) → all w src ≡ true → Within (union sources src) L → All (Same area₁ area₂) src
    unfolding all union
    all_same [] e u = tt
    all_same (s ∷ src) e u =
        let h = and_parts (w s) (all w src) e in (
          inv s h.0 (λ i p. u i (or_left (sources s i) (union sources src i) p)),
          all_same src h.1 (λ i p. u i (or_right (sources s i) (union sources src i) p)),
        )

    -- Gain, Matrix and Clear: every dst gets the union of src
    anew : (src dst : List ℕ) (new₁ new₂ : List Float)
        → (All (Same area₁ area₂) src → Paired b₁ k₁ b₂ k₂ h₁ h₂ m (λ b. has dst b ≡ true) area₁ area₂ new₁ new₂)
        → ((b : ℕ) → has dst b ≡ false → (sample b₁ new₁ b k₁ ≡ sample b₁ area₁ b k₁) × (sample b₂ new₂ b k₂ ≡ sample b₂ area₂ b k₂))
        → all w src ≡ true
        → (b : ℕ) → (has dst b || w b) ≡ true → Within (λ i. cond (has dst b) (union sources src i) (sources b i)) L → Same new₁ new₂ b
    anew src dst new₁ new₂ pair other e b v u = go (has dst b) refl v u
      where
        go : (r : Bool) → has dst b ≡ r → (r || w b) ≡ true → Within (λ i. cond r (union sources src i) (sources b i)) L → Same new₁ new₂ b
        go true p v u = (pair (all_same src e u)).made b p
        go false p v u = (other b p).0 ∙ inv b v u ∙ sym (other b p).1

    -- Send adds
    more : (src dst : List ℕ) (new₁ new₂ : List Float)
        → (All (Same area₁ area₂) src → Paired b₁ k₁ b₂ k₂ h₁ h₂ m (λ b. ⊥) area₁ area₂ new₁ new₂)
        → ((b : ℕ) → has dst b ≡ false → (sample b₁ new₁ b k₁ ≡ sample b₁ area₁ b k₁) × (sample b₂ new₂ b k₂ ≡ sample b₂ area₂ b k₂))
        → all w src ≡ true
        → (b : ℕ) → w b ≡ true → Within (λ i. cond (has dst b) (sources b i || union sources src i) (sources b i)) L → Same new₁ new₂ b
    more src dst new₁ new₂ pair other e b v u = go (has dst b) refl u
      where
        go : (r : Bool) → has dst b ≡ r → Within (λ i. cond r (sources b i || union sources src i) (sources b i)) L → Same new₁ new₂ b
        go true p u =
            (pair (all_same src e (λ i q. u i (or_right (sources b i) (union sources src i) q)))).kept b
            (inv b v (λ i q. u i (or_left (sources b i) (union sources src i) q)))
        go false p u = (other b p).0 ∙ inv b v u ∙ sym (other b p).1

    -- Patch replaces
    patched_same : (j c d : ℕ) → d < m → BufferRoom b₁ k₁ b₂ k₂ h₁ h₂ m area₁ area₂
        → (b : ℕ) → (eqb b d || w b) ≡ true → Within (λ i. cond (eqb b d) (eqb i j) (sources b i)) L
        → Same (put b₁ d (patched b₁ (input₁ j c)) area₁) (put b₂ d (patched b₂ (input₂ j c)) area₂) b
    patched_same j c d below room b v u = go (eqb b d) refl v u
      where
        go : (r : Bool) → eqb b d ≡ r → (r || w b) ≡ true → Within (λ i. cond r (eqb i j) (sources b i)) L
            → Same (put b₁ d (patched b₁ (input₁ j c)) area₁) (put b₂ d (patched b₂ (input₂ j c)) area₂) b
        go true p v u =
            (patch_paired b₁ k₁ b₂ k₂ h₁ h₂ m d (patched b₁ (input₁ j c)) (patched b₂ (input₂ j c)) area₁ area₂ room below (heard j c (u j (eq-eqb j j refl)))).made b
            (eqb-true b d p)
        go false p v u =
            put_other b₁ d _ area₁ b k₁ (eqb-false b d p) h₁ ∙ inv b v u ∙ sym (put_other b₂ d _ area₂ b k₂ (eqb-false b d p) h₂)

  -- ---- a step keeps it
  module _ (sources : ℕ → ℕ → Bool) (w : ℕ → Bool) (s₁ s₂ : State) (t : SameNodes count m b₁ k₁ b₂ k₂ h₁ h₂ s₁ s₂)
      (room : BufferRoom b₁ k₁ b₂ k₂ h₁ h₂ m s₁.buffers s₂.buffers) (inv : Listed sources w s₁.buffers s₂.buffers) where
    abbrev gains₁ : ℕ → ℕ → Gain
    gains₁ n i = gain_of (node_at s₁.floats s₁.words n) i

    step_listed : (x : Resolved) → InPlan count m x → clean_step w x ≡ true
        → Listed (spread sources x) (written_after w x) (stepped b₁ input₁ x s₁).buffers (stepped b₂ input₂ x s₂).buffers
    unfolding stepped clean_step spread written_after union all
    step_listed (patch j c d) o e b v u = patched_same sources w s₁.buffers s₂.buffers inv j c d o.1.0 room b v u
    step_listed (gain n src dst) o e b v u =
        let c = and_parts (leb (length dst) (length src)) (all w src) e in
        subst (λ (node : Node). Same (gained b₁ (gains₁ n) 0 src dst s₁.buffers) (gained b₂ (λ i. gain_of node i) 0 src dst s₂.buffers) b) (t.same n o.0.0)
        (anew sources w s₁.buffers s₂.buffers inv src dst (gained b₁ (gains₁ n) 0 src dst s₁.buffers) (gained b₂ (gains₁ n) 0 src dst s₂.buffers)
        (λ a. gained_paired b₁ k₁ b₂ k₂ h₁ h₂ m (gains₁ n) (even count m b₁ k₁ b₂ k₂ h₁ h₂ s₁.floats s₁.words t.steady n o.0.0) 0 src dst s₁.buffers s₂.buffers room o.1 a
        (leb-true (length dst) (length src) c.0))
        (λ b p. let q = not_used dst src (none_of dst b p) in (gained_other b₁ b k₁ h₁ _ 0 src dst s₁.buffers q, gained_other b₂ b k₂ h₂ _ 0 src dst s₂.buffers q))
        c.1 b v u)
    step_listed (matrix n src dst) o e b v u =
        subst (λ (node : Node). Same (rows b₁ (gains₁ n) 0 src dst s₁.buffers) (rows b₂ (λ i. gain_of node i) 0 src dst s₂.buffers) b) (t.same n o.0.0)
        (anew sources w s₁.buffers s₂.buffers inv src dst (rows b₁ (gains₁ n) 0 src dst s₁.buffers) (rows b₂ (gains₁ n) 0 src dst s₂.buffers)
        (λ a. rows_paired b₁ k₁ b₂ k₂ h₁ h₂ m (gains₁ n) (even count m b₁ k₁ b₂ k₂ h₁ h₂ s₁.floats s₁.words t.steady n o.0.0) 0 src dst s₁.buffers s₂.buffers room o.1 a)
        (λ b p. let q = none_of dst b p in (rows_other b₁ b k₁ h₁ _ 0 src dst s₁.buffers q, rows_other b₂ b k₂ h₂ _ 0 src dst s₂.buffers q))
        e b v u)
    step_listed (clear dst) o e b v u =
        anew sources w s₁.buffers s₂.buffers inv [] dst (cleared b₁ dst s₁.buffers) (cleared b₂ dst s₂.buffers)
        (λ a. cleared_paired b₁ k₁ b₂ k₂ h₁ h₂ m dst s₁.buffers s₂.buffers room o.1)
        (λ b p. let q = none_of dst b p in (cleared_other b₁ b k₁ h₁ dst s₁.buffers q, cleared_other b₂ b k₂ h₂ dst s₂.buffers q))
        refl b v u
    step_listed (send n src dst weights) o e b v u =
        let c = and_parts (all w src) (all w dst) e in
        subst (λ (node : Node). Same (sends b₁ (gains₁ n 0) weights 0 src dst s₁.buffers) (sends b₂ (gain_of node 0) weights 0 src dst s₂.buffers) b) (t.same n o.0.0)
        (more sources w s₁.buffers s₂.buffers inv src dst (sends b₁ (gains₁ n 0) weights 0 src dst s₁.buffers) (sends b₂ (gains₁ n 0) weights 0 src dst s₂.buffers)
        (λ a. sends_paired b₁ k₁ b₂ k₂ h₁ h₂ m (gains₁ n 0) (even count m b₁ k₁ b₂ k₂ h₁ h₂ s₁.floats s₁.words t.steady n o.0.0 0) weights 0 src dst s₁.buffers s₂.buffers room o.1 a)
        (λ b p. let q = none_of dst b p in (sends_other b₁ b k₁ h₁ _ weights 0 src dst s₁.buffers q, sends_other b₂ b k₂ h₂ _ weights 0 src dst s₂.buffers q))
        c.0 b v u)
    step_listed (output src slot) o e b v u = inv b v u

  -- ---- a block: steps before an Output to slot s, that Output, and steps after it
  module _ (s : ℕ) (src : List ℕ) (after : List Resolved) (c : ℕ) (inside : c < length src) where
    -- what is still to be said where q blocks are written
    pub record Going (sources : ℕ → ℕ → Bool) (w : ℕ → Bool) (xs : List Resolved) (q : ℕ) (s₁ s₂ : State) : Type 0 where
      pub nodes : SameNodes count m b₁ k₁ b₂ k₂ h₁ h₂ s₁ s₂
      pub room : BufferRoom b₁ k₁ b₂ k₂ h₁ h₂ m s₁.buffers s₂.buffers
      pub listed : Listed sources w s₁.buffers s₂.buffers
      pub clean : clean_from w xs ≡ true
      pub within : Within (behind s sources xs) L
      pub in_plan : Every (InPlan count m) xs
      pub wrote₁ : s₁.wrote ≡ q * b₁
      pub wrote₂ : s₂.wrote ≡ q * b₂
      pub room₁ : (q + output_channels xs) * b₁ ≤ length s₁.output
      pub room₂ : (q + output_channels xs) * b₂ ≤ length s₂.output

    -- one step on
    going_on : (sources : ℕ → ℕ → Bool) (w : ℕ → Bool) (x : Resolved) (xs : List Resolved) (q : ℕ) (s₁ s₂ : State) → Going sources w (x ∷ xs) q s₁ s₂
        → Going (spread sources x) (written_after w x) xs (q + channels_out x) (stepped b₁ input₁ x s₁) (stepped b₂ input₂ x s₂)
    unfolding clean_from behind
    going_on sources w x xs q s₁ s₂ g =
        let e = and_parts (clean_step w x) (clean_from (written_after w x) xs) g.clean in
        let n : q + channels_out x + output_channels xs ≡ q + output_channels (x ∷ xs) = rw (channels_more x xs) (omega arith) in
        record {
          nodes = nodes_step count m b₁ k₁ b₂ k₂ h₁ h₂ input₁ input₂ s₁ s₂ g.nodes x g.in_plan.0;
          room = room_step count m b₁ k₁ b₂ k₂ h₁ h₂ input₁ input₂ s₁ s₂ g.nodes x g.room;
          listed = step_listed sources w s₁ s₂ g.nodes g.room g.listed x g.in_plan.0 e.0;
          clean = e.1;
          within = λ i p. g.within i (or_right (joins s sources x i) (behind s (spread sources x) xs i) p);
          in_plan = g.in_plan.1;
          wrote₁ = wrote_out b₁ input₁ x s₁ ∙ ap (λ (k : ℕ). k + channels_out x * b₁) g.wrote₁ ∙ sym (add-mul q (channels_out x) b₁);
          wrote₂ = wrote_out b₂ input₂ x s₂ ∙ ap (λ (k : ℕ). k + channels_out x * b₂) g.wrote₂ ∙ sym (add-mul q (channels_out x) b₂);
          room₁ = rw ((step_lengths b₁ input₁ x s₁).output, n) g.room₁;
          room₂ = rw ((step_lengths b₂ input₂ x s₂).output, n) g.room₂;
        }

    -- the Output's own sources have the same sample
    own_same : (sources : ℕ → ℕ → Bool) (w : ℕ → Bool) (q : ℕ) (s₁ s₂ : State) → Going sources w (output src s ∷ after) q s₁ s₂ → All (Same s₁.buffers s₂.buffers) src
    unfolding clean_from clean_step behind joins has
    own_same sources w q s₁ s₂ g =
        all_same sources w s₁.buffers s₂.buffers g.listed src (and_parts (all w src) (clean_from (written_after w (output src s)) after) g.clean).0
        (λ i p. g.within i
        (or_left (has (s ∷ []) s && union sources src i) (behind s (spread sources (output src s)) after i)
        (and_from (has (s ∷ []) s) (union sources src i) (or_left (eqb s s) false (eq-eqb s s refl)) p)))

    pub same_sample : (before : List Resolved) (sources : ℕ → ℕ → Bool) (w : ℕ → Bool) (q : ℕ) (s₁ s₂ : State) → Going sources w (before ++ output src s ∷ after) q s₁ s₂
        → sample b₁ (run_steps b₁ input₁ (before ++ output src s ∷ after) s₁).output (q + (output_channels before + c)) k₁
        ≡ sample b₂ (run_steps b₂ input₂ (before ++ output src s ∷ after) s₂).output (q + (output_channels before + c)) k₂
    unfolding run_steps output_channels
    same_sample [] sources w q s₁ s₂ g =
        let r₁ = fewer q (length src) (output_channels after) b₁ (length s₁.output) g.room₁ in
        let r₂ = fewer q (length src) (output_channels after) b₂ (length s₂.output) g.room₂ in
        let z : 0 + c ≡ c = zero-add c in
        rw z
        (output_sample b₁ input₁ src s after s₁ q c k₁ g.wrote₁ inside h₁ r₁
        ∙ all_at (Same s₁.buffers s₂.buffers) src c inside (own_same sources w q s₁ s₂ g)
        ∙ sym (output_sample b₂ input₂ src s after s₂ q c k₂ g.wrote₂ inside h₂ r₂))
    same_sample (x ∷ before) sources w q s₁ s₂ g =
        let n : q + channels_out x + (output_channels before + c) ≡ q + (output_channels (x ∷ before) + c) = rw (channels_more x before) (omega arith) in
        let out₁ = (run_steps b₁ input₁ (before ++ output src s ∷ after) (stepped b₁ input₁ x s₁)).output in
        let out₂ = (run_steps b₂ input₂ (before ++ output src s ∷ after) (stepped b₂ input₂ x s₂)).output in
        subst (λ (p : ℕ). sample b₁ out₁ p k₁ ≡ sample b₂ out₂ p k₂) n
        (same_sample before (spread sources x) (written_after w x) (q + channels_out x) (stepped b₁ input₁ x s₁) (stepped b₂ input₂ x s₂)
        (going_on sources w x (before ++ output src s ∷ after) q s₁ s₂ g))
