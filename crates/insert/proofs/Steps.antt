-- The steps that an insert gives, and what the plan check says of them where the tables have grown by what it adds: 4 at the Output for a slot above 31; with a
-- return 4 at the first Patch for an input above 256, and 4 at the dry Send for a source span longer than the format's channels; else nothing. Assumes nothing.
use mathlib.Core.Path.{◌≡◌, refl, sym, ap, ◌∙◌}
use mathlib.Core.Bool.{Bool, true, false, cond}
use mathlib.Core.List.{List, [], ◌∷◌, ◌++◌}
use Prim.Native.Nat.{ℕ, zero, suc, ◌+◌, ◌-◌, ◌*◌, ◌≤◌, ◌<◌}
use native.Mathlib.Nat.{add-zero, mul-pos}
use native.Mathlib.Omega.{arith}
use lib.Count.{ones, ones_in}
use lib.Dec.{leb, ltb}
use lib.ListN.{length, get_or}
use borrow.Author.Tests.{ltb-true, ltb-false, leb-true, leb-false, le-leb, lt-leb}
use Rattle.lists.specs.Entries.{Disjoint}
use Rattle.refusal.specs.Tests.{refusal, test_at, first, Answer}
use Rattle.format.specs.Formats.{channels}
use Rattle.plan.specs.declared.Plan.{Plan}
use Rattle.plan.specs.declared.Span.{Span}
use Rattle.plan.specs.declared.Step.{Step}
use Rattle.plan.specs.declared.Step.TheVariants.{Patch, Gain, Clear, Send, Output}
use Rattle.plan.specs.Limits.{inputs, slots}
use Rattle.plan.specs.Words.{span, step_of, step_among, read_at}
use Rattle.plan.specs.Check.{named, outside, used, first_of}
use Rattle.plan.specs.Sound.{Inside, Narrow, Apart}
use Rattle.plan.proofs.Steps.{outside_none, wide_none, shares_none}
use Rattle.plan.proofs.Spans.{named_at, within_len}
use Rattle.plan.proofs.Parts.{tests_of}
use Rattle.builder.specs.Built.{BuilderCall}
use Rattle.builder.proofs.Given.{steps_given}
use Rattle.insert.specs.declared.InsertPoint.{InsertPoint}
use Rattle.insert.specs.Wiring.{patches, send, raw, ret, dry, wet, out, weights, dry_weights, insert_calls}
use Rattle.insert.proofs.Wired.{returned, by_return}
use Rattle.refusal.specs.declared.Reason.TheVariants.{OutsideTable}
use Rattle.std.specs.Prelude.{Ok, Err, Some}

-- ---- the steps

abbrev pub patch_steps : (input channel dst n : ℕ) → List Step → List Step
patch_steps input channel dst zero rest = rest
patch_steps input channel dst (suc n) rest = Patch input channel dst ∷ patch_steps input (suc channel) (suc dst) n rest

patches_steps : (cs : List BuilderCall) (input channel dst n : ℕ)
    → steps_given (patches input channel dst n ++ cs) ≡ patch_steps input channel dst n (steps_given cs)
unfolding read_at step_of step_among ones ones_in
patches_steps cs input channel dst zero = refl
patches_steps cs input channel dst (suc n) = ap (λ (ss : List Step). Patch input channel dst ∷ ss) (patches_steps cs input (suc channel) (suc dst) n)

module _ (p : Plan) (i : InsertPoint) where
  abbrev n : ℕ
  n = channels i.format

  abbrev pub send_steps : List Step
  send_steps = Send (p.nodes + 4) (dry p i) (out p i) (dry_weights p i) ∷ Send (p.nodes + 5) (wet p i) (out p i) (weights p i) ∷ []

  -- what follows the patches
  abbrev pub later_steps : List Step
  later_steps =
      Gain (p.nodes + 1) (raw p i) (ret p i)
      ∷ Gain (p.nodes + 2) i.src (dry p i)
      ∷ Gain (p.nodes + 3) (ret p i) (wet p i)
      ∷ Clear (out p i)
      ∷ send_steps

  abbrev pub return_steps : List Step
  return_steps = patch_steps (i.back.input - 1) (i.back.channel - 1) (p.buffers + n) n later_steps

  abbrev pub insert_steps : List Step
  insert_steps = Gain p.nodes i.src (send p i) ∷ Output (send p i) i.slot ∷ cond i.returns return_steps []

  pub insert_steps_lem : steps_given (insert_calls p i) ≡ insert_steps
  unfolding read_at step_of step_among ones ones_in
  insert_steps_lem =
      by_return p i
      (λ returns cs. steps_given cs ≡ Gain p.nodes i.src (send p i) ∷ Output (send p i) i.slot ∷ cond returns return_steps [])
      refl
      (ap (λ (ss : List Step). Gain p.nodes i.src (send p i) ∷ Output (send p i) i.slot ∷ ss)
      (patches_steps (returned p i) (i.back.input - 1) (i.back.channel - 1) (p.buffers + n) n))

-- an input that counts from 1
counted_from_one : (x : ℕ) → leb inputs (x - 1) ≡ ltb inputs x
counted_from_one x = go (ltb inputs x) refl
  where
    go : (b : Bool) → ltb inputs x ≡ b → leb inputs (x - 1) ≡ b
    go true e = let h = ltb-true inputs x e in le-leb inputs (x - 1) (omega arith)
    go false e = let h = ltb-false inputs x e in lt-leb inputs (x - 1) (omega arith)

-- ---- the tables: p as it was before, q and the index list as they are now

module _ (p q : Plan) (new : List ℕ) where
  -- the old entries name old buffers, m new ones fresh buffers in order, and the counts have room for them
  pub record Fresh (m : ℕ) : Type 0 where
    pub stale : (j : ℕ) → j < p.indices → get_or new j 0 < p.buffers
    pub fresh : (j : ℕ) → j < m → get_or new (p.indices + j) 0 ≡ p.buffers + j
    pub indices : p.indices + m ≤ q.indices
    pub buffers : p.buffers + m ≤ q.buffers

  -- what the tests of steps say, of which the first is step `place`
  abbrev pub decided : ℕ → List Step → Answer
  decided place ss = first (tests_of q new place (length ss) ss) (Ok tt)

  -- ---- one step that passes, and one that is outside its tables
  pass : (place : ℕ) (x : Step) (xs : List Step) → Inside q x → Narrow x → Apart new x → decided place (x ∷ xs) ≡ decided (place + 1) xs
  pass place x xs a b c = rw ((outside_none q x).1 a, (wide_none x).1 b, (shares_none new x).1 c)

  fails : (place : ℕ) (x : Step) (xs : List Step) → (Inside q x → ⊥) → decided place (x ∷ xs) ≡ Err (refusal OutsideTable (Some place))
  fails place x xs never = go (outside q x) refl
    where
      go : (b : Bool) → outside q x ≡ b → decided place (x ∷ xs) ≡ Err (refusal OutsideTable (Some place))
      go true e = rw e
      go false e = absurd (never ((outside_none q x).0 e))

  module _ {m : ℕ} (f : Fresh m) where
    -- ---- the buffers of an old span and of a fresh one, and of two fresh ones
    fresh_at : (a len j : ℕ) → a + len ≤ m → j < len → get_or (named new (span (p.indices + a) len)) j 0 ≡ p.buffers + (a + j)
    fresh_at a len j h l =
        let e : p.indices + a + j ≡ p.indices + (a + j) = omega arith in
        named_at new (span (p.indices + a) len) j l ∙ ap (λ (k : ℕ). get_or new k 0) e ∙ f.fresh (a + j) (omega arith)

    apart_stale : (s : Span) (a len : ℕ) → s.start + s.len ≤ p.indices → a + len ≤ m → Disjoint (named new s) (named new (span (p.indices + a) len))
    apart_stale s a len h k i j hi hj e =
        let li = within_len new s i hi in
        let lj = within_len new (span (p.indices + a) len) j hj in
        omega (arith, f.stale (s.start + i) (omega arith), named_at new s i li, e, fresh_at a len j k lj)

    apart_fresh : (a la b lb : ℕ) → b + lb ≤ m → a + la ≤ b → Disjoint (named new (span (p.indices + a) la)) (named new (span (p.indices + b) lb))
    apart_fresh a la b lb k h i j hi hj e =
        let li = within_len new (span (p.indices + a) la) i hi in
        let lj = within_len new (span (p.indices + b) lb) j hj in
        omega (arith, fresh_at a la i (omega arith) li, fresh_at b lb j k lj, e)

    -- ---- a Gain of few channels into fresh buffers: from an old span, and from fresh buffers before them
    module _ (place node b n : ℕ) (xs : List Step) (known : node < q.nodes) (room : b + n ≤ m) (few : n ≤ 12) where
      stale_gain : (s : Span) → s.start + s.len ≤ p.indices → decided place (Gain node s (span (p.indices + b) n) ∷ xs) ≡ decided (place + 1) xs
      stale_gain s h =
          let k = used s (span (p.indices + b) n) in
          pass place (Gain node s (span (p.indices + b) n)) xs
          (known, omega (arith, f.indices), omega (arith, f.indices)) (omega arith)
          (apart_stale (first_of k s) b k (omega arith) (omega arith))

      fresh_gain : (a : ℕ) → a + n ≤ b → decided place (Gain node (span (p.indices + a) n) (span (p.indices + b) n) ∷ xs) ≡ decided (place + 1) xs
      fresh_gain a h =
          let k = used (span (p.indices + a) n) (span (p.indices + b) n) in
          pass place (Gain node (span (p.indices + a) n) (span (p.indices + b) n)) xs
          (known, omega (arith, f.indices), omega (arith, f.indices)) (omega arith)
          (apart_fresh a k b k (omega arith) (omega arith))

    -- ---- the patches: all pass or, since they name one input, the first does not
    patches_pass : (input channel dst n place : ℕ) (rest : List Step) → input < inputs → dst + n ≤ q.buffers
        → decided place (patch_steps input channel dst n rest) ≡ decided (place + n) rest
    patches_pass input channel dst zero place rest h b = ap (λ (k : ℕ). decided k rest) (sym (add-zero place))
    patches_pass input channel dst (suc n) place rest h b =
        let e : place + 1 + n ≡ place + suc n = omega arith in
        pass place (Patch input channel dst) (patch_steps input (suc channel) (suc dst) n rest) (h, omega arith) tt tt
        ∙ patches_pass input (suc channel) (suc dst) n (place + 1) rest h (omega arith)
        ∙ ap (λ (k : ℕ). decided k rest) e

    patches_decide : (input channel dst n place : ℕ) (rest : List Step) → 1 ≤ n → dst + n ≤ q.buffers
        → decided place (patch_steps input channel dst n rest) ≡ first (test_at place OutsideTable (leb inputs input) ∷ []) (decided (place + n) rest)
    patches_decide input channel dst zero place rest some room = absurd (omega arith)
    patches_decide input channel dst (suc n) place rest some room = go (leb inputs input) refl
      where
        go : (b : Bool) → leb inputs input ≡ b
            → decided place (patch_steps input channel dst (suc n) rest) ≡ first (test_at place OutsideTable b ∷ []) (decided (place + suc n) rest)
        go true e =
            let h = leb-true inputs input e in
            fails place (Patch input channel dst) (patch_steps input (suc channel) (suc dst) n rest) (λ inside. omega (arith, h, inside.0))
        go false e = patches_pass input channel dst (suc n) place rest (leb-false inputs input e) room

    -- ---- the insert
    module _ (i : InsertPoint) (few : channels i.format ≤ 12) (old : i.src.start + i.src.len ≤ p.indices) where
      abbrev width : ℕ
      width = channels i.format

      -- the send gain passes, and the Output where its slot is one
      pub sent_decides : (place : ℕ) (rest : List Step) → width ≤ m → p.nodes < q.nodes
          → decided place (Gain p.nodes i.src (send p i) ∷ Output (send p i) i.slot ∷ rest)
          ≡ first (test_at (place + 1) OutsideTable (leb slots i.slot) ∷ []) (decided (place + 1 + 1) rest)
      sent_decides place rest room known =
          let output = Output (send p i) i.slot in
          rw (add-zero p.indices) at (stale_gain place p.nodes 0 width (output ∷ rest) known (omega arith) few i.src old)
          ∙ go (leb slots i.slot) refl
        where
          go : (b : Bool) → leb slots i.slot ≡ b
              → decided (place + 1) (Output (send p i) i.slot ∷ rest) ≡ first (test_at (place + 1) OutsideTable b ∷ []) (decided (place + 1 + 1) rest)
          go true e =
              let h = leb-true slots i.slot e in
              fails (place + 1) (Output (send p i) i.slot) rest (λ inside. omega (arith, h, inside.1))
          go false e = pass (place + 1) (Output (send p i) i.slot) rest (omega (arith, f.indices), leb-false slots i.slot e) tt tt

      module _ (some : 1 ≤ width) (room : 6 * width ≤ m) (nodes : p.nodes + 6 ≤ q.nodes) (table : p.coefficients + width * width ≤ q.coefficients) where
        send_passes : (place node a : ℕ) (xs : List Step) → node < q.nodes → a + width ≤ 5 * width
            → decided place (Send node (span (p.indices + a) width) (out p i) (weights p i) ∷ xs) ≡ decided (place + 1) xs
        send_passes place node a xs known h =
            pass place (Send node (span (p.indices + a) width) (out p i) (weights p i)) xs
            (known, omega (arith, f.indices), omega (arith, f.indices), table, omega arith) tt
            (apart_fresh a width (5 * width) width (omega arith) h)

        -- the dry Send asks for n × n weights, and has none where the source span is longer than the format's channels
        sends_decide : (place : ℕ) → decided place (send_steps p i) ≡ first (test_at place OutsideTable (ltb width i.src.len) ∷ []) (Ok tt)
        sends_decide place = go (ltb width i.src.len)
          where
            wet_send : Step
            wet_send = Send (p.nodes + 5) (wet p i) (out p i) (weights p i)

            go : (b : Bool)
                → decided place (Send (p.nodes + 4) (dry p i) (out p i) (span p.coefficients (cond b 0 (width * width))) ∷ wet_send ∷ [])
                ≡ first (test_at place OutsideTable b ∷ []) (Ok tt)
            go true =
                let more : 0 < width * width = mul-pos some some in
                fails place (Send (p.nodes + 4) (dry p i) (out p i) (span p.coefficients 0)) (wet_send ∷ []) (λ inside. omega (arith, more, inside.4))
            go false =
                send_passes place (p.nodes + 4) (3 * width) (wet_send ∷ []) (omega arith) (omega arith)
                ∙ send_passes (place + 1) (p.nodes + 5) (4 * width) [] (omega arith) (omega arith)

        later_decide : (place : ℕ) → decided place (later_steps p i) ≡ first (test_at (place + 4) OutsideTable (ltb width i.src.len) ∷ []) (Ok tt)
        later_decide place =
            let e : place + 1 + 1 + 1 + 1 ≡ place + 4 = omega arith in
            let sends = send_steps p i in
            let clear : List Step = Clear (out p i) ∷ sends in
            let wets : List Step = Gain (p.nodes + 3) (ret p i) (wet p i) ∷ clear in
            let drys : List Step = Gain (p.nodes + 2) i.src (dry p i) ∷ wets in
            fresh_gain place (p.nodes + 1) (2 * width) width drys (omega arith) (omega arith) few (1 * width) (omega arith)
            ∙ stale_gain (place + 1) (p.nodes + 2) (3 * width) width wets (omega arith) (omega arith) few i.src old
            ∙ fresh_gain (place + 1 + 1) (p.nodes + 3) (4 * width) width clear (omega arith) (omega arith) few (2 * width) (omega arith)
            ∙ pass (place + 1 + 1 + 1) (Clear (out p i)) sends (omega (arith, f.indices)) tt tt
            ∙ sends_decide (place + 1 + 1 + 1 + 1)
            ∙ ap (λ (k : ℕ). first (test_at k OutsideTable (ltb width i.src.len) ∷ []) (Ok tt)) e

        -- the return: its input, which counts from 1, and the source span
        pub return_decides : (place : ℕ)
            → decided place (return_steps p i)
            ≡ first (test_at place OutsideTable (ltb inputs i.back.input) ∷ test_at (place + width + 4) OutsideTable (ltb width i.src.len) ∷ []) (Ok tt)
        return_decides place =
            patches_decide (i.back.input - 1) (i.back.channel - 1) (p.buffers + width) width place (later_steps p i) some (omega (arith, f.buffers))
            ∙ rw (counted_from_one i.back.input, later_decide (place + width))
