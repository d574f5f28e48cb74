-- The inputs behind a slot: they do not go by the coefficients, each is the input of a Patch, and the list behind the slot has exactly them,
-- ascending. That the slots and the clean answer do not go by the coefficients either stands here too. Assumes nothing.
use mathlib.Core.Path.{◌≡◌, refl, sym, ap, ◌∙◌}
use mathlib.Core.Bool.{Bool, true, false, ◌&&◌, ◌||◌, cond, false≢true}
use mathlib.Core.List.{List, [], ◌∷◌, map}
use Prim.Native.Nat.{ℕ, zero, suc, ◌<◌, ◌≤◌}
use native.Mathlib.Omega.{arith}
use lib.Dec.{eqb}
use lib.ListN.{length, get_or}
use lib.Ieee.{Float}
use borrow.Author.Tests.{eqb-true, eq-eqb}
use Rattle.lists.specs.Entries.{has, AllBelow}
use Rattle.sets.specs.Sets.{sift}
use Rattle.sets.proofs.Sift.{sift_same, sift_entry, sift_ascends, sift_lists}
use Rattle.plan.specs.declared.Plan.{Plan}
use Rattle.plan.specs.declared.Step.{Step}
use Rattle.plan.specs.Limits.{inputs, slots}
use Rattle.plan.specs.Sound.{Inside, Each, steps_of, Sound}
use Rattle.plan.specs.Resolved.{Resolved, patch, gain, matrix, clear, send, output, resolved, resolved_steps, input_named, slot_named, src_of}
use Rattle.plan.proofs.Named.{input_inside, slot_inside, weights_idle}
use Rattle.trace.specs.Sources.{no_sources, union, spread, joins, behind, source_list, slots_to, slot_count}
use Rattle.trace.specs.Clean.{none_written, written_after, clean_step, clean_from, clean}
use Rattle.trace.specs.Calls.{traced_steps}

-- ---- no coefficient is read
module _ (p : Plan) (indices : List ℕ) (xs ys : List Float) where
  idle : {A : Type 0} (f : Resolved → A) → ((n : ℕ) (src dst : List ℕ) (u v : List Float) → f (send n src dst u) ≡ f (send n src dst v)) → (x : Step)
      → f (resolved p indices xs x) ≡ f (resolved p indices ys x)
  idle = weights_idle p indices xs ys

  behind_alike : (s : ℕ) (sources : ℕ → ℕ → Bool) (ss : List Step) (i : ℕ)
      → behind s sources (map (resolved p indices xs) ss) i ≡ behind s sources (map (resolved p indices ys) ss) i
  unfolding behind spread joins
  behind_alike s sources [] i = refl
  behind_alike s sources (x ∷ ss) i =
      let rest = map (resolved p indices xs) ss in
      ap (λ (b : Bool). b || behind s (spread sources (resolved p indices xs x)) rest i) (idle (λ (y : Resolved). joins s sources y i) (λ n a d u v. refl) x)
      ∙ ap (λ (f : ℕ → ℕ → Bool). joins s sources (resolved p indices ys x) i || behind s f rest i) (idle (spread sources) (λ n a d u v. refl) x)
      ∙ ap (λ (b : Bool). joins s sources (resolved p indices ys x) i || b) (behind_alike s (spread sources (resolved p indices ys x)) ss i)

  count_alike : (ss : List Step) → slot_count (map (resolved p indices xs) ss) ≡ slot_count (map (resolved p indices ys) ss)
  unfolding slot_count
  count_alike [] = refl
  count_alike (x ∷ ss) = rw (idle slot_named (λ n a d u v. refl) x, count_alike ss)

  clean_alike : (w : ℕ → Bool) (ss : List Step) → clean_from w (map (resolved p indices xs) ss) ≡ clean_from w (map (resolved p indices ys) ss)
  unfolding clean_from clean_step written_after
  clean_alike w [] = refl
  clean_alike w (x ∷ ss) =
      let rest = map (resolved p indices xs) ss in
      ap (λ (b : Bool). b && clean_from (written_after w (resolved p indices xs x)) rest) (idle (clean_step w) (λ n a d u v. refl) x)
      ∙ ap (λ (f : ℕ → Bool). clean_step w (resolved p indices ys x) && clean_from f rest) (idle (written_after w) (λ n a d u v. refl) x)
      ∙ ap (λ (b : Bool). clean_step w (resolved p indices ys x) && b) (clean_alike (written_after w (resolved p indices ys x)) ss)

-- so the trace, which is lent none, goes over the steps that a run goes over
module _ (p : Plan) (indices : List ℕ) (xs : List Float) (steps : List ℕ) where
  abbrev run : List Resolved
  run = resolved_steps p indices xs steps

  pub traced_behind : (s i : ℕ) → behind s no_sources run i ≡ behind s no_sources (traced_steps p indices steps) i
  traced_behind s i = behind_alike p indices xs [] s no_sources (steps_of p steps) i

  pub traced_coefficients : (s : ℕ) → source_list s run ≡ source_list s (traced_steps p indices steps)
  unfolding source_list
  traced_coefficients s =
      sift_same (behind s no_sources run) (behind s no_sources (traced_steps p indices steps)) 0 inputs (λ i h l. traced_behind s i)

  pub traced_count : slot_count run ≡ slot_count (traced_steps p indices steps)
  traced_count = count_alike p indices xs [] (steps_of p steps)

  pub traced_clean : clean run ≡ clean (traced_steps p indices steps)
  unfolding clean
  traced_clean = clean_alike p indices xs [] none_written (steps_of p steps)

-- ---- every input of a Patch is below 256, as it is in a plan that was accepted
abbrev pub Known : List Resolved → Type 0
Known [] = Unit {0}
Known (x ∷ xs) = AllBelow inputs (input_named x) × Known xs

pub inside_known : (p : Plan) (indices : List ℕ) (xs : List Float) (ss : List Step) → Each (Inside p) ss → Known (map (resolved p indices xs) ss)
inside_known p indices xs [] e = tt
inside_known p indices xs (x ∷ ss) e = (input_inside p indices xs x e.0, inside_known p indices xs ss e.1)

-- and every slot of an Output below 32, and so at most 32 slots
slots_below : (n : ℕ) (ss : List ℕ) → AllBelow n ss → slots_to ss ≤ n
slots_below n [] h = omega arith
slots_below n (s ∷ ss) h = omega (arith, h.0, slots_below n ss h.1)

pub inside_slots : (p : Plan) (indices : List ℕ) (xs : List Float) (ss : List Step) → Each (Inside p) ss → slot_count (map (resolved p indices xs) ss) ≤ slots
unfolding slot_count
inside_slots p indices xs [] e = omega arith
inside_slots p indices xs (x ∷ ss) e =
    omega (arith, slots_below slots (slot_named (resolved p indices xs x)) (slot_inside p indices xs x e.0), inside_slots p indices xs ss e.1)

pub sound_known : {p : Plan} {short : Bool} {indices words steps : List ℕ} (xs : List Float) → Sound p short indices words steps
    → Known (resolved_steps p indices xs steps)
sound_known {p} {short} {indices} {words} {steps} xs s = inside_known p indices xs (steps_of p steps) s.inside

-- ---- then so is every input behind a slot
abbrev pub Low : (ℕ → ℕ → Bool) → Type 0
Low sources = (b i : ℕ) → sources b i ≡ true → i < inputs

either : (r x y : Bool) {P : Type 0} → (x ≡ true → P) → (y ≡ true → P) → cond r x y ≡ true → P
either true x y f g e = f e
either false x y f g e = g e

joint : (x y : Bool) {P : Type 0} → (x ≡ true → P) → (y ≡ true → P) → (x || y) ≡ true → P
joint true y f g e = f e
joint false y f g e = g e

module _ (sources : ℕ → ℕ → Bool) (l : Low sources) where
  union_low : (src : List ℕ) (i : ℕ) → union sources src i ≡ true → i < inputs
  unfolding union
  union_low [] i e = absurd (false≢true e)
  union_low (s ∷ src) i e = joint (sources s i) (union sources src i) (l s i) (union_low src i) e

-- one step: its sets, and what it adds to a slot
spread_low : (sources : ℕ → ℕ → Bool) (x : Resolved) → Low sources → AllBelow inputs (input_named x) → Low (spread sources x)
unfolding spread
spread_low sources (patch n c d) l k b j = either (eqb b d) (eqb j n) (sources b j) (λ q. rw (eqb-true j n q) k.0) (l b j)
spread_low sources (gain n a d) l k b j = either (has d b) (union sources a j) (sources b j) (union_low sources l a j) (l b j)
spread_low sources (matrix n a d) l k b j = either (has d b) (union sources a j) (sources b j) (union_low sources l a j) (l b j)
spread_low sources (clear d) l k b j = either (has d b) false (sources b j) (λ q. absurd (false≢true q)) (l b j)
spread_low sources (send n a d w) l k b j =
    either (has d b) (sources b j || union sources a j) (sources b j) (joint (sources b j) (union sources a j) (l b j) (union_low sources l a j)) (l b j)
spread_low sources (output a o) l k b j = l b j

joins_low : (s : ℕ) (sources : ℕ → ℕ → Bool) (x : Resolved) → Low sources → (i : ℕ) → joins s sources x i ≡ true → i < inputs
unfolding joins
joins_low s sources x l i e = union_low sources l (src_of x) i (and_right (has (slot_named x) s) e)
  where
    and_right : (t : Bool) → (t && union sources (src_of x) i) ≡ true → union sources (src_of x) i ≡ true
    and_right true q = q
    and_right false q = absurd (false≢true q)

pub behind_below : (s : ℕ) (sources : ℕ → ℕ → Bool) (xs : List Resolved) → Low sources → Known xs → (i : ℕ) → behind s sources xs i ≡ true → i < inputs
unfolding behind
behind_below s sources [] l k i e = absurd (false≢true e)
behind_below s sources (x ∷ xs) l k i e =
    joint (joins s sources x i) (behind s (spread sources x) xs i) (joins_low s sources x l i)
    (behind_below s (spread sources x) xs (spread_low sources x l k.0) k.1 i) e

-- ---- the list behind a slot
has_at : (l : List ℕ) (k : ℕ) → k < length l → has l (get_or l k 0) ≡ true
unfolding has
has_at [] k h = absurd (omega arith)
has_at (x ∷ l) zero h = rw (eq-eqb x x refl)
has_at (x ∷ l) (suc k) h = go (eqb x (get_or l k 0)) (has_at l k (omega arith))
  where
    go : (b : Bool) → has l (get_or l k 0) ≡ true → (b || has l (get_or l k 0)) ≡ true
    go true e = refl
    go false e = e

has_sift : (t : ℕ → Bool) (i n j : ℕ) → has (sift t i n) j ≡ true → t j ≡ true
unfolding has sift
has_sift t i zero j e = absurd (false≢true e)
has_sift t i (suc n) j e = go (t i) refl (has_sift t (suc i) n j) e
  where
    go : (b : Bool) → t i ≡ b → (has (sift t (suc i) n) j ≡ true → t j ≡ true)
        → has (cond b (i ∷ sift t (suc i) n) (sift t (suc i) n)) j ≡ true → t j ≡ true
    go true q ih e = joint (eqb i j) (has (sift t (suc i) n) j) (λ h. ap t (sym (eqb-true i j h)) ∙ q) ih e
    go false q ih e = ih e

module _ (s : ℕ) (xs : List Resolved) where
  -- an input behind the slot is in the list
  pub listed : Known xs → (i : ℕ) → behind s no_sources xs i ≡ true → has (source_list s xs) i ≡ true
  unfolding source_list
  listed k i e =
      let r = sift_lists (behind s no_sources xs) 0 inputs i (omega arith) (behind_below s no_sources xs (λ b j q. absurd (false≢true q)) k i e) e in
      ap (has (source_list s xs)) (sym r.there) ∙ has_at (source_list s xs) r.place r.below

  -- and no other is
  pub only_listed : (i : ℕ) → has (source_list s xs) i ≡ true → behind s no_sources xs i ≡ true
  unfolding source_list
  only_listed i e = has_sift (behind s no_sources xs) 0 inputs i e

  pub list_below : (k : ℕ) → k < length (source_list s xs) → get_or (source_list s xs) k 0 < inputs
  unfolding source_list
  list_below k h = (sift_entry (behind s no_sources xs) 0 inputs k h).below

  pub list_ascends : (k l : ℕ) → k < l → l < length (source_list s xs) → get_or (source_list s xs) k 0 < get_or (source_list s xs) l 0
  unfolding source_list
  list_ascends = sift_ascends (behind s no_sources xs) 0 inputs
