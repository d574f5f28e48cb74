-- The walk of the steps: what one joins to the slots, how many there are with it, and what holds between two steps. Assumes nothing.
use mathlib.Core.Path.{◌≡◌, refl, sym, ap, ◌∙◌, subst}
use mathlib.Core.Bool.{Bool, true, false, ◌&&◌, ◌||◌, cond, or_assoc, or-false}
use mathlib.Core.List.{List, [], ◌∷◌, map}
use mathlib.Core.Logic.{◌⊎◌, inl, inr}
use Prim.Native.Nat.{ℕ, ◌+◌, ◌-◌, ◌≤◌, ◌<◌, max}
use native.Mathlib.Nat.{sub-zero}
use native.Mathlib.Omega.{arith}
use lib.Dec.{eqb}
use lib.ListN.{length}
use Rattle.lists.specs.Entries.{has}
use Rattle.lists.proofs.Bools.{eqb_swap}
use Rattle.sets.specs.declared.Set.{Set}
use Rattle.sets.specs.Sets.{member}
use Rattle.plan.specs.declared.Plan.{Plan}
use Rattle.plan.specs.declared.Span.{Span}
use Rattle.plan.specs.declared.Step.{Step}
use Rattle.plan.specs.declared.Step.TheVariants.{Patch, Gain, Matrix, Clear, Send, Output}
use Rattle.plan.specs.Words.{read_at, decoded_from, decoded}
use Rattle.plan.specs.Check.{named}
use Rattle.plan.specs.Limits.{unit_limits}
use Rattle.plan.specs.Sound.{Passes, Tested}
use Rattle.plan.specs.Resolved.{resolved, src_of}
use Rattle.plan.specs.Loops.{slot_of}
use Rattle.plan.proofs.Answers.{rest_of}
use Rattle.plan.proofs.Words.{decoded_on, decoded_none}
use Rattle.plan.proofs.Accepted.{pass_rest}
use Rattle.plan.proofs.Named.{slot_named_lem}
use Rattle.trace.specs.Sources.{union, spread, joins, behind, slot_count}
use Rattle.trace_sources.specs.Loops.{slot_sets, sources_of, changed, joined, with_slot, Fit}
use Rattle.std.specs.Prelude.{Some}

-- ---- a step that is no Output
no_slot : (x : Step) → ((a : Span) (o : ℕ) → x ≡ Output a o → ⊥) → slot_of x ≡ []
no_slot (Patch n c d) h = refl
no_slot (Gain n a d) h = refl
no_slot (Matrix n a d) h = refl
no_slot (Clear d) h = refl
no_slot (Send n a d c) h = refl
no_slot (Output a o) h = absurd (h a o refl)

module _ (p : Plan) (indices : List ℕ) (s : ℕ) (sources : ℕ → ℕ → Bool) where
  pub joins_none : (x : Step) → ((a : Span) (o : ℕ) → x ≡ Output a o → ⊥) → (i : ℕ) → joins s sources (resolved p indices [] x) i ≡ false
  unfolding joins has
  joins_none x h i = ap (λ (l : List ℕ). has l s && union sources (src_of (resolved p indices [] x)) i) (slot_named_lem p indices [] x ∙ no_slot x h)

  -- what a store of the slot's own set with that of src leaves
  pub joins_stored : {x : Step} (a : Span) (o : ℕ) → x ≡ Output a o → (more : Set) → ((i : ℕ) → member more i ≡ union sources (named indices a) i)
      → (i : ℕ) (own : Bool) → cond (eqb s o) (joined more i own) own ≡ (own || joins s sources (resolved p indices [] x) i)
  unfolding joins has
  joins_stored a o e more m i own =
      go (eqb s o)
      ∙ ap (λ (t : Bool). own || (t && union sources (named indices a) i)) (eqb_swap s o ∙ sym (or-false (eqb o s)))
      ∙ ap (λ (y : Step). own || joins s sources (resolved p indices [] y) i) (sym e)
    where
      go : (t : Bool) → cond t (joined more i own) own ≡ (own || (t && union sources (named indices a) i))
      go true = ap (λ (b : Bool). own || b) (m i)
      go false = sym (or-false own)

-- ---- a step by what was read
pub fit_as : {p : Plan} {indices : List ℕ} {area : List Set} {x y : Step} → x ≡ y → Fit p indices area x → Fit p indices area y
fit_as {p} {indices} {area} e f = subst (λ (z : Step). Fit p indices area z) e f

-- a Gain or a Matrix
abbrev pub Replaces : Step → Span → Span → Type 0
Replaces x a d = ((n : ℕ) × x ≡ Gain n a d) ⊎ ((n : ℕ) × x ≡ Matrix n a d)

pub spread_as : (p : Plan) (indices : List ℕ) (sources next : ℕ → ℕ → Bool) {x y : Step} → x ≡ y → next ≡ spread sources (resolved p indices [] y)
    → next ≡ spread sources (resolved p indices [] x)
spread_as p indices sources next e h = h ∙ ap (λ (z : Step). spread sources (resolved p indices [] z)) (sym e)

pub spread_replaced : (p : Plan) (indices : List ℕ) (sources next : ℕ → ℕ → Bool) {x : Step} (a d : Span) → Replaces x a d
    → next ≡ changed (λ i own. union sources (named indices a) i) sources (named indices d) → next ≡ spread sources (resolved p indices [] x)
unfolding spread
spread_replaced p indices sources next a d (inl e) h = spread_as p indices sources next e.1 h
spread_replaced p indices sources next a d (inr e) h = spread_as p indices sources next e.1 h

-- ---- the count of slots
module _ (p : Plan) (indices : List ℕ) where
  abbrev count : List Step → ℕ
  count ss = slot_count (map (resolved p indices []) ss)

  more : (n : ℕ) (x : Step) (ss : List Step) → max (with_slot n x) (count ss) ≡ max n (count (x ∷ ss))
  unfolding slot_count
  more n x ss = rw (slot_named_lem p indices [] x) (omega arith)

  none : (n : ℕ) → max n (count []) ≡ n
  unfolding slot_count
  none n = omega arith

-- ---- between two steps
module _ (p : Plan) (indices w : List ℕ) (area₀ slots₀ : List Set) where
  abbrev from : ℕ → ℕ → List Step
  from i at = decoded_from w (p.steps - i) at

  -- what is in the set of slot s, and what steps join to it
  abbrev sum : List Set → List Set → List Step → ℕ → ℕ → Bool
  sum area slots ss s j = sources_of slots s j || behind s (sources_of area) (map (resolved p indices []) ss) j

  -- i steps are behind: for each slot, the inputs that are in its set, and those that the steps left join from the sets of the buffers, are
  -- those that were in it and those that all steps join from the sets at the start
  pub record Walking (area slots : List Set) (count at i : ℕ) : Type 0 where
    pub turns : i ≤ p.steps
    pub plan : Tested p indices w
    pub pass : Passes p indices w (p.steps - i) at
    pub room : length area ≡ unit_limits.buffers
    pub slot_room : length slots ≡ slot_sets
    pub counted : max count (slot_count (map (resolved p indices []) (from i at))) ≡ slot_count (map (resolved p indices []) (decoded w p.steps))
    pub so : (s j : ℕ) → sum area slots (from i at) s j ≡ sum area₀ slots₀ (decoded w p.steps) s j

  pub walking_starts : Tested p indices w → length area₀ ≡ unit_limits.buffers → length slots₀ ≡ slot_sets → Walking area₀ slots₀ 0 0 0
  unfolding decoded
  walking_starts c r q =
      record {
        turns = omega arith;
        plan = c;
        pass = rw sub-zero c.pass;
        room = r;
        slot_room = q;
        counted = rw sub-zero (omega arith);
        so = λ s j. rw sub-zero;
      }

  module _ {area slots : List Set} {count at i : ℕ} (c : Walking area slots count at i) where
    module _ (h : i < p.steps) {x : Step} {next : ℕ} (r : read_at w at ≡ Some (x, next)) where
      pub walking_on : (area' slots' : List Set) (count' : ℕ)
          → ((s j : ℕ) → sources_of slots' s j ≡ (sources_of slots s j || joins s (sources_of area) (resolved p indices [] x) j))
          → length slots' ≡ length slots → sources_of area' ≡ spread (sources_of area) (resolved p indices [] x) → length area' ≡ length area
          → count' ≡ with_slot count x → Walking area' slots' count' next (i + 1)
      unfolding behind
      walking_on area' slots' count' m k e l n =
          record {
            turns = omega arith;
            plan = c.plan;
            pass = pass_rest p indices w at (rest_of h) c.pass r;
            room = l ∙ c.room;
            slot_room = k ∙ c.slot_room;
            counted =
                ap (λ (t : ℕ). max t (slot_count (map (resolved p indices []) (from (i + 1) next)))) n
                ∙ more p indices count x (from (i + 1) next)
                ∙ ap (λ (ss : List Step). max count (slot_count (map (resolved p indices []) ss))) (sym (decoded_on w at (rest_of h) r))
                ∙ c.counted;
            so = λ s j.
                ap (λ (f : ℕ → ℕ → Bool). sources_of slots' s j || behind s f (map (resolved p indices []) (from (i + 1) next)) j) e
                ∙ ap (λ (b : Bool). b || behind s (spread (sources_of area) (resolved p indices [] x)) (map (resolved p indices []) (from (i + 1) next)) j) (m s j)
                ∙ or_assoc (sources_of slots s j) (joins s (sources_of area) (resolved p indices [] x) j) _
                ∙ ap (λ (ss : List Step). sum area slots ss s j) (sym (decoded_on w at (rest_of h) r))
                ∙ c.so s j;
          }

    -- what the walk hands back once no step is left
    pub record Walked : Type 0 where
      pub all : count ≡ slot_count (map (resolved p indices []) (decoded w p.steps))
      pub sets : (s j : ℕ) → sources_of slots s j ≡ sum area₀ slots₀ (decoded w p.steps) s j

    ended : from i at ≡ [] → Walked
    unfolding behind
    ended e =
        record {
          all =
              sym (none p indices count)
              ∙ ap (λ (ss : List Step). max count (slot_count (map (resolved p indices []) ss))) (sym e)
              ∙ c.counted;
          sets = λ s j. sym (or-false (sources_of slots s j)) ∙ ap (λ (ss : List Step). sum area slots ss s j) (sym e) ∙ c.so s j;
        }

    pub walking_ends : p.steps ≤ i → Walked
    walking_ends h = ended (decoded_none w at {left = p.steps - i} (omega arith))
