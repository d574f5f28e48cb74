-- The area of the source sets: what a store of one set leaves, and what the loops over a list of buffers make of it, turn by turn. Assumes nothing.
use mathlib.Core.Path.{◌≡◌, refl, sym, ap, ◌∙◌}
use mathlib.Core.Bool.{Bool, true, false, ◌||◌, cond, or_assoc, or-false, or_self}
use mathlib.Core.List.{List}
use Prim.Native.Nat.{ℕ, ◌+◌, ◌<◌, ◌≤◌}
use native.Mathlib.Decide.{dec_lt}
use native.Mathlib.Omega.{arith}
use lib.Dec.{eqb}
use lib.ListN.{length, get_or, set, drop, replicate, length-replicate, get_or-replicate, get_or-eq_default}
use borrow.Author.Tests.{eqb-true, eqb-false}
use Rattle.std.proofs.lemmas.Grind.{get_or-set_at}
use Rattle.std.proofs.lemmas.List.{get_or-set_other}
use Rattle.lists.specs.Entries.{has}
use Rattle.lists.proofs.Bools.{eqb_swap}
use Rattle.lists.proofs.Scans.{Listed, has_listed, listed_here, listed_end}
use Rattle.sets.specs.declared.Set.{Set}
use Rattle.sets.specs.Sets.{member}
use Rattle.sets.proofs.Laws.{member_none}
use Rattle.trace.specs.Sources.{no_sources, union}
use Rattle.trace_sources.specs.Loops.{set_at, sources_of, changed, other, joined}

-- ---- the store of one set
pub stored_sources : (area : List Set) (b : ℕ) (s : Set) → b < length area → (c i : ℕ)
    → sources_of (set area b s) c i ≡ cond (eqb c b) (member s i) (sources_of area c i)
stored_sources area b s h c i = go (eqb c b) refl
  where
    go : (t : Bool) → eqb c b ≡ t → sources_of (set area b s) c i ≡ cond t (member s i) (sources_of area c i)
    go true e = ap (λ (x : Set). member x i) (get_or-set_at area b c s _ (eqb-true c b e) h)
    go false e = ap (λ (x : Set). member x i) (get_or-set_other area b c s _ (eqb-false c b e))

-- ---- an area of sets that have no member
module _ (n : ℕ) (s : Set) (none : (i : ℕ) → member s i ≡ false) where
  pub empties : sources_of (replicate n s) ≡ no_sources
  empties = λ t b i. at b i t
    where
      at : (b i : ℕ) → sources_of (replicate n s) b i ≡ false
      at b i = elim (dec_lt b n) as (λ _. sources_of (replicate n s) b i ≡ false) [
        | yes h ↦ ap (λ (x : Set). member x i) (get_or-replicate n b s _ h) ∙ none i
        | no h ↦ ap (λ (x : Set). member x i) (get_or-eq_default (replicate n s) _ {n = b} (rw length-replicate (omega arith))) ∙ member_none i
      ]

  -- sets that are added to it
  pub empties_or : (area : List Set) (f : ℕ → ℕ → Bool) → ((b i : ℕ) → sources_of area b i ≡ (sources_of (replicate n s) b i || f b i))
      → (b i : ℕ) → sources_of area b i ≡ f b i
  empties_or area f e b i = e b i ∙ ap (λ (g : ℕ → ℕ → Bool). g b i || f b i) empties

-- ---- the same change by another name
pub changed_as : (f g : ℕ → Bool → Bool) (sources : ℕ → ℕ → Bool) {xs ys : List ℕ} → ((i : ℕ) (x : Bool) → f i x ≡ g i x) → xs ≡ ys
    → changed f sources xs ≡ changed g sources ys
changed_as f g sources e l = λ t b i. cond (has (l t) b) (e i (sources b i) t) (sources b i)

-- ---- a loop over a list of buffers, whose change done twice is done
module _ (f : ℕ → Bool → Bool) (twice : (i : ℕ) (x : Bool) → f i (f i x) ≡ f i x) where
  pub changed_turn : (cur next : ℕ → ℕ → Bool) (dst : List ℕ) {k : ℕ} → k < length dst
      → ((b i : ℕ) → next b i ≡ cond (eqb b (get_or dst k 0)) (f i (cur b i)) (cur b i))
      → changed f next (drop (k + 1) dst) ≡ changed f cur (drop k dst)
  changed_turn cur next dst {k} h e = λ t b i. at b i t
    where
      go : (here later : Bool) (i : ℕ) (x : Bool) → cond later (f i (cond here (f i x) x)) (cond here (f i x) x) ≡ cond (here || later) (f i x) x
      go true true i x = twice i x
      go true false i x = refl
      go false true i x = refl
      go false false i x = refl

      at : (b i : ℕ) → changed f next (drop (k + 1) dst) b i ≡ changed f cur (drop k dst) b i
      at b i =
          let later = has (drop (k + 1) dst) b in
          ap (λ (x : Bool). cond later (f i x) x) (e b i)
          ∙ go (eqb b (get_or dst k 0)) later i (cur b i)
          ∙ ap (λ (t : Bool). cond (t || later) (f i (cur b i)) (cur b i)) (eqb_swap b (get_or dst k 0))
          ∙ ap (λ (t : Bool). cond t (f i (cur b i)) (cur b i)) (sym (listed_here (has_listed b) dst h))

  pub changed_end : (cur : ℕ → ℕ → Bool) (dst : List ℕ) (k : ℕ) → k ≡ length dst → changed f cur (drop k dst) ≡ cur
  changed_end cur dst k e = λ t b i. ap (λ (x : Bool). cond x (f i (cur b i)) (cur b i)) (listed_end (has_listed b) dst k e) t

  -- k of the buffers are done
  pub record Changing (area₀ : List Set) (dst : List ℕ) (area : List Set) (k : ℕ) : Type 0 where
    pub turns : k ≤ length dst
    pub kept : length area ≡ length area₀
    pub so : changed f (sources_of area) (drop k dst) ≡ changed f (sources_of area₀) dst

  module _ {area₀ : List Set} {dst : List ℕ} {area : List Set} {k : ℕ} (c : Changing area₀ dst area k) where
    pub changing_on : (next : List Set) → k < length dst → length next ≡ length area
        → ((b i : ℕ) → sources_of next b i ≡ cond (eqb b (get_or dst k 0)) (f i (sources_of area b i)) (sources_of area b i)) → Changing area₀ dst next (k + 1)
    changing_on next h l e = record { turns = omega arith; kept = l ∙ c.kept; so = changed_turn (sources_of area) (sources_of next) dst h e ∙ c.so }

    pub changing_ends : length dst ≤ k → sources_of area ≡ changed f (sources_of area₀) dst
    changing_ends h = sym (changed_end (sources_of area) dst k (omega (arith, c.turns))) ∙ c.so

pub other_twice : (s : Set) (i : ℕ) (x : Bool) → other s i (other s i x) ≡ other s i x
other_twice s i x = refl

pub joined_twice : (s : Set) (i : ℕ) (x : Bool) → joined s i (joined s i x) ≡ joined s i x
joined_twice s i x = or_assoc x (member s i) (member s i) ∙ ap (λ (b : Bool). x || b) (or_self (member s i))

-- the store of a buffer's own set with another
pub joined_stored : (area : List Set) (d : ℕ) (s sum : Set) → d < length area → ((i : ℕ) → member sum i ≡ (member (set_at area d) i || member s i))
    → (b i : ℕ) → sources_of (set area d sum) b i ≡ cond (eqb b d) (joined s i (sources_of area b i)) (sources_of area b i)
joined_stored area d s sum h u b i = stored_sources area d sum h b i ∙ go (eqb b d) refl
  where
    go : (t : Bool) → eqb b d ≡ t → cond t (member sum i) (sources_of area b i) ≡ cond t (joined s i (sources_of area b i)) (sources_of area b i)
    go true q = u i ∙ ap (λ (k : ℕ). sources_of area k i || member s i) (sym (eqb-true b d q))
    go false q = refl

-- ---- the union of the sets of a list of buffers, of which k are in it
pub union_listed : (sources : ℕ → ℕ → Bool) (i : ℕ) → Listed (λ src. union sources src i) (λ b. sources b i)
unfolding union
union_listed sources i = record { none = refl; more = λ b src. refl }

abbrev pub Joining : (ℕ → ℕ → Bool) → List ℕ → Set → ℕ → Type 0
Joining sources src s k = (i : ℕ) → (member s i || union sources (drop k src) i) ≡ union sources src i

module _ (sources : ℕ → ℕ → Bool) (src : List ℕ) where
  module _ (s : Set) (k : ℕ) (c : Joining sources src s k) where
    pub joining_on : k < length src → (t : Set) → ((i : ℕ) → member t i ≡ (member s i || sources (get_or src k 0) i)) → Joining sources src t (k + 1)
    joining_on h t e i =
        let later = union sources (drop (k + 1) src) i in
        ap (λ (b : Bool). b || later) (e i)
        ∙ or_assoc (member s i) (sources (get_or src k 0) i) later
        ∙ ap (λ (b : Bool). member s i || b) (sym (listed_here (union_listed sources i) src h))
        ∙ c i

    pub joining_ends : k ≡ length src → (i : ℕ) → member s i ≡ union sources src i
    joining_ends h i =
        sym (or-false (member s i)) ∙ ap (λ (b : Bool). member s i || b) (sym (listed_end (union_listed sources i) src k h)) ∙ c i
