-- The tests of a plan as a whole in plain terms: what each says where it does not hold, and the other way. Assumes nothing.
use mathlib.Core.Path.{◌≡◌, refl, sym}
use mathlib.Core.Bool.{Bool, true, false}
use mathlib.Core.List.{List}
use mathlib.Core.Logic.{◌↔◌}
use Prim.Native.Nat.{ℕ, ◌*◌, ◌/◌, ◌≤◌, ◌<◌}
use native.Mathlib.Nat.{mul-one, div-lt_iff_lt-mul, le-div_iff_mul-le}
use lib.Dec.{eqb, ltb}
use lib.ListN.{length}
use borrow.Author.Tests.{ltb-true, ltb-false, eqb-false, lt-ltb, le-ltb, ne_eqb}
use Rattle.std.proofs.lemmas.Bool.{or_parts}
use Rattle.lists.proofs.Scans.{Counted, counted_at, counted_none}
use Rattle.node.specs.Sizes.{node_float_count, node_word_count}
use Rattle.node.specs.Areas.{id_at}
use Rattle.plan.specs.declared.Plan.{Plan}
use Rattle.plan.specs.declared.Limits.{Limits}
use Rattle.plan.specs.Limits.{max_block, bad_block, over_limits}
use Rattle.plan.specs.Areas.{Areas, shorter, short_areas, short_lists}
use Rattle.plan.specs.Check.{id_among, id_twice}

-- ---- numbers 1 and 5
pub block_none : (block : ℕ) → (bad_block block ≡ false) ↔ ((1 ≤ block) × (block ≤ max_block))
block_none block =
    (λ e. let a = or_parts _ _ e in (ltb-false _ _ a.0, ltb-false _ _ a.1), λ h. rw (le-ltb block 1 h.0, le-ltb max_block block h.1))

pub record WithinLimits (l : Limits) (p : Plan) : Type 0 where
  pub buffers : p.buffers ≤ l.buffers
  pub indices : p.indices ≤ l.indices
  pub coefficients : p.coefficients ≤ l.coefficients
  pub nodes : p.nodes ≤ l.nodes
  pub steps : p.steps ≤ l.steps

pub limits_none : (l : Limits) (p : Plan) → (over_limits l p ≡ false) ↔ WithinLimits l p
limits_none l p = (
  λ e.
      let d = or_parts _ _ e in
      let c = or_parts _ _ d.0 in
      let b = or_parts _ _ c.0 in
      let a = or_parts _ _ b.0 in
      record {
        buffers = ltb-false _ _ a.0;
        indices = ltb-false _ _ a.1;
        coefficients = ltb-false _ _ b.1;
        nodes = ltb-false _ _ c.1;
        steps = ltb-false _ _ d.1;
      },
  λ h. rw (le-ltb _ _ h.buffers, le-ltb _ _ h.indices, le-ltb _ _ h.coefficients, le-ltb _ _ h.nodes, le-ltb _ _ h.steps),
)

-- ---- number 2: the room of all six areas, and of three

-- n / each < count exactly where n < count * each
pub shorter_each : (n count each : ℕ) → 0 < each → ltb (n / each) count ≡ shorter n count each
shorter_each n count each h = go (ltb (n / each) count) refl
  where
    go : (b : Bool) → ltb (n / each) count ≡ b → b ≡ ltb n (count * each)
    go true e = sym (lt-ltb n (count * each) ((div-lt_iff_lt-mul h).0 (ltb-true (n / each) count e)))
    go false e = sym (le-ltb n (count * each) ((le-div_iff_mul-le h).0 (ltb-false (n / each) count e)))

pub record Room (p : Plan) (a : Areas) : Type 0 where
  pub indices : p.indices ≤ length a.indices
  pub coefficients : p.coefficients ≤ length a.coefficients
  pub floats : p.nodes * node_float_count ≤ length a.node_floats
  pub words : p.nodes * node_word_count ≤ length a.node_words
  pub steps : p.words ≤ length a.step_words
  pub buffers : p.buffers * p.block ≤ length a.buffers

pub record ListRoom (p : Plan) (indices words steps : List ℕ) : Type 0 where
  pub entries : p.indices ≤ length indices
  pub nodes : p.nodes * node_word_count ≤ length words
  pub step_words : p.words ≤ length steps

-- entries of one place each
ones_fit : {n count : ℕ} → shorter n count 1 ≡ false → count ≤ n
ones_fit {n} {count} e = rw mul-one at (ltb-false n (count * 1) e)

fit_ones : {n count : ℕ} → count ≤ n → shorter n count 1 ≡ false
fit_ones {n} {count} h = rw mul-one (le-ltb n count h)

module _ (p : Plan) where
  pub areas_none : (a : Areas) → (short_areas p a ≡ false) ↔ Room p a
  areas_none a = (
    λ e.
        let y = or_parts _ _ e in
        let x = or_parts _ _ y.0 in
        let d = or_parts _ _ x.0 in
        let c = or_parts _ _ d.0 in
        let b = or_parts _ _ c.0 in
        record {
          indices = ones_fit b.0;
          coefficients = ones_fit b.1;
          floats = ltb-false _ _ c.1;
          words = ltb-false _ _ d.1;
          steps = ones_fit x.1;
          buffers = ltb-false _ _ y.1;
        },
    λ h.
        rw (
          fit_ones h.indices,
          fit_ones h.coefficients,
          le-ltb _ _ h.floats,
          le-ltb _ _ h.words,
          fit_ones h.steps,
          le-ltb _ _ h.buffers,
        ),
  )

  pub lists_none : (indices words steps : List ℕ) → (short_lists p indices words steps ≡ false) ↔ ListRoom p indices words steps
  lists_none indices words steps = (
    λ e.
        let b = or_parts _ _ e in
        let a = or_parts _ _ b.0 in
        record { entries = ones_fit a.0; nodes = ltb-false _ _ a.1; step_words = ones_fit b.1 },
    λ h. rw (fit_ones h.entries, le-ltb _ _ h.nodes, fit_ones h.step_words),
  )

-- ---- number 8
pub among_counted : (words : List ℕ) (id : ℕ) → Counted (λ n. id_among words n id) (λ n. eqb (id_at words n) id)
unfolding id_among
among_counted words id = record { none = refl; more = λ n. refl }

pub twice_counted : (words : List ℕ) → Counted (id_twice words) (λ n. id_among words n (id_at words n))
unfolding id_twice
twice_counted words = record { none = refl; more = λ n. refl }

pub among_none : (words : List ℕ) (n id : ℕ) → (id_among words n id ≡ false) ↔ ((i : ℕ) → i < n → id_at words i ≡ id → ⊥)
among_none words n id = (
  λ e i h. eqb-false (id_at words i) id (counted_at (among_counted words id) n e i h),
  λ all. counted_none (among_counted words id) n (λ i h. ne_eqb (id_at words i) id (all i h)),
)

pub ids_none : (words : List ℕ) (n : ℕ) → (id_twice words n ≡ false) ↔ ((i j : ℕ) → i < j → j < n → id_at words i ≡ id_at words j → ⊥)
ids_none words n = (
  λ e i j h k. (among_none words j (id_at words j)).0 (counted_at (twice_counted words) n e j k) i h,
  λ all. counted_none (twice_counted words) n (λ j k. (among_none words j (id_at words j)).1 (λ i h. all i j h k)),
)
