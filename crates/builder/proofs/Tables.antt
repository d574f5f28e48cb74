-- What the plan check asks of a plan before it goes to the steps, but for the buffers' area: every accepted call keeps it, and of a plan that has it that area
-- and the steps decide. Assumes nothing.
use mathlib.Core.Path.{◌≡◌, refl, sym, ap, ◌∙◌, subst}
use mathlib.Core.Bool.{Bool, true, false}
use mathlib.Core.List.{List, [], ◌∷◌, ◌++◌, map}
use Prim.Native.Nat.{ℕ, ◌+◌, ◌*◌, ◌≤◌, ◌<◌}
use native.Mathlib.Decide.{dec_lt}
use native.Mathlib.Omega.{arith}
use lib.ListN.{length, take}
use lib.Seq.{sets}
use lib.Dec.{leb}
use lib.Ieee.{Float}
use borrow.Author.Tests.{ltb-true, ltb-false}
use Rattle.lists.specs.Entries.{some_from}
use Rattle.std.proofs.lemmas.Bool.{or_from, or_parts}
use Rattle.lists.proofs.Entries.{some_none, some_more, entries_none}
use Rattle.lists.proofs.Stores.{take_stored}
use Rattle.refusal.specs.Tests.{test, first, Answer}
use Rattle.node.specs.Sizes.{node_float_count, node_word_count}
use Rattle.node.specs.Nodes.{new_node}
use Rattle.node.specs.Areas.{id_at, stored_words}
use Rattle.node.proofs.Areas.{id_stored}
use Rattle.node.proofs.Kept.{id_new}
use Rattle.plan.specs.declared.Limits.{Limits}
use Rattle.plan.specs.Limits.{unit_limits, bad_block}
use Rattle.plan.specs.Areas.{Areas, shorter, short_areas}
use Rattle.plan.specs.Check.{id_among, id_twice, steps_tests, checked, check_plan}
use Rattle.plan.proofs.Plans.{WithinLimits, limits_none, block_none, areas_none, among_none, ids_none}
use Rattle.plan.proofs.Exact.{accepted_sound}
use Rattle.plan.proofs.Accepted.{accepted_limits, accepted_room}
use Rattle.plan.proofs.Answers.{check_2, check_steps}
use Rattle.builder.specs.Growth.{buffers_growth, coefficients_growth, node_growth, step_growth}
use Rattle.builder.specs.Calls.{numbers_from, record_length}
use Rattle.builder.specs.Built.{BuilderCall, buffers, coefficients, node, step, asked, BuilderState, areas_with, answer, after, built}
use Rattle.builder.proofs.Numbers.{length_numbers, get_d_numbers}
use Rattle.builder.proofs.Fits.{buffers_fit, coefficients_fit, node_fits, step_fits}
use Rattle.builder.proofs.Outcomes.{plan_accepted, buffers_accepted, words_accepted}
use Rattle.builder.proofs.Refusals.{refused_nothing}
use Rattle.builder.proofs.Kept.{accepted_kept}
use Rattle.builder.proofs.Sums.{id_before}
use Rattle.refusal.specs.declared.Reason.TheVariants.{ShortArea}
use Rattle.std.specs.Prelude.{Ok, Err}

-- numbers 1, 5, 2 (but for the buffers' area), 4 (index entries) and 8 are not answered
pub record Tables (l : Limits) (s : BuilderState) : Type 0 where
  pub block : bad_block s.plan.block ≡ false
  pub limits : WithinLimits l s.plan
  pub indices : s.plan.indices ≤ length s.indices
  pub coefficients : s.plan.coefficients ≤ length s.coefficients
  pub floats : s.plan.nodes * node_float_count ≤ length s.floats
  pub words : s.plan.nodes * node_word_count ≤ length s.words
  pub steps : s.plan.words ≤ length s.steps
  pub entries : some_from s.plan.buffers (take s.plan.indices s.indices) ≡ false
  pub ids : id_twice s.words s.plan.nodes ≡ false

-- ---- fresh index entries, and a new id

some_append : (n : ℕ) (xs ys : List ℕ) → some_from n xs ≡ false → some_from n ys ≡ false → some_from n (xs ++ ys) ≡ false
unfolding some_from
some_append n [] ys e f = f
some_append n (x ∷ xs) ys e f =
    let u = or_parts (leb n x) (some_from n xs) e in
    or_from (leb n x) (some_from n (xs ++ ys)) u.0 (some_append n xs ys u.1 f)

numbers_below : (k n : ℕ) → some_from (k + n) (numbers_from k n) ≡ false
numbers_below k n =
    (some_none (k + n) (numbers_from k n)).1
    (λ i h. let j : i < n = rw length_numbers at h in omega (arith, get_d_numbers k n i 0 j))

module _ (words : List ℕ) (n id : ℕ) (values : List Float) (ramp safe : ℕ) (room : (n + 1) * node_word_count ≤ length words) (new : id_among words n id ≡ false) where
  abbrev stored : List ℕ
  stored = stored_words words n (new_node id values ramp safe)

  before : (i : ℕ) → i < n → id_at stored i ≡ id_at words i
  before = id_before words n (new_node id values ramp safe) room

  still_once : id_twice words n ≡ false → id_twice stored (n + 1) ≡ false
  still_once once = (ids_none stored (n + 1)).1 (λ i j h k q. go i j h k q (dec_lt j n))
    where
      here : id_at stored n ≡ id
      here = id_stored words n (new_node id values ramp safe) room ∙ id_new id values ramp safe

      go : (i j : ℕ) → i < j → j < n + 1 → id_at stored i ≡ id_at stored j → Dec (j < n) → ⊥
      go i j h k q (yes l) = (ids_none words n).0 once i j h l (sym (before i (omega arith)) ∙ q ∙ before j l)
      go i j h k q (no l) =
          let z : j ≡ n = omega arith in
          (among_none words n id).0 new i (omega arith) (sym (before i (omega arith)) ∙ q ∙ ap (id_at stored) z ∙ here)

-- ---- an accepted call
module _ (l : Limits) where
  pub tables_kept : (s : BuilderState) (c : BuilderCall) → answer l s c ≡ Ok tt → Tables l s → Tables l (after l s c)
  tables_kept s (buffers n) e t =
      let p = s.plan in
      let k = accepted_kept l s (buffers n) e in
      let f = buffers_fit l p n (length s.indices) e in
      let ns = length_numbers p.buffers n in
      let fresh = numbers_from p.buffers n in
      let listed : take (p.indices + n) (after l s (buffers n)).indices ≡ take p.indices s.indices ++ fresh =
      rw (buffers_accepted l p n s.indices e)
      (ap (λ (m : ℕ). take (p.indices + m) (sets s.indices p.indices fresh)) (sym ns)
      ∙ take_stored s.indices p.indices fresh (omega (arith, f.area, ns))) in
      let old = some_more p.buffers (p.buffers + n) (take p.indices s.indices) (omega arith) t.entries in
      rw (plan_accepted p (buffers_growth n) e)
      (record {
        block = t.block;
        limits = record {
          buffers = f.buffers;
          indices = f.indices;
          coefficients = t.limits.coefficients;
          nodes = t.limits.nodes;
          steps = t.limits.steps;
        };
        indices = omega (arith, f.area, k.indices.length);
        coefficients = t.coefficients;
        floats = t.floats;
        words = t.words;
        steps = t.steps;
        entries = ap (some_from (p.buffers + n)) listed ∙ some_append (p.buffers + n) (take p.indices s.indices) fresh old (numbers_below p.buffers n);
        ids = t.ids;
      })
  tables_kept s (coefficients xs) e t =
      let p = s.plan in
      let k = accepted_kept l s (coefficients xs) e in
      let f = coefficients_fit l p (length xs) (length s.coefficients) e in
      rw (plan_accepted p (coefficients_growth (length xs)) e)
      (record {
        block = t.block;
        limits = record {
          buffers = t.limits.buffers;
          indices = t.limits.indices;
          coefficients = f.coefficients;
          nodes = t.limits.nodes;
          steps = t.limits.steps;
        };
        indices = t.indices;
        coefficients = omega (arith, f.area, k.coefficients.length);
        floats = t.floats;
        words = t.words;
        steps = t.steps;
        entries = t.entries;
        ids = t.ids;
      })
  tables_kept s (node id xs ramp safe) e t =
      let p = s.plan in
      let k = accepted_kept l s (node id xs ramp safe) e in
      let f = node_fits l p id (length xs) ramp safe (length s.floats) s.words e in
      let ids : id_twice (after l s (node id xs ramp safe)).words (p.nodes + 1) ≡ false =
      rw (words_accepted l p id xs ramp safe s.floats s.words e) (still_once s.words p.nodes id xs ramp safe f.words f.id t.ids) in
      rw (plan_accepted p node_growth e)
      (record {
        block = t.block;
        limits = record {
          buffers = t.limits.buffers;
          indices = t.limits.indices;
          coefficients = t.limits.coefficients;
          nodes = f.nodes;
          steps = t.limits.steps;
        };
        indices = t.indices;
        coefficients = t.coefficients;
        floats = omega (arith, f.floats, k.floats.length);
        words = omega (arith, f.words, k.words.length);
        steps = t.steps;
        entries = t.entries;
        ids = ids;
      })
  tables_kept s (step w) e t =
      let p = s.plan in
      let k = accepted_kept l s (step w) e in
      let f = step_fits l p w (length s.steps) e in
      rw (plan_accepted p (step_growth (record_length w)) e)
      (record {
        block = t.block;
        limits = record {
          buffers = t.limits.buffers;
          indices = t.limits.indices;
          coefficients = t.limits.coefficients;
          nodes = t.limits.nodes;
          steps = f.steps;
        };
        indices = t.indices;
        coefficients = t.coefficients;
        floats = t.floats;
        words = t.words;
        steps = omega (arith, f.area, k.steps.length);
        entries = t.entries;
        ids = t.ids;
      })

  -- and so a list of calls, refused ones among them
  pub all_tables_kept : (cs : List BuilderCall) (s : BuilderState) → Tables l s → Tables l (built s (map (asked l) cs))
  all_tables_kept [] s t = t
  all_tables_kept (c ∷ cs) s t = all_tables_kept cs (after l s c) (go (answer l s c) refl)
    where
      go : (a : Answer) → answer l s c ≡ a → Tables l (after l s c)
      go (Ok _) e = tables_kept s c e t
      go (Err r) e = subst (Tables l) (sym (refused_nothing l s c r e)) t

-- ---- the check: before the steps, the buffers' area alone decides
module _ (s : BuilderState) (area : List Float) where
  -- the six areas
  abbrev lent : Areas
  lent = areas_with s area

  pub accepted_tables : check_plan s.plan lent ≡ Ok tt → Tables unit_limits s
  accepted_tables e =
      let short = short_areas s.plan lent in
      let sound = accepted_sound s.plan short s.indices s.words s.steps e in
      let room = accepted_room s.plan lent e in
      record {
        block = (block_none s.plan.block).1 (sound.block_least, sound.block_most);
        limits = accepted_limits s.plan short s.indices s.words s.steps e;
        indices = room.indices;
        coefficients = room.coefficients;
        floats = room.floats;
        words = room.words;
        steps = room.steps;
        entries = (entries_none s.plan.buffers s.plan.indices s.indices).1 sound.entries;
        ids = (ids_none s.words s.plan.nodes).1 sound.ids;
      }

  module _ (t : Tables unit_limits s) where
    abbrev short : Bool
    short = shorter (length area) s.plan.buffers s.plan.block

    short_buffers : short_areas s.plan lent ≡ short
    short_buffers = go short (short_areas s.plan lent) refl refl
      where
        go : (b c : Bool) → short ≡ b → short_areas s.plan lent ≡ c → short_areas s.plan lent ≡ b
        go true true e f = f
        go true false e f =
            absurd (omega (arith, ltb-true (length area) (s.plan.buffers * s.plan.block) e, ((areas_none s.plan lent).0 f).buffers))
        go false c e f =
            (areas_none s.plan lent).1
            (record {
              indices = t.indices;
              coefficients = t.coefficients;
              floats = t.floats;
              words = t.words;
              steps = t.steps;
              buffers = ltb-false (length area) (s.plan.buffers * s.plan.block) e;
            })

    pub tables_decide : check_plan s.plan lent
        ≡ first (test ShortArea short ∷ steps_tests s.plan s.indices (take s.plan.words s.steps) s.plan.steps 0 1) (Ok tt)
    tables_decide = ap (λ (b : Bool). checked s.plan b s.indices s.words s.steps) short_buffers ∙ go short
      where
        go : (b : Bool) → checked s.plan b s.indices s.words s.steps
            ≡ first (test ShortArea b ∷ steps_tests s.plan s.indices (take s.plan.words s.steps) s.plan.steps 0 1) (Ok tt)
        go true = check_2 s.plan true s.indices s.words s.steps t.block ((limits_none unit_limits s.plan).1 t.limits) refl
        go false =
            check_steps s.plan false s.indices s.words s.steps t.block ((limits_none unit_limits s.plan).1 t.limits) refl t.entries t.ids
