-- What an accepted adoption says, and what the call leaves by its answer. Assumes nothing.
use mathlib.Core.Path.{◌≡◌}
use mathlib.Core.Bool.{false}
use mathlib.Core.List.{List}
use Prim.Native.Nat.{ℕ, ◌*◌, ◌%◌, ◌≤◌}
use lib.ListN.{length}
use lib.Dec.{eqb}
use borrow.Author.Tests.{ltb-false, eqb-true, not-false}
use Rattle.std.proofs.lemmas.Bool.{or_parts}
use Rattle.refusal.specs.declared.Refusal.{Refusal}
use Rattle.refusal.proofs.Laws.{accepted_none, outcome_accepted, refused_keeps}
use Rattle.node.specs.Sizes.{node_float_count, node_word_count, max_ramp}
use Rattle.node.specs.Areas.{Room}
use Rattle.plan.specs.Limits.{unit_limits}
use Rattle.plan.specs.Areas.{shorter}
use Rattle.adoption.specs.Adoption.{Lent, short_nodes, bad_nodes, adoption_tests, adoption_answer, pairs_adopted, adoption_floats, adoption_words}
use Rattle.adoption.specs.Fits.{Fit}
use Rattle.std.specs.Prelude.{Ok, Err}

pub enough : (l : Lent) → short_nodes l ≡ false → Room l.count l.floats l.words
enough l e =
    let a = or_parts (shorter (length l.floats) l.count node_float_count) _ e in
    (ltb-false (length l.floats) (l.count * node_float_count) a.0, ltb-false (length l.words) (l.count * node_word_count) a.1)

-- ---- what an accepted adoption says
pub record Adoptable (new old : Lent) (pairs : List ℕ) (ramp : ℕ) : Type 0 where
  pub new_nodes : new.count ≤ unit_limits.nodes
  pub old_nodes : old.count ≤ unit_limits.nodes
  pub new_room : Room new.count new.floats new.words
  pub old_room : Room old.count old.floats old.words
  pub even : length pairs % 2 ≡ 0
  pub new_good : bad_nodes new ≡ false
  pub old_good : bad_nodes old ≡ false
  pub short : ramp ≤ max_ramp

module _ (new old : Lent) (pairs : List ℕ) (ramp : ℕ) where
  pub adoptable : adoption_answer new old pairs ramp ≡ Ok tt → Adoptable new old pairs ramp
  unfolding adoption_answer
  adoptable e =
      let t = (accepted_none (adoption_tests new old pairs ramp) (Ok tt) e).0 in
      let n = or_parts _ _ t.0 in
      let a = or_parts (short_nodes new) (short_nodes old) t.1.0 in
      let b = or_parts (bad_nodes new) (bad_nodes old) t.1.1.1.0 in
      record {
        new_nodes = ltb-false _ _ n.0;
        old_nodes = ltb-false _ _ n.1;
        new_room = enough new a.0;
        old_room = enough old a.1;
        even = eqb-true _ _ (not-false (eqb (length pairs % 2) 0) t.1.1.0);
        new_good = b.0;
        old_good = b.1;
        short = ltb-false _ _ t.1.1.1.1.0;
      }

  pub accepted_fit : adoption_answer new old pairs ramp ≡ Ok tt → Fit new old ramp
  accepted_fit e =
      let a = adoptable e in
      record { new_room = a.new_room; old_room = a.old_room; good = a.new_good; short = a.short }

  -- ---- a refused adoption changes nothing
  pub floats_refused : {r : Refusal} → adoption_answer new old pairs ramp ≡ Err r → adoption_floats new old pairs ramp ≡ new.floats
  unfolding adoption_floats
  floats_refused {r} e = refused_keeps (adoption_answer new old pairs ramp) (pairs_adopted old ramp pairs new).floats new.floats r e

  pub words_refused : {r : Refusal} → adoption_answer new old pairs ramp ≡ Err r → adoption_words new old pairs ramp ≡ new.words
  unfolding adoption_words
  words_refused {r} e = refused_keeps (adoption_answer new old pairs ramp) (pairs_adopted old ramp pairs new).words new.words r e

  -- ---- an accepted one goes through the pairs
  pub floats_accepted : adoption_answer new old pairs ramp ≡ Ok tt → adoption_floats new old pairs ramp ≡ (pairs_adopted old ramp pairs new).floats
  unfolding adoption_floats
  floats_accepted e = outcome_accepted (adoption_answer new old pairs ramp) (pairs_adopted old ramp pairs new).floats (λ _. new.floats) e

  pub words_accepted : adoption_answer new old pairs ramp ≡ Ok tt → adoption_words new old pairs ramp ≡ (pairs_adopted old ramp pairs new).words
  unfolding adoption_words
  words_accepted e = outcome_accepted (adoption_answer new old pairs ramp) (pairs_adopted old ramp pairs new).words (λ _. new.words) e
