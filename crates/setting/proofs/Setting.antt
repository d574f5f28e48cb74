-- A setting: the node that its id names, what an accepted one says of the areas, and what it leaves. Assumes nothing.
use mathlib.Core.Path.{◌≡◌, refl, sym, ap, ◌∙◌}
use mathlib.Core.Bool.{Bool, true, false, ◌||◌, false≢true}
use mathlib.Core.List.{List}
use Prim.Native.Nat.{ℕ, zero, suc, ◌+◌, ◌*◌, ◌≤◌, ◌<◌}
use native.Mathlib.Decide.{dec_lt}
use native.Mathlib.Omega.{arith}
use lib.ListN.{length}
use lib.Dec.{eqb}
use lib.Ieee.{Float}
use borrow.Author.Tests.{ltb-false, eqb-true, not-false}
use Rattle.std.proofs.lemmas.Bool.{or_parts}
use Rattle.refusal.specs.declared.Refusal.{Refusal}
use Rattle.refusal.proofs.Laws.{accepted_none, outcome_accepted, refused_keeps}
use Rattle.node.specs.Sizes.{node_float_count, node_word_count, max_ramp}
use Rattle.node.specs.declared.Node.{Node}
use Rattle.node.specs.Nodes.{set_node}
use Rattle.node.specs.Areas.{Room, id_at, node_at, stored_floats, stored_words, some_bad, InRange}
use Rattle.node.proofs.Bad.{none_bad_at}
use Rattle.plan.specs.Limits.{unit_limits}
use Rattle.plan.specs.Check.{id_among, id_twice}
use Rattle.plan.proofs.Plans.{ids_none}
use Rattle.setting.specs.Setting.{node_of, setting_tests, setting_answer, setting_floats, setting_words}
use Rattle.refusal.specs.Tests.{Answer}
use Rattle.std.specs.Prelude.{Ok, Err}

-- ---- the node of an id, turn by turn
module _ (words : List ℕ) (id : ℕ) {i j : ℕ} (e : i ≡ suc j) where
  pub node_here : eqb (id_at words j) id ≡ true → node_of words i id ≡ j
  unfolding node_of
  node_here t = ap (λ (n : ℕ). node_of words n id) e ∙ rw t

  pub node_before : eqb (id_at words j) id ≡ false → node_of words i id ≡ node_of words j id
  unfolding node_of
  node_before t = ap (λ (n : ℕ). node_of words n id) e ∙ rw t

pub node_none : (words : List ℕ) (id : ℕ) {i : ℕ} → i ≡ 0 → node_of words i id ≡ 0
unfolding node_of
node_none words id e = ap (λ (n : ℕ). node_of words n id) e

-- it is one of the first n, and has the id
pub node_named_lem : (words : List ℕ) (n id : ℕ) → id_among words n id ≡ true → (node_of words n id < n) × (id_at words (node_of words n id) ≡ id)
unfolding id_among
node_named_lem words zero id e = absurd (false≢true e)
node_named_lem words (suc n) id e = go (eqb (id_at words n) id) refl (node_named_lem words n id)
  where
    go : (b : Bool) → eqb (id_at words n) id ≡ b → (id_among words n id ≡ true → (node_of words n id < n) × (id_at words (node_of words n id) ≡ id))
        → (node_of words (suc n) id < suc n) × (id_at words (node_of words (suc n) id) ≡ id)
    go true t ih = let k = node_here words id {i = suc n} {j = n} refl t in (rw k (omega arith), ap (id_at words) k ∙ eqb-true (id_at words n) id t)
    go false t ih =
        let k = node_before words id {i = suc n} {j = n} refl t in
        let f : id_among words n id ≡ true = sym (ap (λ (b : Bool). b || id_among words n id) t) ∙ e in
        (rw k (omega (arith, (ih f).0)), ap (id_at words) k ∙ (ih f).1)

-- where no id is held twice, it is the only one that has it
pub node_only : (words : List ℕ) (count id n : ℕ) → id_twice words count ≡ false → id_among words count id ≡ true → n < count → id_at words n ≡ id
    → node_of words count id ≡ n
node_only words count id n once known inside e = go (dec_lt m n) (dec_lt n m)
  where
    m : ℕ
    m = node_of words count id

    named : (m < count) × (id_at words m ≡ id)
    named = node_named_lem words count id known

    apart : (i j : ℕ) → i < j → j < count → id_at words i ≡ id_at words j → ⊥
    apart = (ids_none words count).0 once

    go : Dec (m < n) → Dec (n < m) → m ≡ n
    go (yes h) _ = absurd (apart m n h inside (named.1 ∙ sym e))
    go (no h) (yes l) = absurd (apart n m l named.0 (e ∙ sym named.1))
    go (no h) (no l) = omega arith

-- ---- what an accepted setting says
pub record Settable (count id ramp floats : ℕ) (words : List ℕ) : Type 0 where
  pub nodes : count ≤ unit_limits.nodes
  pub floats_room : count * node_float_count ≤ floats
  pub words_room : count * node_word_count ≤ length words
  pub bad : some_bad words count ≡ false
  pub ids : id_twice words count ≡ false
  pub ramp_short : ramp ≤ max_ramp
  pub id_known : id_among words count id ≡ true

pub settable : (count id ramp floats : ℕ) (words : List ℕ) → setting_answer count id ramp floats words ≡ Ok tt → Settable count id ramp floats words
unfolding setting_answer
settable count id ramp floats words e =
    let t = (accepted_none (setting_tests count id ramp floats words) (Ok tt) e).0 in
    let a = or_parts _ _ t.1.0 in
    record {
      nodes = ltb-false _ _ t.0;
      floats_room = ltb-false _ _ a.0;
      words_room = ltb-false _ _ a.1;
      bad = t.1.1.0;
      ids = t.1.1.1.0;
      ramp_short = ltb-false _ _ t.1.1.1.1.0;
      id_known = not-false _ t.1.1.1.1.1.0;
    }

-- the areas have the node, and it is not bad
module _ {count id ramp : ℕ} (floats : List Float) {words : List ℕ} (s : Settable count id ramp (length floats) words) where
  pub node_room : Room (node_of words count id + 1) floats words
  node_room = let h = (node_named_lem words count id s.id_known).0 in (omega (arith, s.floats_room), omega (arith, s.words_room))

  -- the areas have the node that was found
  pub found_room : {n : ℕ} → n ≡ node_of words count id → Room (n + 1) floats words
  found_room e = rw e node_room

  pub node_good : InRange (node_at floats words (node_of words count id))
  node_good = none_bad_at words count s.bad floats (node_of words count id) (node_named_lem words count id s.id_known).0

-- ---- what the call leaves
module _ (count id : ℕ) (values : List Float) (ramp : ℕ) (floats : List Float) (words : List ℕ) where
  abbrev answered : Answer
  answered = setting_answer count id ramp (length floats) words

  abbrev node : ℕ
  node = node_of words count id

  -- a refused setting changes nothing
  pub floats_refused : {r : Refusal} → answered ≡ Err r → setting_floats count id values ramp floats words ≡ floats
  unfolding setting_floats
  floats_refused {r} e = refused_keeps answered (stored_floats floats node (set_node (node_at floats words node) values ramp)) floats r e

  pub words_refused : {r : Refusal} → answered ≡ Err r → setting_words count id values ramp floats words ≡ words
  unfolding setting_words
  words_refused {r} e = refused_keeps answered (stored_words words node (set_node (node_at floats words node) values ramp)) words r e

  -- an accepted one sets the node of the id
  pub floats_accepted : answered ≡ Ok tt
      → setting_floats count id values ramp floats words ≡ stored_floats floats node (set_node (node_at floats words node) values ramp)
  unfolding setting_floats
  floats_accepted e = outcome_accepted answered (stored_floats floats node (set_node (node_at floats words node) values ramp)) (λ _. floats) e

  pub words_accepted : answered ≡ Ok tt
      → setting_words count id values ramp floats words ≡ stored_words words node (set_node (node_at floats words node) values ramp)
  unfolding setting_words
  words_accepted e = outcome_accepted answered (stored_words words node (set_node (node_at floats words node) values ramp)) (λ _. words) e

  -- what the code stores: the node that it found, loaded and set
  module _ (e : answered ≡ Ok tt) {n : ℕ} {old new : Node} (h : n ≡ node) (l : old ≡ node_at floats words n) (s : new ≡ set_node old values ramp) where
    pub floats_stored : stored_floats floats n new ≡ setting_floats count id values ramp floats words
    floats_stored = rw (s, l, h) (sym (floats_accepted e))

    pub words_stored : stored_words words n new ≡ setting_words count id values ramp floats words
    words_stored = rw (s, l, h) (sym (words_accepted e))
