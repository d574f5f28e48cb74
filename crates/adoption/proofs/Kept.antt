-- What the pairs of an adoption keep: the lengths of the areas and the rest of them, and each node's id, len and safe. Assumes nothing.
use mathlib.Core.Path.{◌≡◌, refl, sym, ap, ◌∙◌}
use mathlib.Core.List.{List, [], ◌∷◌}
use Prim.Native.Nat.{ℕ, ◌*◌}
use native.Mathlib.Nat.{add-zero}
use native.Mathlib.Omega.{arith}
use lib.ListN.{length, get_or, drop}
use Rattle.lists.proofs.Stores.{drop_sets}
use Rattle.node.specs.declared.Node.{Node}
use Rattle.node.specs.Sizes.{node_float_count, node_word_count}
use Rattle.node.specs.Areas.{id_at, len_at, safe_at, node_at, floats_of, words_of}
use Rattle.node.proofs.Areas.{length_floats, length_stored_floats, length_stored_words, word_stays, stored_same, stored_other}
use Rattle.adoption.specs.Adoption.{Lent, node_in, adopted_at, stored, pair_adopted, pairs_adopted, pairs_by}
use Rattle.adoption.specs.Fits.{Fit}
use Rattle.adoption.proofs.Adopted.{adopted_id, adopted_len, adopted_safe}
use Rattle.adoption.proofs.Pairs.{Taken, of_pair, pair_fit, new_room, adopted_full_at}

-- ---- what stays

pub record Kept (start new : Lent) : Type 0 where
  pub count : new.count ≡ start.count
  pub floats : length new.floats ≡ length start.floats
  pub words : length new.words ≡ length start.words
  pub ids : (i : ℕ) → id_at new.words i ≡ id_at start.words i
  pub lens : (i : ℕ) → len_at new.words i ≡ len_at start.words i
  pub safes : (i : ℕ) → safe_at new.words i ≡ safe_at start.words i
  -- "Areas may be longer than needed; the rest is untouched."
  pub rest_floats : drop (start.count * node_float_count) new.floats ≡ drop (start.count * node_float_count) start.floats
  pub rest_words : drop (start.count * node_word_count) new.words ≡ drop (start.count * node_word_count) start.words

pub kept_self : (l : Lent) → Kept l l
kept_self l = record { count = refl; floats = refl; words = refl; ids = λ _. refl; lens = λ _. refl; safes = λ _. refl; rest_floats = refl; rest_words = refl }

pub kept_trans : {a b c : Lent} → Kept a b → Kept b c → Kept a c
kept_trans {a} {b} {c} k m =
    record {
      count = m.count ∙ k.count;
      floats = m.floats ∙ k.floats;
      words = m.words ∙ k.words;
      ids = λ i. m.ids i ∙ k.ids i;
      lens = λ i. m.lens i ∙ k.lens i;
      safes = λ i. m.safes i ∙ k.safes i;
      rest_floats = rw k.count at m.rest_floats ∙ k.rest_floats;
      rest_words = rw k.count at m.rest_words ∙ k.rest_words;
    }

-- ---- one pair that is not skipped
module _ {new old : Lent} {ramp n o : ℕ} (f : Fit new old ramp) (t : Taken new old n o) where
  abbrev node : Node
  node = adopted_at new old ramp n o

  abbrev here : Node
  here = node_in new n

  abbrev there : Node
  there = node_in old o

  stored_kept : Kept new (stored new n node)
  unfolding node_at words_of
  stored_kept =
      let h = t.here in
      record {
        count = refl;
        floats = length_stored_floats new.floats n node;
        words = length_stored_words new.words n node;
        ids = λ i. rw add-zero at (word_stays new.words n node i 0 (omega arith) (adopted_id here there ramp ∙ ap (λ k. get_or new.words k 0) (sym (add-zero (n * node_word_count)))));
        lens = λ i. word_stays new.words n node i 1 (omega arith) (adopted_len here there ramp);
        safes = λ i. word_stays new.words n node i 3 (omega arith) (adopted_safe here there ramp);
        rest_floats = drop_sets (new.count * node_float_count) new.floats (n * node_float_count) (floats_of node) (rw (length_floats node (adopted_full_at f t)) (omega arith));
        rest_words = drop_sets (new.count * node_word_count) new.words (n * node_word_count) (words_of node) (omega arith);
      }

  -- its node is what the pair made of it
  pub stored_here : node_in (stored new n node) n ≡ node
  stored_here = stored_same new.floats new.words n node (adopted_full_at f t) (new_room f t)

  -- and another node is as it was
  pub stored_apart : (i : ℕ) → (i ≡ n → ⊥) → node_in (stored new n node) i ≡ node_in new i
  stored_apart i e = stored_other new.floats new.words n node (adopted_full_at f t) i e

pub pair_kept : {new old : Lent} {ramp : ℕ} (n o : ℕ) → Fit new old ramp → Kept new (pair_adopted old ramp n o new)
pair_kept {new} {old} {ramp} n o f = of_pair new old n o ramp (Kept new) (kept_self new) (λ t. stored_kept f t)

-- ---- all pairs
module _ {old : Lent} {ramp : ℕ} where
  pub pairs_fit : (pairs : List ℕ) {new : Lent} → Fit new old ramp → Fit (pairs_adopted old ramp pairs new) old ramp
  unfolding pairs_by
  pairs_fit [] f = f
  pairs_fit (n ∷ []) f = f
  pairs_fit (n ∷ o ∷ pairs) f = pairs_fit pairs (pair_fit n o f)

  pub pairs_kept : (pairs : List ℕ) {new : Lent} → Fit new old ramp → Kept new (pairs_adopted old ramp pairs new)
  unfolding pairs_by
  pairs_kept [] {new} f = kept_self new
  pairs_kept (n ∷ []) {new} f = kept_self new
  pairs_kept (n ∷ o ∷ pairs) f = kept_trans (pair_kept n o f) (pairs_kept pairs (pair_fit n o f))
