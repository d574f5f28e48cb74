-- The test of number 14: what it lets pass, node by node, and that each call and a store keep to it. Assumes nothing.
use Prim.Native.Nat.{ℕ, zero, suc, ◌+◌, ◌*◌, ◌<◌, ◌≤◌}
use native.Mathlib.Nat.{not-suc-le-zero}
use native.Mathlib.Omega.{arith}
use native.Mathlib.Decide.{dec_lt, ℕ_discrete}
use mathlib.Core.Path.{◌≡◌, refl, sym, ◌∙◌}
use mathlib.Core.Bool.{Bool, true, false, ◌||◌, true≢false}
use mathlib.Core.List.{List}
use lib.Dec.{ltb}
use lib.ListN.{length}
use lib.Ieee.{Float}
use borrow.Author.Tests.{ltb-false, le-ltb}
use Rattle.node.specs.Sizes.{max_values, node_word_count, max_ramp, max_safe, safe_too_high}
use Rattle.node.specs.Nodes.{new_node, set_node, finish_block}
use Rattle.node.specs.Areas.{len_at, left_at, safe_at, node_at, is_bad, InRange, some_bad, stored_words}
use Rattle.node.specs.declared.Node.{Node}
use Rattle.node.proofs.Kept.{len_set, len_new, len_finish, safe_set, safe_new_lem, safe_finish}
use Rattle.node.proofs.Left.{left_new, left_bound_set, left_bound_finish}
use Rattle.node.proofs.Areas.{len_stored, left_stored, safe_stored, word_other}

-- ---- one node
or_left : (a b : Bool) → (a || b) ≡ false → a ≡ false
or_left true b e = e
or_left false b e = refl

or_right : (a b : Bool) → (a || b) ≡ false → b ≡ false
or_right true b e = absurd (true≢false e)
or_right false b e = e

pub good_in_range : (n : Node) → is_bad n.len n.left n.safe ≡ false → InRange n
unfolding is_bad
good_in_range n e =
    let a : Bool = ltb max_values n.len in
    let b : Bool = ltb max_ramp n.left in
    let c : Bool = safe_too_high n.safe in
    let e' : (a || b) ≡ false = or_left (a || b) c e in
    record {
      len = ltb-false max_values n.len (or_left a b e');
      left = ltb-false max_ramp n.left (or_right a b e');
      safe = ltb-false max_safe n.safe (or_right (a || b) c e);
    }

in_range_good : (n : Node) → InRange n → is_bad n.len n.left n.safe ≡ false
unfolding is_bad
in_range_good n r = rw (le-ltb max_values n.len r.len, le-ltb max_ramp n.left r.left, le-ltb max_safe n.safe r.safe)

-- ---- after each call
pub in_range_set : (n : Node) (values : List Float) (r : ℕ) → InRange n → r ≤ max_ramp → InRange (set_node n values r)
in_range_set n values r g h = record { len = rw len_set g.len; left = left_bound_set n values r h; safe = rw safe_set g.safe }

pub in_range_new : (id : ℕ) (values : List Float) (r safe : ℕ) → r ≤ max_ramp → safe ≤ max_safe → InRange (new_node id values r safe)
in_range_new id values r safe h k = record { len = rw len_new (omega arith); left = rw left_new h; safe = rw safe_new_lem k }

pub in_range_finish : (n : Node) (block : ℕ) → InRange n → InRange (finish_block n block)
in_range_finish n block g = record { len = rw len_finish g.len; left = left_bound_finish n block g.left; safe = rw safe_finish g.safe }

-- ---- the first count nodes
abbrev bad_at : List ℕ → ℕ → Bool
bad_at words i = is_bad (len_at words i) (left_at words i) (safe_at words i)

pub none_bad : (words : List ℕ) (count : ℕ) → ((i : ℕ) → i < count → bad_at words i ≡ false) → some_bad words count ≡ false
unfolding some_bad
none_bad words zero all = refl
none_bad words (suc n) all = rw (none_bad words n (λ (i : ℕ) (h : i < n). all i (omega arith)), all n (omega arith))

good_at : (words : List ℕ) (count : ℕ) → some_bad words count ≡ false → (i : ℕ) → i < count → bad_at words i ≡ false
unfolding some_bad
good_at words zero e i h = absurd (not-suc-le-zero h)
good_at words (suc n) e i h = go (good_at words n (or_left (some_bad words n) (bad_at words n) e) i) (dec_lt i n)
  where
    go : (i < n → bad_at words i ≡ false) → Dec (i < n) → bad_at words i ≡ false
    go below (yes p) = below p
    go below (no p) =
        let same : i ≡ n = omega arith in
        rw same (or_right (some_bad words n) (bad_at words n) e)

-- the floats have no part in it
pub none_bad_at : (words : List ℕ) (count : ℕ) → some_bad words count ≡ false → (floats : List Float) (i : ℕ) → i < count
    → InRange (node_at floats words i)
unfolding node_at
none_bad_at words count e floats i h = good_in_range (node_at floats words i) (good_at words count e i h)

pub some_bad_lem : (words : List ℕ) (count i : ℕ) → i < count → bad_at words i ≡ true → some_bad words count ≡ true
some_bad_lem words count i h t = go (some_bad words count) refl
  where
    go : (b : Bool) → some_bad words count ≡ b → b ≡ true
    go true e = refl
    go false e = sym (good_at words count e i h) ∙ t

-- ---- after a store
pub none_bad_stored : (words : List ℕ) (n : ℕ) (node : Node) (count : ℕ) → (n + 1) * node_word_count ≤ length words → InRange node
    → some_bad words count ≡ false → some_bad (stored_words words n node) count ≡ false
none_bad_stored words n node count room g e = none_bad (stored_words words n node) count (λ i h. go i h (ℕ_discrete i n))
  where
    go : (i : ℕ) → i < count → Dec (i ≡ n) → bad_at (stored_words words n node) i ≡ false
    go i h (yes same) = rw (same, len_stored words n node room, left_stored words n node room, safe_stored words n node room) (in_range_good node g)
    go i h (no other) =
        rw (word_other words n node i 1 other (omega arith), word_other words n node i 2 other (omega arith), word_other words n node i 3 other (omega arith))
        (good_at words count e i h)
