-- The end of a block in the lent areas: a node at rest stays as it is, and of one whose ramp goes on nothing but cur and left change.
-- Assumes nothing.
use mathlib.Core.Path.{◌≡◌, sym, ap, ◌∙◌}
use mathlib.Core.List.{List, [], ◌∷◌, ◌++◌, append_assoc}
use mathlib.Core.Logic.{inr}
use Prim.Native.Nat.{ℕ, suc, ◌+◌, ◌-◌, ◌*◌, ◌≤◌, ◌<◌, min}
use native.Mathlib.Nat.{le_refl, zero-add, suc-add}
use native.Mathlib.Numerals.{unary_clauses}
use native.Mathlib.Omega.{arith}
use lib.ListN.{length, get_or, take, drop, set, length-set, length-append, take-append-drop}
use lib.Seq.{sets, length-sets, sets-eq, get_or-set_other, set-get_or, set-append_left, drop-drop, get_or-take, get_or-drop, length-take-le}
use lib.Ieee.{Float, nan}
use borrow.Author.Tests.{ne_eqb}
use Rattle.lists.specs.Parts.{part}
use Rattle.lists.proofs.Stores.{length_part, sets_append, get_d_sets, get_d_sets_at, part_sets_after}
use Rattle.lists.proofs.Filled.{upto_more, upto_past, length_upto}
use Rattle.node.specs.Sizes.{max_values, node_float_count, node_word_count}
use Rattle.node.specs.Nodes.{at, changed, on_ramp, advanced, finish_block}
use Rattle.node.specs.Areas.{Room, len_at, left_at, node_at, floats_of, words_of, stored_floats, stored_words}
use Rattle.node.proofs.Left.{finish_rest}
use Rattle.node_areas.specs.Loops.{cur_row}

-- ---- parts of a list, stored where they are
module _ {A : Type 0} (l : List A) where
  part_there : (k n : ℕ) → k + n ≤ length l → sets l k (part k n l) ≡ l
  part_there k n h =
      let e : length (part k n l) ≡ n = length_part k n l h in
      sets-eq (part k n l) l k (omega (arith, e))
      ∙ ap (λ (i : ℕ). take k l ++ part k n l ++ drop (k + i) l) e
      ∙ ap (λ (r : List A). take k l ++ part k n l ++ r) (sym (drop-drop n k l))
      ∙ append_assoc (take k l) (part k n l) (drop n (drop k l))
      ∙ ap (λ (r : List A). take k l ++ r) (take-append-drop n (drop k l))
      ∙ take-append-drop k l

  part_first : (k n : ℕ) (rest : List A) → k + n ≤ length l → sets l k (part k n l ++ rest) ≡ sets l (k + n) rest
  part_first k n rest h =
      sets_append l k (part k n l) rest
      ∙ ap (λ (z : List A). sets z (k + length (part k n l)) rest) (part_there k n h)
      ∙ ap (λ (i : ℕ). sets l (k + i) rest) (length_part k n l h)

-- ---- one store more in a run of stores
set_after : {A : Type 0} (xs ys : List A) (i : ℕ) (a : A) → set (xs ++ ys) (length xs + i) a ≡ xs ++ set ys i a
set_after [] ys i a = rw zero-add
set_after (x ∷ xs) ys i a = rw suc-add (ap (λ r. x ∷ r) (set_after xs ys i a))

set_sets : {A : Type 0} (l vs : List A) (k i : ℕ) (a : A) → i < length vs → k + length vs ≤ length l → set (sets l k vs) (k + i) a ≡ sets l k (set vs i a)
set_sets {A} l vs k i a h r =
    let e : length (take k l) ≡ k = length-take-le k l (omega arith) in
    let rest : List A = drop (k + length vs) l in
    ap (λ (z : List A). set z (k + i) a) (sets-eq vs l k r)
    ∙ set-append_left (take k l ++ vs) rest (k + i) a (omega (arith, e, length-append (take k l) vs))
    ∙ ap (λ (n : ℕ). set (take k l ++ vs) (n + i) a ++ rest) (sym e)
    ∙ ap (λ (z : List A). z ++ rest) (set_after (take k l) vs i a)
    ∙ ap (λ (n : ℕ). take k l ++ set vs i a ++ drop (k + n) l) (sym (length-set vs i a))
    ∙ sym (sets-eq (set vs i a) l k (omega (arith, length-set vs i a)))

-- an entry that is stored where it is, behind one that is stored anew
after_set : (l : List ℕ) (k a : ℕ) → set (set l k a) (suc k) (get_or l (suc k) 0) ≡ set l k a
after_set l k a = ap (set (set l k a) (suc k)) (sym (get_or-set_other l k (suc k) a 0 (λ e. omega (arith, e)))) ∙ set-get_or (set l k a) (suc k) 0

-- ---- the row cur, turn by turn
module _ (floats : List Float) (k m : ℕ) (room : k + node_float_count ≤ length floats) where
  there : (j i : ℕ) → i < max_values → get_or floats (j + i) nan ≡ at (part j max_values floats) i
  there j i h = sym (get_or-take max_values (drop j floats) i nan h ∙ get_or-drop j floats i nan)

  length_row : (i : ℕ) → length (cur_row floats k m i) ≡ max_values
  length_row i = length_upto _ i (part k max_values floats) ∙ length_part k max_values floats (omega arith)

  pub row_starts : floats ≡ sets floats k (cur_row floats k m 0)
  row_starts = sym (part_there floats k max_values (omega arith))

  pub row_turn : (area : List Float) (i : ℕ) → area ≡ sets floats k (cur_row floats k m i) → i < max_values
      → set area (k + i) (on_ramp (get_or area (k + i) nan) (get_or area (k + 2 * max_values + i) nan) m) ≡ sets floats k (cur_row floats k m (i + 1))
  row_turn area i e h =
      let cur : List Float = part k max_values floats in
      let row : List Float = cur_row floats k m i in
      let l = length_row i in
      let c : get_or (sets floats k row) (k + i) nan ≡ at cur i = get_d_sets_at floats k i row nan (omega arith) (omega arith) ∙ upto_past _ i cur i nan (le_refl i) in
      let s : get_or (sets floats k row) (k + 2 * max_values + i) nan ≡ at (part (k + 2 * max_values) max_values floats) i =
      get_d_sets (k + 2 * max_values + i) floats k row nan (inr (omega arith)) ∙ there (k + 2 * max_values) i h in
      rw (e, c, s) (set_sets floats row k i _ (omega arith) (omega arith) ∙ ap (sets floats k) (upto_more _ i cur))

-- ---- the node
module _ (floats : List Float) (words : List ℕ) (n : ℕ) (room : Room (n + 1) floats words) where
  -- where target and step are what they were
  cur_alone : (cur : List Float) (left : ℕ) → length cur ≡ max_values
      → (let node = node_at floats words n in stored_floats floats n (changed node cur node.target node.step left) ≡ sets floats (n * node_float_count) cur)
  unfolding floats_of node_at
  cur_alone cur left e =
      let p : ℕ = n * node_float_count in
      let h : p + 3 * max_values ≤ length floats = omega (arith, room.0) in
      let l : List Float = sets floats p cur in
      let len : length l ≡ length floats = length-sets floats p cur in
      let t : List Float = part (p + max_values) max_values floats in
      let s : List Float = part (p + 2 * max_values) max_values floats in
      let q : p + max_values + max_values ≡ p + 2 * max_values = omega arith in
      ap (λ (z : List Float). sets floats p z) (append_assoc cur t s)
      ∙ sets_append floats p cur (t ++ s)
      ∙ ap (λ (i : ℕ). sets l (p + i) (t ++ s)) e
      ∙ ap (λ (z : List Float). sets l (p + max_values) (z ++ s)) (sym (part_sets_after (p + max_values) max_values floats p cur (omega arith)))
      ∙ part_first l (p + max_values) max_values s (omega arith)
      ∙ ap (λ (i : ℕ). sets l i s) q
      ∙ ap (sets l (p + 2 * max_values)) (sym (part_sets_after (p + 2 * max_values) max_values floats p cur (omega arith)))
      ∙ part_there l (p + 2 * max_values) max_values (omega arith)

  floats_there : stored_floats floats n (node_at floats words n) ≡ floats
  unfolding node_at
  floats_there =
      let p : ℕ = n * node_float_count in
      let h : p + max_values ≤ length floats = omega (arith, room.0) in
      cur_alone (part p max_values floats) (left_at words n) (length_part p max_values floats h) ∙ part_there floats p max_values h

  words_there : stored_words words n (node_at floats words n) ≡ words
  unfolding words_of node_at
  words_there = simp (unary_clauses, set-get_or)

  left_alone : (cur : List Float) (left : ℕ)
      → (let node = node_at floats words n in stored_words words n (changed node cur node.target node.step left) ≡ set words (n * node_word_count + 2) left)
  unfolding words_of node_at
  left_alone cur left = simp (unary_clauses, set-get_or) (after_set words (suc (suc (n * node_word_count))) left)

  module _ (block : ℕ) (e : left_at words n ≡ 0) where
    same_node : finish_block (node_at floats words n) block ≡ node_at floats words n
    unfolding node_at
    same_node = finish_rest (node_at floats words n) block e

    pub rest_floats : floats ≡ stored_floats floats n (finish_block (node_at floats words n) block)
    rest_floats = sym (ap (stored_floats floats n) same_node ∙ floats_there)

    pub rest_words : words ≡ stored_words words n (finish_block (node_at floats words n) block)
    rest_words = sym (ap (stored_words words n) same_node ∙ words_there)

  module _ (block : ℕ) (e : block < left_at words n) where
    goes_on : finish_block (node_at floats words n) block ≡ advanced (node_at floats words n) block
    unfolding finish_block node_at
    goes_on =
        let m : min block (left_at words n) ≡ block = omega arith in
        rw (m, ne_eqb (left_at words n) 0 (omega arith), ne_eqb (left_at words n - block) 0 (omega arith))

    pub on_floats : sets floats (n * node_float_count) (cur_row floats (n * node_float_count) block (len_at words n)) ≡ stored_floats floats n (finish_block (node_at floats words n) block)
    unfolding node_at
    on_floats =
        let p : ℕ = n * node_float_count in
        let h : p + node_float_count ≤ length floats = omega (arith, room.0) in
        sym (ap (stored_floats floats n) goes_on ∙ cur_alone (cur_row floats p block (len_at words n)) (left_at words n - block) (length_row floats p block h (len_at words n)))

    pub on_words : set words (n * node_word_count + 2) (left_at words n - block) ≡ stored_words words n (finish_block (node_at floats words n) block)
    unfolding node_at
    on_words = sym (ap (stored_words words n) goes_on ∙ left_alone (cur_row floats (n * node_float_count) block (len_at words n)) (left_at words n - block))
