-- The lent areas as nodes: what is read after a store, at the same number and at another. Assumes nothing.
use Prim.Native.Nat.{ℕ, zero, suc, ◌+◌, ◌*◌, ◌<◌, ◌≤◌}
use native.Mathlib.Nat.{add-zero, not-suc-le-zero, le_of_suc-le-suc}
use native.Mathlib.Omega.{arith}
use native.Mathlib.Decide.{dec_lt, ℕ_discrete}
use mathlib.Core.Logic.{inl, inr}
use mathlib.Core.Path.{◌≡◌, refl, sym, ◌∙◌}
use mathlib.Core.List.{List, [], ◌∷◌, ◌++◌}
use lib.ListN.{length, get_or, set, length-set, length-append, get_or-append}
use lib.Seq.{sets, length-sets, get_or-set_same, get_or-set_other, get_or_at, ext_get_or}
use lib.Ieee.{Float}
use Rattle.lists.specs.Parts.{part}
use Rattle.lists.proofs.Stores.{length_part, sets_append, get_d_sets, get_d_sets_at, part_sets_before, part_sets_after, part_sets_same}
use Rattle.node.specs.Sizes.{max_values, node_float_count, node_word_count}
use Rattle.node.specs.Nodes.{Full, gain_at, gain_of}
use Rattle.node.specs.Areas.{Room, id_at, len_at, left_at, safe_at, cur_at, target_at, step_at, node_at, nodes, floats_of, words_of, stored_floats, stored_words}
use Rattle.node.specs.declared.Node.{Node}

-- ---- lengths
pub length_floats : (node : Node) → Full node → length (floats_of node) ≡ node_float_count
unfolding floats_of
length_floats node full = rw (length-append, length-append, full.cur, full.target, full.step)

pub length_stored_floats : (floats : List Float) (n : ℕ) (node : Node) → length (stored_floats floats n node) ≡ length floats
length_stored_floats floats n node = length-sets floats (n * node_float_count) (floats_of node)

pub length_stored_words : (words : List ℕ) (n : ℕ) (node : Node) → length (stored_words words n node) ≡ length words
length_stored_words words n node = length-sets words (n * node_word_count) (words_of node)

-- ---- the words after a store
past_end : (l : List ℕ) (i : ℕ) → length l ≤ i → get_or l i 0 ≡ 0
past_end [] i h = refl
past_end (x ∷ l) zero h = absurd (not-suc-le-zero h)
past_end (x ∷ l) (suc i) h = past_end l i (le_of_suc-le-suc h)

module _ (words : List ℕ) (n : ℕ) (node : Node) where
  word_same : (j : ℕ) → j < node_word_count → (n + 1) * node_word_count ≤ length words
      → get_or (stored_words words n node) (n * node_word_count + j) 0 ≡ get_or (words_of node) j 0
  unfolding words_of
  word_same j h r = get_d_sets_at words (n * node_word_count) j (words_of node) 0 h (omega arith)

  pub id_stored : (n + 1) * node_word_count ≤ length words → id_at (stored_words words n node) n ≡ node.id
  unfolding words_of
  id_stored r = rw add-zero at (word_same 0 (omega arith) r)

  pub len_stored : (n + 1) * node_word_count ≤ length words → len_at (stored_words words n node) n ≡ node.len
  unfolding words_of
  len_stored r = word_same 1 (omega arith) r

  pub left_stored : (n + 1) * node_word_count ≤ length words → left_at (stored_words words n node) n ≡ node.left
  unfolding words_of
  left_stored r = word_same 2 (omega arith) r

  pub safe_stored : (n + 1) * node_word_count ≤ length words → safe_at (stored_words words n node) n ≡ node.safe
  unfolding words_of
  safe_stored r = word_same 3 (omega arith) r

  -- a word of another node
  pub word_other : (m j : ℕ) → (m ≡ n → ⊥) → j < node_word_count → get_or (stored_words words n node) (m * node_word_count + j) 0 ≡ get_or words (m * node_word_count + j) 0
  unfolding words_of
  word_other m j h l = go (dec_lt m n)
    where
      go : Dec (m < n) → get_or (stored_words words n node) (m * node_word_count + j) 0 ≡ get_or words (m * node_word_count + j) 0
      go (yes p) = get_d_sets (m * node_word_count + j) words (n * node_word_count) (words_of node) 0 (inl (omega arith))
      go (no p) = get_d_sets (m * node_word_count + j) words (n * node_word_count) (words_of node) 0 (inr (omega arith))

  -- Where a store leaves word j of node n as it was, word j of every node is what it was, also where the area ends before that.
  pub word_stays : (m j : ℕ) → j < node_word_count → get_or (words_of node) j 0 ≡ get_or words (n * node_word_count + j) 0
      → get_or (stored_words words n node) (m * node_word_count + j) 0 ≡ get_or words (m * node_word_count + j) 0
  unfolding words_of
  word_stays m j l e = go (ℕ_discrete m n)
    where
      k : ℕ
      k = n * node_word_count + j

      same : Dec (k < length words) → get_or (stored_words words n node) k 0 ≡ get_or words k 0
      same (yes p) = get_d_sets_at words (n * node_word_count) j (words_of node) 0 l p ∙ e
      same (no p) = past_end (stored_words words n node) k (rw length_stored_words (omega arith)) ∙ sym (past_end words k (omega arith))

      go : Dec (m ≡ n) → get_or (stored_words words n node) (m * node_word_count + j) 0 ≡ get_or words (m * node_word_count + j) 0
      go (yes p) = rw p (same (dec_lt k (length words)))
      go (no p) = word_other m j p l

-- ---- the floats after a store: three rows one after the other
module _ (floats : List Float) (n : ℕ) (node : Node) where
  pub stored_rows : (a b c : List Float) → length node.cur ≡ max_values → length node.target ≡ max_values
      → a ≡ sets floats (n * node_float_count) node.cur
      → b ≡ sets a (n * node_float_count + max_values) node.target
      → c ≡ sets b (n * node_float_count + 2 * max_values) node.step
      → c ≡ stored_floats floats n node
  unfolding floats_of
  stored_rows a b c hc ht p q r =
      rw (
        r,
        q,
        p,
        sets_append floats (n * node_float_count) (node.cur ++ node.target) node.step,
        sets_append floats (n * node_float_count) node.cur node.target,
        length-append node.cur node.target,
        hc,
        ht,
      )

  -- a row of another node
  row_other : (m j : ℕ) → Full node → (m ≡ n → ⊥) → j + max_values ≤ node_float_count
      → part (m * node_float_count + j) max_values (stored_floats floats n node) ≡ part (m * node_float_count + j) max_values floats
  row_other m j full h l = go (dec_lt m n)
    where
      go : Dec (m < n) → part (m * node_float_count + j) max_values (stored_floats floats n node) ≡ part (m * node_float_count + j) max_values floats
      go (yes p) = part_sets_before (m * node_float_count + j) max_values floats (n * node_float_count) (floats_of node) (omega arith)
      go (no p) = part_sets_after (m * node_float_count + j) max_values floats (n * node_float_count) (floats_of node) (rw (length_floats node full) (omega arith))

-- ---- a node after a store
module _ (floats : List Float) (words : List ℕ) (n : ℕ) (node : Node) (full : Full node) where
  pub stored_same : Room (n + 1) floats words → node_at (stored_floats floats n node) (stored_words words n node) n ≡ node
  unfolding node_at
  stored_same r =
      let k : ℕ = n * node_float_count in
      let a : List Float = sets floats k node.cur in
      let b : List Float = sets a (k + max_values) node.target in
      let la : length a ≡ length floats = length-sets floats k node.cur in
      let lb : length b ≡ length floats = length-sets a (k + max_values) node.target ∙ la in
      let c : part k max_values (sets b (k + 2 * max_values) node.step) ≡ node.cur =
      part_sets_before k max_values b (k + 2 * max_values) node.step (omega arith)
      ∙ part_sets_before k max_values a (k + max_values) node.target (omega arith)
      ∙ part_sets_same k max_values floats node.cur full.cur (omega arith) in
      let t : part (k + max_values) max_values (sets b (k + 2 * max_values) node.step) ≡ node.target =
      part_sets_before (k + max_values) max_values b (k + 2 * max_values) node.step (omega arith)
      ∙ part_sets_same (k + max_values) max_values a node.target full.target (omega arith) in
      let s : part (k + 2 * max_values) max_values (sets b (k + 2 * max_values) node.step) ≡ node.step =
      part_sets_same (k + 2 * max_values) max_values b node.step full.step (omega arith) in
      rw (
        sym (stored_rows floats n node a b (sets b (k + 2 * max_values) node.step) full.cur full.target refl refl refl),
        c,
        t,
        s,
        id_stored words n node r.1,
        len_stored words n node r.1,
        left_stored words n node r.1,
        safe_stored words n node r.1,
      )

  pub stored_other : (m : ℕ) → (m ≡ n → ⊥) → node_at (stored_floats floats n node) (stored_words words n node) m ≡ node_at floats words m
  unfolding node_at
  stored_other m h =
      rw (
        rw add-zero at (row_other floats n node m 0 full h (omega arith)),
        row_other floats n node m max_values full h (omega arith),
        row_other floats n node m (2 * max_values) full h (omega arith),
        rw add-zero at (word_other words n node m 0 h (omega arith)),
        word_other words n node m 1 h (omega arith),
        word_other words n node m 2 h (omega arith),
        word_other words n node m 3 h (omega arith),
      )

-- ---- the list of the first count nodes
pub length_nodes : (count : ℕ) (floats : List Float) (words : List ℕ) → length (nodes count floats words) ≡ count
unfolding nodes
length_nodes zero floats words = refl
length_nodes (suc n) floats words = length-append (nodes n floats words) (node_at floats words n ∷ []) ∙ omega (arith, length_nodes n floats words)

pub get_d_nodes : (count : ℕ) (floats : List Float) (words : List ℕ) (i : ℕ) (d : Node) → i < count
    → get_or (nodes count floats words) i d ≡ node_at floats words i
unfolding nodes
get_d_nodes zero floats words i d h = absurd (not-suc-le-zero h)
get_d_nodes (suc n) floats words i d h = go (λ (p : i < n). get_d_nodes n floats words i d p) (dec_lt i n)
  where
    go : (i < n → get_or (nodes n floats words) i d ≡ node_at floats words i) → Dec (i < n)
        → get_or (nodes n floats words ++ (node_at floats words n ∷ [])) i d ≡ node_at floats words i
    go ih (yes p) = get_or-append (nodes n floats words) (node_at floats words n ∷ []) d i (rw length_nodes p) ∙ ih p
    go ih (no p) =
        let e : i ≡ n = omega arith in
        rw e (get_or_at (nodes n floats words) (node_at floats words n) [] d n (length_nodes n floats words))

-- lists of nodes that are equal one by one
pub nodes_same : (count : ℕ) (fs gs : List Float) (vs ws : List ℕ) → ((i : ℕ) → i < count → node_at fs vs i ≡ node_at gs ws i)
    → nodes count fs vs ≡ nodes count gs ws
unfolding nodes
nodes_same zero fs gs vs ws h = refl
nodes_same (suc n) fs gs vs ws h = rw (nodes_same n fs gs vs ws (λ (i : ℕ) (l : i < n). h i (omega arith)), h n (omega arith))

-- a store replaces one node of the list
pub nodes_stored : (count : ℕ) (floats : List Float) (words : List ℕ) (n : ℕ) (node : Node) → Full node → n < count
    → Room count floats words → nodes count (stored_floats floats n node) (stored_words words n node) ≡ set (nodes count floats words) n node
nodes_stored count floats words n node full h room =
    ext_get_or node after (set before n node) (length_nodes count fs ws ∙ sym (length-set before n node ∙ length_nodes count floats words)) each
  where
    fs : List Float
    fs = stored_floats floats n node

    ws : List ℕ
    ws = stored_words words n node

    before : List Node
    before = nodes count floats words

    after : List Node
    after = nodes count fs ws

    each : (i : ℕ) → i < length after → get_or after i node ≡ get_or (set before n node) i node
    each i l = go (ℕ_discrete i n)
      where
        k : i < count
        k = rw length_nodes at l

        go : Dec (i ≡ n) → get_or after i node ≡ get_or (set before n node) i node
        go (yes e) =
            rw e
            (get_d_nodes count fs ws n node h ∙ stored_same floats words n node full (omega arith, omega arith)
            ∙ sym (get_or-set_same before n node node (rw length_nodes h)))
        go (no e) =
            get_d_nodes count fs ws i node k ∙ stored_other floats words n node full i e
            ∙ sym (get_or-set_other before n i node node e ∙ get_d_nodes count floats words i node k)

-- ---- the rows of a node where they lie

pub length_rows : (floats : List Float) (n : ℕ) → (n + 1) * node_float_count ≤ length floats
    → (length (cur_at floats n) ≡ max_values) × (length (target_at floats n) ≡ max_values) × (length (step_at floats n) ≡ max_values)
length_rows floats n r = (
  length_part (n * node_float_count) max_values floats (omega arith),
  length_part (n * node_float_count + max_values) max_values floats (omega arith),
  length_part (n * node_float_count + 2 * max_values) max_values floats (omega arith),
)

pub rows_gains : (floats : List Float) (words : List ℕ) (n : ℕ) {cur step target : List Float} {left : ℕ} → cur ≡ cur_at floats n
    → target ≡ target_at floats n → step ≡ step_at floats n → left ≡ left_at words n → gain_at cur step target left ≡ gain_of (node_at floats words n)
unfolding node_at gain_of
rows_gains floats words n c t s l = rw (c, t, s, l)
