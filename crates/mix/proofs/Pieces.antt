-- The last samples of a block, stored one by one; and pieces that make a buffer, or two, from one source or two: one law for whatever is done to a sample.
-- With one source the second one is the first again, and `alone` is done with it. Assumes nothing.
use mathlib.Core.Path.{◌≡◌, refl, sym, ap, ◌∙◌}
use mathlib.Core.List.{List}
use mathlib.Core.Logic.{inl, inr, ⊎_elim}
use Prim.Native.Nat.{ℕ, ◌+◌, ◌-◌, ◌*◌, ◌/◌, ◌≤◌, ◌<◌}
use native.Mathlib.Nat.{add_assoc}
use native.Mathlib.Omega.{arith}
use lib.ListN.{length, get_or, set}
use lib.Seq.{sets, length-sets}
use lib.Ieee.{Float, nan}
use Rattle.lists.proofs.Stores.{get_d_sets, sets_swap}
use Rattle.mix.specs.Samples.{sample, sampled, put}
use Rattle.mix.specs.Mix.{Pair}
use Rattle.mix.specs.Loops.{whole_piece, two_at, two_in, Piece, PartsApart}
use Rattle.mix.proofs.Stored.{length_sampled, sampled_same, none_stored, store_more, run_more}
use Rattle.mix.proofs.Put.{apart_of, begun_other, begun_same, put_same}
use Rattle.mix.proofs.Mixed.{apart_kept}

-- no second source
abbrev pub alone : ℕ → Float → Float → Float
alone k x y = y

-- ---- the last samples, one by one: none, one more, and all
module _ (f q : ℕ → Float → Float → Float) (from other to k : ℕ) (a : List Float) where
  abbrev pub LastStored : ℕ → List Float → Type 0
  LastStored i b = (length b ≡ length a) × (b ≡ two_at f q from other to i k a)

  abbrev one : ℕ → Float
  one i = q (k + i) (get_or a (other + i) nan) (f (k + i) (get_or a (from + i) nan) (get_or a (to + i) nan))

  pub none_done : LastStored 0 a
  none_done = (refl, none_stored one a to)

  pub one_done : (m i : ℕ) {b c : List Float} → PartsApart from to m → PartsApart other to m → i < m → LastStored i b
      → c ≡ set b (to + i) (q (k + i) (get_or b (other + i) nan) (f (k + i) (get_or b (from + i) nan) (get_or b (to + i) nan))) → LastStored (i + 1) c
  one_done m i {b} {c} of oz l e g =
      let held : (p : ℕ) → PartsApart p to m → get_or b (p + i) nan ≡ get_or a (p + i) nan =
      λ p o. ap (λ (w : List Float). get_or w (p + i) nan) e.1 ∙ apart_kept one a to m p i i o l (omega arith) in
      let own : get_or b (to + i) nan ≡ get_or a (to + i) nan =
      ap (λ (w : List Float). get_or w (to + i) nan) e.1 ∙ get_d_sets (to + i) a to (sampled i one) nan (inr (omega (arith, length_sampled i one))) in
      let done : c ≡ sets a to (sampled (i + 1) one) =
      g
      ∙ store_more one a to i e.1
      (ap (λ (v : Float). q (k + i) v (f (k + i) (get_or b (from + i) nan) (get_or b (to + i) nan))) (held other oz)
      ∙ ap (λ (v : Float). q (k + i) (get_or a (other + i) nan) (f (k + i) v (get_or b (to + i) nan))) (held from of)
      ∙ ap (λ (v : Float). q (k + i) (get_or a (other + i) nan) (f (k + i) (get_or a (from + i) nan) v)) own) in
      (ap length done ∙ length-sets a to (sampled (i + 1) one), done)

  pub all_done : (m i : ℕ) {b : List Float} → i ≡ m → LastStored i b → b ≡ two_at f q from other to m k a
  all_done m i h e = rw h at e.1

-- m samples of two buffers, from sample n on
pub piece_of : {block s d : ℕ} {a b : List Float} → Pair block s d a → length b ≡ length a → (n m : ℕ) → n + m ≤ block → m ≤ whole_piece
    → Piece (s * block + n) (d * block + n) m n b × PartsApart (s * block + n) (d * block + n) m
piece_of {block} {s} {d} p e n m h l = (
  record {
    source = omega (arith, p.source);
    target = omega (arith, p.target);
    short = l;
    within = omega (arith, p.small);
  },
  ⊎_elim (λ (u : s * block + block ≤ d * block). inl (omega arith)) (λ (u : d * block + block ≤ s * block). inr (omega arith)) (apart_of block s d p.apart),
)

-- ---- the pieces of a buffer d
module _ (f q : ℕ → Float → Float → Float) (block s z d : ℕ) (a : List Float) where
  abbrev made : ℕ → Float
  made k = q k (sample block a z k) (f k (sample block a s k) (sample block a d k))

  -- the first i whole pieces are done
  abbrev pub Begun : ℕ → List Float → Type 0
  Begun i b = (length b ≡ length a) × (b ≡ sets a (d * block) (sampled (whole_piece * i) made))

  -- samples of another buffer e are written: those of d are made of the same
  made_same : (e n : ℕ) (g : ℕ → Float) (k : ℕ) → (s ≡ e → ⊥) → (z ≡ e → ⊥) → (d ≡ e → ⊥) → n ≤ block → k < block
      → q k (sample block (sets a (e * block) (sampled n g)) z k) (f k (sample block (sets a (e * block) (sampled n g)) s k) (sample block (sets a (e * block) (sampled n g)) d k)) ≡ made k
  made_same e n g k os oz od hn hk =
      let b : List Float = sets a (e * block) (sampled n g) in
      ap (λ (v : Float). q k v (f k (sample block b s k) (sample block b d k))) (begun_other block e n g a z k oz hk hn)
      ∙ ap (λ (v : Float). q k (sample block a z k) (f k v (sample block b d k))) (begun_other block e n g a s k os hk hn)
      ∙ ap (λ (v : Float). q k (sample block a z k) (f k (sample block a s k) v)) (begun_other block e n g a d k od hk hn)

  -- m samples after n
  run_done : (n m : ℕ) {b c : List Float} → (s ≡ d → ⊥) → (z ≡ d → ⊥) → n + m ≤ block → b ≡ sets a (d * block) (sampled n made)
      → c ≡ two_at f q (s * block + n) (z * block + n) (d * block + n) m n b → c ≡ sets a (d * block) (sampled (n + m) made)
  run_done n m {b} os oz h e g =
      let moved : (j i : ℕ) → get_or b (j * block + n + i) nan ≡ sample block (sets a (d * block) (sampled n made)) j (n + i) =
      λ j i. ap (λ (p : ℕ). get_or b p nan) (add_assoc (j * block) n i) ∙ ap (λ (w : List Float). sample block w j (n + i)) e in
      run_more made a (d * block) (λ i. q (n + i) (get_or b (z * block + n + i) nan) (f (n + i) (get_or b (s * block + n + i) nan) (get_or b (d * block + n + i) nan))) n m e g
      (λ i l. ap (λ (v : Float). q (n + i) v (f (n + i) (get_or b (s * block + n + i) nan) (get_or b (d * block + n + i) nan)))
      (moved z i ∙ begun_other block d n made a z (n + i) oz (omega arith) (omega arith))
      ∙ ap (λ (v : Float). q (n + i) (sample block a z (n + i)) (f (n + i) v (get_or b (d * block + n + i) nan)))
      (moved s i ∙ begun_other block d n made a s (n + i) os (omega arith) (omega arith))
      ∙ ap (λ (v : Float). q (n + i) (sample block a z (n + i)) (f (n + i) (sample block a s (n + i)) v))
      (moved d i ∙ begun_same block d n made a (n + i) (omega arith)))

  pub pieces_begin : Begun 0 a
  pieces_begin = (refl, none_stored made a (d * block))

  pub piece_done : Pair block s d a → Pair block z d a → (i : ℕ) {b c : List Float} → i < block / whole_piece → Begun i b
      → c ≡ two_at f q (s * block + whole_piece * i) (z * block + whole_piece * i) (d * block + whole_piece * i) whole_piece (whole_piece * i) b → Begun (i + 1) c
  piece_done p o i {b} {c} h e g =
      let w : whole_piece * (i + 1) ≡ whole_piece * i + whole_piece = omega arith in
      let done : c ≡ sets a (d * block) (sampled (whole_piece * (i + 1)) made) = rw w (run_done (whole_piece * i) whole_piece p.apart o.apart (omega arith) e.1 g) in
      (ap length done ∙ length-sets a (d * block) (sampled (whole_piece * (i + 1)) made), done)

  pub pieces_done : (i : ℕ) {b : List Float} → whole_piece * i ≡ block → Begun i b → b ≡ put block d made a
  pieces_done i h e = rw h at e.1

  -- the samples after the last whole piece
  pub rest_done : Pair block s d a → Pair block z d a → (i : ℕ) {b c : List Float} → i ≡ block / whole_piece → Begun i b
      → c ≡ two_at f q (s * block + whole_piece * (block / whole_piece)) (z * block + whole_piece * (block / whole_piece)) (d * block + whole_piece * (block / whole_piece)) (block - whole_piece * (block / whole_piece)) (whole_piece * (block / whole_piece)) b
      → c ≡ put block d made a
  rest_done p o i {b} {c} h e g =
      let n : ℕ = whole_piece * (block / whole_piece) in
      let w : n + (block - n) ≡ block = omega arith in
      rw w at (run_done n (block - n) p.apart o.apart (omega arith) (rw h at e.1) g)

-- ---- the pieces of two buffers, d and e, from the same two sources, neither of which is one of them
module _ (f q g h : ℕ → Float → Float → Float) (block s z d e : ℕ) (a : List Float) where
  abbrev first : ℕ → Float
  first = made f q block s z d a

  abbrev second : ℕ → Float
  second = made g h block s z e a

  -- n samples of d, and m of e
  abbrev both : ℕ → ℕ → List Float
  both n m = sets (sets a (d * block) (sampled n first)) (e * block) (sampled m second)

  abbrev pub BothBegun : ℕ → List Float → Type 0
  BothBegun i b = (length b ≡ length a) × (b ≡ both (whole_piece * i) (whole_piece * i))

  pub both_begin : BothBegun 0 a
  both_begin = (refl, none_stored first a (d * block) ∙ none_stored second (sets a (d * block) (sampled (whole_piece * 0) first)) (e * block))

  module _ (sd : Pair block s d a) (zd : Pair block z d a) (se : Pair block s e a) (ze : Pair block z e a) (o : e ≡ d → ⊥) where
    pub both_apart : Pair block e d a
    both_apart = record { small = sd.small; source = se.target; target = sd.target; apart = o }

    -- either can be written first
    both_swap : (n m : ℕ) → n ≤ block → m ≤ block → both n m ≡ sets (sets a (e * block) (sampled m second)) (d * block) (sampled n first)
    both_swap n m hn hm =
        sets_swap a (d * block) (sampled n first) (e * block) (sampled m second)
        (⊎_elim (λ (u : d * block + block ≤ e * block). inl (omega (arith, length_sampled n first))) (λ (u : e * block + block ≤ d * block). inr (omega (arith, length_sampled m second))) (apart_of block d e (λ w. o (sym w))))

    -- n samples of e are written: those of d are made of the same
    first_same : (n k : ℕ) → n ≤ block → k < block → made f q block s z d (sets a (e * block) (sampled n second)) k ≡ first k
    first_same n k hn hk =
        made_same f q block s z d a e n second k se.apart ze.apart (λ w. o (sym w)) hn hk

    second_same : (n k : ℕ) → n ≤ block → k < block → made g h block s z e (sets a (d * block) (sampled n first)) k ≡ second k
    second_same n k hn hk =
        made_same g h block s z e a d n first k sd.apart zd.apart o hn hk

    both_run : (n m : ℕ) {b c : List Float} → n + m ≤ block → b ≡ both n n
        → c ≡ two_at g h (s * block + n) (z * block + n) (e * block + n) m n (two_at f q (s * block + n) (z * block + n) (d * block + n) m n b)
        → c ≡ both (n + m) (n + m)
    both_run n m {b} {c} l p r =
        let x : List Float = sets a (e * block) (sampled n second) in
        let y : List Float = sets a (d * block) (sampled (n + m) first) in
        let w : List Float = two_at f q (s * block + n) (z * block + n) (d * block + n) m n b in
        let w₁ : w ≡ both (n + m) n =
        run_done f q block s z d x n m {b = b} {c = w} sd.apart zd.apart l
        (p ∙ both_swap n n (omega arith) (omega arith)
        ∙ ap (λ (v : List Float). sets x (d * block) v) (sym (sampled_same n (made f q block s z d x) first (λ k i. first_same n k (omega arith) (omega arith)))))
        refl
        ∙ ap (λ (v : List Float). sets x (d * block) v) (sampled_same (n + m) (made f q block s z d x) first (λ k i. first_same n k (omega arith) (omega arith)))
        ∙ sym (both_swap (n + m) n l (omega arith)) in
        run_done g h block s z e y n m {b = w} {c = c} se.apart ze.apart l
        (w₁ ∙ ap (λ (v : List Float). sets y (e * block) v) (sym (sampled_same n (made g h block s z e y) second (λ k i. second_same (n + m) k l (omega arith)))))
        r
        ∙ ap (λ (v : List Float). sets y (e * block) v) (sampled_same (n + m) (made g h block s z e y) second (λ k i. second_same (n + m) k l (omega arith)))

    pub both_done : (i : ℕ) {b c : List Float} → i < block / whole_piece → BothBegun i b
        → c ≡ two_at g h (s * block + whole_piece * i) (z * block + whole_piece * i) (e * block + whole_piece * i) whole_piece (whole_piece * i) (two_at f q (s * block + whole_piece * i) (z * block + whole_piece * i) (d * block + whole_piece * i) whole_piece (whole_piece * i) b)
        → BothBegun (i + 1) c
    both_done i {b} {c} l p r =
        let n : ℕ = whole_piece * (i + 1) in
        let w : n ≡ whole_piece * i + whole_piece = omega arith in
        let done : c ≡ both n n = rw w (both_run (whole_piece * i) whole_piece (omega arith) p.1 r) in
        (ap length done ∙ length-sets (sets a (d * block) (sampled n first)) (e * block) (sampled n second) ∙ length-sets a (d * block) (sampled n first), done)

    both_whole : {b : List Float} (n : ℕ) → n ≡ block → b ≡ both n n → b ≡ two_in g h block s z e (two_in f q block s z d a)
    both_whole n w p =
        (rw w at p)
        ∙ sym (put_same block e (made g h block s z e (put block d first a)) (put block d first a) second (λ k l. second_same block k (omega arith) l))

    pub boths_done : (i : ℕ) {b : List Float} → whole_piece * i ≡ block → BothBegun i b → b ≡ two_in g h block s z e (two_in f q block s z d a)
    boths_done i w p = both_whole (whole_piece * i) w p.1

    pub both_rest : (i : ℕ) {b c w : List Float} → i ≡ block / whole_piece → BothBegun i b
        → w ≡ two_at f q (s * block + whole_piece * (block / whole_piece)) (z * block + whole_piece * (block / whole_piece)) (d * block + whole_piece * (block / whole_piece)) (block - whole_piece * (block / whole_piece)) (whole_piece * (block / whole_piece)) b
        → c ≡ two_at g h (s * block + whole_piece * (block / whole_piece)) (z * block + whole_piece * (block / whole_piece)) (e * block + whole_piece * (block / whole_piece)) (block - whole_piece * (block / whole_piece)) (whole_piece * (block / whole_piece)) w
        → c ≡ two_in g h block s z e (two_in f q block s z d a)
    both_rest i {b} l p r t =
        let n : ℕ = whole_piece * (block / whole_piece) in
        let u : n + (block - n) ≡ block = omega arith in
        both_whole (n + (block - n)) u
        (both_run n (block - n) (omega arith) (rw l at p.1) (t ∙ ap (λ (v : List Float). two_at g h (s * block + n) (z * block + n) (e * block + n) (block - n) n v) r))
