-- A row of a Matrix that is made piece by piece, all its columns at each piece, is the row that is made column by column. Assumes nothing.
use mathlib.Core.Path.{◌≡◌, refl, sym, ap, ◌∙◌}
use mathlib.Core.Bool.{true, false}
use mathlib.Core.List.{List, [], ◌∷◌}
use Prim.Native.Nat.{ℕ, suc, ◌+◌, ◌-◌, ◌*◌, ◌≤◌, ◌<◌}
use native.Mathlib.Nat.{zero-add, add-zero, add-suc, add_assoc}
use native.Mathlib.Numerals.{add-one}
use native.Mathlib.Omega.{arith}
use lib.ListN.{length, get_or, drop, replicate, drop_of_length-le, get_or-replicate}
use lib.Seq.{sets, drop-cons}
use lib.Ieee.{Float, nan}
use Rattle.node.specs.declared.Gain.{Gain}
use Rattle.mix.specs.Samples.{silence, sample, sampled, put}
use Rattle.mix.specs.Mix.{silent, added, mix_in, clear_buffer, columns, Inside, NotIn, Row}
use Rattle.mix.specs.Loops.{whole_piece, plus_scaled, row_sample}
use Rattle.mix.proofs.Stored.{run_more, none_stored}
use Rattle.mix.proofs.Put.{other_kept, put_sample, put_other, put_same, put_put}

-- a gain at rest equal to 0, and any other
module _ (g : Gain) (k : ℕ) (x y : Float) where
  pub not_added : silent g ≡ true → y ≡ added g k x y
  unfolding added
  not_added h = rw h

  pub is_added : silent g ≡ false → plus_scaled g k x y ≡ added g k x y
  unfolding added
  is_added h = rw h

-- what starts at the samples of a new local starts at +0
pub from_silence : {H : ℕ → Float} (f : ℕ → Float → Float) (m : ℕ) → m ≤ whole_piece → ((i : ℕ) → i < m → H i ≡ f i (get_or (replicate whole_piece silence) i nan))
    → (i : ℕ) → i < m → H i ≡ f i silence
from_silence f m h e i l = e i l ∙ ap (λ (y : Float). f i y) (get_or-replicate whole_piece i silence nan (omega arith))

module _ (block : ℕ) (gain : ℕ → Gain) where
  -- ---- the columns, one after the other over the whole buffer, are one sum at each sample
  pub columns_put : (v : ℕ) (src : List ℕ) (d : ℕ) (F : ℕ → Float) (area : List Float) → Inside block d area → NotIn d src
      → columns block gain v src d (put block d F area) ≡ put block d (λ k. row_sample block gain v src area k (F k)) area
  unfolding columns row_sample
  columns_put v [] d F area h o = refl
  columns_put v (s ∷ src) d F area h o =
      let b : List Float = put block d F area in
      let G : ℕ → Float = λ k. added (gain v) k (sample block area s k) (F k) in
      let e : mix_in block (gain v) s d b ≡ put block d G area =
      put_same block d (λ k. added (gain v) k (sample block b s k) (sample block b d k)) b G
      (λ k l. ap (λ (x : Float). added (gain v) k x (sample block b d k)) (put_other block d F area s k (λ w. o 0 (omega arith) (sym w)) l)
      ∙ ap (λ (y : Float). added (gain v) k (sample block area s k) y) (put_sample block d F area k l h))
      ∙ put_put block d F area G h in
      ap (λ (z : List Float). columns block gain (suc v) src d z) e
      ∙ columns_put (suc v) src d G area h (λ i l. o (suc i) (omega arith))

  -- two columns
  row_of_two : (v : ℕ) (src : List ℕ) (a : List Float) (k : ℕ) (y : Float) → length src ≡ 2
      → added (gain (suc v)) k (sample block a (get_or src 1 0) k) (added (gain v) k (sample block a (get_or src 0 0) k) y) ≡ row_sample block gain v src a k y
  unfolding row_sample
  row_of_two v [] a k y n = absurd (omega arith)
  row_of_two v (s ∷ []) a k y n = absurd (omega arith)
  row_of_two v (s ∷ z ∷ []) a k y n = refl
  row_of_two v (s ∷ z ∷ x ∷ src) a k y n = absurd (omega arith)

  pub two_summed : (v : ℕ) (src : List ℕ) (d : ℕ) (a : List Float) {b : List Float} (g h : Gain) → length src ≡ 2 → Row block src d a
      → g ≡ gain v → h ≡ gain (suc v) → silent g ≡ false → silent h ≡ false
      → b ≡ put block d (λ k. plus_scaled h k (sample block a (get_or src 1 0) k) (plus_scaled g k (sample block a (get_or src 0 0) k) silence)) a
      → b ≡ columns block gain v src d (clear_buffer block d a)
  two_summed v src d a g h n row eg eh sg sh e =
      e
      ∙ put_same block d (λ k. plus_scaled h k (sample block a (get_or src 1 0) k) (plus_scaled g k (sample block a (get_or src 0 0) k) silence)) a (λ k. row_sample block gain v src a k silence)
      (λ k l. is_added h k (sample block a (get_or src 1 0) k) (plus_scaled g k (sample block a (get_or src 0 0) k) silence) sh
      ∙ ap (λ (y : Float). added h k (sample block a (get_or src 1 0) k) y) (is_added g k (sample block a (get_or src 0 0) k) silence sg)
      ∙ ap (λ (u : Gain). added u k (sample block a (get_or src 1 0) k) (added g k (sample block a (get_or src 0 0) k) silence)) eh
      ∙ ap (λ (u : Gain). added (gain (suc v)) k (sample block a (get_or src 1 0) k) (added u k (sample block a (get_or src 0 0) k) silence)) eg
      ∙ row_of_two v src a k silence n)
      ∙ sym (columns_put v src d (λ k. silence) a row.target row.apart)

  -- only the sources' samples count
  row_same : (v : ℕ) (src : List ℕ) (a b : List Float) (k : ℕ) (y : Float)
      → ((i : ℕ) → i < length src → sample block b (get_or src i 0) k ≡ sample block a (get_or src i 0) k)
      → row_sample block gain v src b k y ≡ row_sample block gain v src a k y
  unfolding row_sample
  row_same v [] a b k y h = refl
  row_same v (s ∷ src) a b k y h =
      ap (λ (x : Float). row_sample block gain (suc v) src b k (added (gain v) k x y)) (h 0 (omega arith))
      ∙ row_same (suc v) src a b k (added (gain v) k (sample block a s k) y) (λ i l. h (suc i) (omega arith))

  -- ---- the columns of a piece in a local t: none, one more, and all
  module _ (v : ℕ) (src : List ℕ) (area : List Float) (j m : ℕ) (t₀ : List Float) where
    -- what is left to do from column c on makes what there is to do in all
    unfoldable pub Left : ℕ → List Float → Type 0
    Left c t =
        (i : ℕ) → i < m
        → row_sample block gain (v + c) (drop c src) area (j + i) (get_or t i nan) ≡ row_sample block gain v src area (j + i) (get_or t₀ i nan)

    pub columns_left : Left 0 t₀
    unfolding Left
    columns_left i l = rw add-zero

    pub column_done : (c : ℕ) (g : Gain) (t t' : List Float) → c < length src → g ≡ gain (v + c) → Left c t
        → ((i : ℕ) → i < m → get_or t' i nan ≡ added g (j + i) (get_or area (get_or src c 0 * block + j + i) nan) (get_or t i nan))
        → Left (c + 1) t'
    unfolding row_sample Left
    column_done c g t t' h e left done i l =
        let s : ℕ = get_or src c 0 in
        let w : get_or t' i nan ≡ added (gain (v + c)) (j + i) (sample block area s (j + i)) (get_or t i nan) =
        done i l
        ∙ ap (λ (z : Gain). added z (j + i) (get_or area (s * block + j + i) nan) (get_or t i nan)) e
        ∙ ap (λ (p : ℕ). added (gain (v + c)) (j + i) (get_or area p nan) (get_or t i nan)) (add_assoc (s * block) j i) in
        rw (add-one c, add-suc v c)
        (ap (λ (y : Float). row_sample block gain (suc (v + c)) (drop (suc c) src) area (j + i) y) w
        ∙ sym (ap (λ (l : List ℕ). row_sample block gain (v + c) l area (j + i) (get_or t i nan)) (drop-cons src c 0 h))
        ∙ left i l)

    pub columns_done : (c : ℕ) (t : List Float) → length src ≤ c → Left c t
        → (i : ℕ) → i < m → get_or t i nan ≡ row_sample block gain v src area (j + i) (get_or t₀ i nan)
    unfolding row_sample Left
    columns_done c t h left i l =
        sym (ap (λ (l : List ℕ). row_sample block gain (v + c) l area (j + i) (get_or t i nan)) (drop_of_length-le src {i = c} h)) ∙ left i l

  -- ---- the pieces of a row
  module _ (v : ℕ) (src : List ℕ) (d : ℕ) (a : List Float) (row : Row block src d a) where
    abbrev made : ℕ → Float
    made k = row_sample block gain v src a k silence

    pub row_start : a ≡ sets a (d * block) (sampled (whole_piece * 0) made)
    row_start = none_stored made a (d * block)

    -- m samples from sample k on, after n from sample r on
    row_run : (p r k : ℕ) (F : ℕ → Float) (n m : ℕ) {b c : List Float} → p ≡ d * block + r → k ≡ r + n → ((i : ℕ) → F i ≡ made (r + i)) → k + m ≤ block
        → b ≡ sets a p (sampled n F) → c ≡ sets b (d * block + k) (sampled m (λ i. row_sample block gain v src b (k + i) silence))
        → c ≡ sets a p (sampled (n + m) F)
    row_run p r k F n m {b} hp hk same h e g =
        let G : ℕ → Float = λ i. row_sample block gain v src b (k + i) silence in
        let w : d * block + k ≡ p + n = omega arith in
        run_more F a p G n m e (g ∙ ap (λ (q : ℕ). sets b q (sampled m G)) w)
        (λ i l. let u : k + i ≡ r + (n + i) = omega arith in
        row_same v src a b (k + i) silence
        (λ j q. ap (λ (z : List Float). sample block z (get_or src j 0) (k + i)) e ∙ other_kept block d p n F a (get_or src j 0) (k + i) (omega arith) (omega arith) (λ o. row.apart j q (sym o)) (omega arith))
        ∙ ap made u
        ∙ sym (same (n + i)))

    pub row_piece : (n m : ℕ) {b c : List Float} → n + m ≤ block → b ≡ sets a (d * block) (sampled n made)
        → c ≡ sets b (d * block + n) (sampled m (λ i. row_sample block gain v src b (n + i) silence))
        → c ≡ sets a (d * block) (sampled (n + m) made)
    row_piece n m h e g = row_run (d * block) 0 n made n m (omega arith) (omega arith) (λ i. ap made (sym (zero-add i))) h e g

    -- the samples from sample r on: none, and one more
    pub no_sample : (r : ℕ) → a ≡ sets a (d * block + r) (sampled (r - r) (λ i. made (r + i)))
    no_sample r = let w : r - r ≡ 0 = omega arith in rw w (none_stored (λ i. made (r + i)) a (d * block + r))

    pub row_sample_lem : (r j : ℕ) {b c : List Float} → r ≤ j → j < block → b ≡ sets a (d * block + r) (sampled (j - r) (λ i. made (r + i)))
        → c ≡ sets b (d * block + j) (sampled 1 (λ i. row_sample block gain v src b (j + i) silence))
        → c ≡ sets a (d * block + r) (sampled (j + 1 - r) (λ i. made (r + i)))
    row_sample_lem r j l h e g =
        let w : j + 1 - r ≡ j - r + 1 = omega arith in
        rw w (row_run (d * block + r) r j (λ i. made (r + i)) (j - r) 1 refl (omega arith) (λ i. refl) (omega arith) e g)

    pub row_whole_piece : (i : ℕ) {b c : List Float} → whole_piece * i + whole_piece ≤ block → b ≡ sets a (d * block) (sampled (whole_piece * i) made)
        → c ≡ sets b (d * block + whole_piece * i) (sampled whole_piece (λ k. row_sample block gain v src b (whole_piece * i + k) silence))
        → c ≡ sets a (d * block) (sampled (whole_piece * (i + 1)) made)
    row_whole_piece i h e g = let w : whole_piece * (i + 1) ≡ whole_piece * i + whole_piece = omega arith in rw w (row_piece (whole_piece * i) whole_piece h e g)

    pub row_done : {b : List Float} (n : ℕ) → n ≡ block → b ≡ sets a (d * block) (sampled n made)
        → b ≡ columns block gain v src d (clear_buffer block d a)
    row_done n w e = (rw w at e) ∙ sym (columns_put v src d (λ k. silence) a row.target row.apart)
