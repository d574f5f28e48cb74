-- The loops over lists of buffers: what one turn leaves to do, and that nothing is left at the end. Assumes nothing.
use mathlib.Core.Path.{◌≡◌, refl, sym, ap, ◌∙◌}
use mathlib.Core.Bool.{Bool, true, false, ◌||◌}
use mathlib.Core.List.{List, [], ◌∷◌}
use Prim.Native.Nat.{ℕ, suc, ◌+◌, ◌*◌, ◌≤◌, ◌<◌, min}
use native.Mathlib.Nat.{zero-mul, add-zero, add-suc, add_assoc, suc-mul}
use native.Mathlib.Numerals.{add-one}
use native.Mathlib.Omega.{arith}
use native.Mathlib.Decide.{dec_lt}
use lib.ListN.{length, get_or, drop, drop_of_length-le}
use lib.Seq.{sets, drop-cons}
use lib.Ieee.{Float, nan, binary32, mul}
use Rattle.node.specs.declared.Gain.{Gain}
use Rattle.node.specs.declared.Gain.TheVariants.{Rest, Moving}
use Rattle.node.specs.Nodes.{factor}
use Rattle.mix.specs.Samples.{sample, sampled, put}
use Rattle.mix.specs.Mix.{is_zero, silent, weighted, sent, scale, send_in, clear_buffer, gained, columns, rows, weighs, sends, cleared, appended, Inside, Buffers}
use Rattle.mix.specs.Loops.{plus_scaled, plus_weighted, two_in, Four}
use Rattle.mix.proofs.Put.{length_put, put_sample, put_other, put_same, put_put, put_unchanged}

-- ---- Gain
module _ (block : ℕ) (gain : ℕ → Gain) (src dst : List ℕ) where
  pub channel_done : (c : ℕ) (g : Gain) (a : List Float) {b whole : List Float} → c < length src → c < length dst → g ≡ gain c
      → gained block gain c (drop c src) (drop c dst) a ≡ whole → b ≡ scale block g (get_or src c 0) (get_or dst c 0) a
      → gained block gain (c + 1) (drop (c + 1) src) (drop (c + 1) dst) b ≡ whole
  unfolding gained
  channel_done c g a hs hd eg left e =
      rw add-one
      (ap (λ (z : List Float). gained block gain (suc c) (drop (suc c) src) (drop (suc c) dst) z)
      (e ∙ ap (λ (z : Gain). scale block z (get_or src c 0) (get_or dst c 0) a) eg)
      ∙ sym (ap (λ (l : List ℕ). gained block gain c l (drop c dst) a) (drop-cons src c 0 hs)
      ∙ ap (λ (l : List ℕ). gained block gain c (get_or src c 0 ∷ drop (suc c) src) l a) (drop-cons dst c 0 hd))
      ∙ left)

  no_target : (c : ℕ) (list : List ℕ) (a : List Float) → gained block gain c list [] a ≡ a
  unfolding gained
  no_target c [] a = refl
  no_target c (s ∷ list) a = refl

  pub channels_done : (c : ℕ) (a : List Float) {whole : List Float} → c ≡ min (length src) (length dst)
      → gained block gain c (drop c src) (drop c dst) a ≡ whole → a ≡ whole
  unfolding gained
  channels_done c a e left =
      elim (dec_lt c (length src)) [
        | yes l ↦
            sym (ap (λ (list : List ℕ). gained block gain c (drop c src) list a) (drop_of_length-le dst {i = c} (omega arith)) ∙ no_target c (drop c src) a) ∙ left
        | no n ↦ sym (ap (λ (list : List ℕ). gained block gain c list (drop c dst) a) (drop_of_length-le src {i = c} (omega arith))) ∙ left
      ]

-- ---- Matrix
module _ (block : ℕ) (gain : ℕ → Gain) (src dst : List ℕ) where
  pub no_row : (a : List Float) → rows block gain (0 * length src) src dst a ≡ rows block gain 0 src dst a
  no_row a = rw zero-mul

  pub row_made : (r : ℕ) (a : List Float) {b whole : List Float} → r < length dst
      → rows block gain (r * length src) src (drop r dst) a ≡ whole
      → b ≡ columns block gain (r * length src) src (get_or dst r 0) (clear_buffer block (get_or dst r 0) a)
      → rows block gain ((r + 1) * length src) src (drop (r + 1) dst) b ≡ whole
  unfolding rows
  row_made r a h left e =
      rw (add-one, suc-mul)
      (ap (λ (z : List Float). rows block gain (r * length src + length src) src (drop (suc r) dst) z) e
      ∙ sym (ap (λ (l : List ℕ). rows block gain (r * length src) src l a) (drop-cons dst r 0 h))
      ∙ left)

  pub rows_made : (r : ℕ) (a : List Float) {whole : List Float} → length dst ≤ r
      → rows block gain (r * length src) src (drop r dst) a ≡ whole → a ≡ whole
  unfolding rows
  rows_made r a h left = sym (ap (λ (l : List ℕ). rows block gain (r * length src) src l a) (drop_of_length-le dst {i = r} h)) ∙ left

-- ---- Send: one source, by the case of its gain
module _ (block : ℕ) (g : Gain) (w : Float) (s d : ℕ) (a : List Float) where
  send_none : is_zero w || silent g ≡ true → send_in block g w s d a ≡ a
  unfolding sent
  send_none h = put_unchanged block d (λ k. sent g w k (sample block a s k) (sample block a d k)) a (λ k l. rw h)

  pub weight_zero : is_zero w ≡ true → a ≡ send_in block g w s d a
  weight_zero h = sym (send_none (rw h))

  pub gain_silent : silent g ≡ true → send_in block g w s d a ≡ a
  gain_silent h = send_none (go (is_zero w))
    where
      go : (b : Bool) → b || silent g ≡ true
      go true = refl
      go false = h

  pub sent_at_rest : {t : Float} {b : List Float} → g ≡ Rest t → is_zero w ≡ false → silent g ≡ false
      → b ≡ put block d (λ k. plus_scaled (Rest (mul binary32 w t)) k (sample block a s k) (sample block a d k)) a → b ≡ send_in block g w s d a
  unfolding sent weighted factor
  sent_at_rest {t} e p q h =
      h
      ∙ put_same block d (λ k. plus_scaled (Rest (mul binary32 w t)) k (sample block a s k) (sample block a d k)) a
      (λ k. sent g w k (sample block a s k) (sample block a d k))
      (λ k l. rw (p, q, e))

  pub sent_ramping : {cur step t : Float} {left : ℕ} {b : List Float} → g ≡ Moving cur step t left → is_zero w ≡ false
      → b ≡ put block d (λ k. plus_weighted w (Moving cur step t left) k (sample block a s k) (sample block a d k)) a → b ≡ send_in block g w s d a
  unfolding sent weighted
  sent_ramping {cur} {step} {t} {left} e p h =
      h
      ∙ put_same block d (λ k. plus_weighted w (Moving cur step t left) k (sample block a s k) (sample block a d k)) a
      (λ k. sent g w k (sample block a s k) (sample block a d k))
      (λ k l. rw (p, e))

-- ---- two sources in one pass
module _ (block s z d : ℕ) (f q : ℕ → Float → Float → Float) (a : List Float) where
  -- one write of d after the other, where neither source is d
  pub two_puts : (s ≡ d → ⊥) → (z ≡ d → ⊥) → Inside block d a
      → put block d (λ k. q k (sample block a z k) (f k (sample block a s k) (sample block a d k))) a
      ≡ put block d (λ k. q k (sample block (put block d (λ k. f k (sample block a s k) (sample block a d k)) a) z k) (sample block (put block d (λ k. f k (sample block a s k) (sample block a d k)) a) d k))
      (put block d (λ k. f k (sample block a s k) (sample block a d k)) a)
  two_puts os oz h =
      let F : ℕ → Float = λ k. f k (sample block a s k) (sample block a d k) in
      let b : List Float = put block d F a in
      sym
      (put_same block d (λ k. q k (sample block b z k) (sample block b d k)) b (λ k. q k (sample block a z k) (F k))
      (λ k l. ap (λ (v : Float). q k v (sample block b d k)) (put_other block d F a z k oz l) ∙ ap (λ (v : Float). q k (sample block a z k) v) (put_sample block d F a k l h))
      ∙ put_put block d F a (λ k. q k (sample block a z k) (F k)) h)

module _ (block : ℕ) (g : Gain) (w v : Float) (s z d : ℕ) (a : List Float) where
  pub two_at_rest : {t : Float} {b : List Float} → g ≡ Rest t → is_zero w ≡ false → is_zero v ≡ false → silent g ≡ false
      → (s ≡ d → ⊥) → (z ≡ d → ⊥) → Inside block d a
      → b ≡ put block d (λ k. plus_scaled (Rest (mul binary32 v t)) k (sample block a z k) (plus_scaled (Rest (mul binary32 w t)) k (sample block a s k) (sample block a d k))) a
      → b ≡ send_in block g v z d (send_in block g w s d a)
  two_at_rest {t} e hw hv q os oz h l =
      let f : ℕ → Float → Float → Float = plus_scaled (Rest (mul binary32 w t)) in
      let c : List Float = put block d (λ k. f k (sample block a s k) (sample block a d k)) a in
      sent_at_rest block g v z d c e hv q (l ∙ two_puts block s z d f (plus_scaled (Rest (mul binary32 v t))) a os oz h)
      ∙ ap (λ (u : List Float). send_in block g v z d u) (sent_at_rest block g w s d a {b = c} e hw q refl)

  pub two_ramping : {cur step t : Float} {left : ℕ} {b : List Float} → g ≡ Moving cur step t left → is_zero w ≡ false → is_zero v ≡ false
      → (s ≡ d → ⊥) → (z ≡ d → ⊥) → Inside block d a
      → b ≡ put block d (λ k. plus_weighted v (Moving cur step t left) k (sample block a z k) (plus_weighted w (Moving cur step t left) k (sample block a s k) (sample block a d k))) a
      → b ≡ send_in block g v z d (send_in block g w s d a)
  two_ramping {cur} {step} {t} {left} e hw hv os oz h l =
      let f : ℕ → Float → Float → Float = plus_weighted w (Moving cur step t left) in
      let c : List Float = put block d (λ k. f k (sample block a s k) (sample block a d k)) a in
      sent_ramping block g v z d c e hv (l ∙ two_puts block s z d f (plus_weighted v (Moving cur step t left)) a os oz h)
      ∙ ap (λ (u : List Float). send_in block g v z d u) (sent_ramping block g w s d a {b = c} e hw refl)

-- ---- its sources, and its rows
module _ (block : ℕ) (g : Gain) (weights : List Float) (src : List ℕ) where
  pub no_source : (d v : ℕ) (a : List Float) → weighs block g weights (v + 0) src d a ≡ weighs block g weights v src d a
  no_source d v a = rw add-zero

  pub source_sent : (d v c : ℕ) (a : List Float) {b whole : List Float} → c < length src
      → weighs block g weights (v + c) (drop c src) d a ≡ whole → b ≡ send_in block g (get_or weights (v + c) nan) (get_or src c 0) d a
      → weighs block g weights (v + (c + 1)) (drop (c + 1) src) d b ≡ whole
  unfolding weighs
  source_sent d v c a h left e =
      rw (add-one c, add-suc v c)
      (ap (λ (z : List Float). weighs block g weights (suc (v + c)) (drop (suc c) src) d z) e
      ∙ sym (ap (λ (l : List ℕ). weighs block g weights (v + c) l d a) (drop-cons src c 0 h))
      ∙ left)

  pub sources_sent : (d v c : ℕ) (a : List Float) {whole : List Float} → length src ≤ c
      → weighs block g weights (v + c) (drop c src) d a ≡ whole → a ≡ whole
  unfolding weighs
  sources_sent d v c a h left = sym (ap (λ (l : List ℕ). weighs block g weights (v + c) l d a) (drop_of_length-le src {i = c} h)) ∙ left

  -- two sources that are all
  pub two_sent : (d v : ℕ) (a : List Float) {b : List Float} → length src ≡ 2
      → b ≡ send_in block g (get_or weights (v + 1) nan) (get_or src 1 0) d (send_in block g (get_or weights v nan) (get_or src 0 0) d a)
      → b ≡ weighs block g weights v src d a
  two_sent d v a {b} n e =
      let c : List Float = send_in block g (get_or weights v nan) (get_or src 0 0) d a in
      let first : weighs block g weights (v + 1) (drop 1 src) d c ≡ weighs block g weights v src d a =
      source_sent d v 0 a {b = c} (omega arith) (no_source d v a) (ap (λ (i : ℕ). send_in block g (get_or weights i nan) (get_or src 0 0) d a) (sym (add-zero v))) in
      sources_sent d v 2 b (omega arith) (source_sent d v 1 c {b = b} (omega arith) first e)

  pub no_row_sent : (dst : List ℕ) (a : List Float) → sends block g weights (0 * length src) src dst a ≡ sends block g weights 0 src dst a
  no_row_sent dst a = rw zero-mul

  pub row_sent : (dst : List ℕ) (r : ℕ) (a : List Float) {b whole : List Float} → r < length dst
      → sends block g weights (r * length src) src (drop r dst) a ≡ whole → b ≡ weighs block g weights (r * length src) src (get_or dst r 0) a
      → sends block g weights ((r + 1) * length src) src (drop (r + 1) dst) b ≡ whole
  unfolding sends
  row_sent dst r a h left e =
      rw (add-one, suc-mul)
      (ap (λ (z : List Float). sends block g weights (r * length src + length src) src (drop (suc r) dst) z) e
      ∙ sym (ap (λ (l : List ℕ). sends block g weights (r * length src) src l a) (drop-cons dst r 0 h))
      ∙ left)

  pub rows_sent : (dst : List ℕ) (r : ℕ) (a : List Float) {whole : List Float} → length dst ≤ r
      → sends block g weights (r * length src) src (drop r dst) a ≡ whole → a ≡ whole
  unfolding sends
  rows_sent dst r a h left = sym (ap (λ (l : List ℕ). sends block g weights (r * length src) src l a) (drop_of_length-le dst {i = r} h)) ∙ left

-- two rows and two columns at rest, in one pass
pub four_sent : (block : ℕ) (t : Float) (weights : List Float) (src dst : List ℕ) (a : List Float) {b : List Float} → Buffers block src dst a → Four src dst weights
    → silent (Rest t) ≡ false
    → b ≡ two_in (plus_scaled (Rest (mul binary32 (get_or weights 2 nan) t))) (plus_scaled (Rest (mul binary32 (get_or weights 3 nan) t))) block (get_or src 0 0) (get_or src 1 0) (get_or dst 1 0)
    (two_in (plus_scaled (Rest (mul binary32 (get_or weights 0 nan) t))) (plus_scaled (Rest (mul binary32 (get_or weights 1 nan) t))) block (get_or src 0 0) (get_or src 1 0) (get_or dst 0 0) a)
    → b ≡ sends block (Rest t) weights 0 src dst a
four_sent block t weights src dst a {b} p f q e =
    let s : ℕ = get_or src 0 0 in
    let z : ℕ = get_or src 1 0 in
    let n : length src ≡ 2 = f.columns in
    let m : length dst ≡ 2 = f.rows in
    let c : List Float = two_in (plus_scaled (Rest (mul binary32 (get_or weights 0 nan) t))) (plus_scaled (Rest (mul binary32 (get_or weights 1 nan) t))) block s z (get_or dst 0 0) a in
    let l : length c ≡ length a = length_put block (get_or dst 0 0) _ a in
    let row : (i j : ℕ) → i < 2 → j < 2 → get_or src i 0 ≡ get_or dst j 0 → ⊥ = λ i j hi hj. p.apart i (omega arith) j (omega arith) in
    let first : c ≡ weighs block (Rest t) weights 0 src (get_or dst 0 0) a =
    two_sent block (Rest t) weights src (get_or dst 0 0) 0 a n
    (two_at_rest block (Rest t) (get_or weights 0 nan) (get_or weights 1 nan) s z (get_or dst 0 0) a refl (f.weighted 0 (omega arith)) (f.weighted 1 (omega arith)) q
    (row 0 0 (omega arith) (omega arith)) (row 1 0 (omega arith) (omega arith)) (p.targets 0 (omega arith)) refl) in
    let second : b ≡ weighs block (Rest t) weights 2 src (get_or dst 1 0) c =
    two_sent block (Rest t) weights src (get_or dst 1 0) 2 c n
    (two_at_rest block (Rest t) (get_or weights 2 nan) (get_or weights 3 nan) s z (get_or dst 1 0) c refl (f.weighted 2 (omega arith)) (f.weighted 3 (omega arith)) q
    (row 0 1 (omega arith) (omega arith)) (row 1 1 (omega arith) (omega arith)) (omega (arith, p.targets 1 (omega arith))) e) in
    let v : 0 ≡ 0 * length src = omega arith in
    let w : 2 ≡ 1 * length src = omega arith in
    rows_sent block (Rest t) weights src dst 2 b (omega arith)
    (row_sent block (Rest t) weights src dst 1 c {b = b} (omega arith)
    (row_sent block (Rest t) weights src dst 0 a {b = c} (omega arith) (no_row_sent block (Rest t) weights src dst a)
    (first ∙ ap (λ (k : ℕ). weighs block (Rest t) weights k src (get_or dst 0 0) a) v))
    (second ∙ ap (λ (k : ℕ). weighs block (Rest t) weights k src (get_or dst 1 0) c) w))

-- a Send whose gain is at rest at 0
module _ (block : ℕ) (g : Gain) (weights : List Float) (h : silent g ≡ true) where
  row_silent : (v : ℕ) (src : List ℕ) (d : ℕ) (a : List Float) → weighs block g weights v src d a ≡ a
  unfolding weighs
  row_silent v [] d a = refl
  row_silent v (s ∷ src) d a = row_silent (suc v) src d (send_in block g (get_or weights v nan) s d a) ∙ gain_silent block g (get_or weights v nan) s d a h

  pub send_silent : (v : ℕ) (src dst : List ℕ) (a : List Float) → sends block g weights v src dst a ≡ a
  unfolding sends
  send_silent v src [] a = refl
  send_silent v src (d ∷ dst) a = send_silent (v + length src) src dst (weighs block g weights v src d a) ∙ row_silent v src d a

-- ---- buffers that are cleared, and buffers that go to the output
module _ (block : ℕ) where
  pub buffer_cleared : (dst : List ℕ) (c : ℕ) (a : List Float) {b whole : List Float} → c < length dst
      → cleared block (drop c dst) a ≡ whole → b ≡ clear_buffer block (get_or dst c 0) a → cleared block (drop (c + 1) dst) b ≡ whole
  unfolding cleared
  buffer_cleared dst c a h left e =
      rw add-one
      (ap (λ (z : List Float). cleared block (drop (suc c) dst) z) e
      ∙ sym (ap (λ (l : List ℕ). cleared block l a) (drop-cons dst c 0 h))
      ∙ left)

  pub buffers_cleared : (dst : List ℕ) (c : ℕ) (a : List Float) {whole : List Float} → length dst ≤ c → cleared block (drop c dst) a ≡ whole → a ≡ whole
  unfolding cleared
  buffers_cleared dst c a h left = sym (ap (λ (l : List ℕ). cleared block l a) (drop_of_length-le dst {i = c} h)) ∙ left

  pub no_buffer : (area : List Float) (src : List ℕ) (from : ℕ) (o : List Float) → appended block area src (from + 0 * block) o ≡ appended block area src from o
  no_buffer area src from o = rw (zero-mul, add-zero)

  pub buffer_appended : (area : List Float) (src : List ℕ) (from c : ℕ) (o : List Float) {b whole : List Float} → c < length src
      → appended block area (drop c src) (from + c * block) o ≡ whole
      → b ≡ sets o (from + c * block) (sampled block (λ k. sample block area (get_or src c 0) k))
      → appended block area (drop (c + 1) src) (from + (c + 1) * block) b ≡ whole
  unfolding appended
  buffer_appended area src from c o h left e =
      rw (add-one, suc-mul, ← add_assoc)
      (ap (λ (z : List Float). appended block area (drop (suc c) src) (from + c * block + block) z) e
      ∙ sym (ap (λ (l : List ℕ). appended block area l (from + c * block) o) (drop-cons src c 0 h))
      ∙ left)

  pub buffers_appended : (area : List Float) (src : List ℕ) (from c : ℕ) (o : List Float) {whole : List Float} → length src ≤ c
      → appended block area (drop c src) (from + c * block) o ≡ whole → o ≡ whole
  unfolding appended
  buffers_appended area src from c o h left =
      sym (ap (λ (l : List ℕ). appended block area l (from + c * block) o) (drop_of_length-le src {i = c} h)) ∙ left
