-- Sample k₁ of the buffers in blocks of b₁, beside sample k₂ of the buffers in blocks of b₂: what Gain, Matrix, Send and Clear make of two areas
-- agrees wherever what they read does. No disjointness of buffers is needed. Assumes nothing.
use mathlib.Core.Path.{◌≡◌, refl, sym, ◌∙◌}
use mathlib.Core.Logic.{◌⊎◌, inl, inr}
use mathlib.Core.Bool.{true, false≢true}
use mathlib.Core.List.{List, [], ◌∷◌}
use Prim.Native.Nat.{ℕ, zero, suc, ◌+◌, ◌*◌, ◌≤◌, ◌<◌}
use native.Mathlib.Nat.{not-suc-le-zero, le_of_suc-le-suc}
use native.Mathlib.Decide.{ℕ_discrete}
use lib.Dec.{eqb}
use lib.ListN.{length, get_or}
use lib.Ieee.{Float, nan}
use borrow.Author.Tests.{eqb-true}
use Rattle.lists.specs.Entries.{has}
use Rattle.std.proofs.lemmas.Bool.{or_cases}
use Rattle.node.specs.declared.Gain.{Gain}
use Rattle.node.specs.declared.Gain.TheVariants.{Rest, Moving}
use Rattle.node.specs.Nodes.{factor}
use Rattle.mix.specs.Samples.{silence, sample, put}
use Rattle.mix.specs.Mix.{scaled, added, weighted, sent, scale, mix_in, send_in, clear_buffer, gained, columns, rows, weighs, sends, cleared}
use Rattle.mix.proofs.Put.{length_put, put_sample, put_other}
use Rattle.mix.proofs.Given.{buffer_inside}

-- of each of a list
abbrev pub All : (ℕ → Type 0) → List ℕ → Type 0
All P [] = Unit {0}
All P (x ∷ xs) = P x × All P xs

pub all_map : {P Q : ℕ → Type 0} → ((x : ℕ) → P x → Q x) → (xs : List ℕ) → All P xs → All Q xs
all_map f [] h = tt
all_map f (x ∷ xs) h = (f x h.0, all_map f xs h.1)

pub all_at : (P : ℕ → Type 0) (xs : List ℕ) (i : ℕ) → i < length xs → All P xs → P (get_or xs i 0)
all_at P [] i h a = absurd (not-suc-le-zero h)
all_at P (x ∷ xs) zero h a = a.0
all_at P (x ∷ xs) (suc i) h a = all_at P xs i (le_of_suc-le-suc h) a.1

-- ---- one sample, by a gain whose factor is the same at both
module _ (k₁ k₂ : ℕ) (g : Gain) (even : factor g k₁ ≡ factor g k₂) {x₁ x₂ : Float} (x : x₁ ≡ x₂) where
  scaled_same : scaled g k₁ x₁ ≡ scaled g k₂ x₂
  scaled_same = rw (x, even)

  module _ {y₁ y₂ : Float} (y : y₁ ≡ y₂) where
    added_same : added g k₁ x₁ y₁ ≡ added g k₂ x₂ y₂
    unfolding added
    added_same = rw (x, y, even)

weighted_same : (k₁ k₂ : ℕ) (g : Gain) → factor g k₁ ≡ factor g k₂ → (w x : Float) → weighted g w k₁ x ≡ weighted g w k₂ x
unfolding weighted
weighted_same k₁ k₂ (Rest t) even w x = refl
weighted_same k₁ k₂ (Moving cur step t left) even w x = rw even

sent_same : (k₁ k₂ : ℕ) (g : Gain) → factor g k₁ ≡ factor g k₂ → (w : Float) {x₁ x₂ y₁ y₂ : Float} → x₁ ≡ x₂ → y₁ ≡ y₂ → sent g w k₁ x₁ y₁ ≡ sent g w k₂ x₂ y₂
unfolding sent
sent_same k₁ k₂ g even w {x₁} {x₂} {y₁} {y₂} x y = rw (x, y, weighted_same k₁ k₂ g even w x₂)

module _ (b₁ k₁ b₂ k₂ : ℕ) (h₁ : k₁ < b₁) (h₂ : k₂ < b₂) where
  -- buffer b has the same sample in both
  abbrev pub Agree : List Float → List Float → ℕ → Type 0
  Agree area₁ area₂ b = sample b₁ area₁ b k₁ ≡ sample b₂ area₂ b k₂

  module _ (m : ℕ) where
    -- both areas have m buffers
    pub record BufferRoom (area₁ area₂ : List Float) : Type 0 where
      pub first : m * b₁ ≤ length area₁
      pub second : m * b₂ ≤ length area₂

    -- From two areas to two others: what agreed still does, and buffers with P agree.
    pub record Paired (P : ℕ → Type 0) (old₁ old₂ new₁ new₂ : List Float) : Type 0 where
      pub room : BufferRoom new₁ new₂
      pub kept : (b : ℕ) → Agree old₁ old₂ b → Agree new₁ new₂ b
      pub made : (b : ℕ) → P b → Agree new₁ new₂ b

    -- ---- one buffer written
    module _ {area₁ area₂ : List Float} (d : ℕ) (below : d < m) (room : BufferRoom area₁ area₂) (f₁ f₂ : ℕ → Float) where
      room_put : BufferRoom (put b₁ d f₁ area₁) (put b₂ d f₂ area₂)
      room_put = record { first = rw (length_put b₁ d f₁ area₁) room.first; second = rw (length_put b₂ d f₂ area₂) room.second }

      put_here : f₁ k₁ ≡ f₂ k₂ → Agree (put b₁ d f₁ area₁) (put b₂ d f₂ area₂) d
      put_here e =
          put_sample b₁ d f₁ area₁ k₁ h₁ (buffer_inside m b₁ d area₁ below room.first)
          ∙ e ∙ sym (put_sample b₂ d f₂ area₂ k₂ h₂ (buffer_inside m b₂ d area₂ below room.second))

      put_kept : (Agree area₁ area₂ d → f₁ k₁ ≡ f₂ k₂) → (b : ℕ) → Agree area₁ area₂ b → Agree (put b₁ d f₁ area₁) (put b₂ d f₂ area₂) b
      put_kept e b g = go (ℕ_discrete b d)
        where
          go : Dec (b ≡ d) → Agree (put b₁ d f₁ area₁) (put b₂ d f₂ area₂) b
          go (yes p) = rw p (put_here (e (rw p at g)))
          go (no p) = put_other b₁ d f₁ area₁ b k₁ p h₁ ∙ g ∙ sym (put_other b₂ d f₂ area₂ b k₂ p h₂)

      -- anew, whatever it held
      put_anew : f₁ k₁ ≡ f₂ k₂ → Paired (λ b. b ≡ d) area₁ area₂ (put b₁ d f₁ area₁) (put b₂ d f₂ area₂)
      put_anew e = record { room = room_put; kept = put_kept (λ _. e); made = λ b p. rw p (put_here e) }

      -- from what it held
      put_more : (Agree area₁ area₂ d → f₁ k₁ ≡ f₂ k₂) → Paired (λ b. ⊥) area₁ area₂ (put b₁ d f₁ area₁) (put b₂ d f₂ area₂)
      put_more e = record { room = room_put; kept = put_kept e; made = λ b p. absurd p }

    -- ---- one after the other
    nothing : {area₁ area₂ : List Float} → BufferRoom area₁ area₂ → Paired (λ b. ⊥) area₁ area₂ area₁ area₂
    nothing h = record { room = h; kept = λ b g. g; made = λ b p. absurd p }

    then : {P Q R : ℕ → Type 0} {o₁ o₂ p₁ p₂ n₁ n₂ : List Float} → Paired P o₁ o₂ p₁ p₂ → Paired Q p₁ p₂ n₁ n₂ → ((b : ℕ) → R b → P b ⊎ Q b) → Paired R o₁ o₂ n₁ n₂
    then {P} {Q} {R} {n₁ = n₁} {n₂ = n₂} p q r = record { room = q.room; kept = λ b g. q.kept b (p.kept b g); made = λ b x. by b (r b x) }
      where
        by : (b : ℕ) → P b ⊎ Q b → Agree n₁ n₂ b
        by b (inl x) = q.kept b (p.made b x)
        by b (inr x) = q.made b x

    first_or_later : (d : ℕ) (dst : List ℕ) (b : ℕ) → has (d ∷ dst) b ≡ true → (b ≡ d) ⊎ (has dst b ≡ true)
    unfolding has
    first_or_later d dst b e = go (or_cases (eqb d b) (has dst b) e)
      where
        go : (eqb d b ≡ true) ⊎ (has dst b ≡ true) → (b ≡ d) ⊎ (has dst b ≡ true)
        go (inl p) = inl (sym (eqb-true d b p))
        go (inr p) = inr p

    none_there : (b : ℕ) → has [] b ≡ true → ⊥
    unfolding has
    none_there b e = false≢true e

    -- ---- the steps: the sources agree, and the buffers written are among the m
    module _ (gain : ℕ → Gain) (even : (i : ℕ) → factor (gain i) k₁ ≡ factor (gain i) k₂) where
      pub gained_paired : (c : ℕ) (src dst : List ℕ) (area₁ area₂ : List Float) → BufferRoom area₁ area₂ → All (λ d. d < m) dst → All (Agree area₁ area₂) src → length dst ≤ length src
          → Paired (λ b. has dst b ≡ true) area₁ area₂ (gained b₁ gain c src dst area₁) (gained b₂ gain c src dst area₂)
      unfolding gained
      gained_paired c [] [] area₁ area₂ h below agree l = record { room = h; kept = λ b g. g; made = λ b e. absurd (none_there b e) }
      gained_paired c [] (d ∷ dst) area₁ area₂ h below agree l = absurd (not-suc-le-zero l)
      gained_paired c (s ∷ src) [] area₁ area₂ h below agree l = record { room = h; kept = λ b g. g; made = λ b e. absurd (none_there b e) }
      gained_paired c (s ∷ src) (d ∷ dst) area₁ area₂ h below agree l =
          let p = put_anew d below.0 h (λ k. scaled (gain c) k (sample b₁ area₁ s k)) (λ k. scaled (gain c) k (sample b₂ area₂ s k))
          (scaled_same k₁ k₂ (gain c) (even c) agree.0) in
          then p (gained_paired (suc c) src dst (scale b₁ (gain c) s d area₁) (scale b₂ (gain c) s d area₂) p.room below.1 (all_map p.kept src agree.1) (le_of_suc-le-suc l))
          (first_or_later d dst)

      columns_paired : (v : ℕ) (src : List ℕ) (d : ℕ) (area₁ area₂ : List Float) → BufferRoom area₁ area₂ → d < m → All (Agree area₁ area₂) src
          → Paired (λ b. ⊥) area₁ area₂ (columns b₁ gain v src d area₁) (columns b₂ gain v src d area₂)
      unfolding columns
      columns_paired v [] d area₁ area₂ h below agree = nothing h
      columns_paired v (s ∷ src) d area₁ area₂ h below agree =
          let p = put_more d below h (λ k. added (gain v) k (sample b₁ area₁ s k) (sample b₁ area₁ d k)) (λ k. added (gain v) k (sample b₂ area₂ s k) (sample b₂ area₂ d k))
          (λ g. added_same k₁ k₂ (gain v) (even v) agree.0 g) in
          then p (columns_paired (suc v) src d (mix_in b₁ (gain v) s d area₁) (mix_in b₂ (gain v) s d area₂) p.room below (all_map p.kept src agree.1)) (λ b e. inl e)

      pub rows_paired : (v : ℕ) (src dst : List ℕ) (area₁ area₂ : List Float) → BufferRoom area₁ area₂ → All (λ d. d < m) dst → All (Agree area₁ area₂) src
          → Paired (λ b. has dst b ≡ true) area₁ area₂ (rows b₁ gain v src dst area₁) (rows b₂ gain v src dst area₂)
      unfolding rows
      rows_paired v src [] area₁ area₂ h below agree = record { room = h; kept = λ b g. g; made = λ b e. absurd (none_there b e) }
      rows_paired v src (d ∷ dst) area₁ area₂ h below agree =
          let p = put_anew d below.0 h (λ k. silence) (λ k. silence) refl in
          let c₁ = clear_buffer b₁ d area₁ in
          let c₂ = clear_buffer b₂ d area₂ in
          let q = columns_paired v src d c₁ c₂ p.room below.0 (all_map p.kept src agree) in
          let pq : Paired (λ b. b ≡ d) area₁ area₂ (columns b₁ gain v src d c₁) (columns b₂ gain v src d c₂) = then p q (λ b e. inl e) in
          then pq (rows_paired (v + length src) src dst (columns b₁ gain v src d c₁) (columns b₂ gain v src d c₂) pq.room below.1 (all_map pq.kept src agree))
          (first_or_later d dst)

    module _ (g : Gain) (even : factor g k₁ ≡ factor g k₂) (weights : List Float) where
      weighs_paired : (v : ℕ) (src : List ℕ) (d : ℕ) (area₁ area₂ : List Float) → BufferRoom area₁ area₂ → d < m → All (Agree area₁ area₂) src
          → Paired (λ b. ⊥) area₁ area₂ (weighs b₁ g weights v src d area₁) (weighs b₂ g weights v src d area₂)
      unfolding weighs
      weighs_paired v [] d area₁ area₂ h below agree = nothing h
      weighs_paired v (s ∷ src) d area₁ area₂ h below agree =
          let w = get_or weights v nan in
          let p = put_more d below h (λ k. sent g w k (sample b₁ area₁ s k) (sample b₁ area₁ d k)) (λ k. sent g w k (sample b₂ area₂ s k) (sample b₂ area₂ d k))
          (λ e. sent_same k₁ k₂ g even w agree.0 e) in
          then p (weighs_paired (suc v) src d (send_in b₁ g w s d area₁) (send_in b₂ g w s d area₂) p.room below (all_map p.kept src agree.1)) (λ b e. inl e)

      pub sends_paired : (v : ℕ) (src dst : List ℕ) (area₁ area₂ : List Float) → BufferRoom area₁ area₂ → All (λ d. d < m) dst → All (Agree area₁ area₂) src
          → Paired (λ b. ⊥) area₁ area₂ (sends b₁ g weights v src dst area₁) (sends b₂ g weights v src dst area₂)
      unfolding sends
      sends_paired v src [] area₁ area₂ h below agree = nothing h
      sends_paired v src (d ∷ dst) area₁ area₂ h below agree =
          let p = weighs_paired v src d area₁ area₂ h below.0 agree in
          then p (sends_paired (v + length src) src dst (weighs b₁ g weights v src d area₁) (weighs b₂ g weights v src d area₂) p.room below.1 (all_map p.kept src agree))
          (λ b e. inl e)

    pub cleared_paired : (dst : List ℕ) (area₁ area₂ : List Float) → BufferRoom area₁ area₂ → All (λ d. d < m) dst
        → Paired (λ b. has dst b ≡ true) area₁ area₂ (cleared b₁ dst area₁) (cleared b₂ dst area₂)
    unfolding cleared
    cleared_paired [] area₁ area₂ h below = record { room = h; kept = λ b g. g; made = λ b e. absurd (none_there b e) }
    cleared_paired (d ∷ dst) area₁ area₂ h below =
        let p = put_anew d below.0 h (λ k. silence) (λ k. silence) refl in
        then p (cleared_paired dst (clear_buffer b₁ d area₁) (clear_buffer b₂ d area₂) p.room below.1) (first_or_later d dst)

    -- a Patch of samples that are the same
    pub patch_paired : (d : ℕ) (f₁ f₂ : ℕ → Float) (area₁ area₂ : List Float) → BufferRoom area₁ area₂ → d < m → f₁ k₁ ≡ f₂ k₂
        → Paired (λ b. b ≡ d) area₁ area₂ (put b₁ d f₁ area₁) (put b₂ d f₂ area₂)
    patch_paired d f₁ f₂ area₁ area₂ h below e = put_anew d below h f₁ f₂ e
