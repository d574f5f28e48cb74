-- Laws of sets: the members of the empty set, of the union of two sets, of a set without those of another, and of a set with one number more; and the list of the members.
-- Assumes nothing.
use Prim.Native.Nat.{ℕ, zero, suc, ◌/◌, ◌%◌, ◌^◌, ◌<◌, ◌≤◌}
use mathlib.Core.Path.{◌≡◌, refl, sym, ap, ◌∙◌}
use mathlib.Core.Bool.{Bool, true, false, not, ◌&&◌, ◌||◌, or-false}
use mathlib.Core.List.{[], ◌∷◌}
use native.Mathlib.Omega.{arith}
use lib.Dec.{eqb}
use lib.Bits.{bit_or}
use lib.ListN.{length, get_or, set, get_or-eq_default}
use borrow.Author.Tests.{eqb-true, eqb-false, eq-eqb, ne_eqb}
use Rattle.std.proofs.lemmas.Grind.{get_or-set_at}
use Rattle.std.proofs.lemmas.List.{get_or-set_other}
use Rattle.sets.specs.declared.Set.{Set}
use Rattle.sets.specs.Sets.{bit, member, sift, members, set_size, set_words}
use Rattle.sets.proofs.Sift.{sift_same, length_sift}
use Rattle.sets.proofs.Bits.{bit_zero, bit_power, bit_or_lem, cleared, bit_cleared}

-- a rule of the four words and of what is read past them
by_word : (P : ℕ → Type 0) → P 0 → P 1 → P 2 → P 3 → ((k : ℕ) → P (suc (suc (suc (suc k))))) → (k : ℕ) → P k
by_word P p0 p1 p2 p3 past zero = p0
by_word P p0 p1 p2 p3 past (suc zero) = p1
by_word P p0 p1 p2 p3 past (suc (suc zero)) = p2
by_word P p0 p1 p2 p3 past (suc (suc (suc zero))) = p3
by_word P p0 p1 p2 p3 past (suc (suc (suc (suc k)))) = past k

past_words : (s : Set) → length s.words ≡ set_words → (k : ℕ) → get_or s.words (suc (suc (suc (suc k)))) 0 ≡ 0
past_words s four k = get_or-eq_default s.words 0 (omega (arith, four))

-- ---- the empty set
pub member_empty : (j : ℕ) → member (record { words = 0 ∷ 0 ∷ 0 ∷ 0 ∷ [] }) j ≡ false
unfolding member
member_empty j =
    ap (λ (w : ℕ). bit w (j % 64)) (by_word (λ k. ◌≡◌ {A = ℕ} (get_or (0 ∷ 0 ∷ 0 ∷ 0 ∷ []) k 0) 0) refl refl refl refl (λ k. refl) (j / 64)) ∙ bit_zero (j % 64)

-- a set of no words has no member either
pub member_none : (j : ℕ) → member (record { words = [] }) j ≡ false
unfolding member
member_none j = bit_zero (j % 64)

-- ---- a set made of two, word by word
module _ (a b : Set) where
  abbrev worded : (ℕ → ℕ → ℕ) → Set
  worded f =
      record {
        words =
            f (get_or a.words 0 0) (get_or b.words 0 0)
            ∷ f (get_or a.words 1 0) (get_or b.words 1 0)
            ∷ f (get_or a.words 2 0) (get_or b.words 2 0)
            ∷ f (get_or a.words 3 0) (get_or b.words 3 0)
            ∷ [];
      }

  module _ (four : length a.words ≡ set_words) (other_four : length b.words ≡ set_words) where
    member_worded : (f : ℕ → ℕ → ℕ) (g : Bool → Bool → Bool) → 0 ≡ f 0 0 → ((x y i : ℕ) → bit (f x y) i ≡ g (bit x i) (bit y i))
        → (j : ℕ) → member (worded f) j ≡ g (member a j) (member b j)
    unfolding member
    member_worded f g none bits j =
        ap (λ (w : ℕ). bit w (j % 64))
        (by_word (λ k. get_or (worded f).words k 0 ≡ f (get_or a.words k 0) (get_or b.words k 0)) refl refl refl refl
        (λ k. rw (past_words a four k, past_words b other_four k) none) (j / 64))
        ∙ bits (get_or a.words (j / 64) 0) (get_or b.words (j / 64) 0) (j % 64)

    pub members_or : (j : ℕ) → member (worded bit_or) j ≡ (member a j || member b j)
    members_or = member_worded bit_or ◌||◌ refl bit_or_lem

    pub members_cleared : (j : ℕ) → member (worded cleared) j ≡ (member a j && not (member b j))
    members_cleared = member_worded cleared (λ p q. p && not q) refl bit_cleared

-- ---- one number more
module _ (s : Set) (i : ℕ) (four : length s.words ≡ set_words) (h : i < set_size) where
  abbrev place : ℕ
  place = i / 64

  abbrev more : ℕ
  more = bit_or (get_or s.words place 0) (2 ^ (i % 64))

  same_place : (j : ℕ) → j / 64 ≡ place → (b : Bool) → eqb (j % 64) (i % 64) ≡ b → b ≡ eqb j i
  same_place j e true q = let g = eqb-true (j % 64) (i % 64) q in sym (eq-eqb j i (omega arith))
  same_place j e false q = sym (ne_eqb j i (λ g. eqb-false (j % 64) (i % 64) q (omega arith)))

  pub members_more : (j : ℕ) → member (record { words = set s.words place more }) j ≡ (member s j || eqb j i)
  unfolding member
  members_more j = go (eqb (j / 64) place) refl
    where
      go : (b : Bool) → eqb (j / 64) place ≡ b
          → bit (get_or (set s.words place more) (j / 64) 0) (j % 64) ≡ (bit (get_or s.words (j / 64) 0) (j % 64) || eqb j i)
      go true q =
          let e : j / 64 ≡ place = eqb-true (j / 64) place q in
          ap (λ (w : ℕ). bit w (j % 64)) (get_or-set_at s.words place (j / 64) more 0 e (omega (arith, four)))
          ∙ bit_or_lem (get_or s.words place 0) (2 ^ (i % 64)) (j % 64)
          ∙ ap (λ (k : ℕ). bit (get_or s.words k 0) (j % 64) || bit (2 ^ (i % 64)) (j % 64)) (sym e)
          ∙ ap (λ (b : Bool). bit (get_or s.words (j / 64) 0) (j % 64) || b)
          (bit_power (i % 64) (j % 64) ∙ same_place j e (eqb (j % 64) (i % 64)) refl)
      go false q =
          let n : j / 64 ≡ place → ⊥ = eqb-false (j / 64) place q in
          ap (λ (w : ℕ). bit w (j % 64)) (get_or-set_other s.words place (j / 64) more 0 n)
          ∙ sym (or-false (bit (get_or s.words (j / 64) 0) (j % 64)))
          ∙ ap (λ (b : Bool). bit (get_or s.words (j / 64) 0) (j % 64) || b) (sym (ne_eqb j i (λ g. n (ap (λ (k : ℕ). k / 64) g))))

-- ---- the same of two sets by their four words, as each set has them
abbrev pub of_words : ℕ → ℕ → ℕ → ℕ → Set
of_words w0 w1 w2 w3 = record { words = w0 ∷ w1 ∷ w2 ∷ w3 ∷ [] }

module _ (a0 a1 a2 a3 : ℕ) where
  abbrev one : Set
  one = of_words a0 a1 a2 a3

  pub member_with : (i : ℕ) → i < set_size → (j : ℕ)
      → member (record { words = set one.words (i / 64) (bit_or (get_or one.words (i / 64) 0) (2 ^ (i % 64))) }) j ≡ (member one j || eqb j i)
  member_with i h = members_more one i refl h

module _ (a0 a1 a2 a3 b0 b1 b2 b3 : ℕ) where
  abbrev left : Set
  left = of_words a0 a1 a2 a3

  abbrev right : Set
  right = of_words b0 b1 b2 b3

  pub member_union : (j : ℕ) → member (of_words (bit_or a0 b0) (bit_or a1 b1) (bit_or a2 b2) (bit_or a3 b3)) j ≡ (member left j || member right j)
  member_union = members_or left right refl refl

  pub member_without : (j : ℕ) → member (of_words (cleared a0 b0) (cleared a1 b1) (cleared a2 b2) (cleared a3 b3)) j ≡ (member left j && not (member right j))
  member_without = members_cleared left right refl refl

-- ---- the list of the members
module _ (s : Set) where
  pub length_members_le : length (members s) ≤ set_size
  length_members_le = length_sift (member s) 0 set_size

  -- a set whose members are the numbers that pass a test
  pub members_sift : (p : ℕ → Bool) → ((i : ℕ) → i < set_size → member s i ≡ p i) → sift p 0 set_size ≡ members s
  members_sift p h = sift_same p (member s) 0 set_size (λ i g l. sym (h i l))
