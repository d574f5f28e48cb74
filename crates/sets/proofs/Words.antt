-- The members of a set word by word: those of the words so far, listed and counted. Assumes nothing.
use Prim.Native.Nat.{ℕ, ◌+◌, ◌-◌, ◌*◌, ◌^◌, ◌<◌, ◌≤◌}
use mathlib.Core.Path.{◌≡◌, refl, sym, ap, ap₂, ◌∙◌}
use mathlib.Core.List.{List, [], ◌++◌}
use native.Mathlib.Nat.{zero-add}
use native.Mathlib.Omega.{arith}
use lib.Arith.{digits_div, digits_mod}
use lib.Count.{ones}
use lib.ListN.{length, get_or, drop, length-append}
use lib.Seq.{sets, sets-eq}
use Rattle.lists.proofs.Stores.{sets_append}
use Rattle.sets.specs.declared.Set.{Set}
use Rattle.sets.specs.Sets.{bit, member, sift, members, places, set_size, set_words}
use Rattle.sets.proofs.Sift.{sift_append, length_sift}
use Rattle.sets.proofs.Bits.{sift_places, length_places}

module _ (s : Set) where
  -- the members that the first k words hold
  abbrev pub front : ℕ → List ℕ
  front k = sift (member s) 0 (k * 64)

  abbrev pub held : ℕ → List ℕ
  held k = places (k * 64) 64 (get_or s.words k 0)

  word_members : (k : ℕ) → sift (member s) (k * 64) 64 ≡ held k
  unfolding member
  word_members k =
      sift_places (member s) (k * 64) 64 (get_or s.words k 0)
      (λ i h. ap₂ (λ (m n : ℕ). bit (get_or s.words m 0) n) (digits_div k h) (digits_mod k h))

  pub front_none : front 0 ≡ []
  unfolding sift
  front_none = refl

  front_more : (k : ℕ) → front (k + 1) ≡ front k ++ held k
  front_more k =
      let size : (k + 1) * 64 ≡ k * 64 + 64 = omega arith in
      let from : 0 + k * 64 ≡ k * 64 = omega arith in
      ap (sift (member s) 0) size
      ∙ sift_append (member s) 0 (k * 64) 64
      ∙ ap (λ (i : ℕ). front k ++ sift (member s) i 64) from
      ∙ ap (λ (l : List ℕ). front k ++ l) (word_members k)

  length_more : (k : ℕ) → length (front (k + 1)) ≡ length (front k) + length (held k)
  length_more k = ap length (front_more k) ∙ length-append (front k) (held k)

  -- the members that one word more holds are counted by its bits
  pub count_more : (k : ℕ) → get_or s.words k 0 < 2 ^ 64 → length (front (k + 1)) ≡ length (front k) + ones (get_or s.words k 0)
  count_more k h = length_more k ∙ ap (λ (n : ℕ). length (front k) + n) (length_places (k * 64) 64 (get_or s.words k 0) h)

  pub front_few : (k : ℕ) → length (front k) ≤ k * 64
  front_few k = length_sift (member s) 0 (k * 64)

  -- they are as many as the members at most
  front_within : (k : ℕ) → k ≤ set_words → length (front k) ≤ length (members s)
  front_within k h =
      let size : set_size ≡ k * 64 + (set_size - k * 64) = omega arith in
      let e = ap length (ap (sift (member s) 0) size ∙ sift_append (member s) 0 (k * 64) (set_size - k * 64)) in
      omega (arith, e ∙ length-append (front k) (sift (member s) (0 + k * 64) (set_size - k * 64)))

  -- ---- the members that the first k words hold are at the front of an area, up to place n
  module _ (old : List ℕ) where
    pub record Listing (area : List ℕ) (n k : ℕ) : Type 0 where
      pub place : n ≡ length (front k)
      pub written : area ≡ sets old 0 (front k)

    pub listing_starts : Listing old 0 0
    listing_starts = record { place = sym (ap length front_none); written = sym (ap (sets old 0) front_none) }

    module _ {area : List ℕ} {n k : ℕ} (w : Listing area n k) where
      pub listing_room : k < set_words → n + length (held k) ≤ length (members s)
      listing_room h = omega (arith, w.place, length_more k, front_within (k + 1) (omega arith))

      pub listing_on : {next : List ℕ} {m : ℕ} → (m ≡ n + length (held k)) × (next ≡ sets area n (held k)) → Listing next m (k + 1)
      listing_on {next} {m} e =
          record {
            place = e.0 ∙ ap (λ (j : ℕ). j + length (held k)) w.place ∙ sym (length_more k);
            written =
                e.1
                ∙ ap (λ (r : List ℕ). sets r n (held k)) w.written
                ∙ ap (λ (j : ℕ). sets (sets old 0 (front k)) j (held k)) (w.place ∙ sym (zero-add (length (front k))))
                ∙ sym (sets_append old 0 (front k) (held k))
                ∙ ap (sets old 0) (sym (front_more k));
          }

      pub listing_ends : k ≡ set_words → length (members s) ≤ length old → area ≡ members s ++ drop (length (members s)) old
      listing_ends e h =
          w.written
          ∙ ap (λ (j : ℕ). sets old 0 (front j)) e
          ∙ sets-eq (members s) old 0 (rw zero-add h)
          ∙ ap (λ (j : ℕ). members s ++ drop j old) (zero-add (length (members s)))
