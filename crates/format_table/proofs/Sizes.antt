-- A sound table has 24 entries and needs 1,021 gains: sums over its entries are sums over the pairs of formats. Assumes nothing.
use mathlib.Core.Path.{◌≡◌, refl, sym, ap, ◌∙◌}
use mathlib.Core.Bool.{Bool, true, false, ◌&&◌, cond}
use mathlib.Core.List.{List}
use Prim.Native.Nat.{ℕ, zero, suc, ◌+◌, ◌*◌, ◌/◌, ◌%◌, ◌<◌, ◌≤◌}
use native.Mathlib.Nat.{add-mul, zero-mul, one-mul}
use native.Mathlib.Omega.{arith}
use borrow.Author.Tests.{eq-eqb, ne_eqb, eqb-true, eqb-false}
use lib.Dec.{eqb}
use lib.Ieee.{Float}
use Rattle.format.specs.Formats.{labels, channels, index_of, has}
use Rattle.format_table.specs.Covered.{lacks, applies}
use Rattle.format_table.specs.Tables.{entries, source_at, destination_at, entry_for, times, size_at, needed, all_pairs}
use Rattle.format_table.specs.Sound.{TableSound}
use Rattle.format_table.proofs.Covered.{source_of, destination_of}
use Rattle.format_table.proofs.Faults.{pair_number}
use Rattle.format_table.proofs.Exact.{one_each}

-- f of each of the first n pairs, added up
abbrev over_pairs : (ℕ → ℕ → ℕ) → ℕ → ℕ
over_pairs f zero = 0
over_pairs f (suc k) = f (k / 7) (k % 7) + over_pairs f k

-- w of each of the first n entries, added up
abbrev over_entries : (ℕ → ℕ → ℕ) → List ℕ → ℕ → ℕ
over_entries w pairs zero = 0
over_entries w pairs (suc n) = over_entries w pairs n + w (source_at pairs n) (destination_at pairs n)

pairs_same : (f g : ℕ → ℕ → ℕ) (n : ℕ) → ((k : ℕ) → k < n → f (k / 7) (k % 7) ≡ g (k / 7) (k % 7)) → over_pairs f n ≡ over_pairs g n
pairs_same f g zero e = refl
pairs_same f g (suc n) e = omega (arith, e n (omega arith), pairs_same f g n (λ k h. e k (omega arith)))

pairs_add : (f g : ℕ → ℕ → ℕ) (n : ℕ) → over_pairs (λ s d. f s d + g s d) n ≡ over_pairs f n + over_pairs g n
pairs_add f g zero = refl
pairs_add f g (suc n) = omega (arith, pairs_add f g n)

pairs_none : (f : ℕ → ℕ → ℕ) (n : ℕ) → ((s d : ℕ) → f s d ≡ 0) → over_pairs f n ≡ 0
pairs_none f zero e = refl
pairs_none f (suc n) e = omega (arith, e (n / 7) (n % 7), pairs_none f n e)

-- ---- one entry is for one pair
module _ (w : ℕ → ℕ → ℕ) (s d : ℕ) (hs : s < 7) (hd : d < 7) where
  abbrev entry_in : ℕ → ℕ → ℕ
  entry_in a b = cond (eqb s a && eqb d b) 1 0 * w a b

  entry_here : (k : ℕ) → k ≡ s * 7 + d → entry_in (k / 7) (k % 7) ≡ w s d
  entry_here k e =
      let q : k / 7 ≡ s = ap (λ (i : ℕ). i / 7) e ∙ source_of s d hs hd in
      let r : k % 7 ≡ d = ap (λ (i : ℕ). i % 7) e ∙ destination_of s d hs hd in
      ap (λ (b : Bool). cond b 1 0 * w (k / 7) (k % 7)) (pair_number s d k hs hd ∙ eq-eqb k (s * 7 + d) e)
      ∙ one-mul (w (k / 7) (k % 7))
      ∙ ap (λ (i : ℕ). w i (k % 7)) q
      ∙ ap (w s) r

  entry_elsewhere : (k : ℕ) → (k ≡ s * 7 + d → ⊥) → entry_in (k / 7) (k % 7) ≡ 0
  entry_elsewhere k n =
      ap (λ (b : Bool). cond b 1 0 * w (k / 7) (k % 7)) (pair_number s d k hs hd ∙ ne_eqb k (s * 7 + d) n) ∙ zero-mul (w (k / 7) (k % 7))

  entries_before : (n : ℕ) → n ≤ s * 7 + d → over_pairs entry_in n ≡ 0
  entries_before zero h = refl
  entries_before (suc n) h = omega (arith, entry_elsewhere n (λ e. omega arith), entries_before n (omega arith))

  entry_once : (n : ℕ) → s * 7 + d < n → over_pairs entry_in n ≡ w s d
  entry_once zero h = absurd (omega arith)
  entry_once (suc n) h = go (eqb n (s * 7 + d)) refl (entry_once n)
    where
      apart : (n p : ℕ) → (n ≡ p → ⊥) → p < suc n → p < n
      apart n p f l = omega arith

      go : (b : Bool) → eqb n (s * 7 + d) ≡ b → (s * 7 + d < n → over_pairs entry_in n ≡ w s d) → over_pairs entry_in (suc n) ≡ w s d
      go true e ih = let p = eqb-true n (s * 7 + d) e in omega (arith, entry_here n p, entries_before n (omega arith))
      go false e ih = let f = eqb-false n (s * 7 + d) e in omega (arith, entry_elsewhere n f, ih (apart n (s * 7 + d) f h))

joined : (e w a h b c : ℕ) → e ≡ a → h ≡ w → b ≡ c → c ≡ a + h → e + w ≡ b
joined e w a h b c p q r s = omega arith

-- ---- so a sum over the entries goes by how many each pair has
module _ (w : ℕ → ℕ → ℕ) (pairs : List ℕ) where
  by_pairs : (n : ℕ) → ((k : ℕ) → k < n → (source_at pairs k < 7) × (destination_at pairs k < 7))
      → over_entries w pairs n ≡ over_pairs (λ s d. times pairs s d n * w s d) all_pairs
  unfolding times
  by_pairs zero known = sym (pairs_none (λ s d. times pairs s d 0 * w s d) all_pairs (λ s d. zero-mul (w s d)))
  by_pairs (suc n) known =
      let h = known n (omega arith) in
      let s = source_at pairs n in
      let d = destination_at pairs n in
      joined _ (w s d) _ _ _ _
      (by_pairs n (λ k l. known k (omega arith)))
      (entry_once w s d h.0 h.1 all_pairs (omega arith))
      (pairs_same (λ a b. times pairs a b (suc n) * w a b) (λ a b. times pairs a b n * w a b + entry_in w s d h.0 h.1 a b) all_pairs
      (λ k l. add-mul (times pairs (k / 7) (k % 7) n) (cond (entry_for pairs (k / 7) (k % 7) n) 1 0) (w (k / 7) (k % 7))))
      (pairs_add (λ a b. times pairs a b n * w a b) (entry_in w s d h.0 h.1) all_pairs)

-- ---- the two sums
entries_summed : (pairs : List ℕ) (n : ℕ) → over_entries (λ s d. 1) pairs n ≡ n
entries_summed pairs zero = refl
entries_summed pairs (suc n) = omega (arith, entries_summed pairs n)

gains_summed : (pairs : List ℕ) (n : ℕ) → over_entries (λ s d. channels d * channels s) pairs n ≡ needed pairs n
unfolding needed
gains_summed pairs zero = refl
gains_summed pairs (suc n) = ap (λ (m : ℕ). m + size_at pairs n) (gains_summed pairs n)

abbrev covered : (ℕ → ℕ → ℕ) → ℕ → ℕ → ℕ
covered w s d = cond (applies s d) 1 0 * w s d

all_24 : over_pairs (covered (λ s d. 1)) all_pairs ≡ 24
unfolding applies lacks has index_of channels labels
all_24 = refl

all_1021 : over_pairs (covered (λ s d. channels d * channels s)) all_pairs ≡ 1021
unfolding applies lacks has index_of channels labels
all_1021 = refl

module _ (pairs : List ℕ) (gains : List Float) (t : TableSound pairs gains) where
  summed : (w : ℕ → ℕ → ℕ) → over_entries w pairs (entries pairs) ≡ over_pairs (covered w) all_pairs
  summed w =
      by_pairs w pairs (entries pairs) t.formats
      ∙ pairs_same (λ s d. times pairs s d (entries pairs) * w s d) (covered w) all_pairs
      (λ k h. ap (λ (n : ℕ). n * w (k / 7) (k % 7)) (one_each pairs gains t (k / 7) (k % 7) (omega arith) (omega arith)))

  pub entries_24 : entries pairs ≡ 24
  entries_24 = sym (entries_summed pairs (entries pairs)) ∙ summed (λ s d. 1) ∙ all_24

  pub needed_1021 : needed pairs (entries pairs) ≡ 1021
  needed_1021 = sym (gains_summed pairs (entries pairs)) ∙ summed (λ s d. channels d * channels s) ∙ all_1021
