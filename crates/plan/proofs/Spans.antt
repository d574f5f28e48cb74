-- The buffers that a span names: how many, which entries of the index list, below the buffers where the entries are,
-- and none that another span names where the list ascends. Assumes nothing.
use mathlib.Core.Path.{◌≡◌, sym, ap, ◌∙◌}
use mathlib.Core.Bool.{true, false, ◌||◌}
use mathlib.Core.List.{List}
use mathlib.Core.Logic.{⊎_elim}
use Prim.Native.Nat.{ℕ, ◌+◌, ◌-◌, ◌<◌, ◌≤◌, min}
use native.Mathlib.Nat.{mul-one, ne_of_lt}
use native.Mathlib.Omega.{arith}
use native.Mathlib.Decide.{dec_lt}
use lib.ListN.{length, get_or, take, drop, length-take, length-drop}
use lib.Seq.{get_or-take, get_or-drop, take-take, take_all}
use borrow.Author.Tests.{leb-true}
use Rattle.lists.proofs.Stores.{length_part}
use Rattle.lists.specs.Entries.{some_from, meet, Disjoint}
use Rattle.std.proofs.lemmas.Bool.{or_cases}
use Rattle.lists.proofs.Entries.{some_none, some_more, entries_none, meet_none}
use Rattle.plan.specs.declared.Plan.{Plan}
use Rattle.plan.specs.declared.Span.{Span}
use Rattle.plan.specs.Limits.{unit_limits}
use Rattle.plan.specs.Check.{named, used, first_of}
use Rattle.plan.specs.Sound.{Within, Names, IndexList}
use Rattle.plan.specs.Loops.{Ascending, span_before}

module _ (indices : List ℕ) (s : Span) where
  pub length_named : Within (length indices) s → length (named indices s) ≡ s.len
  length_named h = length_part s.start s.len indices h

  pub named_at : (i : ℕ) → i < s.len → get_or (named indices s) i 0 ≡ get_or indices (s.start + i) 0
  named_at i h = get_or-take s.len (drop s.start indices) i 0 h ∙ get_or-drop s.start indices i 0

  pub named_below : (n count : ℕ) → some_from n (take count indices) ≡ false → Within count s → some_from n (named indices s) ≡ false
  named_below n count e h = (some_none n (named indices s)).1 each
    where
      each : (i : ℕ) → i < length (named indices s) → get_or (named indices s) i 0 < n
      each i l =
          let k : i < min s.len (length indices - s.start) = rw (length-take, length-drop) at l in
          rw (named_at i (omega arith)) ((entries_none n count indices).0 e (s.start + i) (omega arith) (omega arith))

-- a span of an index list that was tested
pub names : (p : Plan) (indices : List ℕ) → IndexList p indices → (s : Span) → Within p.indices s → Names p indices s
names p indices l s h =
    record { within = omega (arith, h, l.room); numbers = named_below indices s p.buffers p.indices l.entries h }

-- what it names: as many buffers as it is long, each below the plan's, and so of those that a plan can have, where it has no more
module _ (p : Plan) (indices : List ℕ) (s : Span) (n : Names p indices s) where
  pub names_length : length (named indices s) ≡ s.len
  names_length = length_named indices s n.within

  pub names_below : (i : ℕ) → i < s.len → get_or (named indices s) i 0 < p.buffers
  names_below i k = (some_none p.buffers (named indices s)).0 n.numbers i (omega (arith, names_length))

  pub names_low : p.buffers ≤ unit_limits.buffers → some_from unit_limits.buffers (named indices s) ≡ false
  names_low few = some_more p.buffers unit_limits.buffers (named indices s) few n.numbers

  -- and so do its first
  pub names_first : (k : ℕ) → k ≤ s.len → Names p indices (first_of k s)
  names_first k h =
      let w : Within (length indices) (first_of k s) = omega (arith, n.within, h) in
      record {
        within = w;
        numbers = (some_none p.buffers (named indices (first_of k s))).1
            (λ i l. let t : i < k = rw (length_named indices (first_of k s) w) at l in
            rw (named_at indices (first_of k s) i t) (rw (named_at indices s i (omega arith)) at (names_below i (omega arith))));
      }

-- the used channels of a Gain are the first of each span
module _ (n : ℕ) (s d : Span) where
  pub used_src : Within n s → Within n (first_of (used s d) s)
  used_src h = omega arith

  pub used_dst : Within n d → Within n (first_of (used s d) d)
  used_dst h = omega arith

-- and name the first buffers of each, as many as the other names
take_both : {A : Type 0} (n m : ℕ) (xs : List A) → take n (take m xs) ≡ take (min m n) xs
take_both n m xs =
    elim (dec_lt m n) as (λ _. take n (take m xs) ≡ take (min m n) xs) [
      | yes h ↦
          let e : min m n ≡ m = omega arith in
          take_all n (take m xs) (rw length-take (omega arith)) ∙ ap (λ (k : ℕ). take k xs) (sym e)
      | no h ↦
          let e : min m n ≡ n = omega arith in
          take-take n m xs (omega arith) ∙ ap (λ (k : ℕ). take k xs) (sym e)
    ]

module _ (indices : List ℕ) (s d : Span) {xs ys : List ℕ} (es : xs ≡ named indices s) (ed : ys ≡ named indices d) where
  pub used_sources : Within (length indices) d → take (length ys) xs ≡ named indices (first_of (used s d) s)
  used_sources h =
      let n : length ys ≡ d.len = ap length ed ∙ length_named indices d h in
      rw (n, es) (take_both d.len s.len (drop s.start indices))

  pub used_targets : Within (length indices) s → take (length xs) ys ≡ named indices (first_of (used s d) d)
  used_targets h =
      let n : length xs ≡ s.len = ap length es ∙ length_named indices s h in
      let m : min d.len s.len ≡ used s d = omega arith in
      rw (n, ed) (take_both s.len d.len (drop d.start indices) ∙ ap (λ (k : ℕ). named indices (first_of k d)) m)

-- a place in the buffers that a span names is below its length
pub within_len : (indices : List ℕ) (s : Span) (i : ℕ) → i < length (named indices s) → i < s.len
within_len indices s i l =
    let k : i < min s.len (length indices - s.start) = rw (length-take, length-drop) at l in
    omega arith

-- in an index list that ascends, spans of which one ends before the other starts name no buffer both
module _ (indices : List ℕ) (count : ℕ) (up : Ascending 1 count indices) where
  named_above : (s d : Span) → s.start + s.len ≤ d.start → Within count d → (i j : ℕ) → i < s.len → j < d.len → get_or (named indices s) i 0 < get_or (named indices d) j 0
  named_above s d e w i j h k =
      let u = up (s.start + i) (d.start + j) (omega arith) (omega arith) in
      rw (named_at indices s i h, named_at indices d j k) (rw (mul-one (s.start + i), mul-one (d.start + j)) at u)

  pub apart_none : (s d : Span) → Within count s → Within count d → (span_before s d || span_before d s) ≡ true → meet (named indices s) (named indices d) ≡ false
  apart_none s d ws wd e = (meet_none (named indices s) (named indices d)).1 differ
    where
      differ : Disjoint (named indices s) (named indices d)
      differ i j h k q =
          let h' = within_len indices s i h in
          let k' = within_len indices d j k in
          ⊎_elim
          (λ b. ne_of_lt (named_above s d (leb-true _ _ b) wd i j h' k') q)
          (λ b. ne_of_lt (named_above d s (leb-true _ _ b) ws j i k' h') (sym q))
          (or_cases (span_before s d) (span_before d s) e)
