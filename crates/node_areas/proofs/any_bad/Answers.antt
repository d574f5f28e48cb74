-- `node_areas::any_bad` meets its contract: by the node at which the test was true, or at none. Assumes nothing.
use Rattle.std.proofs.Common.{◌≡◌, ℕ, ◌<◌, Bool, true, false, List, sym, rules, arith, length, get_or, ◌∙◌}
use Rattle.std.specs.List.{AllWithin, HoldsAt, range_with_len}
use Rattle.std.specs.Bool.{MatchBool}
use Rattle.std.proofs.lemmas.Iterator.{cases_from_any, YieldsList-from_range}
use Rattle.std.proofs.lemmas.List.FromFn.{length-range_with_len, get_or-range_with_len}
use Rattle.node.specs.Areas.{len_at, left_at, safe_at, is_bad, some_bad}
use Rattle.node.proofs.Bad.{none_bad, some_bad_lem}
use Rattle.node_areas.proofs.any_bad.Goals as goal

module _ (words : List ℕ) (count : ℕ) where
  abbrev bad : ℕ → Bool
  bad i = is_bad (len_at words i) (left_at words i) (safe_at words i)

  abbrev places : List ℕ
  places = range_with_len 0 count

  places_length : length places ≡ count
  places_length = length-range_with_len 0 count

  place : (i : ℕ) → i < count → get_or places i 0 ≡ i
  place i h = get_or-range_with_len 0 count i 0 h ∙ omega arith

  told : (r : Bool) → MatchBool r ((k : ℕ) × (k < length places) × HoldsAt (λ i. bad i ≡ true) places k) (AllWithin (λ i. bad i ≡ false) places 0 (length places))
      → r ≡ some_bad words count
  told true m =
      let h : m.0 < count = omega (arith, m.1, places_length) in
      sym (some_bad_lem words count m.0 h (rw (place m.0 h) at (m.2 0)))
  told false m =
      sym (none_bad words count (λ i h. rw (place i h) at (m i 0 (omega arith) (omega (arith, h, places_length)))))

pub returns : goal.returns
unfolding is_bad
returns c =
    let a = c.args in
    told a.words.now a.count c.any.result
    (cases_from_any _ _ _ (λ i. bad a.words.now a.count i ≡ true) (λ i. bad a.words.now a.count i ≡ false) c.any.ensures.ran
    (YieldsList-from_range 0 a.count a.count (search rules) (omega arith))
    (λ i q k. search rules)
    (λ i q k. search rules))
