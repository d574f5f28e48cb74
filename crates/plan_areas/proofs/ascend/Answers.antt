-- `plan_areas::ascend` meets its contract: entries of which each is above the one before it ascend. Assumes nothing.
use Rattle.std.proofs.Common.{◌≡◌, ℕ, zero, suc, ◌-◌, ◌*◌, ◌<◌, ◌≤◌, Bool, true, false, List, rules, arith, length, get_or, ◌∙◌}
use mathlib.Core.Bool.{false≢true}
use mathlib.Core.Logic.{⊎_elim}
use native.Mathlib.Nat.{eq-or-lt_of_le, lt_trans}
use Rattle.std.specs.List.{AllWithin, HoldsAt, range_with_len}
use Rattle.std.specs.Bool.{MatchBool}
use Rattle.std.proofs.lemmas.Iterator.{cases_from_all, YieldsList-from_range}
use Rattle.std.proofs.lemmas.List.FromFn.{length-range_with_len, get_or-range_with_len}
use Rattle.plan.specs.Loops.{Ascending}
use Rattle.plan_areas.proofs.ascend.Goals as goal

module _ (list : List ℕ) (n each : ℕ) where
  abbrev above : ℕ → Type 0
  above i = get_or list ((i - 1) * each) 0 < get_or list (i * each) 0

  abbrev places : List ℕ
  places = range_with_len 1 (n - 1)

  climbs : ((i : ℕ) → 1 ≤ i → i < n → above i) → (j i : ℕ) → i < j → j < n → get_or list (i * each) 0 < get_or list (j * each) 0
  climbs s zero i h k = absurd (omega arith)
  climbs s (suc j) i h k =
      let e : suc j - 1 ≡ j = omega arith in
      let here : get_or list (j * each) 0 < get_or list (suc j * each) 0 = rw e at (s (suc j) (omega arith) k) in
      ⊎_elim (λ (q : i ≡ j). rw q here) (λ (l : i < j). lt_trans (climbs s j i l (omega arith)) here) (eq-or-lt_of_le (omega arith))

  all_above : AllWithin above places 0 (length places) → (i : ℕ) → 1 ≤ i → i < n → above i
  all_above m i o l =
      let e : get_or places (i - 1) 0 ≡ i = get_or-range_with_len 1 (n - 1) (i - 1) 0 (omega arith) ∙ omega arith in
      rw e at (m (i - 1) 0 (omega arith) (omega (arith, length-range_with_len 1 (n - 1))))

  told : (r : Bool) → MatchBool r (AllWithin above places 0 (length places)) ((k : ℕ) × (k < length places) × HoldsAt (λ i. Unit {0}) places k)
      → r ≡ true → Ascending each n list
  told true m e i j h k = climbs (all_above m) j i h k
  told false m e i j h k = absurd (false≢true e)

pub returns : goal.returns
returns c =
    let a = c.args in
    told a.list.now a.n a.each c.all.result
    (cases_from_all _ _ _ (above a.list.now a.n a.each) (λ i. Unit {0}) c.all.ensures.ran
    (YieldsList-from_range 1 a.n (a.n - 1) (search rules) (search rules))
    (λ i q k. search rules)
    (λ i q k. tt))
