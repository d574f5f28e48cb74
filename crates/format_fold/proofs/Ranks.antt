-- Each turn of a label lowers its rank: one computed test over the seven formats and fifteen labels. So `depth` is enough, and the
-- definition has the Rust's own equation, `onward`, with no bound in it. Assumes nothing.
use mathlib.Core.Path.{◌≡◌, refl, sym, ap, subst, ◌∙◌}
use mathlib.Core.Bool.{Bool, true, false, ◌||◌}
use mathlib.Core.List.{List}
use Prim.Native.Nat.{ℕ, zero, suc, ◌+◌, ◌*◌, ◌/◌, ◌%◌, ◌<◌, ◌≤◌}
use native.Mathlib.Nat.{not-suc-le-zero, le_of_suc-le-suc, lt_of_lt_of_le}
use native.Mathlib.Omega.{arith}
use mathlib.Core.Logic.{◌⊎◌, inl, inr, ⊎_elim}
use borrow.Author.Tests.{lt-ltb, le-ltb}
use lib.Dec.{T, ltb, leb, ltb→lt, leb→le}
use lib.ListN.{get_or}
use lib.Ieee.{Float, binary64, lt, mul}
use Rattle.lists.proofs.Tables.{both, both_left, both_right, below, below_at}
use Rattle.format.specs.Formats.{labels, channels, index_of, has}
use Rattle.format.specs.Floats.{zero64}
use Rattle.format_fold.specs.declared.FoldGains.{FoldGains}
use Rattle.format_fold.specs.declared.Targets.{Targets}
use Rattle.format_fold.specs.declared.Targets.TheVariants.{Nothing, One, Two}
use Rattle.format_fold.specs.Folds.{targets_of, folds_to, rank, through, folded, added, depth}

-- ---- the rank falls

abbrev pub lowers : ℕ → ℕ → Targets → Bool
lowers n d Nothing = true
lowers n d (One l a) = both (ltb l 15) (ltb (rank d l) n)
lowers n d (Two l a r b) = both (both (ltb l 15) (ltb (rank d l) n)) (both (ltb r 15) (ltb (rank d r) n))

abbrev lower : Bool → FoldGains → ℕ → Bool
lower low g k = has (k / 15) (k % 15) || lowers (rank (k / 15) (k % 15)) (k / 15) (get_or (targets_of low g (k / 15)) (k % 15) Nothing)

all_lower : (low : Bool) (g : FoldGains) → T (below (lower low g) 105)
unfolding has rank index_of channels labels
all_lower true g = tt
all_lower false g = tt

abbrev small : ℕ → Bool
small k = leb (rank (k / 15) (k % 15)) 3

all_small : T (below small 105)
unfolding has rank index_of channels labels
all_small = tt

module _ (d l : ℕ) (hd : d < 7) (hl : l < 15) where
  quot : (d * 15 + l) / 15 ≡ d
  quot = omega arith

  rest : (d * 15 + l) % 15 ≡ l
  rest = omega arith

  place : d * 15 + l < 105
  place = omega arith

  pub rank_le : rank d l ≤ 3
  rank_le = leb→le (rank d l) 3 (subst (λ (i : ℕ). T (leb (rank i l) 3)) quot (subst (λ (j : ℕ). T (leb (rank ((d * 15 + l) / 15) j) 3)) rest (below_at small 105 all_small (d * 15 + l) place)))

  lower_at : (low : Bool) (g : FoldGains) → T (has d l || lowers (rank d l) d (get_or (targets_of low g d) l Nothing))
  lower_at low g =
      subst (λ (i : ℕ). T (has i l || lowers (rank i l) i (get_or (targets_of low g i) l Nothing))) quot
      (subst (λ (j : ℕ). T (has ((d * 15 + l) / 15) j || lowers (rank ((d * 15 + l) / 15) j) ((d * 15 + l) / 15) (get_or (targets_of low g ((d * 15 + l) / 15)) j Nothing))) rest
      (below_at (lower low g) 105 (all_lower low g) (d * 15 + l) place))

  pub falls : (g : FoldGains) → has d l ≡ false → T (lowers (rank d l) d (folds_to g d l))
  unfolding folds_to
  falls g e = subst (λ (b : Bool). T (b || lowers (rank d l) d (get_or (targets_of (lt zero64 g.lfe) g d) l Nothing))) e (lower_at (lt zero64 g.lfe) g)

-- what a turn leads to has a lower rank
pub into_lower : (n d : ℕ) (t : Targets) (l : ℕ) (a : Float) → t ≡ One l a → T (lowers n d t) → (l < 15) × (rank d l < n)
into_lower n d t l a e h =
    let k = subst (λ (u : Targets). T (lowers n d u)) e h in
    (ltb→lt l 15 (both_left (ltb l 15) (ltb (rank d l) n) k), ltb→lt (rank d l) n (both_right (ltb l 15) (ltb (rank d l) n) k))

pub left_lower : (n d : ℕ) (t : Targets) (l r : ℕ) (a b : Float) → t ≡ Two l a r b → T (lowers n d t) → (l < 15) × (rank d l < n)
left_lower n d t l r a b e h =
    into_lower n d (One l a) l a refl (both_left (both (ltb l 15) (ltb (rank d l) n)) (both (ltb r 15) (ltb (rank d r) n)) (subst (λ (u : Targets). T (lowers n d u)) e h))

pub right_lower : (n d : ℕ) (t : Targets) (l r : ℕ) (a b : Float) → t ≡ Two l a r b → T (lowers n d t) → (r < 15) × (rank d r < n)
right_lower n d t l r a b e h =
    into_lower n d (One r b) r b refl (both_right (both (ltb l 15) (ltb (rank d l) n)) (both (ltb r 15) (ltb (rank d r) n)) (subst (λ (u : Targets). T (lowers n d u)) e h))

-- the code's test
pub has_is : (d l i n : ℕ) → i ≡ index_of d l → n ≡ channels d → i < n → has d l ≡ true
unfolding has
has_is d l i n p q h = lt-ltb (index_of d l) (channels d) (omega arith)

pub lacks_is : (d l i n : ℕ) → i ≡ index_of d l → n ≡ channels d → n ≤ i → has d l ≡ false
unfolding has
lacks_is d l i n p q h = le-ltb (index_of d l) (channels d) (omega arith)

-- ---- any bound above the rank gives the same

either : (b : Bool) → (b ≡ true) ⊎ (b ≡ false)
either true = inl refl
either false = inr refl

-- what a turn leads to, at each label that it leads to
module _ (d n : ℕ) (to to' : ℕ → Float → List Float → List Float) (same : (l : ℕ) → l < 15 → rank d l < n → (x : Float) (m : List Float) → to l x m ≡ to' l x m) where
  step : (l : ℕ) → T (both (ltb l 15) (ltb (rank d l) n)) → (x : Float) (m : List Float) → to l x m ≡ to' l x m
  step l t x m = same l (ltb→lt l 15 (both_left (ltb l 15) (ltb (rank d l) n) t)) (ltb→lt (rank d l) n (both_right (ltb l 15) (ltb (rank d l) n) t)) x m

  through_same : (t : Targets) → T (lowers n d t) → (x : Float) (m : List Float) → through to t x m ≡ through to' t x m
  through_same Nothing h x m = refl
  through_same (One l a) h x m = step l h (mul binary64 x a) m
  through_same (Two l a r b) h x m =
      let hl = both_left (both (ltb l 15) (ltb (rank d l) n)) (both (ltb r 15) (ltb (rank d r) n)) h in
      let hr = both_right (both (ltb l 15) (ltb (rank d l) n)) (both (ltb r 15) (ltb (rank d r) n)) h in
      ap (to r (mul binary64 x b)) (step l hl (mul binary64 x a) m) ∙ step r hr (mul binary64 x b) (to' l (mul binary64 x a) m)

module _ (g : FoldGains) (d c s : ℕ) (hd : d < 7) where
  kept : (n l : ℕ) (x : Float) (m : List Float) → has d l ≡ true → folded (suc n) g d c s l x m ≡ added m (index_of d l * c + s) x
  unfolding folded
  kept n l x m e = rw (e, folded)

  turning : (n l : ℕ) (x : Float) (m : List Float) → has d l ≡ false → folded (suc n) g d c s l x m ≡ through (folded n g d c s) (folds_to g d l) x m
  unfolding folded
  turning n l x m e = rw (e, folded)

  enough : (n k l : ℕ) → l < 15 → rank d l < n → rank d l < k → (x : Float) (m : List Float) → folded n g d c s l x m ≡ folded k g d c s l x m
  enough zero k l hl h h' x m = absurd (not-suc-le-zero h)
  enough (suc n) zero l hl h h' x m = absurd (not-suc-le-zero h')
  enough (suc n) (suc k) l hl h h' x m =
      ⊎_elim (λ e. kept n l x m e ∙ sym (kept k l x m e))
      (λ e.
      turning n l x m e
      ∙ through_same d (rank d l) (folded n g d c s) (folded k g d c s)
      (λ j hj r. enough n k j hj (lt_of_lt_of_le r (le_of_suc-le-suc h)) (lt_of_lt_of_le r (le_of_suc-le-suc h')))
      (folds_to g d l) (falls d l hd hl g e) x m
      ∙ sym (turning k l x m e))
      (either (has d l))

  -- the Rust's `fold`: a label that the format has is added to its entry,
  pub present : (l : ℕ) (x : Float) (m : List Float) → has d l ≡ true → folded depth g d c s l x m ≡ added m (index_of d l * c + s) x
  present l x m e = kept 3 l x m e

  -- and any other is folded again through what it turns into
  pub onward : (l : ℕ) → l < 15 → (x : Float) (m : List Float) → has d l ≡ false → folded depth g d c s l x m ≡ through (folded depth g d c s) (folds_to g d l) x m
  onward l hl x m e =
      turning 3 l x m e
      ∙ through_same d (rank d l) (folded 3 g d c s) (folded 4 g d c s)
      (λ j hj r. enough 3 4 j hj (lt_of_lt_of_le r (rank_le d l hd hl)) (omega (arith, lt_of_lt_of_le r (rank_le d l hd hl))))
      (folds_to g d l) (falls d l hd hl g e) x m

-- ---- what the code goes by

pub ruleset turns = (present, onward, has_is, lacks_is, falls, into_lower, left_lower, right_lower)
