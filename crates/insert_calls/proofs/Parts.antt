-- The parts of an insert as code makes them: calls and then more calls, the first of alike values, the Patches turn by turn, and the identity fold turn by
-- turn. Assumes nothing.
use mathlib.Core.Path.{◌≡◌, refl, sym, ap, ◌∙◌}
use mathlib.Core.List.{List, [], ◌∷◌, ◌++◌, map, map-append}
use Prim.Native.Nat.{ℕ, zero, suc, ◌+◌, ◌-◌, ◌*◌, ◌<◌, ◌≤◌}
use native.Mathlib.Nat.{mul-le-mul, mul-le-mul_right, add-mul}
use native.Mathlib.Numerals.{add-one}
use native.Mathlib.Omega.{arith}
use lib.ListN.{take, set, replicate}
use lib.Ieee.{Float}
use Rattle.format.specs.Floats.{one32}
use Rattle.plan.specs.Words.{patch_map}
use Rattle.plan.specs.Limits.{unit_limits}
use Rattle.builder.specs.Built.{BuilderCall, step, asked, BuilderState, after, built}
use Rattle.builder.proofs.Lists.{built_append}
use Rattle.builder_calls.specs.declared.areas.PlanAreas.{PlanAreas}
use Rattle.builder_calls.specs.Lent.{SameAreas}
use Rattle.insert.specs.Wiring.{patches, diagonal}
use Rattle.insert_calls.specs.Loops.{wired}

-- ---- calls, and then more
pub wired_then : (s : BuilderState) (xs ys : List BuilderCall) {t u : BuilderState} → t ≡ wired s xs → u ≡ wired t ys → u ≡ wired s (xs ++ ys)
wired_then s xs ys e f =
    f
    ∙ ap (λ (v : BuilderState). wired v ys) e
    ∙ sym (ap (built s) (map-append (asked unit_limits) xs ys) ∙ built_append s (map (asked unit_limits) xs) (map (asked unit_limits) ys))

-- the areas are the same ones after both
pub same_then : (s t u : PlanAreas) → SameAreas s t → SameAreas t u → SameAreas s u
same_then s t u a b = (b.0 ∙ a.0, b.1 ∙ a.1, b.2 ∙ a.2, b.3 ∙ a.3, b.4 ∙ a.4)

-- ---- the first n of more alike values
pub take_alike : {A : Type 0} (x : A) (n m : ℕ) → n ≤ m → take n (replicate m x) ≡ replicate n x
take_alike x zero m h = refl
take_alike x (suc n) zero h = absurd (omega arith)
take_alike x (suc n) (suc m) h = ap (λ (xs : List _). x ∷ xs) (take_alike x n m (omega arith))

-- ---- the Patches that are left after k turns
module _ (input channel dst n : ℕ) where
  abbrev pub left : ℕ → List BuilderCall
  left k = patches input (channel + k) (dst + k) (n - k)

  pub left_turn : (k : ℕ) → k < n → left k ≡ step (patch_map ∷ input ∷ (channel + k) ∷ (dst + k) ∷ []) ∷ left (k + 1)
  left_turn k h =
      let a : n - k ≡ suc (n - (k + 1)) = omega arith in
      let b : suc (channel + k) ≡ channel + (k + 1) = omega arith in
      let c : suc (dst + k) ≡ dst + (k + 1) = omega arith in
      ap (patches input (channel + k) (dst + k)) a
      ∙ ap (λ (m : ℕ). step (patch_map ∷ input ∷ (channel + k) ∷ (dst + k) ∷ []) ∷ patches input m (suc (dst + k)) (n - (k + 1))) b
      ∙ ap (λ (m : ℕ). step (patch_map ∷ input ∷ (channel + k) ∷ (dst + k) ∷ []) ∷ patches input (channel + (k + 1)) m (n - (k + 1))) c

  -- so a turn leaves the same to be made
  pub left_made : (k : ℕ) → k < n → (s : BuilderState) {t u : BuilderState} → t ≡ after unit_limits s (step (patch_map ∷ input ∷ (channel + k) ∷ (dst + k) ∷ []))
      → wired s (left k) ≡ u → wired t (left (k + 1)) ≡ u
  left_made k h s e f = ap (λ (v : BuilderState). wired v (left (k + 1))) e ∙ sym (ap (wired s) (left_turn k h)) ∙ f

-- ---- the identity fold: n rows of n in the first of m places
pub take_set : {A : Type 0} (k : ℕ) (xs : List A) (j : ℕ) (x : A) → j < k → take k (set xs j x) ≡ set (take k xs) j x
take_set zero xs j x h = absurd (omega arith)
take_set (suc k) [] j x h = refl
take_set (suc k) (y ∷ ys) zero x h = refl
take_set (suc k) (y ∷ ys) (suc j) x h = ap (λ (zs : List _). y ∷ zs) (take_set k ys j x (omega arith))

-- row k, column k lies within
pub within_square : (n k : ℕ) → k < n → k * n + k < n * n
within_square n k h =
    let rows : (k + 1) * n ≤ n * n = mul-le-mul_right n (omega arith) in
    omega (arith, rows, add-mul k 1 n)

pub square_turn : (n k : ℕ) (xs : List Float) → k < n → take (n * n) xs ≡ diagonal n k → take (n * n) (set xs (k * n + k) one32) ≡ diagonal n (k + 1)
square_turn n k xs h e =
    take_set (n * n) xs (k * n + k) one32 (within_square n k h)
    ∙ ap (λ (ys : List Float). set ys (k * n + k) one32) e
    ∙ ap (diagonal n) (sym (add-one k))

pub square_below : (n : ℕ) → n ≤ 12 → n * n ≤ 144
square_below n h = mul-le-mul h h
