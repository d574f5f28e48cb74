-- The bits of a word: of 0, of a power, of `|` of two words, of a word without those of another; the bits that are 1, counted, and listed from the lowest, which is cleared.
-- Assumes nothing.
use Prim.Native.Nat.{ℕ, zero, suc, ◌+◌, ◌-◌, ◌*◌, ◌/◌, ◌%◌, ◌^◌, ◌<◌, min, max}
use mathlib.Core.Path.{◌≡◌, refl, sym, ap, ◌∙◌}
use mathlib.Core.Bool.{Bool, false, not, ◌&&◌, ◌||◌}
use mathlib.Core.List.{[], ◌∷◌}
use native.Mathlib.Nat.{div-one, zero-div, div-div-eq-div-mul, pow-succ', pow-suc, mul-mod_left, mul-div_cancel, zero-add, add-zero, add-suc, suc-add}
use native.Mathlib.Numerals.{one-add}
use native.Mathlib.Omega.{arith}
use lib.Dec.{eqb, eqb-zero-suc, eqb-suc-zero, eqb-suc-suc}
use lib.Arith.{lt-one}
use lib.Bits.{bit_and, bit_or, bit_xor, differ, and_shr, or_shr, xor_shr, and_step, or_step, xor_step, and_self}
use lib.Count.{ones, ones_step, count_trailing_zeros}
use lib.ListN.{length}
use Rattle.sets.specs.Sets.{bit, sift, places}

bit_low : (w : ℕ) → bit w 0 ≡ eqb (w % 2) 1
bit_low w = ap (λ (x : ℕ). eqb (x % 2) 1) (div-one w)

bit_suc : (w i : ℕ) → bit w (suc i) ≡ bit (w / 2) i
bit_suc w i = ap (λ (x : ℕ). eqb (x % 2) 1) (ap (λ (x : ℕ). w / x) (pow-succ' 2 i) ∙ sym (div-div-eq-div-mul w 2 (2 ^ i)))

pub bit_zero : (i : ℕ) → bit 0 i ≡ false
bit_zero i = ap (λ (x : ℕ). eqb (x % 2) 1) (zero-div (2 ^ i))

pub bit_power : (m i : ℕ) → bit (2 ^ m) i ≡ eqb i m
bit_power zero zero = refl
bit_power zero (suc i) = bit_suc 1 i ∙ bit_zero i ∙ sym (eqb-suc-zero i)
bit_power (suc m) zero = bit_low (2 ^ suc m) ∙ ap (λ (x : ℕ). eqb (x % 2) 1) (pow-suc 2 m) ∙ ap (λ (x : ℕ). eqb x 1) (mul-mod_left (2 ^ m) 2) ∙ sym (eqb-zero-suc m)
bit_power (suc m) (suc i) =
    bit_suc (2 ^ suc m) i ∙ ap (λ (x : ℕ). bit x i) (ap (λ (x : ℕ). x / 2) (pow-suc 2 m) ∙ mul-div_cancel (2 ^ m) (omega arith)) ∙ bit_power m i
    ∙ sym (eqb-suc-suc i m)

-- ---- an operation on two words that goes digit by digit, by what it does with two digits
digit : (P : ℕ → Type 0) → P 0 → P 1 → (d : ℕ) → d < 2 → P d
digit P z o zero h = z
digit P z o (suc zero) h = o
digit P z o (suc (suc d)) h = absurd (omega arith)

two_digits : (P : ℕ → ℕ → Type 0) → P 0 0 → P 0 1 → P 1 0 → P 1 1 → (x : ℕ) → x < 2 → (y : ℕ) → y < 2 → P x y
two_digits P a b c d = digit (λ x. (y : ℕ) → y < 2 → P x y) (digit (P 0) a b) (digit (P 1) c d)

by_digits : (f d : ℕ → ℕ → ℕ) (g : Bool → Bool → Bool) → ((x y i : ℕ) → f x y / 2 ^ i ≡ f (x / 2 ^ i) (y / 2 ^ i))
    → ((x y : ℕ) → f x y % 2 ≡ d (x % 2) (y % 2)) → ((x : ℕ) → x < 2 → (y : ℕ) → y < 2 → eqb (d x y) 1 ≡ g (eqb x 1) (eqb y 1))
    → (x y i : ℕ) → bit (f x y) i ≡ g (bit x i) (bit y i)
by_digits f d g shift odd digits x y i =
    ap (λ (w : ℕ). eqb (w % 2) 1) (shift x y i)
    ∙ ap (λ (w : ℕ). eqb w 1) (odd (x / 2 ^ i) (y / 2 ^ i))
    ∙ digits (x / 2 ^ i % 2) (omega arith) (y / 2 ^ i % 2) (omega arith)

-- ---- `|` of two words
or_odd : (x y : ℕ) → bit_or x y % 2 ≡ max (x % 2) (y % 2)
or_odd x y = ap (λ (w : ℕ). w % 2) (or_step x y) ∙ omega arith

pub bit_or_lem : (x y i : ℕ) → bit (bit_or x y) i ≡ (bit x i || bit y i)
bit_or_lem = by_digits bit_or max ◌||◌ or_shr or_odd (two_digits (λ x y. eqb (max x y) 1 ≡ (eqb x 1 || eqb y 1)) refl refl refl refl)

-- ---- a word without the bits of another
abbrev pub cleared : ℕ → ℕ → ℕ
cleared x y = bit_xor x (bit_and x y)

abbrev cleared_digit : ℕ → ℕ → ℕ
cleared_digit x y = differ x (min x y)

cleared_shr : (x y i : ℕ) → cleared x y / 2 ^ i ≡ cleared (x / 2 ^ i) (y / 2 ^ i)
cleared_shr x y i = xor_shr x (bit_and x y) i ∙ ap (bit_xor (x / 2 ^ i)) (and_shr x y i)

and_odd : (x y : ℕ) → bit_and x y % 2 ≡ min (x % 2) (y % 2)
and_odd x y = ap (λ (w : ℕ). w % 2) (and_step x y) ∙ omega arith

cleared_odd : (x y : ℕ) → cleared x y % 2 ≡ cleared_digit (x % 2) (y % 2)
cleared_odd x y =
    let low : cleared_digit (x % 2) (y % 2) < 2 =
    two_digits (λ x y. cleared_digit x y < 2) (omega arith) (omega arith) (omega arith) (omega arith) (x % 2) (omega arith) (y % 2) (omega arith) in
    ap (λ (w : ℕ). w % 2)
    (xor_step x (bit_and x y) ∙ ap (λ (w : ℕ). bit_xor (x / 2) (bit_and x y / 2) * 2 + differ (x % 2) w) (and_odd x y))
    ∙ omega (arith, low)

pub bit_cleared : (x y i : ℕ) → bit (cleared x y) i ≡ (bit x i && not (bit y i))
bit_cleared =
    by_digits cleared cleared_digit (λ p q. p && not q) cleared_shr cleared_odd
    (two_digits (λ x y. eqb (cleared_digit x y) 1 ≡ (eqb x 1 && not (eqb y 1))) refl refl refl refl)

-- ---- the places of the bits that are 1
half_below : (w n : ℕ) → w < 2 ^ suc n → w / 2 < 2 ^ n
half_below w n h = let g : w < 2 ^ n * 2 = rw pow-suc at h in omega arith

module _ (base n w : ℕ) where
  places_even : w % 2 ≡ 0 → places base (suc n) w ≡ places (suc base) n (w / 2)
  unfolding places
  places_even e = rw e

  places_odd : w % 2 ≡ 1 → places base (suc n) w ≡ base ∷ places (suc base) n (w / 2)
  unfolding places
  places_odd e = rw e

-- they are those of the numbers from base on that pass a test, where the test reads the bits
pub sift_places : (p : ℕ → Bool) (base n w : ℕ) → ((i : ℕ) → i < n → p (base + i) ≡ bit w i) → sift p base n ≡ places base n w
unfolding sift places
sift_places p base zero w h = refl
sift_places p base (suc n) w h =
    let low : p base ≡ eqb (w % 2) 1 = ap p (sym (add-zero base)) ∙ h 0 (omega arith) ∙ bit_low w in
    let rest : sift p (suc base) n ≡ places (suc base) n (w / 2) =
    sift_places p (suc base) n (w / 2)
    (λ i g. ap p (suc-add base i ∙ sym (add-suc base i)) ∙ h (suc i) (omega arith) ∙ bit_suc w i) in
    rw (low, rest)

pub length_places : (base n w : ℕ) → w < 2 ^ n → length (places base n w) ≡ ones w
unfolding places ones
length_places base zero w h = sym (ap ones (lt-one h))
length_places base (suc n) w h =
    let ih = length_places (suc base) n (w / 2) (half_below w n h) in
    digit (λ d. w % 2 ≡ d → length (places base (suc n) w) ≡ ones w)
    (λ e. ap length (places_even base n w e) ∙ ih ∙ sym (ones_step w ∙ rw (e, zero-add)))
    (λ e. ap length (places_odd base n w e) ∙ ap suc ih ∙ sym (ones_step w ∙ rw (e, one-add)))
    (w % 2)
    (omega arith)
    refl

pub places_zero : (base n : ℕ) → places base n 0 ≡ []
unfolding places
places_zero base zero = refl
places_zero base (suc n) = places_zero (suc base) n

-- ---- the lowest bit that is 1: its place, and the word without it
clear_odd : (w : ℕ) → w % 2 ≡ 1 → bit_and w (w - 1) ≡ w / 2 * 2
clear_odd w e =
    let half : (w - 1) / 2 ≡ w / 2 = omega arith in
    let low : (w - 1) % 2 ≡ 0 = omega arith in
    and_step w (w - 1) ∙ rw (half, low, and_self, e, add-zero)

clear_even : (w : ℕ) → w % 2 ≡ 0 → 0 < w → bit_and w (w - 1) ≡ bit_and (w / 2) (w / 2 - 1) * 2
clear_even w e p =
    let half : (w - 1) / 2 ≡ w / 2 - 1 = omega arith in
    let low : (w - 1) % 2 ≡ 1 = omega arith in
    and_step w (w - 1) ∙ rw (half, low, e, add-zero)

places_double : (base n w : ℕ) → places base (suc n) (w * 2) ≡ places (suc base) n w
places_double base n w = places_even base n (w * 2) (omega arith) ∙ ap (places (suc base) n) (mul-div_cancel w (omega arith))

pub places_next : (base n w : ℕ) → w < 2 ^ n → 0 < w → places base n w ≡ (base + count_trailing_zeros n w) ∷ places base n (bit_and w (w - 1))
unfolding count_trailing_zeros
places_next base zero w h p = absurd (omega (arith, lt-one h))
places_next base (suc n) w h p =
    let ih = places_next (suc base) n (w / 2) (half_below w n h) in
    digit (λ d. w % 2 ≡ d → places base (suc n) w ≡ (base + count_trailing_zeros (suc n) w) ∷ places base (suc n) (bit_and w (w - 1)))
    (λ e. rw (places_even base n w e, clear_even w e p, places_double, e, ih (omega arith), add-suc, suc-add))
    (λ e. rw (places_odd base n w e, clear_odd w e, places_double, e, add-zero))
    (w % 2)
    (omega arith)
    refl
