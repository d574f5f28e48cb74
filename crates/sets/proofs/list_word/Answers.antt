use Prim.Native.Nat.{ℕ, ◌+◌, ◌-◌, ◌<◌}
use mathlib.Core.Path.{◌≡◌, refl, sym, ap, ◌∙◌}
use mathlib.Core.List.{List, [], ◌∷◌}
use native.Mathlib.Numerals.{add-one}
use native.Mathlib.Omega.{arith}
use lib.Bits.{bit_and, and_le_r}
use lib.Count.{count_trailing_zeros, trailing_le}
use lib.ListN.{length, set}
use lib.Seq.{sets, length-sets}
use Rattle.sets.specs.Sets.{places}
use Rattle.sets.proofs.Bits.{places_zero, places_next}
use Rattle.sets.proofs.list_word.Goals.{In-loop-rest}
use Rattle.sets.proofs.list_word.Goals as goal

-- the area keeps its length
kept : (out old xs ys : List ℕ) (n at : ℕ) → sets out n xs ≡ sets old at ys → length out ≡ length old
kept out old xs ys n at e = sym (length-sets out n xs) ∙ ap length e ∙ length-sets old at ys

-- the lowest bit of what is left, and what is left without it
next : (c : In-loop-rest)
    → places c.args.base 64 c.loop-rest.rest
    ≡ (c.args.base + count_trailing_zeros 64 c.loop-rest.rest) ∷ places c.args.base 64 (bit_and c.loop-rest.rest (c.loop-rest.rest - 1))
next c = places_next c.args.base 64 c.loop-rest.rest c.loop-rest.invariant.0 (omega (arith, c.loop-rest-test.true))

-- there is a place for it
room : (c : In-loop-rest) → c.loop-rest.n < length c.loop-rest.out
room c = omega (arith, c.loop-rest.auto.out, ap length (next c), c.loop-rest.invariant.1, c.requires.1)

pub loop-rest-init : goal.loop-rest-init
loop-rest-init c = (omega arith, refl, refl)

pub overflow_cast-out : goal.overflow_cast-out
overflow_cast-out c = omega (arith, trailing_le 64 c.loop-rest.rest)

pub overflow_add-out : goal.overflow_add-out
overflow_add-out c = omega (arith, trailing_le 64 c.loop-rest.rest)

pub offset_bounds-out-n : goal.offset_bounds-out-n
offset_bounds-out-n c = omega (arith, room (goal.at.offset_bounds-out-n c).In-loop-rest)

pub bounds-out-n : goal.bounds-out-n
bounds-out-n c = room (goal.at.bounds-out-n c).In-loop-rest

pub overflow_add-n : goal.overflow_add-n
overflow_add-n c = omega (arith, room (goal.at.overflow_add-n c).In-loop-rest)

pub loop-rest-smaller : goal.loop-rest-smaller
loop-rest-smaller c = omega (arith, and_le_r c.loop-rest.rest (c.loop-rest.rest - 1))

pub loop-rest-preserved : goal.loop-rest-preserved
loop-rest-preserved c =
    let a = c.args in
    let h = c.loop-rest in
    let e = next (goal.at.loop-rest-preserved c).In-loop-rest in
    let rest = bit_and h.rest (h.rest - 1) in (
      omega (arith, and_le_r h.rest (h.rest - 1)),
      omega (arith, ap length e),
      ap (λ (k : ℕ). sets (set h.out h.n (a.base + count_trailing_zeros 64 h.rest)) k (places a.base 64 rest)) (add-one h.n)
          ∙ ap (sets h.out h.n) (sym e)
          ∙ h.invariant.2,
    )

pub shape_of-out : goal.shape_of-out
shape_of-out c = let a = c.args in kept c.loop-rest.out a.out.now (places a.base 64 c.loop-rest.rest) (places a.base 64 a.word) c.loop-rest.n a.at c.loop-rest.invariant.2

pub returns : goal.returns
returns c =
    let a = c.args in
    let h = c.loop-rest in
    let e : h.rest ≡ 0 = omega arith in
    let none : places a.base 64 h.rest ≡ [] = ap (places a.base 64) e ∙ places_zero a.base 64 in
    (omega (arith, ap length none), ap (sets h.out h.n) (sym none) ∙ h.invariant.2)
