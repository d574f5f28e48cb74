-- `rounding::magnitude` meets its contract: each way out is the case of `pattern` that its tests lead to. Assumes nothing.
use mathlib.Core.Path.{◌≡◌, sym, ap, ◌∙◌}
use Prim.Native.Nat.{ℕ, ◌+◌, ◌-◌, ◌*◌, ◌/◌, ◌%◌, ◌^◌, ◌≤◌}
use native.Mathlib.Nat.{one-mul}
use native.Mathlib.Omega.{arith}
use lib.Dec.{lit<}
use lib.Pow.{pow_pos, pow_mono, shl_exact}
use lib.Ieee.Nearest.{closest}
use Rattle.rounding.proofs.Pattern.{pattern_low}
use Rattle.rounding.proofs.magnitude.Goals as goal

-- 1 << d
shifted : (d : ℕ) → 1 + d ≤ 64 → 1 * 2 ^ d % 2 ^ 64 ≡ 2 ^ d
shifted d h = shl_exact 1 d 64 (lit< tt) h ∙ one-mul (2 ^ d)

pub nearest-requires : goal.nearest-requires
nearest-requires c =
    let d = 926 - c.args.a / 2 ^ 52 in
    let k : d ≤ 53 = omega arith in
    let e = shifted d (omega arith) in
    (omega arith, rw e (pow_pos d), rw e (pow_mono k))

pub returns-then-field-lt897 : goal.returns-then-field-lt897
returns-then-field-lt897 c =
    let a = c.args.a in
    c.nearest.ensures
    ∙ ap (closest (2 ^ 52 + a % 2 ^ 52)) (shifted (926 - a / 2 ^ 52) (omega arith))
    ∙ sym (pattern_low _ _ c.if-field-lt873.false c.if-field-lt897.true)
