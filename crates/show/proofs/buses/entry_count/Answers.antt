-- `show::buses::entry_count` meets its contract: a format has at most 12 channels. Assumes nothing.
use Prim.Native.Nat.{ℕ, ◌*◌, ◌≤◌}
use mathlib.Core.Path.{◌≡◌}
use native.Mathlib.Nat.{mul-le-mul_left, le_trans}
use native.Mathlib.Omega.{arith}
use Rattle.format.specs.Formats.{channels}
use Rattle.format.proofs.Labels.{channels_le}
use Rattle.show.proofs.buses.entry_count.Goals as goal

entries : (f g a b : ℕ) → a ≡ channels f → b ≡ channels g → a * b ≤ 144
entries f g a b ha hb =
    let b_le : b ≤ 12 = omega (arith, hb, channels_le g) in
    let a_le : a ≤ 12 = omega (arith, ha, channels_le f) in
    le_trans (mul-le-mul_left a b_le) (omega (arith, a_le))

pub overflow_mul-result : goal.overflow_mul-result
overflow_mul-result c = omega (arith, entries c.args.dst c.args.src _ _ c.channels.ensures c.channels-2.ensures)

pub returns : goal.returns
returns c = entries c.args.dst c.args.src _ _ c.channels.ensures c.channels-2.ensures
