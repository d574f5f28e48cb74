-- `insert_calls::wiring::Wiring::add_out` meets its contract: its numbers are in range. Assumes nothing.
use mathlib.Core.Path.{sym}
use Prim.Native.Nat.{◌*◌}
use native.Mathlib.Omega.{arith}
use lib.Seq.{length-take-le}
use Rattle.insert_calls.proofs.Parts.{square_below}
use Rattle.insert_calls.proofs.Wired.{few}
use Rattle.insert_calls.proofs.wiring.Wiring.add_out.Goals as goal

pub slice_bounds-coefficients-end : goal.slice_bounds-coefficients-end
slice_bounds-coefficients-end c =
    let n = c.channels-n.result in
    let w = c.args.self in
    sym (length-take-le (n * n) c.identity-entries.result (omega (arith, c.identity-entries.ensures.size, square_below n (few w.before w.insert c.channels-n.ensures))))
