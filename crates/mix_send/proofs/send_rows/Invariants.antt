-- `mix_send::send_rows` meets its contract: two rows and two columns by the contract of `send_four`; in the loop the invariant is that the rows that are left make the whole. Assumes nothing.
use mathlib.Core.Path.{◌≡◌}
use Prim.Native.Nat.{◌-◌, ◌*◌, ◌≤◌}
use lib.ListN.{length, drop}
use Rattle.mix.specs.Mix.{sends}
use Rattle.mix_send.proofs.send_rows.Given as goal

abbrev pub invariant-loop-r : goal.invariant-loop-r
invariant-loop-r l = (l.r ≤ l.r-end) × (length l.area ≡ length l.initial.area) × (sends l.block l.g.gain l.rows.weights.now (l.r * length l.rows.src.now) l.rows.src.now (drop l.r l.rows.dst.now) l.area ≡ sends l.block l.g.gain l.rows.weights.now 0 l.rows.src.now l.rows.dst.now l.initial.area)

abbrev pub decreases-loop-r : goal.decreases-loop-r
decreases-loop-r l = l.r-end - l.r
