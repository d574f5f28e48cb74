-- `mix_send::send_row` meets its contract: two sources by the contract of `send_two`; in the loop the invariant is that the sources that are left make the whole. Assumes nothing.
use mathlib.Core.Path.{◌≡◌}
use Prim.Native.Nat.{◌+◌, ◌-◌, ◌≤◌}
use lib.ListN.{length, drop}
use Rattle.mix.specs.Mix.{weighs}
use Rattle.mix_send.proofs.send_row.Given as goal

abbrev pub invariant-loop-c : goal.invariant-loop-c
invariant-loop-c l = (l.c ≤ l.c-end) × (length l.area ≡ length l.initial.area) × (weighs l.block l.g.gain l.from.weights.now (l.from.at + l.c) (drop l.c l.from.src.now) l.d l.area ≡ weighs l.block l.g.gain l.from.weights.now l.from.at l.from.src.now l.d l.initial.area)

abbrev pub decreases-loop-c : goal.decreases-loop-c
decreases-loop-c l = l.c-end - l.c
