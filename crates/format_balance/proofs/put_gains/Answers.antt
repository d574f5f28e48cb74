use mathlib.Core.Path.{◌≡◌, ap, ◌∙◌}
use mathlib.Core.List.{List}
use Prim.Native.Nat.{◌<◌}
use native.Mathlib.Omega.{arith}
use lib.Ieee.{Float}
use lib.ListN.{length, get_or, set}
use Rattle.lists.proofs.Filled.{filled, filled_more}
use Rattle.format.specs.Formats.{channels}
use Rattle.format_balance.proofs.put_gains.Invariants.{gain}
use Rattle.format_balance.proofs.put_gains.Goals as goal

pub loop-c-preserved : goal.loop-c-preserved
unfolding channels
loop-c-preserved c =
    let f = gain c.args.left c.args.right in
    let items = c.labels-label-items.result.now in
    let v : c.of_side.result ≡ f (get_or items c.loop-c.c 0) = cc in
    let room : c.loop-c.c < length c.args.out.now = omega (arith, ap length c.labels-label-items.ensures) in
    ap (λ (l : List Float). set l c.loop-c.c c.of_side.result) c.loop-c.invariant
    ∙ ap (set (filled f items c.loop-c.c c.args.out.now) c.loop-c.c) v
    ∙ filled_more f items c.loop-c.c c.args.out.now 0 c.loop-c-test.true room
