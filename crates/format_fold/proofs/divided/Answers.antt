use mathlib.Core.Path.{◌≡◌, ap, ◌∙◌}
use mathlib.Core.List.{List}
use Prim.Native.Nat.{◌<◌, ◌≤◌}
use native.Mathlib.Omega.{arith}
use borrow.Author.Rules.{rules}
use lib.ListN.{length, get_or, set}
use lib.Ieee.{Float, nan, binary64, div}
use Rattle.lists.proofs.Filled.{filled, filled_next, filled_more}
use Rattle.format_fold.proofs.divided.Goals as goal

pub loop-x-preserved : goal.loop-x-preserved
loop-x-preserved c =
    -- the matrix has 144 entries
    let full : length c.args.m.now.entries ≡ 144 = search rules in
    let xs = c.args.m.now.entries in
    let i = c.loop-x.x-index in
    let f : Float → Float = λ x. div binary64 x c.args.by in
    let n : i < length xs = omega (arith, full) in
    let k : i ≤ length xs = omega arith in
    ap (λ (l : List Float). set l i (f (get_or l i nan))) c.loop-x.invariant
    ∙ ap (λ (x : Float). set (filled f xs i xs) i (f x)) (filled_next f xs i xs nan k n)
    ∙ filled_more f xs i xs nan n n
