use Prim.Native.Nat.{◌+◌}
use mathlib.Core.Path.{sym, ap}
use native.Mathlib.Omega.{arith}
use borrow.Author.Rules.{rules}
use lib.ListN.{length}
use Rattle.sets.proofs.Words.{front_none, count_more, front_few}
use Rattle.sets.proofs.Set.count.Goals as goal

pub loop-word-init : goal.loop-word-init
loop-word-init c = sym (ap length (front_none c.args.self))

pub overflow_add-total : goal.overflow_add-total
overflow_add-total c =
    let k = c.loop-word.word-index in
    omega (arith, c.loop-word.invariant, c.loop-word-test.true, count_more c.args.self k (search rules), front_few c.args.self (k + 1))

pub loop-word-preserved : goal.loop-word-preserved
loop-word-preserved c =
    omega (arith, c.loop-word.invariant, count_more c.args.self c.loop-word.word-index (search rules))
