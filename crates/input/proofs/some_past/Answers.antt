use mathlib.Core.Path.{sym, ◌∙◌}
use native.Mathlib.Omega.{arith}
use borrow.Author.Tests.{lt-ltb, le-ltb}
use Rattle.lists.proofs.Scans.{above, counted_yes, counted_no, counted_end}
use Rattle.input.proofs.Input.{past_counted}
use Rattle.input.proofs.some_past.Goals as goal

pub returns-then-directory-at : goal.returns-then-directory-at
returns-then-directory-at c =
    let l = c.loop-i in
    sym (l.invariant ∙ counted_yes (past_counted _ _) (above l.i (omega arith)) (lt-ltb _ _ (omega arith)))

pub loop-i-preserved : goal.loop-i-preserved
loop-i-preserved c =
    let l = c.loop-i in
    l.invariant ∙ counted_no (past_counted _ _) (above l.i (omega arith)) (le-ltb _ _ (omega arith))

pub returns : goal.returns
returns c = sym (c.loop-i.invariant ∙ counted_end (past_counted _ _) (omega arith))
