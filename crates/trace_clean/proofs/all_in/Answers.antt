-- `trace_clean::all_in` meets its contract. Assumes nothing.
use mathlib.Core.Path.{◌≡◌}
use mathlib.Core.Bool.{true, false}
use borrow.Author.Rules.{rules}
use borrow.Author.Tests.{tests}
use Rattle.std.proofs.lemmas.Iterator.{cases_from_all, YieldsList-from_slice}
use Rattle.sets.specs.Sets.{member}
use Rattle.trace_clean.proofs.Cleaning.{all_says}
use Rattle.trace_clean.proofs.all_in.Goals as goal

pub returns : goal.returns
returns c =
    let a = c.args in
    all_says (member a.set) a.list.now c.all.result
    (cases_from_all _ _ _ (λ x. member a.set x ≡ true) (λ x. member a.set x ≡ false) c.all.ensures.ran (YieldsList-from_slice a.list.now cc)
    (λ x q k. search (rules, tests)) (λ x q k. search (rules, tests)))
