-- `plan_steps::lists_meet` meets its contract: `any` asks of each entry whether it is in the set. Assumes nothing.
use mathlib.Core.Path.{◌∙◌}
use borrow.Author.Rules.{rules}
use Rattle.std.proofs.lemmas.Iterator.{YieldsList-from_slice}
use Rattle.std.proofs.lemmas.Iterator.Search.{any_from_yields_List}
use Rattle.lists.specs.Entries.{has}
use Rattle.lists.proofs.Scans.{meet_listed}
use Rattle.plan.proofs.Searches.{any_listed}
use Rattle.plan_steps.proofs.lists_meet.Goals as goal

pub returns : goal.returns
returns c =
    any_from_yields_List (has c.args.ys.now) _ _ _ c.any.ensures.ran (YieldsList-from_slice c.args.xs.now cc) (λ x b q k. search (rules, c.set_of-set.ensures x.now))
    ∙ any_listed (meet_listed c.args.ys.now) c.args.xs.now
