-- `plan_areas::some_from` meets its contract: `any` asks of each entry whether it is n or above. Assumes nothing.
use mathlib.Core.Path.{◌∙◌}
use borrow.Author.Rules.{rules}
use borrow.Author.Tests.{tests}
use lib.Dec.{leb}
use Rattle.std.proofs.lemmas.Iterator.{YieldsList-from_slice}
use Rattle.std.proofs.lemmas.Iterator.Search.{any_from_yields_List}
use Rattle.lists.proofs.Scans.{some_listed}
use Rattle.plan.proofs.Searches.{any_listed}
use Rattle.plan_areas.proofs.some_from.Goals as goal

pub returns : goal.returns
returns c =
    any_from_yields_List (leb c.args.n) _ _ _ c.any.ensures.ran (YieldsList-from_slice c.args.entries.now cc) (λ x b q k. search (rules, tests))
    ∙ any_listed (some_listed c.args.n) c.args.entries.now
