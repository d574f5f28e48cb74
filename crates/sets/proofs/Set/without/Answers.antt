-- `sets::Set::without` meets its contract. Assumes nothing.
use borrow.Author.Rules.{rules}
use Rattle.sets.proofs.Laws.{members_cleared}
use Rattle.sets.proofs.Set.without.Goals as goal

pub returns : goal.returns
returns c = members_cleared c.args.self c.args.other (search rules) (search rules)
