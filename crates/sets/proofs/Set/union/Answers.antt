-- `sets::Set::union` meets its contract. Assumes nothing.
use borrow.Author.Rules.{rules}
use Rattle.sets.proofs.Laws.{members_or}
use Rattle.sets.proofs.Set.union.Goals as goal

pub returns : goal.returns
returns c = members_or c.args.self c.args.other (search rules) (search rules)
