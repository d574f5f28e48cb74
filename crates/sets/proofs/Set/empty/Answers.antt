-- `sets::Set::empty` meets its contract. Assumes nothing.
use Rattle.sets.proofs.Laws.{member_empty}
use Rattle.sets.proofs.Set.empty.Goals as goal

pub returns : goal.returns
returns c = member_empty
