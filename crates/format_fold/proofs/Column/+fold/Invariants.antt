-- `format_fold::Column::fold`: the measure is the label's rank in the destination. Assumes nothing.
use Rattle.format_fold.specs.Folds.{rank}
use Rattle.format_fold.proofs.Column.+fold.Given as goal

abbrev pub decreases-fold : goal.decreases-fold
decreases-fold l = rank l.self.dst l.label
