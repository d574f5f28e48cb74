-- `format_fold::mapping` meets its contract: the loop's invariant: what is left of the labels leads to the definition's matrix. Assumes nothing.
use mathlib.Core.Path.{◌≡◌}
use lib.ListN.{drop}
use Rattle.format_fold.specs.Folds.{folded_each, matrix_of}
use Rattle.format_fold.proofs.mapping.Given as goal

abbrev pub invariant-loop-s : goal.invariant-loop-s
invariant-loop-s l = folded_each l.gains l.dst l.columns l.s (drop l.s l.label-items) l.m.entries ≡ matrix_of l.src l.dst l.gains
