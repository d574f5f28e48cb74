use mathlib.Core.Path.{◌∙◌}
use native.Mathlib.Omega.{arith}
use Rattle.format_fold.proofs.Rows.{rows_turn}
use Rattle.format_fold.proofs.normalised.Goals as goal

pub loop-row-preserved : goal.loop-row-preserved
loop-row-preserved c =
    let size = c.loop-row.invariant.0 in
    let steps = c.in-Some.ensures.steps in (
      steps.0 ∙ size,
      rows_turn c.args.columns c.loop-row.most c.row_sum.result c.larger-most.result _ c.in-Some.row.now _ _
          (omega arith) steps.1.0 (steps.1.1 ∙ size) c.row_sum.ensures c.larger-most.ensures c.loop-row.invariant.1,
    )
