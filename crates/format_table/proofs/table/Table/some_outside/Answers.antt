-- `format_table::table::Table::some_outside` meets its contract. Assumes nothing.
use mathlib.Core.Path.{refl, ◌∙◌}
use mathlib.Core.Bool.{not}
use lib.Ieee.{nan}
use lib.ListN.{take}
use Rattle.std.proofs.Common.{rules, tests}
use Rattle.std.proofs.lemmas.Iterator.{YieldsList-from_slice}
use Rattle.std.proofs.lemmas.Iterator.Search.{any_from_yields_List}
use Rattle.lists.proofs.Scans.{counted_any}
use Rattle.format_fold.specs.Folds.{gain_in_range}
use Rattle.format_table.proofs.Tables.{outside_counted}
use Rattle.format_table.proofs.table.Table.some_outside.Goals as goal

pub returns : goal.returns
returns c =
    let gains = c.args.self.gains.now in
    any_from_yields_List (λ x. not (gain_in_range x)) _ _ c.any.result c.any.ensures.ran (YieldsList-from_slice (take c.args.n gains) cc) (λ x b q k. search (rules, tests))
    ∙ counted_any (outside_counted gains) (λ x. not (gain_in_range x)) gains nan c.args.n c.requires (λ i h. refl)
