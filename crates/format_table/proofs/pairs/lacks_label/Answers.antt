-- `format_table::pairs::lacks_label` meets its contract. Assumes nothing.
use mathlib.Core.Path.{refl, sym, ap, ◌∙◌}
use mathlib.Core.Bool.{Bool, not, ◌||◌}
use Prim.Native.Nat.{ℕ}
use Rattle.std.specs.List.{list_any}
use Rattle.std.proofs.Common.{rules, tests}
use Rattle.std.proofs.lemmas.Iterator.{YieldsList-from_slice}
use Rattle.std.proofs.lemmas.Iterator.Search.{any_from_yields_List}
use Rattle.std.proofs.lemmas.List.Recursion.{same_from_clauses}
use Rattle.format.specs.Formats.{has}
use Rattle.format_table.specs.Covered.{lacks}
use Rattle.format_table.proofs.Covered.{lacks_listed}
use Rattle.format_table.proofs.pairs.lacks_label.Goals as goal

pub returns : goal.returns
returns c =
    let d = c.args.dst in
    let labels = c.labels.result.now in
    any_from_yields_List (λ l. not (has d l)) _ _ c.any.result c.any.ensures.ran (YieldsList-from_slice labels cc) (λ x b q k. search (rules, tests))
    ∙ same_from_clauses (list_any (λ l. not (has d l))) (lacks d) (λ (l : ℕ) (b : Bool). not (has d l) || b) (sym (lacks_listed d).none) (λ l ls. refl) (lacks_listed d).more labels
    ∙ ap (lacks d) c.labels.ensures
