-- `format_table::table::some_unknown` meets its contract. Assumes nothing.
use mathlib.Core.Path.{◌≡◌, sym, ap, ◌∙◌}
use mathlib.Core.Bool.{Bool, ◌||◌}
use mathlib.Core.List.{List, []}
use Prim.Native.Nat.{ℕ}
use native.Mathlib.Omega.{arith}
use lib.ListN.{get_or}
use lib.Seq.{take_all}
use Rattle.std.specs.List.{list_any}
use Rattle.std.specs.Simd.{first_chunks}
use Rattle.std.proofs.Common.{rules, tests}
use Rattle.std.proofs.lemmas.Iterator.{YieldsList-from_slice}
use Rattle.std.proofs.lemmas.Iterator.Search.{any_from_yields_List}
use Rattle.lists.proofs.Scans.{counted_any}
use Rattle.format.specs.Formats.{unknown_format}
use Rattle.format_table.specs.Tables.{entries, some_unknown}
use Rattle.format_table.proofs.Tables.{unknown_counted, items_long, source_is, destination_is}
use Rattle.format_table.proofs.table.some_unknown.Goals as goal

-- an entry has a format above 6
abbrev unknown : List ℕ → Bool
unknown entry = unknown_format (get_or entry 0 0) || unknown_format (get_or entry 1 0)

of_entries : (pairs : List ℕ) (items : List (List ℕ)) → items ≡ first_chunks 2 (entries pairs) pairs → list_any unknown items ≡ some_unknown pairs (entries pairs)
of_entries pairs items e =
    let long = items_long pairs items e in
    sym (ap (list_any unknown) (take_all (entries pairs) items (omega (arith, long))))
    ∙ counted_any (unknown_counted pairs) unknown items [] (entries pairs) (omega (arith, long))
    (λ i h.
    let s = source_is pairs items e i (omega (arith, long)) in
    let d = destination_is pairs items e i (omega (arith, long)) in
    cc (s, d))

pub returns : goal.returns
returns c =
    let items = c.entries-entries in
    any_from_yields_List unknown _ _ c.any.result c.any.ensures.ran (YieldsList-from_slice items.result.now cc) (λ x b q k. search (rules, tests))
    ∙ of_entries c.args.pairs.now items.result.now items.ensures
