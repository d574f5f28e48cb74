-- `node_areas::store_row` meets its contract: the row is one part of the floats. Assumes nothing.
use Prim.Native.Nat.{◌+◌, ◌-◌}
use native.Mathlib.Omega.{arith}
use mathlib.Core.List.{◌++◌, append_assoc}
use mathlib.Core.Path.{◌≡◌, sym, ap, ◌∙◌}
use lib.ListN.{length, take, drop}
use lib.Seq.{sets-eq, drop-drop}
use borrow.Author.Rules.{rules}
use Rattle.node.specs.Sizes.{max_values}
use Rattle.node_areas.proofs.store_row.Goals as goal

pub returns : goal.returns
returns c =
    let a = c.args in
    let n : a.at + max_values - a.at ≡ max_values = omega arith in
    let h : length a.row ≡ max_values = search rules in
    rw (c.copy_from_slice.ensures.after, n, drop-drop)
    (sym (sets-eq a.row a.floats.now a.at (omega (arith, h, c.requires))
    ∙ ap (λ (k : _). take a.at a.floats.now ++ a.row ++ drop (a.at + k) a.floats.now) h
    ∙ append_assoc (take a.at a.floats.now) a.row (drop (a.at + max_values) a.floats.now)))
