-- `mix_matrix::matrix_row` meets its contract: two columns by the contract of `two_into`, all others by that of `sum_row`. Assumes nothing.
use mathlib.Core.Path.{◌≡◌, refl}
use Prim.Native.Nat.{◌+◌}
use native.Mathlib.Numerals.{add-one}
use native.Mathlib.Omega.{arith}
use lib.ListN.{get_or}
use lib.Ieee.{nan, eq, ne}
use borrow.Author.Tests.{eq-eqb}
use Rattle.lists.proofs.Bools.{first_not, second_not}
use Rattle.node.specs.declared.Gain.TheVariants.{Rest}
use Rattle.node.specs.Rows.{gain_in}
use Rattle.mix.specs.Mix.{is_zero}
use Rattle.mix.proofs.Given.{pair_of}
use Rattle.mix.proofs.Rows.{two_summed}
use Rattle.mix_matrix.proofs.matrix_row.Goals as goal

pub two_into-requires : goal.two_into-requires
two_into-requires c =
    let p = c.requires in
    let n = c.if-row-eq2.true in record {
      first = pair_of refl p.row 0 (omega arith);
      then = pair_of refl p.row 1 (omega arith);
    }

pub returns-then-a-b : goal.returns-then-a-b
unfolding eq ne
returns-then-a-b c =
    let a = c.args in
    let z : a.row.node.left ≡ 0 = c.if-row-eq0.true in
    let x = get_or a.row.node.target.now a.row.v nan in
    let y = get_or a.row.node.target.now (a.row.v + 1) nan in
    let b = c.if-a-b.true in
    two_summed a.block (gain_in a.row.node) a.row.v a.row.src.now a.d a.area.now (Rest x) (Rest y) c.if-row-eq2.true c.requires.row
    (simp (eq-eqb _ _ z))
    (rw (add-one a.row.v) (simp (eq-eqb _ _ z)))
    (first_not (is_zero x) (is_zero y) b)
    (second_not (is_zero x) (is_zero y) b)
    c.two_into.ensures
