use mathlib.Core.Path.{refl}
use native.Mathlib.Omega.{arith}
use lib.ListN.{length}
use borrow.Author.Rules.{rules}
use Rattle.node.specs.Rows.{gain_in}
use Rattle.mix.proofs.Put.{ends_before}
use Rattle.mix.proofs.Given.{row_of}
use Rattle.mix.proofs.Turns.{no_row, row_made, rows_made}
use Rattle.mix_matrix.proofs.matrix.Goals as goal

pub loop-r-init : goal.loop-r-init
loop-r-init c = let a = c.args in (search rules, refl, no_row a.block (gain_in a.node) a.src.now a.dst.now a.area.now)

pub overflow_cast-d : goal.overflow_cast-d
overflow_cast-d c = omega (arith, c.type_inv.dst c.loop-r.r)

pub overflow_mul-row : goal.overflow_mul-row
overflow_mul-row c = omega (arith, ends_before {i = c.loop-r.r} {j = length c.args.dst.now} (length c.args.src.now) c.loop-r-test.true)

pub matrix_row-requires : goal.matrix_row-requires
matrix_row-requires c = let l = c.loop-r in record {
  row = row_of l.invariant.1 c.requires.buffers l.r c.loop-r-test.true;
}

pub loop-r-preserved : goal.loop-r-preserved
loop-r-preserved c =
    let a = c.args in
    let l = c.loop-r in
    (search rules, search rules, row_made a.block (gain_in a.node) a.src.now a.dst.now l.r l.area (search rules) l.invariant.2 c.matrix_row.ensures)

pub returns : goal.returns
returns c =
    let a = c.args in
    let l = c.loop-r in rows_made a.block (gain_in a.node) a.src.now a.dst.now l.r l.area (omega arith) l.invariant.2
