use mathlib.Core.Path.{◌≡◌, refl, ◌∙◌}
use Prim.Native.Nat.{◌+◌, ◌-◌, ◌*◌, ◌/◌}
use native.Mathlib.Omega.{arith}
use borrow.Author.Rules.{rules}
use Rattle.node.specs.Rows.{gain_in}
use Rattle.mix.specs.Loops.{whole_piece}
use Rattle.mix.proofs.Given.{row_kept}
use Rattle.mix.proofs.Rows.{row_start, row_piece, row_whole_piece, row_done}
use Rattle.mix_matrix.proofs.sum_row.Goals as goal

pub loop-i-init : goal.loop-i-init
loop-i-init c = let a = c.args in (search rules, refl, row_start a.block (gain_in a.row.node) a.row.v a.row.src.now a.d a.area.now c.requires.row)

pub sum_piece-requires : goal.sum_piece-requires
sum_piece-requires c =
    let l = c.loop-i in
    let p = c.requires in record {
      piece = (omega arith, search rules, omega arith);
      target = omega (arith, p.row.target);
      sources = λ j h. omega (arith, p.row.sources j h);
    }

pub loop-i-preserved : goal.loop-i-preserved
loop-i-preserved c =
    let a = c.args in
    let l = c.loop-i in (
      search rules,
      c.sum_piece.auto.area ∙ l.invariant.1,
      row_whole_piece a.block (gain_in a.row.node) a.row.v a.row.src.now a.d a.area.now c.requires.row l.i (omega arith) l.invariant.2 c.sum_piece.ensures,
    )

pub returns-then-r-block : goal.returns-then-r-block
returns-then-r-block c =
    let a = c.args in
    let l = c.loop-i in row_done a.block (gain_in a.row.node) a.row.v a.row.src.now a.d a.area.now c.requires.row (whole_piece * l.i) (omega arith) l.invariant.2

pub sum_last-requires : goal.sum_last-requires
sum_last-requires c = let p = c.requires in record {
  row = row_kept c.loop-i.invariant.1 p.row;
  rest = omega arith;
}

pub returns : goal.returns
returns c =
    let a = c.args in
    let l = c.loop-i in
    let p = c.requires.row in
    let n = a.block / whole_piece in
    let e : l.i ≡ n = omega arith in
    row_done a.block (gain_in a.row.node) a.row.v a.row.src.now a.d a.area.now p (whole_piece * n + (a.block - whole_piece * n)) (omega arith)
    (row_piece a.block (gain_in a.row.node) a.row.v a.row.src.now a.d a.area.now p (whole_piece * n) (a.block - whole_piece * n) (omega arith) (rw e at l.invariant.2) c.sum_last.ensures)
