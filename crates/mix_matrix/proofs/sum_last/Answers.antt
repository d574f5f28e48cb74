use mathlib.Core.Path.{◌≡◌, refl, ◌∙◌}
use native.Mathlib.Omega.{arith}
use borrow.Author.Rules.{rules}
use Rattle.node.specs.Rows.{gain_in}
use Rattle.mix.proofs.Rows.{no_sample, row_sample_lem}
use Rattle.mix_matrix.proofs.sum_last.Goals as goal

pub loop-j-init : goal.loop-j-init
loop-j-init c =
    let a = c.args in
    (search rules, c.requires.rest, refl, no_sample a.block (gain_in a.row.node) a.row.v a.row.src.now a.d a.area.now c.requires.row a.r)

pub sum_piece-requires : goal.sum_piece-requires
sum_piece-requires c =
    let l = c.loop-j in
    let p = c.requires in record {
      piece = (omega arith, p.row.small, omega arith);
      target = omega (arith, p.row.target);
      sources = λ i h. omega (arith, p.row.sources i h);
    }

pub loop-j-preserved : goal.loop-j-preserved
loop-j-preserved c =
    let a = c.args in
    let l = c.loop-j in (
      omega arith,
      search rules,
      c.sum_piece.auto.area ∙ l.invariant.2,
      row_sample_lem a.block (gain_in a.row.node) a.row.v a.row.src.now a.d a.area.now c.requires.row a.r l.j l.invariant.0 c.loop-j-test.true l.invariant.3 c.sum_piece.ensures,
    )

pub returns : goal.returns
returns c =
    let a = c.args in
    let e : c.loop-j.j ≡ a.block = omega arith in
    rw e at c.loop-j.invariant.3
