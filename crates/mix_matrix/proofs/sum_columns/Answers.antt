use native.Mathlib.Omega.{arith}
use borrow.Author.Rules.{rules}
use Rattle.node.specs.Rows.{gain_in}
use Rattle.mix.proofs.Rows.{columns_left, column_done, columns_done}
use Rattle.mix_matrix.proofs.sum_columns.Goals as goal

pub loop-c-init : goal.loop-c-init
loop-c-init c = let a = c.args in (search rules, search rules, columns_left a.block (gain_in a.row.node) a.row.v a.row.src.now a.area.now a.j a.m a.t.now)

pub overflow_mul-s : goal.overflow_mul-s
overflow_mul-s c = omega (arith, c.requires.sources c.loop-c.c c.loop-c-test.true)

pub overflow_add-s : goal.overflow_add-s
overflow_add-s c = omega (arith, c.requires.sources c.loop-c.c c.loop-c-test.true)

pub add_part-requires : goal.add_part-requires
add_part-requires c = record {
  part = (omega (arith, c.requires.sources c.loop-c.c c.loop-c-test.true), search rules);
  small = search rules;
}

pub loop-c-preserved : goal.loop-c-preserved
loop-c-preserved c =
    let a = c.args in
    let l = c.loop-c in (
      search rules,
      search rules,
      column_done a.block (gain_in a.row.node) a.row.v a.row.src.now a.area.now a.j a.m a.t.now l.c _ l.t _ (search rules) c.gain-g.ensures l.invariant.2 c.add_part.ensures.added,
    )

pub returns : goal.returns
returns c =
    let a = c.args in
    let l = c.loop-c in record {
      summed = columns_done a.block (gain_in a.row.node) a.row.v a.row.src.now a.area.now a.j a.m a.t.now l.c l.t (omega arith) l.invariant.2;
    }
