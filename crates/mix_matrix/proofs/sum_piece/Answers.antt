-- `mix_matrix::sum_piece` meets its contract: the sum is in the local, which is stored. Assumes nothing.
use Prim.Native.Nat.{ℕ, ◌+◌, ◌*◌}
use lib.Ieee.{Float}
use borrow.Author.Rules.{rules}
use Rattle.node.specs.Nodes.{silence}
use Rattle.node.specs.Rows.{gain_in}
use Rattle.mix.specs.Loops.{row_sample}
use Rattle.mix.proofs.Mixed.{samples_stored}
use Rattle.mix.proofs.Rows.{from_silence}
use Rattle.mix_matrix.proofs.sum_piece.Goals as goal

pub sum_columns-requires : goal.sum_columns-requires
sum_columns-requires c = let p = c.requires in record {
  piece = p.piece;
  sources = p.sources;
}

pub returns : goal.returns
returns c =
    let a = c.args in
    let f : ℕ → Float → Float = λ k. row_sample a.block (gain_in a.row.node) a.row.v a.row.src.now a.area.now (a.j + k) in
    samples_stored (λ k. f k silence) a.area.now (a.d * a.block + a.j) a.m c.store.ensures
    (from_silence f a.m (search rules) c.sum_columns.ensures.summed)
