-- `node_areas::store` meets its contract: three rows stored one after the other are the floats of the node. Assumes nothing.
use native.Mathlib.Numerals.{towards_suc}
use native.Mathlib.Omega.{arith}
use mathlib.Core.Path.{◌≡◌}
use lib.ListN.{length, length-set}
use borrow.Author.Rules.{rules}
use Rattle.node.specs.Sizes.{max_values}
use Rattle.node.specs.Areas.{words_of}
use Rattle.node.proofs.Areas.{stored_rows}
use Rattle.node_areas.proofs.store.Goals as goal

pub bounds-words-w-2 : goal.bounds-words-w-2
bounds-words-w-2 c = simp length-set (omega arith)

pub bounds-words-w-3 : goal.bounds-words-w-3
bounds-words-w-3 c = simp length-set (omega arith)

pub bounds-words-w-4 : goal.bounds-words-w-4
bounds-words-w-4 c = simp length-set (omega arith)

pub returns : goal.returns
unfolding words_of
returns c =
    -- what owning the node tells
    let lengths : (length c.args.node.cur ≡ max_values) × (length c.args.node.target ≡ max_values) = search rules in
    let a = c.args in
    let h = lengths in record {
      floats = stored_rows a.floats.now a.n a.node c.store_row.new.floats c.store_row-2.new.floats c.store_row-3.new.floats
          h.0 h.1 c.store_row.ensures c.store_row-2.ensures c.store_row-3.ensures;
      words = simp towards_suc;
    }
