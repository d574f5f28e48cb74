-- `node_areas::end_block` meets its contract: at rest, on a ramp that goes on, and on one that ends. Assumes nothing.
use mathlib.Core.Path.{ap, ◌∙◌}
use native.Mathlib.Omega.{arith}
use Rattle.node.specs.declared.Node.{Node}
use Rattle.node.specs.Nodes.{finish_block}
use Rattle.node.specs.Areas.{node_at, stored_floats, stored_words}
use Rattle.node_areas.proofs.Rest.{rest_floats, rest_words, on_floats, on_words}
use Rattle.node_areas.proofs.end_block.Goals as goal

pub returns-then-left-eq0 : goal.returns-then-left-eq0
returns-then-left-eq0 c =
    let a = c.args in record {
      floats = rest_floats a.floats.now a.words.now a.n c.requires.0 a.block c.if-left-eq0.true;
      words = rest_words a.floats.now a.words.now a.n c.requires.0 a.block c.if-left-eq0.true;
    }

pub returns-then-left-m : goal.returns-then-left-m
returns-then-left-m c =
    let a = c.args in
    let more = c.if-left-m.true in record {
      floats = c.advance.ensures ∙ on_floats a.floats.now a.words.now a.n c.requires.0 a.block more;
      words = on_words a.floats.now a.words.now a.n c.requires.0 a.block more;
    }

pub finish_block-requires : goal.finish_block-requires
unfolding node_at
finish_block-requires c = (rw c.load-node.ensures c.requires.1, omega (arith, c.requires.2))

pub returns : goal.returns
returns c =
    let a = c.args in
    let e = c.finish_block.ensures ∙ ap (λ (m : Node). finish_block m a.block) c.load-node.ensures in
    let s = c.store.ensures in record {
      floats = s.floats ∙ ap (stored_floats a.floats.now a.n) e;
      words = s.words ∙ ap (stored_words a.words.now a.n) e;
    }
