-- `setting::set_node` meets its contract. Assumes nothing.
use mathlib.Core.Path.{◌∙◌}
use Rattle.setting.proofs.Setting.{settable, found_room, node_good, floats_stored, words_stored}
use Rattle.setting.proofs.set_node.Goals as goal

pub node_of-n-requires : goal.node_of-n-requires
node_of-n-requires c = (settable _ _ _ _ _ c.requires).words_room

pub load-node-requires : goal.load-node-requires
load-node-requires c = found_room c.args.node_floats.now (settable _ _ _ _ _ c.requires) c.node_of-n.ensures

pub set-requires : goal.set-requires
set-requires c =
    let f = settable _ _ _ _ _ c.requires in
    (rw (c.load-node.ensures, c.node_of-n.ensures) (node_good c.args.node_floats.now f).len, f.ramp_short)

pub store-requires : goal.store-requires
store-requires c = found_room c.args.node_floats.now (settable _ _ _ _ _ c.requires) c.node_of-n.ensures

pub returns : goal.returns
returns c =
    let a = c.args in
    let t = c.store.ensures in
    let n = c.node_of-n.ensures in
    let l = c.load-node.ensures in
    let k = c.set.ensures in record {
      floats = t.floats ∙ floats_stored a.nodes a.id a.values.now a.ramp a.node_floats.now a.node_words.now c.requires n l k;
      words = t.words ∙ words_stored a.nodes a.id a.values.now a.ramp a.node_floats.now a.node_words.now c.requires n l k;
    }
