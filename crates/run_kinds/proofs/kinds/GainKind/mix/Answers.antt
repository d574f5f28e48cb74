-- `run_kinds::kinds::GainKind::mix` meets its contract. Assumes nothing.
use mathlib.Core.Path.{◌∙◌}
use mathlib.Core.List.{List}
use Prim.Native.Nat.{ℕ}
use Rattle.node.specs.declared.Gain.{Gain}
use Rattle.node.proofs.Areas.{rows_gains}
use Rattle.mix.specs.Mix.{gained}
use Rattle.run_kinds.proofs.Fits.{node_rows, same_call, gain_apart, used_count}
use Rattle.run_kinds.proofs.kinds.GainKind.mix.Goals as goal

pub gain-requires : goal.gain-requires
gain-requires c =
    let f = c.requires.node_fit in
    let from = c.numbers-from.ensures in
    let to = c.numbers-to.ensures in
    let r = c.rows_of-rows.ensures in record {
      buffers = gain_apart f c.requires.tested.1 from to;
      values = node_rows f _ (used_count f c.requires.tested.0 from to) r.cur r.target r.step;
    }

pub returns : goal.returns
returns c =
    let a = c.args in
    let r = c.rows_of-rows.ensures in
    c.gain.ensures
    ∙ same_call (λ (g : ℕ → Gain) (s d : List ℕ). gained a.given.now.plan.block g 0 s d a.buffers.now)
    (rows_gains a.floats.now a.words.now a.wires.node r.cur r.target r.step r.left)
    c.numbers-from.ensures c.numbers-to.ensures
