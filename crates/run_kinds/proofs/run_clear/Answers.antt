-- `run_kinds::run_clear` meets its contract. Assumes nothing.
use mathlib.Core.Path.{ap, ◌∙◌}
use mathlib.Core.List.{List}
use Prim.Native.Nat.{ℕ}
use Rattle.mix.specs.Mix.{cleared}
use Rattle.run_kinds.proofs.Fits.{span_inside}
use Rattle.run_kinds.proofs.run_clear.Goals as goal

pub clear-requires : goal.clear-requires
clear-requires c = span_inside c.args.plan c.args.indices.now c.args.buffers.now c.requires.1 c.args.dst c.requires.0 c.numbers.ensures

pub returns : goal.returns
returns c = let a = c.args in c.clear.ensures ∙ ap (λ (l : List ℕ). cleared a.plan.block l a.buffers.now) c.numbers.ensures
