-- `sets::Set::has` meets its contract. Assumes nothing.
use Prim.Native.Nat.{ℕ, ◌%◌}
use mathlib.Core.Path.{ap}
use Rattle.sets.specs.Sets.{bit, member}
use Rattle.sets.proofs.Set.has.Goals as goal

pub returns : goal.returns
unfolding member
returns c = ap (λ (w : ℕ). bit w (c.args.i % 64)) c.word.ensures
