-- `signals::inputs::signal` meets its contract. Assumes nothing.
use Rattle.signals.specs.Signals.{signal}
use Rattle.signals.proofs.Laws.{product_lt}
use borrow.Author.Rules.{rules}
use Rattle.signals.proofs.inputs.signal.Goals as goal

pub overflow_mul-phase : goal.overflow_mul-phase
overflow_mul-phase c = record { fits = product_lt 32 c.args.pitch c.args.k (search rules) (search rules) }

pub returns : goal.returns
unfolding signal
returns c = rw c.triangle-height.ensures.0
