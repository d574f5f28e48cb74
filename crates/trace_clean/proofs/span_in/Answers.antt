-- `trace_clean::span_in` meets its contract. Assumes nothing.
use mathlib.Core.Path.{ap, ◌∙◌}
use Rattle.sets.specs.Sets.{member}
use Rattle.trace.specs.Clean.{all}
use Rattle.trace_clean.proofs.span_in.Goals as goal

pub returns : goal.returns
returns c = c.all_in.ensures ∙ ap (all (member c.args.set)) c.numbers.ensures
