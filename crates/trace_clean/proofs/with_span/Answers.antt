-- `trace_clean::with_span` meets its contract. Assumes nothing.
use mathlib.Core.Path.{ap, ◌∙◌}
use mathlib.Core.Bool.{Bool, ◌||◌}
use mathlib.Core.List.{List}
use Prim.Native.Nat.{ℕ}
use Rattle.lists.specs.Entries.{some_from, has}
use Rattle.sets.specs.Sets.{member, set_size}
use Rattle.plan.proofs.Spans.{names_low}
use Rattle.trace_clean.proofs.with_span.Goals as goal

pub set_of-requires : goal.set_of-requires
set_of-requires c =
    ap (some_from set_size) c.numbers.ensures ∙ names_low c.args.plan c.args.indices.now c.args.span c.requires.0 c.requires.1

pub returns : goal.returns
returns c b =
    let a = c.args in
    c.union.ensures b
    ∙ ap (λ (t : Bool). t || member a.set b) (c.set_of.ensures b ∙ ap (λ (l : List ℕ). has l b) c.numbers.ensures)
