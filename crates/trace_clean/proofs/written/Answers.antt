-- `trace_clean::written` meets its contract, kind by kind. Assumes nothing.
use mathlib.Core.Path.{refl, ◌∙◌}
use mathlib.Core.Bool.{or_comm}
use mathlib.Core.Logic.{⊎_elim}
use lib.Dec.{eqb}
use Rattle.sets.specs.Sets.{member}
use Rattle.trace.specs.Clean.{written_after}
use Rattle.trace_clean.proofs.Cleaning.{written_as}
use Rattle.trace_clean.proofs.written.Goals as goal

pub returns-in-Patch : goal.returns-in-Patch
unfolding written_after
returns-in-Patch c =
    let a = c.args in
    written_as a.plan a.indices.now (member a.set) c.in-Patch.is c.with.result
    (λ b. c.with.ensures b ∙ or_comm (member a.set b) (eqb b c.in-Patch.dst))

pub returns-in-Gain : goal.returns-in-Gain
unfolding written_after
returns-in-Gain c =
    let a = c.args in
    let set = c.with_span in
    ⊎_elim (λ e. written_as a.plan a.indices.now (member a.set) e.2 set.result set.ensures)
    (⊎_elim (λ e. written_as a.plan a.indices.now (member a.set) e.2 set.result set.ensures)
    (λ e. written_as a.plan a.indices.now (member a.set) e set.result set.ensures))
    c.in-Gain.is

pub returns-in-Send : goal.returns-in-Send
unfolding written_after
returns-in-Send c =
    let a = c.args in
    ⊎_elim (λ e. written_as a.plan a.indices.now (member a.set) e.4 a.set (λ b. refl))
    (λ e. written_as a.plan a.indices.now (member a.set) e.2 a.set (λ b. refl)) c.in-Send.is
