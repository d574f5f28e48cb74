-- `trace_clean::clean_step` meets its contract, kind by kind. Assumes nothing.
use mathlib.Core.Path.{◌≡◌, refl, sym, ap₂}
use mathlib.Core.Bool.{true, ◌&&◌}
use mathlib.Core.List.{[]}
use mathlib.Core.Logic.{⊎_elim}
use lib.Dec.{leb}
use Rattle.sets.specs.Sets.{member}
use Rattle.plan.proofs.Spans.{names_length}
use Rattle.plan.specs.Resolved.{resolved}
use Rattle.trace.specs.Clean.{clean_step}
use Rattle.trace_clean.proofs.Cleaning.{placed_as, clean_as}
use Rattle.trace_clean.proofs.clean_step.Goals as goal

pub returns-in-Patch : goal.returns-in-Patch
unfolding clean_step
returns-in-Patch c =
    let a = c.args in
    ⊎_elim {C = true ≡ clean_step (member a.set) (resolved a.plan a.indices.now [] a.step)}
    (λ e. clean_as a.plan a.indices.now (member a.set) e.3 refl) (λ e. clean_as a.plan a.indices.now (member a.set) e.1 refl) c.in-Patch.is

pub returns-in-Gain : goal.returns-in-Gain
unfolding clean_step
returns-in-Gain c =
    let a = c.args in
    let h = placed_as a.plan a.indices.now c.in-Gain.is c.requires in
    let src = names_length a.plan a.indices.now c.in-Gain.src h.1 in
    let dst = names_length a.plan a.indices.now c.in-Gain.dst h.2 in
    clean_as a.plan a.indices.now (member a.set) c.in-Gain.is (ap₂ ◌&&◌ (ap₂ leb (sym dst) (sym src)) c.span_in.ensures)

pub returns-in-Matrix : goal.returns-in-Matrix
unfolding clean_step
returns-in-Matrix c =
    let a = c.args in
    ⊎_elim (λ e. clean_as a.plan a.indices.now (member a.set) e.2 c.span_in-in-Matrix.ensures)
    (λ e. clean_as a.plan a.indices.now (member a.set) e.1 c.span_in-in-Matrix.ensures) c.in-Matrix.is

pub returns-in-Send : goal.returns-in-Send
unfolding clean_step
returns-in-Send c =
    let a = c.args in
    clean_as a.plan a.indices.now (member a.set) c.in-Send.is (ap₂ ◌&&◌ c.span_in-in-Send.ensures c.span_in-in-Send-2.ensures)
