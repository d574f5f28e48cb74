-- `plan_steps::step_shares` meets its contract: a step inside its tables has its spans within the index list. Assumes nothing.
use mathlib.Core.Path.{ap}
use mathlib.Core.Logic.{⊎_elim}
use native.Mathlib.Omega.{arith}
use Rattle.plan.specs.declared.Span.{Span}
use Rattle.plan.specs.Sound.{Within}
use Rattle.plan.proofs.Steps.{inside_as}
use Rattle.plan_steps.proofs.step_shares.Goals as goal

pub spans_meet-requires : goal.spans_meet-requires
spans_meet-requires c =
    let b = inside_as c.args.indices.plan c.requires c.in-Gain.is in
    let u = c.used-n.ensures in
    let x = c.first_of.ensures in
    let y = c.first_of-in-Gain.ensures in
    (omega (arith, ap (λ (s : Span). s.start) x, ap (λ (s : Span). s.len) x), omega (arith, ap (λ (s : Span). s.start) y, ap (λ (s : Span). s.len) y))

pub spans_meet-requires-in-Matrix : goal.spans_meet-requires-in-Matrix
spans_meet-requires-in-Matrix c =
    let p = c.args.indices.plan in
    let m = c.in-Matrix in
    let b : Within p.indices m.src × Within p.indices m.dst =
    ⊎_elim (λ k. let i = inside_as p c.requires k.1 in (i.1, i.2)) (λ k. let i = inside_as p c.requires k.2 in (i.1, i.2)) m.is in
    (b.0, b.1)
