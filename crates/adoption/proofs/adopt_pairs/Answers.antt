-- `adoption::adopt_pairs` meets its contract. Assumes nothing.
use mathlib.Core.Path.{ap, ◌∙◌}
use native.Mathlib.Omega.{arith}
use Rattle.adoption.specs.Adoption.{Lent}
use Rattle.adoption.proofs.Turns.{going_on, going_ends}
use Rattle.adoption.proofs.adopt_pairs.Goals as goal

pub loop-pair-preserved : goal.loop-pair-preserved
loop-pair-preserved c =
    let g = c.loop-pair.invariant in
    let s = c.in-Some.ensures.steps in
    let k = c.adopt_pair.ensures in
    (s.0 ∙ g.0, going_on _ _ _ _ g.1 c.in-Some.pair.now _ s.1.0 (s.1.1 ∙ g.0) k.floats k.words)

pub returns : goal.returns
returns c =
    let g = c.loop-pair.invariant in
    let e = going_ends g.1 (omega (arith, c.in-None.ensures.steps.1.0, g.0)) in
    record {
      floats = ap (λ (l : Lent). l.floats) e;
      words = ap (λ (l : Lent). l.words) e;
    }
