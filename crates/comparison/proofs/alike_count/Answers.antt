use mathlib.Core.Path.{◌≡◌, sym, ap, ◌∙◌}
use native.Mathlib.Omega.{arith}
use lib.ListN.{length}
use Rattle.comparison.proofs.Alike.{alike_more, unlike, first_ends, second_ends}
use Rattle.comparison.proofs.alike_count.Goals.{then-i-here-via-then-i-here, then-i-here-via-else-i-here+then-word}
use Rattle.comparison.proofs.alike_count.Goals as goal

pub returns-then-i-here : goal.returns-then-i-here
returns-then-i-here g c =
    let a = c.args in
    elim c.then-i-here.branch [
      | then-i-here-via-then-i-here w ↦ second_ends g.T.Entry.word_of a.reference.now a.here.now c.loop-i.i c.loop-i.invariant w.if-i-here.true
      | then-i-here-via-else-i-here+then-word w ↦ unlike g.T.Entry.word_of a.reference.now a.here.now c.loop-i.i c.loop-i.invariant w.index-here-i.result (omega arith) w.if-i-here.false (λ e. w.if-word.true (e ∙ ap g.T.Entry.word_of (sym w.index-here-i.is) ∙ sym w.word.ensures))
    ]

pub loop-i-preserved : goal.loop-i-preserved
loop-i-preserved g c =
    let a = c.args in
    alike_more g.T.Entry.word_of a.reference.now a.here.now c.loop-i.i c.loop-i.invariant c.index-here-i.result (omega arith) c.if-i-here.false (c.if-word.false ∙ c.word.ensures ∙ ap g.T.Entry.word_of c.index-here-i.is)

pub returns : goal.returns
returns g c =
    let a = c.args in
    let e : length a.reference.now ≡ c.loop-i.i = omega (arith, c.loop-i.invariant.first) in
    e ∙ first_ends g.T.Entry.word_of a.reference.now a.here.now c.loop-i.i c.loop-i.invariant (omega (arith, e))
