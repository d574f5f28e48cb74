use mathlib.Core.Path.{◌≡◌, sym, ◌∙◌}
use mathlib.Core.Bool.{true, false}
use Prim.Native.Nat.{◌+◌}
use lib.ListN.{get_or, drop}
use Rattle.lists.specs.Entries.{has}
use Rattle.plan.specs.Check.{id_among}
use Rattle.insert_answers.proofs.Ids.{has_rest, taken_turn}
use Rattle.insert_answers.proofs.ids_taken.Goals as goal

pub returns-then-contains : goal.returns-then-contains
returns-then-contains c =
    let a = c.args in
    let i = c.loop-i.i in
    let id = get_or a.ids.now i 0 in
    let new : id_among a.words.now a.n id ≡ false = sym c.id_among.ensures ∙ c.if-id_among.false in
    let again : has (drop (i + 1) a.ids.now) id ≡ true = sym (c.contains.ensures.value ∙ has_rest a.ids.now (i + 1) id) ∙ c.if-contains.true in
    sym (c.loop-i.invariant ∙ taken_turn a.words.now a.n a.ids.now i c.loop-i-test.true ∙ rw (new, again))

pub loop-i-preserved : goal.loop-i-preserved
loop-i-preserved c =
    let a = c.args in
    let i = c.loop-i.i in
    let id = get_or a.ids.now i 0 in
    let new : id_among a.words.now a.n id ≡ false = sym c.id_among.ensures ∙ c.if-id_among.false in
    let once : has (drop (i + 1) a.ids.now) id ≡ false = sym (c.contains.ensures.value ∙ has_rest a.ids.now (i + 1) id) ∙ c.if-contains.false in
    c.loop-i.invariant ∙ taken_turn a.words.now a.n a.ids.now i c.loop-i-test.true ∙ rw (new, once)
