-- `insert_calls::insert` meets its contract: its answer decides what it leaves. Assumes nothing.
use mathlib.Core.Path.{◌≡◌, sym, ap, ◌∙◌}
use mathlib.Core.List.{List}
use Prim.Native.Nat.{ℕ}
use Rattle.refusal.specs.Tests.{Answer}
use Rattle.plan.specs.Limits.{unit_limits}
use Rattle.builder.specs.declared.Lengths.{Lengths}
use Rattle.builder.specs.Built.{BuilderState}
use Rattle.builder.specs.Sums.{lengths}
use Rattle.builder_calls.specs.Lent.{state_of}
use Rattle.insert.specs.declared.InsertPoint.{InsertPoint}
use Rattle.insert.specs.Insert.{insert_answer, answer_to}
use Rattle.insert_calls.proofs.Outcomes.{sent_out, returned_out, send_fits, return_fits}
use Rattle.insert_calls.proofs.insert.Goals as goal

-- the answer, said of the areas that are lent by their lengths
said : (s : BuilderState) (i : InsertPoint) {z : Lengths} {words : List ℕ} → z ≡ lengths s → words ≡ s.words
    → {r : Answer} → insert_answer unit_limits s.plan i z words ≡ r → answer_to unit_limits s i ≡ r
said s i {z = z} {words = words} e h p =
    sym (ap (λ (y : Lengths). insert_answer unit_limits s.plan i y words) e ∙ ap (λ (w : List ℕ). insert_answer unit_limits s.plan i (lengths s) w) h) ∙ p

pub add_sent-requires : goal.add_sent-requires
add_sent-requires c =
    let s : BuilderState = state_of c.args.areas.now in
    send_fits s.plan c.args.insert _ _ (sym c.insert_answer.ensures ∙ c.in_ok-insert_answer.was)

pub invariant_of-wiring : goal.invariant_of-wiring
invariant_of-wiring c =
    let s : BuilderState = state_of c.args.areas.now in
    record { return_fits = return_fits s.plan c.args.insert _ _ (sym c.insert_answer.ensures ∙ c.in_ok-insert_answer.was) c.if-insert.true }

pub returns-then-insert-clause-state : goal.returns-then-insert-clause-state
returns-then-insert-clause-state c =
    let s : BuilderState = state_of c.args.areas.now in
    let accepted = said s c.args.insert c.lent.ensures.lengths c.lent.ensures.words (sym c.insert_answer.ensures ∙ c.in_ok-insert_answer.was) in
    (returned_out s c.args.insert accepted c.if-insert.true c.fresh.ensures c.add_sent.ensures.state c.add_return.ensures.state).1

pub returns-clause-state : goal.returns-clause-state
returns-clause-state c =
    let s : BuilderState = state_of c.args.areas.now in
    let accepted = said s c.args.insert c.lent.ensures.lengths c.lent.ensures.words (sym c.insert_answer.ensures ∙ c.in_ok-insert_answer.was) in
    (sent_out s c.args.insert accepted c.if-insert.false c.add_sent.ensures.state).1
