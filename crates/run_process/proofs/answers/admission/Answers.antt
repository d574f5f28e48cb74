-- `run_process::answers::admission` meets its contract. Assumes nothing.
use mathlib.Core.Path.{◌≡◌, sym, ◌∙◌}
use Prim.Native.Nat.{ℕ}
use borrow.Author.Tests.{ltb-true, ltb-false}
use Rattle.refusal.specs.declared.Refusal.{Refusal}
use Rattle.plan.specs.declared.Plan.{Plan}
use Rattle.plan.specs.Areas.{Areas}
use Rattle.plan.specs.Check.{check_plan}
use Rattle.plan.specs.Loops.{counted}
use Rattle.plan.proofs.Answers.{was_accepted, was_refused}
use Rattle.run.proofs.Admitted.{tested, by_plan, by_14, by_12, by_13, by_none}
use Rattle.run_process.proofs.answers.admission.Goals as goal
use Rattle.std.specs.Prelude.{Ok, Result}
use Rattle.std.proofs.lemmas.Result.{err_from_is_err_and}

-- the plan check counted the channels, so it accepted the plan
plan_accepted : (p : Plan) (areas : Areas) {channels n : ℕ} {answer : Result ℕ Refusal} → answer ≡ counted (check_plan p areas) channels → answer ≡ Ok n
    → (check_plan p areas ≡ Ok tt) × (n ≡ channels)
plan_accepted p areas {channels} {n} counts is = was_accepted (check_plan p areas) channels n (sym is ∙ counts)

pub returns-in_err-channels : goal.returns-in_err-channels
returns-in_err-channels c =
    let p = err_from_is_err_and c.from_residual.result c.from_residual.ensures.1 in
    rw (p.1, p.2) (sym (by_plan _ _ _ (was_refused _ _ _ (sym c.in_err-channels.was ∙ c.count_channels.ensures))))

pub any_bad-requires : goal.any_bad-requires
any_bad-requires c = (tested _ _ (plan_accepted _ _ c.count_channels.ensures c.in_ok-channels.was).0).room.words

pub returns-then-any_bad : goal.returns-then-any_bad
returns-then-any_bad c = rw c.into.ensures (sym (by_14 _ _ (plan_accepted _ _ c.count_channels.ensures c.in_ok-channels.was).0 (sym c.any_bad.ensures ∙ c.if-any_bad.true)))

pub returns-then-directory_bad : goal.returns-then-directory_bad
returns-then-directory_bad c =
    rw c.into-then-directory_bad.ensures
    (sym (by_12 _ _ (plan_accepted _ _ c.count_channels.ensures c.in_ok-channels.was).0 (sym c.any_bad.ensures ∙ c.if-any_bad.false) (sym c.directory_bad.ensures ∙ c.if-directory_bad.true)))

pub returns-then-shorter : goal.returns-then-shorter
returns-then-shorter c =
    let f = plan_accepted _ _ c.count_channels.ensures c.in_ok-channels.was in
    let h = ltb-true _ _ (sym c.shorter.ensures ∙ c.if-shorter.true) in
    rw c.into-then-shorter.ensures (sym (by_13 _ _ f.0 (sym c.any_bad.ensures ∙ c.if-any_bad.false) (sym c.directory_bad.ensures ∙ c.if-directory_bad.false) (rw f.1 at h)))

pub returns : goal.returns
returns c =
    let f = plan_accepted _ _ c.count_channels.ensures c.in_ok-channels.was in
    let h = ltb-false _ _ (sym c.shorter.ensures ∙ c.if-shorter.false) in
    sym (by_none _ _ f.0 (sym c.any_bad.ensures ∙ c.if-any_bad.false) (sym c.directory_bad.ensures ∙ c.if-directory_bad.false) (rw f.1 at h))
