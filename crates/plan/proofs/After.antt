-- "words after the last step are ignored": an accepted plan stays accepted, with the same steps, where more words are counted behind them.
-- Assumes nothing.
use mathlib.Core.Path.{◌≡◌, refl, ap, ◌∙◌}
use mathlib.Core.Bool.{Bool}
use mathlib.Core.List.{List}
use Prim.Native.Nat.{ℕ, ◌+◌}
use native.Mathlib.Omega.{arith}
use lib.ListN.{take, drop}
use lib.Seq.{take-add}
use Rattle.refusal.proofs.Laws.{accepted_none, none_accepted}
use Rattle.plan.specs.declared.Plan.{Plan}
use Rattle.plan.specs.PlanRecord.{longer}
use Rattle.plan.specs.Words.{decoded, decoded_from}
use Rattle.plan.specs.Check.{plan_tests, checked}
use Rattle.plan.specs.Sound.{steps_of}
use Rattle.plan.proofs.Parts.{steps_append}
use Rattle.plan.proofs.Passes.{All}
use Rattle.plan.proofs.Exact.{accepted_all}
use Rattle.plan.proofs.Grown.{Grew, grown_none}
use Rattle.std.specs.Prelude.{Ok}

grew_longer : (m : ℕ) (p : Plan) → Grew p (longer m p)
grew_longer m p = record { buffers = omega arith; indices = omega arith; coefficients = omega arith; nodes = omega arith }

-- ---- the check
module _ (m : ℕ) (p : Plan) (short : Bool) (indices words steps : List ℕ) (e : checked p short indices words steps ≡ Ok tt) where
  abbrev w : List ℕ
  w = take p.words steps

  all : All p indices p.steps (decoded_from w p.steps 0)
  unfolding decoded
  all = accepted_all p short indices words steps e

  same_steps : decoded_from (take (p.words + m) steps) p.steps 0 ≡ decoded_from w p.steps 0
  same_steps =
      ap (λ (l : List ℕ). decoded_from l p.steps 0) (take-add p.words m steps)
      ∙ (steps_append w (take m (drop p.words steps)) p.steps 0 all.readable).0

  pub more_words_accepted : checked (longer m p) short indices words steps ≡ Ok tt
  unfolding checked
  more_words_accepted =
      let t = (accepted_none (plan_tests p short indices words steps) (Ok tt) e).0 in
      let s = grown_none (grew_longer m p) indices indices refl w (take (p.words + m) steps) p.steps 0 1 same_steps all in
      none_accepted (plan_tests (longer m p) short indices words steps)
      (t.0, (t.1.0, (t.1.1.0, (t.1.1.1.0, (t.1.1.1.1.0, s)))))

  pub more_words_steps : steps_of (longer m p) steps ≡ steps_of p steps
  unfolding decoded
  more_words_steps = same_steps
