-- What the tests of the check make of its answer: a turn over the steps, the areas, and the steps once all else is passed.
-- Assumes nothing.
use mathlib.Core.Path.{◌≡◌, refl, ap, ◌∙◌}
use mathlib.Core.Bool.{Bool, true, false}
use mathlib.Core.List.{List, [], ◌++◌}
use Prim.Native.Nat.{ℕ, suc, ◌+◌, ◌-◌, ◌<◌}
use native.Mathlib.Omega.{arith}
use lib.ListN.{take}
use Rattle.lists.specs.Entries.{some_from}
use Rattle.refusal.specs.Tests.{refusal, Test, first, Answer}
use Rattle.refusal.specs.declared.Refusal.{Refusal}
use Rattle.refusal.proofs.Laws.{first_append, accepted_none, none_rest, refused_rest}
use Rattle.plan.specs.declared.Plan.{Plan}
use Rattle.plan.specs.declared.Step.{Step}
use Rattle.plan.specs.Limits.{unit_limits, bad_block, over_limits}
use Rattle.plan.specs.Words.{read_at}
use Rattle.plan.specs.Loops.{counted}
use Rattle.plan.specs.Check.{id_twice, step_tests, steps_tests, checked}
use Rattle.refusal.specs.declared.Reason.TheVariants.{ShortArea, UnreadableStep}
use Rattle.std.specs.Prelude.{Ok, Err, Some, None}

-- what is left of n at an i below it
pub rest_of : {n i : ℕ} → i < n → n - i ≡ suc (n - (i + 1))
rest_of h = omega arith

-- ---- one step, with no step after it
abbrev pub alone : Plan → List ℕ → ℕ → Step → List Test
alone p indices place s = step_tests p indices place (Some (s, 0)) (λ _. [])

-- ---- a turn over the steps: `left` of them are left, and `more` after this one
module _ (p : Plan) (indices w : List ℕ) (at place : ℕ) {left more : ℕ} (e : left ≡ suc more) where
  pub turn_bad : read_at w at ≡ None → first (steps_tests p indices w left at place) (Ok tt) ≡ Err (refusal UnreadableStep (Some place))
  unfolding steps_tests
  turn_bad r = ap (λ (k : ℕ). first (steps_tests p indices w k at place) (Ok tt)) e ∙ rw r

  module _ {s : Step} {next : ℕ} (r : read_at w at ≡ Some (s, next)) where
    pub turn : steps_tests p indices w left at place ≡ alone p indices place s ++ steps_tests p indices w more next (place + 1)
    unfolding steps_tests
    turn = ap (λ (k : ℕ). steps_tests p indices w k at place) e ∙ rw r

    after : first (steps_tests p indices w left at place) (Ok tt)
        ≡ first (alone p indices place s) (first (steps_tests p indices w more next (place + 1)) (Ok tt))
    after = ap (λ (l : List Test). first l (Ok tt)) turn ∙ first_append (alone p indices place s) (steps_tests p indices w more next (place + 1)) (Ok tt)

    pub turn_refused : (q : Refusal) → first (alone p indices place s) (Ok tt) ≡ Err q → first (steps_tests p indices w left at place) (Ok tt) ≡ Err q
    turn_refused q t = after ∙ refused_rest (alone p indices place s) (first (steps_tests p indices w more next (place + 1)) (Ok tt)) q t

    pub turn_on : first (alone p indices place s) (Ok tt) ≡ Ok tt
        → first (steps_tests p indices w left at place) (Ok tt) ≡ first (steps_tests p indices w more next (place + 1)) (Ok tt)
    turn_on t =
        after
        ∙ none_rest (alone p indices place s) (first (steps_tests p indices w more next (place + 1)) (Ok tt))
        (accepted_none (alone p indices place s) (Ok tt) t).0

pub turns_done : (p : Plan) (indices w : List ℕ) (at place : ℕ) {left : ℕ} → left ≡ 0 → first (steps_tests p indices w left at place) (Ok tt) ≡ Ok tt
unfolding steps_tests
turns_done p indices w at place e = ap (λ (k : ℕ). first (steps_tests p indices w k at place) (Ok tt)) e

-- ---- the plan
module _ (p : Plan) (short : Bool) (indices words steps : List ℕ) where
  abbrev entries : Bool
  entries = some_from p.buffers (take p.indices indices)

  module _ (e1 : bad_block p.block ≡ false) where
    module _ (e5 : over_limits unit_limits p ≡ false) where
      pub check_2 : short ≡ true → checked p short indices words steps ≡ Err (refusal ShortArea None)
      unfolding checked
      check_2 e = rw (e1, e5, e)

      module _ (e2 : short ≡ false) where
        module _ (e4 : entries ≡ false) where
          pub check_steps : id_twice words p.nodes ≡ false
              → checked p short indices words steps ≡ first (steps_tests p indices (take p.words steps) p.steps 0 1) (Ok tt)
          unfolding checked
          check_steps e = rw (e1, e5, e2, e4, e)

-- ---- an answer with the channels, and back
pub counted_refused : {a : Answer} (n : ℕ) {q r : Refusal} → q ≡ r → a ≡ Err r → Err q ≡ counted a n
counted_refused n p e = rw (p, e)

pub counted_accepted : {a : Answer} {n m : ℕ} → n ≡ m → a ≡ Ok tt → Ok n ≡ counted a m
counted_accepted p e = rw (p, e)

pub was_accepted : (a : Answer) (n m : ℕ) → Ok m ≡ counted a n → (a ≡ Ok tt) × (m ≡ n)
was_accepted (Ok _) n m e = (refl, cc)
was_accepted (Err r) n m e = (cc, cc)

pub was_refused : (a : Answer) (n : ℕ) (q : Refusal) → Err q ≡ counted a n → a ≡ Err q
was_refused (Ok _) n q e = cc
was_refused (Err r) n q e = cc
