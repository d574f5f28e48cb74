-- The tests of a call in document 01's order, of which the first that holds answers. Definitions only.
use Rattle.std.specs.Prelude.{ℕ, ◌≡◌, Bool, true, false, cond, List, [], ◌∷◌, ◌++◌, Option, Some, None, Result, Ok, Err}
use Rattle.refusal.specs.declared.Reason.{Reason}
use Rattle.refusal.specs.declared.Refusal.{Refusal}

-- The answer of a call that hands nothing back.
abbrev pub Answer : Type 0
Answer = Result Unit Refusal

abbrev pub refusal : Reason → Option ℕ → Refusal
refusal reason place = record { reason = reason; place = place }

-- A test, and the reason and the place that it answers where it holds.
pub record Test : Type 0 where
  pub holds : Bool
  pub reason : Reason
  pub place : Option ℕ

-- a test of a call as a whole, and one of a step of a plan
abbrev pub test : Reason → Bool → Test
test reason holds = record { holds = holds; reason = reason; place = None }

abbrev pub test_at : ℕ → Reason → Bool → Test
test_at place reason holds = record { holds = holds; reason = reason; place = Some place }

-- The first test that holds answers; where none does, `rest` answers.
abbrev pub first : List Test → Answer → Answer
first [] rest = rest
first (t ∷ ts) rest = cond t.holds (Err (refusal t.reason t.place)) (first ts rest)

-- What a call hands back, or what an area that it was lent holds afterwards: `done` where it is accepted, else by the refusal.
abbrev pub outcome : {A : Type 0} → Answer → A → (Refusal → A) → A
outcome (Ok _) done refused = done
outcome (Err r) done refused = refused r

-- An area after the call: `new` where it is accepted, else as it was.
abbrev pub area_after : {A : Type 0} → Answer → List A → List A → List A
area_after answer new old = outcome answer new (λ _. old)

-- No test of a list holds.
abbrev pub NoneHolds : List Test → Type 0
NoneHolds [] = Unit {0}
NoneHolds (t ∷ ts) = (t.holds ≡ false) × NoneHolds ts

-- A test of the list holds and none before it does, and r has its reason and its place.
pub record FirstHolds (ts : List Test) (r : Refusal) : Type 0 where
  pub before : List Test
  pub here : Test
  pub after : List Test
  pub split : ts ≡ before ++ here ∷ after
  pub none : NoneHolds before
  pub holds : here.holds ≡ true
  pub answer : r ≡ refusal here.reason here.place
