-- A run, by its admission: refused it changes nothing, and accepted it runs every step. Assumes nothing.
use mathlib.Core.Path.{◌≡◌, sym, ap, ◌∙◌}
use Rattle.refusal.specs.declared.Refusal.{Refusal}
use Rattle.refusal.proofs.Laws.{outcome_accepted, outcome_refused}
use Rattle.input.specs.Input.{lookup}
use Rattle.run.specs.Run.{RunGiven, State, run_steps, steps_of_run, admission, processed, process_answer}
use Rattle.std.specs.Prelude.{ℕ, Ok, Err, Result}

module _ (g : RunGiven) (s : State) where
  abbrev pub stepped_all : State
  stepped_all = run_steps g.plan.block (lookup g.directory g.samples) (steps_of_run g) s

  -- ---- refused
  module _ {r : Refusal} (e : admission g s ≡ Err r) where
    pub refused_keeps : processed g s ≡ s
    unfolding processed
    refused_keeps = outcome_refused (admission g s) stepped_all (λ _. s) r e

    pub refused_answers : process_answer g s ≡ Err r
    unfolding process_answer
    refused_answers = outcome_refused (admission g s) (Ok (processed g s).wrote) Err r e

  -- ---- accepted
  module _ (e : admission g s ≡ Ok tt) where
    pub accepted_runs : processed g s ≡ stepped_all
    unfolding processed
    accepted_runs = outcome_accepted (admission g s) stepped_all (λ _. s) e

    pub accepted_answers : process_answer g s ≡ Ok (processed g s).wrote
    unfolding process_answer
    accepted_answers = outcome_accepted (admission g s) (Ok (processed g s).wrote) Err e

-- ---- the two ways out of the call, from the state t that it leaves
module _ (g : RunGiven) (s t : State) (answer : Result ℕ Refusal) where
  abbrev Returned : Type 0
  Returned = (answer ≡ process_answer g s)
      × ((t.floats ≡ (processed g s).floats) × ((t.words ≡ (processed g s).words) × ((t.buffers ≡ (processed g s).buffers) × (t.output ≡ (processed g s).output))))

  returned : answer ≡ process_answer g s → t ≡ processed g s → Returned
  returned a e = (
    a,
    (
      ap (λ (x : State). x.floats) e,
      (ap (λ (x : State). x.words) e, (ap (λ (x : State). x.buffers) e, ap (λ (x : State). x.output) e)),
    ),
  )

  pub returned_refused : {r : Refusal} → admission g s ≡ Err r → t ≡ s → answer ≡ Err r → Returned
  returned_refused e q a = returned (a ∙ sym (refused_answers g s e)) (q ∙ sym (refused_keeps g s e))

  pub returned_accepted : admission g s ≡ Ok tt → t ≡ stepped_all g s → answer ≡ Ok t.wrote → Returned
  returned_accepted e q a =
      let h : t ≡ processed g s = q ∙ sym (accepted_runs g s e) in
      returned (a ∙ ap (λ (x : State). Ok x.wrote) h ∙ sym (accepted_answers g s e)) h
