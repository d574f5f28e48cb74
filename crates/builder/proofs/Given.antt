-- What a list of calls adds to a draft: its steps, its fresh buffers, and an index entry for each of them, in order. Assumes nothing.
use mathlib.Core.Path.{◌≡◌, refl, sym, ap, ◌∙◌}
use mathlib.Core.List.{List, [], ◌∷◌, ◌++◌, append_assoc, append-nil}
use Prim.Native.Nat.{ℕ, zero, suc, ◌+◌}
use native.Mathlib.Nat.{add-zero, zero-add, add_assoc, suc-add}
use native.Mathlib.Omega.{arith}
use Rattle.plan.specs.declared.Step.{Step}
use Rattle.plan.specs.Words.{read_at}
use Rattle.builder.specs.Calls.{numbers_from}
use Rattle.builder.specs.Built.{BuilderCall, buffers, coefficients, node, step, Draft, step_read, given, drafted}

-- the step that a call gives, if any, and the buffers
abbrev pub steps_in : BuilderCall → List Step
steps_in (buffers n) = []
steps_in (coefficients xs) = []
steps_in (node id xs ramp safe) = []
steps_in (step w) = step_read (read_at w 0)

abbrev pub buffers_in : BuilderCall → ℕ
buffers_in (buffers n) = n
buffers_in (coefficients xs) = 0
buffers_in (node id xs ramp safe) = 0
buffers_in (step w) = 0

abbrev pub steps_given : List BuilderCall → List Step
steps_given [] = []
steps_given (c ∷ cs) = steps_in c ++ steps_given cs

abbrev pub buffers_given : List BuilderCall → ℕ
buffers_given [] = 0
buffers_given (c ∷ cs) = buffers_in c + buffers_given cs

-- n numbers, and m after them
numbers_append : (k n m : ℕ) → numbers_from k (n + m) ≡ numbers_from k n ++ numbers_from (k + n) m
numbers_append k zero m = rw (zero-add m, add-zero k)
numbers_append k (suc n) m =
    let e : suc k + n ≡ k + suc n = omega arith in
    rw (suc-add n m, ← e) (ap (λ (l : List ℕ). k ∷ l) (numbers_append (suc k) n m))

-- ---- of one call
given_steps : (d : Draft) (c : BuilderCall) → (given d c).steps ≡ d.steps ++ steps_in c
given_steps d (buffers n) = sym (append-nil d.steps)
given_steps d (coefficients xs) = sym (append-nil d.steps)
given_steps d (node id xs ramp safe) = sym (append-nil d.steps)
given_steps d (step w) = refl

given_buffers : (d : Draft) (c : BuilderCall) → (given d c).buffers ≡ d.buffers + buffers_in c
given_buffers d (buffers n) = refl
given_buffers d (coefficients xs) = sym (add-zero d.buffers)
given_buffers d (node id xs ramp safe) = sym (add-zero d.buffers)
given_buffers d (step w) = sym (add-zero d.buffers)

given_indices : (d : Draft) (c : BuilderCall) → (given d c).indices ≡ d.indices ++ numbers_from d.buffers (buffers_in c)
given_indices d (buffers n) = refl
given_indices d (coefficients xs) = sym (append-nil d.indices)
given_indices d (node id xs ramp safe) = sym (append-nil d.indices)
given_indices d (step w) = sym (append-nil d.indices)

-- ---- of a list of calls
pub draft_steps : (cs : List BuilderCall) (d : Draft) → (drafted d cs).steps ≡ d.steps ++ steps_given cs
draft_steps [] d = sym (append-nil d.steps)
draft_steps (c ∷ cs) d =
    draft_steps cs (given d c) ∙ ap (λ (ss : List Step). ss ++ steps_given cs) (given_steps d c) ∙ append_assoc d.steps (steps_in c) (steps_given cs)

pub draft_buffers : (cs : List BuilderCall) (d : Draft) → (drafted d cs).buffers ≡ d.buffers + buffers_given cs
draft_buffers [] d = sym (add-zero d.buffers)
draft_buffers (c ∷ cs) d =
    draft_buffers cs (given d c) ∙ ap (λ (n : ℕ). n + buffers_given cs) (given_buffers d c) ∙ add_assoc d.buffers (buffers_in c) (buffers_given cs)

pub draft_indices : (cs : List BuilderCall) (d : Draft) → (drafted d cs).indices ≡ d.indices ++ numbers_from d.buffers (buffers_given cs)
draft_indices [] d = sym (append-nil d.indices)
draft_indices (c ∷ cs) d =
    draft_indices cs (given d c)
    ∙ rw (given_indices d c, given_buffers d c)
    (append_assoc d.indices (numbers_from d.buffers (buffers_in c)) (numbers_from (d.buffers + buffers_in c) (buffers_given cs)))
    ∙ ap (λ (l : List ℕ). d.indices ++ l) (sym (numbers_append d.buffers (buffers_in c) (buffers_given cs)))
