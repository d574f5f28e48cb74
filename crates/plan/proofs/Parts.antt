-- Steps that are read in two parts: where n steps end with the words that they lie in, and more words stand behind, the first n + m steps of all are those n
-- and then the first m of the words behind, and so are their tests. Of words only those up to the end of the last step count. Assumes nothing.
use mathlib.Core.Path.{◌≡◌, refl, sym, ap, ◌∙◌}
use mathlib.Core.Bool.{true}
use mathlib.Core.List.{List, [], ◌∷◌, ◌++◌}
use Prim.Native.Nat.{ℕ, zero, suc, ◌+◌, ◌≤◌}
use native.Mathlib.Nat.{add-zero, zero-add, suc-add}
use native.Mathlib.Omega.{arith}
use lib.ListN.{length, take}
use lib.Seq.{take-append-le}
use Rattle.refusal.specs.Tests.{Test, test_at}
use Rattle.plan.specs.declared.Plan.{Plan}
use Rattle.plan.specs.declared.Step.{Step}
use Rattle.plan.specs.Words.{read_at, read_then, decoded_from, decoded}
use Rattle.plan.specs.Check.{step_tests, steps_tests}
use Rattle.plan.proofs.Words.{readable_turn}
use Rattle.plan.proofs.Places.{read_within, read_agree, moved, read_offset}
use Rattle.plan.proofs.Answers.{alone}
use Rattle.refusal.specs.declared.Reason.TheVariants.{UnreadableStep}
use Rattle.std.specs.Prelude.{Some, None, Option}

-- ---- where steps end

-- the place after the step that was read there, as `rest` goes on from it; that place itself where it is None
abbrev pub end_then : ℕ → Option (Step × ℕ) → (ℕ → ℕ) → ℕ
end_then at (Some (s, next)) rest = rest next
end_then at None rest = at

-- the place after n steps from a place on, or that of the first that is None
abbrev pub end_from : List ℕ → ℕ → ℕ → ℕ
end_from w zero at = at
end_from w (suc n) at = end_then at (read_at w at) (λ next. end_from w n next)

module _ (w : List ℕ) where
  -- they end after the place where they start, and within the words
  pub end_within : (n at : ℕ) → length (decoded_from w n at) ≡ n → at ≤ length w → (at ≤ end_from w n at) × (end_from w n at ≤ length w)
  end_within zero at e h = (omega arith, h)
  end_within (suc n) at e h =
      let t = readable_turn w n at e in
      let i = read_within w at t.read in
      let k = end_within n t.next t.rest i.1 in
      rw t.read (omega arith, k.1)

  -- n steps, and then m more
  pub steps_split : (n m at : ℕ) → length (decoded_from w n at) ≡ n
      → (decoded_from w (n + m) at ≡ decoded_from w n at ++ decoded_from w m (end_from w n at)) × (end_from w (n + m) at ≡ end_from w m (end_from w n at))
  unfolding decoded_from
  steps_split zero m at e = rw (zero-add m) (refl, refl)
  steps_split (suc n) m at e =
      let t = readable_turn w n at e in
      let k = steps_split n m t.next t.rest in
      rw (suc-add n m, t.read) (ap (λ (ss : List Step). t.step ∷ ss) k.0, k.1)

-- ---- words that agree up to where the steps end
module _ (v w : List ℕ) (k : ℕ) (e : take k v ≡ take k w) where
  pub steps_agree : (n at : ℕ) → length (decoded_from v n at) ≡ n → end_from v n at ≤ k
      → (decoded_from w n at ≡ decoded_from v n at) × (end_from w n at ≡ end_from v n at)
  unfolding decoded_from
  steps_agree zero at r h = (refl, refl)
  steps_agree (suc n) at r h =
      let t = readable_turn v n at r in
      let b = (read_within v at t.read).1 in
      let h' : end_from v n t.next ≤ k = rw t.read at h in
      let i = steps_agree n t.next t.rest h' in
      let there = read_agree v w k e at t.read (omega (arith, end_within v n t.next t.rest b)) in
      rw (t.read, there) (ap (λ (ss : List Step). t.step ∷ ss) i.0, i.1)

-- more words after those that hold the steps
pub steps_append : (w ys : List ℕ) (n at : ℕ) → length (decoded_from w n at) ≡ n
    → (decoded_from (w ++ ys) n at ≡ decoded_from w n at) × (end_from (w ++ ys) n at ≡ end_from w n at)
unfolding decoded_from
steps_append w ys zero at r = (refl, refl)
steps_append w ys (suc n) at r =
    let b = read_within w at (readable_turn w n at r).read in
    steps_agree w (w ++ ys) (length w) (sym (take-append-le (length w) w ys (omega arith))) (suc n) at r (end_within w (suc n) at r (omega arith)).1

-- ---- words before them
module _ (xs ys : List ℕ) where
  pub steps_offset : (m at : ℕ)
      → (decoded_from (xs ++ ys) m (length xs + at) ≡ decoded_from ys m at) × (end_from (xs ++ ys) m (length xs + at) ≡ length xs + end_from ys m at)
  unfolding decoded_from
  steps_offset zero at = (refl, refl)
  steps_offset (suc m) at = rw (read_offset xs ys at) (go (read_at ys at) (λ next. steps_offset m next))
    where
      go : (r : Option (Step × ℕ))
          → ((next : ℕ) → (decoded_from (xs ++ ys) m (length xs + next) ≡ decoded_from ys m next)
          × (end_from (xs ++ ys) m (length xs + next) ≡ length xs + end_from ys m next))
          → (read_then (moved (length xs) r) (λ next. decoded_from (xs ++ ys) m next) ≡ read_then r (λ next. decoded_from ys m next))
          × (end_then (length xs + at) (moved (length xs) r) (λ next. end_from (xs ++ ys) m next) ≡ length xs + end_then at r (λ next. end_from ys m next))
      go (Some (s, next)) ih = (ap (λ (ss : List Step). s ∷ ss) (ih next).0, (ih next).1)
      go None ih = (refl, refl)

-- ---- the tests, by the list of the steps that can be read

-- the tests of n steps, of which the first is step `place` and those that can be read are listed
abbrev pub tests_of : Plan → List ℕ → ℕ → ℕ → List Step → List Test
tests_of p indices place zero ss = []
tests_of p indices place (suc n) [] = test_at place UnreadableStep true ∷ []
tests_of p indices place (suc n) (s ∷ ss) = alone p indices place s ++ tests_of p indices (place + 1) n ss

module _ (p : Plan) (indices : List ℕ) where
  pub tests_listed : (w : List ℕ) (n at place : ℕ) → steps_tests p indices w n at place ≡ tests_of p indices place n (decoded_from w n at)
  unfolding steps_tests decoded_from
  tests_listed w zero at place = refl
  tests_listed w (suc n) at place = go (read_at w at) (λ next. tests_listed w n next (place + 1))
    where
      go : (r : Option (Step × ℕ)) → ((next : ℕ) → steps_tests p indices w n next (place + 1) ≡ tests_of p indices (place + 1) n (decoded_from w n next))
          → step_tests p indices place r (λ next. steps_tests p indices w n next (place + 1))
          ≡ tests_of p indices place (suc n) (read_then r (λ next. decoded_from w n next))
      go (Some (s, next)) ih = ap (λ (ts : List Test). alone p indices place s ++ ts) (ih next)
      go None ih = refl

  pub tests_append : (ss ts : List Step) (m place : ℕ)
      → tests_of p indices place (length ss + m) (ss ++ ts) ≡ tests_of p indices place (length ss) ss ++ tests_of p indices (place + length ss) m ts
  tests_append [] ts m place = rw (zero-add m, add-zero place)
  tests_append (s ∷ ss) ts m place =
      let e : place + 1 + length ss ≡ place + suc (length ss) = omega arith in
      rw (suc-add (length ss) m, ← e) (ap (λ (l : List Test). alone p indices place s ++ l) (tests_append ss ts m (place + 1)))

-- ---- two parts, of which the first ends with its last step
module _ (xs ys : List ℕ) (n m at : ℕ) (r : length (decoded_from xs n at) ≡ n) (e : end_from xs n at ≡ length xs) where
  parts : (decoded_from (xs ++ ys) (n + m) at ≡ decoded_from xs n at ++ decoded_from ys m 0) × (end_from (xs ++ ys) (n + m) at ≡ length xs + end_from ys m 0)
  parts =
      let a = steps_append xs ys n at r in
      let s = steps_split (xs ++ ys) n m at (ap length a.0 ∙ r) in
      let z : end_from (xs ++ ys) n at ≡ length xs + 0 = a.1 ∙ e ∙ sym (add-zero (length xs)) in
      let o = steps_offset xs ys m 0 in
      (rw (s.0, a.0, z, o.0) refl, rw (s.1, z, o.1) refl)

  pub decoded_parts_from : decoded_from (xs ++ ys) (n + m) at ≡ decoded_from xs n at ++ decoded_from ys m 0
  decoded_parts_from = parts.0

  pub end_parts : end_from (xs ++ ys) (n + m) at ≡ length xs + end_from ys m 0
  end_parts = parts.1

  pub tests_parts : (p : Plan) (indices : List ℕ) (place : ℕ)
      → steps_tests p indices (xs ++ ys) (n + m) at place ≡ steps_tests p indices xs n at place ++ steps_tests p indices ys m 0 (place + n)
  tests_parts p indices place =
      let a = tests_append p indices (decoded_from xs n at) (decoded_from ys m 0) m place in
      let listed = tests_listed p indices in
      rw (listed (xs ++ ys) (n + m) at place, decoded_parts_from, listed xs n at place, listed ys m 0 (place + n)) (rw r at a)

-- from the first word on
pub decoded_parts : (xs ys : List ℕ) (n m : ℕ) → length (decoded xs n) ≡ n → end_from xs n 0 ≡ length xs
    → decoded (xs ++ ys) (n + m) ≡ decoded xs n ++ decoded ys m
unfolding decoded
decoded_parts xs ys n m r e = decoded_parts_from xs ys n m 0 r e
