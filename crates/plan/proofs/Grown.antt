-- A plan whose tables have grown: no count has fallen, and the lists have the same entries up to the old counts. Each step that passed its tests passes
-- them still and names the same buffers and weights; and where steps were added behind the old ones, their tests alone decide. Assumes nothing.
use mathlib.Core.Path.{◌≡◌, refl, sym, ap, subst, ◌∙◌}
use mathlib.Core.Bool.{false}
use mathlib.Core.List.{List, [], ◌∷◌, ◌++◌, map, map-append}
use Prim.Native.Nat.{ℕ, ◌+◌, ◌≤◌}
use native.Mathlib.Omega.{arith}
use lib.ListN.{length, take}
use lib.Ieee.{Float}
use Rattle.lists.proofs.Stores.{part_same}
use Rattle.refusal.specs.Tests.{Test, first, NoneHolds}
use Rattle.refusal.proofs.Laws.{first_append, none_rest}
use Rattle.plan.specs.declared.Plan.{Plan}
use Rattle.plan.specs.declared.Step.{Step}
use Rattle.plan.specs.declared.Step.TheVariants.{Patch, Gain, Matrix, Clear, Send, Output}
use Rattle.plan.specs.Words.{decoded_from}
use Rattle.plan.specs.Check.{outside, shares, steps_tests}
use Rattle.plan.specs.Sound.{Inside, Apart, Each}
use Rattle.plan.specs.Resolved.{Resolved, resolved}
use Rattle.plan.proofs.Steps.{outside_none, shares_none}
use Rattle.plan.proofs.Parts.{end_from, decoded_parts_from, tests_parts}
use Rattle.plan.proofs.Passes.{All, all_none}
use Rattle.plan.proofs.Front.{named_same, shares_same}
use Rattle.std.specs.Prelude.{Ok}

-- no count of a table has fallen
pub record Grew (p q : Plan) : Type 0 where
  pub buffers : p.buffers ≤ q.buffers
  pub indices : p.indices ≤ q.indices
  pub coefficients : p.coefficients ≤ q.coefficients
  pub nodes : p.nodes ≤ q.nodes

-- ---- by the kind of the step: it is inside the grown tables, and names the same where the lists agree up to the counts
module _ {p q : Plan} (g : Grew p q) where
  pub inside_grown : (x : Step) → Inside p x → Inside q x
  inside_grown (Patch i c d) h = (h.0, omega (arith, h.1, g.buffers))
  inside_grown (Gain n s d) h = (omega (arith, h.0, g.nodes), omega (arith, h.1, g.indices), omega (arith, h.2, g.indices))
  inside_grown (Matrix n s d) h = (omega (arith, h.0, g.nodes), omega (arith, h.1, g.indices), omega (arith, h.2, g.indices))
  inside_grown (Clear d) h = omega (arith, h, g.indices)
  inside_grown (Send n s d c) h =
      (omega (arith, h.0, g.nodes), omega (arith, h.1, g.indices), omega (arith, h.2, g.indices), omega (arith, h.3, g.coefficients), h.4)
  inside_grown (Output s o) h = (omega (arith, h.0, g.indices), h.1)

module _ (p : Plan) (xs ys : List ℕ) (e : take p.indices xs ≡ take p.indices ys)
    (us vs : List Float) (f : take p.coefficients us ≡ take p.coefficients vs) (q r : Plan) where
  pub resolved_same : (x : Step) → Inside p x → resolved q xs us x ≡ resolved r ys vs x
  resolved_same (Patch i c d) h = refl
  resolved_same (Gain n s d) h = rw (named_same p xs ys e s h.1, named_same p xs ys e d h.2)
  resolved_same (Matrix n s d) h = rw (named_same p xs ys e s h.1, named_same p xs ys e d h.2)
  resolved_same (Clear d) h = rw (named_same p xs ys e d h)
  resolved_same (Send n s d c) h =
      rw (named_same p xs ys e s h.1, named_same p xs ys e d h.2, part_same c.start c.len p.coefficients us vs f h.3)
  resolved_same (Output s o) h = rw (named_same p xs ys e s h.0)

  -- and a list of steps
  pub all_resolved_same : (ss : List Step) → Each (Inside p) ss → map (resolved q xs us) ss ≡ map (resolved r ys vs) ss
  all_resolved_same [] h = refl
  all_resolved_same (x ∷ ss) h = rw (resolved_same x h.0, all_resolved_same ss h.1)

-- ---- the tests; that of number 7 asks the step alone
module _ {p q : Plan} (g : Grew p q) (old new : List ℕ) (e : take p.indices new ≡ take p.indices old) where
  -- of one step, as they answer
  pub step_grown : (x : Step) → outside p x ≡ false → (outside q x ≡ false) × (shares new x ≡ shares old x)
  step_grown x o =
      let i = (outside_none p x).0 o in
      ((outside_none q x).1 (inside_grown g x i), shares_same p new old e x i)

  -- and of a list of them
  pub all_grown : (n : ℕ) (ss : List Step) → All p old n ss → All q new n ss
  all_grown n ss a =
      let b = go ss a.inside a.apart in
      record { readable = a.readable; inside = b.0; narrow = a.narrow; apart = b.1 }
    where
      go : (ss : List Step) → Each (Inside p) ss → Each (Apart old) ss → Each (Inside q) ss × Each (Apart new) ss
      go [] i a = (tt, tt)
      go (x ∷ ss) i a =
          let s = step_grown x ((outside_none p x).1 i.0) in
          let b = go ss i.1 a.1 in
          (((outside_none q x).0 s.0, b.0), ((shares_none new x).0 (s.1 ∙ (shares_none old x).1 a.0), b.1))

  -- in any words that have the same steps
  pub grown_none : (v w : List ℕ) (n at place : ℕ) → decoded_from w n at ≡ decoded_from v n at → All p old n (decoded_from v n at)
      → NoneHolds (steps_tests q new w n at place)
  grown_none v w n at place d a = all_none q new w n at place (subst (All q new n) (sym d) (all_grown n (decoded_from v n at) a))

  -- ---- steps that were added behind the old ones, whose words end with the last of them
  module _ (xs ys : List ℕ) (n m at : ℕ) (all : All p old n (decoded_from xs n at)) (end : end_from xs n at ≡ length xs) where
    pub new_decide : (place : ℕ) → first (steps_tests q new (xs ++ ys) (n + m) at place) (Ok tt) ≡ first (steps_tests q new ys m 0 (place + n)) (Ok tt)
    new_decide place =
        ap (λ (ts : List Test). first ts (Ok tt)) (tests_parts xs ys n m at all.readable end q new place)
        ∙ first_append (steps_tests q new xs n at place) (steps_tests q new ys m 0 (place + n)) (Ok tt)
        ∙ none_rest (steps_tests q new xs n at place) (first (steps_tests q new ys m 0 (place + n)) (Ok tt))
        (grown_none xs xs n at place refl all)

    pub resolved_parts : (us vs : List Float) → take p.coefficients us ≡ take p.coefficients vs
        → map (resolved q new us) (decoded_from (xs ++ ys) (n + m) at)
        ≡ map (resolved p old vs) (decoded_from xs n at) ++ map (resolved q new us) (decoded_from ys m 0)
    resolved_parts us vs c =
        ap (map (resolved q new us)) (decoded_parts_from xs ys n m at all.readable end)
        ∙ map-append (resolved q new us) (decoded_from xs n at) (decoded_from ys m 0)
        ∙ ap (λ (l : List Resolved). l ++ map (resolved q new us) (decoded_from ys m 0))
        (all_resolved_same p new old e us vs c q p (decoded_from xs n at) all.inside)
