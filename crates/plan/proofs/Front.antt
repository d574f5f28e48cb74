-- The check reads no more of the areas than the plan counts: the first index entries, the ids of the first nodes and the first step words.
-- Areas that agree there have the same answer. Assumes nothing.
use mathlib.Core.Path.{◌≡◌, refl}
use mathlib.Core.Bool.{Bool, true, false}
use mathlib.Core.List.{List}
use Prim.Native.Nat.{ℕ, zero, suc, ◌+◌, ◌<◌}
use native.Mathlib.Omega.{arith}
use lib.ListN.{take}
use Rattle.lists.proofs.Stores.{part_same}
use Rattle.refusal.specs.Tests.{Test, first, Answer}
use Rattle.node.specs.Areas.{id_at}
use Rattle.plan.specs.declared.Plan.{Plan}
use Rattle.plan.specs.declared.Span.{Span}
use Rattle.plan.specs.declared.Step.{Step}
use Rattle.plan.specs.declared.Step.TheVariants.{Patch, Gain, Matrix, Clear, Send, Output}
use Rattle.plan.specs.Words.{read_at}
use Rattle.plan.specs.Check.{id_among, id_twice, named, outside, shares, used, first_of, step_tests, steps_tests, checked}
use Rattle.plan.specs.Sound.{Within, Inside}
use Rattle.plan.proofs.Spans.{used_src, used_dst}
use Rattle.plan.proofs.Steps.{outside_none}
use Rattle.std.specs.Prelude.{Ok, Some, None, Option}

-- ---- the ids
module _ (vs ws : List ℕ) where
  among_same : (n id : ℕ) → ((i : ℕ) → i < n → id_at vs i ≡ id_at ws i) → id_among vs n id ≡ id_among ws n id
  unfolding id_among
  among_same zero id same = refl
  among_same (suc n) id same = rw (same n (omega arith), among_same n id (λ (i : ℕ) (h : i < n). same i (omega arith)))

  pub twice_same : (n : ℕ) → ((i : ℕ) → i < n → id_at vs i ≡ id_at ws i) → id_twice vs n ≡ id_twice ws n
  unfolding id_twice
  twice_same zero same = refl
  twice_same (suc n) same =
      let below : (i : ℕ) → i < n → id_at vs i ≡ id_at ws i = λ i h. same i (omega arith) in
      rw (same n (omega arith), among_same n (id_at ws n) below, twice_same n below)

-- ---- the steps
module _ (p : Plan) (xs ys : List ℕ) (e : take p.indices xs ≡ take p.indices ys) where
  pub named_same : (s : Span) → Within p.indices s → named xs s ≡ named ys s
  named_same s h = part_same s.start s.len p.indices xs ys e h

  -- of a step that is inside its tables
  pub shares_same : (s : Step) → Inside p s → shares xs s ≡ shares ys s
  unfolding shares
  shares_same (Patch i c d) h = refl
  shares_same (Gain n s d) h =
      rw (named_same (first_of (used s d) s) (used_src p.indices s d h.1), named_same (first_of (used s d) d) (used_dst p.indices s d h.2))
  shares_same (Matrix n s d) h = rw (named_same s h.1, named_same d h.2)
  shares_same (Clear d) h = refl
  shares_same (Send n s d c) h = rw (named_same s h.1, named_same d h.2)
  shares_same (Output s o) h = refl

  pub steps_same : (w : List ℕ) (n at place : ℕ) → first (steps_tests p xs w n at place) (Ok tt) ≡ first (steps_tests p ys w n at place) (Ok tt)
  unfolding steps_tests
  steps_same w zero at place = refl
  steps_same w (suc n) at place = go (read_at w at) (λ next. steps_same w n next (place + 1))
    where
      rest : List ℕ → ℕ → List Test
      rest l next = steps_tests p l w n next (place + 1)

      tests : List ℕ → Option (Step × ℕ) → Answer
      tests l r = first (step_tests p l place r (rest l)) (Ok tt)

      go : (r : Option (Step × ℕ)) → ((next : ℕ) → first (rest xs next) (Ok tt) ≡ first (rest ys next) (Ok tt)) → tests xs r ≡ tests ys r
      go (Some (s, next)) ih = by (outside p s) refl
        where
          by : (b : Bool) → outside p s ≡ b → tests xs (Some (s, next)) ≡ tests ys (Some (s, next))
          by true o = rw o
          by false o = rw (o, shares_same s ((outside_none p s).0 o), ih next)
      go None ih = refl

-- ---- the check
pub check_front : (p : Plan) (short : Bool) (xs ys vs ws us zs : List ℕ) → take p.indices xs ≡ take p.indices ys
    → ((i : ℕ) → i < p.nodes → id_at vs i ≡ id_at ws i) → take p.words us ≡ take p.words zs
    → checked p short xs vs us ≡ checked p short ys ws zs
unfolding checked
check_front p short xs ys vs ws us zs e same q =
    rw (e, twice_same vs ws p.nodes same, q, steps_same p xs ys e (take p.words zs) p.steps 0 1)
