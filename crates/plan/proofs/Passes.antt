-- The steps of a plan: no test of them holds exactly where each can be read, is inside its tables, narrow, and apart; and then, where the index list was
-- tested, a walk of them finds each so. Assumes nothing.
use mathlib.Core.Path.{◌≡◌, refl, sym, ap, subst}
use mathlib.Core.Bool.{true≢false}
use mathlib.Core.List.{List}
use Prim.Native.Nat.{ℕ, zero, suc, ◌+◌}
use lib.ListN.{length}
use Rattle.refusal.specs.Tests.{Test, NoneHolds}
use Rattle.plan.specs.declared.Plan.{Plan}
use Rattle.plan.specs.declared.Step.{Step}
use Rattle.plan.specs.Words.{read_at, decoded_from}
use Rattle.plan.specs.Check.{step_tests, steps_tests}
use Rattle.plan.specs.Sound.{Inside, Narrow, Apart, Placed, IndexList, Each, Passes}
use Rattle.plan.proofs.Words.{decoded_on, readable_turn}
use Rattle.plan.proofs.Spans.{names}
use Rattle.plan.proofs.Steps.{outside_none, wide_none, shares_none, inside_by}
use Rattle.std.specs.Prelude.{Some, None, Option}

-- a list of n steps that are sound
pub record All (p : Plan) (indices : List ℕ) (n : ℕ) (ss : List Step) : Type 0 where
  pub readable : length ss ≡ n
  pub inside : Each (Inside p) ss
  pub narrow : Each Narrow ss
  pub apart : Each (Apart indices) ss

module _ (p : Plan) (indices w : List ℕ) where
  -- the first of them, and the others
  record Turn (n at : ℕ) : Type 0 where
    step : Step
    next : ℕ
    read : read_at w at ≡ Some (step, next)
    inside : Inside p step
    narrow : Narrow step
    apart : Apart indices step
    rest : All p indices n (decoded_from w n next)

  turn : (n at : ℕ) → All p indices (suc n) (decoded_from w (suc n) at) → Turn n at
  turn n at a =
      let t = readable_turn w n at a.readable in
      let b = subst (All p indices (suc n)) (decoded_on w at {left = suc n} {more = n} refl t.read) a in
      record {
        step = t.step;
        next = t.next;
        read = t.read;
        inside = b.inside.0;
        narrow = b.narrow.0;
        apart = b.apart.0;
        rest = record { readable = t.rest; inside = b.inside.1; narrow = b.narrow.1; apart = b.apart.1 };
      }

  -- ---- no test holds
  pub none_all : (n at place : ℕ) → NoneHolds (steps_tests p indices w n at place) → All p indices n (decoded_from w n at)
  unfolding steps_tests decoded_from
  none_all zero at place h = record { readable = refl; inside = tt; narrow = tt; apart = tt }
  none_all (suc n) at place h = go (read_at w at) refl h (λ next. none_all n next (place + 1))
    where
      rest : ℕ → List Test
      rest next = steps_tests p indices w n next (place + 1)

      go : (r : Option (Step × ℕ)) → read_at w at ≡ r → NoneHolds (step_tests p indices place r rest) → ((next : ℕ) → NoneHolds (rest next) → All p indices n (decoded_from w n next))
          → All p indices (suc n) (decoded_from w (suc n) at)
      go (Some (s, next)) e h ih =
          let a = ih next h.1.1.1.1 in
          subst (All p indices (suc n)) (sym (decoded_on w at {left = suc n} {more = n} refl e))
          (record {
            readable = ap suc a.readable;
            inside = ((outside_none p s).0 h.1.0, a.inside);
            narrow = ((wide_none s).0 h.1.1.0, a.narrow);
            apart = ((shares_none indices s).0 h.1.1.1.0, a.apart);
          })
      go None e h ih = absurd (true≢false h.0)

  pub all_none : (n at place : ℕ) → All p indices n (decoded_from w n at) → NoneHolds (steps_tests p indices w n at place)
  unfolding steps_tests
  all_none zero at place a = tt
  all_none (suc n) at place a =
      let t = turn n at a in
      subst (λ (r : Option (Step × ℕ)). NoneHolds (step_tests p indices place r (λ next. steps_tests p indices w n next (place + 1)))) (sym t.read) (
        refl,
        (
          (outside_none p t.step).1 t.inside,
          (
            (wide_none t.step).1 t.narrow,
            (
              (shares_none indices t.step).1 t.apart,
              all_none n t.next (place + 1) t.rest,
            ),
          ),
        ),
      )

  -- ---- as a walk goes
  pub all_passes : IndexList p indices → (n at : ℕ) → All p indices n (decoded_from w n at) → Passes p indices w n at
  all_passes l zero at a = tt
  all_passes l (suc n) at a =
      let t = turn n at a in
      record {
        step = t.step;
        next = t.next;
        read = t.read;
        placed = inside_by (names p indices l) (λ s h. h) p t.step t.inside;
        narrow = t.narrow;
        apart = t.apart;
        rest = all_passes l n t.next t.rest;
      }

  pub passes_placed : (n at : ℕ) → Passes p indices w n at → Each (Placed p indices) (decoded_from w n at)
  unfolding decoded_from
  passes_placed zero at f = tt
  passes_placed (suc n) at f =
      subst (Each (Placed p indices)) (sym (decoded_on w at {left = suc n} {more = n} refl f.read)) (f.placed, passes_placed n f.next f.rest)
