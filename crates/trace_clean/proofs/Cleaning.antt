-- The clean answer's walk: a list of buffers one by one, what a step is known as, and what holds between two steps. Assumes nothing.
use mathlib.Core.Path.{◌≡◌, refl, sym, ap, ◌∙◌, subst}
use mathlib.Core.Bool.{Bool, true, false, ◌&&◌}
use mathlib.Core.List.{List, [], ◌∷◌, map}
use Prim.Native.Nat.{ℕ, zero, suc, ◌+◌, ◌-◌, ◌≤◌, ◌<◌}
use native.Mathlib.Nat.{sub-zero}
use native.Mathlib.Omega.{arith}
use lib.ListN.{length}
use Rattle.sets.specs.declared.Set.{Set}
use Rattle.sets.specs.Sets.{member}
use Rattle.plan.specs.declared.Plan.{Plan}
use Rattle.plan.specs.declared.Step.{Step}
use Rattle.plan.specs.Limits.{unit_limits}
use Rattle.plan.specs.Words.{read_at, decoded_from, decoded}
use Rattle.plan.specs.Sound.{Placed, Passes, Tested}
use Rattle.plan.specs.Resolved.{Resolved, resolved}
use Rattle.plan.proofs.Answers.{rest_of}
use Rattle.plan.proofs.Words.{decoded_on, decoded_bad, decoded_none}
use Rattle.plan.proofs.Accepted.{pass_placed, pass_rest}
use Rattle.trace.specs.Clean.{none_written, written_after, all, clean_step, clean_from, clean}
use Rattle.std.specs.Prelude.{Some, None}
use Rattle.std.specs.Bool.{MatchBool}
use Rattle.std.specs.List.{AllWithin, HoldsAt}

-- ---- a list of buffers, tested one by one
module _ (w : ℕ → Bool) where
  all_true : (xs : List ℕ) → AllWithin (λ x. w x ≡ true) xs 0 (length xs) → all w xs ≡ true
  unfolding all
  all_true [] h = refl
  all_true (x ∷ xs) h = rw (h 0 0 (omega arith) (omega arith)) (all_true xs (λ k d a b. h (suc k) d (omega arith) (omega arith)))

  all_false : (xs : List ℕ) (k : ℕ) → k < length xs → HoldsAt (λ x. w x ≡ false) xs k → all w xs ≡ false
  unfolding all
  all_false [] k b h = absurd (omega arith)
  all_false (x ∷ xs) zero b h = rw (h 0)
  all_false (x ∷ xs) (suc k) b h = go (w x) (all_false xs k (omega arith) (λ d. h d))
    where
      go : (t : Bool) → all w xs ≡ false → (t && all w xs) ≡ false
      go true e = e
      go false e = refl

  pub all_says : (xs : List ℕ) (r : Bool)
      → MatchBool r (AllWithin (λ x. w x ≡ true) xs 0 (length xs)) ((k : ℕ) × (k < length xs) × HoldsAt (λ x. w x ≡ false) xs k) → r ≡ all w xs
  all_says xs true h = sym (all_true xs h)
  all_says xs false h = sym (all_false xs h.0 h.1 h.2)

-- ---- a step by what was read
pub placed_as : (p : Plan) (indices : List ℕ) {x y : Step} → x ≡ y → Placed p indices x → Placed p indices y
placed_as p indices e h = subst (λ (z : Step). Placed p indices z) e h

module _ (p : Plan) (indices : List ℕ) (w : ℕ → Bool) {x y : Step} (e : x ≡ y) where
  pub clean_as : {t : Bool} → t ≡ clean_step w (resolved p indices [] y) → t ≡ clean_step w (resolved p indices [] x)
  clean_as h = h ∙ ap (λ (z : Step). clean_step w (resolved p indices [] z)) (sym e)

  pub written_as : (s : Set) → ((b : ℕ) → member s b ≡ written_after w (resolved p indices [] y) b) → (b : ℕ) → member s b ≡ written_after w (resolved p indices [] x) b
  written_as s h b = h b ∙ ap (λ (z : Step). written_after w (resolved p indices [] z) b) (sym e)

-- ---- between two steps
module _ (p : Plan) (indices w : List ℕ) where
  abbrev from : ℕ → ℕ → List Resolved
  from i at = map (resolved p indices []) (decoded_from w (p.steps - i) at)

  abbrev whole : Bool
  whole = clean (map (resolved p indices []) (decoded w p.steps))

  -- i steps are behind, and each may stand where it does: the plan is clean where the steps left are, from the buffers that are written
  pub record Cleaning (set : Set) (at i : ℕ) : Type 0 where
    pub turns : i ≤ p.steps
    pub plan : Tested p indices w
    pub pass : Passes p indices w (p.steps - i) at
    pub so : whole ≡ clean_from (member set) (from i at)

  pub cleaning_starts : (set : Set) → ((b : ℕ) → member set b ≡ false) → Tested p indices w → Cleaning set 0 0
  unfolding decoded clean
  cleaning_starts set z c =
      let e : none_written ≡ member set = λ t b. sym (z b) t in
      record {
        turns = omega arith;
        plan = c;
        pass = rw sub-zero c.pass;
        so = rw sub-zero (ap (λ (f : ℕ → Bool). clean_from f (map (resolved p indices []) (decoded_from w p.steps 0))) e);
      }

  module _ {set : Set} {at i : ℕ} (c : Cleaning set at i) where
    module _ (h : i < p.steps) {x : Step} {next : ℕ} (r : read_at w at ≡ Some (x, next)) where
      pub cleaning_fits : Placed p indices x × (p.buffers ≤ unit_limits.buffers)
      cleaning_fits = (pass_placed p indices w at (rest_of h) c.pass r, c.plan.buffers)

      turn : whole ≡ (clean_step (member set) (resolved p indices [] x) && clean_from (written_after (member set) (resolved p indices [] x)) (from (i + 1) next))
      unfolding clean_from
      turn = c.so ∙ ap (λ (ss : List Step). clean_from (member set) (map (resolved p indices []) ss)) (decoded_on w at (rest_of h) r)

      pub cleaning_no : clean_step (member set) (resolved p indices [] x) ≡ false → false ≡ whole
      cleaning_no e = sym (turn ∙ rw e)

      pub cleaning_on : (set' : Set) → clean_step (member set) (resolved p indices [] x) ≡ true
          → ((b : ℕ) → member set' b ≡ written_after (member set) (resolved p indices [] x) b) → Cleaning set' next (i + 1)
      cleaning_on set' e m =
          let f : written_after (member set) (resolved p indices [] x) ≡ member set' = λ t b. sym (m b) t in
          record {
            turns = omega arith;
            plan = c.plan;
            pass = pass_rest p indices w at (rest_of h) c.pass r;
            so =
                turn
                ∙ ap (λ (t : Bool). t && clean_from (written_after (member set) (resolved p indices [] x)) (from (i + 1) next)) e
                ∙ ap (λ (g : ℕ → Bool). clean_from g (from (i + 1) next)) f;
          }

    ended : decoded_from w (p.steps - i) at ≡ [] → true ≡ whole
    unfolding clean_from
    ended e = sym (c.so ∙ ap (λ (ss : List Step). clean_from (member set) (map (resolved p indices []) ss)) e)

    pub cleaning_bad : i < p.steps → read_at w at ≡ None → true ≡ whole
    cleaning_bad h r = ended (decoded_bad w at (rest_of h) r)

    pub cleaning_ends : p.steps ≤ i → true ≡ whole
    cleaning_ends h = ended (decoded_none w at {left = p.steps - i} (omega arith))
