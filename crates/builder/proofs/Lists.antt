-- A list of calls, one part after the other, and what each of its accepted calls keeps. Assumes nothing.
use mathlib.Core.Path.{◌≡◌, refl, sym, subst}
use mathlib.Core.List.{List, [], ◌∷◌, ◌++◌}
use Rattle.plan.specs.declared.Limits.{Limits}
use Rattle.builder.specs.Built.{BuilderCall, Asked, BuilderState, answer, after, built}
use Rattle.builder.proofs.Refusals.{refused_nothing}
use Rattle.refusal.specs.Tests.{Answer}
use Rattle.std.specs.Prelude.{Ok, Err}

pub built_append : (s : BuilderState) (xs ys : List (Asked BuilderCall)) → built s (xs ++ ys) ≡ built (built s xs) ys
built_append s [] ys = refl
built_append s (x ∷ xs) ys = built_append (after x.limits s x.call) xs ys

-- ---- what each accepted call keeps, a list of calls keeps
module _ (P : BuilderState → Type 0) (keeps : (l : Limits) (s : BuilderState) (c : BuilderCall) → answer l s c ≡ Ok tt → P s → P (after l s c)) where
  pub one_keeps : (l : Limits) (s : BuilderState) (c : BuilderCall) → P s → P (after l s c)
  one_keeps l s c p = go (answer l s c) refl
    where
      go : (a : Answer) → answer l s c ≡ a → P (after l s c)
      go (Ok _) e = keeps l s c e p
      go (Err r) e = subst P (sym (refused_nothing l s c r e)) p

  pub all_keep : (cs : List (Asked BuilderCall)) (s : BuilderState) → P s → P (built s cs)
  all_keep [] s p = p
  all_keep (c ∷ cs) s p = all_keep cs (after c.limits s c.call) (one_keeps c.limits s c.call p)
