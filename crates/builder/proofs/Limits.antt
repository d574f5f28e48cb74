-- The tests of the limits, in front of a call's other tests: what it is that none of them holds, and that they answer in turn. Assumes nothing.
use mathlib.Core.Path.{◌≡◌, sym, ap, ◌∙◌}
use mathlib.Core.Logic.{◌↔◌}
use mathlib.Core.Bool.{true, false}
use mathlib.Core.List.{List, ◌∷◌, ◌++◌}
use Rattle.refusal.specs.Tests.{refusal, Test, test, first, NoneHolds, Answer}
use Rattle.refusal.specs.declared.Refusal.{Refusal}
use Rattle.refusal.proofs.Laws.{first_yes, first_no, first_append, none_rest, none_split, none_join, accepted_none, none_accepted, refused_rest}
use Rattle.plan.specs.declared.Plan.{Plan}
use Rattle.plan.specs.declared.Limits.{Limits}
use Rattle.builder.specs.declared.Growth.{Growth}
use Rattle.builder.specs.declared.Lengths.{Lengths}
use Rattle.builder.specs.Growth.{grows_over, limit_tests, grows_past, growth_tests}
use Rattle.refusal.specs.declared.Reason.TheVariants.{ShortArea}
use Rattle.std.specs.Prelude.{Ok, Err, None}

module _ (l : Limits) (p : Plan) (g : Growth) where
  -- what they answer where code makes the growth and asks them
  pub limits_say : {made : Growth} {a b : Answer} → made ≡ g → a ≡ first (limit_tests l p made) (Ok tt) → a ≡ b → first (limit_tests l p g) (Ok tt) ≡ b
  limits_say m e f = ap (λ (h : Growth). first (limit_tests l p h) (Ok tt)) (sym m) ∙ sym e ∙ f

  module _ (others : List Test) where
    -- no count is above its limit, and none of the others holds
    pub limits_passed : NoneHolds (limit_tests l p g ++ others) → (grows_over l p g ≡ false) × NoneHolds others
    limits_passed n = n

    -- where they refuse, the call does; where they do not, the others answer
    pub limits_refused : (r : Refusal) → first (limit_tests l p g) (Ok tt) ≡ Err r → first (limit_tests l p g ++ others) (Ok tt) ≡ Err r
    limits_refused r e = first_append (limit_tests l p g) others (Ok tt) ∙ refused_rest (limit_tests l p g) (first others (Ok tt)) r e

    pub limits_accepted : first (limit_tests l p g) (Ok tt) ≡ Ok tt → first (limit_tests l p g ++ others) (Ok tt) ≡ first others (Ok tt)
    limits_accepted e =
        first_append (limit_tests l p g) others (Ok tt) ∙ none_rest (limit_tests l p g) (first others (Ok tt)) (accepted_none (limit_tests l p g) (Ok tt) e).0

  -- so of the tests of a call with this growth
  module _ (lent : Lengths) (own : List Test) where
    abbrev short : Test
    short = test ShortArea (grows_past p g lent)

    pub growth_passed : NoneHolds (growth_tests l p g lent own) → (grows_over l p g ≡ false) × ((grows_past p g lent ≡ false) × NoneHolds own)
    growth_passed n = limits_passed (short ∷ own) n

    -- accepted exactly where no limit is met, no area is too short and none of its own holds
    pub growth_exactly : (first (growth_tests l p g lent own) (Ok tt) ≡ Ok tt) ↔ (NoneHolds (limit_tests l p g) × ((grows_past p g lent ≡ false) × NoneHolds own))
    growth_exactly = (
      λ e. none_split (limit_tests l p g) (short ∷ own) (accepted_none (growth_tests l p g lent own) (Ok tt) e).0,
      λ h. none_accepted (growth_tests l p g lent own) (none_join (limit_tests l p g) (short ∷ own) h.0 h.1),
    )

    pub growth_refused : (r : Refusal) → first (limit_tests l p g) (Ok tt) ≡ Err r → first (growth_tests l p g lent own) (Ok tt) ≡ Err r
    growth_refused r e = limits_refused (short ∷ own) r e

    pub growth_short : first (limit_tests l p g) (Ok tt) ≡ Ok tt → grows_past p g lent ≡ true
        → first (growth_tests l p g lent own) (Ok tt) ≡ Err (refusal ShortArea None)
    growth_short e s = limits_accepted (short ∷ own) e ∙ first_yes short own (Ok tt) s

    pub growth_own : first (limit_tests l p g) (Ok tt) ≡ Ok tt → grows_past p g lent ≡ false
        → first (growth_tests l p g lent own) (Ok tt) ≡ first own (Ok tt)
    growth_own e s = limits_accepted (short ∷ own) e ∙ first_no short own (Ok tt) s
