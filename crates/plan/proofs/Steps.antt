-- The tests of a step in plain terms: each does not hold exactly where the step is inside its tables, narrow, and apart. Assumes nothing.
use mathlib.Core.Path.{◌≡◌, refl, sym, ap, ◌∙◌}
use mathlib.Core.Bool.{Bool, false}
use mathlib.Core.List.{List}
use mathlib.Core.Logic.{◌↔◌}
use Prim.Native.Nat.{ℕ}
use borrow.Author.Tests.{ltb-false, leb-false, le-ltb, lt-leb}
use Rattle.std.proofs.lemmas.Bool.{or_parts}
use Rattle.lists.proofs.Entries.{meet_none}
use Rattle.plan.specs.declared.Plan.{Plan}
use Rattle.plan.specs.declared.Span.{Span}
use Rattle.plan.specs.declared.Step.{Step}
use Rattle.plan.specs.declared.Step.TheVariants.{Patch, Gain, Matrix, Clear, Send, Output}
use Rattle.plan.specs.Check.{past, outside_by, outside, too_wide, shares}
use Rattle.plan.specs.Sound.{Within, InsideBy, Inside, Narrow, Apart}

-- ---- number 4
module _ {index weights : Span → Bool} {Index Weights : Span → Type 0}
    (i-none : (s : Span) → (index s ≡ false) ↔ Index s) (w-none : (s : Span) → (weights s ≡ false) ↔ Weights s) where
  pub outside_none_by : (p : Plan) (x : Step) → (outside_by index weights p x ≡ false) ↔ InsideBy Index Weights p x
  unfolding outside_by
  outside_none_by p (Patch i c d) =
      (λ e. let a = or_parts _ _ e in (leb-false _ _ a.0, leb-false _ _ a.1), λ h. rw (lt-leb _ _ h.0, lt-leb _ _ h.1))
  outside_none_by p (Gain n s d) = (
    λ e.
        let b = or_parts _ _ e in
        let a = or_parts _ _ b.0 in
        (leb-false _ _ a.0, (i-none s).0 a.1, (i-none d).0 b.1),
    λ h. rw (lt-leb _ _ h.0, (i-none s).1 h.1, (i-none d).1 h.2),
  )
  outside_none_by p (Matrix n s d) = (
    λ e.
        let b = or_parts _ _ e in
        let a = or_parts _ _ b.0 in
        (leb-false _ _ a.0, (i-none s).0 a.1, (i-none d).0 b.1),
    λ h. rw (lt-leb _ _ h.0, (i-none s).1 h.1, (i-none d).1 h.2),
  )
  outside_none_by p (Clear d) = (λ e. (i-none d).0 e, λ h. (i-none d).1 h)
  outside_none_by p (Send n s d c) = (
    λ e.
        let y = or_parts _ _ e in
        let x = or_parts _ _ y.0 in
        let b = or_parts _ _ x.0 in
        let a = or_parts _ _ b.0 in
        (leb-false _ _ a.0, (i-none s).0 a.1, (i-none d).0 b.1, (w-none c).0 x.1, ltb-false _ _ y.1),
    λ h. rw (lt-leb _ _ h.0, (i-none s).1 h.1, (i-none d).1 h.2, (w-none c).1 h.3, le-ltb _ _ h.4),
  )
  outside_none_by p (Output s o) =
      (λ e. let a = or_parts _ _ e in ((i-none s).0 a.0, leb-false _ _ a.1), λ h. rw ((i-none s).1 h.0, lt-leb _ _ h.1))

past_none : (n : ℕ) (s : Span) → (past n s ≡ false) ↔ Within n s
past_none n s = (λ e. ltb-false _ _ e, λ h. le-ltb _ _ h)

pub outside_none : (p : Plan) (x : Step) → (outside p x ≡ false) ↔ Inside p x
outside_none p x = outside_none_by (past_none p.indices) (past_none p.coefficients) p x

-- where other facts of a span follow
pub inside_by : {I J W Z : Span → Type 0} → ((s : Span) → I s → J s) → ((s : Span) → W s → Z s) → (p : Plan) (x : Step) → InsideBy I W p x → InsideBy J Z p x
inside_by f g p (Patch i c d) h = h
inside_by f g p (Gain n s d) h = (h.0, f s h.1, f d h.2)
inside_by f g p (Matrix n s d) h = (h.0, f s h.1, f d h.2)
inside_by f g p (Clear d) h = f d h
inside_by f g p (Send n s d c) h = (h.0, f s h.1, f d h.2, g c h.3, h.4)
inside_by f g p (Output s o) h = (f s h.0, h.1)

-- of a step that is known to be of a kind
pub inside_as : (p : Plan) {step s : Step} → outside p step ≡ false → step ≡ s → Inside p s
inside_as p {step} {s} o e = (outside_none p s).0 (ap (outside p) (sym e) ∙ o)

-- ---- number 7
pub wide_none : (s : Step) → (too_wide s ≡ false) ↔ Narrow s
unfolding too_wide
wide_none (Patch i c d) = (λ e. tt, λ h. refl)
wide_none (Gain n s d) = (λ e. ltb-false _ _ e, λ h. le-ltb _ _ h)
wide_none (Matrix n s d) = (λ e. ltb-false _ _ e, λ h. le-ltb _ _ h)
wide_none (Clear d) = (λ e. tt, λ h. refl)
wide_none (Send n s d c) = (λ e. tt, λ h. refl)
wide_none (Output s o) = (λ e. tt, λ h. refl)

-- ---- number 6
pub shares_none : (indices : List ℕ) (s : Step) → (shares indices s ≡ false) ↔ Apart indices s
unfolding shares
shares_none indices (Patch i c d) = (λ e. tt, λ h. refl)
shares_none indices (Gain n s d) = meet_none _ _
shares_none indices (Matrix n s d) = meet_none _ _
shares_none indices (Clear d) = (λ e. tt, λ h. refl)
shares_none indices (Send n s d c) = meet_none _ _
shares_none indices (Output s o) = (λ e. tt, λ h. refl)
