-- An adoption, accepted or refused: what it leaves of the new plan's nodes. Assumes nothing.
use mathlib.Core.Path.{◌≡◌, refl, sym, ap, ◌∙◌}
use mathlib.Core.Bool.{true, false}
use mathlib.Core.List.{List}
use Prim.Native.Nat.{ℕ}
use Rattle.refusal.specs.declared.Refusal.{Refusal}
use Rattle.node.specs.declared.Node.{Node}
use Rattle.node.specs.Areas.{left_at, node_at}
use Rattle.adoption.specs.Adoption.{Lent, lent, node_in, bad_nodes, adopted, pairs_adopted, adoption_answer, adoption_floats, adoption_words}
use Rattle.adoption.specs.Fits.{Fit}
use Rattle.adoption.proofs.Answers.{accepted_fit, floats_refused, words_refused, floats_accepted, words_accepted}
use Rattle.adoption.proofs.Adopted.{adopted_left}
use Rattle.adoption.proofs.Pairs.{lent_same}
use Rattle.adoption.proofs.Kept.{Kept, kept_self, pairs_fit, pairs_kept}
use Rattle.adoption.proofs.Named.{named, last_old, pairs_unnamed, pairs_named}
use Rattle.refusal.specs.Tests.{Answer}
use Rattle.std.specs.Prelude.{Ok, Err}

module _ (new old : Lent) (pairs : List ℕ) (ramp : ℕ) where
  -- the new plan's nodes after it
  abbrev pub after : Lent
  after = lent new.count (adoption_floats new old pairs ramp) (adoption_words new old pairs ramp)

  -- a refused adoption changes nothing
  pub after_refused : {r : Refusal} → adoption_answer new old pairs ramp ≡ Err r → after ≡ new
  after_refused e = lent_same new refl (floats_refused new old pairs ramp e) (words_refused new old pairs ramp e)

  pub after_accepted : adoption_answer new old pairs ramp ≡ Ok tt → after ≡ pairs_adopted old ramp pairs new
  after_accepted e =
      lent_same (pairs_adopted old ramp pairs new) (sym (pairs_kept pairs (accepted_fit new old pairs ramp e)).count)
      (floats_accepted new old pairs ramp e) (words_accepted new old pairs ramp e)

  -- what holds of the new plan's nodes as they were, and after the pairs of an accepted adoption, holds after the call
  of_call : (P : Lent → Type 0) → P new → (Fit new old ramp → P (pairs_adopted old ramp pairs new)) → P after
  of_call P p q = go (adoption_answer new old pairs ramp) refl
    where
      go : (a : Answer) → adoption_answer new old pairs ramp ≡ a → P after
      go (Ok _) e = rw (after_accepted e) (q (accepted_fit new old pairs ramp e))
      go (Err r) e = rw (after_refused e) p

  -- it keeps the areas' lengths and each node's id, len and safe
  pub adoption_kept : Kept new after
  adoption_kept = of_call (Kept new) (kept_self new) (pairs_kept pairs)

  -- the test of number 14 answers as before: an adoption makes no node bad, and one with a bad node is refused
  pub adoption_good : bad_nodes after ≡ bad_nodes new
  adoption_good = of_call (λ (l : Lent). bad_nodes l ≡ bad_nodes new) refl (λ f. (pairs_fit pairs f).good ∙ sym f.good)

  -- a node that no pair names, or whose pairs are all skipped, is unchanged
  pub adoption_unnamed : (i : ℕ) → named new old i pairs ≡ false → node_in after i ≡ node_in new i
  adoption_unnamed i e =
      of_call (λ (l : Lent). node_in l i ≡ node_in new i) refl (λ f. pairs_unnamed i pairs f (kept_self new) e)

  -- any other takes the old cur of the last pair that names it, and has the ramp left
  pub adoption_named : (i : ℕ) → adoption_answer new old pairs ramp ≡ Ok tt → named new old i pairs ≡ true
      → node_in after i ≡ adopted (node_in new i) (node_in old (last_old new old i pairs 0)) ramp
  adoption_named i a e = ap (λ (l : Lent). node_in l i) (after_accepted a) ∙ pairs_named i pairs (accepted_fit new old pairs ramp a) (kept_self new) 0 e

  pub adoption_left : (i : ℕ) → adoption_answer new old pairs ramp ≡ Ok tt → named new old i pairs ≡ true → left_at after.words i ≡ ramp
  unfolding node_at
  adoption_left i a e = ap (λ (n : Node). n.left) (adoption_named i a e) ∙ adopted_left (node_in new i) (node_in old (last_old new old i pairs 0)) ramp
