-- What follows for the recorder: an input that can change a sample of output s in an accepted run of a clean plan is in the list for s.
-- Assumes nothing.
use mathlib.Core.Path.{◌≡◌, refl, sym, ap, ◌∙◌}
use mathlib.Core.Logic.{inl, inr}
use mathlib.Core.Bool.{Bool, true, false, true≢false}
use mathlib.Core.List.{List, [], ◌∷◌, ◌++◌, append-nil}
use Prim.Native.Nat.{ℕ}
use lib.Ieee.{Float}
use Rattle.lists.specs.Entries.{has}
use Rattle.refusal.specs.Tests.{outcome, Answer}
use Rattle.run.specs.Run.{processed}
use Rattle.run.specs.Calls.{Fixed, Changing, run, given_to, start, answer, steps_of_plan}
use Rattle.theorem.specs.Journal.{Entry, ran, journal}
use Rattle.theorem.specs.Statement.{Channel}
use Rattle.theorem.specs.Traced.{IsClean, list_for}
use Rattle.theorem.specs.Recorder.{Inputs, block, SameInput, block_at, Changes}
use Rattle.theorem.proofs.Moments.{CarryEqual}
use Rattle.theorem.proofs.OneDraft.{Premises, drafts_agree}
use Rattle.std.specs.Prelude.{Ok}

module _ (f : Fixed) (h : Changing) (out : List Float) where
  abbrev n : ℕ
  n = block f h out

  -- the journal of one accepted run
  abbrev entry_of : Inputs → Entry
  entry_of x = ran x.directory x.samples (processed (given_to f x.directory x.samples) (start f h out)).output

  one_entry : (x : Inputs) → answer f h (run x.directory x.samples out) ≡ Ok tt → journal f h (run x.directory x.samples out ∷ []) ≡ entry_of x ∷ []
  one_entry x e = ap (λ (t : Answer). outcome t (entry_of x ∷ []) (λ _. [])) e

  -- an input that is the same in both runs, as journals of one run have it
  carried_same : (x y : Inputs) (j c : ℕ) → SameInput f h out x y j c → CarryEqual n n j c (entry_of x ∷ []) (entry_of y ∷ [])
  carried_same x y j c (inl p) = inl ((p.0, tt), (p.1, tt))
  carried_same x y j c (inr p) = inr ((p.0, tt), (p.1, tt), ap (λ (u : List Float). u ++ []) p.2)

  module _ (clean : IsClean f h) (s q : ℕ) (ch : Channel (steps_of_plan f) s q) (i : ℕ) (change : Changes f h out i q) where
    unlisted_same : has (list_for f s) i ≡ false → block_at f h out change.one q ≡ block_at f h out change.other q
    unlisted_same e =
        let x = change.one in
        let y = change.other in
        let es = one_entry x change.one_accepted in
        let fs = one_entry y change.other_accepted in
        let runs : Premises f f h h (run x.directory x.samples out ∷ []) (run y.directory y.samples out ∷ []) n n =
        record {
          first_block = refl;
          second_block = refl;
          one_draft = record { plan = record { steps = refl; buffers = refl }; nodes = refl };
          clean = clean;
          same_total = rw (es, fs) refl;
          alike = rw (es, fs) refl;
          no_ramps = λ differ. absurd (differ refl);
        } in
        let equal = drafts_agree f f h h (run x.directory x.samples out ∷ []) (run y.directory y.samples out ∷ []) n n runs s
        (rw (es, fs) (λ j c p. carried_same x y j c (change.same_but j c (λ z. true≢false (sym p ∙ ap (has (list_for f s)) z ∙ e))))) q ch in
        let parts = rw (es, fs) at equal.1 in
        sym (append-nil (block_at f h out x q)) ∙ parts ∙ append-nil (block_at f h out y q)

    -- The corollary.
    pub changes_listed : has (list_for f s) i ≡ true
    changes_listed = go (has (list_for f s) i) refl
      where
        go : (t : Bool) → has (list_for f s) i ≡ t → has (list_for f s) i ≡ true
        go true e = e
        go false e = absurd (change.differ (unlisted_same e))
