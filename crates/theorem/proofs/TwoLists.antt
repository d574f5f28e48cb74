-- The two-list theorem: demand 3 as specs/Statement.antt has it. Two builds of the same accepted calls hold one draft, so it is what `drafts_agree`
-- says of them. Assumes nothing.
use Prim.Native.Nat.{ℕ}
use Rattle.theorem.specs.Builds.{after_calls, fixed, changing}
use Rattle.theorem.specs.Statement.{Lists, a, b, Given, ListedCarryEqual, SameOutput}
use Rattle.theorem.proofs.CleanPlans.{clean_sound}
use Rattle.theorem.proofs.OneDraft.{drafts_agree}
use Rattle.theorem.proofs.Drafts.{one_draft}
use Rattle.theorem.proofs.Builds.{block_kept, draft, is_drafted, drafted_too, built_rest}

-- Demand 3.
pub two_lists : (l : Lists) → Given l → (s : ℕ) → ListedCarryEqual l s → SameOutput l s
two_lists l given =
    let x = l.first in
    let y = l.second in
    let inside = (clean_sound (fixed x) (changing x).words given.clean).inside in
    drafts_agree (fixed x) (fixed y) (changing x) (changing y) l.first_calls l.second_calls (a l) (b l)
    (record {
      first_block = block_kept x;
      second_block = block_kept y;
      one_draft = one_draft (after_calls x) (after_calls y) (draft x) (is_drafted x) (drafted_too x y given.same_calls) inside (changing x).buffers (changing y).buffers;
      clean = given.clean;
      same_total = given.same_total;
      alike = given.alike;
      no_ramps = λ differ. let r = given.no_ramps differ in (built_rest x r.0, r.1, r.2);
    })
