-- Two more premises of the theorem that are not idle: builds of other calls, and totals that differ. Assumes nothing.
use Prim.Native.Nat.{ℕ}
use native.Mathlib.Omega.{arith}
use mathlib.Core.Path.{◌≡◌, refl, ap}
use mathlib.Core.Logic.{inr}
use mathlib.Core.List.{List, [], ◌∷◌}
use lib.ListN.{length}
use lib.Ieee.{Float}
use Rattle.mix.specs.Samples.{silence}
use Rattle.plan.specs.Resolved.{patch, clear}
use Rattle.builder.specs.Built.{buffers, node}
use Rattle.theorem.specs.Builds.{Build, Finished, accepted_calls}
use Rattle.theorem.specs.Journal.{total}
use Rattle.theorem.specs.Statement.{Lists, a, b, first_journal, second_journal, ListedCarryEqual, ChannelOf, SameOutput}
use Rattle.theorem.proofs.ExampleParts.{definitions, one, two, one_two, sample_at, lent_for, singles, patch_step, gain_step, clear_step, output_step, feed, BuiltBy, itself, some_channel_from, none_listed, one_listed}
use Rattle.theorem.proofs.ExamplePremises.{CleanPlan, Alike, NoRamps, same_blocks}

-- ---- "built twice by the same builder calls": else the second plan may do something else

-- input 0 as it is, and twice as loud
abbrev plain : Build
plain = record { block = 1; lent = lent_for 1 0 0 8 1; calls = singles (buffers 1 ∷ patch_step 0 0 0 ∷ output_step 0 1 0 ∷ []) }

abbrev doubled : Build
doubled =
    record {
      block = 1;
      lent = lent_for 2 0 1 14 2;
      calls = singles (buffers 2 ∷ node 7 (two ∷ []) 0 0 ∷ patch_step 0 0 0 ∷ gain_step 0 0 1 1 1 ∷ output_step 1 1 0 ∷ []);
    }

plain_built : BuiltBy plain plain.calls
unfolding definitions
plain_built = record { finished = record { new = refl; finish = refl }; accepted = refl }

doubled_built : BuiltBy doubled doubled.calls
unfolding definitions
doubled_built = record { finished = record { new = refl; finish = refl }; accepted = refl }

abbrev other_lists : Lists
other_lists = record { first = plain; second = doubled; first_calls = feed 0 (one ∷ []) 1 ∷ []; second_calls = feed 0 (one ∷ []) 1 ∷ [] }

other_channel : ChannelOf other_lists 0 0
unfolding definitions
other_channel = record { before = patch 0 0 0 ∷ []; src = 0 ∷ []; after = []; split = refl; c = 0; inside = omega arith; place = refl }

other_listed : ListedCarryEqual other_lists 0
unfolding definitions some_channel_from
other_listed =
    one_listed other_lists (itself other_lists) 0 0 1 refl (omega arith) (omega arith) refl refl (inr ((omega arith, tt), (omega arith, tt), refl), tt)

other_differs : SameOutput other_lists 0 → ⊥
unfolding definitions
other_differs same =
    let e : one ∷ [] ≡ two ∷ [] = (same 0 other_channel).1 in
    one_two (ap (sample_at 0) e)

pub same_calls_needed :
    ((l : Lists) (s : ℕ) → Finished l.first → Finished l.second → total (a l) (first_journal l) ≡ total (b l) (second_journal l) → CleanPlan l → Alike l → NoRamps l
    → ListedCarryEqual l s → SameOutput l s) → ⊥
unfolding definitions
same_calls_needed claim =
    other_differs
    (claim other_lists 0 plain_built.finished doubled_built.finished refl refl refl (same_blocks other_lists refl) other_listed)

-- ---- "the accepted runs of each add up to T samples": else one list writes more than the other

-- an Output of a buffer that is cleared, so that no input is listed; run once, and not at all
abbrev quiet : Build
quiet = record { block = 1; lent = lent_for 1 0 0 7 1; calls = singles (buffers 1 ∷ clear_step 0 1 ∷ output_step 0 1 0 ∷ []) }

quiet_built : BuiltBy quiet quiet.calls
unfolding definitions
quiet_built = record { finished = record { new = refl; finish = refl }; accepted = refl }

abbrev quiet_lists : Lists
quiet_lists = record { first = quiet; second = quiet; first_calls = feed 0 (one ∷ []) 1 ∷ []; second_calls = [] }

quiet_channel : ChannelOf quiet_lists 0 0
unfolding definitions
quiet_channel = record { before = clear (0 ∷ []) ∷ []; src = 0 ∷ []; after = []; split = refl; c = 0; inside = omega arith; place = refl }

quiet_listed : ListedCarryEqual quiet_lists 0
unfolding definitions
quiet_listed = none_listed quiet_lists 0 refl

quiet_differs : SameOutput quiet_lists 0 → ⊥
unfolding definitions
quiet_differs same =
    let e : silence ∷ [] ≡ [] = (same 0 quiet_channel).1 in
    let z : ◌≡◌ {A = ℕ} 1 0 = ap (λ (xs : List Float). length xs) e in
    omega arith

pub same_total_needed :
    ((l : Lists) (s : ℕ) → Finished l.first → Finished l.second → accepted_calls l.first ≡ accepted_calls l.second → CleanPlan l → Alike l → NoRamps l
    → ListedCarryEqual l s → SameOutput l s) → ⊥
unfolding definitions
same_total_needed claim =
    quiet_differs
    (claim quiet_lists 0 quiet_built.finished quiet_built.finished refl refl refl (same_blocks quiet_lists refl) quiet_listed)
