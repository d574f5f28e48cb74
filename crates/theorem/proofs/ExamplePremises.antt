-- Four premises of the theorem that are not idle: for each, two builds and two lists of calls, computed, for which all the others hold and the
-- outputs differ, so that the claim without it is false. Assumes nothing.
use Prim.Native.Nat.{ℕ}
use native.Mathlib.Omega.{arith}
use mathlib.Core.Path.{◌≡◌, refl, sym, ap, ◌∙◌}
use mathlib.Core.Logic.{inr}
use mathlib.Core.List.{List, [], ◌∷◌}
use Rattle.mix.specs.Samples.{silence}
use Rattle.plan.specs.Resolved.{patch, gain}
use Rattle.builder.specs.Built.{buffers, node}
use Rattle.insert.specs.Layout.{LayoutCall}
use Rattle.trace.specs.Calls.{clean_answer}
use Rattle.run.specs.Calls.{Call, set}
use Rattle.theorem.specs.Builds.{Build, Finished, accepted_calls, fixed, changing, NoRampBuilt}
use Rattle.theorem.specs.Journal.{total, settings_from, NoRampSet}
use Rattle.theorem.specs.Statement.{Lists, a, b, first_journal, second_journal, Given, ListedCarryEqual, ChannelOf, SameOutput}
use Rattle.theorem.proofs.ExampleParts.{definitions, one, two, three, four, one_two, two_three, sample_at, lent_for, singles, patch_step, gain_step, output_step, feed, BuiltBy, itself, some_channel_from, none_listed, one_listed}
use Rattle.std.specs.Prelude.{true, Ok}

-- ---- the premises one by one; together they are `Given`

pub record Common (l : Lists) : Type 0 where
  pub first_finished : Finished l.first
  pub second_finished : Finished l.second
  pub same_calls : accepted_calls l.first ≡ accepted_calls l.second
  pub same_total : total (a l) (first_journal l) ≡ total (b l) (second_journal l)

pub common_of : (l : Lists) {calls : List LayoutCall} → BuiltBy l.first calls → BuiltBy l.second calls
    → total (a l) (first_journal l) ≡ total (b l) (second_journal l) → Common l
common_of l first second e =
    record {
      first_finished = first.finished;
      second_finished = second.finished;
      same_calls = first.accepted ∙ sym second.accepted;
      same_total = e;
    }

abbrev pub CleanPlan : Lists → Type 0
CleanPlan l = clean_answer (fixed l.first).plan (fixed l.first).indices (changing l.first).words (fixed l.first).steps ≡ (Ok true)

abbrev pub Alike : Lists → Type 0
Alike l = settings_from (a l) 0 (first_journal l) ≡ settings_from (b l) 0 (second_journal l)

abbrev pub NoRamps : Lists → Type 0
NoRamps l = (a l ≡ b l → ⊥) → NoRampBuilt (accepted_calls l.first) × NoRampSet (first_journal l) × NoRampSet (second_journal l)

pub given_all : (l : Lists) → Common l → CleanPlan l → Alike l → NoRamps l → Given l
given_all l c clean alike no_ramps =
    record {
      first_finished = c.first_finished;
      second_finished = c.second_finished;
      same_calls = c.same_calls;
      clean = clean;
      same_total = c.same_total;
      alike = alike;
      no_ramps = no_ramps;
    }

-- blocks of one length
pub same_blocks : (l : Lists) → a l ≡ b l → NoRamps l
same_blocks l e differ = absurd (differ e)

-- ---- "a clean plan": else a run may write what an input that is not listed carried in the run before

-- an Output of buffer 0, and only then a Patch of input 3 to it
abbrev late : Build
late = record { block = 1; lent = lent_for 1 0 0 8 1; calls = singles (buffers 1 ∷ output_step 0 1 0 ∷ patch_step 3 0 0 ∷ []) }

late_built : BuiltBy late late.calls
unfolding definitions
late_built = record { finished = record { new = refl; finish = refl }; accepted = refl }

abbrev late_lists : Lists
late_lists =
    record {
      first = late;
      second = late;
      first_calls = feed 3 (one ∷ []) 1 ∷ feed 3 (three ∷ []) 1 ∷ [];
      second_calls = feed 3 (two ∷ []) 1 ∷ feed 3 (three ∷ []) 1 ∷ [];
    }

late_common : Common late_lists
unfolding definitions
late_common = common_of late_lists late_built late_built refl

late_channel : ChannelOf late_lists 0 0
unfolding definitions
late_channel = record { before = []; src = 0 ∷ []; after = patch 3 0 0 ∷ []; split = refl; c = 0; inside = omega arith; place = refl }

late_listed : ListedCarryEqual late_lists 0
unfolding definitions
late_listed = none_listed late_lists 0 refl

-- 0 and 1 against 0 and 2
late_differs : SameOutput late_lists 0 → ⊥
unfolding definitions
late_differs same =
    let e : silence ∷ one ∷ [] ≡ silence ∷ two ∷ [] = (same 0 late_channel).1 in
    one_two (ap (sample_at 1) e)

pub clean_needed : ((l : Lists) (s : ℕ) → Common l → Alike l → NoRamps l → ListedCarryEqual l s → SameOutput l s) → ⊥
unfolding definitions
clean_needed claim = late_differs (claim late_lists 0 late_common refl (same_blocks late_lists refl) late_listed)

-- ---- "the inputs that the trace lists behind s carry equal samples": else an input that differs is heard

-- an Output of what a Patch of input 0 wrote
abbrev direct : Build
direct = record { block = 1; lent = lent_for 1 0 0 8 1; calls = singles (buffers 1 ∷ patch_step 0 0 0 ∷ output_step 0 1 0 ∷ []) }

direct_built : BuiltBy direct direct.calls
unfolding definitions
direct_built = record { finished = record { new = refl; finish = refl }; accepted = refl }

abbrev direct_lists : Lists
direct_lists = record { first = direct; second = direct; first_calls = feed 0 (one ∷ []) 1 ∷ []; second_calls = feed 0 (two ∷ []) 1 ∷ [] }

direct_given : Given direct_lists
unfolding definitions
direct_given =
    given_all direct_lists (common_of direct_lists direct_built direct_built refl) refl refl (same_blocks direct_lists refl)

direct_channel : ChannelOf direct_lists 0 0
unfolding definitions
direct_channel = record { before = patch 0 0 0 ∷ []; src = 0 ∷ []; after = []; split = refl; c = 0; inside = omega arith; place = refl }

direct_differs : SameOutput direct_lists 0 → ⊥
unfolding definitions
direct_differs same =
    let e : one ∷ [] ≡ two ∷ [] = (same 0 direct_channel).1 in
    one_two (ap (sample_at 0) e)

pub equal_samples_needed : ((l : Lists) (s : ℕ) → Given l → SameOutput l s) → ⊥
equal_samples_needed claim = direct_differs (claim direct_lists 0 direct_given)

-- ---- "the accepted settings are alike": else one list has another gain

-- input 0 through a Gain
abbrev scaled : Build
scaled =
    record {
      block = 1;
      lent = lent_for 2 0 1 14 2;
      calls = singles (buffers 2 ∷ node 7 (three ∷ []) 0 0 ∷ patch_step 0 0 0 ∷ gain_step 0 0 1 1 1 ∷ output_step 1 1 0 ∷ []);
    }

scaled_built : BuiltBy scaled scaled.calls
unfolding definitions
scaled_built = record { finished = record { new = refl; finish = refl }; accepted = refl }

-- its node set to 1 in one list and to 2 in the other
abbrev scaled_lists : Lists
scaled_lists =
    record {
      first = scaled;
      second = scaled;
      first_calls = set 7 (one ∷ []) 0 ∷ feed 0 (one ∷ []) 1 ∷ [];
      second_calls = set 7 (two ∷ []) 0 ∷ feed 0 (one ∷ []) 1 ∷ [];
    }

scaled_common : Common scaled_lists
unfolding definitions
scaled_common = common_of scaled_lists scaled_built scaled_built refl

scaled_channel : ChannelOf scaled_lists 0 0
unfolding definitions
scaled_channel =
    record {
      before = patch 0 0 0 ∷ gain 0 (0 ∷ []) (1 ∷ []) ∷ [];
      src = 1 ∷ [];
      after = [];
      split = refl;
      c = 0;
      inside = omega arith;
      place = refl;
    }

scaled_listed : ListedCarryEqual scaled_lists 0
unfolding definitions some_channel_from
scaled_listed =
    one_listed scaled_lists (itself scaled_lists) 0 0 1 refl (omega arith) (omega arith) refl refl (inr ((omega arith, tt), (omega arith, tt), refl), tt)

scaled_differs : SameOutput scaled_lists 0 → ⊥
unfolding definitions
scaled_differs same =
    let e : one ∷ [] ≡ two ∷ [] = (same 0 scaled_channel).1 in
    one_two (ap (sample_at 0) e)

pub alike_needed : ((l : Lists) (s : ℕ) → Common l → CleanPlan l → NoRamps l → ListedCarryEqual l s → SameOutput l s) → ⊥
unfolding definitions
alike_needed claim = scaled_differs (claim scaled_lists 0 scaled_common refl (same_blocks scaled_lists refl) scaled_listed)

-- ---- "every accepted ramp is 0, at build too, if a and b differ": else a node that two steps use is further on after a longer block

-- two Gains of one node, which is built with a ramp of 4 samples
abbrev fading : ℕ → Build
fading block =
    record {
      block = block;
      lent = lent_for 3 0 1 20 6;
      calls = singles (buffers 3 ∷ node 7 (four ∷ []) 4 0 ∷ patch_step 0 0 0 ∷ gain_step 0 0 1 1 1 ∷ gain_step 0 0 1 2 1 ∷ output_step 1 2 0 ∷ []);
    }

first_fading : BuiltBy (fading 1) (fading 1).calls
unfolding definitions
first_fading = record { finished = record { new = refl; finish = refl }; accepted = refl }

second_fading : BuiltBy (fading 2) (fading 2).calls
unfolding definitions
second_fading = record { finished = record { new = refl; finish = refl }; accepted = refl }

abbrev fading_lists : Lists
fading_lists =
    record {
      first = fading 1;
      second = fading 2;
      first_calls = feed 0 (one ∷ []) 2 ∷ feed 0 (one ∷ []) 2 ∷ [];
      second_calls = feed 0 (one ∷ one ∷ []) 4 ∷ [];
    }

fading_common : Common fading_lists
unfolding definitions
fading_common = common_of fading_lists first_fading second_fading refl

fading_channel : ChannelOf fading_lists 0 1
unfolding definitions
fading_channel =
    record {
      before = patch 0 0 0 ∷ gain 0 (0 ∷ []) (1 ∷ []) ∷ gain 0 (0 ∷ []) (2 ∷ []) ∷ [];
      src = 1 ∷ 2 ∷ [];
      after = [];
      split = refl;
      c = 1;
      inside = omega arith;
      place = refl;
    }

fading_listed : ListedCarryEqual fading_lists 0
unfolding definitions some_channel_from
fading_listed =
    one_listed fading_lists (itself fading_lists) 0 0 1 refl (omega arith) (omega arith) refl refl
    (inr ((omega arith, (omega arith, tt)), (omega arith, tt), refl), tt)

-- the second Gain: 2 and 4 against 3 and 4
fading_differs : SameOutput fading_lists 0 → ⊥
unfolding definitions
fading_differs same =
    let e : two ∷ four ∷ [] ≡ three ∷ four ∷ [] = (same 1 fading_channel).1 in
    two_three (ap (sample_at 0) e)

pub no_ramps_needed : ((l : Lists) (s : ℕ) → Common l → CleanPlan l → Alike l → ListedCarryEqual l s → SameOutput l s) → ⊥
unfolding definitions
no_ramps_needed claim = fading_differs (claim fading_lists 0 fading_common refl refl fading_listed)

-- If a and b are equal, ramps may be above 0: the same plan twice for blocks of 1, and a setting with a ramp.
abbrev even_calls : List Call
even_calls = set 7 (two ∷ []) 3 ∷ feed 0 (one ∷ []) 2 ∷ []

abbrev even_lists : Lists
even_lists = record { first = fading 1; second = fading 1; first_calls = even_calls; second_calls = even_calls }

pub ramps_allowed : Given even_lists × (settings_from 1 0 (first_journal even_lists) ≡ record { sample = 0; id = 7; ramp = 3; values = two ∷ [] } ∷ [])
unfolding definitions
ramps_allowed =
    (given_all even_lists (common_of even_lists first_fading first_fading refl) refl refl (same_blocks even_lists refl), refl)
