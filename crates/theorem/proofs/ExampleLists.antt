-- The statement is not empty: two builds of one plan, for blocks of 1 and of 2 samples, and two lists of calls, computed, for which every premise
-- holds. Other calls are refused in one build than in the other, and in one list than in the other, an input that is not listed carries other
-- samples, and a channel has two entries in a directory of each list. Assumes nothing.
use Prim.Native.Nat.{ℕ, ◌≤◌, ◌<◌}
use native.Mathlib.Nat.{zero-add}
use native.Mathlib.Omega.{arith}
use mathlib.Core.Path.{◌≡◌, refl, sym, ap, subst, ◌∙◌}
use mathlib.Core.Logic.{inl, inr}
use mathlib.Core.List.{List, [], ◌∷◌, ◌++◌}
use lib.ListN.{replicate}
use lib.Ieee.{nan}
use Rattle.mix.specs.Samples.{silence}
use Rattle.plan.specs.Resolved.{Resolved, patch, gain, matrix, clear, send, output}
use Rattle.builder.specs.Built as builder
use Rattle.builder.specs.Built.{buffers, coefficients, node, step}
use Rattle.run.specs.Calls.{set, run}
use Rattle.run.specs.Calls as calls
use Rattle.theorem.specs.Builds.{Build, NoRampBuilt}
use Rattle.theorem.specs.Journal.{Entry, setting, ran, total, settings_from, written, NoRampSet}
use Rattle.theorem.specs.Statement.{Lists, first_journal, second_journal, CarriesEqual, Given, ListedCarryEqual, ChannelOf}
use Rattle.theorem.proofs.ExampleParts.{definitions, one, two, three, four, six, eight, twenty_four, thirty_two, lent_for, singles, patch_step, gain_step, matrix_step, clear_step, send_step, output_step, BuiltBy, Journals, some_channel_from, Carries, carries_of, one_listed}

-- ---- the plan: the two channels of input 0 are added (buffer 2), scaled (buffer 3) and sent with weight 2 (buffer 4), and the last two buffers
-- are written to slot 0; input 3 is written to slot 1; the node that scales and sends is safe

abbrev tables : List builder.BuilderCall
tables = buffers 6 ∷ coefficients (two ∷ []) ∷ node 7 (one ∷ []) 0 1 ∷ node 8 (one ∷ one ∷ []) 0 0 ∷ []

abbrev layout : List builder.BuilderCall
layout =
    patch_step 0 0 0
    ∷ patch_step 0 1 1
    ∷ matrix_step 1 0 2 2 1
    ∷ gain_step 0 2 1 3 1
    ∷ clear_step 4 1
    ∷ send_step 0 3 1 4 1 0 1
    ∷ patch_step 3 0 5
    ∷ output_step 3 2 0
    ∷ output_step 5 1 1
    ∷ []

-- refused: buffers over the limit (5), a record without its fields (3)
abbrev first : Build
first = record { block = 1; lent = lent_for 6 1 2 43 6; calls = singles (buffers 257 ∷ tables ++ step (7 ∷ 0 ∷ []) ∷ layout) }

-- refused: more coefficients than the area has places for (2), an id that is taken (8), a safe above 1 (14), a map that is not named (3)
abbrev second : Build
second =
    record {
      block = 2;
      lent = lent_for 7 2 3 50 13;
      calls = singles (tables ++ coefficients (one ∷ one ∷ []) ∷ node 7 (two ∷ []) 5 0 ∷ node 9 (two ∷ []) 0 2 ∷ layout ++ step (5 ∷ 0 ∷ 0 ∷ []) ∷ []);
    }

-- refused: an id that is unknown (9), a directory that is not in fours (12), a ramp too long (10); in the last run but one an entry for channel 0 of
-- input 0 is appended, where the first one names a NaN
abbrev first_calls : List calls.Call
first_calls =
    set 9 (two ∷ []) 0
    ∷ run (0 ∷ 0 ∷ 0 ∷ 3 ∷ 3 ∷ 0 ∷ 1 ∷ 1 ∷ []) (one ∷ three ∷ three ∷ []) (replicate 3 nan)
    ∷ run (0 ∷ 0 ∷ 0 ∷ []) (three ∷ []) (replicate 3 nan)
    ∷ run (0 ∷ 0 ∷ 0 ∷ 1 ∷ 0 ∷ 1 ∷ 0 ∷ 0 ∷ []) (two ∷ []) (replicate 4 nan)
    ∷ set 7 (two ∷ []) 0
    ∷ set 7 (three ∷ []) 16777217
    ∷ run (0 ∷ 0 ∷ 1 ∷ 1 ∷ 3 ∷ 0 ∷ 0 ∷ 1 ∷ 0 ∷ 0 ∷ 0 ∷ 1 ∷ []) (three ∷ nan ∷ []) (replicate 3 nan)
    ∷ run (0 ∷ 0 ∷ 0 ∷ 1 ∷ []) (four ∷ []) (replicate 3 nan)
    ∷ []

-- refused: an output area short (13), a ramp too long (10), a part past the samples (12)
abbrev second_calls : List calls.Call
second_calls =
    run (0 ∷ 0 ∷ 0 ∷ 2 ∷ []) (one ∷ two ∷ []) (replicate 5 nan)
    ∷ run (0 ∷ 0 ∷ 0 ∷ 2 ∷ 0 ∷ 1 ∷ 0 ∷ 2 ∷ 3 ∷ 0 ∷ 0 ∷ 2 ∷ 0 ∷ 1 ∷ 1 ∷ 1 ∷ []) (one ∷ two ∷ []) (replicate 6 nan)
    ∷ set 8 (two ∷ []) 16777217
    ∷ set 7 (two ∷ []) 0
    ∷ run (0 ∷ 0 ∷ 1 ∷ 2 ∷ []) (three ∷ four ∷ []) (replicate 6 nan)
    ∷ run (0 ∷ 0 ∷ 1 ∷ 2 ∷ []) (nan ∷ three ∷ four ∷ []) (replicate 7 nan)
    ∷ []

abbrev pub lists : Lists
lists = record { first = first; second = second; first_calls = first_calls; second_calls = second_calls }

-- ---- what they come to: 5 calls of 8 are accepted, and 3 of 6

first_built : BuiltBy first (singles (tables ++ layout))
unfolding definitions
first_built = record { finished = record { new = refl; finish = refl }; accepted = refl }

second_built : BuiltBy second (singles (tables ++ layout))
unfolding definitions
second_built = record { finished = record { new = refl; finish = refl }; accepted = refl }

abbrev first_entries : List Entry
first_entries =
    ran (0 ∷ 0 ∷ 0 ∷ 3 ∷ 3 ∷ 0 ∷ 1 ∷ 1 ∷ []) (one ∷ three ∷ three ∷ []) (one ∷ two ∷ three ∷ [])
    ∷ ran (0 ∷ 0 ∷ 0 ∷ 1 ∷ 0 ∷ 1 ∷ 0 ∷ 0 ∷ []) (two ∷ []) (two ∷ four ∷ silence ∷ nan ∷ [])
    ∷ setting 7 0 (two ∷ [])
    ∷ ran (0 ∷ 0 ∷ 1 ∷ 1 ∷ 3 ∷ 0 ∷ 0 ∷ 1 ∷ 0 ∷ 0 ∷ 0 ∷ 1 ∷ []) (three ∷ nan ∷ []) (six ∷ twenty_four ∷ three ∷ [])
    ∷ ran (0 ∷ 0 ∷ 0 ∷ 1 ∷ []) (four ∷ []) (eight ∷ thirty_two ∷ silence ∷ [])
    ∷ []

abbrev second_entries : List Entry
second_entries =
    ran (0 ∷ 0 ∷ 0 ∷ 2 ∷ 0 ∷ 1 ∷ 0 ∷ 2 ∷ 3 ∷ 0 ∷ 0 ∷ 2 ∷ 0 ∷ 1 ∷ 1 ∷ 1 ∷ []) (one ∷ two ∷ []) (one ∷ two ∷ two ∷ four ∷ one ∷ two ∷ [])
    ∷ setting 7 0 (two ∷ [])
    ∷ ran (0 ∷ 0 ∷ 1 ∷ 2 ∷ []) (nan ∷ three ∷ four ∷ []) (six ∷ eight ∷ twenty_four ∷ thirty_two ∷ silence ∷ silence ∷ nan ∷ [])
    ∷ []

journals : Journals lists first_entries second_entries
unfolding definitions
journals = record { first = refl; second = refl }

-- ---- every premise

pub given : Given lists
unfolding definitions
given =
    record {
      first_finished = first_built.finished;
      second_finished = second_built.finished;
      same_calls = first_built.accepted ∙ sym second_built.accepted;
      clean = refl;
      same_total = ap (total 1) journals.first ∙ sym (ap (total 2) journals.second);
      alike = ap (settings_from 1 0) journals.first ∙ sym (ap (settings_from 2 0) journals.second);
      no_ramps = λ _. (
        subst NoRampBuilt (sym first_built.accepted) (refl, (refl, tt)),
        subst NoRampSet (sym journals.first) (refl, tt),
        subst NoRampSet (sym journals.second) (refl, tt),
      );
    }

-- input 0 alone is listed behind slot 0; its channel 0 is present whole, and its channel 1 absent: in one run of the second list its last part is
-- shorter than the block, and the one before it is not
pub listed : ListedCarryEqual lists 0
unfolding definitions some_channel_from
listed =
    one_listed lists journals 0 0 2 refl (omega arith) (omega arith) refl refl (
      inl ((omega arith, (omega arith, (omega arith, (omega arith, tt)))), (omega arith, (omega arith, tt))),
      (inr ((omega arith, (omega arith, (omega arith, (omega arith, tt)))), (omega arith, (omega arith, tt)), refl), tt),
    )

-- the channels of slot 0, behind which the trace lists input 0 alone
abbrev steps_before : List Resolved
steps_before =
    patch 0 0 0
    ∷ patch 0 1 1
    ∷ matrix 1 (0 ∷ 1 ∷ []) (2 ∷ [])
    ∷ gain 0 (2 ∷ []) (3 ∷ [])
    ∷ clear (4 ∷ [])
    ∷ send 0 (3 ∷ []) (4 ∷ []) (two ∷ [])
    ∷ patch 3 0 5
    ∷ []

pub channel_of : (c : ℕ) → c < 2 → ChannelOf lists 0 c
unfolding definitions
channel_of c h =
    record {
      before = steps_before;
      src = 3 ∷ 4 ∷ [];
      after = output (5 ∷ []) 1 ∷ [];
      split = refl;
      c = c;
      inside = h;
      place = sym (zero-add c);
    }

-- ---- the samples of both channels: 1, 2, 6 and 8, and 2, 4, 24 and 32

pub first_writes : (written 1 0 (first_journal lists) ≡ one ∷ two ∷ six ∷ eight ∷ [])
    × (written 1 1 (first_journal lists) ≡ two ∷ four ∷ twenty_four ∷ thirty_two ∷ [])
first_writes = (ap (written 1 0) journals.first, ap (written 1 1) journals.first)

pub second_writes : (written 2 0 (second_journal lists) ≡ one ∷ two ∷ six ∷ eight ∷ [])
    × (written 2 1 (second_journal lists) ≡ two ∷ four ∷ twenty_four ∷ thirty_two ∷ [])
second_writes = (ap (written 2 0) journals.second, ap (written 2 1) journals.second)

-- input 3, which is not listed, is absent in some runs of each list and not in others
pub unlisted_unequal : CarriesEqual lists 3 0 → ⊥
unfolding definitions
unlisted_unequal equal = go (carries_of lists journals 3 0 equal)
  where
    go : Carries lists journals 3 0 → ⊥
    go (inl e) = let h : 1 < 1 = e.0.0 in omega arith
    go (inr e) = let h : 1 ≤ 0 = e.0.1.0 in omega arith
