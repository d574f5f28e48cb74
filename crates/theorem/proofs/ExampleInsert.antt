-- Builds with an insert: two builds of one plan, for blocks of 1 and of 2 samples, and two lists of calls, computed, for which every premise holds. An insert is
-- refused in each build, and both the source and what comes back are listed behind the slot that the strip ends at. Assumes nothing.
use Prim.Native.Nat.{ℕ}
use native.Mathlib.Omega.{arith}
use mathlib.Core.Path.{◌≡◌, refl, sym, ap, subst, ◌∙◌}
use mathlib.Core.Logic.{inr}
use mathlib.Core.Bool.{true, false}
use mathlib.Core.List.{List, [], ◌∷◌}
use lib.ListN.{replicate}
use lib.Ieee.{nan}
use Rattle.format.specs.Formats.{channels}
use Rattle.plan.specs.Words.{span}
use Rattle.plan.specs.Resolved.{Resolved, patch, gain, clear, send, output}
use Rattle.builder.specs.Built.{buffers}
use Rattle.insert.specs.declared.InsertPoint.{InsertPoint}
use Rattle.insert.specs.Insert.{insert_answer}
use Rattle.insert.specs.Layout.{LayoutCall, single, insert}
use Rattle.run.specs.Calls.{set, run}
use Rattle.run.specs.Calls as calls
use Rattle.theorem.specs.Builds.{Build, NoRampBuilt}
use Rattle.theorem.specs.Journal.{Entry, setting, ran, total, settings_from, written, NoRampSet}
use Rattle.theorem.specs.Statement.{Lists, first_journal, second_journal, list_behind, Given, ListedCarryEqual, ChannelOf}
use Rattle.theorem.proofs.ExampleParts.{definitions, one, two, three, four, six, eight, lent_for, patch_step, output_step, BuiltBy, Journals, some_channel_from, all_listed}

-- ---- the plan: input 0 goes through an insert, which sends it twice as loud to slot 1 and takes input 3 back, and what the insert hands back goes to slot 0

-- a mono insert on buffer 0, with nodes of these ids for the send, the return and the switch
abbrev strip : (format send_id back_id : ℕ) → InsertPoint
strip format send_id back_id =
    record {
      format = format;
      src = span 0 1;
      gain = two;
      slot = 1;
      ramp = 0;
      ids = record { send = send_id; ret = back_id; dry = 23; wet = 24; dryin = 25; wetin = 26 };
      returns = true;
      back = record { input = 4; channel = 1; gain = one; bypass = false };
    }

abbrev plan : List LayoutCall
plan = single (buffers 1) ∷ single (patch_step 0 0 0) ∷ insert (strip 0 21 22) ∷ single (output_step 6 1 0) ∷ []

-- refused: an insert of a format that is not named (16)
abbrev first : Build
first = record { block = 1; lent = lent_for 7 1 6 59 7; calls = insert (strip 7 31 32) ∷ plan }

-- refused: an insert with one id twice (8), and one with ids of the plan's nodes (8)
abbrev second : Build
second =
    record {
      block = 2;
      lent = lent_for 13 2 12 120 14;
      calls = single (buffers 1) ∷ single (patch_step 0 0 0) ∷ insert (strip 0 21 21) ∷ insert (strip 0 21 22) ∷ insert (strip 0 31 22) ∷ single (output_step 6 1 0) ∷ [];
    }

-- input 0 carries 1, 2, 3 and 4, and input 3 carries 3, 1, 2 and 4; after two samples the return is set twice as loud
abbrev first_calls : List calls.Call
first_calls =
    run (0 ∷ 0 ∷ 0 ∷ 1 ∷ 3 ∷ 0 ∷ 1 ∷ 1 ∷ []) (one ∷ three ∷ []) (replicate 2 nan)
    ∷ run (0 ∷ 0 ∷ 0 ∷ 1 ∷ 3 ∷ 0 ∷ 1 ∷ 1 ∷ []) (two ∷ one ∷ []) (replicate 2 nan)
    ∷ set 22 (two ∷ []) 0
    ∷ run (0 ∷ 0 ∷ 0 ∷ 1 ∷ 3 ∷ 0 ∷ 1 ∷ 1 ∷ []) (three ∷ two ∷ []) (replicate 2 nan)
    ∷ run (0 ∷ 0 ∷ 0 ∷ 1 ∷ 3 ∷ 0 ∷ 1 ∷ 1 ∷ []) (four ∷ four ∷ []) (replicate 2 nan)
    ∷ []

abbrev second_calls : List calls.Call
second_calls =
    run (0 ∷ 0 ∷ 0 ∷ 2 ∷ 3 ∷ 0 ∷ 2 ∷ 2 ∷ []) (one ∷ two ∷ three ∷ one ∷ []) (replicate 4 nan)
    ∷ set 22 (two ∷ []) 0
    ∷ run (0 ∷ 0 ∷ 0 ∷ 2 ∷ 3 ∷ 0 ∷ 2 ∷ 2 ∷ []) (three ∷ four ∷ two ∷ four ∷ []) (replicate 4 nan)
    ∷ []

abbrev pub lists : Lists
lists = record { first = first; second = second; first_calls = first_calls; second_calls = second_calls }

-- ---- what they come to

first_built : BuiltBy first plan
unfolding definitions channels insert_answer
first_built = record { finished = record { new = refl; finish = refl }; accepted = refl }

second_built : BuiltBy second plan
unfolding definitions channels insert_answer
second_built = record { finished = record { new = refl; finish = refl }; accepted = refl }

abbrev first_entries : List Entry
first_entries =
    ran (0 ∷ 0 ∷ 0 ∷ 1 ∷ 3 ∷ 0 ∷ 1 ∷ 1 ∷ []) (one ∷ three ∷ []) (two ∷ three ∷ [])
    ∷ ran (0 ∷ 0 ∷ 0 ∷ 1 ∷ 3 ∷ 0 ∷ 1 ∷ 1 ∷ []) (two ∷ one ∷ []) (four ∷ one ∷ [])
    ∷ setting 22 0 (two ∷ [])
    ∷ ran (0 ∷ 0 ∷ 0 ∷ 1 ∷ 3 ∷ 0 ∷ 1 ∷ 1 ∷ []) (three ∷ two ∷ []) (six ∷ four ∷ [])
    ∷ ran (0 ∷ 0 ∷ 0 ∷ 1 ∷ 3 ∷ 0 ∷ 1 ∷ 1 ∷ []) (four ∷ four ∷ []) (eight ∷ eight ∷ [])
    ∷ []

abbrev second_entries : List Entry
second_entries =
    ran (0 ∷ 0 ∷ 0 ∷ 2 ∷ 3 ∷ 0 ∷ 2 ∷ 2 ∷ []) (one ∷ two ∷ three ∷ one ∷ []) (two ∷ four ∷ three ∷ one ∷ [])
    ∷ setting 22 0 (two ∷ [])
    ∷ ran (0 ∷ 0 ∷ 0 ∷ 2 ∷ 3 ∷ 0 ∷ 2 ∷ 2 ∷ []) (three ∷ four ∷ two ∷ four ∷ []) (six ∷ eight ∷ four ∷ eight ∷ [])
    ∷ []

journals : Journals lists first_entries second_entries
unfolding definitions channels insert_answer
journals = record { first = refl; second = refl }

-- ---- every premise

pub given : Given lists
unfolding definitions channels insert_answer
given =
    record {
      first_finished = first_built.finished;
      second_finished = second_built.finished;
      same_calls = first_built.accepted ∙ sym second_built.accepted;
      clean = refl;
      same_total = ap (total 1) journals.first ∙ sym (ap (total 2) journals.second);
      alike = ap (settings_from 1 0) journals.first ∙ sym (ap (settings_from 2 0) journals.second);
      no_ramps = λ _. (
        subst NoRampBuilt (sym first_built.accepted) (refl, tt),
        subst NoRampSet (sym journals.first) (refl, tt),
        subst NoRampSet (sym journals.second) (refl, tt),
      );
    }

-- the source and what comes back are both listed behind slot 0, where the return alone is heard; behind the insert's own slot the source alone is
pub behind_strip : list_behind lists 0 ≡ 0 ∷ 3 ∷ []
unfolding definitions channels insert_answer
behind_strip = refl

pub behind_send : list_behind lists 1 ≡ 0 ∷ []
unfolding definitions channels insert_answer
behind_send = refl

pub listed : ListedCarryEqual lists 0
unfolding definitions some_channel_from
listed =
    all_listed lists journals 0 1 (0 ∷ 3 ∷ []) behind_strip (omega arith) (omega arith) refl refl (
      (inr ((omega arith, (omega arith, (omega arith, (omega arith, tt)))), (omega arith, (omega arith, tt)), refl), tt),
      ((inr ((omega arith, (omega arith, (omega arith, (omega arith, tt)))), (omega arith, (omega arith, tt)), refl), tt), tt),
    )

-- the channel of slot 0: the send and its Output, the return, the switch and the sum come before it
abbrev steps_before : List Resolved
steps_before =
    patch 0 0 0
    ∷ gain 0 (0 ∷ []) (1 ∷ [])
    ∷ output (1 ∷ []) 1
    ∷ patch 3 0 2
    ∷ gain 1 (2 ∷ []) (3 ∷ [])
    ∷ gain 2 (0 ∷ []) (4 ∷ [])
    ∷ gain 3 (3 ∷ []) (5 ∷ [])
    ∷ clear (6 ∷ [])
    ∷ send 4 (4 ∷ []) (6 ∷ []) (one ∷ [])
    ∷ send 5 (5 ∷ []) (6 ∷ []) (one ∷ [])
    ∷ []

pub channel_of : ChannelOf lists 0 1
unfolding definitions channels insert_answer
channel_of = record { before = steps_before; src = 6 ∷ []; after = []; split = refl; c = 0; inside = omega arith; place = refl }

-- ---- the samples: 3, 1, 4 and 8, which came back; and at the insert's own slot 2, 4, 6 and 8

pub first_writes : (written 1 1 (first_journal lists) ≡ three ∷ one ∷ four ∷ eight ∷ []) × (written 1 0 (first_journal lists) ≡ two ∷ four ∷ six ∷ eight ∷ [])
first_writes = (ap (written 1 1) journals.first, ap (written 1 0) journals.first)

pub second_writes : (written 2 1 (second_journal lists) ≡ three ∷ one ∷ four ∷ eight ∷ []) × (written 2 0 (second_journal lists) ≡ two ∷ four ∷ six ∷ eight ∷ [])
second_writes = (ap (written 2 1) journals.second, ap (written 2 0) journals.second)
