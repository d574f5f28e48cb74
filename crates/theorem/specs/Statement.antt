-- Demand 3, clause by clause. Above each definition stands the paper's text. The theorem is `two_lists` (proofs/TwoLists.antt): it takes for granted
-- the record `Given` and the premise `ListedCarryEqual`, claims `SameOutput`, and assumes nothing else. Definitions only.
use Rattle.std.specs.Prelude.{ℕ, ◌+◌, ◌<◌, ◌≡◌, ◌⊎◌, true, List, ◌∷◌, ◌++◌, length}
use Rattle.lists.specs.Entries.{has}
use Rattle.plan.specs.Resolved.{Resolved, output}
use Rattle.run.specs.Run.{output_channels}
use Rattle.run.specs.Calls.{Call, steps_of_plan}
use Rattle.theorem.specs.Builds.{Build, Finished, accepted_calls, fixed, changing, NoRampBuilt}
use Rattle.theorem.specs.Traced.{IsClean, list_for}
use Rattle.theorem.specs.Journal.{Entry, journal, total, settings_from, written, Absent, Whole, carried, NoRampSet}

-- "A channel of s is one place in the src span of one Output to slot s": channel c of it. Its block lies at place q of the output area, after the
-- blocks of the Outputs before it.
pub record Channel (steps : List Resolved) (s q : ℕ) : Type 0 where
  pub before : List Resolved
  pub src : List ℕ
  pub after : List Resolved
  pub split : steps ≡ before ++ output src s ∷ after
  pub c : ℕ
  pub inside : c < length src
  pub place : q ≡ output_channels before + c

-- "Let a clean plan (01) be built twice …, for blocks of a and of b samples. Take any list of settings and runs after the first build and any
-- after the second, refused ones included"
pub record Lists : Type 0 where
  pub first : Build
  pub second : Build
  pub first_calls : List Call
  pub second_calls : List Call

module _ (l : Lists) where
  abbrev pub a : ℕ
  a = l.first.block

  abbrev pub b : ℕ
  b = l.second.block

  -- the accepted calls of each list
  abbrev pub first_journal : List Entry
  first_journal = journal (fixed l.first) (changing l.first) l.first_calls

  abbrev pub second_journal : List Entry
  second_journal = journal (fixed l.second) (changing l.second) l.second_calls

  -- the list that the trace of the first build gives for slot s
  abbrev pub list_behind : ℕ → List ℕ
  list_behind s = list_for (fixed l.first) s

  -- "A channel of an input carries equal samples when the lookup's part counts as absent in every accepted run of both lists, or in none, and then
  -- the first block samples of each part, joined in list order, are … the same in both."
  abbrev pub CarriesEqual : ℕ → ℕ → Type 0
  CarriesEqual i c =
      (Absent a i c first_journal × Absent b i c second_journal)
      ⊎ (Whole a i c first_journal × Whole b i c second_journal × (carried a i c first_journal ≡ carried b i c second_journal))

  -- ---- what is given
  pub record Given : Type 0 where
    pub first_finished : Finished l.first
    pub second_finished : Finished l.second
    -- "built twice by the same builder calls": "The builds share their accepted builder calls, in order, all but the block length"
    pub same_calls : accepted_calls l.first ≡ accepted_calls l.second
    -- "a clean plan", by the clean answer of the first build
    pub clean : IsClean (fixed l.first) (changing l.first)
    -- "the accepted runs of each add up to T samples"
    pub same_total : total a first_journal ≡ total b second_journal
    -- "and the accepted settings are alike, in the same order at the same samples"
    pub alike : settings_from a 0 first_journal ≡ settings_from b 0 second_journal
    -- "and every accepted ramp is 0, at build too, if a and b differ"
    pub no_ramps : (a ≡ b → ⊥) → NoRampBuilt (accepted_calls l.first) × NoRampSet first_journal × NoRampSet second_journal

  -- "the inputs that the trace lists behind s carry equal samples in both"
  abbrev pub ListedCarryEqual : ℕ → Type 0
  ListedCarryEqual s = (i c : ℕ) → has (list_behind s) i ≡ true → CarriesEqual i c

  -- ---- what is claimed

  abbrev pub ChannelOf : ℕ → ℕ → Type 0
  ChannelOf s q = Channel (steps_of_plan (fixed l.first)) s q

  -- "both write the same T samples to every channel of s"
  abbrev pub SameOutput : ℕ → Type 0
  SameOutput s =
      (q : ℕ) → ChannelOf s q → (length (written a q first_journal) ≡ total a first_journal) × (written a q first_journal ≡ written b q second_journal)
