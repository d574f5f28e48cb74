-- What the computed examples of the statement share. Assumes nothing.
use Prim.Native.Nat.{ℕ, zero, suc, ◌*◌, ◌≤◌, ◌<◌}
use native.Mathlib.Omega.{arith}
use mathlib.Core.Path.{◌≡◌, refl, sym, ap, subst, ◌∙◌}
use mathlib.Core.Bool.{Bool, true, false, ◌&&◌, ◌||◌, false≢true}
use mathlib.Core.Logic.{◌⊎◌, inl, ⊎_elim}
use mathlib.Core.List.{List, [], ◌∷◌, map}
use native.Mathlib.Nat.{le_of_suc-le-suc, eq-or-lt_of_le}
use borrow.Author.Tests.{ltb-true, ltb-false, leb-false, eqb-true, ne_eqb}
use lib.Count.{ones, ones_in}
use lib.Dec.{ltb, leb, eqb}
use lib.IntN.{pos}
use lib.ListN.{length, get_or, replicate}
use lib.Ieee.{Float, nan, fin, add, sub, mul, div, eq, of_int, of_bits}
use Rattle.lists.specs.Entries.{some_from, has, meet}
use Rattle.std.proofs.lemmas.Bool.{or_parts, or_cases}
use Rattle.lists.proofs.Scans.{Counted, counted_at}
use Rattle.node.specs.Sizes.{node_float_count, node_word_count}
use Rattle.node.specs.Nodes.{new_node, set_node, gain_of, factor, finish_block}
use Rattle.node.specs.Areas.{node_at, floats_of, words_of, is_bad, some_bad}
use Rattle.sets.specs.Sets.{sift}
use Rattle.mix.specs.Samples.{sampled}
use Rattle.mix.specs.Mix.{added, weighted, sent, columns, weighs}
use Rattle.plan.specs.Words.{patch_map, gain_map, matrix_map, clear_map, send_map, output_map, step_of, decoded, decoded_from}
use Rattle.plan.specs.Areas.{Areas, areas}
use Rattle.plan.specs.Check.{id_among, id_twice, outside_by, shares, steps_tests, checked}
use Rattle.builder.specs.Calls.{new_answer, buffers_indices, coefficients_area, node_floats_area, node_words_area, step_area, finish_area}
use Rattle.builder.specs.Built.{BuilderCall, step}
use Rattle.insert.specs.Layout.{LayoutCall, single}
use Rattle.input.specs.Input.{entry_word, entry_for, entries}
use Rattle.input.proofs.Input.{lookup_absent}
use Rattle.trace.specs.Sources.{source_list}
use Rattle.trace.specs.Calls.{clean_answer}
use Rattle.setting.specs.Setting.{node_of, setting_floats, setting_words}
use Rattle.run.specs.Run.{processed}
use Rattle.run.specs.Calls as run
use Rattle.theorem.specs.Builds.{Build, Finished, accepted_calls}
use Rattle.theorem.specs.Journal.{Entry, setting, ran, Absent, Whole, carried}
use Rattle.theorem.specs.Statement.{Lists, a, b, first_journal, second_journal, list_behind, CarriesEqual, ListedCarryEqual}

-- What a computation of builds, traces and journals goes through: `unfolding definitions` opens all of these and what they open.
unfoldable pub definitions : Unit {0}
unfolding ones ones_in add sub mul div eq of_int of_bits new_node set_node gain_of factor finish_block node_at floats_of words_of is_bad some_bad step_of decoded decoded_from some_from id_among id_twice outside_by has meet shares steps_tests checked sampled added weighted sent columns weighs new_answer buffers_indices coefficients_area node_floats_area node_words_area step_area finish_area processed node_of setting_floats setting_words sift source_list clean_answer
definitions = tt

-- ---- samples

abbrev pub one : Float
one = fin false 1 (pos 0)

abbrev pub two : Float
two = fin false 1 (pos 1)

abbrev pub three : Float
three = fin false 3 (pos 0)

abbrev pub four : Float
four = fin false 1 (pos 2)

abbrev pub six : Float
six = fin false 3 (pos 1)

abbrev pub eight : Float
eight = fin false 1 (pos 3)

abbrev pub twenty_four : Float
twenty_four = fin false 3 (pos 3)

abbrev pub thirty_two : Float
thirty_two = fin false 1 (pos 5)

abbrev pub sample_at : ℕ → List Float → Float
sample_at k xs = get_or xs k nan

pub one_two : one ≡ two → ⊥
one_two e = let z : ◌≡◌ {A = ℕ} 0 1 = cc in omega arith

pub two_three : two ≡ three → ⊥
two_three e = let z : ◌≡◌ {A = ℕ} 1 3 = cc in omega arith

-- ---- areas that hold something else than a build leaves, for so many index entries, coefficients, nodes, step words and samples of buffers
abbrev pub lent_for : ℕ → ℕ → ℕ → ℕ → ℕ → Areas
lent_for indices coefficients nodes steps buffers =
    areas (replicate indices 9) (replicate coefficients nan) (replicate (nodes * node_float_count) nan) (replicate (nodes * node_word_count) 9) (replicate steps 9)
    (replicate buffers nan)

-- ---- the calls of a build without inserts
abbrev pub singles : List BuilderCall → List LayoutCall
singles = map single

-- ---- the builder's `step` for each kind; a span is its start and its length

abbrev pub patch_step : ℕ → ℕ → ℕ → BuilderCall
patch_step input channel dst = step (patch_map ∷ input ∷ channel ∷ dst ∷ [])

abbrev pub gain_step : ℕ → ℕ → ℕ → ℕ → ℕ → BuilderCall
gain_step node src sources dst targets = step (gain_map ∷ node ∷ src ∷ sources ∷ dst ∷ targets ∷ [])

abbrev pub matrix_step : ℕ → ℕ → ℕ → ℕ → ℕ → BuilderCall
matrix_step node src sources dst targets = step (matrix_map ∷ node ∷ src ∷ sources ∷ dst ∷ targets ∷ [])

abbrev pub clear_step : ℕ → ℕ → BuilderCall
clear_step dst targets = step (clear_map ∷ dst ∷ targets ∷ [])

abbrev pub send_step : ℕ → ℕ → ℕ → ℕ → ℕ → ℕ → ℕ → BuilderCall
send_step node src sources dst targets weight weights = step (send_map ∷ node ∷ src ∷ sources ∷ dst ∷ targets ∷ weight ∷ weights ∷ [])

abbrev pub output_step : ℕ → ℕ → ℕ → BuilderCall
output_step src sources slot = step (output_map ∷ src ∷ sources ∷ slot ∷ [])

-- ---- a run whose directory has one entry: channel 0 of an input, all the samples; the output area has n places
abbrev pub feed : ℕ → List Float → ℕ → run.Call
feed input samples n = run.run (input ∷ 0 ∷ 0 ∷ length samples ∷ []) samples (replicate n nan)

-- ---- channels that no directory of a journal has an entry for

-- one of the first n entries is of channel m or above
unfoldable pub some_entry_from : ℕ → List ℕ → ℕ → Bool
some_entry_from m directory zero = false
some_entry_from m directory (suc n) = leb m (entry_word directory n 1) || some_entry_from m directory n

-- so in a run of a journal
unfoldable pub some_channel_from : ℕ → List Entry → Bool
unfolding some_entry_from
some_channel_from m [] = false
some_channel_from m (setting id ramp values ∷ es) = some_channel_from m es
some_channel_from m (ran directory samples output ∷ es) = some_entry_from m directory (entries directory) || some_channel_from m es

and_false : (x y : Bool) → y ≡ false → (x && y) ≡ false
and_false true y e = e
and_false false y e = refl

module _ (m i c : ℕ) (h : m ≤ c) where
  entry_other : (directory : List ℕ) → some_entry_from m directory (entries directory) ≡ false → (j : ℕ) → j < entries directory
      → entry_for directory i c j ≡ false
  unfolding some_entry_from
  entry_other directory e j k =
      let counted : Counted (some_entry_from m directory) (λ n. leb m (entry_word directory n 1)) = record { none = refl; more = λ n. refl } in
      let below : entry_word directory j 1 < m = leb-false m (entry_word directory j 1) (counted_at counted (entries directory) e j k) in
      and_false (eqb (entry_word directory j 0) i) (eqb (entry_word directory j 1) c) (ne_eqb (entry_word directory j 1) c (λ s. omega arith))

  pub absent_from : (n : ℕ) → 0 < n → (es : List Entry) → some_channel_from m es ≡ false → Absent n i c es
  unfolding some_channel_from
  absent_from n p [] e = tt
  absent_from n p (setting id ramp values ∷ es) e = absent_from n p es e
  absent_from n p (ran directory samples output ∷ es) e =
      let none = or_parts (some_entry_from m directory (entries directory)) (some_channel_from m es) e in
      (rw (lookup_absent directory samples i c (entry_other directory none.0)) (omega arith), absent_from n p es none.1)

-- ---- that the listed inputs carry equal samples

-- for every channel below m
abbrev pub Below : ℕ → (ℕ → Type 0) → Type 0
Below zero P = Unit {0}
Below (suc m) P = P m × Below m P

below : (P : ℕ → Type 0) (m : ℕ) → Below m P → (c : ℕ) → c < m → P c
below P zero all c h = absurd (omega arith)
below P (suc m) all c h = ⊎_elim (λ e. subst P (sym e) all.0) (λ p. below P m all.1 c p) (eq-or-lt_of_le (le_of_suc-le-suc h))

-- for every input of a list
abbrev pub Each : List ℕ → (ℕ → Type 0) → Type 0
Each [] P = Unit {0}
Each (i ∷ is) P = P i × Each is P

each : (P : ℕ → Type 0) (is : List ℕ) → Each is P → (k : ℕ) → has is k ≡ true → P k
unfolding has
each P [] all k h = absurd (false≢true h)
each P (i ∷ is) all k h = ⊎_elim (λ t. subst P (eqb-true i k t) all.0) (λ t. each P is all.1 k t) (or_cases (eqb i k) (has is k) h)

-- no input is listed
pub none_listed : (l : Lists) (s : ℕ) → list_behind l s ≡ [] → ListedCarryEqual l s
unfolding has
none_listed l s e i c h = absurd (false≢true (ap (λ (list : List ℕ). has list i) (sym e) ∙ h))

-- ---- from what the builds and the journals were computed to be

-- a build that is finished, and its accepted calls
pub record BuiltBy (build : Build) (calls : List LayoutCall) : Type 0 where
  pub finished : Finished build
  pub accepted : accepted_calls build ≡ calls

-- the journals as computed, or as they stand where that is quick
pub record Journals (l : Lists) (es fs : List Entry) : Type 0 where
  pub first : first_journal l ≡ es
  pub second : second_journal l ≡ fs

pub itself : (l : Lists) → Journals l (first_journal l) (second_journal l)
itself l = record { first = refl; second = refl }

module _ (l : Lists) {es fs : List Entry} (j : Journals l es fs) where
  -- what `CarriesEqual` says of them
  abbrev pub Carries : ℕ → ℕ → Type 0
  Carries i c =
      (Absent (a l) i c es × Absent (b l) i c fs) ⊎ (Whole (a l) i c es × Whole (b l) i c fs × (carried (a l) i c es ≡ carried (b l) i c fs))

  pub carries_of : (i c : ℕ) → CarriesEqual l i c → Carries i c
  carries_of i c e = rw (j.first, j.second) at e

  -- of the channels of the listed inputs, those from m on are nowhere in the directories
  pub all_listed : (s m : ℕ) (is : List ℕ) → list_behind l s ≡ is → 0 < a l → 0 < b l → some_channel_from m es ≡ false → some_channel_from m fs ≡ false
      → Each is (λ i. Below m (Carries i)) → ListedCarryEqual l s
  all_listed s m is e p q first second all k c h = rw (j.first, j.second) (carries (ltb c m) refl)
    where
      carries : (r : Bool) → ltb c m ≡ r → Carries k c
      carries true t = below (Carries k) m (each (λ i. Below m (Carries i)) is all k (ap (λ (list : List ℕ). has list k) (sym e) ∙ h)) c (ltb-true c m t)
      carries false t = let from = ltb-false c m t in inl (absent_from m k c from (a l) p es first, absent_from m k c from (b l) q fs second)

  -- so where one input is listed
  pub one_listed : (s i m : ℕ) → list_behind l s ≡ i ∷ [] → 0 < a l → 0 < b l → some_channel_from m es ≡ false → some_channel_from m fs ≡ false
      → Below m (Carries i) → ListedCarryEqual l s
  one_listed s i m e p q first second all = all_listed s m (i ∷ []) e p q first second (all, tt)
