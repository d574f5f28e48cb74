-- A fold with a table: accepted exactly where the fold alone is and the table is sound; what it writes, for a pair that the table covers and for the
-- rest; and what a refusal and the flag leave. Assumes nothing.
use mathlib.Core.Path.{◌≡◌, sym, ap, ◌∙◌}
use mathlib.Core.Bool.{Bool, true, false, cond}
use mathlib.Core.List.{List, ◌++◌}
use mathlib.Core.Logic.{◌↔◌}
use Prim.Native.Nat.{ℕ, ◌*◌}
use native.Mathlib.Omega.{arith}
use lib.ListN.{length, drop}
use lib.Seq.{sets}
use lib.Ieee.{Float}
use Rattle.lists.proofs.Stores.{sets_front}
use Rattle.refusal.specs.Tests.{first}
use Rattle.refusal.specs.declared.Refusal.{Refusal}
use Rattle.refusal.proofs.Laws.{first_append, refused_rest, none_rest, none_split, none_accepted, accepted_none, outcome_accepted, refused_keeps}
use Rattle.format.specs.Formats.{channels}
use Rattle.format_fold.specs.Width.{entries_of, width_tests, width_answer, width_area}
use Rattle.format_fold.specs.declared.FoldGains.{FoldGains}
use Rattle.format_fold.proofs.Answers.{fitting}
use Rattle.format_table.specs.Covered.{applies}
use Rattle.format_table.specs.Tables.{table_entry, table_tests, table_answer}
use Rattle.format_table.specs.Sound.{TableSound}
use Rattle.format_table.specs.With.{with_tests, with_answer, with_entries, with_area}
use Rattle.format_table.proofs.Tables.{entry_length}
use Rattle.format_table.proofs.Exact.{table_sound, sound_accepted}
use Rattle.std.specs.Prelude.{Ok, Err}

-- ---- the answer

module _ (src dst : ℕ) (g : FoldGains) (n : ℕ) (pairs : List ℕ) (gains : List Float) where
  -- what the fold refuses alone it refuses with any table, by the same number
  pub own_refused : (r : Refusal) → width_answer src dst g n ≡ Err r → with_answer src dst g n pairs gains ≡ Err r
  unfolding with_answer width_answer
  own_refused r e = first_append (width_tests src dst g n) (table_tests pairs gains) (Ok tt) ∙ refused_rest (width_tests src dst g n) (first (table_tests pairs gains) (Ok tt)) r e

  -- and else the table answers, whatever pair is asked
  pub own_accepted : width_answer src dst g n ≡ Ok tt → with_answer src dst g n pairs gains ≡ table_answer pairs gains
  unfolding with_answer width_answer table_answer
  own_accepted e =
      first_append (width_tests src dst g n) (table_tests pairs gains) (Ok tt)
      ∙ none_rest (width_tests src dst g n) (first (table_tests pairs gains) (Ok tt)) (accepted_none (width_tests src dst g n) (Ok tt) e).0

  fold_accepted : with_answer src dst g n pairs gains ≡ Ok tt → width_answer src dst g n ≡ Ok tt
  unfolding with_answer width_answer
  fold_accepted e =
      none_accepted (width_tests src dst g n)
      (none_split (width_tests src dst g n) (table_tests pairs gains) (accepted_none (with_tests src dst g n pairs gains) (Ok tt) e).0).0

  pub with_exactly : (with_answer src dst g n pairs gains ≡ Ok tt) ↔ ((width_answer src dst g n ≡ Ok tt) × TableSound pairs gains)
  with_exactly = (
    λ e. let w = fold_accepted e in (w, table_sound pairs gains (sym (own_accepted w) ∙ e)),
    λ s. own_accepted s.0 ∙ sound_accepted pairs gains s.1,
  )

-- ---- the area

module _ (src dst : ℕ) (g : FoldGains) (normalise : Bool) (pairs : List ℕ) (gains area : List Float) where
  pub with_refused : (r : Refusal) → with_answer src dst g (length area) pairs gains ≡ Err r → with_area src dst g normalise pairs gains area ≡ area
  unfolding with_area
  with_refused r e = refused_keeps (with_answer src dst g (length area) pairs gains) (with_entries src dst g normalise pairs gains ++ drop (channels dst * channels src) area) area r e

  module _ (e : with_answer src dst g (length area) pairs gains ≡ Ok tt) where
    written : with_area src dst g normalise pairs gains area ≡ with_entries src dst g normalise pairs gains ++ drop (channels dst * channels src) area
    unfolding with_area
    written =
        outcome_accepted (with_answer src dst g (length area) pairs gains) (with_entries src dst g normalise pairs gains ++ drop (channels dst * channels src) area) (λ _. area) e

    -- of a pair that the table covers the entry is the table's
    pub table_decides : applies src dst ≡ true → with_area src dst g normalise pairs gains area ≡ table_entry pairs gains src dst ++ drop (channels dst * channels src) area
    unfolding with_entries
    table_decides a =
        written
        ∙ ap (λ (b : Bool). cond b (table_entry pairs gains src dst) (entries_of src dst g normalise) ++ drop (channels dst * channels src) area) a

    -- and that is what stands there once the entry is put at the front
    pub table_put : {entry new : List Float} → applies src dst ≡ true → entry ≡ table_entry pairs gains src dst → new ≡ sets area 0 entry
        → new ≡ with_area src dst g normalise pairs gains area
    table_put {entry} {new} a p q =
        let k = (with_exactly src dst g (length area) pairs gains).0 e in
        let f = fitting src dst g (length area) k.0 in
        let n : length entry ≡ channels dst * channels src =
        ap length p ∙ entry_length pairs src dst gains (k.1.covered src dst f.source f.destination a) k.1.enough in
        q
        ∙ sets_front area entry (omega (arith, n, f.room))
        ∙ ap (λ (j : ℕ). entry ++ drop j area) n
        ∙ ap (λ (vs : List Float). vs ++ drop (channels dst * channels src) area) p
        ∙ sym (table_decides a)

    -- of any other it is the fold's without a table
    pub table_leaves : applies src dst ≡ false → with_area src dst g normalise pairs gains area ≡ width_area src dst g normalise area
    unfolding with_entries width_area
    table_leaves a =
        written
        ∙ ap (λ (b : Bool). cond b (table_entry pairs gains src dst) (entries_of src dst g normalise) ++ drop (channels dst * channels src) area) a
        ∙ sym (outcome_accepted (width_answer src dst g (length area)) (entries_of src dst g normalise ++ drop (channels dst * channels src) area) (λ _. area) (fold_accepted src dst g (length area) pairs gains e))

-- the flag does nothing to a table's entry
pub flag_idle : (src dst : ℕ) (g : FoldGains) (pairs : List ℕ) (gains area : List Float) → applies src dst ≡ true
    → with_area src dst g true pairs gains area ≡ with_area src dst g false pairs gains area
unfolding with_area with_entries
flag_idle src dst g pairs gains area a = rw a

-- ---- what the code goes by

pub ruleset decides = (own_refused, own_accepted, with_refused, table_put, table_leaves)
