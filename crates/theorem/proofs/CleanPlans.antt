-- A plan that the clean answer calls clean: it is accepted, its steps are clean, and every input behind a slot is in the slot's list.
-- Assumes nothing.
use mathlib.Core.Path.{◌≡◌, sym, ap, ◌∙◌}
use mathlib.Core.Bool.{true}
use mathlib.Core.List.{List}
use Prim.Native.Nat.{ℕ}
use Rattle.lists.specs.Entries.{has}
use Rattle.plan.specs.Areas.{short_lists}
use Rattle.plan.specs.Sound.{Sound}
use Rattle.plan.proofs.Exact.{accepted_sound}
use Rattle.trace.specs.Sources.{no_sources, behind, source_list}
use Rattle.trace.specs.Clean.{none_written, clean_from, clean}
use Rattle.trace.specs.Calls.{traced_steps, clean_answer}
use Rattle.trace.proofs.Answers.{clean_says}
use Rattle.trace.proofs.Behind.{traced_coefficients, traced_clean, sound_known, listed}
use Rattle.run.specs.Calls.{Fixed, steps_of_plan}
use Rattle.theorem.proofs.Block.{Within}
use Rattle.std.specs.Prelude.{Ok}

module _ (f : Fixed) (words : List ℕ) (e : clean_answer f.plan f.indices words f.steps ≡ (Ok true)) where
  pub clean_sound : Sound f.plan (short_lists f.plan f.indices words f.steps) f.indices words f.steps
  clean_sound =
      accepted_sound f.plan (short_lists f.plan f.indices words f.steps) f.indices words f.steps
      (clean_says f.plan f.indices words f.steps e).0

  pub clean_steps : clean_from none_written (steps_of_plan f) ≡ true
  unfolding clean
  clean_steps = traced_clean f.plan f.indices f.coefficients f.steps ∙ (clean_says f.plan f.indices words f.steps e).1

  pub all_listed : (s : ℕ) → Within (behind s no_sources (steps_of_plan f)) (has (source_list s (traced_steps f.plan f.indices f.steps)))
  all_listed s i q =
      ap (λ (xs : List ℕ). has xs i) (sym (traced_coefficients f.plan f.indices f.coefficients f.steps s))
      ∙ listed s (steps_of_plan f) (sound_known f.coefficients clean_sound) i q
