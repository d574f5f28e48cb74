-- The draft that a plan and its areas hold: what they have up to the counts, read back. A plan that the check accepts holds it where no word that counts lies
-- after its last step; and no word does in a plan that holds a draft. Assumes nothing.
use mathlib.Core.Path.{◌≡◌, refl, sym, subst}
use mathlib.Core.List.{List}
use lib.ListN.{length, take}
use lib.Seq.{length-take-le}
use lib.Ieee.{Float}
use Rattle.node.specs.Areas.{nodes}
use Rattle.node.proofs.Areas.{length_nodes}
use Rattle.plan.specs.Areas.{short_areas}
use Rattle.plan.specs.Check.{check_plan}
use Rattle.plan.specs.Sound.{steps_of}
use Rattle.plan.proofs.Accepted.{accepted_room}
use Rattle.plan.proofs.Exact.{accepted_all}
use Rattle.builder.specs.Built.{BuilderState, areas_with, Draft, Reads, NoWordsAfter, Drafted}
use Rattle.builder.proofs.ReadBack.{drafted_steps}
use Rattle.std.specs.Prelude.{Ok}

abbrev pub held : BuilderState → Draft
held s =
    record {
      buffers = s.plan.buffers;
      indices = take s.plan.indices s.indices;
      coefficients = take s.plan.coefficients s.coefficients;
      nodes = nodes s.plan.nodes s.floats s.words;
      steps = steps_of s.plan s.steps;
      words = take s.plan.words s.steps;
    }

module _ (s : BuilderState) where
  pub accepted_held : (area : List Float) → check_plan s.plan (areas_with s area) ≡ Ok tt → NoWordsAfter s → Drafted s (held s)
  accepted_held area e ended =
      let p = s.plan in
      let room = accepted_room p (areas_with s area) e in
      let words : length (take p.words s.steps) ≡ p.words = length-take-le p.words s.steps room.steps in
      record {
        buffers = refl;
        index_count = sym (length-take-le p.indices s.indices room.indices);
        coefficient_count = sym (length-take-le p.coefficients s.coefficients room.coefficients);
        node_count = sym (length_nodes p.nodes s.floats s.words);
        step_count = sym (accepted_all p (short_areas p (areas_with s area)) s.indices s.words s.steps e).readable;
        word_count = sym words;
        indices = refl;
        coefficients = refl;
        nodes = refl;
        words = refl;
        steps = subst (Reads (take p.words s.steps) 0 (steps_of p s.steps)) (sym words) ended;
      }

  pub drafted_no_words_after : (d : Draft) → Drafted s d → NoWordsAfter s
  drafted_no_words_after d h = rw (drafted_steps s d h, h.words, h.word_count) h.steps
