-- `mix_matrix::add_part` meets its contract: a gain at rest equal to 0 adds nothing, and any other adds the part. Assumes nothing.
use mathlib.Core.Path.{refl, sym, ◌∙◌}
use lib.ListN.{get_or}
use lib.Ieee.{nan}
use borrow.Author.Rules.{rules}
use Prim.Native.Nat.{◌+◌}
use Rattle.mix.specs.Loops.{plus_scaled}
use Rattle.mix.proofs.Mixed.{part_mixed}
use Rattle.mix.proofs.Rows.{not_added, is_added}
use Rattle.mix_matrix.proofs.add_part.Goals as goal

pub returns-then-is_silent : goal.returns-then-is_silent
returns-then-is_silent c =
    let a = c.args in record {
      added = λ i h. not_added a.g (a.j + i) (get_or a.area.now (a.p + i) nan) (get_or a.t.now i nan) (sym c.is_silent.ensures ∙ c.if-is_silent.true);
    }

pub returns : goal.returns
returns c =
    let a = c.args in
    let f = plus_scaled a.g in record {
      added = λ i h.
          part_mixed f f a.j a.p a.m a.area.now a.t.now (search rules) (search rules)
          (λ i h x y. refl)
          c.mix_samples.ensures.mixed
          i
          h
          ∙ is_added a.g (a.j + i) (get_or a.area.now (a.p + i) nan) (get_or a.t.now i nan) (sym c.is_silent.ensures ∙ c.if-is_silent.false);
    }
