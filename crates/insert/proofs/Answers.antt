-- What each test of an insert makes of its answer: one law for each way out. Assumes nothing.
use mathlib.Core.Path.{◌≡◌, ◌∙◌}
use mathlib.Core.Bool.{true, false, ◌&&◌}
use mathlib.Core.List.{List}
use Prim.Native.Nat.{ℕ}
use Rattle.refusal.specs.Tests.{refusal, first, Answer}
use Rattle.refusal.specs.declared.Refusal.{Refusal}
use Rattle.node.specs.Sizes.{ramp_too_long}
use Rattle.format.specs.Formats.{unknown_format, channels}
use Rattle.plan.specs.declared.Plan.{Plan}
use Rattle.plan.specs.declared.Limits.{Limits}
use Rattle.plan.specs.Check.{past}
use Rattle.builder.specs.declared.Growth.{Growth}
use Rattle.builder.specs.declared.Lengths.{Lengths}
use Rattle.builder.specs.Growth.{limit_tests, grows_past, growth_tests}
use Rattle.builder.specs.Sums.{ids_taken}
use Rattle.builder.proofs.Limits.{growth_refused, growth_short, growth_own}
use Rattle.insert.specs.declared.InsertPoint.{InsertPoint}
use Rattle.insert.specs.Insert.{insert_growth, insert_ids, return_bad, insert_own, insert_answer}
use Rattle.refusal.specs.declared.Reason.TheVariants.{BadReturn, IdTaken, LongRamp, NoFormat, OutsideTable, ShortArea}
use Rattle.std.specs.Prelude.{Ok, Err, None}

module _ (l : Limits) (p : Plan) (i : InsertPoint) (lent : Lengths) (words : List ℕ) where
  abbrev growth : Growth
  growth = insert_growth i.returns (channels i.format)

  abbrev answered : Answer
  answered = insert_answer l p i lent words

  pub insert_16 : unknown_format i.format ≡ true → answered ≡ Err (refusal NoFormat None)
  unfolding insert_answer
  insert_16 e = rw e

  module _ (e16 : unknown_format i.format ≡ false) where
    pub insert_18 : (i.returns && return_bad (channels i.format) i.back) ≡ true → answered ≡ Err (refusal BadReturn None)
    unfolding insert_answer
    insert_18 e = rw (e16, e)

    module _ (e18 : (i.returns && return_bad (channels i.format) i.back) ≡ false) where
      pub insert_4 : past p.indices i.src ≡ true → answered ≡ Err (refusal OutsideTable None)
      unfolding insert_answer
      insert_4 e = rw (e16, e18, e)

      module _ (e4 : past p.indices i.src ≡ false) where
        -- from here on the whole insert is tested as one builder call
        as_one : answered ≡ first (growth_tests l p growth lent (insert_own p i words)) (Ok tt)
        unfolding insert_answer
        as_one = rw (e16, e18, e4)

        pub insert_5 : (r : Refusal) → first (limit_tests l p growth) (Ok tt) ≡ Err r → answered ≡ Err r
        insert_5 r e = as_one ∙ growth_refused l p growth lent (insert_own p i words) r e

        module _ (e5 : first (limit_tests l p growth) (Ok tt) ≡ Ok tt) where
          pub insert_2 : grows_past p growth lent ≡ true → answered ≡ Err (refusal ShortArea None)
          insert_2 e = as_one ∙ growth_short l p growth lent (insert_own p i words) e5 e

          module _ (e2 : grows_past p growth lent ≡ false) where
            own : answered ≡ first (insert_own p i words) (Ok tt)
            own = as_one ∙ growth_own l p growth lent (insert_own p i words) e5 e2

            pub insert_8 : ids_taken words p.nodes (insert_ids i.returns i.ids) ≡ true → answered ≡ Err (refusal IdTaken None)
            insert_8 e = own ∙ rw e

            module _ (e8 : ids_taken words p.nodes (insert_ids i.returns i.ids) ≡ false) where
              pub insert_10 : ramp_too_long i.ramp ≡ true → answered ≡ Err (refusal LongRamp None)
              insert_10 e = own ∙ rw (e8, e)

              pub insert_passes_all : ramp_too_long i.ramp ≡ false → answered ≡ Ok tt
              insert_passes_all e = own ∙ rw (e8, e)
