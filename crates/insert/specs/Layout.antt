-- Lists of calls, each a single builder call or an insert: what they leave, which of them are accepted, and the draft of the accepted ones. Definitions only.
use Rattle.std.specs.Prelude.{List, [], ◌∷◌, length}
use Rattle.refusal.specs.Tests.{outcome, Answer}
use Rattle.format.specs.Formats.{channels}
use Rattle.plan.specs.declared.Plan.{Plan}
use Rattle.plan.specs.declared.Limits.{Limits}
use Rattle.plan.specs.PlanRecord.{plan_with}
use Rattle.builder.specs.declared.Growth.{Growth}
use Rattle.builder.specs.Built.{BuilderCall, Asked, BuilderState, answer, after, Draft, given, drafted}
use Rattle.builder.specs.Sums.{sum, no_growth, growth_of}
use Rattle.insert.specs.declared.InsertPoint.{InsertPoint}
use Rattle.insert.specs.Wiring.{insert_calls}
use Rattle.insert.specs.Insert.{insert_growth, answer_to, inserted}

-- a call between `new` and `finish`
pub data LayoutCall : Type 0 where
  single : BuilderCall → LayoutCall
  insert : InsertPoint → LayoutCall

abbrev pub layout_growth : LayoutCall → Growth
layout_growth (single c) = growth_of c
layout_growth (insert i) = insert_growth i.returns (channels i.format)

abbrev pub layout_growth_of_all : List LayoutCall → Growth
layout_growth_of_all [] = no_growth
layout_growth_of_all (c ∷ cs) = sum (layout_growth c) (layout_growth_of_all cs)

module _ (l : Limits) where
  abbrev pub layout_answer : BuilderState → LayoutCall → Answer
  layout_answer s (single c) = answer l s c
  layout_answer s (insert i) = answer_to l s i

  abbrev pub layout_after : BuilderState → LayoutCall → BuilderState
  layout_after s (single c) = after l s c
  layout_after s (insert i) = inserted l s i

-- what a list of calls leaves, and those of them that are accepted, without their limits
abbrev pub laid : BuilderState → List (Asked LayoutCall) → BuilderState
laid s [] = s
laid s (c ∷ cs) = laid (layout_after c.limits s c.call) cs

abbrev pub accepted_layout : BuilderState → List (Asked LayoutCall) → List LayoutCall
accepted_layout s [] = []
accepted_layout s (c ∷ cs) =
    let rest = accepted_layout (layout_after c.limits s c.call) cs in
    outcome (layout_answer c.limits s c.call) (c.call ∷ rest) (λ _. rest)

-- ---- the draft: an insert gives what its single calls give

-- the counts of a draft, of which an insert's calls are made; the block does not matter to them
abbrev pub counts : Draft → Plan
counts d = plan_with 0 d.buffers (length d.indices) (length d.coefficients) (length d.nodes) (length d.steps) (length d.words)

abbrev pub layout_given : Draft → LayoutCall → Draft
layout_given d (single c) = given d c
layout_given d (insert i) = drafted d (insert_calls (counts d) i)

abbrev pub layout_drafted : Draft → List LayoutCall → Draft
layout_drafted d [] = d
layout_drafted d (c ∷ cs) = layout_drafted (layout_given d c) cs
