-- `insert_answers::insert_answer` meets its contract where a limit refuses: the limits' answer is that of the insert. Assumes nothing.
use mathlib.Core.Path.{◌≡◌, sym, ap, ◌∙◌}
use mathlib.Core.Bool.{Bool, false, ◌&&◌}
use Prim.Native.Nat.{ℕ}
use borrow.Author.Tests.{lt-leb}
use Rattle.format.specs.Formats.{unknown_format, channels}
use Rattle.plan.specs.Check.{past}
use Rattle.builder.specs.declared.Growth.{Growth}
use Rattle.builder.proofs.Limits.{limits_say}
use Rattle.insert.specs.Insert.{insert_growth, return_bad}
use Rattle.insert.proofs.Answers.{insert_5}
use Rattle.insert_answers.specs.Lent.{lengths_of}
use Rattle.insert_answers.proofs.insert_answer.Goals as goal
use Rattle.std.proofs.Common.{rules}

pub returns-in_err-limits_answer : goal.returns-in_err-limits_answer
returns-in_err-limits_answer c =
    let a = c.args in
    let i = a.insert in
    let g : Growth = insert_growth i.returns (channels i.format) in
    let known : unknown_format i.format ≡ false = lt-leb 7 i.format c.if-insert-ge-COUNT.false in
    let good : (i.returns && return_bad (channels i.format) i.back) ≡ false =
    ap (λ (n : ℕ). i.returns && return_bad n i.back) (sym c.channels-n.ensures) ∙ ap (λ (t : Bool). i.returns && t) (sym c.return_bad.ensures) ∙ c.if-returns-return_bad.false in
    let inside : past a.plan.indices i.src ≡ false = sym c.span_past.ensures ∙ c.if-span_past.false in
    let made : c.insert_growth-growth.result ≡ g = c.insert_growth-growth.ensures ∙ ap (insert_growth i.returns) c.channels-n.ensures in
    let over = limits_say a.limits a.plan g made c.limits_answer.ensures c.in_err-limits_answer.was in
    let e = insert_5 a.limits a.plan i (lengths_of a.lent) a.lent.words.now known good inside c.in_err-limits_answer.field-0.0 over in
    search rules
