use mathlib.Core.Path.{◌≡◌, ap, ◌∙◌}
use Prim.Native.Nat.{◌+◌, ◌-◌, ◌*◌, ◌<◌, ◌≤◌}
use native.Mathlib.Omega.{arith}
use lib.ListN.{length, take, length-take, length-drop}
use lib.Seq.{sets}
use borrow.Rule.Slice.PartMut.{put_mid}
use Rattle.std.proofs.lemmas.List.{get_or-take}
use Rattle.sets.specs.declared.Set.{Set}
use Rattle.sets.specs.Sets.{members}
use Rattle.sets.proofs.Laws.{length_members_le}
use Rattle.plan.specs.Limits.{inputs}
use Rattle.trace.proofs.Lists.{writing_lists, writing_on, lent_store}
use Rattle.trace_sources.specs.Loops.{set_at}
use Rattle.trace_calls.proofs.slots.write_lists.Goals.{In-loop-s}
use Rattle.trace_calls.proofs.slots.write_lists.Goals as goal

turn : (c : In-loop-s) → c.loop-s.s < c.args.n
turn c = omega (arith, c.loop-s-test.true, length-take c.args.n c.args.area.now)

-- there is room for the slot's list
room : (c : In-loop-s) → c.loop-s.s * inputs + inputs ≤ length c.loop-s.lists
room c = omega (arith, turn c, writing_lists c.loop-s.invariant, c.requires.3)

pub list-requires : goal.list-requires
list-requires c =
    let at = (goal.at.list-requires c).In-loop-s in
    simp (length-take, length-drop) (omega (arith, length_members_le (set_at (take c.args.n c.args.area.now) c.loop-s.s), room at))

pub loop-s-preserved : goal.loop-s-preserved
loop-s-preserved c =
    let place = (goal.at.loop-s-preserved c).In-loop-s in
    let l = c.loop-s in
    let at = l.s * inputs in
    let set : Set = set_at (take c.args.n c.args.area.now) l.s in
    let own : set ≡ set_at c.args.area.now l.s = get_or-take c.args.n c.args.area.now l.s _ (turn place) in
    writing_on l.invariant (turn place) c.count.result (c.count.ensures ∙ ap (λ (x : Set). length (members x)) own) _
    (ap (put_mid at (length l.lists - at) l.lists) c.list.ensures
    ∙ lent_store l.lists at (members set) (omega (arith, length_members_le set, room place))
    ∙ ap (λ (x : Set). sets l.lists at (members x)) own)
