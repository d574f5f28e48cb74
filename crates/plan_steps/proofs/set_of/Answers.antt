use mathlib.Core.Path.{◌≡◌, sym, ap, ◌∙◌}
use mathlib.Core.Bool.{Bool, ◌||◌, or_assoc, or-false}
use mathlib.Core.List.{List}
use Prim.Native.Nat.{ℕ, ◌+◌, ◌<◌}
use native.Mathlib.Omega.{arith}
use lib.Dec.{eqb}
use lib.ListN.{length, get_or, drop}
use Rattle.lists.specs.Entries.{has}
use Rattle.lists.proofs.Bools.{eqb_swap}
use Rattle.lists.proofs.Entries.{some_none}
use Rattle.lists.proofs.Scans.{has_listed, listed_here, listed_end}
use Rattle.sets.specs.Sets.{member, set_size}
use Rattle.sets.specs.declared.Set.{Set}
use Rattle.plan_steps.proofs.set_of.Invariants.{Whole}
use Rattle.plan_steps.proofs.set_of.Goals as goal

one_more : (list : List ℕ) (i : ℕ) (s t : Set) → i < length list → ((j : ℕ) → member t j ≡ (member s j || eqb j (get_or list i 0))) → Whole list i s
    → Whole list (i + 1) t
one_more list i s t h w all j =
    let x = get_or list i 0 in
    let rest = has (drop (i + 1) list) j in
    ap (λ (b : Bool). b || rest) (w j)
    ∙ or_assoc (member s j) (eqb j x) rest
    ∙ ap (λ (b : Bool). member s j || (b || rest)) (eqb_swap j x)
    ∙ ap (λ (b : Bool). member s j || b) (sym (listed_here (has_listed j) list h))
    ∙ all j

pub loop-entry-init : goal.loop-entry-init
loop-entry-init c j = ap (λ (b : Bool). b || has c.args.list.now j) (c.empty-set.ensures j)

pub with-set-requires : goal.with-set-requires
with-set-requires c = (some_none set_size c.args.list.now).0 c.requires c.loop-entry.entry-index c.loop-entry-test.true

pub loop-entry-preserved : goal.loop-entry-preserved
loop-entry-preserved c =
    let l = c.loop-entry in
    one_more c.args.list.now l.entry-index l.set c.with-set.result c.loop-entry-test.true c.with-set.ensures l.invariant

pub returns : goal.returns
returns c j =
    let l = c.loop-entry in
    let list = c.args.list.now in
    sym (or-false (member l.set j))
    ∙ ap (λ (b : Bool). member l.set j || b) (sym (listed_end (has_listed j) list l.entry-index (omega arith)))
    ∙ l.invariant j
