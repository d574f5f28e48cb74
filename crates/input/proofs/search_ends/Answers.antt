use mathlib.Core.Path.{◌≡◌, refl, sym, subst}
use Prim.Native.Nat.{ℕ, ◌+◌}
use native.Mathlib.Omega.{arith}
use Rattle.input.specs.Input.{entries}
use Rattle.input.specs.Loops.{Ends}
use Rattle.input.proofs.Ends.{ends_none, ends_past, ends_named}
use Rattle.input.proofs.search_ends.Goals as goal
use Rattle.input.proofs.search_ends.Goals.{then-input-lt-INPUTS, else-input-lt-INPUTS}

pub loop-entry-init : goal.loop-entry-init
loop-entry-init c = (omega arith, ends_none c.args.directory.now c.args.ends.now c.requires.1)

pub loop-entry-preserved : goal.loop-entry-preserved
loop-entry-preserved c =
    let l = c.loop-entry in
    let d = c.args.directory.now in (
      omega arith,
      elim c.if-input-lt-INPUTS.branch [
        | then-input-lt-INPUTS w ↦ subst (Ends d (l.entry + 1)) (sym w.ends-is) (ends_named d l.entry l.ends l.invariant.1 _ refl w.if-input-lt-INPUTS.true)
        | else-input-lt-INPUTS w ↦ subst (Ends d (l.entry + 1)) (sym w.ends-is) (ends_past d l.entry l.ends l.invariant.1 w.if-input-lt-INPUTS.false)
      ],
    )

pub returns : goal.returns
returns c =
    let l = c.loop-entry in
    let d = c.args.directory.now in
    let e : l.entry ≡ entries d = omega arith in
    subst (λ (n : ℕ). Ends d n l.ends) e l.invariant.1
