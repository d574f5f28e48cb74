use Prim.Native.Nat.{ℕ, ◌+◌, ◌-◌, ◌*◌, ◌≤◌}
use mathlib.Core.Path.{◌≡◌, refl, ap, ◌∙◌}
use mathlib.Core.List.{List, ◌++◌, append_assoc}
use native.Mathlib.Numerals.{add-one}
use native.Mathlib.Omega.{arith}
use lib.ListN.{length, take, drop}
use lib.Seq.{sets, sets-eq, drop-drop}
use Rattle.signals.specs.Signals.{entry, entered}
use borrow.Author.Rules.{rules}
use Rattle.signals.proofs.inputs.directory.Goals as goal

-- an entry that is written whole is a run of stores
stored : (area row : List ℕ) (at : ℕ) → length row ≡ 4 → at + 4 ≤ length area
    → take at area ++ (row ++ drop ((at + 4) - at) (drop at area)) ≡ sets area at row
stored area row at e h =
    let k : (at + 4) - at ≡ 4 = omega arith in
    let f : at + length row ≤ length area = omega arith in
    rw (k, drop-drop, sets-eq row area at f, e, append_assoc)

pub loop-c-init : goal.loop-c-init
unfolding entered
loop-c-init c = (search rules, refl, refl)

pub loop-c-preserved : goal.loop-c-preserved
unfolding entered
loop-c-preserved c =
    let l = c.loop-c in (
      omega arith,
      search rules,
      rw (add-one l.c, c.copy_from_slice.ensures.after)
          (stored l.entries (entry 256 l.c) (l.c * 4) refl (omega arith) ∙ ap (λ (area : List ℕ). sets area (l.c * 4) (entry 256 l.c)) l.invariant.2),
    )

pub returns : goal.returns
returns c =
    let a = c.args in
    let e : c.loop-c.c ≡ 16 = omega arith in
    c.loop-c.invariant.2 ∙ ap (λ (n : ℕ). entered 256 n a.entries.now) e
