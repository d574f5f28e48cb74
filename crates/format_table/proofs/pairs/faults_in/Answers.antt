use mathlib.Core.Path.{◌≡◌, refl, subst}
use mathlib.Core.Bool.{false}
use Prim.Native.Nat.{ℕ, ◌<◌}
use native.Mathlib.Omega.{arith}
use Rattle.format_table.specs.Tables.{all_pairs}
use Rattle.format_table.specs.Loops.{FaultsIn}
use Rattle.format_table.proofs.Faults.{faults_none, faults_more}
use Rattle.format_table.proofs.pairs.faults_in.Goals as goal

pub loop-k-init : goal.loop-k-init
loop-k-init c =
    let a = c.args in
    (omega arith, faults_none a.pairs.now (record { missing = false; twice = false; uncovered = false }) refl refl refl)

pub loop-k-preserved : goal.loop-k-preserved
loop-k-preserved c =
    let a = c.args in
    let e = c.with_faults-faults.ensures in
    let h : c.loop-k.k < all_pairs = omega (arith, c.loop-k-test.true) in
    (omega arith, faults_more a.pairs.now c.seen_in-seen.result c.seen_in-seen.ensures c.loop-k.k h c.loop-k.faults c.with_faults-faults.result e.missing e.twice e.uncovered c.loop-k.invariant.1)

pub returns : goal.returns
returns c =
    let a = c.args in
    let e : c.loop-k.k ≡ all_pairs = omega arith in
    subst (λ (n : ℕ). FaultsIn a.pairs.now n c.loop-k.faults) e c.loop-k.invariant.1
