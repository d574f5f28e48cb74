use mathlib.Core.Path.{refl}
use Prim.Native.Nat.{◌+◌}
use native.Mathlib.Omega.{arith}
use lib.ListN.{get_or}
use lib.Ieee.{nan, eq, ne}
use borrow.Author.Rules.{rules}
use Rattle.lists.proofs.Bools.{first_not, second_not}
use Rattle.mix.specs.Mix.{is_zero}
use Rattle.mix.proofs.Given.{pair_of}
use Rattle.mix.proofs.Turns.{no_source, source_sent, sources_sent, two_sent}
use Rattle.mix_send.proofs.send_row.Goals as goal

pub send_two-requires : goal.send_two-requires
unfolding eq ne
send_two-requires c =
    let a = c.args in
    let p = c.requires in
    let n = c.if-from-eq2.true in
    let b = c.if-w-v.true in record {
      first = (pair_of refl p 0 (omega arith), first_not (is_zero (get_or a.from.weights.now a.from.at nan)) (is_zero (get_or a.from.weights.now (a.from.at + 1) nan)) b);
      then = (pair_of refl p 1 (omega arith), second_not (is_zero (get_or a.from.weights.now a.from.at nan)) (is_zero (get_or a.from.weights.now (a.from.at + 1) nan)) b);
    }

pub returns-then-w-v : goal.returns-then-w-v
returns-then-w-v c =
    let a = c.args in
    two_sent a.block a.g.gain a.from.weights.now a.from.src.now a.d a.from.at a.area.now c.if-from-eq2.true c.send_two.ensures

pub loop-c-init : goal.loop-c-init
loop-c-init c = let a = c.args in (search rules, refl, no_source a.block a.g.gain a.from.weights.now a.from.src.now a.d a.from.at a.area.now)

pub send_into-requires : goal.send_into-requires
send_into-requires c = let l = c.loop-c in pair_of l.invariant.1 c.requires l.c c.loop-c-test.true

pub loop-c-preserved : goal.loop-c-preserved
loop-c-preserved c =
    let a = c.args in
    let l = c.loop-c in (
      search rules,
      search rules,
      source_sent a.block a.g.gain a.from.weights.now a.from.src.now a.d a.from.at l.c l.area (search rules) l.invariant.2 c.send_into.ensures,
    )

pub returns : goal.returns
returns c =
    let a = c.args in
    let l = c.loop-c in sources_sent a.block a.g.gain a.from.weights.now a.from.src.now a.d a.from.at l.c l.area (omega arith) l.invariant.2
