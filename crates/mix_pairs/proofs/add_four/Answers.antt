use mathlib.Core.Path.{◌∙◌}
use Prim.Native.Nat.{◌-◌, ◌*◌, ◌/◌}
use native.Mathlib.Omega.{arith}
use borrow.Author.Rules.{rules}
use Rattle.node.specs.declared.Gain.TheVariants.{Rest}
use Rattle.mix.specs.Loops.{whole_piece, plus_scaled}
use Rattle.mix.proofs.Pieces.{piece_of, both_begin, both_apart, both_done, boths_done, both_rest}
use Rattle.mix_pairs.proofs.add_four.Goals as goal

pub loop-i-init : goal.loop-i-init
loop-i-init c = let a = c.args in (search rules, both_begin (plus_scaled (Rest a.first.1.0)) (plus_scaled (Rest a.then.1.0)) (plus_scaled (Rest a.first.1.1)) (plus_scaled (Rest a.then.1.1)) a.block a.first.0 a.then.0 a.d a.e a.area.now)

pub add_four_piece-requires : goal.add_four_piece-requires
add_four_piece-requires c =
    let a = c.args in
    let p = c.requires in
    let l = c.loop-i in
    let r = whole_piece * l.i in
    let e = both_apart (plus_scaled (Rest a.first.1.0)) (plus_scaled (Rest a.then.1.0)) (plus_scaled (Rest a.first.1.1)) (plus_scaled (Rest a.then.1.1)) a.block a.first.0 a.then.0 a.d a.e a.area.now p.d.0 p.d.1 p.e.0 p.e.1 p.differ in record {
      first = piece_of p.d.0 l.invariant.1.0 r whole_piece (omega arith) (omega arith);
      then = piece_of p.d.1 l.invariant.1.0 r whole_piece (omega arith) (omega arith);
      next = piece_of e l.invariant.1.0 r whole_piece (omega arith) (omega arith);
    }

pub loop-i-preserved : goal.loop-i-preserved
loop-i-preserved c =
    let a = c.args in
    let p = c.requires in
    let l = c.loop-i in
    (search rules, both_done (plus_scaled (Rest a.first.1.0)) (plus_scaled (Rest a.then.1.0)) (plus_scaled (Rest a.first.1.1)) (plus_scaled (Rest a.then.1.1)) a.block a.first.0 a.then.0 a.d a.e a.area.now p.d.0 p.d.1 p.e.0 p.e.1 p.differ l.i c.loop-i-test.true l.invariant.1 c.add_four_piece.ensures)

pub returns-then-r-block : goal.returns-then-r-block
returns-then-r-block c =
    let a = c.args in
    let p = c.requires in
    let l = c.loop-i in
    boths_done (plus_scaled (Rest a.first.1.0)) (plus_scaled (Rest a.then.1.0)) (plus_scaled (Rest a.first.1.1)) (plus_scaled (Rest a.then.1.1)) a.block a.first.0 a.then.0 a.d a.e a.area.now p.d.0 p.d.1 p.e.0 p.e.1 p.differ l.i (omega arith) l.invariant.1

pub two_last-requires : goal.two_last-requires
two_last-requires c =
    let a = c.args in
    let p = c.requires in
    let l = c.loop-i in
    let r = whole_piece * (a.block / whole_piece) in record {
      first = piece_of p.d.0 l.invariant.1.0 r (a.block - r) (omega arith) (omega arith);
      then = piece_of p.d.1 l.invariant.1.0 r (a.block - r) (omega arith) (omega arith);
    }

pub two_last-requires-2 : goal.two_last-requires-2
two_last-requires-2 c =
    let a = c.args in
    let p = c.requires in
    let l = c.loop-i in
    let n = c.two_last.auto.area ∙ l.invariant.1.0 in
    let r = whole_piece * (a.block / whole_piece) in record {
      first = piece_of p.e.0 n r (a.block - r) (omega arith) (omega arith);
      then = piece_of p.e.1 n r (a.block - r) (omega arith) (omega arith);
    }

pub returns : goal.returns
returns c =
    let a = c.args in
    let p = c.requires in
    let l = c.loop-i in
    both_rest (plus_scaled (Rest a.first.1.0)) (plus_scaled (Rest a.then.1.0)) (plus_scaled (Rest a.first.1.1)) (plus_scaled (Rest a.then.1.1)) a.block a.first.0 a.then.0 a.d a.e a.area.now p.d.0 p.d.1 p.e.0 p.e.1 p.differ l.i (omega arith) l.invariant.1 c.two_last.ensures c.two_last-2.ensures
