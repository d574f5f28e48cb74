use Prim.Native.Nat.{◌-◌, ◌*◌, ◌/◌}
use native.Mathlib.Omega.{arith}
use borrow.Author.Rules.{rules}
use Rattle.mix.specs.Loops.{whole_piece, by_gain}
use Rattle.mix.proofs.Pieces.{piece_of, pieces_begin, piece_done, pieces_done, rest_done}
use Rattle.mix_pairs.proofs.two_into.Goals as goal

pub loop-i-init : goal.loop-i-init
loop-i-init g c = let a = c.args in (search rules, pieces_begin (by_gain (g.M.Mixing.mixed a.first.1) (g.M.Mixing.gain a.first.1)) (by_gain (g.N.Mixing.mixed a.then.1) (g.N.Mixing.gain a.then.1)) a.block a.first.0 a.then.0 a.d a.area.now)

pub loop-i-preserved : goal.loop-i-preserved
loop-i-preserved g c =
    let a = c.args in
    let p = c.requires in
    let l = c.loop-i in
    (search rules, piece_done (by_gain (g.M.Mixing.mixed a.first.1) (g.M.Mixing.gain a.first.1)) (by_gain (g.N.Mixing.mixed a.then.1) (g.N.Mixing.gain a.then.1)) a.block a.first.0 a.then.0 a.d a.area.now p.first p.then l.i c.loop-i-test.true l.invariant.1 c.two_piece.ensures)

pub returns-then-r-block : goal.returns-then-r-block
returns-then-r-block g c =
    let a = c.args in
    let l = c.loop-i in
    pieces_done (by_gain (g.M.Mixing.mixed a.first.1) (g.M.Mixing.gain a.first.1)) (by_gain (g.N.Mixing.mixed a.then.1) (g.N.Mixing.gain a.then.1)) a.block a.first.0 a.then.0 a.d a.area.now l.i (omega arith) l.invariant.1

pub two_last-requires : goal.two_last-requires
two_last-requires g c =
    let a = c.args in
    let p = c.requires in
    let l = c.loop-i in
    let r = whole_piece * (a.block / whole_piece) in record {
      first = piece_of p.first l.invariant.1.0 r (a.block - r) (omega arith) (omega arith);
      then = piece_of p.then l.invariant.1.0 r (a.block - r) (omega arith) (omega arith);
    }

pub returns-then-SHORT_PIECE : goal.returns-then-SHORT_PIECE
returns-then-SHORT_PIECE g c =
    let a = c.args in
    let p = c.requires in
    let l = c.loop-i in
    rest_done (by_gain (g.M.Mixing.mixed a.first.1) (g.M.Mixing.gain a.first.1)) (by_gain (g.N.Mixing.mixed a.then.1) (g.N.Mixing.gain a.then.1)) a.block a.first.0 a.then.0 a.d a.area.now p.first p.then l.i (omega arith) l.invariant.1 c.two_piece-then-SHORT_PIECE.ensures

pub returns-else-SHORT_PIECE : goal.returns-else-SHORT_PIECE
returns-else-SHORT_PIECE g c =
    let a = c.args in
    let p = c.requires in
    let l = c.loop-i in
    rest_done (by_gain (g.M.Mixing.mixed a.first.1) (g.M.Mixing.gain a.first.1)) (by_gain (g.N.Mixing.mixed a.then.1) (g.N.Mixing.gain a.then.1)) a.block a.first.0 a.then.0 a.d a.area.now p.first p.then l.i (omega arith) l.invariant.1 c.two_last.ensures
