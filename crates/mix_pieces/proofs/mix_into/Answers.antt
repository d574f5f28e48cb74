use Prim.Native.Nat.{◌-◌, ◌*◌, ◌/◌}
use native.Mathlib.Omega.{arith}
use borrow.Author.Rules.{rules}
use Rattle.mix.specs.Loops.{whole_piece, by_gain}
use Rattle.mix.proofs.Pieces.{alone, piece_of, pieces_begin, piece_done, pieces_done, rest_done}
use Rattle.mix_pieces.proofs.mix_into.Goals as goal

pub loop-i-init : goal.loop-i-init
loop-i-init g c =
    let a = c.args in
    (search rules, pieces_begin (by_gain (g.M.Mixing.mixed a.by) (g.M.Mixing.gain a.by)) alone a.block a.s a.s a.d a.area.now)

pub loop-i-preserved : goal.loop-i-preserved
loop-i-preserved g c =
    let a = c.args in
    let p = c.requires in
    let l = c.loop-i in
    (search rules, piece_done (by_gain (g.M.Mixing.mixed a.by) (g.M.Mixing.gain a.by)) alone a.block a.s a.s a.d a.area.now p p l.i c.loop-i-test.true l.invariant.1 c.mix_piece.ensures)

pub returns-then-r-block : goal.returns-then-r-block
returns-then-r-block g c =
    let a = c.args in
    let l = c.loop-i in
    pieces_done (by_gain (g.M.Mixing.mixed a.by) (g.M.Mixing.gain a.by)) alone a.block a.s a.s a.d a.area.now l.i (omega arith) l.invariant.1

pub mix_last-requires : goal.mix_last-requires
mix_last-requires g c =
    let a = c.args in
    let r = whole_piece * (a.block / whole_piece) in
    piece_of c.requires c.loop-i.invariant.1.0 r (a.block - r) (omega arith) (omega arith)

pub returns-then-SHORT_PIECE : goal.returns-then-SHORT_PIECE
returns-then-SHORT_PIECE g c =
    let a = c.args in
    let p = c.requires in
    let l = c.loop-i in
    rest_done (by_gain (g.M.Mixing.mixed a.by) (g.M.Mixing.gain a.by)) alone a.block a.s a.s a.d a.area.now p p l.i (omega arith) l.invariant.1 c.mix_piece-then-SHORT_PIECE.ensures

pub returns-else-SHORT_PIECE : goal.returns-else-SHORT_PIECE
returns-else-SHORT_PIECE g c =
    let a = c.args in
    let p = c.requires in
    let l = c.loop-i in
    rest_done (by_gain (g.M.Mixing.mixed a.by) (g.M.Mixing.gain a.by)) alone a.block a.s a.s a.d a.area.now p p l.i (omega arith) l.invariant.1 c.mix_last.ensures
