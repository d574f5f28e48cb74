-- `mix_pieces::mix_piece` meets its contract: by the law of a piece, for what is done to a sample here. Assumes nothing.
use mathlib.Core.Path.{refl}
use borrow.Author.Rules.{rules}
use Rattle.mix.specs.Loops.{by_gain}
use Rattle.mix.proofs.Mixed.{piece_mixed}
use Rattle.mix_pieces.proofs.mix_piece.Goals as goal

pub returns : goal.returns
returns g c =
    let a = c.args in
    let p = c.requires in
    let f = by_gain (g.M.Mixing.mixed a.by) (g.M.Mixing.gain a.by) in
    piece_mixed f f a.from a.to a.m a.k a.area.now _ p.source p.target (search rules)
    (λ i h x y. refl)
    c.mix_samples.ensures.mixed
    c.mix_samples-2.ensures.mixed
    c.store.ensures
