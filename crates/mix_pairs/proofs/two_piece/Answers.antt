-- `mix_pairs::two_piece` meets its contract: by the law of a piece of two sources. Assumes nothing.
use mathlib.Core.Path.{refl}
use Prim.Native.Nat.{◌+◌}
use borrow.Author.Rules.{rules}
use Rattle.mix.specs.Loops.{by_gain}
use Rattle.mix.proofs.Mixed.{piece_two}
use Rattle.mix_pairs.proofs.two_piece.Goals as goal

pub returns : goal.returns
returns g c =
    let a = c.args in
    let p = c.requires in
    let f = by_gain (g.M.Mixing.mixed a.first.1) (g.M.Mixing.gain a.first.1) in
    let q = by_gain (g.N.Mixing.mixed a.then.1) (g.N.Mixing.gain a.then.1) in
    piece_two f q f q (a.first.0 + a.k) (a.then.0 + a.k) (a.to + a.k) a.m a.k a.area.now _ p.first.source p.then.source p.first.target (search rules)
    (λ i h x y. refl)
    (λ i h x y. refl)
    c.mix_samples.ensures.mixed
    c.mix_samples-2.ensures.mixed
    c.mix_samples-3.ensures.mixed
    c.store.ensures
