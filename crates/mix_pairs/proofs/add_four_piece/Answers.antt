-- `mix_pairs::add_four_piece` meets its contract: by the laws of a piece of two sources, and of a second one from them. Assumes nothing.
use mathlib.Core.Path.{refl}
use Prim.Native.Nat.{◌+◌}
use native.Mathlib.Omega.{arith}
use lib.ListN.{replicate, length-replicate}
use Rattle.node.specs.declared.Gain.TheVariants.{Rest}
use Rattle.mix.specs.Samples.{silence}
use Rattle.mix.specs.Loops.{whole_piece, plus_scaled}
use Rattle.mix.proofs.Mixed.{part_length, piece_two, piece_four}
use Rattle.mix_pairs.proofs.add_four_piece.Goals as goal

pub mix_samples-requires-6 : goal.mix_samples-requires-6
mix_samples-requires-6 c =
    let a = c.args in
    let p = c.requires in
    let n = part_length a.area.now (a.then.0 + a.k) whole_piece p.then.0.source in record {
      piece = (omega (arith, n, p.first.0.short), omega (arith, n, p.first.0.within));
    }

pub store-requires : goal.store-requires
store-requires c = let p = c.requires in record {
  fits = (p.first.0.target, p.first.0.short);
}

pub store-requires-2 : goal.store-requires-2
store-requires-2 c = let p = c.requires in record {
  fits = (omega (arith, p.next.0.source, c.store.auto.area), p.first.0.short);
}

pub returns : goal.returns
returns c =
    let a = c.args in
    let p = c.requires in
    let f = plus_scaled (Rest a.first.1.0) in
    let q = plus_scaled (Rest a.then.1.0) in
    let t = replicate whole_piece silence in
    let n = length-replicate whole_piece silence in
    piece_four f q (plus_scaled (Rest a.first.1.1)) (plus_scaled (Rest a.then.1.1)) (a.first.0 + a.k) (a.then.0 + a.k) (a.to + a.k) (a.next + a.k) whole_piece a.k a.area.now t
    p.first.0.source
    p.then.0.source
    p.next.0.source
    (omega (arith, n, p.first.0.short))
    p.first.1
    p.then.1
    p.next.1
    (piece_two f q f q (a.first.0 + a.k) (a.then.0 + a.k) (a.to + a.k) whole_piece a.k a.area.now t p.first.0.source p.then.0.source p.first.0.target (omega (arith, n, p.first.0.short))
    (λ i h x y. refl)
    (λ i h x y. refl)
    c.mix_samples.ensures.mixed
    c.mix_samples-3.ensures.mixed
    c.mix_samples-4.ensures.mixed
    c.store.ensures)
    c.mix_samples-2.ensures.mixed
    c.mix_samples-5.ensures.mixed
    c.mix_samples-6.ensures.mixed
    c.store-2.ensures
