use native.Mathlib.Omega.{arith}
use Rattle.sets.proofs.Words.{listing_starts, listing_room, listing_on, listing_ends}
use Rattle.sets.proofs.Set.list.Goals as goal

pub loop-k-init : goal.loop-k-init
loop-k-init c = listing_starts c.args.self c.args.out.now

pub list_word-n-requires : goal.list_word-n-requires
list_word-n-requires c =
    let room = listing_room c.args.self c.args.out.now c.loop-k.invariant c.loop-k-test.true in
    (omega (arith, c.loop-k-test.true), omega (arith, room, c.loop-k.auto.out, c.requires))

pub loop-k-preserved : goal.loop-k-preserved
loop-k-preserved c = listing_on c.args.self c.args.out.now c.loop-k.invariant c.list_word-n.ensures

pub returns : goal.returns
returns c =
    listing_ends c.args.self c.args.out.now c.loop-k.invariant (omega (arith, c.loop-k-test.false, c.loop-k.auto.k-end)) c.requires
