use Prim.Native.Nat.{ℕ, ◌/◌}
use mathlib.Core.Path.{◌≡◌, refl, ap, ◌∙◌}
use native.Mathlib.Numerals.{add-one}
use native.Mathlib.Omega.{arith}
use lib.ListN.{length}
use Rattle.signals.specs.Digest.{with_frame, with_frames}
use borrow.Author.Rules.{rules}
use Rattle.signals.proofs.digest.with_frames.Goals as goal

pub loop-k-init : goal.loop-k-init
unfolding with_frames
loop-k-init c = (search rules, refl)

pub loop-k-preserved : goal.loop-k-preserved
unfolding with_frames
loop-k-preserved c =
    let b = c.args.blocks.now in
    (omega arith, rw (add-one c.loop-k.k) (c.with_frame-digest.ensures ∙ ap (λ (d : ℕ). with_frame 256 d b c.loop-k.k (length b / 256)) c.loop-k.invariant.1))

pub returns : goal.returns
returns c =
    let a = c.args in
    let e : c.loop-k.k ≡ 256 = omega arith in
    c.loop-k.invariant.1 ∙ ap (with_frames 256 (length a.blocks.now / 256) a.digest a.blocks.now) e
