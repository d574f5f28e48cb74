-- `node::Gain::factor` meets its contract: by the arm that the match took. Assumes nothing.
use mathlib.Core.Path.{◌≡◌, ◌∙◌}
use mathlib.Core.Bool.{true, cond}
use Prim.Native.Nat.{ℕ, ◌+◌, ◌<◌, ◌≤◌}
use native.Mathlib.Omega.{arith}
use borrow.Author.Tests.{leb-true, lt-ltb}
use lib.IntN.{pos}
use lib.Ieee.{Float, binary32, in_float, add, mul, of_int}
use lib.Dec.{T, ltb, lit≤}
use mir.Syntax.{w32}
use mir.Val.{to_z}
use mir.Facts.{to_z_pos}
use Rattle.node.specs.declared.Gain.{Gain}
use Rattle.node.specs.declared.Gain.TheVariants.{Moving}
use Rattle.node.specs.Sizes.{max_ramp}
use Rattle.node.specs.Nodes.{factor, ramping}
use Rattle.node.proofs.Casts.{exact}
use Rattle.node.proofs.Gain.factor.Goals as goal

-- a small number as an i32
signed : (n : ℕ) → n ≤ max_ramp → to_z w32 n ≡ pos n
signed n h = to_z_pos w32 (omega arith)

signed_exact : (k i : ℕ) → k < max_ramp → i ≤ 1 → T (in_float binary32 (to_z w32 (k + i)))
signed_exact k i h l = rw (signed (k + i) (omega arith)) (exact (k + i) (omega arith))

abbrev moved : Float → Float → ℕ → Float
moved cur step k = add binary32 cur (mul binary32 step (of_int binary32 (to_z w32 (k + 1))))

module _ {g : Gain} {cur step t : Float} {left : ℕ} (e : g ≡ Moving cur step t left) (k : ℕ) (h : k < max_ramp) where
  on_it : ramping g (k + 1) ≡ true → moved cur step k ≡ factor g k
  unfolding factor ramping
  on_it r =
      let b = leb-true (k + 1) left (rw e at r) in
      rw (signed (k + 1) (omega arith), e, lt-ltb k left (omega arith))

  chosen : {v : Float} → v ≡ cond (ltb k left) (moved cur step k) t → v ≡ factor g k
  unfolding factor
  chosen q = q ∙ rw (signed (k + 1) (omega arith), e)

pub int_to_float-v : goal.int_to_float-v
int_to_float-v c = signed_exact c.args.k _ c.requires.0 (lit≤ tt)

pub returns-then-whole : goal.returns-then-whole
returns-then-whole c = on_it c.in-Moving.is c.args.k c.requires.0 (c.requires.1 c.if-whole.true)

pub returns-in-Rest : goal.returns-in-Rest
unfolding factor
returns-in-Rest c = rw c.in-Rest.is

pub returns-else-whole : goal.returns-else-whole
returns-else-whole c = chosen c.in-Moving.is c.args.k c.requires.0 c.either.ensures
