-- `sets::Set::with` meets its contract. Assumes nothing.
use Prim.Native.Nat.{ℕ, ◌*◌, ◌/◌, ◌%◌, ◌^◌}
use mathlib.Core.Path.{◌≡◌, ap, ◌∙◌}
use native.Mathlib.Nat.{one-mul}
use native.Mathlib.Omega.{arith}
use lib.Bits.{bit_or}
use lib.ListN.{get_or, set}
use lib.Pow.{shl_exact}
use borrow.Author.Rules.{rules}
use Rattle.sets.specs.Sets.{member}
use Rattle.sets.proofs.Laws.{members_more}
use Rattle.sets.proofs.Set.with.Goals as goal

pub returns : goal.returns
returns c j =
    let i = c.args.i in
    let words = c.args.self.words in
    let exact : 1 * 2 ^ (i % 64) % 2 ^ 64 ≡ 2 ^ (i % 64) = shl_exact 1 (i % 64) 64 (omega arith) (omega arith) ∙ one-mul (2 ^ (i % 64)) in
    ap (λ (more : ℕ). member (record { words = set words (i / 64) (bit_or (get_or words (i / 64) 0) more) }) j) exact
    ∙ members_more c.args.self i (search rules) c.requires j
