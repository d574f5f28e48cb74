-- `signals::digest::with_byte` meets its contract: the product of 32 bits and of the prime fits a u64. Assumes nothing.
use native.Mathlib.Omega.{arith}
use lib.Bits.{xor_lt}
use Rattle.signals.specs.Digest.{with_byte}
use borrow.Author.Rules.{rules}
use Rattle.signals.proofs.digest.with_byte.Goals as goal

pub overflow_mul-result : goal.overflow_mul-result
overflow_mul-result c = omega (arith, xor_lt 32 c.args.digest c.args.byte (search rules) (search rules))

pub returns : goal.returns
unfolding with_byte
returns c = rw c.wide.ensures
