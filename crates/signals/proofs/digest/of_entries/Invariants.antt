-- `signals::digest::of_entries` meets its contract. What is left of the list leads to its digest. Assumes nothing.
use mathlib.Core.Path.{◌≡◌}
use Rattle.std.proofs.Common.{drop}
use Rattle.signals.specs.Digest.{of_entries}
use Rattle.signals.proofs.digest.of_entries.Given as goal

abbrev pub invariant-loop-x : goal.invariant-loop-x
invariant-loop-x g l = of_entries g.T.Entry.word_of l.digest (drop l.x-index l.list) ≡ of_entries g.T.Entry.word_of l.digest-2 l.list
