-- Digests of nodes, and how many nodes two areas have both. Assumes nothing.
use Prim.Native.Nat.{ℕ, ◌+◌, ◌-◌, ◌*◌, ◌<◌, ◌≤◌}
use mathlib.Core.Path.{◌≡◌}
use mathlib.Core.List.{List}
use native.Mathlib.Omega.{arith}
use borrow.Author.Tests.{ne_eqb}
use lib.ListN.{take, drop}
use lib.Ieee.{Float}
use Rattle.node.specs.Sizes.{node_float_count, node_word_count}
use Rattle.node.specs.Areas.{safe_at}
use Rattle.signals.specs.Digest.{of_words, of_samples}
use Rattle.desk_nodes.specs.Nodes.{in_both, with_safe, in_areas}

-- ---- a digest with node n behind it

module _ (floats : List Float) (words : List ℕ) (n digest : ℕ) where
  -- its floats, and behind them its words; a part has as many places as lie between its ends
  pub safe_there : {rows all : ℕ} → (safe_at words n ≡ 0 → ⊥)
      → rows ≡ of_samples digest (take (n * node_float_count + node_float_count - n * node_float_count) (drop (n * node_float_count) floats))
      → all ≡ of_words rows (take (n * node_word_count + node_word_count - n * node_word_count) (drop (n * node_word_count) words))
      → all ≡ with_safe floats words n digest
  unfolding with_safe
  safe_there h q r =
      let e : n * node_float_count + node_float_count - n * node_float_count ≡ node_float_count = omega arith in
      let d : n * node_word_count + node_word_count - n * node_word_count ≡ node_word_count = omega arith in
      rw (ne_eqb _ _ h, r, q, e, d)

-- ---- a node that two areas have

pub in_both_lem : (n floats old k : ℕ) → k < in_both n floats old → ((k + 1) * node_float_count ≤ floats) × ((k + 1) * node_float_count ≤ old)
in_both_lem n floats old k h = (omega arith, omega arith)

pub in_areas_lem : (n floats words k : ℕ) → k < in_areas n floats words → ((k + 1) * node_float_count ≤ floats) × ((k + 1) * node_word_count ≤ words)
in_areas_lem n floats words k h = (omega arith, omega arith)
