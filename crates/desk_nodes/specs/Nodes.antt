-- The nodes of a plan beside those of an old one, by their numbers, and its safe ones. Definitions only.
use Rattle.std.specs.Prelude.{ℕ, zero, suc, ◌+◌, ◌*◌, ◌/◌, min, cond, List, eqb, replicate, Float}
use Rattle.lists.specs.Parts.{part, upto}
use Rattle.node.specs.Sizes.{node_float_count, node_word_count}
use Rattle.node.specs.Areas.{cur_at, safe_at}
use Rattle.plan.specs.Limits.{unit_limits}
use Rattle.signals.specs.Digest.{start, of_words, of_samples}

-- the words of a list of pairs of every node that a plan can have
abbrev pub pair_words : ℕ
pair_words = 2 * unit_limits.nodes

-- each node, and the old one of its number: 0, 0, 1, 1 and so on
unfoldable pub by_number : List ℕ
by_number = upto pair_words (λ i. i / 2) (replicate pair_words 0)

-- ---- how many nodes have the cur of the old one of their number, by its digest

abbrev pub of_cur : List Float → ℕ → ℕ
of_cur floats n = of_samples start (cur_at floats n)

abbrev pub same_cur : List Float → List Float → ℕ → ℕ
same_cur floats old n = cond (eqb (of_cur floats n) (of_cur old n)) 1 0

-- of the first n
unfoldable pub start_alike : List Float → List Float → ℕ → ℕ
start_alike floats old zero = 0
start_alike floats old (suc n) = start_alike floats old n + same_cur floats old n

-- n, but no more than two areas of so many floats have both
abbrev pub in_both : ℕ → ℕ → ℕ → ℕ
in_both n floats old = min n (min floats old / node_float_count)

-- ---- a digest of the safe nodes

-- a digest with the floats and the words of node n behind it, where that is safe
unfoldable pub with_safe : List Float → List ℕ → ℕ → ℕ → ℕ
with_safe floats words n digest =
    cond (eqb (safe_at words n) 0) digest
    (of_words (of_samples digest (part (n * node_float_count) node_float_count floats)) (part (n * node_word_count) node_word_count words))

-- of the first n
unfoldable pub of_safe : List Float → List ℕ → ℕ → ℕ
of_safe floats words zero = start
of_safe floats words (suc n) = with_safe floats words n (of_safe floats words n)

-- n, but no more than areas of so many floats and so many words have
abbrev pub in_areas : ℕ → ℕ → ℕ → ℕ
in_areas n floats words = min n (min (floats / node_float_count) (words / node_word_count))
