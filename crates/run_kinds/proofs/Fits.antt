-- What the tests said of a step, as the sample loops ask for it: the buffers that its spans name, and the gains of its node.
-- Assumes nothing.
use mathlib.Core.Path.{◌≡◌, sym, ap, ◌∙◌}
use mathlib.Core.Bool.{Bool, cond}
use mathlib.Core.List.{List}
use Prim.Native.Nat.{ℕ, ◌+◌, ◌*◌, ◌≤◌, ◌<◌, min}
use native.Mathlib.Nat.{mul_comm}
use native.Mathlib.Omega.{arith}
use lib.ListN.{length, get_or}
use lib.Ieee.{Float, nan}
use borrow.Author.Tests.{le-leb, lt-leb}
use Rattle.lists.specs.Entries.{some_from, Disjoint}
use Rattle.lists.proofs.Entries.{some_none}
use Rattle.node.specs.Sizes.{max_values, node_float_count}
use Rattle.node.specs.declared.Rows.{Rows}
use Rattle.node.specs.Rows.{Values}
use Rattle.node.specs.Areas.{Room, len_at, cur_at, target_at, step_at, node_at}
use Rattle.node.proofs.Areas.{length_rows}
use Rattle.node.proofs.Bad.{none_bad_at}
use Rattle.mix.specs.Samples.{silence, put}
use Rattle.mix.specs.Mix.{AllInside, Buffers, patched}
use Rattle.mix.specs.Mix as mix
use Rattle.mix.proofs.Given.{buffer_inside}
use Rattle.plan.specs.declared.Plan.{Plan}
use Rattle.plan.specs.declared.Span.{Span}
use Rattle.plan.specs.Limits.{max_block}
use Rattle.plan.specs.Check.{named, used, first_of}
use Rattle.plan.specs.Sound.{Within, Names}
use Rattle.plan.proofs.Spans.{names_length, names_first, used_sources, used_targets}
use Rattle.run.specs.declared.Wires.{Wires}
use Rattle.run.specs.Run.{RunGiven}
use Rattle.run_kinds.specs.Loops.{NodeFit}

-- ---- buffers

module _ (p : Plan) (indices : List ℕ) (area : List Float) (r : p.buffers * p.block ≤ length area) where
  -- those of a span
  pub span_inside : (s : Span) → Names p indices s → {xs : List ℕ} → xs ≡ named indices s → AllInside p.block xs area
  span_inside s h {xs} e i k =
      let low : some_from p.buffers xs ≡ _ = ap (some_from p.buffers) e ∙ h.numbers in
      buffer_inside p.buffers p.block (get_or xs i 0) area ((some_none p.buffers xs).0 low i k) r

  -- those of two spans that share none
  pub spans_apart : (b : p.block ≤ max_block) (s d : Span) → Names p indices s → Names p indices d
      → Disjoint (named indices s) (named indices d) → {xs ys : List ℕ} → xs ≡ named indices s → ys ≡ named indices d → Buffers p.block xs ys area
  spans_apart b s d hs hd a {xs} {ys} es ed =
      record {
        small = omega arith;
        sources = span_inside s hs es;
        targets = span_inside d hd ed;
        apart = λ i k j m q. a i j (rw es at k) (rw ed at m) (ap (λ (zs : List ℕ). get_or zs i 0) (sym es) ∙ q ∙ ap (λ (zs : List ℕ). get_or zs j 0) ed);
      }

-- ---- the channels that a Gain uses
pub used_named : (indices : List ℕ) (s d : Span) → Within (length indices) d → {xs ys : List ℕ} → xs ≡ named indices s → ys ≡ named indices d
    → mix.used xs ys ≡ named indices (first_of (min s.len d.len) s)
used_named indices s d h es ed = used_sources indices s d es ed h

-- ---- the rows of a node, as the sample loops take them
pub rows_values : (floats : List Float) (n m : ℕ) → (n + 1) * node_float_count ≤ length floats → m ≤ max_values → {rows : Rows}
    → rows.cur.now ≡ cur_at floats n → rows.target.now ≡ target_at floats n → rows.step.now ≡ step_at floats n → Values m rows
rows_values floats n m r h c t s =
    let l = length_rows floats n r in
    record { curs = rw (c, l.0) h; steps = rw (s, l.2) h; targets = rw (t, l.1) h }

-- a step's call, from what its parts were worked out as
pub same_call : {A : Type 0} {G : Type 0} (f : G → List ℕ → List ℕ → A) {x y : G} {s d src dst : List ℕ} → x ≡ y → s ≡ src → d ≡ dst → f x s d ≡ f y src dst
same_call f p q r = cc

-- ---- a step's node
module _ {g : RunGiven} {floats : List Float} {words : List ℕ} {buffers : List Float} {w : Wires} (f : NodeFit g floats words buffers w) where
  abbrev src : Span
  src = w.src

  abbrev dst : Span
  dst = w.dst

  pub node_room : Room (w.node + 1) floats words
  node_room = let h = f.node in (omega (arith, f.room.0), omega (arith, f.room.1))

  pub node_len : len_at words w.node ≤ max_values
  unfolding node_at
  node_len = (none_bad_at words g.plan.nodes f.good floats w.node f.node).len

  pub sources_length : {xs : List ℕ} → xs ≡ named g.indices src → length xs ≡ src.len
  sources_length e = ap length e ∙ names_length g.plan g.indices src f.sources

  pub targets_length : {xs : List ℕ} → xs ≡ named g.indices dst → length xs ≡ dst.len
  targets_length e = ap length e ∙ names_length g.plan g.indices dst f.targets

  pub step_apart : Disjoint (named g.indices src) (named g.indices dst) → {xs ys : List ℕ} → xs ≡ named g.indices src → ys ≡ named g.indices dst
      → Buffers g.plan.block xs ys buffers
  step_apart a es ed = spans_apart g.plan g.indices buffers f.area f.block src dst f.sources f.targets a es ed

  pub gain_apart : Disjoint (named g.indices (first_of (used src dst) src)) (named g.indices (first_of (used src dst) dst)) → {xs ys : List ℕ}
      → xs ≡ named g.indices src → ys ≡ named g.indices dst → Buffers g.plan.block (mix.used xs ys) (mix.used ys xs) buffers
  gain_apart a {xs} {ys} es ed =
      spans_apart g.plan g.indices buffers f.area f.block (first_of (used src dst) src) (first_of (used src dst) dst)
      (names_first g.plan g.indices src f.sources (used src dst) (omega arith)) (names_first g.plan g.indices dst f.targets (used src dst) (omega arith)) a
      (used_named g.indices src dst f.targets.within es ed) (used_targets g.indices src dst es ed f.sources.within)

  pub node_rows : (m : ℕ) → m ≤ max_values → {rows : Rows} → rows.cur.now ≡ cur_at floats w.node → rows.target.now ≡ target_at floats w.node
      → rows.step.now ≡ step_at floats w.node → Values m rows
  node_rows m = rows_values floats w.node m node_room.0

  -- a value or a weight for each row and column
  pub values_count : (k : ℕ) → src.len * dst.len ≤ k → {xs ys : List ℕ} → xs ≡ named g.indices src → ys ≡ named g.indices dst → length ys * length xs ≤ k
  values_count k h es ed = rw (targets_length ed, sources_length es, mul_comm dst.len src.len) h

  pub used_count : used src dst ≤ max_values → {xs ys : List ℕ} → xs ≡ named g.indices src → ys ≡ named g.indices dst → min (length xs) (length ys) ≤ max_values
  used_count h es ed = rw (sources_length es, targets_length ed) h

-- ---- what Patch writes
module _ (block d : ℕ) (samples area : List Float) where
  pub patched_absent : length samples < block → put block d (λ k. silence) area ≡ put block d (patched block samples) area
  unfolding patched
  patched_absent h = sym (ap (λ (b : Bool). put block d (λ k. cond b (get_or samples k nan) silence) area) (lt-leb block (length samples) h))

  pub patched_whole : block ≤ length samples → put block d (λ k. get_or samples k nan) area ≡ put block d (patched block samples) area
  unfolding patched
  patched_whole h = sym (ap (λ (b : Bool). put block d (λ k. cond b (get_or samples k nan) silence) area) (le-leb block (length samples) h))
