use mathlib.Core.Path.{◌≡◌, ap, ◌∙◌}
use mathlib.Core.List.{List}
use Prim.Native.Nat.{ℕ, ◌+◌, ◌<◌}
use native.Mathlib.Omega.{arith}
use lib.ListN.{length, get_or}
use borrow.Author.Rules.{rules}
use Rattle.std.specs.List.{enumerate_from, zip}
use Rattle.std.proofs.lemmas.List.{get_or_default, length_push}
use Rattle.std.proofs.lemmas.List.FromFn.{length-enumerate_from, get_or-enumerate_from}
use Rattle.std.proofs.lemmas.Slice.Zip.{length-zip, get_or-zip}
use Rattle.std.proofs.lemmas.Iterator.{YieldsList-from_slice, YieldsList-from_zip}
use Rattle.std.proofs.lemmas.Iterator.Consumers.{YieldsList-from_enumerate, YieldsList-turn, YieldsList-end}
use Rattle.node.specs.Rows.{gain_in}
use Rattle.mix.specs.Mix.{scale}
use Rattle.mix.proofs.Given.{channel_of}
use Rattle.mix.proofs.Turns.{channel_done, channels_done}
use Rattle.mix_buffers.proofs.gains.gain.Goals as goal

-- place n of the numbered pairs of two lists
record At (xs ys : List ℕ) (n c s d : ℕ) : Type 0 where
  in_first : n < length xs
  in_second : n < length ys
  number : c ≡ n
  first : s ≡ get_or xs n 0
  second : d ≡ get_or ys n 0

at : (xs ys : List ℕ) (n c s d : ℕ) → (n < length (enumerate_from 0 (zip xs ys))) × ((c, (s, d)) ≡ get_or (enumerate_from 0 (zip xs ys)) n (c, (s, d))) → At xs ys n c s d
at xs ys n c s d h =
    let l : n < length (zip xs ys) = omega (arith, h.0, length-enumerate_from 0 (zip xs ys)) in
    let hx : n < length xs = omega (arith, l, length-zip xs ys) in
    let hy : n < length ys = omega (arith, l, length-zip xs ys) in
    let e : (c, (s, d)) ≡ (0 + n, (get_or xs n s, get_or ys n d)) =
    h.1 ∙ get_or-enumerate_from 0 (zip xs ys) n (c, (s, d)) l ∙ ap (λ (p : ℕ × ℕ). (0 + n, p)) (get_or-zip xs ys n (s, d) hx hy) in
    record {
      in_first = hx;
      in_second = hy;
      number = omega (arith, ap (λ (p : ℕ × (ℕ × ℕ)). p.0) e);
      first = ap (λ (p : ℕ × (ℕ × ℕ)). p.1.0) e ∙ get_or_default xs n s 0 hx;
      second = ap (λ (p : ℕ × (ℕ × ℕ)). p.1.1) e ∙ get_or_default ys n d 0 hy;
    }

pub mix_into-requires : goal.mix_into-requires
mix_into-requires c =
    let a = c.args in
    let l = c.loop-c in
    let t =
    at a.src.now a.dst.now (length l.yielded) _ _ _ (YieldsList-turn (YieldsList-from_enumerate {s = c.into_iter-c-iterator.result} (YieldsList-from_zip (YieldsList-from_slice a.src.now cc) (YieldsList-from_slice a.dst.now cc)) cc) l.yielded l.c-iterator l.yielded_by c.next.result c.next.new.self (c.in-Some.c, (c.in-Some.s, c.in-Some.d)) c.in-Some.is c.next.ensures.steps) in
    rw (t.first, t.second) (channel_of a.src.now a.dst.now l.invariant.0 c.requires.buffers (length l.yielded) (omega (arith, t.in_first, t.in_second)))

pub loop-c-preserved : goal.loop-c-preserved
loop-c-preserved c =
    let a = c.args in
    let l = c.loop-c in
    let n = length l.yielded in
    let t =
    at a.src.now a.dst.now (length l.yielded) _ _ _ (YieldsList-turn (YieldsList-from_enumerate {s = c.into_iter-c-iterator.result} (YieldsList-from_zip (YieldsList-from_slice a.src.now cc) (YieldsList-from_slice a.dst.now cc)) cc) l.yielded l.c-iterator l.yielded_by c.next.result c.next.new.self (c.in-Some.c, (c.in-Some.s, c.in-Some.d)) c.in-Some.is c.next.ensures.steps) in
    let scaled : c.mix_into.new.area ≡ scale a.block c.gain-g.result (get_or a.src.now n 0) (get_or a.dst.now n 0) l.area =
    rw (← t.first, ← t.second) c.mix_into.ensures in (
      search rules,
      rw (length_push l.yielded (c.in-Some.c, (c.in-Some.s, c.in-Some.d)))
          (channel_done a.block (gain_in a.node) a.src.now a.dst.now n _ l.area t.in_first t.in_second (c.gain-g.ensures ∙ ap (gain_in a.node) t.number) l.invariant.1 scaled),
    )

pub returns : goal.returns
returns c =
    let a = c.args in
    let l = c.loop-c in
    let t = YieldsList-end (YieldsList-from_enumerate {s = c.into_iter-c-iterator.result} (YieldsList-from_zip (YieldsList-from_slice a.src.now cc) (YieldsList-from_slice a.dst.now cc)) cc) l.yielded l.c-iterator l.yielded_by c.next.result c.next.new.self c.in-None.is c.next.ensures.steps in
    channels_done a.block (gain_in a.node) a.src.now a.dst.now (length l.yielded) l.area
    (omega (arith, t.1, length-enumerate_from 0 (zip a.src.now a.dst.now), length-zip a.src.now a.dst.now)) l.invariant.1
