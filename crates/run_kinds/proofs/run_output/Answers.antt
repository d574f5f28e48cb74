-- `run_kinds::run_output` meets its contract. Assumes nothing.
use mathlib.Core.Path.{◌≡◌, ap, ◌∙◌}
use mathlib.Core.List.{List}
use Prim.Native.Nat.{ℕ, ◌+◌, ◌*◌, ◌≤◌}
use native.Mathlib.Omega.{arith}
use Rattle.plan.specs.declared.Plan.{Plan}
use Rattle.plan.specs.declared.Span.{Span}
use Rattle.plan.specs.Check.{named}
use Rattle.plan.specs.Sound.{Names}
use lib.ListN.{length}
use Rattle.mix.specs.Mix.{appended}
use Rattle.plan.proofs.Spans.{names_length}
use Rattle.run_kinds.proofs.Fits.{span_inside}
use Rattle.run_kinds.proofs.run_output.Goals as goal

-- room for the buffers that the span names
room_for : (p : Plan) (indices : List ℕ) (src : Span) (wrote n : ℕ) {xs : List ℕ} → Names p indices src → xs ≡ named indices src
    → wrote + src.len * p.block ≤ n → wrote + length xs * p.block ≤ n
room_for p indices src wrote n h e room =
    let count : length _ ≡ src.len = ap length e ∙ names_length p indices src h in
    rw count room

pub append-requires : goal.append-requires
append-requires c =
    let a = c.args in
    let p = c.requires in
    let e = c.numbers-from.ensures in record {
      sources = span_inside a.plan a.indices.now a.buffers.now p.names.1 a.src p.names.0 e;
      room = room_for a.plan a.indices.now a.src a.wrote _ p.names.0 e p.block_in_bounds;
    }

pub overflow_mul-result : goal.overflow_mul-result
overflow_mul-result c =
    let a = c.args in
    let p = c.requires in
    omega (arith, room_for a.plan a.indices.now a.src a.wrote _ p.names.0 c.numbers-from.ensures p.block_in_bounds)

pub overflow_add-result : goal.overflow_add-result
overflow_add-result c =
    let a = c.args in
    let p = c.requires in
    omega (arith, room_for a.plan a.indices.now a.src a.wrote _ p.names.0 c.numbers-from.ensures p.block_in_bounds)

pub returns : goal.returns
returns c =
    let a = c.args in
    let e = c.numbers-from.ensures in record {
      wrote = ap (λ (l : List ℕ). a.wrote + length l * a.plan.block) e;
      output = c.append.ensures ∙ ap (λ (l : List ℕ). appended a.plan.block a.buffers.now l a.wrote a.output.now) e;
    }
