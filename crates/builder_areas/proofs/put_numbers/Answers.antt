use Prim.Native.Nat.{◌+◌, ◌-◌, ◌<◌}
use mathlib.Core.Path.{◌≡◌, sym, ◌∙◌}
use native.Mathlib.Nat.{zero-add}
use native.Mathlib.Omega.{arith}
use lib.ListN.{length, take, drop}
use Rattle.lists.proofs.Stores.{stores_turn, stores_all}
use Rattle.builder.specs.Calls.{numbers_from}
use Rattle.builder.proofs.Numbers.{length_numbers, get_d_numbers}
use Rattle.builder_areas.proofs.Slices.{length_mid, all_stored, part_written}
use Rattle.builder_areas.proofs.put_numbers.Goals as goal

pub loop-i-preserved : goal.loop-i-preserved
loop-i-preserved c =
    let a = c.args in
    let i = c.loop-i.i in
    let row = numbers_from a.from a.n in
    let part = take ((a.at + a.n) - a.at) (drop a.at a.indices.now) in
    let k : i < a.n = omega (arith, length_mid a.indices.now a.at a.n c.requires.1) in
    let l : i < length row = omega (arith, length_numbers a.from a.n) in
    rw zero-add at (stores_turn part row 0 i 0 c.loop-i.invariant l (sym (get_d_numbers a.from a.n i 0 k)))

pub returns : goal.returns
returns c =
    let a = c.args in
    let i = c.loop-i.i in
    let row = numbers_from a.from a.n in
    let part = take ((a.at + a.n) - a.at) (drop a.at a.indices.now) in
    let n = length_numbers a.from a.n in
    let m = length_mid a.indices.now a.at a.n c.requires.1 in
    let all : c.loop-i.place-items ≡ row = stores_all part row 0 i c.loop-i.invariant (omega arith) ∙ all_stored part row (n ∙ sym m) in
    rw all (part_written a.indices.now row a.at a.n n c.requires.1)
