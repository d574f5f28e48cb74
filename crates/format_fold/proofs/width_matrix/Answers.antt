use Prim.Native.Nat.{◌*◌}
use native.Mathlib.Omega.{arith}
use mathlib.Core.Path.{◌≡◌, sym, ◌∙◌}
use Rattle.format.specs.Formats.{channels}
use Rattle.format_fold.proofs.Rows.{front_length}
use Rattle.format_fold.proofs.Answers.{fitting}
use Rattle.format_fold.proofs.width_matrix.Goals as goal

pub put-requires : goal.put-requires
put-requires c =
    let a = c.args in
    let fits = fitting a.src a.dst a.gains _ (sym c.width_answer.ensures ∙ c.in_ok-width_answer.was) in
    let e : c.channels-rows.result * c.channels-columns.result ≡ channels a.dst * channels a.src = cc (c.channels-rows.ensures, c.channels-columns.ensures) in
    omega (arith, e, fits.room, front_length (c.channels-rows.result * c.channels-columns.result) c.normalised.new.m.entries)
