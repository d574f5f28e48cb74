-- What the ordinary plan check finds of an insert. Definitions only.
use Rattle.std.specs.Prelude.{ℕ, ◌+◌, ◌&&◌, List, [], ◌∷◌, ltb, leb}
use Rattle.refusal.specs.Tests.{Test, test, test_at}
use Rattle.format.specs.Formats.{channels}
use Rattle.plan.specs.declared.Plan.{Plan}
use Rattle.plan.specs.Limits.{inputs, slots}
use Rattle.plan.specs.Areas.{shorter}
use Rattle.insert.specs.declared.InsertPoint.{InsertPoint}
use Rattle.refusal.specs.declared.Reason.TheVariants.{OutsideTable, ShortArea}

-- "a return input above 256, a slot above 31 or, with a return, a source span longer than the format's channels is found there as 4", at its place, of a
-- plan that had k steps before the insert; and first, where the buffers' area, of length `len`, is short for the
-- grown plan q, 2. The return input counts from 1.
abbrev pub found_tests : Plan → ℕ → InsertPoint → ℕ → List Test
found_tests q k i len =
    test ShortArea (shorter len q.buffers q.block)
    ∷ test_at (k + 2) OutsideTable (leb slots i.slot)
    ∷ test_at (k + 3) OutsideTable (i.returns && ltb inputs i.back.input)
    ∷ test_at (k + channels i.format + 7) OutsideTable (i.returns && ltb (channels i.format) i.src.len)
    ∷ []
