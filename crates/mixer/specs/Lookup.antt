-- The channel lookup of the C interface, which copies the part that `lookup` gives to the front of a lent area: number 2 where that is too short.
-- Definitions only.
use Rattle.std.specs.Prelude.{ℕ, List, [], ◌∷◌, ltb, length, Float, Ok, Err}
use Rattle.std.proofs.lemmas.List.Edits.{sets}
use Rattle.refusal.specs.Tests.{Test, test, first, outcome, area_after, Answer}
use Rattle.input.specs.Input.{lookup}
use Rattle.mixer_replies.specs.declared.CountReply.{CountReply}
use Rattle.mixer_replies.specs.Replies.{count_reply}
use Rattle.refusal.specs.declared.Reason.TheVariants.{ShortArea}

-- of a part, with an area of n floats
abbrev pub part_tests : List Float → ℕ → List Test
part_tests part n = test ShortArea (ltb n (length part)) ∷ []

abbrev pub part_answer : List Float → ℕ → Answer
part_answer part n = first (part_tests part n) (Ok tt)

abbrev pub part_reply : List Float → ℕ → CountReply
part_reply part n = count_reply (outcome (part_answer part n) (Ok (length part)) Err)

abbrev pub part_area : List Float → List Float → List Float
part_area part area = area_after (part_answer part (length area)) (sets area 0 part) area

abbrev pub lookup_reply : List ℕ → List Float → ℕ → ℕ → ℕ → CountReply
lookup_reply directory samples input channel n = part_reply (lookup directory samples input channel) n

abbrev pub lookup_area : List ℕ → List Float → ℕ → ℕ → List Float → List Float
lookup_area directory samples input channel area = part_area (lookup directory samples input channel) area
