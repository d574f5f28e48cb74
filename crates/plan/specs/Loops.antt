-- What the loops of the check go by, what it counts, and what a step has as it was read: its slot and its channels. Definitions only.
use Rattle.std.specs.Prelude.{ℕ, ◌+◌, ◌*◌, ◌<◌, Bool, List, [], ◌∷◌, leb, get_or, Ok, Err, Result}
use Rattle.refusal.specs.Tests.{outcome, Answer}
use Rattle.plan.specs.declared.Span.{Span}
use Rattle.plan.specs.declared.Step.{Step}
use Rattle.plan.specs.declared.Step.TheVariants.{Patch, Gain, Matrix, Clear, Send, Output}
use Rattle.refusal.specs.declared.Refusal.{Refusal}

-- n entries of a list, each so many places after the one before it, ascend: no two are the same
abbrev pub Ascending : ℕ → ℕ → List ℕ → Type 0
Ascending each n list = (i j : ℕ) → i < j → j < n → get_or list (i * each) 0 < get_or list (j * each) 0

-- one span ends where another starts, or before
abbrev pub span_before : Span → Span → Bool
span_before s d = leb (s.start + s.len) d.start

-- the slot that a step names, if any
abbrev pub slot_of : Step → List ℕ
slot_of (Patch i c d) = []
slot_of (Gain n s d) = []
slot_of (Matrix n s d) = []
slot_of (Clear d) = []
slot_of (Send n s d c) = []
slot_of (Output s o) = o ∷ []

-- the channels that a step appends to the output, and that steps do
abbrev pub channels : Step → ℕ
channels (Patch i c d) = 0
channels (Gain n s d) = 0
channels (Matrix n s d) = 0
channels (Clear d) = 0
channels (Send n s d c) = 0
channels (Output s o) = s.len

unfoldable pub channels_of : List Step → ℕ
channels_of [] = 0
channels_of (x ∷ xs) = channels x + channels_of xs

-- an answer, with the channels where it is an acceptance
abbrev pub counted : Answer → ℕ → Result ℕ Refusal
counted answer n = outcome answer (Ok n) Err
