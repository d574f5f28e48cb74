-- The step of each kind by the places of its fields, which stand in the order of their bits after the map at `at`. That `read_at` gives these
-- is proved (proofs/Words.antt). Definitions only.
use Rattle.std.specs.Prelude.{ℕ, ◌+◌, cond, List, [], ◌∷◌, ltb, get_or}
use Rattle.plan.specs.declared.Step.{Step}
use Rattle.plan.specs.Words.{StepKind, patch_kind, gain_kind, matrix_kind, clear_kind, send_kind, output_kind}

abbrev pub word : List ℕ → ℕ → ℕ
word w at = get_or w at 0

-- how many of a list of bits are below b
abbrev pub below : ℕ → List ℕ → ℕ
below b [] = 0
below b (c ∷ cs) = cond (ltb c b) 1 0 + below b cs

abbrev pub record_at : StepKind → List ℕ → ℕ → Step
record_at k w at = k.made (λ b. word w (at + (1 + below b k.bits)))

abbrev pub patch_at : List ℕ → ℕ → Step
patch_at = record_at patch_kind

abbrev pub gain_at : List ℕ → ℕ → Step
gain_at = record_at gain_kind

abbrev pub matrix_at : List ℕ → ℕ → Step
matrix_at = record_at matrix_kind

abbrev pub clear_at : List ℕ → ℕ → Step
clear_at = record_at clear_kind

abbrev pub send_at : List ℕ → ℕ → Step
send_at = record_at send_kind

abbrev pub output_at : List ℕ → ℕ → Step
output_at = record_at output_kind
