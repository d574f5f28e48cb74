-- Document 01's clean plan: "no Gain has dst longer than src; and each buffer in a step's src, or a Send's dst, was earlier in the list a dst of
-- Patch, Clear, Gain or Matrix." Definitions only.
use Rattle.std.specs.Prelude.{ℕ, Bool, true, false, ◌&&◌, ◌||◌, List, [], ◌∷◌, eqb, leb, length}
use Rattle.lists.specs.Entries.{has}
use Rattle.plan.specs.Resolved.{Resolved, patch, gain, matrix, clear, send, output}

-- before the first step no buffer is written
abbrev pub none_written : ℕ → Bool
none_written b = false

-- whether buffer b was a dst of Patch, Clear, Gain or Matrix, once a step has gone by
unfoldable pub written_after : (ℕ → Bool) → Resolved → ℕ → Bool
written_after w (patch input channel dst) b = eqb b dst || w b
written_after w (gain node src dst) b = has dst b || w b
written_after w (matrix node src dst) b = has dst b || w b
written_after w (clear dst) b = has dst b || w b
written_after w (send node src dst weights) b = w b
written_after w (output src slot) b = w b

-- every buffer of a list
unfoldable pub all : (ℕ → Bool) → List ℕ → Bool
all w [] = true
all w (b ∷ bs) = w b && all w bs

-- whether a step may stand where the buffers w are written
unfoldable pub clean_step : (ℕ → Bool) → Resolved → Bool
unfolding all
clean_step w (patch input channel dst) = true
clean_step w (gain node src dst) = leb (length dst) (length src) && all w src
clean_step w (matrix node src dst) = all w src
clean_step w (clear dst) = true
clean_step w (send node src dst weights) = all w src && all w dst
clean_step w (output src slot) = all w src

-- a list of steps that starts where the buffers w are written
unfoldable pub clean_from : (ℕ → Bool) → List Resolved → Bool
unfolding written_after clean_step
clean_from w [] = true
clean_from w (x ∷ xs) = clean_step w x && clean_from (written_after w x) xs

unfoldable pub clean : List Resolved → Bool
unfolding clean_from
clean steps = clean_from none_written steps
