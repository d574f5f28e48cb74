-- The step words: a map, then one word for each of its bits that has a field, lowest bit first. What stands at a place, and the list of
-- the first n steps. Definitions only.
use Rattle.std.specs.Prelude.{ℕ, zero, suc, ◌+◌, ◌%◌, ◌^◌, cond, List, [], ◌∷◌, length, get_or, ltb, leb, eqb, Some, None, Option}
use Rattle.std.specs.Int.Count.{ones}
use Rattle.plan.specs.declared.Span.{Span}
use Rattle.plan.specs.declared.Step.{Step}
use Rattle.plan.specs.declared.Step.TheVariants.{Patch, Gain, Matrix, Clear, Send, Output}

-- ---- the bits of a map

abbrev pub input : ℕ
input = 0

abbrev pub channel : ℕ
channel = 1

abbrev pub dst_buffer : ℕ
dst_buffer = 2

abbrev pub node : ℕ
node = 3

abbrev pub src_start : ℕ
src_start = 4

abbrev pub src_length : ℕ
src_length = 5

abbrev pub dst_start : ℕ
dst_start = 6

abbrev pub dst_length : ℕ
dst_length = 7

abbrev pub coefficient_start : ℕ
coefficient_start = 8

abbrev pub coefficient_length : ℕ
coefficient_length = 9

abbrev pub slot : ℕ
slot = 10

-- bit 11 has no field, and tells the map of a Matrix from that of a Gain
abbrev pub no_field : ℕ
no_field = 11

-- the bits of a map that have a field: 0 to 10
abbrev pub fields_in : ℕ → ℕ
fields_in map = map % 2 ^ 11

-- and so the most fields that a map has
abbrev pub max_fields : ℕ
max_fields = 11

-- ---- the table of kinds

abbrev pub span : ℕ → ℕ → Span
span start len = record { start = start; len = len }

-- a row has a kind of step: the bits of its map, and the step, from the field of each bit
pub record StepKind : Type 0 where
  pub bits : List ℕ
  pub made : (ℕ → ℕ) → Step

abbrev pub patch_kind : StepKind
patch_kind = record { bits = input ∷ channel ∷ dst_buffer ∷ []; made = λ f. Patch (f input) (f channel) (f dst_buffer) }

abbrev pub gain_kind : StepKind
gain_kind =
    record {
      bits = node ∷ src_start ∷ src_length ∷ dst_start ∷ dst_length ∷ [];
      made = λ f. Gain (f node) (span (f src_start) (f src_length)) (span (f dst_start) (f dst_length));
    }

abbrev pub matrix_kind : StepKind
matrix_kind =
    record {
      bits = node ∷ src_start ∷ src_length ∷ dst_start ∷ dst_length ∷ no_field ∷ [];
      made = λ f. Matrix (f node) (span (f src_start) (f src_length)) (span (f dst_start) (f dst_length));
    }

abbrev pub clear_kind : StepKind
clear_kind = record { bits = dst_start ∷ dst_length ∷ []; made = λ f. Clear (span (f dst_start) (f dst_length)) }

abbrev pub send_kind : StepKind
send_kind =
    record {
      bits = node ∷ src_start ∷ src_length ∷ dst_start ∷ dst_length ∷ coefficient_start ∷ coefficient_length ∷ [];
      made = λ f.
          Send (f node) (span (f src_start) (f src_length)) (span (f dst_start) (f dst_length)) (span (f coefficient_start) (f coefficient_length));
    }

abbrev pub output_kind : StepKind
output_kind = record { bits = src_start ∷ src_length ∷ slot ∷ []; made = λ f. Output (span (f src_start) (f src_length)) (f slot) }

abbrev pub kinds : List StepKind
kinds = patch_kind ∷ gain_kind ∷ matrix_kind ∷ clear_kind ∷ send_kind ∷ output_kind ∷ []

-- the map that has these bits
abbrev pub map_of : List ℕ → ℕ
map_of [] = 0
map_of (b ∷ bs) = 2 ^ b + map_of bs

abbrev pub patch_map : ℕ
patch_map = map_of patch_kind.bits

abbrev pub gain_map : ℕ
gain_map = map_of gain_kind.bits

abbrev pub matrix_map : ℕ
matrix_map = map_of matrix_kind.bits

abbrev pub clear_map : ℕ
clear_map = map_of clear_kind.bits

abbrev pub send_map : ℕ
send_map = map_of send_kind.bits

abbrev pub output_map : ℕ
output_map = map_of output_kind.bits

-- ---- a record: its map stands at `at`

-- how many fields a map has
abbrev pub fields : ℕ → ℕ
fields map = ones (fields_in map)

-- the field of bit b stands after those of the lower bits
abbrev pub field : List ℕ → ℕ → ℕ → ℕ → ℕ
field w at map b = get_or w (at + (1 + ones (fields_in map % 2 ^ b))) 0

-- the step of a map that one of a list of kinds has, and the place after its record
unfoldable pub step_among : List StepKind → List ℕ → ℕ → ℕ → Option (Step × ℕ)
step_among [] w at map = None
step_among (k ∷ ks) w at map = cond (eqb map (map_of k.bits)) (Some (k.made (field w at map), at + (1 + fields map))) (step_among ks w at map)

unfoldable pub step_of : List ℕ → ℕ → ℕ → Option (Step × ℕ)
unfolding step_among
step_of w at map = step_among kinds w at map

-- What stands at a place: a step and the place after it; or None, where the map or a field is past the end or the map is not named.
unfoldable pub read_at : List ℕ → ℕ → Option (Step × ℕ)
read_at w at =
    cond (ltb at (length w))
    (cond (leb (at + (1 + fields (get_or w at 0))) (length w)) (step_of w at (get_or w at 0)) None)
    None

-- ---- the list of steps

-- the step that was read, and the steps that `rest` gives from the next place on; none where it is None
abbrev pub read_then : Option (Step × ℕ) → (ℕ → List Step) → List Step
read_then (Some (s, next)) rest = s ∷ rest next
read_then None rest = []

-- the steps from a place on, n at most, up to the first that is None
unfoldable pub decoded_from : List ℕ → ℕ → ℕ → List Step
decoded_from w zero at = []
decoded_from w (suc n) at = read_then (read_at w at) (λ next. decoded_from w n next)

unfoldable pub decoded : List ℕ → ℕ → List Step
decoded w n = decoded_from w n 0
