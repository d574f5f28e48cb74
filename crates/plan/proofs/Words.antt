-- The step words: each map's number and its fields, of which there are few, what stands at a place by the kind of its map, and the list of steps turn by turn.
-- Assumes nothing.
use mathlib.Core.Path.{◌≡◌, refl, ap, ◌∙◌}
use mathlib.Core.Bool.{Bool, true, false, cond}
use mathlib.Core.List.{List, [], ◌∷◌}
use Prim.Native.Nat.{ℕ, suc, ◌+◌, ◌%◌, ◌≤◌, ◌<◌}
use native.Mathlib.Omega.{arith}
use lib.ListN.{length}
use lib.Count.{ones, ones-le, ones_in}
use lib.Dec.{ltb, leb}
use borrow.Author.Tests.{lt-ltb, le-ltb, le-leb, lt-leb, ne_eqb}
use Rattle.plan.specs.declared.Span.{Span}
use Rattle.plan.specs.declared.Step.{Step}
use Rattle.plan.specs.declared.Step.TheVariants.{Patch, Gain, Matrix, Clear, Send, Output}
use Rattle.plan.specs.Words.{patch_map, gain_map, matrix_map, clear_map, send_map, output_map, max_fields, fields, step_among, step_of, read_at, decoded_from, decoded}
use Rattle.plan.specs.Records.{word, patch_at, gain_at, matrix_at, clear_at, send_at, output_at}
use Rattle.std.specs.Prelude.{Some, None, Option}

-- ---- document 01's decimal numbers
pub patch_map_lem : patch_map ≡ 7
patch_map_lem = refl

pub gain_map_lem : gain_map ≡ 248
gain_map_lem = refl

pub matrix_map_lem : matrix_map ≡ 2296
matrix_map_lem = refl

pub clear_map_lem : clear_map ≡ 192
clear_map_lem = refl

pub send_map_lem : send_map ≡ 1016
send_map_lem = refl

pub output_map_lem : output_map ≡ 1072
output_map_lem = refl

-- ---- what was read, part by part
pub same_read : {s t : Step} {m n : ℕ} → ◌≡◌ {A = Option (Step × ℕ)} (Some (s, m)) (Some (t, n)) → (s ≡ t) × (m ≡ n)
same_read {s} {t} {m} {n} e =
    let q : ◌≡◌ {A = Step × ℕ} (s, m) (t, n) = cc in
    (ap (λ (r : Step × ℕ). r.0) q, ap (λ (r : Step × ℕ). r.1) q)

-- ---- how many fields a map can have, and the fields of each
pub fields_few : (map : ℕ) → fields map ≤ max_fields
fields_few map = ones-le 11 (map % 2048) (omega arith)

pub patch_fields : fields patch_map ≡ 3
unfolding ones ones_in
patch_fields = refl

pub gain_fields : fields gain_map ≡ 5
unfolding ones ones_in
gain_fields = refl

pub matrix_fields : fields matrix_map ≡ 5
unfolding ones ones_in
matrix_fields = refl

pub clear_fields : fields clear_map ≡ 2
unfolding ones ones_in
clear_fields = refl

pub send_fields : fields send_map ≡ 7
unfolding ones ones_in
send_fields = refl

pub output_fields : fields output_map ≡ 3
unfolding ones ones_in
output_fields = refl

-- ---- what stands at a place
module _ (w : List ℕ) (at : ℕ) where
  -- no map there
  pub read_past : length w ≤ at → read_at w at ≡ None
  unfolding read_at
  read_past h = rw (le-ltb at (length w) h)

  -- a map whose fields are not all there
  pub read_cut : at < length w → length w < at + (1 + fields (word w at)) → read_at w at ≡ None
  unfolding read_at
  read_cut h k = rw (lt-ltb at (length w) h, lt-leb (at + (1 + fields (word w at))) (length w) k)

  -- a map with all its fields
  pub read_whole : at + (1 + fields (word w at)) ≤ length w → read_at w at ≡ step_of w at (word w at)
  unfolding read_at
  read_whole h =
      let k : at < length w = omega arith in
      rw (lt-ltb at (length w) k, le-leb (at + (1 + fields (word w at))) (length w) h)

  -- a map that is not named, with its fields or not
  pub read_unnamed : (word w at ≡ patch_map → ⊥) → (word w at ≡ gain_map → ⊥) → (word w at ≡ matrix_map → ⊥) → (word w at ≡ clear_map → ⊥)
      → (word w at ≡ send_map → ⊥) → (word w at ≡ output_map → ⊥) → read_at w at ≡ None
  unfolding read_at step_of step_among
  read_unnamed h1 h2 h3 h4 h5 h6 =
      rw (
        ne_eqb (word w at) patch_map h1,
        ne_eqb (word w at) gain_map h2,
        ne_eqb (word w at) matrix_map h3,
        ne_eqb (word w at) clear_map h4,
        ne_eqb (word w at) send_map h5,
        ne_eqb (word w at) output_map h6,
      ) (bad (ltb at (length w)) (leb (at + (1 + fields (word w at))) (length w)))
    where
      bad : (a b : Bool) → ◌≡◌ {A = Option (Step × ℕ)} (cond a (cond b None None) None) None
      bad true true = refl
      bad true false = refl
      bad false b = refl

  -- ---- by the kind of the map
  step_patch : step_of w at patch_map ≡ Some (patch_at w at, at + 4)
  unfolding step_of step_among ones ones_in
  step_patch = refl

  step_gain : step_of w at gain_map ≡ Some (gain_at w at, at + 6)
  unfolding step_of step_among ones ones_in
  step_gain = refl

  step_matrix : step_of w at matrix_map ≡ Some (matrix_at w at, at + 6)
  unfolding step_of step_among ones ones_in
  step_matrix = refl

  step_clear : step_of w at clear_map ≡ Some (clear_at w at, at + 3)
  unfolding step_of step_among ones ones_in
  step_clear = refl

  step_send : step_of w at send_map ≡ Some (send_at w at, at + 8)
  unfolding step_of step_among ones ones_in
  step_send = refl

  step_output : step_of w at output_map ≡ Some (output_at w at, at + 4)
  unfolding step_of step_among ones ones_in
  step_output = refl

  named : (map fs : ℕ) {t : Step} → fields map ≡ fs → step_of w at map ≡ Some (t, at + (1 + fs)) → word w at ≡ map → at + fs < length w
      → read_at w at ≡ Some (t, at + (1 + fs))
  named map fs e k m h =
      let f : fields (word w at) ≡ fs = ap fields m ∙ e in
      read_whole (omega arith) ∙ ap (step_of w at) m ∙ k

  pub read_patch : word w at ≡ patch_map → at + 3 < length w → read_at w at ≡ Some (patch_at w at, at + 4)
  read_patch = named patch_map 3 patch_fields step_patch

  pub read_gain : word w at ≡ gain_map → at + 5 < length w → read_at w at ≡ Some (gain_at w at, at + 6)
  read_gain = named gain_map 5 gain_fields step_gain

  pub read_matrix : word w at ≡ matrix_map → at + 5 < length w → read_at w at ≡ Some (matrix_at w at, at + 6)
  read_matrix = named matrix_map 5 matrix_fields step_matrix

  pub read_clear : word w at ≡ clear_map → at + 2 < length w → read_at w at ≡ Some (clear_at w at, at + 3)
  read_clear = named clear_map 2 clear_fields step_clear

  pub read_send : word w at ≡ send_map → at + 7 < length w → read_at w at ≡ Some (send_at w at, at + 8)
  read_send = named send_map 7 send_fields step_send

  pub read_output : word w at ≡ output_map → at + 3 < length w → read_at w at ≡ Some (output_at w at, at + 4)
  read_output = named output_map 3 output_fields step_output

-- what tells a reader of the words what stands at a place
pub ruleset reads = (
  patch_fields,
  gain_fields,
  matrix_fields,
  clear_fields,
  send_fields,
  output_fields,
  read_past,
  read_cut,
  read_unnamed,
  read_patch,
  read_gain,
  read_matrix,
  read_clear,
  read_send,
  read_output,
)

-- ---- a record at the front of the words
module _ (more : List ℕ) where
  pub front_patch : (i c d : ℕ) → read_at (patch_map ∷ i ∷ c ∷ d ∷ more) 0 ≡ Some (Patch i c d, 4)
  front_patch i c d = read_patch (patch_map ∷ i ∷ c ∷ d ∷ more) 0 refl (omega arith)

  pub front_gain : (n : ℕ) (s d : Span) → read_at (gain_map ∷ n ∷ s.start ∷ s.len ∷ d.start ∷ d.len ∷ more) 0 ≡ Some (Gain n s d, 6)
  front_gain n s d = read_gain (gain_map ∷ n ∷ s.start ∷ s.len ∷ d.start ∷ d.len ∷ more) 0 refl (omega arith)

  pub front_matrix : (n : ℕ) (s d : Span) → read_at (matrix_map ∷ n ∷ s.start ∷ s.len ∷ d.start ∷ d.len ∷ more) 0 ≡ Some (Matrix n s d, 6)
  front_matrix n s d = read_matrix (matrix_map ∷ n ∷ s.start ∷ s.len ∷ d.start ∷ d.len ∷ more) 0 refl (omega arith)

  pub front_clear : (d : Span) → read_at (clear_map ∷ d.start ∷ d.len ∷ more) 0 ≡ Some (Clear d, 3)
  front_clear d = read_clear (clear_map ∷ d.start ∷ d.len ∷ more) 0 refl (omega arith)

  pub front_send : (n : ℕ) (s d c : Span)
      → read_at (send_map ∷ n ∷ s.start ∷ s.len ∷ d.start ∷ d.len ∷ c.start ∷ c.len ∷ more) 0 ≡ Some (Send n s d c, 8)
  front_send n s d c = read_send (send_map ∷ n ∷ s.start ∷ s.len ∷ d.start ∷ d.len ∷ c.start ∷ c.len ∷ more) 0 refl (omega arith)

  pub front_output : (s : Span) (o : ℕ) → read_at (output_map ∷ s.start ∷ s.len ∷ o ∷ more) 0 ≡ Some (Output s o, 4)
  front_output s o = read_output (output_map ∷ s.start ∷ s.len ∷ o ∷ more) 0 refl (omega arith)

-- ---- the list of steps, turn by turn: `left` of them are left, and one less after this one
module _ (w : List ℕ) (at : ℕ) {left more : ℕ} (e : left ≡ suc more) where
  pub decoded_on : {s : Step} {next : ℕ} → read_at w at ≡ Some (s, next) → decoded_from w left at ≡ s ∷ decoded_from w more next
  unfolding decoded_from
  decoded_on r = ap (λ (k : ℕ). decoded_from w k at) e ∙ rw r

  pub decoded_bad : read_at w at ≡ None → decoded_from w left at ≡ []
  unfolding decoded_from
  decoded_bad r = ap (λ (k : ℕ). decoded_from w k at) e ∙ rw r

pub decoded_none : (w : List ℕ) (at : ℕ) {left : ℕ} → left ≡ 0 → decoded_from w left at ≡ []
unfolding decoded_from
decoded_none w at e = ap (λ (k : ℕ). decoded_from w k at) e

pub decoded_start : (w : List ℕ) (n : ℕ) → decoded w n ≡ decoded_from w n 0
unfolding decoded
decoded_start w n = refl

-- the first of n + 1 steps that can all be read
pub record Turn (w : List ℕ) (n at : ℕ) : Type 0 where
  pub step : Step
  pub next : ℕ
  pub read : read_at w at ≡ Some (step, next)
  pub rest : length (decoded_from w n next) ≡ n

pub readable_turn : (w : List ℕ) (n at : ℕ) → length (decoded_from w (suc n) at) ≡ suc n → Turn w n at
readable_turn w n at e = go (read_at w at) refl
  where
    go : (r : Option (Step × ℕ)) → read_at w at ≡ r → Turn w n at
    go (Some (s, next)) r = record { step = s; next = next; read = r; rest = omega (arith, e, ap length (decoded_on w at {left = suc n} {more = n} refl r)) }
    go None r = absurd (omega (arith, e, ap length (decoded_bad w at {left = suc n} {more = n} refl r)))
