-- A step that was read, and its place in the words: it lies within them, and only the words that it lies in count, before which and
-- after which there may be others. Assumes nothing.
use mathlib.Core.Path.{◌≡◌, refl, sym, ap, ◌∙◌}
use mathlib.Core.Bool.{Bool, true, false, cond}
use mathlib.Core.List.{List, [], ◌∷◌, ◌++◌}
use Prim.Native.Nat.{ℕ, suc, ◌+◌, ◌%◌, ◌^◌, ◌≤◌, ◌<◌}
use native.Mathlib.Nat.{add_assoc, add-zero}
use native.Mathlib.Decide.{ℕ_discrete}
use native.Mathlib.Omega.{arith}
use lib.ListN.{length, take, length-append, length-take}
use lib.Seq.{get_or-take, take-append-le, get_or-append-add}
use lib.Count.{ones}
use lib.Dec.{ltb, leb, eqb}
use borrow.Author.Tests.{ltb-true, ltb-false, leb-true, leb-false, le-leb, lt-leb}
use Rattle.plan.specs.declared.Step.{Step}
use Rattle.plan.specs.Words.{patch_map, gain_map, matrix_map, clear_map, send_map, output_map, fields, field, step_of, read_at, StepKind, kinds, map_of, fields_in, step_among}
use Rattle.plan.specs.Records.{word, patch_at, gain_at, matrix_at, clear_at, send_at, output_at}
use Rattle.plan.proofs.Words.{same_read, patch_fields, gain_fields, matrix_fields, clear_fields, send_fields, output_fields, read_past, read_cut, read_whole, read_unnamed, read_patch, read_gain, read_matrix, read_clear, read_send, read_output}
use Rattle.std.specs.Prelude.{Some, None, Option}

-- ---- the kind of a step that was read
never : {X : Type 0} {s : Step} {next : ℕ} → ◌≡◌ {A = Option (Step × ℕ)} None (Some (s, next)) → X
never e = let z : ◌≡◌ {A = ℕ} 0 1 = cc in absurd (omega arith)

-- the step t of a map with n fields
pub record Is (w : List ℕ) (at : ℕ) (s : Step) (next map : ℕ) (t : Step) (n : ℕ) : Type 0 where
  pub first : word w at ≡ map
  pub step : s ≡ t
  pub after : next ≡ at + (1 + n)

-- one of the six kinds
pub data Kind (w : List ℕ) (at : ℕ) (s : Step) (next : ℕ) : Type 0 where
  patch : Is w at s next patch_map (patch_at w at) 3 → Kind w at s next
  gain : Is w at s next gain_map (gain_at w at) 5 → Kind w at s next
  matrix : Is w at s next matrix_map (matrix_at w at) 5 → Kind w at s next
  clear : Is w at s next clear_map (clear_at w at) 2 → Kind w at s next
  send : Is w at s next send_map (send_at w at) 7 → Kind w at s next
  output : Is w at s next output_map (output_at w at) 3 → Kind w at s next

-- by a table of any kinds a record ends where the fields of its map do
among_next : (w : List ℕ) (at map : ℕ) (ks : List StepKind) {s : Step} {next : ℕ} → step_among ks w at map ≡ Some (s, next) → next ≡ at + (1 + fields map)
unfolding step_among
among_next w at map [] e = never e
among_next w at map (k ∷ ks) {s} {next} e = go (eqb map (map_of k.bits)) e (among_next w at map ks)
  where
    go : (b : Bool) → cond b (Some (k.made (field w at map), at + (1 + fields map))) (step_among ks w at map) ≡ Some (s, next)
        → (step_among ks w at map ≡ Some (s, next) → next ≡ at + (1 + fields map)) → next ≡ at + (1 + fields map)
    go true e rest = sym (same_read e).1
    go false e rest = rest e

module _ (w : List ℕ) (at : ℕ) {s : Step} {next : ℕ} (r : read_at w at ≡ Some (s, next)) where
  -- the map's fields are all there
  whole : at + (1 + fields (word w at)) ≤ length w
  whole = go (ltb at (length w)) (leb (at + (1 + fields (word w at))) (length w)) refl refl
    where
      go : (a b : Bool) → ltb at (length w) ≡ a → leb (at + (1 + fields (word w at))) (length w) ≡ b → at + (1 + fields (word w at)) ≤ length w
      go a true p q = leb-true (at + (1 + fields (word w at))) (length w) q
      go false false p q = never (sym (read_past w at (ltb-false at (length w) p)) ∙ r)
      go true false p q = never (sym (read_cut w at (ltb-true at (length w) p) (leb-false (at + (1 + fields (word w at))) (length w) q)) ∙ r)

  of_kind : {map n : ℕ} {t : Step} → fields map ≡ n → (word w at ≡ map → at + n < length w → read_at w at ≡ Some (t, at + (1 + n)))
      → word w at ≡ map → Is w at s next map t n
  of_kind {map} {n} {t} e law m =
      let h : at + n < length w = omega (arith, whole, ap fields m ∙ e) in
      let q = same_read (sym r ∙ law m h) in
      record { first = m; step = q.0; after = q.1 }

  pub read_kind : Kind w at s next
  read_kind =
      either patch_map (λ m. patch (of_kind patch_fields (read_patch w at) m))
      (λ n1. either gain_map (λ m. gain (of_kind gain_fields (read_gain w at) m))
      (λ n2. either matrix_map (λ m. matrix (of_kind matrix_fields (read_matrix w at) m))
      (λ n3. either clear_map (λ m. clear (of_kind clear_fields (read_clear w at) m))
      (λ n4. either send_map (λ m. send (of_kind send_fields (read_send w at) m))
      (λ n5. either output_map (λ m. output (of_kind output_fields (read_output w at) m))
      (λ n6. never (sym (read_unnamed w at n1 n2 n3 n4 n5 n6) ∙ r)))))))
    where
      by : {A : Type 0} (map : ℕ) → Dec (word w at ≡ map) → (word w at ≡ map → A) → ((word w at ≡ map → ⊥) → A) → A
      by map (yes p) f g = f p
      by map (no n) f g = g n

      either : {A : Type 0} (map : ℕ) → (word w at ≡ map → A) → ((word w at ≡ map → ⊥) → A) → A
      either map = by map (ℕ_discrete (word w at) map)

  -- it ends where the fields of its map do, and lies within the words
  pub read_next : next ≡ at + (1 + fields (word w at))
  unfolding step_of
  read_next = among_next w at (word w at) kinds (sym (read_whole w at whole) ∙ r)

  pub read_within : (at < next) × (next ≤ length w)
  read_within = (omega (arith, read_next), omega (arith, read_next, whole))

-- ---- words that agree up to n
-- the words of a record are the same in both, and so is its step
module _ (v w : List ℕ) (n : ℕ) (e : take n v ≡ take n w) (at : ℕ) {s : Step} {next : ℕ} (r : read_at v at ≡ Some (s, next)) (h : next ≤ n) where
  same : (i : ℕ) → at + i < next → word v (at + i) ≡ word w (at + i)
  same i l =
      let k : at + i < n = omega arith in
      sym (get_or-take n v (at + i) 0 k) ∙ ap (λ (l : List ℕ). word l (at + i)) e ∙ get_or-take n w (at + i) 0 k

  reaches : next ≤ length w
  reaches = omega (arith, read_within v at r, length-take n v, length-take n w, ap length e)

  as_there : {map n : ℕ} {t u : Step} → Is v at s next map t n → (word w at ≡ map → at + n < length w → read_at w at ≡ Some (u, at + (1 + n))) → t ≡ u
      → read_at w at ≡ Some (s, next)
  as_there {map} {n} {t} {u} k law q =
      let m : word v at ≡ word w at = rw add-zero at (same 0 (omega (arith, read_within v at r))) in
      let f = law (sym m ∙ k.first) (omega (arith, reaches)) in
      cc (k.step, k.after)

  pub read_agree : read_at w at ≡ Some (s, next)
  read_agree = go (read_kind v at r)
    where
      go : Kind v at s next → read_at w at ≡ Some (s, next)
      go (patch i) = as_there i (read_patch w at) (cc (same 1 (omega arith), same 2 (omega arith), same 3 (omega arith)))
      go (gain i) = as_there i (read_gain w at) (cc (same 1 (omega arith), same 2 (omega arith), same 3 (omega arith), same 4 (omega arith), same 5 (omega arith)))
      go (matrix i) = as_there i (read_matrix w at) (cc (same 1 (omega arith), same 2 (omega arith), same 3 (omega arith), same 4 (omega arith), same 5 (omega arith)))
      go (clear i) = as_there i (read_clear w at) (cc (same 1 (omega arith), same 2 (omega arith)))
      go (send i) =
          as_there i (read_send w at)
          (cc (same 1 (omega arith), same 2 (omega arith), same 3 (omega arith), same 4 (omega arith), same 5 (omega arith), same 6 (omega arith), same 7 (omega arith)))
      go (output i) = as_there i (read_output w at) (cc (same 1 (omega arith), same 2 (omega arith), same 3 (omega arith)))

-- more words after those that hold the step
pub read_append : (w more : List ℕ) (at : ℕ) {s : Step} {next : ℕ} → read_at w at ≡ Some (s, next) → read_at (w ++ more) at ≡ Some (s, next)
read_append w more at r =
    read_agree w (w ++ more) (length w) (sym (take-append-le (length w) w more (omega arith))) at r (read_within w at r).1

-- ---- words before it
-- what was read, k places further on
abbrev pub moved : ℕ → Option (Step × ℕ) → Option (Step × ℕ)
moved k (Some (s, next)) = Some (s, k + next)
moved k None = None

moved_cond : (k : ℕ) (b : Bool) (u v : Option (Step × ℕ)) {x y : Option (Step × ℕ)} → x ≡ moved k u → y ≡ moved k v → cond b x y ≡ moved k (cond b u v)
moved_cond k true u v p q = p
moved_cond k false u v p q = q

moved_found : (k at n : ℕ) {s t : Step} → s ≡ t → (Some (s, k + at + n)) ≡ moved k (Some (t, at + n))
moved_found k at n e = rw (e, add_assoc)

shift_leb : (k a b c d : ℕ) → c ≡ k + a → d ≡ k + b → leb c d ≡ leb a b
shift_leb k a b c d p q = go (leb a b) refl
  where
    go : (t : Bool) → leb a b ≡ t → leb c d ≡ t
    go true e = le-leb c d (omega (arith, leb-true a b e))
    go false e = lt-leb c d (omega (arith, leb-false a b e))

module _ (xs ys : List ℕ) (at : ℕ) where
  abbrev k : ℕ
  k = length xs

  module _ (map : ℕ) where
    same_field : (b : ℕ) → field (xs ++ ys) (k + at) map b ≡ field ys at map b
    same_field b =
        let i : ℕ = 1 + ones (fields_in map % 2 ^ b) in
        ap (word (xs ++ ys)) (add_assoc k at i) ∙ get_or-append-add xs ys (at + i) 0

    among_offset : (ks : List StepKind) → step_among ks (xs ++ ys) (k + at) map ≡ moved k (step_among ks ys at map)
    unfolding step_among
    among_offset [] = refl
    among_offset (row ∷ ks) =
        let f : field (xs ++ ys) (k + at) map ≡ field ys at map = λ t b. same_field b t in
        moved_cond k (eqb map (map_of row.bits)) _ _ (moved_found k at (1 + fields map) (ap row.made f)) (among_offset ks)

    step_offset : step_of (xs ++ ys) (k + at) map ≡ moved k (step_of ys at map)
    unfolding step_of
    step_offset = among_offset kinds

  pub read_offset : read_at (xs ++ ys) (k + at) ≡ moved k (read_at ys at)
  unfolding read_at
  read_offset =
      let m : word (xs ++ ys) (k + at) ≡ word ys at = get_or-append-add xs ys at 0 in
      let l : length (xs ++ ys) ≡ k + length ys = length-append xs ys in
      let n : ℕ = 1 + fields (word ys at) in
      let n' : ℕ = 1 + fields (word (xs ++ ys) (k + at)) in
      let here : ltb (k + at) (length (xs ++ ys)) ≡ ltb at (length ys) =
      shift_leb k (suc at) (length ys) (suc (k + at)) (length (xs ++ ys)) (omega arith) l in
      let whole : leb (k + at + n') (length (xs ++ ys)) ≡ leb (at + n) (length ys) =
      shift_leb k (at + n) (length ys) (k + at + n') (length (xs ++ ys)) (omega (arith, ap fields m)) l in
      let step : step_of (xs ++ ys) (k + at) (word (xs ++ ys) (k + at)) ≡ moved k (step_of ys at (word ys at)) =
      ap (step_of (xs ++ ys) (k + at)) m ∙ step_offset (word ys at) in
      cc (here, whole, step) ∙ moved_cond k (ltb at (length ys)) _ _ (moved_cond k (leb (at + n) (length ys)) _ _ refl refl) refl

-- a step that starts the second list
pub read_seam : (xs ys : List ℕ) {s : Step} {next : ℕ} → read_at ys 0 ≡ Some (s, next) → read_at (xs ++ ys) (length xs) ≡ Some (s, length xs + next)
read_seam xs ys r = ap (read_at (xs ++ ys)) (sym (add-zero (length xs))) ∙ read_offset xs ys 0 ∙ ap (moved (length xs)) r
