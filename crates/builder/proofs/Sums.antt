-- A sum of two growths: the plan grows by the one and then by the other, and a test that does not hold of the sum holds neither of the one nor, after it, of the
-- other; and likewise ids that are new before a node is stored, and after it. Assumes nothing.
use mathlib.Core.Path.{◌≡◌, refl, sym, ap, ◌∙◌}
use mathlib.Core.Logic.{◌↔◌}
use mathlib.Core.Bool.{Bool, false, ◌||◌}
use mathlib.Core.List.{List, [], ◌∷◌}
use Prim.Native.Nat.{ℕ, ◌+◌, ◌*◌, ◌<◌, ◌≤◌}
use native.Mathlib.Nat.{mul-le-mul_right, add-zero, add_assoc}
use native.Mathlib.Decide.{dec_lt}
use native.Mathlib.Omega.{arith}
use lib.Dec.{ltb, eqb}
use lib.ListN.{length}
use borrow.Author.Tests.{ltb-false, le-ltb, eqb-false, ne_eqb}
use Rattle.lists.specs.Entries.{has}
use Rattle.std.proofs.lemmas.Bool.{or_parts, or_from}
use Rattle.refusal.specs.Tests.{NoneHolds}
use Rattle.node.specs.declared.Node.{Node}
use Rattle.node.specs.Sizes.{node_float_count, node_word_count}
use Rattle.node.specs.Areas.{id_at, stored_words}
use Rattle.node.proofs.Areas.{id_stored, word_other}
use Rattle.plan.specs.declared.Plan.{Plan}
use Rattle.plan.specs.PlanRecord.{plan_with}
use Rattle.plan.specs.declared.Limits.{Limits}
use Rattle.plan.specs.Areas.{shorter}
use Rattle.plan.specs.Check.{id_among}
use Rattle.plan.proofs.Plans.{among_none}
use Rattle.builder.specs.declared.Growth.{Growth}
use Rattle.builder.specs.declared.Lengths.{Lengths}
use Rattle.builder.specs.Growth.{count_after, grown, tested, grows_over, limit_tests, too_short, grows_past}
use Rattle.builder.specs.Sums.{plus, sum, ids_taken}
use Rattle.std.specs.Prelude.{Some, None, Option}

-- ---- growth upon growth

after_sum : (count : ℕ) (a b : Option ℕ) → count_after (count_after count a) b ≡ count_after count (plus a b)
after_sum count None b = refl
after_sum count (Some n) None = refl
after_sum count (Some n) (Some m) = add_assoc count n m

pub grown_sum : (p : Plan) (g h : Growth) → grown (grown p g) h ≡ grown p (sum g h)
grown_sum p g h =
    λ i. plan_with p.block
    (after_sum p.buffers g.buffers h.buffers i)
    (after_sum p.indices g.indices h.indices i)
    (after_sum p.coefficients g.coefficients h.coefficients i)
    (after_sum p.nodes g.nodes h.nodes i)
    (after_sum p.steps g.steps h.steps i)
    (after_sum p.words g.words h.words i)

-- ---- the tests of a sum

module _ (bad : ℕ → Bool) (more : (k n : ℕ) → bad (k + n) ≡ false → bad k ≡ false) where
  tested_sum : (count : ℕ) (a b : Option ℕ)
      → (tested bad count (plus a b) ≡ false) ↔ ((tested bad count a ≡ false) × (tested bad (count_after count a) b ≡ false))
  tested_sum count None b = (λ e. (refl, e), λ h. h.1)
  tested_sum count (Some n) None = (λ e. (e, refl), λ h. h.0)
  tested_sum count (Some n) (Some m) =
      let q = ap bad (add_assoc count n m) in (
        λ e. (more (count + n) m (q ∙ e), q ∙ e),
        λ h. sym q ∙ h.1,
      )

over_more : (limit k n : ℕ) → ltb limit (k + n) ≡ false → ltb limit k ≡ false
over_more limit k n e = le-ltb limit k (omega (arith, ltb-false limit (k + n) e))

short_more : (len each k n : ℕ) → shorter len (k + n) each ≡ false → shorter len k each ≡ false
short_more len each k n e =
    let less : k * each ≤ (k + n) * each = mul-le-mul_right each (omega arith) in
    le-ltb len (k * each) (omega (arith, ltb-false len ((k + n) * each) e, less))

-- a test of a sum, and those of its two parts
abbrev pub Splits : Bool → Bool → Bool → Type 0
Splits x y z = (x ≡ false) ↔ ((y ≡ false) × (z ≡ false))

-- so of two tests, either of which refuses
infixl 5 ◌or◌
◌or◌ : {x₁ x₂ y₁ y₂ z₁ z₂ : Bool} → Splits x₁ y₁ z₁ → Splits x₂ y₂ z₂ → Splits (x₁ || x₂) (y₁ || y₂) (z₁ || z₂)
◌or◌ s t = (
  λ e.
      let x = or_parts _ _ e in
      let a = s.0 x.0 in
      let b = t.0 x.1 in
      (or_from _ _ a.0 b.0, or_from _ _ a.1 b.1),
  λ h.
      let y = or_parts _ _ h.0 in
      let z = or_parts _ _ h.1 in
      or_from _ _ (s.1 (y.0, z.0)) (t.1 (y.1, z.1)),
)

module _ (p : Plan) (g h : Growth) where
  over_sum : (l : Limits) → Splits (grows_over l p (sum g h)) (grows_over l p g) (grows_over l (grown p g) h)
  over_sum l =
      tested_sum (ltb l.buffers) (over_more l.buffers) p.buffers g.buffers h.buffers
      or tested_sum (ltb l.indices) (over_more l.indices) p.indices g.indices h.indices
      or tested_sum (ltb l.coefficients) (over_more l.coefficients) p.coefficients g.coefficients h.coefficients
      or tested_sum (ltb l.nodes) (over_more l.nodes) p.nodes g.nodes h.nodes
      or tested_sum (ltb l.steps) (over_more l.steps) p.steps g.steps h.steps

  pub limits_sum : (l : Limits) → NoneHolds (limit_tests l p (sum g h)) ↔ (NoneHolds (limit_tests l p g) × NoneHolds (limit_tests l (grown p g) h))
  limits_sum l = (
    λ n. let k = (over_sum l).0 n.0 in ((k.0, tt), (k.1, tt)),
    λ n. ((over_sum l).1 (n.0.0, n.1.0), tt),
  )

  short_sum : (len each count : ℕ) (a b : Option ℕ) → Splits (too_short len count (plus a b) each) (too_short len count a each) (too_short len (count_after count a) b each)
  short_sum len each count a b = tested_sum (λ k. shorter len k each) (short_more len each) count a b

  pub past_sum : (z : Lengths) → Splits (grows_past p (sum g h) z) (grows_past p g z) (grows_past (grown p g) h z)
  past_sum z =
      short_sum z.indices 1 p.indices g.indices h.indices
      or short_sum z.coefficients 1 p.coefficients g.coefficients h.coefficients
      or short_sum z.node_floats node_float_count p.nodes g.nodes h.nodes
      or short_sum z.node_words node_word_count p.nodes g.nodes h.nodes
      or short_sum z.step_words 1 p.words g.words h.words

-- ---- ids that are new before a node is stored, and after it

module _ (words : List ℕ) (n : ℕ) (x : Node) (room : (n + 1) * node_word_count ≤ length words) where
  abbrev stored : List ℕ
  stored = stored_words words n x

  pub id_before : (i : ℕ) → i < n → id_at stored i ≡ id_at words i
  id_before i h = rw add-zero at (word_other words n x i 0 (λ z. omega arith) (omega arith))

  among_stored : (j : ℕ) → (id_among stored (n + 1) j ≡ false) ↔ ((j ≡ x.id → ⊥) × (id_among words n j ≡ false))
  among_stored j = (
    λ e.
        let none = (among_none stored (n + 1) j).0 e in (
          λ q. none n (omega arith) (id_stored words n x room ∙ sym q),
          (among_none words n j).1 (λ i h q. none i (omega arith) (id_before i h ∙ q)),
        ),
    λ h. (among_none stored (n + 1) j).1 (λ i l q. go i l q (dec_lt i n) h.0 h.1),
  )
    where
      go : (i : ℕ) → i < n + 1 → id_at stored i ≡ j → Dec (i < n) → (j ≡ x.id → ⊥) → id_among words n j ≡ false → ⊥
      go i l q (yes k) other e = (among_none words n j).0 e i k (sym (id_before i k) ∙ q)
      go i l q (no k) other e =
          let z : i ≡ n = omega arith in
          other (sym q ∙ ap (id_at stored) z ∙ id_stored words n x room)

  pub ids_stored : (ids : List ℕ) → Splits (ids_taken stored (n + 1) ids) (has ids x.id) (ids_taken words n ids)
  unfolding has
  ids_stored [] = (λ e. (refl, refl), λ h. refl)
  ids_stored (j ∷ js) = (
    λ e.
        let u = or_parts (id_among stored (n + 1) j) (has js j || ids_taken stored (n + 1) js) e in
        let v = or_parts (has js j) (ids_taken stored (n + 1) js) u.1 in
        let a = (among_stored j).0 u.0 in
        let b = (ids_stored js).0 v.1 in
        (or_from (eqb j x.id) _ (ne_eqb j x.id a.0) b.0, or_from (id_among words n j) _ a.1 (or_from (has js j) _ v.0 b.1)),
    λ h.
        let u = or_parts (eqb j x.id) (has js x.id) h.0 in
        let v = or_parts (id_among words n j) (has js j || ids_taken words n js) h.1 in
        let w = or_parts (has js j) (ids_taken words n js) v.1 in
        or_from (id_among stored (n + 1) j) _ ((among_stored j).1 (eqb-false j x.id u.0, v.0)) (or_from (has js j) _ w.0 ((ids_stored js).1 (u.1, w.1))),
  )
