-- The node that a pair makes: at ramp 0 it is at its own target, else it ramps there from all of the old cur; a later pair of it stands. Assumes nothing.
use mathlib.Core.Path.{◌≡◌, refl, sym, ap, ◌∙◌}
use mathlib.Core.List.{List}
use Prim.Native.Nat.{ℕ, zero, suc, min, ◌<◌, ◌≤◌}
use native.Mathlib.Decide.{dec_lt, ℕ_discrete}
use native.Mathlib.Omega.{arith}
use lib.ListN.{length, get_or, set}
use lib.Seq.{set-get_or, ext_get_or}
use lib.Ieee.{Float, nan}
use borrow.Author.Tests.{eq-eqb, ne_eqb}
use Rattle.lists.specs.Parts.{upto}
use Rattle.lists.proofs.Filled.{length_upto, upto_past, upto_at}
use Rattle.node.specs.declared.Node.{Node}
use Rattle.node.specs.Sizes.{max_ramp}
use Rattle.node.specs.Nodes.{Full, at, changed, at_target, start_ramp, step_over, set_node}
use Rattle.node.specs.Areas.{InRange}
use Rattle.node.proofs.Kept.{full_set, id_set, len_set, safe_set}
use Rattle.node.proofs.Left.{left_set}
use Rattle.node.proofs.Bad.{in_range_set}
use Rattle.adoption.specs.Adoption.{adopted}

-- ---- lists made place by place

-- from their own places
upto_self : (n : ℕ) (xs : List Float) → upto n (at xs) xs ≡ xs
upto_self zero xs = refl
upto_self (suc n) xs = ap (λ (l : List Float). set l n (at xs n)) (upto_self n xs) ∙ set-get_or xs n nan

-- and made again
upto_twice : (f g : ℕ → Float) (n : ℕ) (xs : List Float) → upto n g (upto n f xs) ≡ upto n g xs
upto_twice f g n xs = ext_get_or nan (upto n g (upto n f xs)) (upto n g xs) (length_upto g n (upto n f xs) ∙ length_upto f n xs ∙ sym (length_upto g n xs)) each
  where
    each : (i : ℕ) → i < length (upto n g (upto n f xs)) → get_or (upto n g (upto n f xs)) i nan ≡ get_or (upto n g xs) i nan
    each i h = go (dec_lt i n)
      where
        k : i < length xs
        k = omega (arith, length_upto g n (upto n f xs), length_upto f n xs)

        go : Dec (i < n) → get_or (upto n g (upto n f xs)) i nan ≡ get_or (upto n g xs) i nan
        go (yes l) = upto_at g n (upto n f xs) i nan l (omega (arith, k, length_upto f n xs)) ∙ sym (upto_at g n xs i nan l k)
        go (no l) = upto_past g n (upto n f xs) i nan (omega arith) ∙ upto_past f n xs i nan (omega arith) ∙ sym (upto_past g n xs i nan (omega arith))

-- ---- one pair
module _ (new old : Node) where
  -- the new node with the old cur
  abbrev pub before : Node
  before = changed new old.cur new.target new.step new.left

  pub adopted_once : {ramp : ℕ} → ramp ≡ 0 → adopted new old ramp ≡ at_target new
  unfolding set_node
  adopted_once {ramp} e = rw (eq-eqb ramp 0 e, upto_self (min new.len (length new.target)) new.target)

  pub adopted_over : {ramp : ℕ} → (ramp ≡ 0 → ⊥) → adopted new old ramp ≡ start_ramp before ramp
  unfolding set_node
  adopted_over {ramp} e = rw (ne_eqb ramp 0 e, upto_self (min new.len (length new.target)) new.target)

  module _ (ramp : ℕ) where
    pub adopted_id : (adopted new old ramp).id ≡ new.id
    adopted_id = id_set before new.target ramp

    pub adopted_len : (adopted new old ramp).len ≡ new.len
    adopted_len = len_set before new.target ramp

    pub adopted_safe : (adopted new old ramp).safe ≡ new.safe
    adopted_safe = safe_set before new.target ramp

    pub adopted_left : (adopted new old ramp).left ≡ ramp
    adopted_left = left_set before new.target ramp

    pub adopted_full : Full new → Full old → Full (adopted new old ramp)
    adopted_full f g = full_set before new.target ramp (record { cur = g.cur; target = f.target; step = f.step })

    pub adopted_good : InRange new → ramp ≤ max_ramp → InRange (adopted new old ramp)
    adopted_good g h = in_range_set before new.target ramp (record { len = g.len; left = g.left; safe = g.safe }) h

-- ---- two pairs of one node, of which the later stands
pub adopted_again : (new a b : Node) (ramp : ℕ) → adopted (adopted new a ramp) b ramp ≡ adopted new b ramp
adopted_again new a b ramp = go (ℕ_discrete ramp 0)
  where
    go : Dec (ramp ≡ 0) → adopted (adopted new a ramp) b ramp ≡ adopted new b ramp
    go (yes e) =
        adopted_once (adopted new a ramp) b e ∙ ap at_target (adopted_once new a e) ∙ sym (adopted_once new b e)
    go (no e) =
        adopted_over (adopted new a ramp) b e
        ∙ ap (λ (n : Node). start_ramp (before n b) ramp) (adopted_over new a e)
        ∙ ap (λ (s : List Float). changed new b.cur new.target s ramp) (upto_twice (step_over (before new a) ramp) (step_over (before new b) ramp) new.len new.step)
        ∙ sym (adopted_over new b e)
