-- Laws of lists beside the words that they should be, over the entry. Assumes nothing.
use Prim.Native.Nat.{ℕ, suc, ◌+◌, ◌<◌, ◌≤◌}
use mathlib.Core.Path.{◌≡◌, refl, sym, ap, ap₂, ◌∙◌}
use mathlib.Core.Bool.{Bool, true, false, cond, ◌&&◌, true≢false}
use mathlib.Core.List.{List, [], ◌∷◌, map}
use native.Mathlib.Omega.{arith}
use native.Mathlib.Nat.{add-suc, add-zero, suc-add}
use native.Mathlib.Numerals.{add-one}
use lib.Dec.{eqb}
use lib.ListN.{length, take, drop, get_or, drop_of_length-le, length-map}
use lib.Seq.{drop-cons}
use borrow.Author.Tests.{eqb-true, eq-eqb, ne_eqb}
use Rattle.std.specs.Prelude.{None, Some}
use Rattle.comparison.specs.Lists.{alike, compared}

-- The first i entries of both are alike, so what is left decides.
pub record AlikeTo {A : Type 0} (f : A → ℕ) (xs : List ℕ) (ys : List A) (i : ℕ) : Type 0 where
  pub first : i ≤ length xs
  pub second : i ≤ length ys
  pub left : alike f xs ys ≡ i + alike f (drop i xs) (drop i ys)

alike_nil : {A : Type 0} (f : A → ℕ) (xs : List ℕ) → alike f xs [] ≡ 0
unfolding alike
alike_nil f [] = refl
alike_nil f (x ∷ xs) = refl

module _ {A : Type 0} (f : A → ℕ) (xs : List ℕ) (ys : List A) where
  module _ (i : ℕ) (a : AlikeTo f xs ys i) where
    -- where nothing that is left is alike
    at_end : alike f (drop i xs) (drop i ys) ≡ 0 → i ≡ alike f xs ys
    at_end h = sym (a.left ∙ ap (λ (n : ℕ). i + n) h ∙ add-zero i)

    pub first_ends : length xs ≤ i → i ≡ alike f xs ys
    unfolding alike
    first_ends h = at_end (rw (drop_of_length-le xs h))

    pub second_ends : length ys ≤ i → i ≡ alike f xs ys
    second_ends h = at_end (rw (drop_of_length-le ys h) (alike_nil f (drop i xs)))

    module _ (d : A) (p : i < length xs) (q : i < length ys) where
      pub unlike : (get_or xs i 0 ≡ f (get_or ys i d) → ⊥) → i ≡ alike f xs ys
      unfolding alike
      unlike h = at_end (rw (drop-cons xs i 0, drop-cons ys i d, ne_eqb _ _ h))

      pub alike_more : get_or xs i 0 ≡ f (get_or ys i d) → AlikeTo f xs ys (i + 1)
      unfolding alike
      alike_more h = record {
        first = omega arith;
        second = omega arith;
        left = a.left ∙ rw (drop-cons xs i 0, drop-cons ys i d, eq-eqb _ _ h, add-one) (add-suc i _ ∙ sym (suc-add i _));
      }

-- ---- what a comparison says

both : (n a b : ℕ) (s t : Bool) → eqb n a ≡ s → eqb n b ≡ t → cond (s && t) None (Some n) ≡ None → (n ≡ a) × (n ≡ b)
both n a b true true p q h = (eqb-true n a p, eqb-true n b q)
both n a b true false p q h = absurd (true≢false (ap (elim [ None ↦ true | Some m ↦ false ]) (sym h)))
both n a b false t p q h = absurd (true≢false (ap (elim [ None ↦ true | Some m ↦ false ]) (sym h)))

module _ {A : Type 0} (f : A → ℕ) where
  all_alike : (xs : List ℕ) (ys : List A) → alike f xs ys ≡ length xs → alike f xs ys ≡ length ys → xs ≡ map f ys
  unfolding alike
  all_alike [] [] p q = refl
  all_alike [] (y ∷ ys) p q = absurd (omega arith)
  all_alike (x ∷ xs) [] p q = absurd (omega arith)
  all_alike (x ∷ xs) (y ∷ ys) p q = go (eqb x (f y)) refl p q (all_alike xs ys)
    where
      n : ℕ
      n = alike f xs ys

      go : (t : Bool) → eqb x (f y) ≡ t → cond t (suc n) 0 ≡ suc (length xs) → cond t (suc n) 0 ≡ suc (length ys) → (n ≡ length xs → n ≡ length ys → xs ≡ map f ys) → x ∷ xs ≡ map f (y ∷ ys)
      go true e p q rest = ap₂ ◌∷◌ (eqb-true x (f y) e) (rest (omega arith) (omega arith))
      go false e p q rest = absurd (omega arith)

  -- what is alike is the same
  pub alike_front : (xs : List ℕ) (ys : List A) → take (alike f xs ys) xs ≡ map f (take (alike f xs ys) ys)
  unfolding alike
  alike_front [] ys = refl
  alike_front (x ∷ xs) [] = refl
  alike_front (x ∷ xs) (y ∷ ys) = go (eqb x (f y)) refl (alike_front xs ys)
    where
      n : ℕ
      n = alike f xs ys

      go : (t : Bool) → eqb x (f y) ≡ t → take n xs ≡ map f (take n ys) → take (cond t (suc n) 0) (x ∷ xs) ≡ map f (take (cond t (suc n) 0) (y ∷ ys))
      go true e rest = ap₂ ◌∷◌ (eqb-true x (f y) e) rest
      go false e rest = refl

  -- lists are said to be the same only where they are
  pub same_equal : (xs : List ℕ) (ys : List A) → compared f xs ys ≡ None → xs ≡ map f ys
  same_equal xs ys h =
      let e = both (alike f xs ys) (length xs) (length ys) (eqb (alike f xs ys) (length xs)) (eqb (alike f xs ys) (length ys)) refl refl h in
      all_alike xs ys e.0 e.1

  map_alike : (ys : List A) → alike f (map f ys) ys ≡ length ys
  unfolding alike
  map_alike [] = refl
  map_alike (y ∷ ys) = rw (eq-eqb (f y) (f y) refl) (ap suc (map_alike ys))

  -- and wherever they are
  pub equal_same : (ys : List A) → compared f (map f ys) ys ≡ None
  equal_same ys = rw (map_alike ys, length-map ys f, eq-eqb (length ys) (length ys) refl)
