-- The areas that the lists of all slots go to: what stands there once the first n slots are done, and one slot more. Assumes nothing.
use mathlib.Core.Path.{◌≡◌, refl, sym, ap, ◌∙◌}
use mathlib.Core.Logic.{◌⊎◌}
use mathlib.Core.List.{List, ◌++◌, append_assoc, append-nil}
use Prim.Native.Nat.{ℕ, zero, suc, ◌+◌, ◌-◌, ◌*◌, ◌<◌, ◌≤◌}
use native.Mathlib.Nat.{not-suc-le-zero}
use native.Mathlib.Numerals.{add-one}
use native.Mathlib.Decide.{ℕ_discrete}
use native.Mathlib.Omega.{arith}
use lib.ListN.{length, get_or, set, take, drop, length-drop}
use lib.Seq.{sets, sets-eq, length-sets, drop-drop, drop-length, take_all}
use borrow.Rule.Slice.PartMut.{put_mid, mid_of, Post-is}
use Rattle.lists.specs.Parts.{part}
use Rattle.lists.proofs.Stores.{part_sets_before, part_sets_same, get_d_sets}
use Rattle.lists.proofs.Filled.{upto_more}
use Rattle.plan.specs.Limits.{inputs}
use Rattle.trace.specs.Calls.{counts_of, lists_of}

-- a list that is stored at the front of the part from place k on
pub lent_store : (l : List ℕ) (k : ℕ) (vs : List ℕ) → k + length vs ≤ length l
    → put_mid k (length l - k) l (vs ++ drop (length vs) (mid_of k (length l - k) l)) ≡ sets l k vs
lent_store l k vs h =
    ap (λ (z : List ℕ). take k l ++ ((vs ++ drop (length vs) (mid_of k (length l - k) l)) ++ z)) (Post-is k (length l) l (omega arith) ∙ drop-length l)
    ∙ ap (λ (z : List ℕ). take k l ++ z) (append-nil (vs ++ drop (length vs) (mid_of k (length l - k) l)))
    ∙ ap (λ (z : List ℕ). take k l ++ (vs ++ drop (length vs) z)) (take_all (length l - k) (drop k l) (omega (arith, length-drop k l)))
    ∙ ap (λ (z : List ℕ). take k l ++ (vs ++ z)) (drop-drop (length vs) k l)
    ∙ sym (append_assoc (take k l) vs (drop (k + length vs) l))
    ∙ sym (sets-eq vs l k h)

module _ (list : ℕ → List ℕ) where
  pub length_lists : (n : ℕ) (l : List ℕ) → length (lists_of list n l) ≡ length l
  length_lists zero l = refl
  length_lists (suc n) l = length-sets (lists_of list n l) (n * inputs) (list n) ∙ length_lists n l

  -- where each list fits its places: the list of a slot stands from its first place on, and a place that is in no list is as it was
  module _ (fits : (s : ℕ) → length (list s) ≤ inputs) where
    pub lists_at : (n : ℕ) (l : List ℕ) (s : ℕ) → s < n → n * inputs ≤ length l → part (s * inputs) (length (list s)) (lists_of list n l) ≡ list s
    lists_at zero l s h k = absurd (not-suc-le-zero h)
    lists_at (suc n) l s h k = go (ℕ_discrete s n) (λ (m : s < n). lists_at n l s m (omega arith))
      where
        go : Dec (s ≡ n) → (s < n → part (s * inputs) (length (list s)) (lists_of list n l) ≡ list s)
            → part (s * inputs) (length (list s)) (sets (lists_of list n l) (n * inputs) (list n)) ≡ list s
        go (yes e) ih = rw e (part_sets_same (n * inputs) (length (list n)) (lists_of list n l) (list n) refl (omega (arith, length_lists n l, fits n)))
        go (no e) ih = part_sets_before (s * inputs) (length (list s)) (lists_of list n l) (n * inputs) (list n) (omega (arith, fits s, e)) ∙ ih (omega (arith, e))

  pub lists_kept : (n : ℕ) (l : List ℕ) (i : ℕ) → ((s : ℕ) → s < n → (i < s * inputs) ⊎ (s * inputs + length (list s) ≤ i))
      → get_or (lists_of list n l) i 0 ≡ get_or l i 0
  lists_kept zero l i o = refl
  lists_kept (suc n) l i o =
      get_d_sets i (lists_of list n l) (n * inputs) (list n) 0 (o n (omega arith)) ∙ lists_kept n l i (λ s h. o s (omega arith))

  -- the first s slots are done
  pub record Writing (n : ℕ) (counts₀ lists₀ counts lists : List ℕ) (s : ℕ) : Type 0 where
    pub turns : s ≤ n
    pub numbers : counts ≡ counts_of list s counts₀
    pub inputs_behind : lists ≡ lists_of list s lists₀

module _ {list : ℕ → List ℕ} {n : ℕ} {counts₀ lists₀ counts lists : List ℕ} {s : ℕ} (c : Writing list n counts₀ lists₀ counts lists s) where
  pub writing_lists : length lists ≡ length lists₀
  writing_lists = ap length c.inputs_behind ∙ length_lists list s lists₀

  pub writing_on : s < n → (count : ℕ) → count ≡ length (list s) → (lists' : List ℕ) → lists' ≡ sets lists (s * inputs) (list s)
      → Writing list n counts₀ lists₀ (set counts s count) lists' (s + 1)
  writing_on h count e lists' q =
      record {
        turns = omega arith;
        numbers = rw (e, c.numbers) (upto_more (λ s. length (list s)) s counts₀);
        inputs_behind = q ∙ ap (λ (l : List ℕ). sets l (s * inputs) (list s)) c.inputs_behind ∙ ap (λ (k : ℕ). lists_of list k lists₀) (sym (add-one s));
      }
