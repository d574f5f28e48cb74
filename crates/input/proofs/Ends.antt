-- The end of each input: the place behind its last entry, as the loop over the directory finds it from the front on. Assumes nothing.
use mathlib.Core.Path.{◌≡◌, refl, sym, ap, ◌∙◌}
use mathlib.Core.Bool.{Bool, true, false, ◌&&◌}
use mathlib.Core.List.{List}
use Prim.Native.Nat.{ℕ, ◌+◌, ◌*◌, ◌≤◌, ◌<◌}
use native.Mathlib.Omega.{arith}
use lib.ListN.{length, get_or, set, replicate, length-set, length-replicate, get_or-replicate}
use lib.Seq.{get_or-set_same, get_or-set_other}
use lib.Dec.{eqb}
use borrow.Author.Tests.{eqb-true, eqb-false, ne_eqb}
use Rattle.plan.specs.Limits.{inputs}
use Rattle.input.specs.Input.{entry_words, entry_word, entry_for}
use Rattle.input.specs.Loops.{Ends}
use Rattle.input.proofs.Input.{first_word}

module _ (directory : List ℕ) where
  -- of no entry
  pub ends_none : (ends : List ℕ) → ends ≡ replicate inputs 0 → Ends directory 0 ends
  ends_none ends e =
      record {
        all = ap length e ∙ length-replicate {A = ℕ} inputs 0;
        within = λ input h. omega (arith, ap (λ (l : List ℕ). get_or l input 0) e ∙ get_or-replicate {A = ℕ} inputs input 0 0 h);
        after = λ input i h a b w. absurd (omega (arith, b));
      }

  -- of entry i too
  module _ (i : ℕ) (ends : List ℕ) (e : Ends directory i ends) where
    -- where no place falls, and that of the entry's input is behind it
    one_more : (more : List ℕ) → length more ≡ inputs
        → ((input : ℕ) → input < inputs → (get_or ends input 0 ≤ get_or more input 0) × (get_or more input 0 ≤ i + 1))
        → ((input : ℕ) → input < inputs → get_or more input 0 ≤ i → entry_word directory i 0 ≡ input → ⊥) → Ends directory (i + 1) more
    one_more more all grown here = record { all = all; within = λ input h. (grown input h).1; after = after }
      where
        after : (input j : ℕ) → input < inputs → get_or more input 0 ≤ j → j < i + 1 → entry_word directory j 0 ≡ input → ⊥
        after input j h a b w = go (eqb j i) refl
          where
            go : (t : Bool) → eqb j i ≡ t → ⊥
            go true q = here input h (omega (arith, a, eqb-true j i q)) (ap (λ (m : ℕ). entry_word directory m 0) (sym (eqb-true j i q)) ∙ w)
            go false q = e.after input j h (omega (arith, a, (grown input h).0)) (omega (arith, b, eqb-false j i q)) w

    -- for an input that the list has no place for
    pub ends_past : inputs ≤ get_or directory (i * entry_words) 0 → Ends directory (i + 1) ends
    ends_past h =
        one_more ends e.all (λ input g. (omega arith, omega (arith, e.within input g))) (λ input g a w. omega (arith, g, h, first_word directory i, w))

    -- for another, whose place is behind it then
    pub ends_named : (n : ℕ) → get_or directory (i * entry_words) 0 ≡ n → n < inputs → Ends directory (i + 1) (set ends n (i + 1))
    ends_named n v h = one_more (set ends n (i + 1)) (rw length-set e.all) grown (λ input g a w. omega (arith, a, at_n input (sym w ∙ first_word directory i ∙ v)))
      where
        at_n : (input : ℕ) → input ≡ n → get_or (set ends n (i + 1)) input 0 ≡ i + 1
        at_n input q = ap (λ (m : ℕ). get_or (set ends n (i + 1)) m 0) q ∙ get_or-set_same ends n (i + 1) 0 (omega (arith, h, e.all))

        grown : (input : ℕ) → input < inputs → (get_or ends input 0 ≤ get_or (set ends n (i + 1)) input 0) × (get_or (set ends n (i + 1)) input 0 ≤ i + 1)
        grown input g = go (eqb input n) refl
          where
            go : (t : Bool) → eqb input n ≡ t → (get_or ends input 0 ≤ get_or (set ends n (i + 1)) input 0) × (get_or (set ends n (i + 1)) input 0 ≤ i + 1)
            go true q = let s = at_n input (eqb-true input n q) in (omega (arith, s, e.within input g), omega (arith, s))
            go false q =
                let s = get_or-set_other ends n input (i + 1) 0 (eqb-false input n q) in
                (omega (arith, s), omega (arith, s, e.within input g))

  -- no entry of a channel from the end of its input on
  pub ends_skip : (n : ℕ) (ends : List ℕ) → Ends directory n ends → (input channel : ℕ) → input < inputs → (j : ℕ) → get_or ends input 0 ≤ j → j < n
      → entry_for directory input channel j ≡ false
  ends_skip n ends e input channel h j a b = ap (λ (t : Bool). t && eqb (entry_word directory j 1) channel) (ne_eqb (entry_word directory j 0) input (e.after input j h a b))
