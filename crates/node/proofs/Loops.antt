-- A turn of each loop over a node, and what `finish_block` has made at each of its ends. Assumes nothing.
use Prim.Native.Nat.{ℕ, zero, suc, ◌+◌, ◌-◌, ◌≤◌, min}
use native.Mathlib.Omega.{arith}
use native.Mathlib.Nat.{le_refl}
use mathlib.Core.Path.{◌≡◌, refl, sym, ap, ◌∙◌}
use mathlib.Core.List.{List, [], ◌∷◌, ◌++◌, append_assoc}
use lib.ListN.{length, take, drop, set}
use lib.Seq.{take-suc, drop-cons, set-append_seam, length-take-le}
use lib.Ieee.{Float, nan}
use borrow.Author.Tests.{eq-eqb, ne_eqb}
use Rattle.lists.specs.Parts.{upto}
use Rattle.lists.proofs.Filled.{upto_more, upto_past}
use Rattle.node.specs.Nodes.{at, changed, at_target, step_over, cur_after, finish_block}
use Rattle.node.specs.declared.Node.{Node}

abbrev pub new_left : Node → ℕ → Node
new_left n left = changed n n.cur n.target n.step left

-- ---- the first n values of a row, copied as one
pub start_upto : (n : ℕ) (xs zs : List Float) → n ≤ length xs → n ≤ length zs → take n xs ++ drop n zs ≡ upto n (at xs) zs
start_upto zero xs zs h k = refl
start_upto (suc n) xs zs h k =
    let v : Float = at xs n in
    let l : length (take n xs) ≡ n = length-take-le n xs (omega arith) in
    let d : drop n zs ≡ at zs n ∷ drop (suc n) zs = drop-cons zs n nan (omega arith) in
    ap (λ (t : List Float). t ++ drop (suc n) zs) (take-suc xs n nan (omega arith))
    ∙ append_assoc (take n xs) (v ∷ []) (drop (suc n) zs)
    ∙ sym (set-append_seam (take n xs) (at zs n) (drop (suc n) zs) v)
    ∙ ap (λ (i : ℕ). set (take n xs ++ at zs n ∷ drop (suc n) zs) i v) l
    ∙ ap (λ (t : List Float). set (take n xs ++ t) n v) (sym d)
    ∙ ap (λ (t : List Float). set t n v) (start_upto n xs zs (omega arith) (omega arith))

-- ---- n after i turns of the loop over step and over cur
abbrev pub step_upto : Node → ℕ → ℕ → Node
step_upto n r i = changed n n.cur n.target (upto i (step_over n r) n.step) n.left

abbrev pub cur_upto : Node → ℕ → ℕ → Node
cur_upto n m i = changed n (upto i (cur_after n m) n.cur) n.target n.step n.left

pub step_more : (s n : Node) (r i : ℕ) → s ≡ step_upto n r i
    → changed s s.cur s.target (set s.step i (step_over s r i)) s.left ≡ step_upto n r (i + 1)
step_more s n r i e =
    ap (λ (x : Node). changed x x.cur x.target (set x.step i (step_over x r i)) x.left) e
    ∙ ap (λ (t : List Float). changed n n.cur n.target t n.left) (upto_more (step_over n r) i n.step)

-- the value that is next to be replaced is still there
pub cur_more : (s n : Node) (m i : ℕ) → s ≡ cur_upto n m i
    → changed s (set s.cur i (cur_after s m i)) s.target s.step s.left ≡ cur_upto n m (i + 1)
cur_more s n m i e =
    ap (λ (x : Node). changed x (set x.cur i (cur_after x m i)) x.target x.step x.left) e
    ∙ rw (upto_past (cur_after n m) i n.cur i nan (le_refl i))
    (ap (λ (t : List Float). changed n t n.target n.step n.left) (upto_more (cur_after n m) i n.cur))

-- ---- the end of a block: of a ramp that ends with it, and of one that goes on
pub finish_end : (n : Node) (block m : ℕ) → (n.left ≡ 0 → ⊥) → m ≡ min block n.left → n.left - m ≡ 0 → at_target n ≡ finish_block n block
unfolding finish_block
finish_end n block m z h e = rw (← h, ne_eqb n.left 0 z, eq-eqb (n.left - m) 0 e)

pub finish_on : (s n : Node) (block m i : ℕ) → (n.left ≡ 0 → ⊥) → m ≡ min block n.left → (n.left - m ≡ 0 → ⊥)
    → s ≡ cur_upto (new_left n (n.left - m)) m i → i ≡ n.len → s ≡ finish_block n block
unfolding finish_block
finish_on s n block m i z h e l k = rw (l, k, ← h, ne_eqb n.left 0 z, ne_eqb (n.left - m) 0 e)
