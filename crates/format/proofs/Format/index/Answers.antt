-- `format::Format::index` meets its contract: the position that the search gives, or else the count, is the definition's. Assumes nothing.
use mathlib.Core.Path.{◌≡◌, refl, sym, ap, ◌∙◌}
use mathlib.Core.Bool.{Bool, true, false, not, cond}
use mathlib.Core.List.{List}
use Prim.Native.Nat.{ℕ, ◌≤◌}
use native.Mathlib.Numerals.{one-add}
use native.Mathlib.Omega.{arith}
use borrow.Author.Tests.{ltb-false}
use lib.Dec.{eqb, ltb}
use lib.ListN.{length}
use Rattle.std.specs.Prelude.{Option, Some, None}
use Rattle.std.specs.Option.{unwrap_or}
use Rattle.std.specs.List.{position_or_len}
use Rattle.std.proofs.Common.{rules, tests}
use Rattle.std.proofs.lemmas.Iterator.{YieldsList-from_slice}
use Rattle.std.proofs.lemmas.Iterator.Search.{position_from_yields_List}
use Rattle.std.proofs.lemmas.List.Sums.{prefix_len-le-length}
use Rattle.std.proofs.lemmas.List.Recursion.{is_position_or_len}
use Rattle.format.specs.Formats.{position, index_of}
use Rattle.format.proofs.Format.index.Goals as goal

-- a place at most n, given where it is below n, and else n
place : (i n : ℕ) → i ≤ n → unwrap_or (cond (ltb i n) (Some i) None) n ≡ i
place i n h = go (ltb i n) refl
  where
    go : (b : Bool) → ltb i n ≡ b → unwrap_or (cond b (Some i) None) n ≡ i
    go true e = refl
    go false e = omega (arith, ltb-false i n e)

searched : (l : ℕ) (xs : List ℕ) {r : Option ℕ}
    → r ≡ cond (ltb (position_or_len (λ x. eqb x l) xs) (length xs)) (Some (position_or_len (λ x. eqb x l) xs)) None
    → unwrap_or r (length xs) ≡ position l xs
searched l xs e =
    ap (λ (o : Option ℕ). unwrap_or o (length xs)) e
    ∙ place (position_or_len (λ x. eqb x l) xs) (length xs) (prefix_len-le-length (λ x. not (eqb x l)) xs)
    ∙ sym (is_position_or_len (position l) (λ x. eqb x l) refl (λ x ys. rw one-add) xs)

pub returns : goal.returns
unfolding index_of
returns c =
    let labels = c.labels-labels.result.now in
    c.unwrap_or.ensures
    ∙ searched c.args.label labels
    (position_from_yields_List (λ x. eqb x c.args.label) _ _ c.position-found.result c.position-found.ensures.ran (YieldsList-from_slice labels cc) (λ x b q k. search (rules, tests)))
    ∙ ap (position c.args.label) c.labels-labels.ensures
