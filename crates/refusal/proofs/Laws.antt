-- The ordered tests: what each one that holds, or does not, makes of the answer; what an answer says of the tests; and what a refusal keeps.
-- Assumes nothing.
use mathlib.Core.Path.{◌≡◌, refl, sym, ap, ◌∙◌}
use mathlib.Core.Bool.{Bool, true, false, true≢false}
use mathlib.Core.List.{List, [], ◌∷◌, ◌++◌}
use Rattle.refusal.specs.declared.Refusal.{Refusal}
use Rattle.std.specs.Prelude.{Ok, Err}
use Rattle.refusal.specs.Tests.{Answer, refusal, Test, first, outcome, area_after, NoneHolds, FirstHolds}

abbrev refusal_of : Test → Refusal
refusal_of t = refusal t.reason t.place

never : {X : Type 0} (r : Refusal) → ◌≡◌ {A = Answer} (Ok tt) (Err r) → X
never r e = let z : ◌≡◌ {A = Bool} true false = cc in absurd (true≢false z)

-- ---- one test
module _ (t : Test) (ts : List Test) (rest : Answer) where
  pub first_yes : t.holds ≡ true → first (t ∷ ts) rest ≡ Err (refusal_of t)
  first_yes e = rw e

  pub first_no : t.holds ≡ false → first (t ∷ ts) rest ≡ first ts rest
  first_no e = rw e

-- ---- a list of tests, and what comes after it
pub first_append : (ts us : List Test) (rest : Answer) → first (ts ++ us) rest ≡ first ts (first us rest)
first_append [] us rest = refl
first_append (t ∷ ts) us rest = rw (first_append ts us rest)

pub none_rest : (ts : List Test) (rest : Answer) → NoneHolds ts → first ts rest ≡ rest
none_rest [] rest n = refl
none_rest (t ∷ ts) rest n = first_no t ts rest n.0 ∙ none_rest ts rest n.1

-- of two lists, one after the other, no test holds where none holds of either
pub none_split : (ts us : List Test) → NoneHolds (ts ++ us) → NoneHolds ts × NoneHolds us
none_split [] us n = (tt, n)
none_split (t ∷ ts) us n = let k = none_split ts us n.1 in ((n.0, k.0), k.1)

pub none_join : (ts us : List Test) → NoneHolds ts → NoneHolds us → NoneHolds (ts ++ us)
none_join [] us n m = m
none_join (t ∷ ts) us n m = (n.0, none_join ts us n.1 m)

-- ---- accepted exactly where no test holds
pub accepted_none : (ts : List Test) (rest : Answer) → first ts rest ≡ Ok tt → NoneHolds ts × (rest ≡ Ok tt)
accepted_none [] rest e = (tt, e)
accepted_none (t ∷ ts) rest e = go t.holds refl (accepted_none ts rest)
  where
    go : (b : Bool) → t.holds ≡ b → (first ts rest ≡ Ok tt → NoneHolds ts × (rest ≡ Ok tt)) → NoneHolds (t ∷ ts) × (rest ≡ Ok tt)
    go true h ih = never (refusal_of t) (sym e ∙ first_yes t ts rest h)
    go false h ih = let k = ih (sym (first_no t ts rest h) ∙ e) in ((h, k.0), k.1)

pub none_accepted : (ts : List Test) → NoneHolds ts → first ts (Ok tt) ≡ Ok tt
none_accepted ts n = none_rest ts (Ok tt) n

-- ---- refused exactly by the first test that holds
pub refused_first : (ts : List Test) (r : Refusal) → first ts (Ok tt) ≡ Err r → FirstHolds ts r
refused_first [] r e = never r e
refused_first (t ∷ ts) r e = go t.holds refl (refused_first ts r)
  where
    same : (a b : Refusal) → ◌≡◌ {A = Answer} (Err a) (Err b) → a ≡ b
    same a b p = cc

    go : (b : Bool) → t.holds ≡ b → (first ts (Ok tt) ≡ Err r → FirstHolds ts r) → FirstHolds (t ∷ ts) r
    go true h ih =
        record { before = []; here = t; after = ts; split = refl; none = tt; holds = h; answer = same r (refusal_of t) (sym e ∙ first_yes t ts (Ok tt) h) }
    go false h ih =
        let f = ih (sym (first_no t ts (Ok tt) h) ∙ e) in
        record {
          before = t ∷ f.before;
          here = f.here;
          after = f.after;
          split = ap (λ (l : List Test). t ∷ l) f.split;
          none = (h, f.none);
          holds = f.holds;
          answer = f.answer;
        }

pub first_refused : (ts : List Test) (rest : Answer) (r : Refusal) → FirstHolds ts r → first ts rest ≡ Err r
first_refused ts rest r f =
    ap (λ (l : List Test). first l rest) f.split
    ∙ first_append f.before (f.here ∷ f.after) rest
    ∙ none_rest f.before (first (f.here ∷ f.after) rest) f.none
    ∙ first_yes f.here f.after rest f.holds
    ∙ ap Err (sym f.answer)

-- what refuses with nothing after it refuses whatever comes after
pub refused_rest : (ts : List Test) (rest : Answer) (r : Refusal) → first ts (Ok tt) ≡ Err r → first ts rest ≡ Err r
refused_rest ts rest r e = first_refused ts rest r (refused_first ts r e)

-- lists of tests that answer the same with nothing after them answer the same whatever comes after
pub first_same : (ts us : List Test) (rest : Answer) → first ts (Ok tt) ≡ first us (Ok tt) → first ts rest ≡ first us rest
first_same ts us rest e = go (first us (Ok tt)) refl
  where
    go : (a : Answer) → first us (Ok tt) ≡ a → first ts rest ≡ first us rest
    go (Ok _) q = none_rest ts rest (accepted_none ts (Ok tt) (e ∙ q)).0 ∙ sym (none_rest us rest (accepted_none us (Ok tt) q).0)
    go (Err r) q = refused_rest ts rest r (e ∙ q) ∙ sym (refused_rest us rest r q)

-- ---- what a call hands back, and its area
module _ {A : Type 0} (answer : Answer) (done : A) (refused : Refusal → A) where
  pub outcome_accepted : answer ≡ Ok tt → outcome answer done refused ≡ done
  outcome_accepted e = ap (λ (a : Answer). outcome a done refused) e

  pub outcome_refused : (r : Refusal) → answer ≡ Err r → outcome answer done refused ≡ refused r
  outcome_refused r e = ap (λ (a : Answer). outcome a done refused) e

module _ {A : Type 0} (answer : Answer) (new old : List A) where
  -- a refused call leaves its area as it was
  pub refused_keeps : (r : Refusal) → answer ≡ Err r → area_after answer new old ≡ old
  refused_keeps r e = outcome_refused answer new (λ _. old) r e

  -- the two ways out of a call that answers an `Answer` and was lent one area
  pub returned_refused : (r : Refusal) (q : Answer) → answer ≡ Err r → q ≡ Err r → (q ≡ answer) × (old ≡ area_after answer new old)
  returned_refused r q e p = (p ∙ sym e, sym (refused_keeps r e))

  pub returned_accepted : (last : List A) → answer ≡ Ok tt → last ≡ new → (Ok tt ≡ answer) × (last ≡ area_after answer new old)
  returned_accepted last e p = (sym e, p ∙ sym (outcome_accepted answer new (λ _. old) e))
