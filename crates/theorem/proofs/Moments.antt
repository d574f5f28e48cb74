-- Each sample of a journal: the nodes at the start of its run, its number in the run's block, and the inputs of that run. Assumes nothing.
use mathlib.Core.Path.{◌≡◌, refl, sym, ap, ◌∙◌}
use mathlib.Core.Logic.{◌⊎◌, inl, inr}
use mathlib.Core.Bool.{Bool, true, false, cond}
use mathlib.Core.List.{List, [], ◌∷◌, ◌++◌}
use Prim.Native.Nat.{ℕ, ◌+◌, ◌-◌, ◌≤◌, ◌<◌}
use native.Mathlib.Nat.{not-suc-le-zero}
use native.Mathlib.Omega.{arith}
use lib.Dec.{ltb}
use lib.ListN.{length, get_or, take, get_or-append}
use lib.Seq.{get_or-append-add, get_or-take, length-take-le}
use lib.Ieee.{Float, nan}
use borrow.Author.Tests.{ltb-true, ltb-false, le-leb, lt-leb}
use Rattle.node.specs.declared.Node.{Node}
use Rattle.mix.specs.Samples.{silence}
use Rattle.mix.specs.Mix.{patched}
use Rattle.plan.specs.Resolved.{Resolved}
use Rattle.input.specs.Input.{lookup}
use Rattle.theorem.specs.Journal.{Entry, setting, ran, total, Absent, Whole, carried}
use Rattle.theorem.proofs.Nodes.{nodes_after, nodes_set}

pub record Moment : Type 0 where
  pub nodes : List Node
  pub offset : ℕ
  pub input : ℕ → ℕ → List Float

abbrev pub moment : List Node → ℕ → (ℕ → ℕ → List Float) → Moment
moment ns k input = record { nodes = ns; offset = k; input = input }

-- a place past the first n of a list
pub later : (n : ℕ) (xs ys : List Float) (t : ℕ) → length xs ≡ n → n ≤ t → get_or (xs ++ ys) t nan ≡ get_or ys (t - n) nan
later n xs ys t e h =
    let q : t ≡ length xs + (t - n) = omega arith in
    rw q (get_or-append-add xs ys (t - n) nan ∙ ap (λ (k : ℕ). get_or ys k nan) (omega arith))

-- what Patch copies of a part that counts as absent, and of one that is whole
short : (n : ℕ) (part : List Float) (k : ℕ) → length part < n → patched n part k ≡ silence
unfolding patched
short n part k h = rw (lt-leb n (length part) h)

whole : (n : ℕ) (part : List Float) (k : ℕ) → n ≤ length part → patched n part k ≡ get_or part k nan
unfolding patched
whole n part k h = rw (le-leb n (length part) h)

module _ (n : ℕ) where
  module _ (steps : List Resolved) where
    abbrev pub moment_at : List Node → List Entry → ℕ → Moment
    moment_at ns [] t = moment ns t (λ i c. [])
    moment_at ns (setting id ramp values ∷ es) t = moment_at (nodes_set id ramp values ns) es t
    moment_at ns (ran directory samples output ∷ es) t =
        cond (ltb t n) (moment ns t (lookup directory samples)) (moment_at (nodes_after n steps ns) es (t - n))

    -- the sample of channel c of input i that is heard then
    abbrev pub heard : ℕ → ℕ → Moment → Float
    heard i c m = patched n (m.input i c) m.offset

    -- ---- an input that is absent in every run
    absent_heard : (i c : ℕ) (es : List Entry) (ns : List Node) (t : ℕ) → t < total n es → Absent n i c es → heard i c (moment_at ns es t) ≡ silence
    absent_heard i c [] ns t l h = absurd (not-suc-le-zero l)
    absent_heard i c (setting id ramp values ∷ es) ns t l h = absent_heard i c es (nodes_set id ramp values ns) t l h
    absent_heard i c (ran directory samples output ∷ es) ns t l h =
        go (ltb t n) refl (λ b. absent_heard i c es (nodes_after n steps ns) (t - n) (omega arith) h.1)
      where
        go : (r : Bool) → ltb t n ≡ r → (n ≤ t → heard i c (moment_at (nodes_after n steps ns) es (t - n)) ≡ silence)
            → heard i c (cond r (moment ns t (lookup directory samples)) (moment_at (nodes_after n steps ns) es (t - n))) ≡ silence
        go true e ih = short n (lookup directory samples i c) t h.0
        go false e ih = ih (ltb-false t n e)

    -- ---- an input that is whole in every run
    whole_heard : (i c : ℕ) (es : List Entry) (ns : List Node) (t : ℕ) → t < total n es → Whole n i c es
        → heard i c (moment_at ns es t) ≡ get_or (carried n i c es) t nan
    whole_heard i c [] ns t l h = absurd (not-suc-le-zero l)
    whole_heard i c (setting id ramp values ∷ es) ns t l h = whole_heard i c es (nodes_set id ramp values ns) t l h
    whole_heard i c (ran directory samples output ∷ es) ns t l h =
        go (ltb t n) refl (λ b. whole_heard i c es (nodes_after n steps ns) (t - n) (omega arith) h.1)
      where
        len : length (take n (lookup directory samples i c)) ≡ n
        len = length-take-le n (lookup directory samples i c) h.0

        go : (r : Bool) → ltb t n ≡ r → (n ≤ t → heard i c (moment_at (nodes_after n steps ns) es (t - n)) ≡ get_or (carried n i c es) (t - n) nan)
            → heard i c (cond r (moment ns t (lookup directory samples)) (moment_at (nodes_after n steps ns) es (t - n)))
            ≡ get_or (take n (lookup directory samples i c) ++ carried n i c es) t nan
        go true e ih =
            let k : t < n = ltb-true t n e in
            whole n (lookup directory samples i c) t h.0
            ∙ sym (get_or-take n (lookup directory samples i c) t nan k)
            ∙ sym (get_or-append (take n (lookup directory samples i c)) (carried n i c es) nan t (rw len k))
        go false e ih = let k = ltb-false t n e in ih k ∙ sym (later n (take n (lookup directory samples i c)) (carried n i c es) t len k)

-- channel c of input i carries equal samples in two journals, for blocks of a and of b
abbrev pub CarryEqual : (a b i c : ℕ) → List Entry → List Entry → Type 0
CarryEqual a b i c es₁ es₂ =
    (Absent a i c es₁ × Absent b i c es₂) ⊎ (Whole a i c es₁ × Whole b i c es₂ × (carried a i c es₁ ≡ carried b i c es₂))

-- and so it is heard alike at every sample
pub carried_heard : (a b : ℕ) (steps₁ steps₂ : List Resolved) (i c : ℕ) (es₁ es₂ : List Entry) (ns₁ ns₂ : List Node)
    → CarryEqual a b i c es₁ es₂ → (t : ℕ) → t < total a es₁ → t < total b es₂
    → heard a steps₁ i c (moment_at a steps₁ ns₁ es₁ t) ≡ heard b steps₂ i c (moment_at b steps₂ ns₂ es₂ t)
carried_heard a b steps₁ steps₂ i c es₁ es₂ ns₁ ns₂ (inl h) t l₁ l₂ =
    absent_heard a steps₁ i c es₁ ns₁ t l₁ h.0 ∙ sym (absent_heard b steps₂ i c es₂ ns₂ t l₂ h.1)
carried_heard a b steps₁ steps₂ i c es₁ es₂ ns₁ ns₂ (inr h) t l₁ l₂ =
    whole_heard a steps₁ i c es₁ ns₁ t l₁ h.0 ∙ ap (λ (l : List Float). get_or l t nan) h.2 ∙ sym (whole_heard b steps₂ i c es₂ ns₂ t l₂ h.1)
