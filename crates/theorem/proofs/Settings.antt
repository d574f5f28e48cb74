-- Two journals with alike settings at the same samples, where no node ramps: they have the same nodes at each sample, whatever their blocks. What equal
-- lists of settings say entry by entry stands here too. Assumes nothing.
use mathlib.Core.Path.{◌≡◌, refl, sym, ap, ◌∙◌, subst}
use mathlib.Core.Bool.{Bool, true, false, cond}
use mathlib.Core.List.{List, [], ◌∷◌}
use Prim.Native.Nat.{ℕ, suc, ◌+◌, ◌-◌, ◌<◌}
use native.Mathlib.Omega.{arith}
use lib.Dec.{leb, ltb}
use lib.ListN.{length}
use borrow.Author.Tests.{ltb-true, ltb-false, le-leb, lt-leb}
use Rattle.node.specs.declared.Node.{Node}
use Rattle.plan.specs.Resolved.{Resolved}
use Rattle.input.specs.Input.{lookup}
use Rattle.theorem.specs.Journal.{Entry, setting, ran, Setting, settings_from, NoRampSet}
use Rattle.theorem.proofs.Nodes.{AtRest, nodes_after, nodes_rest, nodes_set, set_rest}
use Rattle.theorem.proofs.Moments.{Moment, moment, moment_at}

-- ---- two lists of settings that are equal

module _ (x y : Setting) (xs ys : List Setting) (e : x ∷ xs ≡ y ∷ ys) where
  pub heads : x ≡ y
  heads = cc

  pub tails : xs ≡ ys
  tails = cc

pub not_empty : (x : Setting) (xs : List Setting) → x ∷ xs ≡ [] → ⊥
not_empty x xs e = let z : suc (length xs) ≡ 0 = ap length e in omega arith

-- no setting of a journal stands before its start
pub none_earlier : (n : ℕ) (es : List Entry) (start : ℕ) (x : Setting) (xs : List Setting) → x.sample < start → x ∷ xs ≡ settings_from n start es → ⊥
none_earlier n [] start x xs h e = not_empty x xs e
none_earlier n (setting id ramp values ∷ es) start x xs h e =
    let q : x.sample ≡ start = ap (λ (s : Setting). s.sample) (heads x _ xs _ e) in
    omega arith
none_earlier n (ran directory samples output ∷ es) start x xs h e = none_earlier n es (start + n) x xs (omega arith) e

-- the nodes by a setting of the list
abbrev pub by : Setting → List Node → List Node
by s ns = nodes_set s.id s.ramp s.values ns

-- ---- no ramp: the nodes at sample t are made by the settings at t or before it, whatever the block

-- the settings at sample t or before it, in order
abbrev up_to : ℕ → List Setting → List Node → List Node
up_to t [] ns = ns
up_to t (s ∷ ss) ns = cond (leb s.sample t) (up_to t ss (by s ns)) ns

-- settings that stand later do nothing
none_yet : (n : ℕ) (es : List Entry) (start t : ℕ) (ns : List Node) → t < start → up_to t (settings_from n start es) ns ≡ ns
none_yet n [] start t ns h = refl
none_yet n (setting id ramp values ∷ es) start t ns h = rw (lt-leb start t h)
none_yet n (ran directory samples output ∷ es) start t ns h = none_yet n es (start + n) t ns (omega arith)

module _ (n : ℕ) (steps : List Resolved) where
  rested : (es : List Entry) (start : ℕ) (ns : List Node) (t : ℕ) → AtRest ns → NoRampSet es
      → ((moment_at n steps ns es t).nodes ≡ up_to (start + t) (settings_from n start es) ns) × AtRest (moment_at n steps ns es t).nodes
  rested [] start ns t r f = (refl, r)
  rested (setting id ramp values ∷ es) start ns t r f =
      let ih = rested es start (nodes_set id ramp values ns) t (set_rest id ramp values ns f.0 r) f.1 in
      (ih.0 ∙ rw (le-leb start (start + t) (omega arith)) refl, ih.1)
  rested (ran directory samples output ∷ es) start ns t r f =
      go (ltb t n) refl (rw (nodes_rest n steps ns r) (rested es (start + n) ns (t - n) r f))
    where
      rest : Moment
      rest = moment_at n steps (nodes_after n steps ns) es (t - n)

      go : (q : Bool) → ltb t n ≡ q → (rest.nodes ≡ up_to (start + n + (t - n)) (settings_from n (start + n) es) ns) × AtRest rest.nodes
          → ((cond q (moment ns t (lookup directory samples)) rest).nodes ≡ up_to (start + t) (settings_from n (start + n) es) ns)
          × AtRest (cond q (moment ns t (lookup directory samples)) rest).nodes
      go true e ih = let h = ltb-true t n e in (sym (none_yet n es (start + n) (start + t) ns (omega arith)), r)
      go false e ih = let h = ltb-false t n e in let z : start + n + (t - n) ≡ start + t = omega arith in (rw z at ih.0, ih.1)

-- ---- the two journals at sample t: the same nodes, none of which ramps
pub same_moment : (a b : ℕ) (steps₁ steps₂ : List Resolved) (es₁ es₂ : List Entry) (ns₁ ns₂ : List Node) (t : ℕ) → ns₁ ≡ ns₂
    → settings_from a 0 es₁ ≡ settings_from b 0 es₂ → AtRest ns₁ × NoRampSet es₁ × NoRampSet es₂
    → ((moment_at a steps₁ ns₁ es₁ t).nodes ≡ (moment_at b steps₂ ns₂ es₂ t).nodes) × AtRest (moment_at a steps₁ ns₁ es₁ t).nodes
same_moment a b steps₁ steps₂ es₁ es₂ ns₁ ns₂ t same e f =
    let r₁ = rested a steps₁ es₁ 0 ns₁ t f.0 f.1 in
    let r₂ = rested b steps₂ es₂ 0 ns₂ t (subst AtRest same f.0) f.2 in
    (r₁.0 ∙ ap (λ (l : List Setting). up_to (0 + t) l ns₁) e ∙ ap (up_to (0 + t) (settings_from b 0 es₂)) same ∙ sym r₂.0, r₁.1)
