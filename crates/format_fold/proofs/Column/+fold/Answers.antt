-- `format_fold::Column::fold` meets its contract: what a label turns into has a lower rank. Assumes nothing.
use mathlib.Core.Path.{◌≡◌, sym, subst}
use Prim.Native.Nat.{ℕ, ◌<◌, ◌≤◌}
use lib.Dec.{T}
use Rattle.format.specs.Formats.{channels, index_of}
use Rattle.format_fold.specs.declared.FoldGains.{FoldGains}
use Rattle.format_fold.specs.declared.Targets.{Targets}
use Rattle.format_fold.specs.Folds.{rank, folds_to}
use Rattle.format_fold.proofs.Ranks.{lowers, falls, into_lower, left_lower, right_lower, lacks_is}
use Rattle.format_fold.proofs.Column.+fold.Goals as goal

-- where the destination lacks the label, what it turns into has a rank below t
lowered : (t d l i n : ℕ) (g : FoldGains) (u : Targets) → rank d l ≡ t → l < 15 → d < 7 → i ≡ index_of d l → n ≡ channels d → n ≤ i → u ≡ folds_to g d l → T (lowers t d u)
lowered t d l i n g u e hl hd p q h k =
    subst (λ (m : ℕ). T (lowers m d u)) e
    (subst (λ (v : Targets). T (lowers (rank d l) d v)) (sym k) (falls d l hd hl g (lacks_is d l i n p q h)))

pub fold-requires : goal.fold-requires
fold-requires t c =
    let a = c.args in
    let v = c.in-One in
    let lower = lowered t a.self.dst a.label _ _ a.self.gains _ c.decreases c.requires a.self.fits.0 c.index-d.ensures c.channels.ensures c.if-d-channels.false c.folds_to.ensures in
    let p = into_lower t a.self.dst c.folds_to.result v.to v.by v.is lower in
    (p.1, p.0)

pub fold-first-requires : goal.fold-first-requires
fold-first-requires t c =
    let a = c.args in
    let v = c.in-Two in
    let lower = lowered t a.self.dst a.label _ _ a.self.gains _ c.decreases c.requires a.self.fits.0 c.index-d.ensures c.channels.ensures c.if-d-channels.false c.folds_to.ensures in
    let p = left_lower t a.self.dst c.folds_to.result v.l v.r v.by_l v.by_r v.is lower in
    (p.1, p.0)

pub fold-requires-in-Two : goal.fold-requires-in-Two
fold-requires-in-Two t c =
    let a = c.args in
    let v = c.in-Two in
    let lower = lowered t a.self.dst a.label _ _ a.self.gains _ c.decreases c.requires a.self.fits.0 c.index-d.ensures c.channels.ensures c.if-d-channels.false c.folds_to.ensures in
    let p = right_lower t a.self.dst c.folds_to.result v.l v.r v.by_l v.by_r v.is lower in
    (p.1, p.0)
