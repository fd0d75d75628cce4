-- `bracket::product` meets its contract: by a factor that is nowhere below zero; by four roundings where both factors reach across zero; and
-- else by the ends that meet. Assumes nothing.
use mathlib.Core.Path.{refl, sym, ◌∙◌}
use Rattle.bracket.proofs.Signs.{over-across}
use Rattle.bracket.proofs.Same.{rounded-is}
use Rattle.bracket.proofs.Ends.{sign-of}
use Rattle.bracket.proofs.Meetings.{signs_across}
use Rattle.bracket.specs.Rules.{ends}
use Rattle.bracket.proofs.products.product.Goals as goal

pub returns-then-both_across : goal.returns-then-both_across
returns-then-both_across c =
    let k = c.args in
    let e = signs_across k.a.hi.neg k.b.hi.neg k.b.lo.neg k.a.lo.neg (sym c.both_across.ensures ∙ c.if-both_across.true) in
    c.across.ensures
    ∙ rounded-is k.v (over-across {A = ends k.a} {B = ends k.b} (sign-of k.a.lo e.3) (sign-of k.a.hi e.0) (sign-of k.b.lo e.2) (sign-of k.b.hi e.1)) refl refl

pub chosen-m-requires : goal.chosen-m-requires
chosen-m-requires c =
    let h = c.requires in
    (h.0, h.1, sym c.nowhere_below.ensures ∙ c.if-nowhere_below.false, sym c.both_across.ensures ∙ c.if-both_across.false)
