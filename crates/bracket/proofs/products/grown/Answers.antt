-- `bracket::products::grown` meets its contract: by a factor that is nowhere below zero each end is met by its own sign. Assumes nothing.
use mathlib.Core.Path.{refl, ◌∙◌}
use mathlib.Core.Bool.{false}
use Rattle.bracket.specs.Rules.{ends}
use Rattle.bracket.proofs.Signs.{over-times}
use Rattle.bracket.proofs.Same.{rounded-is}
use Rattle.bracket.proofs.Ends.{held-ordered, sign-of}
use Rattle.bracket.proofs.Meetings.{signs_above}
use Rattle.bracket.proofs.products.grown.Goals as goal

pub returns : goal.returns
returns c =
    let k = c.args in
    let h = c.requires in
    let a = k.a in
    (λ i. record { lo = c.least_grown-lo.ensures i; hi = c.greatest_grown-hi.ensures i })
    ∙ rounded-is k.v
    (over-times false a.lo.neg a.hi.neg (ends a) (ends k.b) (held-ordered h.0) (held-ordered h.1) (sign-of k.b.lo (signs_above k.b.lo.neg k.b.hi.neg h.2)) (sign-of a.lo refl) (sign-of a.hi refl))
    refl refl
